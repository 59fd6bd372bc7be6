-- Name servers over one transport, their hash, and questions to them.
use Rattle.std.specs.Prelude.{◌≡◌, ℕ, true, List, ◌∷◌}
use Rattle.std.proofs.Common.{ap}
use Rattle.std.specs.Hash as fed
use Rattle.dns_text.specs.declared.addr.Addr.{Addr}
use Rattle.dns_text.specs.declared.addr.Ip.{Ip}
use Rattle.dns_text.specs.declared.addr.Ip.TheVariants.{V4, V6}
use Rattle.dns_text.specs.Equal.{addr_eq}
use Rattle.dns_text.specs.EqualLaws.{addr_eq_exact}
use Rattle.dns_wire.specs.declared.server.query.Query.{Query}
use Rattle.dns_wire.specs.declared.server.query.Asked.TheVariants.{Good}
use Rattle.dns_wire.specs.Server.Asking.{AsksFor}
use Rattle.outside.specs.declared.server.Server.{Server}
use Rattle.outside.specs.declared.server.QuestionAt.{QuestionAt}

-- the octets of an IP address
abbrev pub ip_octets : Ip → List ℕ
ip_octets (V4 octets) = octets
ip_octets (V6 octets) = octets

-- what hashing a server writes: its IP address, then its port
abbrev pub server_hash : Server → List (List ℕ)
server_hash server = ip_octets server.addr.ip ∷ fed.u16 server.addr.port

-- servers at the same address and port have the same hash
pub server_hash_same : (x y : Server) → addr_eq x.addr y.addr ≡ true → server_hash x ≡ server_hash y
server_hash_same x y same = ap (λ (addr : Addr). ip_octets addr.ip ∷ fed.u16 addr.port) (addr_eq_exact x.addr y.addr same)

-- A query to a server has this question: a name and a type.
pub record IsQuestionAt (at : Server) (query : List ℕ) (question : QuestionAt) : Type 0 where
  pub asked : Query
  pub good : AsksFor query (Good asked)
  pub owner : question.owner ≡ asked.question.owner
  pub kind : question.kind ≡ asked.question.kind
  pub server : question.server ≡ at
