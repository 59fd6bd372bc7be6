-- What counts of a question while it waits: its age, and whose places it takes.
use Rattle.std.specs.Prelude.{◌≡◌, ℕ, List, take, reverse}
use Rattle.dns_name.specs.Labels.{Labels}
use Rattle.dns_wire.specs.declared.server.query.Query.{Query}
use Rattle.dns_wire.specs.declared.server.query.Asked.TheVariants.{Good}
use Rattle.dns_wire.specs.Server.Asking.{AsksFor}

-- the question for which an exchange is under way
pub record Origin : Type 0 where
  pub began : ℕ  -- the moment, in milliseconds, at which it began
  pub zone : Labels  -- the zone of its name
  pub network : ℕ  -- the network of its client

-- the zone of a name, by the name alone: its last two labels, or all of them if it has fewer
abbrev pub zone_of : Labels → Labels
zone_of name = reverse (take 2 (reverse name))

-- the question of a name that began at this moment, for a client of this network
abbrev pub origin_of : ℕ → Labels → ℕ → Origin
origin_of began name network = record { began = began; zone = zone_of name; network = network }

-- It is the question that these octets ask. It began at this moment, for a client of this network.
pub record IsOriginOf (octets : List ℕ) (began network : ℕ) (origin : Origin) : Type 0 where
  pub query : Query
  pub asks : AsksFor octets (Good query)
  pub is : origin ≡ origin_of began query.question.owner network
