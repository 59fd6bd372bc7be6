-- The reply to a client.
use Rattle.std.specs.Prelude.{◌≡◌, ◌≢◌, ◌⊎◌, ℕ, Option, Some, None, Bool, List}
use Rattle.dns_query.specs.declared.over.Over.{Over}
use Rattle.dns_wire.specs.declared.server.query.Query.{Query}
use Rattle.dns_wire.specs.declared.server.query.Asked.TheVariants.{Drop, Fault, Good}
use Rattle.dns_wire.specs.Server.Asking.{AsksFor}
use Rattle.iterate.specs.declared.answer.Answer.{Answer}
use Rattle.iterate.specs.declared.answer.Answer.TheVariants.{Reply as Replies, Silent}
use Rattle.iterate.specs.declared.answer.Soa.{Soa}
use Rattle.iterate.specs.declared.answer.AnswerSet.{AnswerSet}
use Rattle.clock.specs.Ticks.{Ticks}
use Rattle.replies.specs.Calls.{Calls}
use Rattle.replies.specs.Reply.{fault_octets, reply_told, Tells, Written}
use Rattle.flight.specs.declared.reply.ReplyOctets.{ReplyOctets}
use Rattle.flight.specs.declared.reply.ReplyOctets.TheVariants.{Header, Message}
use Rattle.flight.specs.declared.sockets.Listened.{Listened}
use Rattle.flight.specs.declared.sockets.Listened.TheVariants.{Anew, Came, Broken, NoMemory, Nothing}
use Rattle.flight.specs.declared.refused.HeardOrRefused.{HeardOrRefused}
use Rattle.flight.specs.declared.refused.HeardOrRefused.TheVariants.{Anew as HeardAnew, Came as HeardCame, Broken as HeardBroken, NoMemory as HeardNoMemory, Nothing as HeardNothing}
use Rattle.flight.specs.Flight.{Hears, Lands}

-- The octets of a client over this transport may get this reply: the one that reports their fault, or the one that spells an answer in which their question ended. Its task began when the desk knew of so many calls.
pub data IsTold {D C : Type 0} (calls : Calls D) (seen : D → ℕ) (hears : Hears) (ticks : Ticks C) (since port : ℕ) (over : Over) (m out : List ℕ) : Type 0 where
  faulty : {rcode : ℕ} → AsksFor m (Fault rcode) → out ≡ fault_octets m rcode → IsTold calls seen hears ticks since port over m out
  answered : {query : Query} {rcode : ℕ} {aa : Bool} {aliases : List AnswerSet} {last : Option AnswerSet} {authority : Option Soa}
      → AsksFor m (Good query) → Lands calls seen hears ticks since port query.question (Replies rcode aa aliases last authority)
      → Written over m query (reply_told query rcode aa aliases last authority) out
      → IsTold calls seen hears ticks since port over m out

-- The octets of this client may get this reply.
abbrev pub IsToldTo : {D C K : Type 0} → Calls D → (D → ℕ) → Hears → Ticks C → (K → ℕ) → (K → Over) → K → ℕ → List ℕ → List ℕ → Type 0
IsToldTo calls seen hears ticks since over client port m out = IsTold calls seen hears ticks (since client) port (over client) m out

-- The octets of a client are owed no reply: they ask for none, or their question ended in silence.
pub data IsUntold {D C : Type 0} (calls : Calls D) (seen : D → ℕ) (hears : Hears) (ticks : Ticks C) (since port : ℕ) (m : List ℕ) : Type 0 where
  dropped : AsksFor m Drop → IsUntold calls seen hears ticks since port m
  silent : {query : Query} → AsksFor m (Good query) → Lands calls seen hears ticks since port query.question Silent → IsUntold calls seen hears ticks since port m

-- what listening gave, without what was refused
abbrev pub listened_of : HeardOrRefused → Listened
listened_of HeardNothing = Nothing
listened_of (HeardCame octets) = Came octets
listened_of HeardBroken = Broken
listened_of (HeardNoMemory refused) = NoMemory
listened_of HeardAnew = Anew

-- If octets came, they may come. If the exchange broke, none may.
abbrev pub IsHeard : (Option (List ℕ) → Type 0) → Listened → Type 0
IsHeard may (Came octets) = may (Some octets)
IsHeard may Broken = may None
IsHeard may _ = Unit {0}

-- The same of an exchange that has ended: if nothing was heard of it, its time was up, and no octets may come. Nothing is said of one whose question begins anew.
abbrev pub IsOutcome : (Option (List ℕ) → Type 0) → Listened → Type 0
IsOutcome may (Came octets) = may (Some octets)
IsOutcome may NoMemory = Unit {0}
IsOutcome may Anew = Unit {0}
IsOutcome may _ = may None

-- An answer gives its question this reply over a transport. If there is no memory to write one, SERVFAIL goes out, but never for silence.
abbrev pub IsGiven : Over → List ℕ → Query → Answer → Option (List ℕ) → Type 0
IsGiven over m query answer reply = Tells over m query answer reply ⊎ ((answer ≢ Silent) × (reply ≡ Some (fault_octets m 2)))

-- The octets of a reply.
abbrev pub octets_of : ReplyOctets → List ℕ
octets_of (Header octets) = octets
octets_of (Message octets) = octets.items

-- Between two states of a worker's sockets the port of name servers is the same, and nothing leaves for clients.
pub record Keeps {W O : Type 0} (server_port : W → ℕ) (outbox : W → O) (old new : W) : Type 0 where
  pub port : server_port new ≡ server_port old
  pub silent : outbox new ≡ outbox old
