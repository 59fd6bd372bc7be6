-- How the octets of a query are served.
use Rattle.std.specs.Prelude.{◌≡◌, ◌<◌, ℕ, Bool, Option, Some, None, List, length}
use Rattle.dns_query.specs.declared.over.Over.{Over}
use Rattle.dns_wire.specs.declared.server.query.Query.{Query}
use Rattle.dns_wire.specs.declared.server.query.Asked.TheVariants.{Drop, Fault, Good}
use Rattle.dns_wire.specs.Server.Asking.{AsksFor}
use Rattle.iterate.specs.declared.answer.Answer.{Answer}
use Rattle.iterate.specs.declared.answer.Answer.TheVariants.{Reply as Replies, Silent}
use Rattle.iterate.specs.declared.answer.Soa.{Soa}
use Rattle.iterate.specs.declared.answer.AnswerSet.{AnswerSet}
use Rattle.replies.specs.declared.limits.TheConstants.{MOST_DATAGRAM}
use Rattle.clock.specs.Ticks.{Ticks}
use Rattle.replies.specs.Calls.{Calls, Lent}
use Rattle.plain_workers.specs.Leads.{Asks, EndsInAnswer, BreaksOff}
use Rattle.replies.specs.Reply.{fault_octets, reply_told, Written}

-- Octets got this reply, or none: the desk, the exchange, the clock and the generator before, the reply, the same after. Only octets that are longer than any datagram that is read whole may be too dear to read: they get SERVFAIL (2).
pub data Serves {D X C : Type 0} (calls : Calls D) (asks : Asks X) (ticks : Ticks C) (port : ℕ) (over : Over) (m : List ℕ) (desk : D) (exchange : X) (lent : Lent C)
    : Option (List ℕ) → D → X → Lent C → Type 0 where
  dropped : AsksFor m Drop → Serves calls asks ticks port over m desk exchange lent None desk exchange lent
  faulty : {rcode : ℕ} {out : List ℕ} → AsksFor m (Fault rcode) → out ≡ fault_octets m rcode
      → Serves calls asks ticks port over m desk exchange lent (Some out) desk exchange lent
  too_dear : {out : List ℕ} → MOST_DATAGRAM < length m → ¬ (AsksFor m Drop) → out ≡ fault_octets m 2
      → Serves calls asks ticks port over m desk exchange lent (Some out) desk exchange lent
  silent : {query : Query} {d : D} {x : X} {l : Lent C} → AsksFor m (Good query) → EndsInAnswer calls asks ticks port query.question desk exchange lent Silent d x l
      → Serves calls asks ticks port over m desk exchange lent None d x l
  answered : {query : Query} {rcode : ℕ} {aa : Bool} {aliases : List AnswerSet} {last : Option AnswerSet} {authority : Option Soa} {out : List ℕ} {d : D} {x : X} {l : Lent C}
      → AsksFor m (Good query) → EndsInAnswer calls asks ticks port query.question desk exchange lent (Replies rcode aa aliases last authority) d x l
      → Written over m query (reply_told query rcode aa aliases last authority) out
      → Serves calls asks ticks port over m desk exchange lent (Some out) d x l

-- Octets got no reply, since no memory was left: the state before and after.
pub data IsUnserved {D X C : Type 0} (calls : Calls D) (asks : Asks X) (ticks : Ticks C) (port : ℕ) (m : List ℕ) (desk : D) (exchange : X) (lent : Lent C)
    : D → X → Lent C → Type 0 where
  unread : ¬ (AsksFor m Drop) → IsUnserved calls asks ticks port m desk exchange lent desk exchange lent
  broken_off : {query : Query} {d : D} {x : X} {l : Lent C} → AsksFor m (Good query) → BreaksOff calls asks ticks port query.question desk exchange lent d x l
      → IsUnserved calls asks ticks port m desk exchange lent d x l
  unwritten : {query : Query} {answer : Answer} {d : D} {x : X} {l : Lent C} → AsksFor m (Good query) → EndsInAnswer calls asks ticks port query.question desk exchange lent answer d x l
      → IsUnserved calls asks ticks port m desk exchange lent d x l
