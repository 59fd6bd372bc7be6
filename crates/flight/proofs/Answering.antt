-- What an answer tells a client may be told.
use Rattle.std.proofs.Common.{◌≤◌, ℕ, List, arith}
use Rattle.std.specs.Prelude.{Some, None}
use Rattle.dns_query.specs.declared.over.Over.{Over}
use Rattle.dns_query.specs.declared.over.Over.TheVariants.{Udp, Tcp}
use Rattle.dns_wire.specs.declared.server.query.Query.{Query}
use Rattle.dns_wire.specs.declared.server.query.Asked.TheVariants.{Good}
use Rattle.dns_wire.specs.Server.Asking.{AsksFor, IsGood, good}
use Rattle.iterate.specs.declared.answer.Answer.{Answer}
use Rattle.iterate.specs.declared.answer.Answer.TheVariants.{Reply as Replies, Silent}
use Rattle.clock.specs.Ticks.{Ticks}
use Rattle.replies.specs.Calls.{Calls}
use Rattle.replies.specs.Reply.{Tells, most_octets}
use Rattle.flight.specs.Flight.{Hears, Lands}
use Rattle.flight.specs.Told.{IsTold, answered, IsUntold, silent}

module _ {D C : Type 0} {calls : Calls D} {seen : D → ℕ} {hears : Hears} {ticks : Ticks C} {since port : ℕ} {over : Over} {m : List ℕ} {query : Query} where
  pub told_by : {out : List ℕ} → (answer : Answer) → AsksFor m (Good query) → Lands calls seen hears ticks since port query.question answer → Tells over m query answer (Some out)
      → IsTold calls seen hears ticks since port over m out
  told_by (Replies rcode aa aliases last authority) wanted lands tells = answered wanted lands tells
  told_by Silent wanted lands tells = absurd tells

module _ {D C : Type 0} {calls : Calls D} {seen : D → ℕ} {hears : Hears} {ticks : Ticks C} {since port : ℕ} {m : List ℕ} {query : Query} where
  pub untold_by : (over : Over) (answer : Answer) → AsksFor m (Good query) → Lands calls seen hears ticks since port query.question answer → Tells over m query answer None
      → IsUntold calls seen hears ticks since port m
  untold_by over (Replies rcode aa aliases last authority) wanted lands tells = absurd tells
  untold_by over Silent wanted lands tells = silent wanted lands

-- A header alone is short enough for any reply.
pub header_fits : (over : Over) → 12 ≤ most_octets over
header_fits Udp = omega arith
header_fits Tcp = omega arith

-- Octets that ask this query ask for an answer.
pub is_good : {m : List ℕ} {query : Query} → AsksFor m (Good query) → IsGood m
is_good (good {q = q} {after = after} standard question is of) = record { query = standard; q = q; after = after; question = question; answerable = is }
