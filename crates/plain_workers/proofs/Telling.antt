-- A query is served by the reply that its answer gives.
use Rattle.std.proofs.Common.{ℕ, List}
use Rattle.std.specs.Prelude.{Option, Some, None}
use Rattle.dns_query.specs.declared.over.Over.{Over}
use Rattle.dns_wire.specs.declared.server.query.Query.{Query}
use Rattle.dns_wire.specs.declared.server.query.Asked.TheVariants.{Good}
use Rattle.dns_wire.specs.Server.Asking.{AsksFor}
use Rattle.iterate.specs.declared.answer.Answer.{Answer}
use Rattle.iterate.specs.declared.answer.Answer.TheVariants.{Reply as Replies, Silent}
use Rattle.clock.specs.Ticks.{Ticks}
use Rattle.replies.specs.Calls.{Calls, Lent}
use Rattle.plain_workers.specs.Leads.{Asks, EndsInAnswer}
use Rattle.plain_workers.specs.Serves.{Serves, silent, answered}
use Rattle.replies.specs.Reply.{Tells}

pub served_by : {D X C : Type 0} {calls : Calls D} {asks : Asks X} {ticks : Ticks C} {port : ℕ} {over : Over} {m : List ℕ} {query : Query} {desk d : D} {exchange x : X} {lent l : Lent C}
    → (answer : Answer) (reply : Option (List ℕ)) → AsksFor m (Good query) → EndsInAnswer calls asks ticks port query.question desk exchange lent answer d x l
    → Tells over m query answer reply → Serves calls asks ticks port over m desk exchange lent reply d x l
served_by (Replies rcode aa aliases last authority) (Some out) wanted ends tells = answered wanted ends tells
served_by (Replies rcode aa aliases last authority) None wanted ends tells = absurd tells
served_by Silent (Some out) wanted ends tells = absurd tells
served_by Silent None wanted ends tells = silent wanted ends
