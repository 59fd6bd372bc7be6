-- Octets that ask for something have a header.
use Rattle.std.proofs.Common.{◌<◌, ◌≤◌, ℕ, List, length, arith}
use Rattle.dns_wire.specs.declared.server.query.Query.{Query}
use Rattle.dns_wire.specs.declared.server.query.Asked.TheVariants.{Drop, Good}
use Rattle.dns_wire.specs.Server.Asking.{AsksFor, no_header, good}
use Rattle.clock.specs.Ticks.{Ticks}
use Rattle.replies.specs.Calls.{Calls, Lent}
use Rattle.plain_workers.specs.Leads.{Asks}
use Rattle.plain_workers.specs.Serves.{IsUnserved, unread, broken_off, unwritten}

answer_header : {m : List ℕ} {query : Query} → AsksFor m (Good query) → 12 ≤ length m
answer_header (good query question is of) = query.header

pub undropped_header : (m : List ℕ) → ¬ (AsksFor m Drop) → 12 ≤ length m
undropped_header m wanted = let short : ¬ (length m < 12) = λ is. wanted (no_header is) in omega arith

pub unserved_header : {D X C : Type 0} {calls : Calls D} {asks : Asks X} {ticks : Ticks C} {port : ℕ} {m : List ℕ} {desk d : D} {exchange x : X} {lent l : Lent C}
    → IsUnserved calls asks ticks port m desk exchange lent d x l → 12 ≤ length m
unserved_header {m = m} (unread wanted) = undropped_header m wanted
unserved_header (broken_off asks breaks) = answer_header asks
unserved_header (unwritten asks ends) = answer_header asks
