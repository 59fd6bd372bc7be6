-- The first lookup of a question, and what it settles.
use Rattle.std.specs.Prelude.{◌≡◌, ℕ, List, [], Option, Result, IfOk, MatchOption}
use Rattle.dns_text.specs.declared.record.Question.{Question}
use Rattle.dns_text.specs.declared.record.Record.{Record}
use Rattle.local_zone.specs.declared.local_answer.Local.{Local}
use Rattle.rand_core.specs.Stream.{Stream}
use Rattle.ranked.specs.declared.cell.Shown.{Shown}
use Rattle.ranked.specs.declared.find.Find.{Find}
use Rattle.history.specs.declared.event.Ask.TheVariants.{Answer as Asked}
use Rattle.history.specs.declared.event.Event.TheVariants.{Look}
use Rattle.history.specs.declared.event.Reply.TheVariants.{Seen as SeenReply}
use Rattle.history.specs.declared.event.Seen.{Seen}
use Rattle.history.specs.declared.event.Seen.TheVariants.{Unknown, Held, Local as LocalSeen}
use Rattle.iterate.specs.declared.answer.Answer.{Answer}
use Rattle.iterate.specs.declared.phase.Advance.{Advance}
use Rattle.iterate.specs.declared.phase.Phase.TheVariants.{First}
use Rattle.iterate.specs.declared.want.Input.{Input}
use Rattle.iterate.specs.declared.want.Input.TheVariants.{Reply}
use Rattle.iterate.specs.declared.want.Want.TheVariants.{Book}
use Rattle.iterate.specs.Exchanges.{AddsLook, Exchange}
use Rattle.iterate.specs.Looked.{IsReplied}
use Rattle.iterate.specs.Measure.{left_in}
use Rattle.iterate.specs.Phase.{Advances, Suits, idle}
use Rattle.iterate.specs.Resolved.{IsBarred, IsNoAnswer, IsResolved}
use Rattle.iterate.specs.Shown.{IsLocalFor, IsShownFor}

-- ---- an answer

-- A question that local zones refuse or drop is resolved by this answer.
abbrev pub ResolvesBarred : Local (List Record) Record → Answer → Type 0
ResolvesBarred local result =
    (port m : ℕ) (question : Question) (log : List Exchange) → IsBarred (LocalSeen local)
    → AddsLook [] m (Asked question) (Reply (SeenReply (LocalSeen local))) log → IsResolved port question log result

-- A question that local zones answer is resolved.
abbrev pub ResolvesLocal : {E : Type 0} → Local (List Record) Record → Result Answer E → Type 0
ResolvesLocal local result =
    (port m : ℕ) (question : Question) (log : List Exchange) → IsLocalFor question local
    → AddsLook [] m (Asked question) (Reply (SeenReply (LocalSeen local))) log → IfOk result (IsResolved port question log)

-- A question that a cached find answers is resolved.
abbrev pub ResolvesHeld : {E : Type 0} → Shown Find → Result Answer E → Type 0
ResolvesHeld shown result =
    (port m : ℕ) (question : Question) (log : List Exchange) → IsShownFor question shown
    → AddsLook [] m (Asked question) (Reply (SeenReply (Held shown))) log → IfOk result (IsResolved port question log)

-- A question of which the lookup saw this is resolved, unless the lookup found nothing.
abbrev pub ResolvesSeen : {E : Type 0} → Seen → Result (Option Answer) E → Type 0
ResolvesSeen seen result =
    (port m : ℕ) (question : Question) (input : Input) (log : List Exchange) → IsReplied question input seen
    → AddsLook [] m (Asked question) input log
    → IfOk result (λ answer. MatchOption answer (input ≡ Reply (SeenReply Unknown)) (IsResolved port question log))

-- What came of the first lookup of a question settles it with this answer, or is no answer to it.
abbrev pub IsSettledBy : {E : Type 0} → Question → Input → Result (Option Answer) E → Type 0
IsSettledBy question input result =
    (port m : ℕ) (log : List Exchange) → AddsLook [] m (Asked question) input log → Suits (Book (Look m (Asked question))) input
    → IfOk result (λ answer. MatchOption answer (IsNoAnswer question input) (IsResolved port question log))

-- ---- a step

-- The task goes on behind the lookup, which saw this.
abbrev pub GoesOnFirstSeeing : {E : Type 0} → Question → Seen → ℕ → Result Advance E → Type 0
GoesOnFirstSeeing question seen moment result =
    (port m : ℕ) (ids : Stream) (input : Input) (log : List Exchange) → IsReplied question input seen → AddsLook [] m (Asked question) input log
    → IfOk result (Advances port question log moment (idle ids) (left_in First))

-- The task goes on behind the lookup, whatever came of it.
abbrev pub GoesOnFirst : {E : Type 0} → Question → Input → ℕ → Result Advance E → Type 0
GoesOnFirst question input moment result =
    (port m : ℕ) (ids : Stream) (log : List Exchange) → AddsLook [] m (Asked question) input log → Suits (Book (Look m (Asked question))) input
    → IfOk result (Advances port question log moment (idle ids) (left_in First))
