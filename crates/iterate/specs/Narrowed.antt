-- What a lookup saw, narrowed to what is valid for it.
use Rattle.std.specs.Prelude.{◌≡◌, ℕ, Option, MatchOption}
use Rattle.dns_text.specs.declared.record.Question.{Question}
use Rattle.history.specs.declared.event.Ask.TheVariants.{Answer as Asked}
use Rattle.history.specs.declared.event.Event.TheVariants.{Look}
use Rattle.history.specs.declared.event.Reply.TheVariants.{Seen as SeenReply}
use Rattle.history.specs.declared.event.Seen.{Seen}
use Rattle.iterate.specs.declared.finishing.Ending.{Ending}
use Rattle.iterate.specs.declared.lookup_reply.Looked.{Looked}
use Rattle.iterate.specs.declared.want.Input.{Input}
use Rattle.iterate.specs.declared.want.Want.TheVariants.{Book}
use Rattle.iterate.specs.Looked.{EndsSo, IsReplied, seen_of}
use Rattle.iterate.specs.Phase.{Suits}
use Rattle.iterate.specs.Resolved.{IsBarred}
use Rattle.iterate.specs.Shown.{IsLookReply, IsMisanswered}

-- What a lookup of the question saw is found if it may be replied, and nothing else is.
abbrev pub NarrowsSeen : Question → Seen → Option Looked → Type 0
NarrowsSeen question seen found =
    MatchOption found (¬ (IsLookReply (Asked question) (SeenReply seen))) (λ what. (seen ≡ seen_of what) × IsLookReply (Asked question) (SeenReply (seen_of what)))

-- The same of what came of a lookup at any moment.
abbrev pub NarrowsReply : Question → Input → Option Looked → Type 0
NarrowsReply question input found =
    (m : ℕ) → Suits (Book (Look m (Asked question))) input
    → MatchOption found (IsMisanswered (Look m (Asked question)) input) (λ what. IsReplied question input (seen_of what))

-- What was seen ends the question so, or it ends the question behind an alias and answers nothing.
abbrev pub EndsOrBars : Question → Seen → Option Ending → Type 0
EndsOrBars question seen found = MatchOption found (IsBarred seen) (EndsSo question seen)
