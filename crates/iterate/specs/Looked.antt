-- What a look was answered, as the code tells it.
use Rattle.std.specs.Prelude.{◌≡◌, false, Option, MatchOption}
use Rattle.dns_text.specs.declared.record.Question.{Question}
use Rattle.local_zone.specs.declared.local_answer.Local.TheVariants.{Data as LocalData}
use Rattle.ranked.specs.Body.{is_negative}
use Rattle.history.specs.declared.event.Ask.TheVariants.{Answer as Asked}
use Rattle.history.specs.declared.event.Reply.TheVariants.{Seen}
use Rattle.history.specs.declared.event.Seen.{Seen as SeenValue}
use Rattle.history.specs.declared.event.Seen.TheVariants.{Unknown as SeenUnknown, Held as SeenHeld, Local as SeenLocal}
use Rattle.iterate.specs.declared.answer.AnswerSet.{AnswerSet}
use Rattle.iterate.specs.declared.answer.AnswerSet.TheVariants.{Local as LocalTold}
use Rattle.iterate.specs.declared.finishing.Ending.{Ending}
use Rattle.iterate.specs.declared.lookup_reply.Looked.{Looked}
use Rattle.iterate.specs.declared.lookup_reply.Looked.TheVariants.{Unknown, Held, Local}
use Rattle.iterate.specs.declared.want.Input.{Input}
use Rattle.iterate.specs.declared.want.Input.TheVariants.{Reply}
use Rattle.iterate.specs.Shown.{EndsQuestion, IsLookReply}
use Rattle.iterate.specs.Told.{told_of}

-- what was seen
abbrev pub seen_of : Looked → SeenValue
seen_of Unknown = SeenUnknown
seen_of (Held shown) = SeenHeld shown.now
seen_of (Local answer) = SeenLocal answer.now

-- A look at the question was replied to, as it may be.
pub record IsReplied (question : Question) (input : Input) (seen : SeenValue) : Type 0 where
  pub replied : input ≡ Reply (Seen seen)
  pub lawful : IsLookReply (Asked question) (Seen seen)

-- Nothing was seen.
abbrev pub IsUnseen : Input → Type 0
IsUnseen (Reply (Seen seen)) = ⊥
IsUnseen input = Unit {0}

-- What was seen is this set.
abbrev pub IsSetSeen : SeenValue → AnswerSet → Type 0
IsSetSeen (SeenHeld shown) told = (is_negative shown.body.body ≡ false) × (told ≡ told_of shown)
IsSetSeen (SeenLocal (LocalData records)) told = told ≡ LocalTold records
IsSetSeen seen told = ⊥

-- The set that was seen, if it was one.
abbrev pub IsSetIn : SeenValue → Option AnswerSet → Type 0
IsSetIn seen found = MatchOption found ((told : AnswerSet) → ¬ (IsSetSeen seen told)) (IsSetSeen seen)

-- What was seen ends the question so.
abbrev pub EndsSo : Question → SeenValue → Ending → Type 0
EndsSo question seen ending = EndsQuestion question seen ending.rcode ending.last ending.authority
