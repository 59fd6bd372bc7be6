-- What tables show as a world, by its ghost members.
use Rattle.std.specs.Prelude.{◌≡◌, ℕ, Bool, None, List, []}
use Rattle.dns_text.specs.declared.record.Question.{Question}
use Rattle.dns_text.specs.declared.record.Record.{Record}
use Rattle.change_law.specs.declared.world.World.{Ghosts}
use Rattle.change_law.specs.Face.{IsSame}
use Rattle.change_law.specs.Turn.{HoldsOver}
use Rattle.history.specs.declared.tables.Tables.{Tables}
use Rattle.history.specs.Changes.{no_tables}
use Rattle.local_zone.specs.declared.local_answer.Local.{Local}
use Rattle.local_zone.specs.Answer.{local_of}

-- Whichever changes are chosen, a world that keeps none shows empty tables and no cell.
abbrev pub ShowsEmpty : {W S D : Type 0} → Ghosts W Tables S D → W → Type 0
ShowsEmpty by world = (chosen : ℕ → Bool) → IsSame (by.face world [] chosen) (record { tables = no_tables; cell = λ q. None })

-- This is the answer to the question on the other side of the change.
abbrev pub AnswersOver : {W S D : Type 0} → Ghosts W Tables S D → W → S → Question → Local (List Record) Record → Type 0
AnswersOver by world saved question answer =
    HoldsOver by.table by.keeps by.face world saved (λ face. answer ≡ local_of face.tables.local question)
