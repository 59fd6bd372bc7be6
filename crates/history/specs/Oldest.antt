-- The name to forget first: the one whose last find ends first, over each choice of the commands of the journal, the undone ones among them.
use Rattle.std.specs.Prelude.{◌≡◌, ◌≢◌, ℕ, Bool, true, Option, Some, None}
use Rattle.std.specs.List.{AllByRecursion}
use Rattle.dns_name.specs.Labels.{Labels}
use Rattle.ranked.specs.declared.cell.Admitted.{Admitted}
use Rattle.ranked.specs.declared.find.Find.{Find}
use Rattle.ranked.specs.Cell.{end_of, is_alive}
use Rattle.ranked.specs.Oldest.{EndsFirst, NoneEnds}
use Rattle.history.specs.Cells.{cell_by}
use Rattle.history.specs.History.{Past, is_unstruck, standing_with}
use Rattle.history.specs.Journal.{commands_of}

-- A cell of a name has a find that is alive at a moment, if these commands are in force, and its life ends in this second.
-- Of the commands of the journal any may be chosen, since cells hear of flushes alone. All others are as they stand.
pub record IsEnding (past : Past) (t : ℕ) (name : Labels) (end : ℕ) : Type 0 where
  pub chosen : ℕ → Bool
  pub others : (ticket : ℕ) → AllByRecursion (λ held. held.ticket ≢ ticket) (commands_of past) → chosen ticket ≡ is_unstruck past.marks ticket
  pub kind : ℕ
  pub held : Admitted Find
  pub cell : cell_by (record { owner = name; kind = kind }) (standing_with chosen past.log) ≡ Some held
  pub alive : is_alive held t ≡ true
  pub at : end_of held ≡ end

-- The name to forget first at a moment. There is none where no name has a find that is alive, whichever commands of the journal are in force.
abbrev pub IsOldest : Past → ℕ → Option Labels → Type 0
IsOldest past t (Some name) = EndsFirst (IsEnding past t) name
IsOldest past t None = NoneEnds (IsEnding past t)
