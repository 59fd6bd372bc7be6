-- What a call leaves of a world and its journal.
use Rattle.std.specs.Prelude.{◌≡◌, ◌≤◌, ◌+◌, ◌-◌, ◌++◌, [], ℕ, Bool, List, Option, length, take}
use Rattle.dns_text.specs.declared.record.Question.{Question}
use Rattle.change_law.specs.declared.kept.KeptChange.{KeptChange}
use Rattle.change_law.specs.declared.world.World.{Ghosts}
use Rattle.change_law.specs.Choice.{IsPresent, cleared}
use Rattle.change_law.specs.Effect.{effect}
use Rattle.change_law.specs.Pairs.{AddsPairs}
use Rattle.change_law.specs.Row.{IsRefused, IsRowAfter, any, same_face, where_chosen}
use Rattle.undo_journal.specs.Journal.{AreChoicesBefore, Changes, IsChange, IsToldAfter, out_of_effect, settled_by, told_of}
use Rattle.undo_journal.specs.Needs.{HaveNeeds, IsNeededAfter}

-- ---- an undo or a redo

-- Only the standings of the kept changes have moved: each choice of them was a choice before and has the face that it had. They have their descriptions and their tables, and their undos need what they did.
pub record MovesStandings {W T S D : Type 0} (by : Ghosts W T S D) (world : W) (before : Changes S) (world' : W) (after : Changes S) : Type 0 where
  pub row : IsRowAfter by.table by.keeps by.face same_face any world before.kept world' after.kept
  pub choices : AreChoicesBefore by.table any before after
  pub told : told_of by.told after.kept ≡ told_of by.told before.kept
  pub tables : told_of by.table after.kept ≡ told_of by.table before.kept
  pub needs : HaveNeeds by.needs_memory by.needs_memory_after before after

-- The world refused the call and is as it was, and so is its journal.
abbrev pub ChangesNothing : {W T S D : Type 0} → Ghosts W T S D → W → Changes S → W → Changes S → Type 0
ChangesNothing by world before world' after =
    IsRefused by.table by.keeps by.face by.newest by.stored by.counts world world' × (after ≡ before)

-- ---- a new change

-- The journal takes the change, with its description and its table. Its undo may need memory only if the change removed something.
abbrev pub Takes : {W T S D : Type 0} → Ghosts W T S D → D → Option ℕ → (T → Bool) → W → Changes S → Changes S → ℕ → Type 0
Takes by said table removes world before after ticket =
    IsChange before ticket after × IsToldAfter by.told before ticket said after × IsToldAfter by.table before ticket table after
    × IsNeededAfter by.needs_memory by.needs_memory_after before ticket (removes (by.shown world).tables) after

-- A choice that agrees with the settled changes was one before, and has the face that it had, with the effect of the change if that is chosen.
abbrev pub ShowsChange : {W T S D : Type 0} → Ghosts W T S D → (T → T) → (Question → Bool) → W → Changes S → W → Changes S → ℕ → Type 0
ShowsChange by changed empties world before world' after ticket =
    IsRowAfter by.table by.keeps by.face (where_chosen ticket (effect changed empties)) (IsPresent (settled_by before)) world before.kept world' after.kept
    × AreChoicesBefore by.table (IsPresent (settled_by before)) before after

-- The world has no ticket past this one, stores no more cells, has the same limit, and counts no pair that it did not.
abbrev pub StoresNoMore : {W T S D : Type 0} → Ghosts W T S D → ℕ → W → W → Type 0
StoresNoMore by tickets before after =
    (by.newest after ≤ tickets) × (by.stored after ≤ by.stored before) × (by.limit after ≡ by.limit before) × AddsPairs by.counts [] before after

-- ---- changes that are settled

-- The world does not keep all of these changes at the front any more. Each choice with this property has the face that it had, whichever changes come behind.
abbrev pub SettlesFront : {W T S D : Type 0} → Ghosts W T S D → ((ℕ → Bool) → Type 0) → W → List (KeptChange S) → W → List (KeptChange S) → Type 0
SettlesFront {S = S} by P world kept world' left =
    (tail : List (KeptChange S)) → by.keeps world (kept ++ tail) → IsRowAfter by.table by.keeps by.face same_face P world (kept ++ tail) world' (left ++ tail)

-- The undone changes at the front are settled.
abbrev pub SettlesUndone : {W T S D : Type 0} → Ghosts W T S D → W → List (KeptChange S) → W → List (KeptChange S) → Type 0
SettlesUndone by world kept world' left = SettlesFront by (IsPresent (out_of_effect kept)) world (cleared kept) world' left

-- As many of the oldest changes at the front are settled as are too many, if one more is to fit the limit.
abbrev pub SettlesForOneMore : {W T S D : Type 0} → Ghosts W T S D → ℕ → W → List (KeptChange S) → W → List (KeptChange S) → Type 0
SettlesForOneMore by limit world kept world' left = SettlesFront by (IsPresent (take (length kept + 1 - limit) kept)) world kept world' left
