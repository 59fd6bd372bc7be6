-- The row of a world: its face for each choice of the changes that it keeps. `table`, `keeps` and `face` are the world's own.
use Rattle.std.specs.Prelude.{◌≡◌, ◌≢◌, ◌<◌, ◌≤◌, ◌+◌, ℕ, Bool, true, false, Option, List, [], ◌∷◌, ◌++◌, if◌then◌else◌}
use Rattle.std.proofs.Common.{refl, sym, subst}
use Rattle.std.specs.List.{AllByRecursion}
use Rattle.dns_name.specs.Labels.{Labels}
use Rattle.dns_text.specs.declared.record.Question.{Question}
use Rattle.ranked.specs.declared.find.Scope.{Scope}
use Rattle.change_law.specs.declared.kept.KeptChange.{KeptChange}
use Rattle.change_law.specs.declared.kept.Standing.{Standing}
use Rattle.change_law.specs.declared.kept.Standing.TheVariants.{Done, Cleared}
use Rattle.change_law.specs.Face.{Face, IsSame, IsSameAt}
use Rattle.change_law.specs.Choice.{Agree, IsChoice, IsClear, IsPresent, cleared, passed, turned}
use Rattle.change_law.specs.Pairs.{AddsPairs}

-- a kept change, by its ticket and the data that it saved
abbrev pub kept_as : {S : Type 0} → Standing → ℕ → S → KeptChange S
kept_as standing ticket saved = record { ticket = ticket; standing = standing; saved = saved }

-- the kept changes after one more, when nothing can be redone any more
abbrev pub with_change : {S : Type 0} → List (KeptChange S) → ℕ → S → List (KeptChange S)
with_change kept ticket saved = cleared kept ++ kept_as Done ticket saved ∷ []

-- The ticket is greater than those of the kept changes.
abbrev pub IsNext : {S : Type 0} → ℕ → List (KeptChange S) → Type 0
IsNext ticket kept = AllByRecursion (λ k. k.ticket < ticket) kept

-- The world keeps a change that stands so, and no other one of its table that its turn goes past does.
pub record IsTurnable {W S : Type 0} (table : S → Option ℕ) (keeps : W → List (KeptChange S) → Type 0) (from : Standing)
    (world : W) (earlier : List (KeptChange S)) (ticket : ℕ) (saved : S) (later : List (KeptChange S)) : Type 0 where
  pub live : from ≢ Cleared
  pub kept : keeps world (earlier ++ kept_as from ticket saved ∷ later)
  pub clear : IsClear table from saved (passed from earlier later)

-- The world keeps these changes now. For each choice of them with a property, the face is a function of the face before.
pub record IsRowAfter {W S T : Type 0} (table : S → Option ℕ) (keeps : W → List (KeptChange S) → Type 0) (face : W → List (KeptChange S) → (ℕ → Bool) → Face T)
    (made : (ℕ → Bool) → Face T → Face T) (P : (ℕ → Bool) → Type 0) (before : W) (kept : List (KeptChange S)) (after : W) (left : List (KeptChange S)) : Type 0 where
  pub keeps_left : keeps after left
  pub faces : (chosen : ℕ → Bool) → P chosen → IsChoice table left chosen → IsSame (face after left chosen) (made chosen (face before kept chosen))

-- Every choice.
abbrev pub any : (ℕ → Bool) → Type 0
any chosen = Unit {0}

-- the same face as before
abbrev pub same_face : {T : Type 0} → (ℕ → Bool) → Face T → Face T
same_face chosen face = face

-- the effect of a change on a face, if it is chosen
abbrev pub where_chosen : {T : Type 0} → ℕ → (Face T → Face T) → (ℕ → Bool) → Face T → Face T
where_chosen ticket effect chosen face = if chosen ticket then effect face else face

-- The world keeps the same changes, and each face is the same.
abbrev pub IsSameRow : {W S T : Type 0} → (S → Option ℕ) → (W → List (KeptChange S) → Type 0) → (W → List (KeptChange S) → (ℕ → Bool) → Face T) → W → W → Type 0
IsSameRow {S = S} table keeps face before after = (kept : List (KeptChange S)) → keeps before kept → IsRowAfter table keeps face same_face any before kept after kept

-- The world keeps the same changes, whichever they are. Each face is a function of the face before.
abbrev pub IsEachRow : {W S T : Type 0} → (S → Option ℕ) → (W → List (KeptChange S) → Type 0) → (W → List (KeptChange S) → (ℕ → Bool) → Face T) →
    (Face T → Face T) → W → W → Type 0
IsEachRow {S = S} table keeps face made before after =
    (kept : List (KeptChange S)) → keeps before kept → IsRowAfter table keeps face (λ chosen. made) any before kept after kept

-- An equal world has the same row: a lemma for implementors of the laws.
pub same_row : {W S T : Type 0} (table : S → Option ℕ) (keeps : W → List (KeptChange S) → Type 0) (face : W → List (KeptChange S) → (ℕ → Bool) → Face T) (before after : W) →
    after ≡ before → IsSameRow table keeps face before after
same_row {W} {S} {T} table keeps face before after e = λ kept h.
    subst (λ (w : W). IsRowAfter table keeps face same_face any before kept w kept) (sym e)
    (record { keeps_left = h; faces = λ chosen p choice. record { tables = refl; cell = λ q. refl } })

-- The world keeps the same changes. Each face is a function of the face before, as far as its content is alive at a moment.
pub record IsRowFrom {W S T : Type 0} (table : S → Option ℕ) (keeps : W → List (KeptChange S) → Type 0) (face : W → List (KeptChange S) → (ℕ → Bool) → Face T)
    (moment : ℕ) (made : Face T → Face T) (before : W) (kept : List (KeptChange S)) (after : W) : Type 0 where
  pub keeps_still : keeps after kept
  pub faces : (chosen : ℕ → Bool) → IsChoice table kept chosen → IsSameAt moment (face after kept chosen) (made (face before kept chosen))

-- The same, whatever the world keeps.
abbrev pub IsEachRowFrom : {W S T : Type 0} → (S → Option ℕ) → (W → List (KeptChange S) → Type 0) → (W → List (KeptChange S) → (ℕ → Bool) → Face T) →
    ℕ → (Face T → Face T) → W → W → Type 0
IsEachRowFrom {S = S} table keeps face moment made before after = (kept : List (KeptChange S)) → keeps before kept → IsRowFrom table keeps face moment made before kept after

-- The world keeps one more change, under a new ticket, and has cleared the undone ones. Each face is a function of the face before.
abbrev pub IsMade : {W S T : Type 0} → (S → Option ℕ) → (W → List (KeptChange S) → Type 0) → (W → List (KeptChange S) → (ℕ → Bool) → Face T) → (W → ℕ) →
    ((ℕ → Bool) → Face T → Face T) → ℕ → S → W → W → Type 0
IsMade {S = S} table keeps face newest made ticket saved before after =
    (kept : List (KeptChange S)) → keeps before kept → IsNext ticket kept → newest before < ticket → IsRowAfter table keeps face made any before kept after (with_change kept ticket saved)

-- Among the changes that the world keeps, this one can be turned.
abbrev pub CanTurn : {W S : Type 0} → (S → Option ℕ) → (W → List (KeptChange S) → Type 0) → Standing → W → S → Type 0
CanTurn {S = S} table keeps from world saved =
    (earlier : List (KeptChange S)) × ((ticket : ℕ) × ((later : List (KeptChange S)) × IsTurnable table keeps from world earlier ticket saved later))

-- The change stands the other way at its place among the kept ones, and each face is the same.
abbrev pub Turns : {W S T : Type 0} → (S → Option ℕ) → (W → List (KeptChange S) → Type 0) → (W → List (KeptChange S) → (ℕ → Bool) → Face T) → Standing → W → S → W → S → Type 0
Turns {S = S} table keeps face from before saved after left = (earlier : List (KeptChange S)) (ticket : ℕ) (later : List (KeptChange S)) → IsTurnable table keeps from before earlier ticket saved later →
    IsRowAfter table keeps face same_face any before (earlier ++ kept_as from ticket saved ∷ later) after (earlier ++ kept_as (turned from) ticket left ∷ later)

-- The world does not keep its oldest change any more. Each choice with it has the face that it had.
abbrev pub SettlesOldest : {W S T : Type 0} → (S → Option ℕ) → (W → List (KeptChange S) → Type 0) → (W → List (KeptChange S) → (ℕ → Bool) → Face T) → W → S → W → Type 0
SettlesOldest {S = S} table keeps face before saved after = (ticket : ℕ) (later : List (KeptChange S)) → keeps before (kept_as Done ticket saved ∷ later) →
    IsRowAfter table keeps face same_face (λ chosen. chosen ticket ≡ true) before (kept_as Done ticket saved ∷ later) after later

-- The world does not keep a cleared change any more. Each choice without it has the face that it had.
abbrev pub SettlesCleared : {W S T : Type 0} → (S → Option ℕ) → (W → List (KeptChange S) → Type 0) → (W → List (KeptChange S) → (ℕ → Bool) → Face T) → W → S → W → Type 0
SettlesCleared {S = S} table keeps face before saved after = (earlier : List (KeptChange S)) (ticket : ℕ) (later : List (KeptChange S)) →
    keeps before (earlier ++ kept_as Cleared ticket saved ∷ later) →
    IsRowAfter table keeps face same_face (λ chosen. chosen ticket ≡ false) before (earlier ++ kept_as Cleared ticket saved ∷ later) after (earlier ++ later)

-- The data that a change saved have the same table and the same description.
abbrev pub IsSameKind : {S D : Type 0} → (S → Option ℕ) → (S → D) → S → S → Type 0
IsSameKind table told before after = (table after ≡ table before) × (told after ≡ told before)

-- The step that was next needs after another step what it needed before it. That other step is next now.
abbrev pub IsTurned : {S : Type 0} → (S → Bool) → (S → Bool) → S → S → Type 0
IsTurned needs_memory needs_memory_after before after =
    (needs_memory after ≡ needs_memory_after before) × (needs_memory_after after ≡ needs_memory before)

-- The world has no newer ticket, stores no more cells, has the same limit, and counts no pair that it did not.
abbrev pub IsNoMore : {W : Type 0} → (W → ℕ) → (W → ℕ) → (W → ℕ) → (W → (Labels × Scope) → Bool) → W → W → Type 0
IsNoMore newest stored limit counts before after =
    (newest after ≤ newest before) × (stored after ≤ stored before) × (limit after ≡ limit before) × AddsPairs counts [] before after

-- The world has no newer ticket and the same limit. It may store one more cell, and count this pair beside those that it did.
abbrev pub IsOneMore : {W : Type 0} → (W → ℕ) → (W → ℕ) → (W → ℕ) → (W → (Labels × Scope) → Bool) → Labels × Scope → W → W → Type 0
IsOneMore newest stored limit counts pair before after =
    (newest after ≤ newest before) × (stored after ≤ stored before + 1) × (limit after ≡ limit before) × AddsPairs counts (pair ∷ []) before after

-- The world refused the call and is as it was: its faces, its tickets, its number of cells and the pairs that count.
abbrev pub IsRefused : {W S T : Type 0} → (S → Option ℕ) → (W → List (KeptChange S) → Type 0) → (W → List (KeptChange S) → (ℕ → Bool) → Face T) → (W → ℕ) → (W → ℕ) →
    (W → (Labels × Scope) → Bool) → W → W → Type 0
IsRefused table keeps face newest stored counts before after =
    IsSameRow table keeps face before after × (newest after ≤ newest before) × (stored after ≡ stored before) × AddsPairs counts [] before after

-- The world stores no more cells, has the same limit, and counts no pair that it did not.
abbrev pub StoresNoMoreCells : {W : Type 0} → (W → ℕ) → (W → ℕ) → (W → (Labels × Scope) → Bool) → W → W → Type 0
StoresNoMoreCells stored limit counts before after = (stored after ≤ stored before) × (limit after ≡ limit before) × AddsPairs counts [] before after

-- If the change removed nothing, its undo needs no memory.
abbrev pub NeedsNoneUnless : {S : Type 0} → Bool → (S → Bool) → S → Type 0
NeedsNoneUnless removed needs_memory saved = removed ≡ false → needs_memory saved ≡ false

-- ---- laws of a world

-- The face that the world shows is the one of the changes in effect.
abbrev pub ShowsPresent : {W S T : Type 0} → (W → List (KeptChange S) → Type 0) → (W → List (KeptChange S) → (ℕ → Bool) → Face T) → (W → Face T) → W → Type 0
ShowsPresent {S = S} keeps face shown world =
    (kept : List (KeptChange S)) (chosen : ℕ → Bool) → keeps world kept → IsPresent kept chosen → IsSame (face world kept chosen) (shown world)

-- The cells of a face depend only on which of the kept changes are chosen.
abbrev pub ReadsChosen : {W S T : Type 0} → (W → List (KeptChange S) → Type 0) → (W → List (KeptChange S) → (ℕ → Bool) → Face T) → W → Type 0
ReadsChosen {S = S} keeps face world =
    (kept : List (KeptChange S)) (chosen other : ℕ → Bool) → keeps world kept → Agree chosen other kept →
    (q : Question) → (face world kept chosen).cell q ≡ (face world kept other).cell q

-- The world as it is keeps the changes with the undone ones cleared, too. Each face is as before.
abbrev pub KeepsCleared : {W S T : Type 0} → (S → Option ℕ) → (W → List (KeptChange S) → Type 0) → (W → List (KeptChange S) → (ℕ → Bool) → Face T) → W → Type 0
KeepsCleared {S = S} table keeps face world =
    (kept : List (KeptChange S)) → keeps world kept → IsRowAfter table keeps face same_face any world kept world (cleared kept)
