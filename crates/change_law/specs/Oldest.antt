-- The name to forget first: the one whose last find ends first, over each choice of the kept changes, the undone ones among them.
use Rattle.std.specs.Prelude.{◌≡◌, ◌≢◌, ◌<◌, ℕ, Bool, Option, Some, List, [], ◌∷◌}
use Rattle.std.specs.List.{AllByRecursion}
use Rattle.dns_name.specs.Labels.{Labels}
use Rattle.ranked.specs.declared.cell.Admitted.{Admitted}
use Rattle.ranked.specs.declared.find.Find.{Find}
use Rattle.ranked.specs.Cell.{end_of}
use Rattle.ranked.specs.Oldest.{EndsFirst, NoneEnds}
use Rattle.change_law.specs.declared.kept.KeptChange.{KeptChange}
use Rattle.change_law.specs.declared.kept.Standing.TheVariants.{Cleared}
use Rattle.change_law.specs.Choice.{IsChoice}
use Rattle.change_law.specs.Face.{Face, alive_at}

-- No kept change is cleared, and each has a ticket less than the later ones.
abbrev pub AreCurrent : {S : Type 0} → List (KeptChange S) → Type 0
AreCurrent [] = Unit {0}
AreCurrent (k ∷ later) = (k.standing ≢ Cleared) × AllByRecursion (λ other. k.ticket < other.ticket) later × AreCurrent later

-- By some choice of the kept changes, a cell of a name has a find that is alive at a moment, and its life ends in this second.
pub record IsEnding {W S T : Type 0} (table : S → Option ℕ) (face : W → List (KeptChange S) → (ℕ → Bool) → Face T)
    (world : W) (kept : List (KeptChange S)) (t : ℕ) (name : Labels) (end : ℕ) : Type 0 where
  pub chosen : ℕ → Bool
  pub choice : IsChoice table kept chosen
  pub kind : ℕ
  pub held : Admitted Find
  pub alive : alive_at t ((face world kept chosen).cell (record { owner = name; kind = kind })) ≡ Some held
  pub at : end_of held ≡ end

-- Whatever changes the world keeps: if a find of the name is alive at some moment, by some choice of them, this holds.
abbrev pub HoldsIfEnding : {W S T : Type 0} → (S → Option ℕ) → (W → List (KeptChange S) → Type 0) → (W → List (KeptChange S) → (ℕ → Bool) → Face T) →
    W → Labels → Type 0 → Type 0
HoldsIfEnding {S = S} table keeps face world name P =
    (kept : List (KeptChange S)) (t end : ℕ) → keeps world kept → IsEnding table face world kept t name end → P

-- Whatever changes the world keeps, this is the name to forget first at a moment.
abbrev pub IsOldestOf : {W S T : Type 0} → (S → Option ℕ) → (W → List (KeptChange S) → Type 0) → (W → List (KeptChange S) → (ℕ → Bool) → Face T) →
    W → ℕ → Labels → Type 0
IsOldestOf {S = S} table keeps face world t name =
    (kept : List (KeptChange S)) → keeps world kept → AreCurrent kept → EndsFirst (IsEnding table face world kept t) name

-- Whatever changes the world keeps, no name has a find that is alive at a moment.
abbrev pub HasNoneEnding : {W S T : Type 0} → (S → Option ℕ) → (W → List (KeptChange S) → Type 0) → (W → List (KeptChange S) → (ℕ → Bool) → Face T) →
    W → ℕ → Type 0
HasNoneEnding {S = S} table keeps face world t =
    (kept : List (KeptChange S)) → keeps world kept → AreCurrent kept → NoneEnds (IsEnding table face world kept t)
