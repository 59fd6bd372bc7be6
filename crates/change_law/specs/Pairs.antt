-- The pairs that a world counts. A pair is the owner and the scope of a find.
use Rattle.std.specs.Prelude.{◌≡◌, ◌&&◌, ◌||◌, ℕ, Bool, true, false, is_some, Option, Some, List}
use Rattle.std.specs.Set.{distinct_count, is_member}
use Rattle.dns_name.specs.Labels.{Labels}
use Rattle.dns_name.specs.Order.{name_eq}
use Rattle.dns_text.specs.declared.record.Question.{Question}
use Rattle.ranked.specs.declared.cell.Admitted.{Admitted}
use Rattle.ranked.specs.declared.find.Find.{Find}
use Rattle.ranked.specs.declared.find.Scope.{Scope}
use Rattle.ranked.specs.Equal.{scope_eq}
use Rattle.ranked.specs.Find.{has_kind}
use Rattle.change_law.specs.declared.kept.KeptChange.{KeptChange}
use Rattle.change_law.specs.Choice.{IsChoice}
use Rattle.change_law.specs.Face.{Face, alive_at}

-- the pair of a find: finds of one owner and scope share a place
abbrev pub pair_of : Find → Labels × Scope
pair_of find = (find.owner, find.scope)

-- whether two pairs are the same
abbrev pub pair_eq : Labels × Scope → Labels × Scope → Bool
pair_eq a b = name_eq a.0 b.0 && scope_eq a.1 b.1

-- the number of different pairs in a list
abbrev pub count_pairs : List (Labels × Scope) → ℕ
count_pairs pairs = distinct_count pair_eq pairs

-- Each pair that counts now did so before, or is one of these.
abbrev pub AddsPairs : {W : Type 0} → (W → (Labels × Scope) → Bool) → List (Labels × Scope) → W → W → Type 0
AddsPairs counts added before after = (pair : Labels × Scope) → counts after pair ≡ true → (is_member pair_eq added pair || counts before pair) ≡ true

-- Each pair that counts is one of these.
abbrev pub CountsAmong : {W : Type 0} → (W → (Labels × Scope) → Bool) → List (Labels × Scope) → W → Type 0
CountsAmong counts pairs world = (pair : Labels × Scope) → counts world pair ≡ true → is_member pair_eq pairs pair ≡ true

-- No pair of this owner counts.
abbrev pub CountsNoneOf : {W : Type 0} → (W → (Labels × Scope) → Bool) → Labels → W → Type 0
CountsNoneOf counts owner world = (pair : Labels × Scope) → name_eq owner pair.0 ≡ true → counts world pair ≡ false

-- By some choice of the kept changes, a cell has a find of this pair that is alive at a moment.
pub record IsAliveIn {W S T : Type 0} (table : S → Option ℕ) (face : W → List (KeptChange S) → (ℕ → Bool) → Face T)
    (world : W) (kept : List (KeptChange S)) (t : ℕ) (pair : Labels × Scope) : Type 0 where
  pub chosen : ℕ → Bool
  pub choice : IsChoice table kept chosen
  pub question : Question
  pub held : Admitted Find
  pub alive : alive_at t ((face world kept chosen).cell question) ≡ Some held
  pub same : pair_of held.body ≡ pair

-- Whatever changes the world keeps: if a find of the pair is alive, by some choice of them, this holds.
abbrev pub HoldsIfAlive : {W S T : Type 0} → (S → Option ℕ) → (W → List (KeptChange S) → Type 0) → (W → List (KeptChange S) → (ℕ → Bool) → Face T) →
    W → ℕ → Labels × Scope → Type 0 → Type 0
HoldsIfAlive {S = S} table keeps face world t pair P = (kept : List (KeptChange S)) → keeps world kept → IsAliveIn table face world kept t pair → P

-- whether a question is about a pair: it has the owner, and the type unless the pair is of the whole name
abbrev pub is_about : Labels × Scope → Question → Bool
is_about pair question = name_eq pair.0 question.owner && has_kind pair.1 question.kind

-- If, of the kept changes, only the chosen ones were in effect, a cell about this pair would have a find that is alive at a moment.
pub record IsNeeded {W S T : Type 0} (face : W → List (KeptChange S) → (ℕ → Bool) → Face T)
    (world : W) (kept : List (KeptChange S)) (t : ℕ) (pair : Labels × Scope) : Type 0 where
  pub chosen : ℕ → Bool
  pub question : Question
  pub about : is_about pair question ≡ true
  pub alive : is_some (alive_at t ((face world kept chosen).cell question)) ≡ true

-- Each pair that counts is needed at a moment.
abbrev pub AreNeeded : {W S T : Type 0} → (W → (Labels × Scope) → Bool) → (W → List (KeptChange S) → Type 0) → (W → List (KeptChange S) → (ℕ → Bool) → Face T) →
    ℕ → W → Type 0
AreNeeded {S = S} counts keeps face t world =
    (kept : List (KeptChange S)) → keeps world kept → (pair : Labels × Scope) → counts world pair ≡ true → IsNeeded face world kept t pair
