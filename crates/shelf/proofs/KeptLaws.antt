-- The oldest flush.
use Rattle.std.proofs.Common.{◌≡◌, ◌∙◌, ◌∷◌, [], ℕ, Bool, true, false, List, refl, sym, ap, arith}
use Rattle.std.specs.Prelude.{◌==◌, ◌&&◌, if◌then◌else◌}
use Rattle.shelf.specs.declared.shelf.KeptFlush.{KeptFlush}
use Rattle.shelf.specs.declared.settling.Settling.{Settling}
use Rattle.shelf.specs.Kept.{stands_first}
use Rattle.shelf.specs.Settling.{cleared_once, joined_by, settled_once}
use Rattle.shelf.specs.Told.{without}

left_true : (a b : Bool) → (a && b) ≡ true → a ≡ true
left_true true b e = refl
left_true false b e = absurd cc

number_of : (a b : ℕ) → (a == b) ≡ true → a ≡ b
number_of a b e = grind (arith, e)

-- The kept flushes without the oldest are those without its number.
pub oldest_kept : (number : ℕ) (olds news : List KeptFlush) → stands_first number olds ≡ true → ((own : KeptFlush) (later : List KeptFlush) → olds ≡ own ∷ later → news ≡ later) → news ≡ without number olds
oldest_kept number [] news e kept = absurd cc
oldest_kept number (own ∷ later) news e kept =
    kept own later refl ∙ ap (λ (b : Bool). if b then later else own ∷ without number later) (sym (left_true (own.number == number) own.shown e))

-- A choice with its number is one with the oldest.
pub oldest_same : {X : (ℕ → Bool) → Type 0} (number : ℕ) (olds : List KeptFlush) (chosen : ℕ → Bool) → stands_first number olds ≡ true → chosen number ≡ stands_first number olds →
    ((own : KeptFlush) (later : List KeptFlush) (choice : ℕ → Bool) → olds ≡ own ∷ later → choice own.number ≡ true → X choice) → X chosen
oldest_same number [] chosen e c same = absurd cc
oldest_same number (own ∷ later) chosen e c same =
    same own later chosen refl (ap chosen (number_of own.number number (left_true (own.number == number) own.shown e)) ∙ (c ∙ e))

-- If the oldest has its number and is in force, it is permanent.
pub oldest_settled : (number names : ℕ) (olds : List KeptFlush) (was now : List Settling) → stands_first number olds ≡ true
    → ((own : KeptFlush) (later : List KeptFlush) → olds ≡ own ∷ later → now ≡ joined_by own.flush.reach own.flush.name own.number names was) → now ≡ settled_once number names olds was
oldest_settled number names [] was now e step = absurd cc
oldest_settled number names (own ∷ later) was now e step =
    step own later refl ∙ ap (λ (b : Bool). if b then joined_by own.flush.reach own.flush.name own.number names was else cleared_once number names (own ∷ later) was) (sym e)

-- Else no flush joins the permanent ones.
pub cleared_settled : (number names : ℕ) (olds : List KeptFlush) (was : List Settling) → stands_first number olds ≡ false → cleared_once number names olds was ≡ settled_once number names olds was
cleared_settled number names [] was e = refl
cleared_settled number names (own ∷ later) was e = ap (λ (b : Bool). if b then joined_by own.flush.reach own.flush.name own.number names was else cleared_once number names (own ∷ later) was) (sym e)
