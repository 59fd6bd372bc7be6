-- What tests say: those joined by `and` and `or`, and those of numbers.
use Rattle.std.proofs.Common.{◌≡◌, ℕ, ◌<◌, ◌≤◌, Bool, true, false, Some, None, refl, sym, arith, ◌⊎◌, inl, inr}
use Rattle.std.specs.Prelude.{◌&&◌, ◌||◌, not, nat_le, nat_lt}
use Rattle.std.proofs.lemmas.Bool.{false≢true}
use Rattle.std.proofs.lemmas.Bool.Decides.{nat_tests}

pub either : (a b : Bool) → (a || b) ≡ true → (a ≡ true) ⊎ (b ≡ true)
either true b is = inl refl
either false b is = inr is

pub neither : (a b : Bool) → (a || b) ≡ false → (a ≡ false) × (b ≡ false)
neither true b is = absurd (false≢true (sym is))
neither false b is = (refl, is)

pub or_left : (a b : Bool) → a ≡ true → (a || b) ≡ true
or_left a b is = rw is refl

pub or_right : (a b : Bool) → b ≡ true → (a || b) ≡ true
or_right true b is = refl
or_right false b is = is

pub both : (a b : Bool) → a ≡ true → b ≡ true → (a && b) ≡ true
both a b p q = rw (p, q) refl

pub and_true : (a : Bool) → (a && true) ≡ a
and_true true = refl
and_true false = refl

pub and_false : (a : Bool) → (a && false) ≡ false
and_false true = refl
and_false false = refl

pub not_true : (b : Bool) → not b ≡ true → b ≡ false
not_true true is = absurd (false≢true is)
not_true false is = refl

pub not_false : (b : Bool) → not b ≡ false → b ≡ true
not_false true is = refl
not_false false is = absurd (false≢true (sym is))

pub some_is_none : {A : Type 0} (x : A) → Some x ≡ None → ⊥
some_is_none x is = cc

-- ---- numbers

pub le_of : (a b : ℕ) → nat_le a b ≡ true → a ≤ b
le_of a b is = grind (arith, nat_tests)

pub gt_of : (a b : ℕ) → nat_le a b ≡ false → b < a
gt_of a b is = grind (arith, nat_tests)

pub lt_of : (a b : ℕ) → nat_lt a b ≡ true → a < b
lt_of a b is = grind (arith, nat_tests)

pub ge_of : (a b : ℕ) → nat_lt a b ≡ false → b ≤ a
ge_of a b is = grind (arith, nat_tests)

pub yes_le : (a b : ℕ) → a ≤ b → nat_le a b ≡ true
yes_le a b low = grind (arith, nat_tests)

pub no_le : (a b : ℕ) → b < a → nat_le a b ≡ false
no_le a b late = grind (arith, nat_tests)

pub zero_le : (v : ℕ) → nat_le 0 v ≡ true
zero_le v = grind (arith, nat_tests)

pub not_past : (v upto : ℕ) → v ≤ upto → nat_lt upto v ≡ false
not_past v upto low = grind (arith, nat_tests)
