use Rattle.std.proofs.Common.{◌≡◌, ℕ, ◌-◌, ◌^◌, leb, sym, ◌∙◌, inl, inr, arith}
use Rattle.std.specs.Prelude.{min}
use Rattle.std.proofs.lemmas.Bool.Decides.{leb_tells}
use Rattle.harvest.proofs.choosing.is_small.Goals as goal

-- A number that stays at its last value is above a small one exactly if the number itself is.
same_test : (m r : ℕ) → r ≡ min m (2 ^ 64 - 1) → leb r 16384 ≡ leb m 16384
same_test m r e =
    elim (leb_tells r 16384) [
      | inl a ↦ elim (leb_tells m 16384) [ inl b ↦ a.0 ∙ sym b.0 | inr b ↦ absurd (omega (arith, e, a.1, b.1)) ]
      | inr a ↦ elim (leb_tells m 16384) [ inl b ↦ absurd (omega (arith, e, a.1, b.1)) | inr b ↦ a.0 ∙ sym b.0 ]
    ]

pub returns : goal.returns
returns c = same_test _ _ c.memory.ensures
