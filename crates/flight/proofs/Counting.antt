-- By how much exchanges are over their time.
use Rattle.std.proofs.Common.{◌≡◌, ◌<◌, ◌≤◌, ◌+◌, ℕ, List, [], ◌∷◌, ◌++◌, ap, inl, inr, arith}
use Rattle.std.specs.Prelude.{◌⊎◌, ◌-◌}

-- by how many milliseconds exchanges are over their time, together, and one more for each
abbrev pub time_over : ℕ → List ℕ → ℕ
time_over now [] = 0
time_over now (since ∷ begun) = (now + 1 - (since + 2000)) + time_over now begun

-- One that begins no earlier than now is not.
begun_now : (now later : ℕ) (begun : List ℕ) → now ≤ later → time_over now (begun ++ later ∷ []) ≡ time_over now begun
begun_now now later [] is = omega arith
begun_now now later (since ∷ begun) is = ap (λ (n : ℕ). (now + 1 - (since + 2000)) + n) (begun_now now later begun is)

-- Without the first, which was due, there is less, also where one begins now.
pub fewer_over : (now since : ℕ) (old rest : List ℕ) → old ≡ since ∷ rest → since + 2000 ≤ now → time_over now rest < time_over now old
fewer_over now since old rest is due = rw is (omega (arith, due))

pub fewer_over_then : (now since later : ℕ) (old rest new : List ℕ) → old ≡ since ∷ rest → since + 2000 ≤ now → now ≤ later → (new ≡ rest) ⊎ (new ≡ rest ++ later ∷ []) → time_over now new < time_over now old
fewer_over_then now since later old rest new is due past more =
    let fewer = fewer_over now since old rest is due in
    elim more [ inl same ↦ rw same fewer | inr one ↦ rw (one, begun_now now later rest past) fewer ]
