-- What is held of a line tells what is heard of it.
use Rattle.std.proofs.Common.{◌≡◌, ℕ, ◌<◌, ◌≤◌, ◌+◌, ◌-◌, Bool, true, false, cond, List, [], ◌∷◌, ◌++◌, length, take, inl, inr, refl, sym, ◌∙◌, ap, arith, zero, suc, length-append}
use Rattle.std.proofs.lemmas.List.{take_all, length-take, take-append-le}
use Rattle.std.proofs.lemmas.Bool.{cases_lt}
use Rattle.std.specs.Io.BufRead.{ends_with_byte}
use Rattle.streams.specs.declared.held_line.TheConstants.{MOST_HELD}
use Rattle.streams.specs.Split.{without_return, held_of, IsLineHeard}

-- What is held does not tell more than what is held of it.
pub held-again : (begun : List ℕ) (octet : ℕ) → held_of (held_of begun ++ octet ∷ []) ≡ held_of (begun ++ octet ∷ [])
held-again begun octet = elim (cases_lt MOST_HELD (length begun)) [
  | inl p ↦
      let held = take MOST_HELD begun in
      let n : length held ≡ MOST_HELD = omega (arith, p, length-take MOST_HELD begun) in
      take-append-le MOST_HELD held (octet ∷ []) (omega (arith, n)) ∙ take_all MOST_HELD held (omega (arith, n)) ∙ sym (take-append-le MOST_HELD begun (octet ∷ []) (omega (arith, p)))
  | inr p ↦ ap (λ (l : List ℕ). held_of (l ++ octet ∷ [])) (take_all MOST_HELD begun p)
]

-- one octet more is held
pub held-more : (held : List ℕ) (octet : ℕ) → length held < MOST_HELD → held ++ octet ∷ [] ≡ held_of (held ++ octet ∷ [])
held-more held octet few = sym (take_all MOST_HELD (held ++ octet ∷ []) (omega (arith, few, length-append held (octet ∷ []))))

-- no more is held
pub held-full : (held : List ℕ) (octet : ℕ) → length held ≡ MOST_HELD → held ≡ held_of (held ++ octet ∷ [])
held-full held octet full = sym (take-append-le MOST_HELD held (octet ∷ []) (omega (arith, full)) ∙ take_all MOST_HELD held (omega (arith, full)))

first-take : (n : ℕ) (xs : List ℕ) → 0 < n → take 1 (take n xs) ≡ take 1 xs
first-take zero xs p = absurd (omega (arith, p))
first-take (suc n) [] p = refl
first-take (suc n) (x ∷ xs) p = refl

pub heard-held : (held begun : List ℕ) → held ≡ held_of begun → IsLineHeard held begun
heard-held held begun is = elim (cases_lt MOST_HELD (length begun)) [
  | inl p ↦ inr (omega (arith, p, ap (λ (l : List ℕ). length l) is, length-take MOST_HELD begun), omega (arith, p), ap (λ (l : List ℕ). take 1 l) is ∙ first-take MOST_HELD begun (omega arith))
  | inr p ↦ inl (is ∙ take_all MOST_HELD begun p)
]

strip-length : (b : Bool) (xs : List ℕ) → length xs ≤ length (cond b (take (length xs - 1) xs) xs) + 1
strip-length true xs = omega (arith, length-take (length xs - 1) xs)
strip-length false xs = omega arith

strip-first : (b : Bool) (xs : List ℕ) → 1 < length xs → take 1 (cond b (take (length xs - 1) xs) xs) ≡ take 1 xs
strip-first true xs p = first-take (length xs - 1) xs (omega (arith, p))
strip-first false xs p = refl

pub heard-trimmed : (line held begun : List ℕ) → line ≡ without_return held → held ≡ held_of begun → IsLineHeard line (without_return begun)
heard-trimmed line held begun trim is = elim (cases_lt MOST_HELD (length begun)) [
  | inl p ↦
      let front = take MOST_HELD begun in
      let n : length front ≡ MOST_HELD = omega (arith, p, length-take MOST_HELD begun) in
      let e : line ≡ without_return front = trim ∙ ap (λ (l : List ℕ). without_return l) is in
      inr (
        omega (arith, ap (λ (l : List ℕ). length l) e, n, strip-length (ends_with_byte 13 front) front),
        omega (arith, p, strip-length (ends_with_byte 13 begun) begun),
        ap (λ (l : List ℕ). take 1 l) e ∙ strip-first (ends_with_byte 13 front) front (omega (arith, n)) ∙ first-take MOST_HELD begun (omega arith) ∙ sym (strip-first (ends_with_byte 13 begun) begun (omega (arith, p))),
      )
  | inr p ↦ inl (trim ∙ ap (λ (l : List ℕ). without_return l) (is ∙ take_all MOST_HELD begun p))
]
