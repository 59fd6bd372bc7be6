-- A loop that reads so many of one kind.
use Rattle.std.proofs.Common.{◌≡◌, ℕ, suc, ◌+◌, ◌-◌, ◌<◌, ◌≤◌, List, [], ◌∷◌, ◌++◌, Result, Ok, Err, refl, subst, arith}
use Rattle.dns_wire.specs.declared.fault.WireFault.{WireFault}
use Rattle.dns_wire.specs.declared.fault.WireFault.TheVariants.{NoMemory}
use Rattle.dns_wire.specs.Fault.{Gives}
use Rattle.dns_name.specs.ResultLaws.{gives_then}
use Rattle.dns_wire.specs.Read.Section.{section_after}

module _ {A : Type 0} (read : ℕ → Result (A × ℕ) WireFault) (before : List A) (count i at : ℕ) where
  -- what the record of a definition makes of one that was read
  pub section_more : (x : A × ℕ) → i < count → read at ≡ Ok x → section_after read (before ++ x.0 ∷ []) (count - (i + 1)) x.1 ≡ section_after read before (count - i) at
  unfolding section_after
  section_more x less here =
      let k : count - i ≡ suc (count - (i + 1)) = omega arith in
      rw (k, here) refl

  pub section_fails : (fault : WireFault) (all : Result (List A × ℕ) WireFault) → i < count → Gives {A = A × ℕ} (Err fault) (read at) → section_after read before (count - i) at ≡ all → Gives {A = List A × ℕ} (Err fault) all
  unfolding section_after
  section_fails fault all less here told =
      let k : count - i ≡ suc (count - (i + 1)) = omega arith in
      subst (λ (said : Result (List A × ℕ) WireFault). Gives {A = List A × ℕ} (Err fault) said) told (rw k (gives_then NoMemory fault (read at) _ here))

  pub section_done : count ≤ i → section_after read before (count - i) at ≡ Ok (before, at)
  unfolding section_after
  section_done past =
      let k : count - i ≡ 0 = omega arith in
      rw k refl
