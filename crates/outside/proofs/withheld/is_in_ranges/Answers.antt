use Rattle.std.proofs.Common.{◌≡◌, ◌∙◌, ◌<◌, ℕ, List, arith, length, sym, subst, below_more}
use Rattle.std.specs.Prelude.{slice_index_or}
use Rattle.std.proofs.lemmas.List.{get_or_default}
use Rattle.dns_text.specs.declared.addr.Ip.{Ip}
use Rattle.system.specs.Ranges.{IsInRange}
use Rattle.system.specs.declared.range.AddressRange.{AddressRange}
use Rattle.outside.proofs.withheld.is_in_ranges.Goals as goal

-- The range at a place does not hold the address, whichever default reads it.
not_here : (ranges : List AddressRange) (ip : Ip) (k : ℕ) (other : AddressRange) → k < length ranges
    → (IsInRange (slice_index_or ranges k other) ip → ⊥) → (range : AddressRange) → slice_index_or ranges k range ≡ range → IsInRange range ip → ⊥
not_here ranges ip k other within not range at holds =
    not (subst (λ r. IsInRange r ip) (sym (get_or_default ranges k other range within ∙ at)) holds)

pub loop-range-preserved : goal.loop-range-preserved
loop-range-preserved c =
    below_more _ _ c.loop-range.invariant
    (not_here c.args.ranges.now c.args.ip.now c.loop-range.range-index _ c.loop-range-test.true (λ holds. let yes = c.if-holds.ensures.1 holds in let none : ⊥ = cc in none))

pub returns : goal.returns
returns c = (
  λ yes. let none : ⊥ = cc in absurd none,
  λ any. absurd (c.loop-range.invariant any.0 (omega arith) any.1 any.3 any.4),
)
