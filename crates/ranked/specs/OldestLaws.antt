-- The order of names by the seconds in which their finds end, and names that end alike: lemmas, which proofs in the crates above cite.
use Rattle.std.proofs.Common.{ℕ, ◌∙◌, refl, arith, inl, inr}
use Rattle.dns_name.specs.Labels.{Labels}
use Rattle.dns_name.specs.Order.{not_after_itself, not_after_then}
use Rattle.ranked.specs.Oldest.{EndsFirst, IsLastEnding, IsSooner, NoneEnds}

-- ---- seconds and names

-- of three, each sooner than the next, the first is sooner than the last
pub sooner_then : (a b c : ℕ) (k m n : Labels) → IsSooner a k b m → IsSooner b m c n → IsSooner a k c n
sooner_then a b c k m n (inl p) (inl q) = inl (omega arith)
sooner_then a b c k m n (inl p) (inr q) = inl (omega (arith, q.0))
sooner_then a b c k m n (inr p) (inl q) = inl (omega (arith, p.0))
sooner_then a b c k m n (inr p) (inr q) = inr (p.0 ∙ q.0, not_after_then k m n p.1 q.1)

-- each is as soon as itself
pub sooner_itself : (a : ℕ) (n : Labels) → IsSooner a n a n
sooner_itself a n = inr (refl, not_after_itself n)

-- ---- names that end alike have the same oldest

module _ (Ends Others : Labels → ℕ → Type 0) (there : (name : Labels) (end : ℕ) → Ends name end → Others name end) (back : (name : Labels) (end : ℕ) → Others name end → Ends name end) where
  last_alike : (name : Labels) (end : ℕ) → IsLastEnding Ends name end → IsLastEnding Others name end
  last_alike name end is = record { ending = there name end is.ending; last = λ other at. is.last other (back name other at) }

  last_back : (name : Labels) (end : ℕ) → IsLastEnding Others name end → IsLastEnding Ends name end
  last_back name end is = record { ending = back name end is.ending; last = λ other at. is.last other (there name other at) }

  pub oldest_alike : (name : Labels) → EndsFirst Ends name → EndsFirst Others name
  oldest_alike name is = record {
    end = is.end;
    own = last_alike name is.end is.own;
    first = λ other later at. is.first other later (last_back other later at);
  }

  pub none_alike : NoneEnds Ends → NoneEnds Others
  none_alike none name end is = none name end (back name end is)
