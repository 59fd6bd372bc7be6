-- What leaves for clients, one call after another.
use Rattle.std.proofs.Common.{◌≡◌, ◌+◌, ◌++◌, ℕ, List, [], ◌∷◌, refl, subst, length-append, arith}
use Rattle.flight.specs.Leaving.{AllLeave, End, Ends, Leaves}

module _ {O K : Type 0} {sends : K → List ℕ → Type 0} (posts : O → K → List ℕ → O → Type 0) where
  all_leave_then : (first second : List (End sends)) (old mid new : O) → AllLeave posts first old mid → AllLeave posts second mid new → AllLeave posts (first ++ second) old new
  all_leave_then [] second old mid new same rest = subst (λ (out : O). AllLeave posts second out new) same rest
  all_leave_then (end ∷ first) second old mid new left rest = (left.0, left.1, all_leave_then first second left.0 mid new left.2 rest)

  -- One leaves where nothing left before.
  pub one_left : (end : End sends) (old mid new : O) → mid ≡ old → Leaves posts end.client end.reply mid new → AllLeave posts (end ∷ []) old new
  one_left end old mid new same left = (new, subst (λ (out : O). Leaves posts end.client end.reply out new) same left, refl)

module _ {O K : Type 0} {sends : K → List ℕ → Type 0} {posts : O → K → List ℕ → O → Type 0} where
  -- None leaves.
  pub none_ends : {old new : O} (more waiting waiting' : ℕ) → new ≡ old → waiting' ≡ waiting + more → Ends sends posts more waiting old waiting' new
  none_ends more waiting waiting' same many = record { ends = []; left = same; count = omega (arith, many) }

  -- What leaves where nothing left before.
  pub ends_behind : {old mid new : O} {more waiting waiting' : ℕ} → mid ≡ old → Ends sends posts more waiting mid waiting' new → Ends sends posts more waiting old waiting' new
  ends_behind {new = new} {more = more} {waiting = waiting} {waiting' = waiting'} same ends = subst (λ (out : O). Ends sends posts more waiting out waiting' new) same ends

  -- So many clients came, or waited, one or the other.
  pub ends_of : {old new : O} {more waiting waiting' : ℕ} (more' before : ℕ) → before + more' ≡ waiting + more → Ends sends posts more waiting old waiting' new → Ends sends posts more' before old waiting' new
  ends_of more' before same ends = record { ends = ends.ends; left = ends.left; count = omega (arith, ends.count, same) }

  -- What leaves leaves in order.
  pub ends_then : {old mid new : O} {more more' waiting between waiting' : ℕ} → Ends sends posts more waiting old between mid → Ends sends posts more' between mid waiting' new
      → Ends sends posts (more + more') waiting old waiting' new
  ends_then {old = old} {mid = mid} {new = new} first second =
      record {
        ends = first.ends ++ second.ends;
        left = all_leave_then posts first.ends second.ends old mid new first.left second.left;
        count = omega (arith, length-append first.ends second.ends, first.count, second.count);
      }
