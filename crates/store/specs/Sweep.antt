-- What a turn of a sweep takes from what is left to do, and what is left at two moments.
use Rattle.std.proofs.Common.{◌≤◌, ℕ, arith}
use Rattle.std.proofs.lemmas.Bool.Decides.{nat_tests}
use Rattle.std.proofs.lemmas.List.Sums.{sum_by-le-sum_by}
use Rattle.shelf.specs.Sweep.{asked_at, count_ended, one_ended, turn_at_most}
use Rattle.store.specs.World.{Shelved, unswept_in}

-- the most that a turn takes
abbrev pub turn_of_sweep : ℕ
turn_of_sweep = turn_at_most

ended_later : (a b end : ℕ) → a ≤ b → one_ended a end ≤ one_ended b end
ended_later a b end le = grind (arith, nat_tests)

-- At a later moment a sweep has no less to do.
pub unswept_later : (shelf : Shelved) (s t : ℕ) → s ≤ t → unswept_in shelf s ≤ unswept_in shelf t
unswept_later shelf s t le =
    let asked : asked_at s ≤ asked_at t = omega (arith, le) in
    let fewer : count_ended (asked_at s) shelf.moments ≤ count_ended (asked_at t) shelf.moments =
    sum_by-le-sum_by (one_ended (asked_at s)) (one_ended (asked_at t)) shelf.moments (λ end. ended_later (asked_at s) (asked_at t) end asked) in
    omega (arith, fewer)
