use Rattle.std.proofs.Common.{◌≡◌, ◌+◌, Bool, Vec, Global, length, ap, ◌∙◌, arith}
use Rattle.shelf.proofs.WinnerLaws.{alike}
use Rattle.shelf.proofs.EvenLaws.{by_swap}
use Rattle.shelf.proofs.ends.drop_at.Goals as goal

pub returns-clause-by : goal.returns-clause-by
returns-clause-by c =
    let was = c.args.ends.now in
    let mixed = c.swap_remove-2.new.self in
    let fewer : length mixed.items + 1 ≡ length was.mixed.items = omega (arith, c.swap_remove-2.ensures.len, was.mixed.ok.0, mixed.ok.0) in
    let same = c.clear_doubt.ensures.same in
    by_swap was c.clear_doubt.new.ends c.requires.flags (alike c.clear_doubt.new.ends.lasts was.lasts same.2) c.args.place c.swap_remove-2.result c.clear_doubt.ensures.left.0 c.requires.low (same.0 ∙ c.swap_remove.ensures)
    (ap (λ (v : Vec Bool Global). v.items) same.1 ∙ c.swap_remove-2.ensures.items) (omega (arith, fewer, ap (λ (v : Vec Bool Global). length v.items) same.1))

pub returns-clause-left : goal.returns-clause-left
returns-clause-left c = c.clear_doubt.ensures.left.1
