use Rattle.std.proofs.Common.{◌≡◌, ◌<◌, length, arith}
use Rattle.shelf.proofs.GoneLaws.{first_again, right_aside, right_last}
use Rattle.shelf.proofs.lasts.mend_gap.Goals as goal

pub returns-then-place-len-clause-right : goal.returns-then-place-len-clause-right
returns-then-place-len-clause-right c =
    let old = c.args.winners.now.items in
    let at : c.args.place ≡ length old = omega (arith, c.if-place-len.true, c.len.ensures, c.args.winners.now.ok.0) in
    right_last c.args.owners.now.entries c.args.lasts.now old c.let_go.new.winners.items c.args.place at c.let_go.ensures.size c.let_go.ensures.come c.let_go.ensures.right

pub returns-clause-right : goal.returns-clause-right
returns-clause-right c = λ but i low.
    let entries = c.args.owners.now.entries in
    let lasts = c.args.lasts.now in
    let old = c.args.winners.now.items in
    let middle = c.move_into.new.winners.items in
    let new = c.let_go-2.new.winners.items in
    let place = c.args.place in
    let there : place < length old = omega (arith, c.requires.low, c.if-place-len.false, c.len.ensures, c.args.winners.now.ok.0) in
    let go = c.let_go-2.ensures in
    c.mend.ensures.right
    (first_again entries lasts old middle new place there c.requires.within but c.move_into.ensures.size c.move_into.ensures.moved go.size go.within go.come go.right) i (omega (arith, low, c.mend.ensures.size))
    (right_aside entries lasts old middle new place there c.requires.within but c.move_into.ensures.size c.move_into.ensures.moved go.size go.within go.come go.right i (omega (arith, low, c.mend.ensures.size)))
