use Rattle.std.proofs.Common.{arith, ◌≡◌, ◌∙◌, length, sym, ap}
use Rattle.std.specs.Prelude.{option_map}
use Rattle.undo_journal.specs.Journal.{Changes}
use Rattle.undo_journal.proofs.ReachLaws.{back_end, back_here, back_passed, last_can_be_undone, last_done}
use Rattle.undo_journal.proofs.journal.Journal.last_done.Goals as goal

pub returns-then-is_from_at-clause-some : goal.returns-then-is_from_at-clause-some
returns-then-is_from_at-clause-some g c =
    let kept = c.args.self.now.kept in
    let size : c.len-len.result ≡ length kept = c.len-len.ensures.len ∙ ap (λ (x : Changes _). length x.kept) c.self.view_is in
    let is = back_here kept c.len-len.result c.loop-back.back size c.is_from_at.result c.loop-back-test.true c.is_from_at.ensures c.if-is_from_at.true c.loop-back.invariant in (
      last_can_be_undone g.C.World.World.table kept _ is,
      ap (λ o. option_map (λ k. k.ticket) o) is.there ∙ sym (last_done kept _ is.here is.there is.done is.none),
    )

pub loop-back-preserved : goal.loop-back-preserved
loop-back-preserved g c =
    let size : c.len-len.result ≡ length c.args.self.now.kept = c.len-len.ensures.len ∙ ap (λ (x : Changes _). length x.kept) c.self.view_is in
    back_passed c.args.self.now.kept c.len-len.result c.loop-back.back size c.is_from_at.result c.loop-back-test.true c.is_from_at.ensures c.if-is_from_at.false c.loop-back.invariant

pub returns-clause-none : goal.returns-clause-none
returns-clause-none g c = back_end c.args.self.now.kept c.len-len.result c.loop-back.back (omega (arith, c.loop-back-test.false)) c.loop-back.invariant
