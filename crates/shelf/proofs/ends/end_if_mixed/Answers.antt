use Rattle.std.proofs.Common.{◌<◌, ◌≤◌, ◌+◌, ℕ, List, length, sym, ◌∙◌, subst, arith}
use Rattle.shelf.specs.Sweep.{count_ended}
use Rattle.shelf.proofs.EvenLaws.{mixed_read}
use Rattle.shelf.proofs.VisitLaws.{ended_fewer, ended_more}
use Rattle.shelf.proofs.ends.end_if_mixed.Goals as goal

pub returns-then-index-clause-near : goal.returns-then-index-clause-near
returns-then-index-clause-near c = λ t.
    let was = c.args.ends.now.moments in
    let low : c.args.place < length was = omega (arith, c.len.ensures, c.if-place-len.false) in
    let more = subst (λ (l : List ℕ). count_ended t l ≤ count_ended t was + 1) (sym c.set.ensures) (ended_more t was c.args.place 0 low) in
    let fewer = subst (λ (l : List ℕ). count_ended t was ≤ count_ended t l + 1) (sym c.set.ensures) (ended_fewer t was c.args.place 0 low) in
    (omega (arith, more), omega (arith, fewer))

pub returns-else-index-clause-moments : goal.returns-else-index-clause-moments
returns-else-index-clause-moments c = λ flags.
    let was = c.args.ends.now in
    let low : c.args.place < length was.moments = omega (arith, c.len.ensures, c.if-place-len.false) in
    mixed_read c.args.place was.moments was.mixed.items c.index.result.now flags low (sym c.index.ensures ∙ c.if-index.false)
