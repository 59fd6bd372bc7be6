use Rattle.std.proofs.Common.{sym, arith}
use Rattle.std.proofs.lemmas.Bool.{eqb-true}
use Rattle.iterate.proofs.Coming.{no_frames}
use Rattle.iterate.proofs.concluding.conclude.Goals as goal

pub conclude_last-requires : goal.conclude_last-requires
conclude_last-requires g c = no_frames c.args.search (let e = eqb-true c.args.search.frames.len 0 (sym c.if-is_empty.ensures) in omega (arith, c.args.search.frames.ok.0))

pub returns-then-is_empty : goal.returns-then-is_empty
returns-then-is_empty g c = λ question log allowed h. c.conclude_last.ensures.goes c.args.port question log allowed h
