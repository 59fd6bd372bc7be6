use Rattle.std.proofs.Common.{Bool, Vec, Global, length, sym, ap, ◌∙◌, arith}
use Rattle.shelf.specs.declared.ends.Ends.{Ends}
use Rattle.shelf.proofs.WinnerLaws.{alike}
use Rattle.shelf.proofs.EvenLaws.{by_evened, to_all}
use Rattle.shelf.proofs.ends.end_mixed.Goals as goal

pub returns-clause-evened : goal.returns-clause-evened
returns-clause-evened c = λ flags.
    let was = c.args.ends.now in
    let each = c.end_each.new.ends in
    let now : Ends = record { moments = each.moments; mixed = each.mixed; left = 0; lasts = each.lasts } in
    by_evened was now flags (alike each.lasts was.lasts c.end_each.ensures.same.1) (length was.moments) (omega arith)
    (c.end_each.ensures.moments flags ∙ sym (to_all (length was.moments) was.moments was.mixed.items (omega arith))) (ap (λ (v : Vec Bool Global). v.items) c.end_each.ensures.same.0)
