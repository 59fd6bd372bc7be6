use Rattle.std.proofs.Common.{◌++◌, List, [], ◌∷◌, take, ap, sym, ◌∙◌, append_assoc, arith}
use Rattle.std.specs.Vec.Iter.{into_iter_items}
use Rattle.dns_text.specs.declared.record.Record.{Record}
use Rattle.local_zone.proofs.GapLaws.{step_front}
use Rattle.local_zone.proofs.passes.move_some.Goals as goal

pub loop-i-preserved : goal.loop-i-preserved
loop-i-preserved c =
    let xs : List Record = into_iter_items c.args.from.now in
    let step = step_front xs c.loop-i._i c.in-Some.item (into_iter_items c.next.new.self) (sym c.loop-i.invariant.from ∙ c.in-Some.ensures.cases.0) in
    record {
      to =
          c.push_reserved.ensures.items ∙ ap (λ (x : List Record). x ++ c.in-Some.item ∷ []) c.loop-i.invariant.to ∙ append_assoc c.args.to.now.items (take c.loop-i._i xs) (c.in-Some.item ∷ [])
          ∙ ap (λ (x : List Record). c.args.to.now.items ++ x) (sym step.0);
      from = sym step.1;
      room = omega (arith, c.in-Some.ensures.cases.1, c.push_reserved.ensures.len, c.loop-i.invariant.room);
      capacity = c.push_reserved.ensures.capacity ∙ c.loop-i.invariant.capacity;
    }
