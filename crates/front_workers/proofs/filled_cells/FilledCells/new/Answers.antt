use Rattle.std.proofs.Common.{◌≡◌, ◌∙◌, None, sym, refl, is_some, replicate}
use Rattle.front_workers.proofs.Filling.{none_counted, only_none, read_zero}
use Rattle.front_workers.specs.FilledCells.{is_of}
use Rattle.front_workers.specs.declared.filled_cells.TheConstants.{ZONE_COUNTERS}
use Rattle.front_workers.proofs.filled_cells.FilledCells.new.Goals as goal

pub returns : goal.returns
returns c = c.in_ok-from_elem.ensures.items_if_clones_equal (only_none _ (λ cell never. never))

pub invariant_of-result : goal.invariant_of-result
invariant_of-result c =
    let empty : c.in_ok-from_elem.field-0.items ≡ replicate c.args.count None = c.in_ok-from_elem.ensures.items_if_clones_equal (only_none _ (λ cell never. never)) in
    let zeros : c.in_ok-from_elem-2.field-0.items ≡ replicate ZONE_COUNTERS 0 = c.in_ok-from_elem-2.ensures.items_if_clones_equal (λ y same. same) in
    record {
      counters = c.in_ok-from_elem-2.ensures.len;
      all = sym (rw empty (none_counted is_some c.args.count refl));
      each = λ counter. rw (zeros, empty) (read_zero ZONE_COUNTERS counter ∙ sym (none_counted (is_of counter) c.args.count refl));
    }
