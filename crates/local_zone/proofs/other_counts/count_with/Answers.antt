use Rattle.std.proofs.Common.{ℕ, cond, ap, sym, ◌∙◌, arith}
use Rattle.named_list.specs.ListLaws.{length_filter}
use Rattle.named_list.specs.Turn.{other_of}
use Rattle.local_zone.specs.Change.{records_with}
use Rattle.local_zone.specs.Count.{counts_for, counts_there}
use Rattle.local_zone.proofs.OtherLaws.{count_with_is}
use Rattle.local_zone.proofs.other_counts.count_with.Goals as goal

pub returns-then-counts_new : goal.returns-then-counts_new
returns-then-counts_new c =
    let zones = other_of c.args.turn.now c.args.zones.now in
    let law = count_with_is c.args.new.now c.args.records.now (counts_there zones c.args.name.now) in
    let test = ap {B = ℕ} (λ b. cond b 1 0) (sym c.counts_new.ensures ∙ c.if-counts_new.true) in
    omega (
      arith,
      law,
      test,
      c.count_over-count.ensures,
      c.saturating_add.ensures,
      length_filter (counts_for zones c.args.name.now) (records_with c.args.new.now c.args.records.now),
      c.requires.few,
    )

pub returns : goal.returns
returns c =
    let zones = other_of c.args.turn.now c.args.zones.now in
    let law = count_with_is c.args.new.now c.args.records.now (counts_there zones c.args.name.now) in
    let test = ap {B = ℕ} (λ b. cond b 1 0) (sym c.counts_new.ensures ∙ c.if-counts_new.false) in
    omega (arith, law, test, c.count_over-count.ensures)
