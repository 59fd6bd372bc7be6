use Rattle.std.proofs.Common.{cond, sym, ap, ◌∙◌}
use Rattle.local_zone.specs.Count.{count_of}
use Rattle.local_zone.proofs.other_counts.count_dropped.Goals as goal

pub returns-then-lies_with : goal.returns-then-lies_with
returns-then-lies_with c zoned zone lies =
    sym (ap (λ b. cond b 0 (count_of c.args.zones.now c.args.name.now c.args.records.now)) (sym (c.lies_with.ensures zone lies) ∙ c.if-lies_with.true))

pub returns : goal.returns
returns c zoned zone lies =
    c.count_of.ensures c.args.zones.now zoned
    ∙ sym (ap (λ b. cond b 0 (count_of c.args.zones.now c.args.name.now c.args.records.now)) (sym (c.lies_with.ensures zone lies) ∙ c.if-lies_with.false))
