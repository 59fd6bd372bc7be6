use Rattle.std.proofs.Common.{ℕ, cond, ap, sym, ◌∙◌, arith}
use Rattle.named_list.specs.Turn.{other_of}
use Rattle.local_zone.specs.Count.{counts_there}
use Rattle.local_zone.proofs.OtherLaws.{count_before_is}
use Rattle.local_zone.proofs.other_counts.count_before.Goals as goal

pub returns-then-counts_added : goal.returns-then-counts_added
returns-then-counts_added c =
    let zones = other_of c.args.turn.now c.args.zones.now in
    let law = count_before_is c.args.added.now c.args.records.now c.requires.goes (counts_there zones c.args.name.now) in
    let test = ap {B = ℕ} (λ b. cond b 1 0) (sym c.counts_added.ensures ∙ c.if-counts_added.true) in
    omega (arith, law, test, c.count_over-count.ensures, c.saturating_sub.ensures)

pub returns : goal.returns
returns c =
    let zones = other_of c.args.turn.now c.args.zones.now in
    let law = count_before_is c.args.added.now c.args.records.now c.requires.goes (counts_there zones c.args.name.now) in
    let test = ap {B = ℕ} (λ b. cond b 1 0) (sym c.counts_added.ensures ∙ c.if-counts_added.false) in
    omega (arith, law, test, c.count_over-count.ensures)
