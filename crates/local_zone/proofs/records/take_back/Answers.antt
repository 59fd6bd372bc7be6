use Rattle.std.proofs.Common.{ℕ, List, sym, subst}
use Rattle.dns_text.specs.declared.record.Record.{Record}
use Rattle.local_zone.specs.CountsBelow.{is_zoned, AreZoned}
use Rattle.local_zone.proofs.CountsBelowLaws.{counted_retimed}
use Rattle.local_zone.proofs.records.take_back.Goals as goal
use Rattle.local_zone.proofs.records.take_back.Goals.{then-added, else-added}

pub returns-clause-zoned : goal.returns-clause-zoned
returns-clause-zoned c h =
    let zones = c.args.zones.now in
    let records : List Record = c.if-added.records in
    let zoned : List (List ℕ × ℕ) = c.if-added.zoned in
    let counted : AreZoned zones records zoned = elim c.if-added.branch [
      | then-added w ↦ subst (λ (rs : List Record). AreZoned zones rs zoned) (sym w.records-is) (subst (λ (counts : List (List ℕ × ℕ)). AreZoned zones w.pop.new.records counts) (sym w.zoned-is) (w.pop.ensures.zoned h))
      | else-added w ↦ subst (λ (rs : List Record). AreZoned zones rs zoned) (sym w.records-is) (subst (λ (counts : List (List ℕ × ℕ)). AreZoned zones c.args.records.now counts) (sym w.zoned-is) h)
    ] in
    subst (λ (rs : List Record). AreZoned zones rs zoned) (sym c.retime.ensures) (counted_retimed (is_zoned zones) records (record c.get.result.now { ttl = c.args.added.now.ttl }) zoned counted)
