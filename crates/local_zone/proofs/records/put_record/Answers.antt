use Rattle.std.proofs.Common.{◌≡◌, List, map, ap, sym, subst, ◌∙◌}
use Rattle.dns_text.specs.declared.record.Record.{Record}
use Rattle.local_zone.specs.Added.{ttl_of, records_before}
use Rattle.local_zone.specs.Change.{retimed_by, records_with}
use Rattle.local_zone.specs.CountsBelow.{is_zoned, AreZoned}
use Rattle.local_zone.proofs.AddLaws.{retimed-with, back-with}
use Rattle.local_zone.proofs.CountsBelowLaws.{counted_retimed}
use Rattle.local_zone.proofs.records.put_record.Goals as goal

after : (c : goal.After-retime) → c.retime.new.self ≡ records_with c.args.new.now c.args.records.now
after c =
    c.retime.ensures ∙ (λ i. map (retimed_by (record (c.get-2.ensures i) { ttl = (c.get-3.ensures i).ttl })) (c.in_ok-is_new.ensures.ok i)) ∙ retimed-with c.args.new.now c.args.records.now

pub returns-clause-ok : goal.returns-clause-ok
returns-clause-ok c = after c

pub returns-clause-saved : goal.returns-clause-saved
returns-clause-saved c =
    let new : Record = c.args.new.now in
    let records : List Record = c.args.records.now in
    let ttl = c.ttl_of-ttl.result in
    let put = c.in_ok-is_new.is_new in
    ap (λ (x : List Record). records_before (record { said = c.in_ok-said.said; ttl = ttl; is_new = put }) x) (after c)
    ∙ ap (λ (s : Record). records_before (record { said = s; ttl = ttl; is_new = put }) (records_with new records)) c.in_ok-said.ensures
    ∙ back-with new ttl put records c.requires (c.ttl_of-ttl.ensures ∙ ap (λ (s : Record). ttl_of s records) c.get.ensures) c.in_ok-is_new.ensures.put

pub returns-clause-zoned : goal.returns-clause-zoned
returns-clause-zoned c h =
    let zones = c.args.zones.now in
    let after = c.put_last.new.zoned in
    subst (λ (rs : List Record). AreZoned zones rs after) (sym c.retime.ensures)
    (counted_retimed (is_zoned zones) c.put_last.new.records (record c.get-2.result.now { ttl = c.get-3.result.now.ttl }) after (c.in_ok-is_new.ensures.zoned h))
