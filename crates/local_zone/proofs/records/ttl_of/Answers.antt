use Rattle.std.proofs.Common.{List, slice_get, ap, sym, ◌∙◌}
use Rattle.dns_text.specs.declared.record.Record.{Record}
use Rattle.local_zone.specs.Added.{ttl_or}
use Rattle.local_zone.specs.Tables.{is_of_set}
use Rattle.local_zone.proofs.SetLaws.{find_first}
use Rattle.local_zone.proofs.records.ttl_of.Goals as goal

pub returns-in-Some : goal.returns-in-Some
returns-in-Some c =
    c.ttl.ensures
    ∙ ap (ttl_or c.args.new.now) (c.in-Some.ensures.value ∙ ap (λ (rs : List Record). slice_get rs 0) c.set_of.ensures ∙ sym (find_first (λ (r : Record). is_of_set r c.args.new.now) c.args.records.now))

pub returns-in-None : goal.returns-in-None
returns-in-None c =
    ap (ttl_or c.args.new.now) (c.in-None.ensures.value ∙ ap (λ (rs : List Record). slice_get rs 0) c.set_of.ensures ∙ sym (find_first (λ (r : Record). is_of_set r c.args.new.now) c.args.records.now))
