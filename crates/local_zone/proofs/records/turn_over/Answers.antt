use Rattle.std.proofs.Common.{List, ap, sym, subst, ◌∙◌}
use Rattle.std.specs.Prelude.{OnOk}
use Rattle.std.proofs.lemmas.Bool.{false≢true}
use Rattle.dns_text.specs.declared.record.Record.{Record}
use Rattle.local_zone.specs.declared.added.RecordTurn.{RecordTurn}
use Rattle.local_zone.specs.Added.{brings_back, records_need, records_need_after, records_other, takes_away, GoesBack, TurnsRecords}
use Rattle.local_zone.specs.Together.{MoveTogether}
use Rattle.local_zone.proofs.records.turn_over.Goals as goal

pub returns-in-Nothing-clause-turns : goal.returns-in-Nothing-clause-turns
returns-in-Nothing-clause-turns c =
    let records : List Record = c.args.records.now in
    record {
      other = ap (λ (turn : RecordTurn). records_other turn records) c.in-Nothing.ensures.value;
      goes = subst (λ (turn : RecordTurn). GoesBack turn records) (sym c.replace.ensures.after) tt;
      gives = ap (λ (turn : RecordTurn). records_other turn records) c.replace.ensures.after;
      turned = record {
        need = ap records_need c.replace.ensures.after ∙ ap records_need_after c.in-Nothing.ensures.value;
        need_after = ap records_need_after c.replace.ensures.after ∙ ap records_need c.in-Nothing.ensures.value;
        brings = ap brings_back c.replace.ensures.after ∙ ap takes_away c.in-Nothing.ensures.value;
        takes = ap takes_away c.replace.ensures.after ∙ ap brings_back c.in-Nothing.ensures.value;
      };
    }

pub returns-in-Added-clause-turns : goal.returns-in-Added-clause-turns
returns-in-Added-clause-turns c =
    subst (λ (turn : RecordTurn). TurnsRecords turn c.args.records.now c.take_added.result c.take_added.new.records) c.in-Added.ensures.value c.take_added.ensures.turns

pub returns-in-Adds-clause-turns : goal.returns-in-Adds-clause-turns
returns-in-Adds-clause-turns c =
    subst (λ (turn : RecordTurn). OnOk c.add_again.result (TurnsRecords turn c.args.records.now c.add_again.new.turn c.add_again.new.records)) c.in-Adds.ensures.value c.add_again.ensures.turns

pub returns-in-Removed-clause-turns : goal.returns-in-Removed-clause-turns
returns-in-Removed-clause-turns c =
    subst (λ (turn : RecordTurn). OnOk c.put_again.result (TurnsRecords turn c.args.records.now c.put_again.new.turn c.put_again.new.records)) c.in-Removed.ensures.value c.put_again.ensures.turns

pub returns-in-Removes-clause-turns : goal.returns-in-Removes-clause-turns
returns-in-Removes-clause-turns c =
    subst (λ (turn : RecordTurn). OnOk c.take_again.result (TurnsRecords turn c.args.records.now c.take_again.new.turn c.take_again.new.records)) c.in-Removes.ensures.value c.take_again.ensures.turns

pub returns-in-Adds-clause-free : goal.returns-in-Adds-clause-free
returns-in-Adds-clause-free c none = absurd (false≢true (sym none ∙ sym (ap records_need c.in-Adds.ensures.value)))

pub returns-in-Removed-clause-free : goal.returns-in-Removed-clause-free
returns-in-Removed-clause-free c none = absurd (false≢true (sym none ∙ sym (ap records_need c.in-Removed.ensures.value)))

pub returns-in-Removes-clause-free : goal.returns-in-Removes-clause-free
returns-in-Removes-clause-free c none = absurd (false≢true (sym none ∙ sym (ap records_need c.in-Removes.ensures.value)))

pub returns-in-Removed-clause-zoned : goal.returns-in-Removed-clause-zoned
returns-in-Removed-clause-zoned c it h = c.put_again.ensures.zoned (subst (λ (turn : RecordTurn). MoveTogether turn c.args.zones.now c.args.records.now) (sym c.in-Removed.ensures.value) it) h

pub returns-in-Removes-clause-zoned : goal.returns-in-Removes-clause-zoned
returns-in-Removes-clause-zoned c it h = c.take_again.ensures.zoned (subst (λ (turn : RecordTurn). MoveTogether turn c.args.zones.now c.args.records.now) (sym c.in-Removes.ensures.value) it) h
