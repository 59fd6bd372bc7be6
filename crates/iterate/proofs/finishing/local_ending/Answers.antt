use Rattle.std.proofs.Common.{◌≡◌, List, Some, None, sym, subst}
use Rattle.std.specs.Option.{option_map}
use Rattle.dns_text.specs.declared.record.Record.{Record}
use Rattle.local_zone.specs.declared.local_answer.Local.{Local}
use Rattle.history.specs.declared.event.Seen.TheVariants.{Local as LocalSeen}
use Rattle.iterate.specs.declared.answer.Soa.TheVariants.{Local as LocalSoa}
use Rattle.iterate.specs.declared.answer.AnswerSet.TheVariants.{Local as LocalTold}
use Rattle.iterate.specs.Resolved.{IsBarred}
use Rattle.iterate.specs.Shown.{EndsQuestion, IsLocalFor}
use Rattle.iterate.proofs.finishing.local_ending.Goals as goal

pub returns-in_ok-copy_set-in-Data : goal.returns-in_ok-copy_set-in-Data
returns-in_ok-copy_set-in-Data c = λ question for_it.
    let told : c.in_ok-copy_set-in-Data.field-0 ≡ LocalTold c.in-Data.records = c.in_ok-copy_set-in-Data.ensures in
    let here = subst (λ (a : Local (List Record) Record). IsLocalFor question a) c.in-Data.is for_it in
    rw c.set_ending.ensures (rw told
    (subst (λ (a : Local (List Record) Record). EndsQuestion question (LocalSeen a) 0 (Some (LocalTold c.in-Data.records)) None) (sym c.in-Data.is) (EndsQuestion.local_set here)))

pub returns-in_ok-soa_local-in-NoData : goal.returns-in_ok-soa_local-in-NoData
returns-in_ok-soa_local-in-NoData c = λ question for_it.
    let soa : c.in_ok-soa_local-in-NoData.field-0 ≡ option_map LocalSoa c.in-NoData.soa = c.in_ok-soa_local-in-NoData.ensures in
    let here = subst (λ (a : Local (List Record) Record). IsLocalFor question a) c.in-NoData.is for_it in
    rw c.denial.ensures (rw soa
    (subst (λ (a : Local (List Record) Record). EndsQuestion question (LocalSeen a) 0 None (option_map LocalSoa c.in-NoData.soa)) (sym c.in-NoData.is) (EndsQuestion.local_no_data here)))

pub returns-in_ok-soa_local-in-NoName : goal.returns-in_ok-soa_local-in-NoName
returns-in_ok-soa_local-in-NoName c = λ question for_it.
    let soa : c.in_ok-soa_local-in-NoName.field-0 ≡ option_map LocalSoa c.in-NoName.soa = c.in_ok-soa_local-in-NoName.ensures in
    let here = subst (λ (a : Local (List Record) Record). IsLocalFor question a) c.in-NoName.is for_it in
    rw c.denial-in-NoName.ensures (rw soa
    (subst (λ (a : Local (List Record) Record). EndsQuestion question (LocalSeen a) 3 None (option_map LocalSoa c.in-NoName.soa)) (sym c.in-NoName.is) (EndsQuestion.local_no_name here)))

pub returns-in-Refuse : goal.returns-in-Refuse
returns-in-Refuse c = λ question for_it. subst (λ (a : Local (List Record) Record). IsBarred (LocalSeen a)) (sym c.in-Refuse.is) IsBarred.refused

pub returns-in-Drop : goal.returns-in-Drop
returns-in-Drop c = λ question for_it. subst (λ (a : Local (List Record) Record). IsBarred (LocalSeen a)) (sym c.in-Drop.is) IsBarred.dropped
