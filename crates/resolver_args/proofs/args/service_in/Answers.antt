use Rattle.std.proofs.Common.{rules, arith, codes, sym, subst, inl, inr}
use Rattle.std.specs.Prelude.{IfErr}
use Rattle.std.proofs.lemmas.Result.{IfErr-weaker}
use Rattle.std.proofs.lemmas.Result.{IfOk-weaker}
use Rattle.history.specs.Event.{AreSettings}
use Rattle.resolver_args.specs.Given.{LacksAddr, LacksEach, LacksNumber, LacksOption, rows_in}
use Rattle.resolver_args.specs.Ranges.{range_in}
use Rattle.resolver_args.specs.Says.{GivesService, LacksService, RefusedFor, RefusesService}
use Rattle.resolver_args.specs.declared.mode.Service.{Service}
use Rattle.resolver_args.proofs.Giving.{blames_service, for_reason, same_counts}
use Rattle.resolver_args.proofs.args.service_in.Goals as goal

pub returns-in_err-addr_in-clause-fault : goal.returns-in_err-addr_in-clause-fault
returns-in_err-addr_in-clause-fault c =
    let rows = rows_in c.args.found.now in
    let told : IfErr c.from_residual-in_err-addr_in.result (RefusedFor (LacksAddr (rows_in c.args.found.now) (codes "listen"))) = search rules in
    let leads : LacksAddr (rows_in c.args.found.now) (codes "listen") → LacksService (rows_in c.args.found.now) = λ lacks s given fits. lacks s.listen given.listen in
    IfErr-weaker c.from_residual-in_err-addr_in.result _ _ (λ fault why. inl (for_reason fault leads why)) told

pub returns-in_err-addr_in-2-clause-fault : goal.returns-in_err-addr_in-2-clause-fault
returns-in_err-addr_in-2-clause-fault c =
    let rows = rows_in c.args.found.now in
    let told : IfErr c.from_residual-in_err-addr_in-2.result (RefusedFor (LacksAddr (rows_in c.args.found.now) (codes "control"))) = search rules in
    let leads : LacksAddr (rows_in c.args.found.now) (codes "control") → LacksService (rows_in c.args.found.now) = λ lacks s given fits. lacks s.control given.control in
    IfErr-weaker c.from_residual-in_err-addr_in-2.result _ _ (λ fault why. inl (for_reason fault leads why)) told

pub returns-in_err-workers_in-clause-fault : goal.returns-in_err-workers_in-clause-fault
returns-in_err-workers_in-clause-fault c =
    let rows = rows_in c.args.found.now in
    let told : IfErr c.from_residual-in_err-workers_in.result (RefusedFor (LacksNumber 8 (rows_in c.args.found.now) (codes "udp"))) = search rules in
    let leads : LacksNumber 8 (rows_in c.args.found.now) (codes "udp") → LacksService (rows_in c.args.found.now) = λ lacks s given fits. let few = fits.1.few_workers in lacks s.udp (omega arith) given.udp in
    IfErr-weaker c.from_residual-in_err-workers_in.result _ _ (λ fault why. inl (for_reason fault leads why)) told

pub returns-in_err-workers_in-2-clause-fault : goal.returns-in_err-workers_in-2-clause-fault
returns-in_err-workers_in-2-clause-fault c =
    let rows = rows_in c.args.found.now in
    let told : IfErr c.from_residual-in_err-workers_in-2.result (RefusedFor (LacksNumber 8 (rows_in c.args.found.now) (codes "tcp"))) = search rules in
    let leads : LacksNumber 8 (rows_in c.args.found.now) (codes "tcp") → LacksService (rows_in c.args.found.now) = λ lacks s given fits. let few = fits.1.few_workers in lacks s.tcp (omega arith) given.tcp in
    IfErr-weaker c.from_residual-in_err-workers_in-2.result _ _ (λ fault why. inl (for_reason fault leads why)) told

pub returns-in_err-backlog_in-clause-fault : goal.returns-in_err-backlog_in-clause-fault
returns-in_err-backlog_in-clause-fault c =
    let rows = rows_in c.args.found.now in
    let told : IfErr c.from_residual-in_err-backlog_in.result (RefusedFor (LacksNumber 16 (rows_in c.args.found.now) (codes "backlog"))) = search rules in
    let leads : LacksNumber 16 (rows_in c.args.found.now) (codes "backlog") → LacksService (rows_in c.args.found.now) = λ lacks s given fits. let few = fits.1.few_waiting in lacks s.backlog (omega arith) given.backlog in
    IfErr-weaker c.from_residual-in_err-backlog_in.result _ _ (λ fault why. inl (for_reason fault leads why)) told

pub returns-in_err-count_in-clause-fault : goal.returns-in_err-count_in-clause-fault
returns-in_err-count_in-clause-fault c =
    let rows = rows_in c.args.found.now in
    let told : IfErr c.from_residual-in_err-count_in.result (RefusedFor (LacksNumber 32 (rows_in c.args.found.now) (codes "record"))) = search rules in
    let leads : LacksNumber 32 (rows_in c.args.found.now) (codes "record") → LacksService (rows_in c.args.found.now) = λ lacks s given fits. let few = fits.1.few_recorded in lacks s.record_limit (omega arith) given.record_limit in
    IfErr-weaker c.from_residual-in_err-count_in.result _ _ (λ fault why. inl (for_reason fault leads why)) told

pub returns-in_err-number_in-clause-fault : goal.returns-in_err-number_in-clause-fault
returns-in_err-number_in-clause-fault c =
    let rows = rows_in c.args.found.now in
    let told : IfErr c.from_residual-in_err-number_in.result (RefusedFor (LacksOption (rows_in c.args.found.now) (codes "seed"))) = search rules in
    let leads : LacksOption (rows_in c.args.found.now) (codes "seed") → LacksService (rows_in c.args.found.now) = λ lacks s given fits. lacks s.seed given.seed in
    IfErr-weaker c.from_residual-in_err-number_in.result _ _ (λ fault why. inl (for_reason fault leads why)) told

pub returns-in_err-ranges_in-clause-fault : goal.returns-in_err-ranges_in-clause-fault
returns-in_err-ranges_in-clause-fault c =
    let rows = rows_in c.args.found.now in
    let told : IfErr c.from_residual-in_err-ranges_in.result (RefusedFor (LacksEach range_in (rows_in c.args.found.now) (codes "do-not-query"))) = search rules in
    let leads : LacksEach range_in (rows_in c.args.found.now) (codes "do-not-query") → LacksService (rows_in c.args.found.now) = λ lacks s given fits. lacks s.do_not_query given.do_not_query in
    IfErr-weaker c.from_residual-in_err-ranges_in.result _ _ (λ fault why. inl (for_reason fault leads why)) told

abbrev made : goal.After-checked → Service
made c = record {
  settings = c.in_ok-settings_in.field-0;
  listen = c.in_ok-addr_in.field-0;
  control = c.in_ok-addr_in-2.field-0;
  udp = c.in_ok-workers_in.field-0;
  tcp = c.in_ok-workers_in-2.field-0;
  backlog = c.in_ok-backlog_in.field-0;
  record_limit = c.from.result;
  seed = c.in_ok-number_in.field-0;
  commands = c.in_ok-text_in.field-0;
  do_not_query = c.in_ok-ranges_in.field-0;
}

built : (c : goal.After-checked) → GivesService (rows_in c.args.found.now) (made c)
built c = record {
  settings = c.in_ok-settings_in.ensures.given;
  listen = c.in_ok-addr_in.ensures.given;
  control = c.in_ok-addr_in-2.ensures.given;
  udp = c.in_ok-workers_in.ensures.given;
  tcp = c.in_ok-workers_in-2.ensures.given;
  backlog = c.in_ok-backlog_in.ensures.given;
  record_limit = search rules;
  seed = c.in_ok-number_in.ensures.given;
  commands = c.in_ok-text_in.ensures;
  do_not_query = c.in_ok-ranges_in.ensures.given;
}

pub returns-clause-given : goal.returns-clause-given
returns-clause-given c =
    IfOk-weaker c.checked.result _ _ (λ service same. subst (GivesService (rows_in c.args.found.now)) (sym same) (built c)) c.checked.ensures.same

pub returns-clause-fault : goal.returns-clause-fault
returns-clause-fault c =
    let rows = rows_in c.args.found.now in
    let fits : AreSettings c.in_ok-settings_in.field-0 = c.in_ok-settings_in.ensures.in_range in
    IfErr-weaker c.checked.result _ _ (λ fault why. elim why as (λ w. RefusesService rows fault) [
      | inl bad ↦ inl (inr (blames_service (made c) fault bad.0, λ service given in_range. bad.1 (same_counts rows service (made c) given (built c) in_range.1)))
      | inr why ↦ inr (why.0, (made c, built c, (fits, why.1.0), why.1.1))
    ]) c.checked.ensures.fault
