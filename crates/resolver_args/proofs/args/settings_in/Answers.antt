use Rattle.std.proofs.Common.{rules, arith, codes, subst, inr, ℕ, ◌≡◌, ◌<◌, ◌^◌, true, false}
use Rattle.std.specs.Prelude.{IfErr}
use Rattle.std.proofs.lemmas.Result.{IfErr-weaker}
use Rattle.history.specs.Event.{AreSettings}
use Rattle.history.specs.declared.event.Settings.{Settings}
use Rattle.resolver_args.specs.Given.{LacksNumber, rows_in}
use Rattle.resolver_args.specs.Says.{LacksSettings, RefusedFor}
use Rattle.resolver_args.proofs.Giving.{for_reason, one_addrs, one_number, same_settings}
use Rattle.resolver_args.proofs.args.settings_in.Goals as goal

pub returns-in_err-journal-clause-fault : goal.returns-in_err-journal-clause-fault
returns-in_err-journal-clause-fault c =
    let rows = rows_in c.args.found.now in
    let told : IfErr c.from_residual.result (RefusedFor (LacksNumber 32 (rows_in c.args.found.now) (codes "journal"))) = search rules in
    let leads : LacksNumber 32 (rows_in c.args.found.now) (codes "journal") → LacksSettings (rows_in c.args.found.now) = λ lacks s given fits. lacks s.journal (omega arith) given.journal in
    IfErr-weaker c.from_residual.result _ _ (λ fault why. for_reason fault leads why) told

pub returns-in_err-cells-clause-fault : goal.returns-in_err-cells-clause-fault
returns-in_err-cells-clause-fault c =
    let rows = rows_in c.args.found.now in
    let told : IfErr c.from_residual-in_err-cells.result (RefusedFor (LacksNumber 32 (rows_in c.args.found.now) (codes "cells"))) = search rules in
    let leads : LacksNumber 32 (rows_in c.args.found.now) (codes "cells") → LacksSettings (rows_in c.args.found.now) = λ lacks s given fits. lacks s.cells (omega arith) given.cells in
    IfErr-weaker c.from_residual-in_err-cells.result _ _ (λ fault why. for_reason fault leads why) told

pub returns-in_err-server_port-clause-fault : goal.returns-in_err-server_port-clause-fault
returns-in_err-server_port-clause-fault c =
    let rows = rows_in c.args.found.now in
    let told : IfErr c.from_residual-in_err-server_port.result (RefusedFor (LacksNumber 32 (rows_in c.args.found.now) (codes "server-port"))) = search rules in
    let leads : LacksNumber 32 (rows_in c.args.found.now) (codes "server-port") → LacksSettings (rows_in c.args.found.now) = λ lacks s given fits. lacks s.server_port (omega arith) given.server_port in
    IfErr-weaker c.from_residual-in_err-server_port.result _ _ (λ fault why. for_reason fault leads why) told

pub returns-in-None-clause-fault : goal.returns-in-None-clause-fault
returns-in-None-clause-fault c = inr (
  tt,
  λ s given fits.
      let rows = rows_in c.args.found.now in
      let made : Settings = record {
        journal = c.in_ok-journal.journal;
        cells = c.in_ok-cells.cells;
        hints = c.in_ok-hints.hints;
        server_port = c.in_ok-server_port.server_port;
      } in
      let port : s.server_port ≡ made.server_port = one_number rows (codes "server-port") s.server_port made.server_port given.server_port c.in_ok-server_port.ensures.given in
      let same : s ≡ made = same_settings s made (one_number rows (codes "journal") s.journal made.journal given.journal c.in_ok-journal.ensures.given)
      (one_number rows (codes "cells") s.cells made.cells given.cells c.in_ok-cells.ensures.given)
      (one_addrs rows (codes "HINT") s.hints made.hints given.hints c.in_ok-hints.ensures.given) port in
      let none : false ≡ true = c.in-None.ensures.some.1 (subst AreSettings same fits, subst (λ (n : ℕ). n < 2 ^ 16) port given.has_16_bits) in
      cc,
)
