use Rattle.std.proofs.Common.{codes, None, []}
use Rattle.resolver_args.proofs.Giving.{same_settings}
use Rattle.resolver_args.proofs.Literals.{addrs_are, alone, cells_alone, hints_alone, journal_alone, no_addrs_left, number_is, port_alone}
use Rattle.resolver_args.proofs.laws.defaults_law.Goals as goal

pub returns : goal.returns
returns c settings said =
    let command = said.given.0 in
    let is = said.given.1 in
    let given = said.given.2.1 in
    same_settings settings (record { journal = 64; cells = 100000; hints = []; server_port = 53 })
    (number_is alone (codes "journal") (codes "64") command settings.journal journal_alone is given.journal)
    (number_is alone (codes "cells") (codes "100000") command settings.cells cells_alone is given.cells)
    (no_addrs_left settings.hints (addrs_are alone (codes "HINT") None command settings.hints hints_alone is given.hints))
    (number_is alone (codes "server-port") (codes "53") command settings.server_port port_alone is given.server_port)
