use Rattle.std.proofs.Common.{codes, Some, ◌∷◌, []}
use Rattle.resolver_args.proofs.Literals.{addrs_are, hints_given, journal_given, number_is, with_options}
use Rattle.resolver_args.proofs.laws.given_law.Goals as goal

pub returns : goal.returns
returns c settings said =
    let command = said.given.0 in
    let is = said.given.1 in
    let given = said.given.2.1 in (
      number_is with_options (codes "journal") (codes "7") command settings.journal journal_given is given.journal,
      addrs_are with_options (codes "HINT") (Some (codes "192.0.2.1" ∷ [])) command settings.hints hints_given is given.hints,
    )
