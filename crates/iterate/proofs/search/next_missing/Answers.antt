use Rattle.std.proofs.Common.{◌≡◌, ◌≤◌, List, length, ap, ◌∙◌, subst}
use Rattle.std.proofs.Common.{MatchOption}
use Rattle.dns_name.specs.Labels.{Labels}
use Rattle.history.specs.declared.servers.Servers.{Servers}
use Rattle.iterate.specs.Hunting.{IsAt}
use Rattle.iterate.proofs.search.next_missing.Goals as goal

pub returns : goal.returns
returns c =
    let same : c.as_slice.result.now ≡ c.args.hunt.now.servers.missing = c.as_slice.ensures ∙ ap (λ (s : Servers). s.missing) c.get.ensures in
    subst (λ (xs : List Labels). MatchOption c.name_at.result (length xs ≤ c.args.hunt.now.sought) (λ name. IsAt xs c.args.hunt.now.sought name.now)) same c.name_at.ensures
