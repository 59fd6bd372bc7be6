use Rattle.std.proofs.Common.{ℕ, List, ap, sym, ◌∙◌}
use Rattle.std.specs.Prelude.{unwrap_or}
use Rattle.dns_name.specs.Labels.{octets_of}
use Rattle.local_zone.specs.CountsBelow.{count_under, counted}
use Rattle.local_zone.proofs.CountsBelowLaws.{seen}
use Rattle.local_zone.proofs.Keyed.{spelled}
use Rattle.local_zone.proofs.counts_below.CountsBelow.of.Goals as goal

pub returns-in-Some : goal.returns-in-Some
returns-in-Some c =
    let es = c.self.inside.counts.entries in
    ap (λ v. unwrap_or v 0) c.in-Some.ensures.value ∙ ap (λ (s : List ℕ). count_under spelled s es) c.octets.ensures.value ∙ sym (seen spelled (octets_of c.args.name.now) es) ∙ ap (counted c.args.name.now) c.self.view_is

pub returns-in-None : goal.returns-in-None
returns-in-None c =
    let es = c.self.inside.counts.entries in
    ap (λ v. unwrap_or v 0) c.in-None.ensures.value ∙ ap (λ (s : List ℕ). count_under spelled s es) c.octets.ensures.value ∙ sym (seen spelled (octets_of c.args.name.now) es) ∙ ap (counted c.args.name.now) c.self.view_is
