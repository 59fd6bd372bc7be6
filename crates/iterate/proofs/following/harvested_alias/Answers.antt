use Rattle.std.proofs.Common.{IfOk, subst}
use Rattle.dns_name.specs.Labels.{Labels}
use Rattle.dns_query.specs.Query.{alias_question}
use Rattle.iterate.specs.Following.{HasTold}
use Rattle.iterate.proofs.following.harvested_alias.Goals as goal

pub returns : goal.returns
returns c =
    subst (λ (o : Labels). IfOk c.harvested.result (HasTold c.args.harvest.now (alias_question o))) c.in_ok-owner.ensures c.harvested.ensures.exact
