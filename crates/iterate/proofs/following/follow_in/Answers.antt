use Rattle.std.proofs.Common.{subst, arith}
use Rattle.std.proofs.lemmas.Result.{IfOk-weaker}
use Rattle.harvest.specs.declared.harvest_type.Harvest.{Harvest}
use Rattle.dns_query.specs.Query.{alias_question}
use Rattle.iterate.specs.Come.{HasCome}
use Rattle.iterate.specs.Following.{IsHop}
use Rattle.iterate.proofs.FollowTurns.{alias_within, told_known, follows_set, follows_alias_ok, follows_nowhere_ok}
use Rattle.iterate.proofs.PathTurns.{less_left, path_some}
use Rattle.iterate.proofs.following.follow_in.Goals as goal

pub returns-in-Set-clause-follows : goal.returns-in-Set-clause-follows
returns-in-Set-clause-follows c =
    let hop = rw c.in-Set.is at (subst (λ (x : Harvest). IsHop x c.args.path.last c.in_ok-told.field-0) c.deref.ensures c.in_ok-told.ensures) in
    follows_set hop c.found.ensures.want

pub returns-in-Alias-clause-follows : goal.returns-in-Alias-clause-follows
returns-in-Alias-clause-follows c =
    let hop = rw c.in-Alias.is at (subst (λ (x : Harvest). IsHop x c.args.path.last c.in_ok-told.field-0) c.deref.ensures c.in_ok-told.ensures) in
    follows_alias_ok c.args.harvest.value c.args.path c.args.moment c.in-Alias.told c.in-Alias.to c.follow_alias.result hop.0 hop.1.0 hop.1.1 c.follow_alias.ensures.looks

pub returns-in-Nowhere-clause-follows : goal.returns-in-Nowhere-clause-follows
returns-in-Nowhere-clause-follows c =
    let hop = rw c.in-Nowhere.is at (subst (λ (x : Harvest). IsHop x c.args.path.last c.in_ok-told.field-0) c.deref.ensures c.in_ok-told.ensures) in
    follows_nowhere_ok c.args.harvest.value c.args.path c.args.moment c.alias.result hop.0 hop.1

pub returns-in-Set-clause-goes : goal.returns-in-Set-clause-goes
returns-in-Set-clause-goes c = λ port id question log h u.
    let hop = rw c.in-Set.is at (subst (λ (x : Harvest). IsHop x c.args.path.last c.in_ok-told.field-0) c.deref.ensures c.in_ok-told.ensures) in
    let known = told_known c.args.harvest.value c.args.path.last c.in-Set.told h hop in
    c.found.ensures.goes port c.args.moment id _ question log (path_some 4 u.askable.is_path) u.askable known

pub returns-in-Alias-clause-goes : goal.returns-in-Alias-clause-goes
returns-in-Alias-clause-goes c = λ port id question log h u.
    let hop = rw c.in-Alias.is at (subst (λ (x : Harvest). IsHop x c.args.path.last c.in_ok-told.field-0) c.deref.ensures c.in_ok-told.ensures) in
    let known = told_known c.args.harvest.value (alias_question c.args.path.last.owner) c.in-Alias.told h hop.1.0 in
    c.follow_alias.ensures.goes port id _ question log (omega arith) h u.askable hop.1.0 hop.1.1 (HasCome.along u.come known hop.1.1)

pub returns-in-Nowhere-clause-goes : goal.returns-in-Nowhere-clause-goes
returns-in-Nowhere-clause-goes c = λ port id question log h u.
    IfOk-weaker c.alias.result _ _ (λ t g. less_left (alias_within c.args.path (omega arith)) g) (c.alias.ensures port id question log u)
