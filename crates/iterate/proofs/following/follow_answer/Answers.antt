use Rattle.std.proofs.Common.{inl, inr, subst, arith}
use Rattle.harvest.specs.declared.harvest_type.Harvest.{Harvest}
use Rattle.iterate.specs.Following.{IsHop}
use Rattle.iterate.proofs.FollowTurns.{hearing_less, come_by, hearing_within, told_known, follows_set, follows_alias_ok, follows_nowhere}
use Rattle.iterate.proofs.following.follow_answer.Goals as goal

pub returns-in-Set-clause-follows : goal.returns-in-Set-clause-follows
returns-in-Set-clause-follows c =
    let hop = rw c.in-Set.is at (subst (λ (x : Harvest). IsHop x c.args.path.last c.in_ok-told.field-0) c.deref.ensures c.in_ok-told.ensures) in
    follows_set hop c.found.ensures.want

pub returns-in-Alias-clause-follows : goal.returns-in-Alias-clause-follows
returns-in-Alias-clause-follows c =
    let hop = rw c.in-Alias.is at (subst (λ (x : Harvest). IsHop x c.args.path.last c.in_ok-told.field-0) c.deref.ensures c.in_ok-told.ensures) in
    follows_alias_ok c.args.harvest.value c.args.path c.args.moment c.in-Alias.told c.in-Alias.to c.follow_alias.result hop.0 hop.1.0 hop.1.1 c.follow_alias.ensures.looks

pub returns-in-Nowhere-clause-follows : goal.returns-in-Nowhere-clause-follows
returns-in-Nowhere-clause-follows c =
    let hop = rw c.in-Nowhere.is at (subst (λ (x : Harvest). IsHop x c.args.path.last c.in_ok-told.field-0) c.deref.ensures c.in_ok-told.ensures) in
    follows_nowhere hop.0 hop.1

pub returns-in-Set-clause-goes : goal.returns-in-Set-clause-goes
returns-in-Set-clause-goes c = λ port id question log a p.
    let hop = rw c.in-Set.is at (subst (λ (x : Harvest). IsHop x c.args.path.last c.in_ok-told.field-0) c.deref.ensures c.in_ok-told.ensures) in
    let known = told_known c.args.harvest.value c.args.path.last c.in-Set.told a.heard hop in
    c.found.ensures.goes port c.args.moment id _ question log (hearing_within p.is_path) p known

pub returns-in-Alias-clause-goes : goal.returns-in-Alias-clause-goes
returns-in-Alias-clause-goes c = λ port id question log a p.
    let hop = rw c.in-Alias.is at (subst (λ (x : Harvest). IsHop x c.args.path.last c.in_ok-told.field-0) c.deref.ensures c.in_ok-told.ensures) in
    c.follow_alias.ensures.goes port id _ question log (let less = hearing_less c.args.path in omega (arith, less)) a.heard p hop.1.0 hop.1.1 (come_by p.is_path (a.gives c.in-Alias.told hop.1.0) hop.1.1)

pub returns-in-Nowhere-clause-goes : goal.returns-in-Nowhere-clause-goes
returns-in-Nowhere-clause-goes c = λ port id question log a p.
    let hop = rw c.in-Nowhere.is at (subst (λ (x : Harvest). IsHop x c.args.path.last c.in_ok-told.field-0) c.deref.ensures c.in_ok-told.ensures) in
    elim a.answers [
      | inl set ↦ absurd (hop.0 set)
      | inr alias ↦ absurd (hop.1 alias)
    ]
