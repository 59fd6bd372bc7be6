use Rattle.std.proofs.Common.{◌≡◌, subst, refl}
use Rattle.dns_query.specs.Query.{alias_question}
use Rattle.iterate.specs.declared.answer.AnswerSet.{AnswerSet}
use Rattle.iterate.specs.Looked.{seen_of}
use Rattle.iterate.specs.Told.{IsTarget}
use Rattle.iterate.proofs.Arriving.{unasked_more}
use Rattle.iterate.proofs.PathTurns.{same_set, set_known}
use Rattle.iterate.proofs.path.alias_seen.Goals as goal

pub returns-in-Some-clause-goes : goal.returns-in-Some-clause-goes
returns-in-Some-clause-goes c = λ port m id question input before log p replied adds.
    c.alias_told.ensures.goes port id question log (unasked_more p adds refl)
    (set_known port m (alias_question c.args.path.last.owner) input before log (seen_of c.args.what) c.in-Some.told replied (rw c.in-Some.is at c.in_ok-told.ensures) adds)

pub returns-in-None-clause-goes : goal.returns-in-None-clause-goes
returns-in-None-clause-goes c = λ port m id question input before log p replied adds. c.list.ensures port id question log (unasked_more p adds refl)

pub returns-in-Some-clause-follows : goal.returns-in-Some-clause-follows
returns-in-Some-clause-follows c = λ told to is_set target few.
    let same : told ≡ c.in-Some.told = same_set (seen_of c.args.what) told c.in-Some.told is_set (rw c.in-Some.is at c.in_ok-told.ensures) in
    c.alias_told.ensures.looks to (subst (λ (t : AnswerSet). IsTarget t to) same target) few

pub returns-in-None-clause-follows : goal.returns-in-None-clause-follows
returns-in-None-clause-follows c = λ told to is_set target few.
    let none = rw c.in-None.is at c.in_ok-told.ensures in
    absurd (none told is_set)
