use Rattle.std.proofs.Common.{◌≡◌, sym, ◌∙◌, subst}
use Rattle.dns_query.specs.Query.{alias_question}
use Rattle.history.specs.declared.event.Ask.TheVariants.{Answer as Asked}
use Rattle.history.specs.declared.event.Event.TheVariants.{Look}
use Rattle.history.specs.declared.event.Seen.{Seen as SeenValue}
use Rattle.iterate.specs.declared.want.Input.{Input}
use Rattle.iterate.specs.declared.want.Want.TheVariants.{Book}
use Rattle.iterate.specs.Looked.{seen_of, IsSetSeen}
use Rattle.iterate.specs.Phase.{Suits}
use Rattle.iterate.specs.Shown.{IsMisanswered}
use Rattle.iterate.proofs.PathTurns.{turned, failing_look, path_some}
use Rattle.iterate.proofs.path.aliased.Goals as goal

pub returns-in-Some-clause-goes : goal.returns-in-Some-clause-goes
returns-in-Some-clause-goes c = λ port m id question before log p adds suits.
    c.alias_seen.ensures.goes port m id question c.args.input.now before log p (c.in-Some.ensures m suits) adds

pub returns-in-None-clause-goes : goal.returns-in-None-clause-goes
returns-in-None-clause-goes c = λ port m id question before log p adds suits.
    turned c.failed.ensures.phase c.failed.ensures.want
    (failing_look c.args.path (Asked (alias_question c.args.path.last.owner)) c.args.input.now (path_some 2 p.askable.is_path) p.askable.is_path adds (c.in-None.ensures m suits))

pub returns-in-Some-clause-follows : goal.returns-in-Some-clause-follows
returns-in-Some-clause-follows c = λ to l.
    let asked = alias_question c.args.path.last.owner in
    let suits = subst (λ (i : Input). Suits (Book (Look 0 (Asked asked))) i) (sym l.replied.replied) tt in
    let here = c.in-Some.ensures 0 suits in
    let same : l.seen ≡ seen_of c.in-Some.what = let e : l.seen ≡ seen_of c.in-Some.what = cc (sym l.replied.replied ∙ here.replied) in e in
    c.alias_seen.ensures.follows l.told to (subst (λ (s : SeenValue). IsSetSeen s l.told) same l.is_set) l.target l.few

pub returns-in-None-clause-follows : goal.returns-in-None-clause-follows
returns-in-None-clause-follows c = λ to l.
    let asked = alias_question c.args.path.last.owner in
    let suits = subst (λ (i : Input). Suits (Book (Look 0 (Asked asked))) i) (sym l.replied.replied) tt in
    let bad = subst (λ (i : Input). IsMisanswered (Look 0 (Asked asked)) i) l.replied.replied (c.in-None.ensures 0 suits) in
    absurd (bad l.replied.lawful)
