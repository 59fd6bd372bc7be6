use Rattle.std.proofs.Common.{◌≤◌, List, length, drop, sym, ap, ◌∙◌, subst, refl}
use Rattle.dns_text.specs.Equal.{data_eq}
use Rattle.dns_text.specs.declared.record.Data.{Data}
use Rattle.ranked.specs.Set.{is_among}
use Rattle.harvest.specs.Distinct.{DataOf}
use Rattle.harvest.specs.declared.distinct.TheConstants.{MOST_COMPARED}
use Rattle.harvest.proofs.DistinctLaws.{lent, lent_pushed, first_lacks, known_stays, when_ok, newly_added, behind_pushed, texts_added}
use Rattle.harvest.proofs.distinct.Distinct.add_behind.Goals as goal

pub returns-then-contains-clause-ok : goal.returns-then-contains-clause-ok
returns-then-contains-clause-ok c =
    let known = ap (λ (x : DataOf). x.data_in) c.self.view_is in
    let behind = sym (c.self.invariant c.args.datum.now c.in_ok-text.text c.in_ok-text.ensures.back c.in_ok-text.ensures.text) ∙ sym c.contains.ensures ∙ c.if-contains.true in
    known_stays c.args.self.now c.args.datum.now
    (first_lacks MOST_COMPARED c.args.self.now.data_in c.args.datum.now c.requires.apart ∙ ap (λ (ds : List Data). is_among data_eq (drop MOST_COMPARED ds) c.args.datum.now) (sym known) ∙ behind)

pub invariant_of-self-then-is_ok : goal.invariant_of-self-then-is_ok
invariant_of-self-then-is_ok c =
    let known = ap (λ (x : DataOf). x.data_in) c.self.view_is in
    let enough = subst (λ (ds : List Data). MOST_COMPARED ≤ length ds) (sym known) c.requires.behind in
    let pushed = lent_pushed c.self.inside.data.items c.push.new.self.items c.args.datum (lent c.self.inside.data.items) c.args.datum.now c.in_ok-push.ensures.items refl refl in
    texts_added c.self.inside.kind c.self.inside.texts c.insert.new.self (drop MOST_COMPARED (lent c.self.inside.data.items)) _ c.args.datum.now c.in_ok-text.text c.self.invariant c.in_ok-text.ensures.back c.in_ok-text.ensures.text
    (when_ok c.insert.result (sym c.is_ok.ensures.value ∙ c.if-is_ok.true) c.insert.ensures.updates) (behind_pushed MOST_COMPARED (lent c.self.inside.data.items) (lent c.push.new.self.items) c.args.datum.now enough pushed)

pub returns-then-is_ok-clause-ok : goal.returns-then-is_ok-clause-ok
returns-then-is_ok-clause-ok c =
    let known = ap (λ (x : DataOf). x.data_in) c.self.view_is in
    let behind = sym (c.self.invariant c.args.datum.now c.in_ok-text.text c.in_ok-text.ensures.back c.in_ok-text.ensures.text) ∙ sym c.contains.ensures ∙ c.if-contains.false in
    newly_added c.args.self.now _ c.args.datum.now (ap (λ (x : DataOf). x.kind) c.self.view_is)
    (first_lacks MOST_COMPARED c.args.self.now.data_in c.args.datum.now c.requires.apart ∙ ap (λ (ds : List Data). is_among data_eq (drop MOST_COMPARED ds) c.args.datum.now) (sym known) ∙ behind)
    (lent_pushed c.self.inside.data.items c.push.new.self.items c.args.datum c.args.self.now.data_in c.args.datum.now c.in_ok-push.ensures.items known refl)
