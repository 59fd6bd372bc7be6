use Rattle.std.proofs.Common.{◌≡◌, ◌≤◌, List, length, take, sym, ap, ◌∙◌, refl, arith, Bor}
use Rattle.std.specs.List.{list_any}
use Rattle.std.proofs.lemmas.List.{length-map}
use Rattle.dns_text.specs.Equal.{data_eq}
use Rattle.dns_text.specs.declared.record.Data.{Data}
use Rattle.harvest.specs.Distinct.{DataOf}
use Rattle.harvest.specs.declared.distinct.TheConstants.{MOST_COMPARED}
use Rattle.harvest.proofs.DistinctLaws.{lent, lent_pushed, among_first, all_first, first_has, known_stays, newly_added, none_behind}
use Rattle.harvest.proofs.distinct.Distinct.add.Goals as goal

pub returns-then-contains-clause-ok : goal.returns-then-contains-clause-ok
returns-then-contains-clause-ok c =
    let known = ap (λ (x : DataOf). x.data_in) c.self.view_is in
    known_stays c.args.self.now c.args.datum.now
    (first_has c.min-first.result c.args.self.now.data_in c.args.datum.now (among_first c.min-first.result c.self.inside.data.items c.args.datum.now c.args.self.now.data_in c.contains.result (c.contains.ensures.value ∙ ap (λ (ys : List (Bor Data)). list_any (λ (y : Bor Data). data_eq y.now c.args.datum.now) (take c.min-first.result ys)) c.deref.ensures.value) known ∙ c.if-contains.true))

pub invariant_of-self-2 : goal.invariant_of-self-2
invariant_of-self-2 c =
    let before : length (lent c.self.inside.data.items) ≤ MOST_COMPARED = omega (arith, length-map c.self.inside.data.items (λ (d : Bor Data). d.now), c.len.ensures, c.min-first.ensures, c.if-first-eq-MOST_COMPARED.false, c.self.inside.data.ok.0) in
    let after : length (lent c.push.new.self.items) ≤ MOST_COMPARED = omega (arith, length-map c.push.new.self.items (λ (d : Bor Data). d.now), c.in_ok-push.ensures.len, c.len.ensures, c.min-first.ensures, c.if-first-eq-MOST_COMPARED.false, c.push.new.self.ok.0) in
    none_behind c.self.inside.kind MOST_COMPARED c.self.inside.texts (lent c.self.inside.data.items) (lent c.push.new.self.items) before after c.self.invariant

pub returns-clause-ok : goal.returns-clause-ok
returns-clause-ok c =
    let known = ap (λ (x : DataOf). x.data_in) c.self.view_is in
    let as_many : length c.args.self.now.data_in ≡ c.len.result = ap (λ (ds : List Data). length ds) (sym known) ∙ length-map c.self.inside.data.items (λ (d : Bor Data). d.now) ∙ sym c.self.inside.data.ok.0 ∙ sym c.len.ensures in
    newly_added c.args.self.now _ c.args.datum.now (ap (λ (x : DataOf). x.kind) c.self.view_is)
    (all_first c.min-first.result c.args.self.now.data_in c.args.datum.now (omega (arith, as_many, c.min-first.ensures, c.if-first-eq-MOST_COMPARED.false)) ∙ among_first c.min-first.result c.self.inside.data.items c.args.datum.now c.args.self.now.data_in c.contains.result (c.contains.ensures.value ∙ ap (λ (ys : List (Bor Data)). list_any (λ (y : Bor Data). data_eq y.now c.args.datum.now) (take c.min-first.result ys)) c.deref.ensures.value) known ∙ c.if-contains.false)
    (lent_pushed c.self.inside.data.items c.push.new.self.items c.args.datum c.args.self.now.data_in c.args.datum.now c.in_ok-push.ensures.items known refl)
