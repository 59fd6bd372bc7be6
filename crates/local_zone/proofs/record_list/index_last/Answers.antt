use Rattle.std.proofs.Common.{◌≡◌, ℕ, List, [], ◌∷◌, ◌++◌, Some, ap, sym, subst, ◌∙◌, nat_eq}
use Rattle.std.specs.Prelude.{Result, Ok, Err, OnErr}
use Rattle.std.specs.Map.{set_value}
use Rattle.std.specs.Cmp.Lexicographic.{pointwise}
use Rattle.dns_name.specs.Labels.{octets_of}
use Rattle.local_zone.specs.Index.{under, IsGrouped}
use Rattle.local_zone.proofs.ImpliedLaws.{on_ok}
use Rattle.local_zone.proofs.IndexLaws.{grouped-set, grouped-keep}
use Rattle.local_zone.proofs.Keyed.{items, octets}
use Rattle.local_zone.proofs.record_list.index_last.Goals as goal

on_err_of : {X E A B : Type 0} (result : Result X E) → OnErr result A → (A → B) → OnErr result B
on_err_of (Ok x) h make = tt
on_err_of (Err e) h make = make h

pub returns-in-Some-clause-err : goal.returns-in-Some-clause-err
returns-in-Some-clause-err c = on_err_of c.push.result c.push.ensures.err (λ is records h.
    let es = c.args.owners.now.entries in
    let name : octets_of c.owner.result.now ≡ octets_of c.args.new.owner = ap octets_of c.owner.ensures in
    let found : under octets (octets_of c.args.new.owner) es ≡ Some c.in-Some.group.now = ap (λ (s : List ℕ). under octets s es) (sym name) ∙ sym c.in-Some.ensures.value in
    let entries : (c.get_mut.follows.lender c.push.new.self).entries ≡ set_value (λ k. pointwise nat_eq (octets_of c.args.new.owner) (octets k)) es c.push.new.self =
    (c.get_mut.follows.holds c.push.new.self).0 ∙ ap (λ (s : List ℕ). set_value (λ k. pointwise nat_eq s (octets k)) es c.push.new.self) name in
    subst (λ x. IsGrouped octets items records x) (sym entries) (grouped-keep octets items records es c.args.new.owner c.in-Some.group.now c.push.new.self h found is))

pub returns-in-Some-clause-ok : goal.returns-in-Some-clause-ok
returns-in-Some-clause-ok c = on_ok c.push.result c.push.ensures.ok c.push.ensures.ok (λ is same records h.
    let es = c.args.owners.now.entries in
    let name : octets_of c.owner.result.now ≡ octets_of c.args.new.owner = ap octets_of c.owner.ensures in
    let found : under octets (octets_of c.args.new.owner) es ≡ Some c.in-Some.group.now = ap (λ (s : List ℕ). under octets s es) (sym name) ∙ sym c.in-Some.ensures.value in
    let entries : (c.get_mut.follows.lender c.push.new.self).entries ≡ set_value (λ k. pointwise nat_eq (octets_of c.args.new.owner) (octets k)) es c.push.new.self =
    (c.get_mut.follows.holds c.push.new.self).0 ∙ ap (λ (s : List ℕ). set_value (λ k. pointwise nat_eq s (octets k)) es c.push.new.self) name in
    subst (λ x. IsGrouped octets items (records ++ c.args.new ∷ []) x) (sym entries) (grouped-set octets items records es c.args.new c.in-Some.group.now c.push.new.self h found is))

pub returns-in-None-clause-ok : goal.returns-in-None-clause-ok
returns-in-None-clause-ok c =
    on_ok c.index_first.result c.index_first.ensures.ok c.index_first.ensures.ok
    (λ index same records h. index records (subst (λ x. IsGrouped octets items records x) (sym (ap (λ m. m.entries) c.get_mut.follows.holds-at-none)) h))
