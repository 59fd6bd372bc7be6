use Rattle.std.proofs.Common.{◌≡◌, ℕ, List, Some, ap, sym, subst, ◌∙◌, nat_eq}
use Rattle.std.specs.Map.{set_value}
use Rattle.std.specs.Cmp.Lexicographic.{pointwise}
use Rattle.dns_name.specs.Labels.{octets_of}
use Rattle.local_zone.specs.Index.{of_owner, under, IsGrouped, IsIndexed}
use Rattle.local_zone.proofs.IndexLaws.{index-front, index-some, grouped-front, others-set}
use Rattle.local_zone.proofs.Keyed.{items, octets}
use Rattle.local_zone.proofs.record_list.pop_under.Goals as goal

pub returns-in-Some-clause-front : goal.returns-in-Some-clause-front
returns-in-Some-clause-front c front last same kind h =
    let es = c.args.owners.now.entries in
    let name : octets_of c.args.owner.now ≡ octets_of last.owner = ap octets_of (sym same) in
    let g = c.in-Some.group.now in
    let w = c.pop.new.self in
    let found : under octets (octets_of last.owner) es ≡ Some g = ap (λ (s : List ℕ). under octets s es) (sym name) ∙ sym c.in-Some.ensures.value in
    let entries : (c.get_mut.follows.lender w).entries ≡ set_value (λ k. pointwise nat_eq (octets_of last.owner) (octets k)) es w =
    (c.get_mut.follows.holds w).0 ∙ ap (λ (s : List ℕ). set_value (λ k. pointwise nat_eq s (octets k)) es w) name in
    subst (λ x. IsIndexed octets items front x) (sym entries) (index-front octets items front last es g w h found (c.pop.ensures.left (of_owner last.owner front) last kind))

pub returns-in-None-clause-front : goal.returns-in-None-clause-front
returns-in-None-clause-front c front last same kind h =
    let es = c.args.owners.now.entries in
    let name : octets_of c.args.owner.now ≡ octets_of last.owner = ap octets_of (sym same) in
    absurd (index-some octets items front last es h (ap (λ (s : List ℕ). under octets s es) (sym name) ∙ sym c.in-None.ensures.value))

pub returns-in-Some-clause-some : goal.returns-in-Some-clause-some
returns-in-Some-clause-some c stays front last same kind h =
    let es = c.args.owners.now.entries in
    let name : octets_of c.args.owner.now ≡ octets_of last.owner = ap octets_of (sym same) in
    let g = c.in-Some.group.now in
    let w = c.pop.new.self in
    let found : under octets (octets_of last.owner) es ≡ Some g = ap (λ (s : List ℕ). under octets s es) (sym name) ∙ sym c.in-Some.ensures.value in
    let entries : (c.get_mut.follows.lender w).entries ≡ set_value (λ k. pointwise nat_eq (octets_of last.owner) (octets k)) es w =
    (c.get_mut.follows.holds w).0 ∙ ap (λ (s : List ℕ). set_value (λ k. pointwise nat_eq s (octets k)) es w) name in
    subst (λ x. IsGrouped octets items front x) (sym entries) (grouped-front octets items front last es g w h found (c.pop.ensures.left (of_owner last.owner front) last kind) (c.pop.ensures.some stays))

pub returns-in-Some-clause-others : goal.returns-in-Some-clause-others
returns-in-Some-clause-others c other e =
    let es = c.args.owners.now.entries in
    let w = c.pop.new.self in
    let entries : (c.get_mut.follows.lender w).entries ≡ set_value (λ k. pointwise nat_eq (octets_of c.args.owner.now) (octets k)) es w =
    (c.get_mut.follows.holds w).0 in
    ap (λ x. under octets (octets_of other) x) entries ∙ others-set octets items c.args.owner.now other es w e

pub returns-in-None-clause-some : goal.returns-in-None-clause-some
returns-in-None-clause-some c stays front last same kind h =
    let es = c.args.owners.now.entries in
    let name : octets_of c.args.owner.now ≡ octets_of last.owner = ap octets_of (sym same) in
    absurd (index-some octets items front last es h.0 (ap (λ (s : List ℕ). under octets s es) (sym name) ∙ sym c.in-None.ensures.value))

pub returns-in-None-clause-others : goal.returns-in-None-clause-others
returns-in-None-clause-others c other e = ap (λ m. under octets (octets_of other) m.entries) c.get_mut.follows.holds-at-none
