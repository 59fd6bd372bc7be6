use Rattle.std.proofs.Common.{◌≡◌, ℕ, List, [], None, refl, ap, sym, subst, ◌∙◌, nat_eq}
use Rattle.std.specs.Map.{KeepsOthers}
use Rattle.std.specs.Cmp.Lexicographic.{pointwise}
use Rattle.dns_name.specs.Labels.{Labels, octets_of}
use Rattle.dns_name.specs.Order.{name_eq}
use Rattle.local_zone.specs.Index.{items_in, under}
use Rattle.local_zone.proofs.IndexLaws.{grouped-drop}
use Rattle.local_zone.proofs.Keyed.{items, octets}
use Rattle.local_zone.proofs.record_list.unindex_last.Goals as goal

pub returns-then-pop_under : goal.returns-then-pop_under
returns-then-pop_under c front last same kind h =
    let start = c.args.owners.now.entries in
    let mid = c.pop_under.new.owners.entries in
    let after = c.swap_remove.new.self.entries in
    let name : octets_of c.args.owner.now ≡ octets_of last.owner = ap octets_of (sym same) in
    let none : under octets (octets_of last.owner) after ≡ None = ap (λ (s : List ℕ). under octets s after) (sym name) ∙ c.swap_remove.ensures.updates.1 in
    let others : KeepsOthers (λ x y. pointwise nat_eq (octets x) (octets y)) (λ k. pointwise nat_eq (octets_of last.owner) (octets k)) mid after =
    subst (λ (s : List ℕ). KeepsOthers (λ x y. pointwise nat_eq (octets x) (octets y)) (λ k. pointwise nat_eq s (octets k)) mid after) name c.swap_remove.ensures.updates.3 in
    let empty : items_in items (under octets (octets_of last.owner) mid) ≡ [] = ap (λ (o : Labels). items_in items (under octets (octets_of o) mid)) same ∙ c.if-pop_under.ensures.empty refl in
    grouped-drop octets items front last start mid after h (c.if-pop_under.ensures.front front last same kind h.0)
    (λ o e. c.if-pop_under.ensures.others o (ap (λ (n : Labels). name_eq n o) (sym same) ∙ e)) empty none others

pub returns-else-pop_under : goal.returns-else-pop_under
returns-else-pop_under c front last same kind h = c.if-pop_under.ensures.some refl front last same kind h
