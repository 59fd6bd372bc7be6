use Rattle.std.proofs.Common.{◌≡◌, ℕ, List, [], ◌∷◌, ◌++◌, None, refl, ap, sym, subst, ◌∙◌}
use Rattle.dns_name.specs.Labels.{octets_of}
use Rattle.local_zone.specs.Index.{under, IsGrouped}
use Rattle.indexmap.proofs.CallerLemmas.{insert_entry-new}
use Rattle.local_zone.specs.declared.group.Group.TheVariants.{One}
use Rattle.local_zone.proofs.IndexLaws.{grouped-push}
use Rattle.local_zone.proofs.Keyed.{items, octets}
use Rattle.local_zone.proofs.record_list.index_first.Goals as goal

pub returns-clause-ok : goal.returns-clause-ok
returns-clause-ok c records h =
    let es = c.args.owners.now.entries in
    let key : octets_of c.in_ok-key.key ≡ octets_of c.args.new.owner = ap octets_of (c.in_ok-key.ensures ∙ c.owner.ensures) in
    let none : under octets (octets_of c.in_ok-key.key) es ≡ None = ap (λ (s : List ℕ). under octets s es) key ∙ c.requires in
    let entries = c.in_ok-insert.ensures.entries ∙ insert_entry-new _ c.args.owners.now c.in_ok-key.key (One c.args.new) none in
    subst (λ x. IsGrouped octets items (records ++ c.args.new ∷ []) x) (sym entries) (grouped-push octets items records es c.args.new c.in_ok-key.key (One c.args.new) h c.requires key refl)
