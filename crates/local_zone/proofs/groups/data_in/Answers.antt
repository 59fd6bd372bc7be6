use Rattle.std.proofs.Common.{◌≡◌, ℕ, List, [], Some, None, refl, sym, ◌∙◌}
use Rattle.dns_text.specs.declared.record.Record.{Record}
use Rattle.dns_name.specs.Labels.{Labels, octets_of}
use Rattle.local_zone.specs.Group.{records_held}
use Rattle.local_zone.specs.Index.{of_owner, HoldSame}
use Rattle.local_zone.specs.Show.{data_for, or_list}
use Rattle.dns_text.specs.declared.types.TheConstants.{CNAME}
use Rattle.local_zone.specs.Index.{of_kind}
use Rattle.local_zone.proofs.IndexLaws.{of-found, set-of-owner}
use Rattle.local_zone.proofs.Keyed.{items, octets}
use Rattle.local_zone.proofs.groups.data_in.Goals as goal

-- what a list that holds the same tells
data_is : (owner : Labels) (kind : ℕ) (records held : List Record) → HoldSame held (of_owner owner records) → or_list (of_kind CNAME held) (of_kind kind held) ≡ data_for owner kind records
data_is owner kind records held h = λ i. or_list ((h.sets CNAME ∙ sym (set-of-owner owner CNAME records)) i) ((h.sets kind ∙ sym (set-of-owner owner kind records)) i)

pub returns-in-Some : goal.returns-in-Some
returns-in-Some c records h =
    let owner = c.args.owner.now in
    let held = of-found octets items records c.args.owners.now.entries owner (octets_of owner) (Some c.in-Some.group.now) h refl (sym c.in-Some.ensures.value) in
    c.data_for.ensures ∙ data_is owner c.args.kind records (records_held c.in-Some.group.now) held

pub returns-in-None : goal.returns-in-None
returns-in-None c records h =
    let owner = c.args.owner.now in
    data_is owner c.args.kind records [] (of-found octets items records c.args.owners.now.entries owner (octets_of owner) None h refl (sym c.in-None.ensures.value))
