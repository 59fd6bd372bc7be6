-- What holds of the cells of each name holds of those at a place: a lemma for walks over names.
use Rattle.std.proofs.Common.{◌≡◌, ℕ, Option, Some, subst, slice_get}
use Rattle.std.specs.Prelude.{IfSome}
use Rattle.std.proofs.lemmas.Map.Entries.{lookup_from_place}
use Rattle.indexmap.specs.IndexMap.{IndexMap, get, IsUnique}
use Rattle.dns_name.specs.Labels.{Labels}
use Rattle.dns_name.specs.Order.{name_eq, name_equiv}
use Rattle.cell_store.specs.declared.owner.OwnerCells.{OwnerCells}
use Rattle.cell_store.specs.Owner.{HasTop, IsUpTo}
use Rattle.cell_store.specs.Store.{HaveTop}

-- The cells of the name at a place.
pub top_at : {S : Type 0} (owners : IndexMap Labels OwnerCells S) (place : ℕ) (key : Labels) (cells : OwnerCells) → IsUnique name_eq owners → slice_get owners.entries place ≡ Some (key, cells) → HaveTop owners → HasTop cells
top_at owners place key cells unique there upto =
    let held : get name_eq owners key ≡ Some cells = lookup_from_place name_equiv owners.entries place key cells unique there in
    (upto.0, subst (λ (o : Option OwnerCells). IfSome o (IsUpTo upto.0)) held (upto.1 key))
