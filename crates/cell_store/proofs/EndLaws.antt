-- The first moment at which a find of a column is dead: by slot and by find.
use Rattle.std.proofs.Common.{◌≡◌, ℕ, min, Option, Some, None, List, [], ◌∷◌, length, map, refl, ap, ◌∙◌}
use Rattle.std.specs.Prelude.{fold, slice_get}
use Rattle.std.specs.List.{AllByRecursion}
use Rattle.std.specs.Option.{option_map}
use Rattle.dns_name.specs.ListLaws.{never_past}
use Rattle.ranked.specs.declared.cell.Admitted.{Admitted}
use Rattle.ranked.specs.Cell.{admitted_map}
use Rattle.cell_store.specs.declared.version.Version.{Version}
use Rattle.cell_store.specs.Slots.{version_of, held_of, IsWithin, IsHeldWithin}
use Rattle.cell_store.specs.Ends.{cell_end, earlier, first_end, latest}

end_seen : {F : Type 0} (finds : List F) (held : Option (Admitted ℕ)) → IsHeldWithin (length finds) held → cell_end (held_of finds held) ≡ cell_end held
end_seen finds None low = refl
end_seen {F} finds (Some held) low = split (slice_get finds held.body) refl
  where
    split : (o : Option F) → slice_get finds held.body ≡ o → cell_end (option_map (λ (find : F). admitted_map (λ _. find) held) o) ≡ cell_end (Some held)
    split (Some f) is = refl
    split None is = absurd (never_past finds held.body low is)

fold_seen : {F : Type 0} (finds : List F) (versions : List (Version ℕ)) (end : ℕ) → AllByRecursion (IsWithin (length finds)) versions → fold earlier end (map (version_of finds) versions) ≡ fold earlier end versions
fold_seen finds [] end within = refl
fold_seen finds (x ∷ versions) end within =
    ap (λ n. fold earlier (min end n) (map (version_of finds) versions)) (end_seen finds x.place.cell.held within.0) ∙ fold_seen finds versions (earlier end x) within.1

pub ends_seen : {F : Type 0} (finds : List F) (versions : List (Version ℕ)) → AllByRecursion (IsWithin (length finds)) versions → first_end (map (version_of finds) versions) ≡ first_end versions
ends_seen finds versions within = fold_seen finds versions latest within
