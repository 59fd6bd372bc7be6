-- The loop that drops the finds to which no cell refers.
use Rattle.std.proofs.Common.{◌≡◌, ℕ, ◌≤◌, List, map, length}
use Rattle.std.specs.List.{AllByRecursion}
use Rattle.ranked.specs.declared.find.Find.{Find}
use Rattle.cell_store.specs.declared.version.Version.{Version}
use Rattle.cell_store.specs.Few.{contents, AreRanked, DoDiffer}
use Rattle.cell_store.specs.Slots.{version_of, IsWithin, AreNamed}

pub record IsReleased (old_versions : List (Version ℕ)) (old_finds : List Find) (versions : List (Version ℕ)) (finds : List Find) (slot : ℕ) : Type 0 where
  pub few : slot ≤ length finds
  pub fewer : length finds ≤ length old_finds
  pub same : map (version_of finds) versions ≡ map (version_of old_finds) old_versions
  pub within : AllByRecursion (IsWithin (length finds)) versions
  pub named : AreNamed versions slot
  pub ranked : AreRanked old_versions → AreRanked versions
  pub differ : DoDiffer (contents old_versions) → DoDiffer (contents versions)
