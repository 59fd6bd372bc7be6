-- How many cells a world stores.
use Rattle.std.specs.Prelude.{◌≤◌, ℕ, Bool, Option, List, map}
use Rattle.std.specs.List.{AllByRecursion}
use Rattle.dns_name.specs.Labels.{Labels}
use Rattle.ranked.specs.declared.find.Find.{Find}
use Rattle.ranked.specs.declared.find.Scope.{Scope}
use Rattle.change_law.specs.declared.kept.KeptChange.{KeptChange}
use Rattle.change_law.specs.Face.{Face}
use Rattle.change_law.specs.Pairs.{CountsAmong, IsAliveIn, count_pairs, pair_of}

-- As many cells are stored, at most, as pairs differ among finds that have each pair that counts.
abbrev pub StoresOnlyCounted : {W : Type 0} → (W → (Labels × Scope) → Bool) → (W → ℕ) → W → Type 0
StoresOnlyCounted counts stored world =
    (finds : List Find) → CountsAmong counts (map pair_of finds) world → stored world ≤ count_pairs (map pair_of finds)

-- As many cells are stored, at least, as pairs differ among those alive at a moment, by whichever choice of the kept changes.
abbrev pub StoresEachAlive : {W S T : Type 0} → (S → Option ℕ) → (W → List (KeptChange S) → Type 0) → (W → List (KeptChange S) → (ℕ → Bool) → Face T) →
    (W → ℕ) → W → Type 0
StoresEachAlive {S = S} table keeps face stored world =
    (kept : List (KeptChange S)) → keeps world kept → (t : ℕ) (pairs : List (Labels × Scope)) → AllByRecursion (IsAliveIn table face world kept t) pairs →
    count_pairs pairs ≤ stored world
