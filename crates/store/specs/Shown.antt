-- What a cache shows and stores, by its ghost members as a world.
use Rattle.std.specs.Prelude.{◌≡◌, ◌≤◌, ℕ, Option, List, map}
use Rattle.std.specs.List.{AllByRecursion}
use Rattle.dns_name.specs.Labels.{Labels}
use Rattle.dns_text.specs.declared.record.Question.{Question}
use Rattle.ranked.specs.declared.cell.Shown.{Shown}
use Rattle.ranked.specs.declared.find.Find.{Find}
use Rattle.ranked.specs.declared.find.Scope.{Scope}
use Rattle.ranked.specs.Cell.{shown_at}
use Rattle.change_law.specs.declared.kept.KeptChange.{KeptChange}
use Rattle.change_law.specs.declared.world.World.{Ghosts}
use Rattle.change_law.specs.Pairs.{CountsAmong, IsAliveIn, count_pairs, pair_of}
use Rattle.change_law.specs.Turn.{HoldsOver}
use Rattle.store.specs.declared.world.SavedFlush.{SavedFlush}
use Rattle.store.specs.World.{Shelved, shows_over}

-- what is shown of a type of a name at a moment
abbrev pub shown_of : {W T S D : Type 0} → Ghosts W T S D → W → Labels → ℕ → ℕ → Option (Shown Find)
shown_of by world owner kind moment = shown_at ((by.shown world).cell (record { owner = owner; kind = kind })) moment

-- What would be shown if a flush were undone, or redone, is what the face shows of the choice in which it alone stands the other way.
abbrev pub ShowsOver : {T D : Type 0} → Ghosts Shelved T SavedFlush D → Shelved → SavedFlush → Type 0
ShowsOver by shelf saved =
    (moment : ℕ) (q : Question) → HoldsOver by.table by.keeps by.face shelf saved (λ face. shows_over shelf saved moment q ≡ shown_at (face.cell q) moment)

-- As many cells are stored, at most, as pairs differ among finds that have each pair that counts.
abbrev pub StoresOnlyCounted : {W T S D : Type 0} → Ghosts W T S D → W → Type 0
StoresOnlyCounted by world = (finds : List Find) → CountsAmong by.counts (map pair_of finds) world → by.stored world ≤ count_pairs (map pair_of finds)

-- As many cells are stored, at least, as pairs differ among those alive at a moment, whatever choice of the kept changes is in force.
abbrev pub StoresEachAlive : {W T S D : Type 0} → Ghosts W T S D → W → Type 0
StoresEachAlive {S = S} by world =
    (kept : List (KeptChange S)) (t : ℕ) (pairs : List (Labels × Scope)) → AllByRecursion (IsAliveIn by.table by.face world kept t) pairs →
    count_pairs pairs ≤ by.stored world
