-- Records that move within a list, and the room for those that come into it.
use Rattle.std.specs.Prelude.{◌≡◌, ◌≤◌, ◌+◌, ◌++◌, ◌∷◌, [], ℕ, List, Option, Vec, MatchOption, length, vec_len, vec_capacity}
use Rattle.dns_text.specs.declared.record.Record.{Record}
use Rattle.local_zone.specs.declared.taken.Taken.{Taken}

-- each record with its gap
abbrev pub paired : List ℕ → List Record → List Taken
paired [] records = []
paired (gap ∷ more) [] = []
paired (gap ∷ more) (r ∷ rest) = (record { gap = gap; item = r }) ∷ paired more rest

-- The `count` records that begin at `front` have moved past the `gap` records that followed them.
abbrev pub MovesPast : ℕ → ℕ → ℕ → List Record → List Record → Type 0
MovesPast front count gap old new =
    (before moved passed behind : List Record) → old ≡ before ++ (moved ++ (passed ++ behind)) → length before ≡ front → length moved ≡ count → length passed ≡ gap →
    new ≡ before ++ (passed ++ (moved ++ behind))

-- There is room for so many more records in the list, or for all of them in a second one, if there is one.
abbrev pub HasRoomFor : {A : Type 0} → ℕ → Vec Record A → Option (Vec Record A) → Type 0
HasRoomFor more list second =
    MatchOption second (vec_len list + more ≤ vec_capacity list) (λ to. (to.items ≡ []) × (vec_len list + more ≤ vec_capacity to))
