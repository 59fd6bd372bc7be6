-- The records of one owner, and an index of such groups by owner.
use Rattle.std.specs.Prelude.{◌≡◌, ◌⊎◌, ℕ, false, List, [], ◌∷◌, ◌++◌, Option, None}
use Rattle.dns_name.specs.Labels.{Labels, octets_of}
use Rattle.dns_name.specs.Order.{name_eq}
use Rattle.dns_text.specs.declared.record.Record.{Record}
use Rattle.local_zone.specs.Index.{items_in, under, IsGrouped, IsIndexed}
use Rattle.local_zone.specs.declared.group.Group.{Group}
use Rattle.local_zone.specs.declared.group.Group.TheVariants.{Empty, One, Many}

-- the records, those of each type in order
abbrev pub records_held : Group → List Record
records_held Empty = []
records_held (One one) = one ∷ []
records_held (Many many) = many

-- what a group holds, if there is one
abbrev pub records_in : Option Group → List Record
records_in group = items_in (λ g. records_held g) group

-- the group of a name
abbrev pub group_of : Labels → List (Labels × Group) → Option Group
group_of name groups = under (λ k. octets_of k) (octets_of name) groups

-- No name has a group in both.
abbrev pub ShareNone : List (Labels × Group) → List (Labels × Group) → Type 0
ShareNone a b = (name : Labels) → (group_of name a ≡ None) ⊎ (group_of name b ≡ None)

-- Under each name are the records of this owner.
abbrev pub AreIndexed : List Record → List (Labels × Group) → Type 0
AreIndexed records groups = IsIndexed (λ k. octets_of k) (λ g. records_held g) records groups

-- Under each name are the records of this owner, and each group has records.
abbrev pub AreGrouped : List Record → List (Labels × Group) → Type 0
AreGrouped records groups = IsGrouped (λ k. octets_of k) (λ g. records_held g) records groups

-- An index has the same records as before.
abbrev pub IndexesSame : List (Labels × Group) → List (Labels × Group) → Type 0
IndexesSame old new = (records : List Record) → AreGrouped records old → AreGrouped records new

-- An index has what this makes of the records that it had.
abbrev pub IndexesChanged : (List Record → List Record) → List (Labels × Group) → List (Labels × Group) → Type 0
IndexesChanged change old new = (records : List Record) → AreGrouped records old → AreGrouped (change records) new

-- An index has the same records but for the last, if that has this owner and this TYPE.
abbrev pub IndexesAllButLast : Labels → ℕ → List (Labels × Group) → List (Labels × Group) → Type 0
IndexesAllButLast owner kind old new =
    (front : List Record) (last : Record) → last.owner ≡ owner → last.kind ≡ kind → AreGrouped (front ++ last ∷ []) old → AreGrouped front new

-- The same, but the owner may have an empty group now.
abbrev pub FindsAllButLast : Labels → ℕ → List (Labels × Group) → List (Labels × Group) → Type 0
FindsAllButLast owner kind old new =
    (front : List Record) (last : Record) → last.owner ≡ owner → last.kind ≡ kind → AreIndexed (front ++ last ∷ []) old → AreIndexed front new

-- Each name but this one has the group that it had.
abbrev pub KeepsOtherGroups : Labels → List (Labels × Group) → List (Labels × Group) → Type 0
KeepsOtherGroups owner old new = (other : Labels) → name_eq owner other ≡ false → group_of other new ≡ group_of other old

-- The name gets no group, if it had none.
abbrev pub GetsNoGroup : Labels → List (Labels × Group) → List (Labels × Group) → Type 0
GetsNoGroup name old new = group_of name old ≡ None → group_of name new ≡ None
