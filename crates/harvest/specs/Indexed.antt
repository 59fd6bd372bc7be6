-- The map from the key of a set of records to the place of the set.
use Rattle.std.specs.Prelude.{◌≡◌, ◌<◌, ℕ, List, Some, length, slice_index_or}
use Rattle.std.specs.BTreeMap.{BTreeMap, get}
use Rattle.std.specs.Ordering.{nat_cmp, ordering_then}
use Rattle.std.specs.declared.cmp.Ordering.{Ordering}
use Rattle.dns_name.specs.Labels.{Labels}
use Rattle.dns_name.specs.Order.{name_cmp}
use Rattle.ranked.specs.Rank.{level_of}
use Rattle.harvest.specs.Sets.{Key, Set}

-- a set's key in the map: the owner, the type and the rank
abbrev pub place_key : Key → Labels × (ℕ × ℕ)
place_key key = (key.owner, (key.kind, level_of key.rank))

-- the order of keys in the map: by owner, then type, then rank
abbrev pub place_cmp : Labels × (ℕ × ℕ) → Labels × (ℕ × ℕ) → Ordering
place_cmp a b = ordering_then (name_cmp a.0 b.0) (ordering_then (nat_cmp a.1.0 b.1.0) (nat_cmp a.1.1 b.1.1))

-- The map has the place of each set, and no other.
pub record IsIndex (places : BTreeMap (Labels × (ℕ × ℕ)) ℕ) (sets : List Set) : Type 0 where
  pub at : (i : ℕ) (d : Set) → i < length sets → get place_cmp places (place_key (slice_index_or sets i d).key) ≡ Some i
  pub within : (key : Labels × (ℕ × ℕ)) (i : ℕ) → get place_cmp places key ≡ Some i → i < length sets
  pub only : (key : Labels × (ℕ × ℕ)) (i : ℕ) (d : Set) → get place_cmp places key ≡ Some i → place_key (slice_index_or sets i d).key ≡ key
