-- The map from names to addresses, and the set that has the names of a list.
use Rattle.std.specs.Prelude.{◌≡◌, ◌==◌, ◌++◌, Bool, List, [], length, Vec}
use Rattle.std.specs.BTreeMap.{BTreeMap, get}
use Rattle.std.specs.BTreeSet as set
use Rattle.std.specs.Option.{option_map_or}
use Rattle.dns_name.specs.Labels.{Labels}
use Rattle.dns_name.specs.Order.{name_cmp, name_eq}
use Rattle.dns_text.specs.declared.addr.Addr.{Addr}
use Rattle.ranked.specs.Set.{is_among}

-- the addresses that a map has for a name
abbrev pub addrs_at : {A : Type 0} → BTreeMap Labels (Vec Addr A) → Labels → List Addr
addrs_at index name = option_map_or (λ addrs. addrs.items) (get name_cmp index name) []

-- whether a map has no address for a name
abbrev pub lacks_addr : {A : Type 0} → BTreeMap Labels (Vec Addr A) → Labels → Bool
lacks_addr index name = length (addrs_at index name) == 0

-- For each name a map has these addresses.
abbrev pub HasAddrs : {A : Type 0} → BTreeMap Labels (Vec Addr A) → (Labels → List Addr) → Type 0
HasAddrs index addrs = (name : Labels) → addrs_at index name ≡ addrs name

-- For each name these addresses came behind those that a map had.
abbrev pub AddsAddrs : {A : Type 0} → BTreeMap Labels (Vec Addr A) → (Labels → List Addr) → BTreeMap Labels (Vec Addr A) → Type 0
AddsAddrs index addrs index' = (name : Labels) → addrs_at index' name ≡ addrs_at index name ++ addrs name

-- The set has the names of the list.
abbrev pub HasEach : set.BTreeSet Labels → List Labels → Type 0
HasEach seen names = (name : Labels) → set.contains name_cmp seen name ≡ is_among name_eq names name
