-- Sets of records with the same owner, type and rank (RFC 2181, sections 5 and 5.2).
use Rattle.std.specs.Prelude.{◌≡◌, ◌≤◌, length, ℕ, Bool, ◌==◌, ◌&&◌, List, [], ◌∷◌, map, filter, min, if◌then◌else◌}
use Rattle.std.specs.List.{fold, list_any, AllByRecursion}
use Rattle.dns_name.specs.Labels.{Labels}
use Rattle.dns_name.specs.Order.{name_eq}
use Rattle.dns_text.specs.Data.{HasForm}
use Rattle.dns_text.specs.Equal.{data_eq}
use Rattle.dns_text.specs.declared.record.Data.{Data}
use Rattle.ranked.specs.Rank.{level_of}
use Rattle.ranked.specs.Set.{each_once, with_datum}
use Rattle.ranked.specs.declared.find.TheConstants.{LONGEST_TTL}
use Rattle.ranked.specs.declared.rank.Rank.{Rank}
use Rattle.harvest.specs.Counted.{Ranked}

-- The owner, type and rank that the records of a set have in common.
pub record Key : Type 0 where
  pub owner : Labels
  pub kind : ℕ
  pub rank : Rank

-- A set of records: its key, its TTL and its data.
pub record Set : Type 0 where
  pub key : Key
  pub ttl : ℕ
  pub data_in : List Data

-- the key of the set that a record is of
abbrev pub key_of : Ranked → Key
key_of r = record { owner = r.said.owner; kind = r.said.kind; rank = r.rank }

-- whether two keys are the same
abbrev pub same_key : Key → Key → Bool
same_key a b = level_of a.rank == level_of b.rank && (a.kind == b.kind && name_eq a.owner b.owner)

-- the records of the set with this key
abbrev pub own : Key → List Ranked → List Ranked
own key records = filter (λ r. same_key key (key_of r)) records

-- the least TTL of records, capped at a day
abbrev pub least_ttl : List Ranked → ℕ
least_ttl records = fold (λ least r. min least r.said.ttl) LONGEST_TTL records

-- the set with this key: the least TTL of its records, and their data in order, without duplicates
abbrev pub set_among : List Ranked → Key → Set
set_among records key = record { key = key; ttl = least_ttl (own key records); data_in = each_once data_eq (map (λ r. r.said.body) (own key records)) }

-- all sets of records, in the order of their first records
abbrev pub sets_of : List Ranked → List Set
sets_of records = map (set_among records) (each_once same_key (map key_of records))

-- The TTL and the data of a set of this type: a day at most; one datum or more, without duplicates, of the type's form.
pub record IsGathered (kind ttl : ℕ) (gathered : List Data) : Type 0 where
  pub cut : ttl ≤ LONGEST_TTL
  pub some : 1 ≤ length gathered
  pub once : each_once data_eq gathered ≡ gathered
  pub forms : AllByRecursion (HasForm kind) gathered

-- ---- one more record

-- whether a record is of this set
abbrev pub is_of_set : Ranked → Set → Bool
is_of_set r s = same_key s.key (key_of r)

-- the set with one more record, if the record is of the set
abbrev pub joined : Ranked → Set → Set
joined r s = if is_of_set r s then record { key = s.key; ttl = min s.ttl r.said.ttl; data_in = with_datum data_eq s.data_in r.said.body } else s

-- a new set of one record
abbrev pub begun : Ranked → Set
begun r = record { key = key_of r; ttl = min LONGEST_TTL r.said.ttl; data_in = r.said.body ∷ [] }

-- whether a record is of one of these sets
abbrev pub has_set : List Set → Ranked → Bool
has_set sets r = list_any (is_of_set r) sets
