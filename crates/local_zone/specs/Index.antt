-- The records of an owner, and an index of them.
use Rattle.std.specs.Prelude.{◌≡◌, ℕ, ◌==◌, List, [], ◌∷◌, ◌++◌, length, Option, None, Some, nat_eq}
use Rattle.std.specs.List.{filter}
use Rattle.std.specs.Map.{lookup}
use Rattle.std.specs.Cmp.Lexicographic.{pointwise}
use Rattle.dns_name.specs.Labels.{Labels, octets_of}
use Rattle.dns_name.specs.Order.{name_eq}
use Rattle.dns_text.specs.declared.record.Record.{Record}

-- the records of an owner, in order
abbrev pub of_owner : Labels → List Record → List Record
of_owner owner records = filter (λ r. name_eq r.owner owner) records

-- the records of a type, in order
abbrev pub of_kind : ℕ → List Record → List Record
of_kind kind records = filter (λ r. r.kind == kind) records

-- These are as many records as those, and the same of each type, in the same order.
pub record HoldSame (held all : List Record) : Type 0 where
  pub sets : (kind : ℕ) → of_kind kind held ≡ of_kind kind all
  pub count : length held ≡ length all

-- what a group holds, if there is one
abbrev pub items_in : {G : Type 0} → (G → List Record) → Option G → List Record
items_in items None = []
items_in items (Some group) = items group

-- the group under a run of octets
abbrev pub under : {K G : Type 0} → (K → List ℕ) → List ℕ → List (K × G) → Option G
under octets spelled groups = lookup (λ k. pointwise nat_eq spelled (octets k)) groups

-- Under the octets of each name are the records of this owner.
abbrev pub IsIndexed : {K G : Type 0} → (K → List ℕ) → (G → List Record) → List Record → List (K × G) → Type 0
IsIndexed octets items records groups = (owner : Labels) → HoldSame (items_in items (under octets (octets_of owner) groups)) (of_owner owner records)

-- There is no group but of an owner that has records.
abbrev pub AreOwned : {K G : Type 0} → (K → List ℕ) → List Record → List (K × G) → Type 0
AreOwned octets records groups = (owner : Labels) → of_owner owner records ≡ [] → under octets (octets_of owner) groups ≡ None

-- Under the octets of each name are the records of this owner, and each group has records.
abbrev pub IsGrouped : {K G : Type 0} → (K → List ℕ) → (G → List Record) → List Record → List (K × G) → Type 0
IsGrouped octets items records groups = IsIndexed octets items records groups × AreOwned octets records groups

-- These records are those and one more, which is the last.
abbrev pub HoldOneMore : Record → List Record → List Record → Type 0
HoldOneMore new old held = (all : List Record) → HoldSame old all → HoldSame held (all ++ new ∷ [])

-- These records are those but for the last, if that has this TYPE.
abbrev pub HoldAllButLast : ℕ → List Record → List Record → Type 0
HoldAllButLast kind old held = (front : List Record) (last : Record) → last.kind ≡ kind → HoldSame old (front ++ last ∷ []) → HoldSame held front
