-- What the set of an owner and type, or the number of an owner's records, tells of all records.
use Rattle.std.proofs.Common.{◌≡◌, ℕ, zero, suc, ◌+◌, Bool, true, false, ◌&&◌, not, cond, nat_lt, List, [], ◌∷◌, filter, length, slice_get, None, Some, refl, sym, ◌∙◌, arith}
use Rattle.std.specs.List.{list_any, find}
use Rattle.std.proofs.lemmas.Bool.{and_parts, lt-ltb, le-ltb}
use Rattle.dns_name.specs.Order.{name_eq}
use Rattle.dns_text.specs.Equal.{data_eq}
use Rattle.dns_text.specs.declared.record.Record.{Record}
use Rattle.dns_text.specs.declared.types.TheConstants.{CNAME}
use Rattle.local_zone.specs.declared.zone.Zone.{Zone}
use Rattle.local_zone.specs.Change.{is_there}
use Rattle.local_zone.specs.Index.{of_owner}
use Rattle.local_zone.specs.Reason.{clashes, differ}
use Rattle.local_zone.specs.Show.{is_for, set_of}
use Rattle.local_zone.specs.Tables.{is_cname, is_of_set, is_same}
use Rattle.local_zone.proofs.CountLaws.{any_some, more_pass}
use Rattle.local_zone.proofs.IndexLaws.{any_of}

-- ---- what is sought among all is sought among those that may pass

-- the first that passes
pub find_first : {X : Type 0} (p : X → Bool) (xs : List X) → find p xs ≡ slice_get (filter p xs) 0
find_first p [] = refl
find_first p (x ∷ xs) = by (p x) (find_first p xs)
  where
    by : (b : Bool) → find p xs ≡ slice_get (filter p xs) 0 → cond b (Some x) (find p xs) ≡ slice_get (cond b (x ∷ filter p xs) (filter p xs)) 0
    by true more = refl
    by false more = more

-- where none is found, none passes
pub find_none : {X : Type 0} (p : X → Bool) (xs : List X) → find p xs ≡ None → filter p xs ≡ []
find_none {X} p xs e = by (filter p xs) (sym (find_first p xs) ∙ e)
  where
    by : (ys : List X) → slice_get ys 0 ≡ None → ys ≡ []
    by [] e = refl
    by (y ∷ ys) e = absurd cc

-- only a record of the set says the same
pub there_in_set : (new : Record) (records : List Record) → is_there (set_of new.owner new.kind records) new ≡ is_there records new
there_in_set new records = any_of (λ (r : Record). is_same r new) (is_for new.owner new.kind) (λ r e. (and_parts (is_of_set r new) (data_eq r.body new.body) e).0) records

-- ---- a CNAME among an owner's records

beside_cname : (own alias : Bool) → (own && differ alias true) ≡ (own && not (own && alias))
beside_cname true true = refl
beside_cname true false = refl
beside_cname false alias = refl

beside_other : (own alias : Bool) → (own && differ alias false) ≡ (own && alias)
beside_other own true = refl
beside_other own false = refl

-- There are others where the part is less than the whole.
some_other : (whole part others : ℕ) → whole ≡ part + others → nat_lt 0 others ≡ nat_lt part whole
some_other whole part zero e = sym (le-ltb part whole (omega (arith, e)))
some_other whole part (suc others) e = lt-ltb 0 (suc others) (omega arith) ∙ sym (lt-ltb part whole (omega (arith, e)))

-- A CNAME clashes where the owner has more records than CNAMEs.
pub cname_clashes : (new : Record) (zones : List Zone) (records : List Record) → is_cname new.kind ≡ true
    → nat_lt (length (set_of new.owner CNAME records)) (length (of_owner new.owner records)) ≡ clashes new (record { zones = zones; records = records })
cname_clashes new zones records is =
    let own : Record → Bool = λ r. name_eq r.owner new.owner in
    let alias : Record → Bool = is_for new.owner CNAME in
    let other : Record → Bool = λ r. own r && not (alias r) in
    let more = more_pass own alias (λ r e. (and_parts (name_eq r.owner new.owner) (is_cname r.kind) e).0) records in
    sym (
    (λ i. list_any (λ (r : Record). name_eq r.owner new.owner && differ (is_cname r.kind) (is i)) records)
    ∙ (λ i. list_any (λ (r : Record). beside_cname (name_eq r.owner new.owner) (is_cname r.kind) i) records)
    ∙ any_some other records
    ∙ some_other (length (filter own records)) (length (filter alias records)) (length (filter other records)) more
    )

-- Any other record clashes where the owner has a CNAME.
pub other_clashes : (new : Record) (zones : List Zone) (records : List Record) → is_cname new.kind ≡ false
    → nat_lt 0 (length (set_of new.owner CNAME records)) ≡ clashes new (record { zones = zones; records = records })
other_clashes new zones records is =
    sym (
    (λ i. list_any (λ (r : Record). name_eq r.owner new.owner && differ (is_cname r.kind) (is i)) records)
    ∙ (λ i. list_any (λ (r : Record). beside_other (name_eq r.owner new.owner) (is_cname r.kind) i) records)
    ∙ any_some (is_for new.owner CNAME) records
    )
