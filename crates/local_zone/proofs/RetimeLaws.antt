-- A new time to live of a set: in the list, and in the index.
use Rattle.std.proofs.Common.{◌≡◌, ℕ, zero, suc, ◌+◌, ◌<◌, Bool, true, false, ◌&&◌, ◌==◌, not, cond, List, [], ◌∷◌, ◌++◌, length, get_or, take, drop, map, slice_set, Some, None, refl, ap, sym, subst, ◌∙◌, arith, nat_eq}
use Rattle.std.specs.Map.{set_value}
use Rattle.std.specs.Cmp.Lexicographic.{pointwise}
use Rattle.dns_name.specs.Labels.{Labels, octets_of}
use Rattle.dns_name.specs.Order.{name_eq, name_eq_exact}
use Rattle.dns_text.specs.declared.record.Record.{Record}
use Rattle.local_zone.specs.Change.{retimed_by}
use Rattle.local_zone.specs.Show.{is_for, set_of}
use Rattle.local_zone.specs.Tables.{is_of_set}
use Rattle.local_zone.specs.Index.{of_owner, items_in, under, HoldSame, IsGrouped, IsIndexed}
use Rattle.local_zone.proofs.HeldLaws.{held_none, same_itself, same_left, same_retimed, same_right}
use Rattle.named_list.specs.ClosestLaws.{name_eq-swap}
use Rattle.std.specs.List.{list_any}
use Rattle.std.proofs.lemmas.Bool.{and_parts}
use Rattle.local_zone.proofs.ReasonLaws.{retimed_itself}
use Rattle.local_zone.proofs.IndexLaws.{index-write, owned-write, owned-some, any_of}
use Rattle.local_zone.proofs.CountsBelowLaws.{owner_kept}

-- ---- the walk over a list

module _ {X : Type 0} (f : X → X) where
  -- a list whose first items are changed
  abbrev pub so_far : ℕ → List X → List X
  so_far i xs = map f (take i xs) ++ drop i xs

  pub so_far-at : (xs : List X) (i : ℕ) (d : X) → get_or (so_far i xs) i d ≡ get_or xs i d
  so_far-at [] zero d = refl
  so_far-at [] (suc i) d = refl
  so_far-at (x ∷ xs) zero d = refl
  so_far-at (x ∷ xs) (suc i) d = so_far-at xs i d

  so_far-step : (xs : List X) (i : ℕ) (d x : X) → i < length xs → get_or xs i d ≡ x → slice_set (so_far i xs) i (f x) ≡ so_far (suc i) xs
  so_far-step [] i d x within at = absurd (omega arith)
  so_far-step (y ∷ xs) zero d x within at = ap (λ z. f z ∷ xs) (sym at)
  so_far-step (y ∷ xs) (suc i) d x within at = ap (λ zs. f y ∷ zs) (so_far-step xs i d x (omega arith) at)

  -- a step of the walk
  pub so_far-more : (before now after : List X) (i : ℕ) (d v : X) → now ≡ so_far i before → i < length before → after ≡ slice_set now i v → v ≡ f (get_or now i d) → after ≡ so_far (i + 1) before
  so_far-more before now after i d v far within is new =
      let x : X = get_or now i d in
      let at : get_or before i d ≡ x = sym (so_far-at before i d) ∙ ap (λ xs. get_or xs i d) (sym far) in
      let next : suc i ≡ i + 1 = omega arith in
      is ∙ ap (slice_set now i) new ∙ ap (λ xs. slice_set xs i (f x)) far ∙ so_far-step before i d x within at ∙ ap (λ n. so_far n before) next

-- ---- the records of an owner

pub own-retimed : (owner : Labels) (new : Record) (rs : List Record) → of_owner owner (map (retimed_by new) rs) ≡ map (retimed_by new) (of_owner owner rs)
own-retimed owner new [] = refl
own-retimed owner new (r ∷ rs) =
    ap (λ o. cond (name_eq o owner) (retimed_by new r ∷ of_owner owner (map (retimed_by new) rs)) (of_owner owner (map (retimed_by new) rs))) (owner_kept new r) ∙ by (name_eq r.owner owner) (own-retimed owner new rs)
  where
    by : (b : Bool) → of_owner owner (map (retimed_by new) rs) ≡ map (retimed_by new) (of_owner owner rs)
        → cond b (retimed_by new r ∷ of_owner owner (map (retimed_by new) rs)) (of_owner owner (map (retimed_by new) rs)) ≡ map (retimed_by new) (cond b (r ∷ of_owner owner rs) (of_owner owner rs))
    by true more = ap (λ (x : List Record). retimed_by new r ∷ x) more
    by false more = more

unaffected : (owner : Labels) (new r : Record) → name_eq new.owner owner ≡ false → name_eq r.owner owner ≡ true → retimed_by new r ≡ r
unaffected owner new r differ here =
    let other : name_eq r.owner new.owner ≡ false = name_eq-swap r.owner new.owner ∙ ap (name_eq new.owner) (name_eq_exact r.owner owner here) ∙ differ in
    ap (λ b. cond (b && r.kind == new.kind) (record r { ttl = new.ttl }) r) other

fixed : (owner : Labels) (new : Record) (rs : List Record) → name_eq new.owner owner ≡ false → map (retimed_by new) (of_owner owner rs) ≡ of_owner owner rs
fixed owner new [] differ = refl
fixed owner new (r ∷ rs) differ = by (name_eq r.owner owner) refl (fixed owner new rs differ)
  where
    by : (b : Bool) → name_eq r.owner owner ≡ b → map (retimed_by new) (of_owner owner rs) ≡ of_owner owner rs → map (retimed_by new) (cond b (r ∷ of_owner owner rs) (of_owner owner rs)) ≡ cond b (r ∷ of_owner owner rs) (of_owner owner rs)
    by true e more = λ i. unaffected owner new r differ e i ∷ more i
    by false e more = more

others-retimed : (owner : Labels) (new : Record) (rs : List Record) → name_eq new.owner owner ≡ false → of_owner owner (map (retimed_by new) rs) ≡ of_owner owner rs
others-retimed owner new rs differ = own-retimed owner new rs ∙ fixed owner new rs differ

nil_of_map : (f : Record → Record) (rs : List Record) → map f rs ≡ [] → rs ≡ []
nil_of_map f [] e = refl
nil_of_map f (r ∷ rs) e = absurd cc

none-retimed : (owner : Labels) (new : Record) (rs : List Record) → of_owner owner (map (retimed_by new) rs) ≡ [] → of_owner owner rs ≡ []
none-retimed owner new rs e = nil_of_map (retimed_by new) (of_owner owner rs) (sym (own-retimed owner new rs) ∙ e)

module _ {K G : Type 0} (octets : K → List ℕ) (items : G → List Record) where
  pub index-retime : (records : List Record) (es : List (K × G)) (new : Record) (g w : G) → IsIndexed octets items records es → under octets (octets_of new.owner) es ≡ Some g → items w ≡ map (retimed_by new) (items g)
      → IsIndexed octets items (map (retimed_by new) records) (set_value (λ k. pointwise nat_eq (octets_of new.owner) (octets k)) es w)
  index-retime records es new g w h found is =
      index-write octets items records (map (retimed_by new) records) es new.owner g w h found
      (same_left is (same_right (same_retimed new (items g) (of_owner new.owner records) (same_left (sym (ap (items_in items) found)) (h new.owner))) (sym (own-retimed new.owner new records))))
      (λ o differ. others-retimed o new records differ)

  pub index-no-set : (records : List Record) (es : List (K × G)) (new : Record) → IsIndexed octets items records es → under octets (octets_of new.owner) es ≡ None → IsIndexed octets items (map (retimed_by new) records) es
  index-no-set records es new h none owner = by (name_eq new.owner owner) refl
    where
      by : (b : Bool) → name_eq new.owner owner ≡ b → HoldSame (items_in items (under octets (octets_of owner) es)) (of_owner owner (map (retimed_by new) records))
      by true e =
          let empty : of_owner new.owner records ≡ [] = held_none (of_owner new.owner records) (same_left (sym (ap (items_in items) none)) (h new.owner)) in
          let none_there : of_owner new.owner (map (retimed_by new) records) ≡ [] = own-retimed new.owner new records ∙ ap (λ (x : List Record). map (retimed_by new) x) empty in
          let here : HoldSame (items_in items (under octets (octets_of new.owner) es)) (of_owner new.owner (map (retimed_by new) records)) = same_left (ap (items_in items) none) (same_right (same_itself []) (sym none_there)) in
          subst (λ o. HoldSame (items_in items (under octets (octets_of o) es)) (of_owner o (map (retimed_by new) records))) (name_eq_exact new.owner owner e) here
      by false e = same_right (h owner) (sym (others-retimed owner new records e))

  pub grouped-retime : (records : List Record) (es : List (K × G)) (new : Record) (g w : G) → IsGrouped octets items records es → under octets (octets_of new.owner) es ≡ Some g → items w ≡ map (retimed_by new) (items g)
      → IsGrouped octets items (map (retimed_by new) records) (set_value (λ k. pointwise nat_eq (octets_of new.owner) (octets k)) es w)
  grouped-retime records es new g w h found is = (
    index-retime records es new g w h.0 found is,
    owned-write octets items records (map (retimed_by new) records) es new.owner w h.1 (λ none. owned-some octets items records es new.owner g h.1 found (none-retimed new.owner new records none))
        (λ o differ. others-retimed o new records differ),
  )

  pub grouped-no-set : (records : List Record) (es : List (K × G)) (new : Record) → IsGrouped octets items records es → under octets (octets_of new.owner) es ≡ None → IsGrouped octets items (map (retimed_by new) records) es
  grouped-no-set records es new h none = (index-no-set records es new h.0 none, λ owner empty. h.1 owner (none-retimed owner new records empty))

-- where each record of the set has the time to live, nothing changes
pub same-times : (new : Record) (records : List Record) → list_any (λ r. is_of_set r new && not (r.ttl == new.ttl)) (set_of new.owner new.kind records) ≡ false → map (retimed_by new) records ≡ records
same-times new records e =
    retimed_itself new records (sym (any_of (λ (r : Record). is_of_set r new && not (r.ttl == new.ttl)) (is_for new.owner new.kind) (λ r h. (and_parts (is_of_set r new) (not (r.ttl == new.ttl)) h).0) records) ∙ e)
