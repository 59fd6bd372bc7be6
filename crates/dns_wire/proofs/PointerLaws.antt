-- A name without a pointer is whole.
use Rattle.std.proofs.Common.{◌≡◌, ℕ, suc, ◌+◌, ◌-◌, ◌<◌, List, [], ◌∷◌, ◌++◌, length, take, drop, map, Option, Some, None, refl, sym, ap, ◌∙◌, append_assoc, inl, inr, eqb, ltb, arith}
use Rattle.std.specs.Prelude.{slice_get}
use Rattle.std.specs.Char.{to_ascii_lowercase}
use Rattle.std.proofs.Math.Seq.{drop-cons, take-add}
use Rattle.std.proofs.lemmas.Bool.{cases_Bool, eqb-true, lt-ltb, ltb-true}
use Rattle.std.proofs.lemmas.List.{drop-drop, length-map, length-take, length-drop, map-append}
use Rattle.std.proofs.lemmas.Option.{slice_get_within, get_or_from_slice_get}
use Rattle.dns_name.specs.Labels.{Labels, spelled, with_length}
use Rattle.dns_wire.specs.declared.read.place.Next.{Next}
use Rattle.dns_wire.specs.declared.read.place.Next.TheVariants.{Finish, Label, Pointer, Reserved}
use Rattle.dns_wire.specs.Server.Asking.{HasPointer, here, behind_label}
use Rattle.dns_wire.specs.Read.Place.{next_at, next_by, pointer_by, label_at}
use Rattle.dns_wire.specs.Read.Name.{NameAt, finish, label, pointer}
use Rattle.dns_wire.specs.Write.Name.{name_octets}

-- ---- what the octet at a place is, by what is there

-- where a label is there, its length
pub label_octet : (m : List ℕ) (at n : ℕ) (o : Option ℕ) → next_by m at o ≡ Label n → (o ≡ Some n) × (n < 64)
label_octet m at n None h = absurd cc
label_octet m at n (Some k) h =
    elim (cases_Bool (eqb k 0)) [
      | inl none ↦ absurd (let f : Finish ≡ Label n = (rw none at h) in cc)
      | inr some ↦ elim (cases_Bool (ltb k 64)) [
        | inl small ↦
            let f : Label k ≡ Label n = rw (some, small) at h in
            let e : k ≡ n = cc in
            (ap (λ x. Some x) e, omega (arith, ltb-true k 64 small))
        | inr large ↦ elim (cases_Bool (ltb k 192)) [
          | inl middle ↦ absurd (let f : Reserved ≡ Label n = (rw (some, large, middle) at h) in cc)
          | inr high ↦ absurd (no_label k n (slice_get m (at + 1)) (rw (some, large, high) at h))
        ]
      ]
    ]
  where
    no_label : (k n : ℕ) (o : Option ℕ) → ¬ (pointer_by k o ≡ Label n)
    no_label k n None h = absurd cc
    no_label k n (Some low) h = absurd cc

-- where a name ends, zero
finish_octet : (m : List ℕ) (at : ℕ) (o : Option ℕ) → next_by m at o ≡ Finish → o ≡ Some 0
finish_octet m at None h = absurd cc
finish_octet m at (Some k) h =
    elim (cases_Bool (eqb k 0)) [
      | inl none ↦ ap (λ x. Some x) (eqb-true k 0 none)
      | inr some ↦ elim (cases_Bool (ltb k 64)) [
        | inl small ↦ absurd (let f : Label k ≡ Finish = rw (some, small) at h in cc)
        | inr large ↦ elim (cases_Bool (ltb k 192)) [
          | inl middle ↦ absurd (let f : Reserved ≡ Finish = (rw (some, large, middle) at h) in cc)
          | inr high ↦ absurd (no_finish k (slice_get m (at + 1)) (rw (some, large, high) at h))
        ]
      ]
    ]
  where
    no_finish : (k : ℕ) (o : Option ℕ) → ¬ (pointer_by k o ≡ Finish)
    no_finish k None h = absurd cc
    no_finish k (Some low) h = absurd cc

-- what is from a place on begins with its octet
octet_front : (m : List ℕ) (at b : ℕ) → slice_get m at ≡ Some b → drop at m ≡ b ∷ drop (at + 1) m
octet_front m at b h =
    let next : suc at ≡ at + 1 = omega arith in
    drop-cons m at b (slice_get_within m at b h) ∙ rw (get_or_from_slice_get m at b b h, next) refl

-- ---- a pointer is at a place, or after a label there

pub pointer_behind : (m : List ℕ) (at n : ℕ) → next_at m at ≡ Label n → HasPointer m at → HasPointer m (at + 1 + n)
pointer_behind m at n e (here {to = to} h) = absurd (let f : Label n ≡ Pointer to = sym e ∙ h in cc)
pointer_behind m at n e (behind_label {n = k} h rest) =
    let f : Label n ≡ Label k = sym e ∙ h in
    let same : k ≡ n = cc in
    rw same at rest

pub no_pointer : (m : List ℕ) (at : ℕ) (next : Next) → next_at m at ≡ next → ((n : ℕ) → ¬ (next ≡ Label n)) → ((to : ℕ) → ¬ (next ≡ Pointer to)) → ¬ (HasPointer m at)
no_pointer m at next e not_label not_pointer (here {to = to} h) = not_pointer to (sym e ∙ h)
no_pointer m at next e not_label not_pointer (behind_label {n = n} h rest) = not_label n (sym e ∙ h)

-- where a name ends, no pointer is there
pub ends_whole : (m : List ℕ) (at : ℕ) → next_at m at ≡ Finish → ¬ (HasPointer m at)
ends_whole m at e h = no_pointer m at Finish e (λ n is. (cc)) (λ to is. (cc)) h

-- ---- names without a pointer

-- The octets from a place to the one after its name are those of the name, in whatever case.
pub record IsWhole (m : List ℕ) (at after : ℕ) (labels : Labels) : Type 0 where
  pub before : at < after
  pub lower : map to_ascii_lowercase (take (after - at) (drop at m)) ≡ name_octets labels

small_lower : (n : ℕ) → n < 64 → to_ascii_lowercase n ≡ n
small_lower n small = rw (lt-ltb n 65 (omega (arith, small))) refl

pub name_whole : {m front : List ℕ} {at run after : ℕ} {labels : Labels} → NameAt m front at run after labels → ¬ (HasPointer front at) → IsWhole front at after labels
name_whole {front = m} {at = at} {after = after} (finish e is) whole =
    let front = octet_front m at 0 (finish_octet m at (slice_get m at) e) in
    let one : after - at ≡ 1 = omega arith in
    record { before = omega arith; lower = rw (one, front) refl }
name_whole {front = m} {at = at} {after = after} (label {n = n} {labels = labels} e inside rest) whole =
    let octet = label_octet m at n (slice_get m at) e in
    let front = octet_front m at n octet.0 in
    let behind = name_whole rest (λ h. whole (behind_label e h)) in
    let text = label_at m at n in
    let long : length text ≡ n = omega (arith, length-map (take n (drop (at + 1) m)) to_ascii_lowercase, length-take n (drop (at + 1) m), length-drop (at + 1) m) in
    let size : after - at ≡ suc (n + (after - (at + 1 + n))) = omega (arith, behind.before) in
    let parts : take (n + (after - (at + 1 + n))) (drop (at + 1) m) ≡ take n (drop (at + 1) m) ++ take (after - (at + 1 + n)) (drop (at + 1 + n) m) =
    take-add n (after - (at + 1 + n)) (drop (at + 1) m) ∙ ap (λ (x : List ℕ). take n (drop (at + 1) m) ++ take (after - (at + 1 + n)) x) (drop-drop n (at + 1) m) in
    let low : map to_ascii_lowercase (take (after - at) (drop at m)) ≡ n ∷ (text ++ name_octets labels) =
    rw (size, front, parts, small_lower n octet.1, map-append to_ascii_lowercase (take n (drop (at + 1) m)) (take (after - (at + 1 + n)) (drop (at + 1 + n) m)), behind.lower) refl in
    record {
      before = omega (arith, behind.before);
      lower = low ∙ ap (λ (k : ℕ). k ∷ (text ++ name_octets labels)) (sym long) ∙ sym (append_assoc (with_length text) (spelled labels) (0 ∷ []));
    }
name_whole (pointer e before is rest) whole = absurd (whole (here e))
