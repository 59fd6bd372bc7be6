-- Names in messages.
use Rattle.std.proofs.Common.{◌≡◌, ℕ, ◌+◌, ◌<◌, ◌≤◌, List, [], ◌∷◌, ◌++◌, length, take, drop, Option, Some, None, refl, sym, ap, subst, ◌∙◌, append_assoc, arith}
use Rattle.std.specs.Prelude.{unwrap_or}
use Rattle.std.specs.Char.{to_ascii_lowercase}
use Rattle.std.proofs.lemmas.List.{append-nil, length-map, length-take, length-drop}
use Rattle.dns_name.specs.declared.limits.TheConstants.{MAX_NAME_OCTETS}
use Rattle.dns_name.specs.Labels.{Labels, spelled}
use Rattle.dns_name.specs.Octets.{length-spelled_push}
use Rattle.dns_wire.specs.declared.read.place.Next.TheVariants.{Finish, Label, Pointer}
use Rattle.dns_wire.specs.declared.fault.WireFault.{WireFault}
use Rattle.dns_wire.specs.declared.fault.WireFault.TheVariants.{Short}
use Rattle.dns_wire.specs.Read.Chains.{PointersLead, there, back}
use Rattle.dns_wire.specs.Read.Place.{next_at, label_at}
use Rattle.dns_wire.specs.Read.Name.{NameAt, finish, label, pointer, NameFails, after_label, after_pointer}

-- What is found after the labels so far completes the name that began at start, in a front with this ending.
pub record Reads (m first : List ℕ) (ending : WireFault) (start : ℕ) (labels : Labels) (front : List ℕ) (beyond : WireFault) (at run : ℕ) (after : Option ℕ) : Type 0 where
  pub name : (rest : Labels) (end : ℕ) → NameAt m front at run end rest → NameAt m first start start (unwrap_or after end) (labels ++ rest)
  pub fault : (fault : WireFault) → NameFails m start front beyond (length (spelled labels)) at run fault → NameFails m start first ending 0 start start fault

pub reads_none : (m first : List ℕ) (ending : WireFault) (start : ℕ) → Reads m first ending start [] first ending start start None
reads_none m first ending start = record { name = λ rest end h. h; fault = λ fault h. h }

pub reads_finish : {m first : List ℕ} {ending : WireFault} {start : ℕ} {labels : Labels} {front : List ℕ} {beyond : WireFault} {at run : ℕ} {after : Option ℕ} → Reads m first ending start labels front beyond at run after → next_at front at ≡ Finish → (name : Labels) (end : ℕ) → name ≡ labels → end ≡ unwrap_or after (at + 1) → NameAt m first start start end name
reads_finish {m} {first} {start = start} {labels = labels} {at = at} {after = after} h here name end is_name is_end =
    let found = h.name [] (at + 1) (finish here refl) in
    let is : labels ++ [] ≡ name = append-nil labels ∙ sym is_name in
    rw is_end (subst (NameAt m first start start (unwrap_or after (at + 1))) is found)

pub reads_label : {m first : List ℕ} {ending : WireFault} {start : ℕ} {labels : Labels} {front : List ℕ} {beyond : WireFault} {at run : ℕ} {after : Option ℕ} → Reads m first ending start labels front beyond at run after → (n : ℕ) → next_at front at ≡ Label n → length (spelled labels) + n + 2 ≤ MAX_NAME_OCTETS → at + 1 + n ≤ length front → (one : List ℕ) → one ≡ label_at front at n → Reads m first ending start (labels ++ one ∷ []) front beyond (at + (n + 1)) run after
reads_label {m} {first} {start = start} {labels = labels} {front = front} {at = at} {after = after} h n here room within one is =
    let next : at + (n + 1) ≡ at + 1 + n = omega arith in
    let long : length one ≡ n = omega (arith, ap length is, length-map (take n (drop (at + 1) front)) to_ascii_lowercase, length-take n (drop (at + 1) front), length-drop (at + 1) front, within) in
    record {
      name = λ rest end found. subst (NameAt m first start start (unwrap_or after end)) (sym (append_assoc labels (one ∷ []) rest)) (h.name (one ∷ rest) end (rw is (label here within (rw next at found))));
      fault = λ fault found. h.fault fault (after_label here room within (rw (length-spelled_push labels one, long, next) at found));
    }

pub reads_pointer : {m first : List ℕ} {ending : WireFault} {start : ℕ} {labels : Labels} {front : List ℕ} {beyond : WireFault} {at run : ℕ} {after : Option ℕ} → Reads m first ending start labels front beyond at run after → (to : ℕ) → next_at front at ≡ Pointer to → to < run → Reads m first ending start labels m Short to to (Some (unwrap_or after (at + 2)))
reads_pointer {at = at} h to here before =
    record {
      name = λ rest end found. h.name rest (at + 2) (pointer here before refl found);
      fault = λ fault found. h.fault fault (after_pointer here before found);
    }

-- Pointers that lead on from after one are followed by one step.
pub reads_leads : {m first : List ℕ} {ending : WireFault} {start : ℕ} {labels : Labels} {to end after : ℕ} → PointersLead m to end → Reads m first ending start labels m Short to to (Some after) → Reads m first ending start labels m Short end end (Some after)
reads_leads (there is) h = rw is h
reads_leads (back {to = next} here before rest) h = reads_leads rest (reads_pointer h next here before)

pub leads_back : {m : List ℕ} {at end : ℕ} → PointersLead m at end → end ≤ at
leads_back (there is) = omega arith
leads_back (back here before rest) = omega (arith, leads_back rest)

-- what a front ends with after a pointer, or before one
abbrev pub ending_of : WireFault → Option ℕ → WireFault
ending_of ending None = ending
ending_of ending (Some after) = Short
