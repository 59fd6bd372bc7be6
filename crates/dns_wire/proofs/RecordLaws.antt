-- Reading a record gives the one that is there, and the first fault where none does.
use Rattle.std.proofs.Common.{◌≡◌, ℕ, ◌≤◌, List, length, take, Result, Ok, Err, refl, inl, inr, ltb, arith}
use Rattle.std.specs.Prelude.{MatchResult}
use Rattle.std.proofs.lemmas.Bool.{cases_Bool, le-ltb, lt-ltb, ltb-true, ltb-false}
use Rattle.std.proofs.lemmas.List.{length-take}
use Rattle.dns_name.specs.Labels.{Labels}
use Rattle.dns_text.specs.declared.record.Data.{Data}
use Rattle.dns_text.specs.declared.record.Record.{Record}
use Rattle.dns_wire.specs.declared.fault.WireFault.{WireFault}
use Rattle.dns_wire.specs.declared.message.Classed.{Classed}
use Rattle.dns_wire.specs.Read.Name.{SpelledName, UnspelledName, name_read}
use Rattle.dns_wire.specs.Read.Rdata.{DataAt, DataFails}
use Rattle.dns_name.specs.Results.{◌>>=◌}
use Rattle.dns_wire.specs.Read.Record.{data_begin, data_end, form_at, RecordAt, RecordFails, bad_owner, short, short_data, bad_data, record_with, record_behind, record_read}
use Rattle.dns_wire.proofs.NameLaws.{name_read-match, name_read-spelled, name_read-unspelled}
use Rattle.dns_wire.proofs.RdataLaws.{data_read-stands, data_read-fails, data_read-match}

-- where the RDATA begins is within the front that ends with it
begin_within : (m : List ℕ) (fixed : ℕ) → data_end m fixed ≤ length m → data_begin fixed ≤ length (take (data_end m fixed) m)
begin_within m fixed within = omega (arith, length-take (data_end m fixed) m)

-- a front has no more octets than the message
part_of : (m : List ℕ) (end : ℕ) → length (take end m) ≤ length m
part_of m end = omega (arith, length-take end m)

-- what is there is read
pub record_read-stands : {m : List ℕ} {at after : ℕ} {r : Classed Record} → at ≤ length m → RecordAt m at r after → record_read m at ≡ Ok (r, after)
unfolding record_read
record_read-stands {m} {at} {after} {r} within h =
    let fixed = h.fixed in
    let inside : data_end m fixed ≤ length m = omega (arith, h.ends, h.within) in
    let owner = name_read-spelled m at fixed r.item.owner within h.owner in
    let body = rw (h.ends, h.class, h.kind) at h.body in
    let read = data_read-stands (part_of m (data_end m fixed)) (begin_within m fixed inside) body in
    rw (owner, le-ltb (length m) (data_begin fixed) (omega arith), le-ltb (length m) (data_end m fixed) inside, read, ← h.kind, ← h.class, ← h.ttl, ← h.ends) refl

-- the first fault is told
pub record_read-fails : {m : List ℕ} {at : ℕ} {fault : WireFault} → at ≤ length m → RecordFails m at fault → record_read m at ≡ Err fault
unfolding record_read
record_read-fails {m} {at} {fault} within (bad_owner h) = rw (name_read-unspelled m at fault within h) refl
record_read-fails {m} {at} within (short {fixed = fixed} {name = name} h few) =
    rw (name_read-spelled m at fixed name within h, lt-ltb (length m) (data_begin fixed) few) refl
record_read-fails {m} {at} within (short_data {fixed = fixed} {name = name} h begun few) =
    rw (name_read-spelled m at fixed name within h, le-ltb (length m) (data_begin fixed) begun, lt-ltb (length m) (data_end m fixed) few) refl
record_read-fails {m} {at} {fault} within (bad_data {fixed = fixed} {name = name} h inside bad) =
    rw (name_read-spelled m at fixed name within h, le-ltb (length m) (data_begin fixed) (omega arith), le-ltb (length m) (data_end m fixed) inside, data_read-fails (part_of m (data_end m fixed)) (begin_within m fixed inside) bad) refl

with_match : (m : List ℕ) (at : ℕ) (x : Labels × ℕ) → SpelledName m at x.1 x.0 → data_end m x.1 ≤ length m → (r : Result Data WireFault) → MatchResult r (λ body. DataAt m (take (data_end m x.1) m) (data_begin x.1) (form_at m x.1) body) (λ e. DataFails m (take (data_end m x.1) m) (data_begin x.1) (form_at m x.1) e) → MatchResult (r >>= record_with m x) (λ y. RecordAt m at y.0 y.1) (λ e. RecordFails m at e)
with_match m at x name inside (Err e) h = bad_data name inside h
with_match m at x name inside (Ok body) h = record { fixed = x.1; owner = name; kind = refl; class = refl; ttl = refl; ends = refl; within = inside; body = h }

behind_match : (m : List ℕ) (at : ℕ) (r : Result (Labels × ℕ) WireFault) → MatchResult r (λ x. SpelledName m at x.1 x.0) (λ e. UnspelledName m at e) → MatchResult (r >>= record_behind m) (λ x. RecordAt m at x.0 x.1) (λ e. RecordFails m at e)
behind_match m at (Err e) h = bad_owner h
behind_match m at (Ok x) h =
    elim (cases_Bool (ltb (length m) (data_begin x.1))) [
      | inl few ↦ rw few (short h (ltb-true (length m) (data_begin x.1) few))
      | inr begun ↦ elim (cases_Bool (ltb (length m) (data_end m x.1))) [
        | inl few ↦ rw (begun, few) (short_data h (ltb-false (length m) (data_begin x.1) begun) (ltb-true (length m) (data_end m x.1) few))
        | inr enough ↦
            let inside : data_end m x.1 ≤ length m = ltb-false (length m) (data_end m x.1) enough in
            rw (begun, enough) (with_match m at x h inside _ (data_read-match m (take (data_end m x.1) m) (data_begin x.1) (form_at m x.1) (part_of m (data_end m x.1)) (begin_within m x.1 inside)))
      ]
    ]

-- what is read is there, and a fault is the first
pub record_read-match : (m : List ℕ) (at : ℕ) → at ≤ length m → MatchResult (record_read m at) (λ x. RecordAt m at x.0 x.1) (λ e. RecordFails m at e)
unfolding record_read
record_read-match m at within = behind_match m at (name_read m at) (name_read-match m at within)
