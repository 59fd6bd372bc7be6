-- Walking comes to the places to which reading comes.
use Rattle.std.proofs.Common.{◌≡◌, ℕ, suc, ◌+◌, ◌-◌, ◌<◌, ◌≤◌, List, [], ◌∷◌, ◌++◌, length, Some, None, Result, Ok, Err, refl, sym, inl, inr, eqb, ltb, is_ok, arith}
use Rattle.std.proofs.lemmas.Bool.{cases_Bool, le-ltb}
use Rattle.dns_name.specs.Labels.{Labels}
use Rattle.dns_text.specs.declared.record.Data.{Data}
use Rattle.dns_text.specs.declared.record.Data.TheVariants.{One, Mx, Soa, Srv}
use Rattle.dns_wire.specs.declared.fault.WireFault.{WireFault}
use Rattle.dns_wire.specs.Read.Number.{u16_at, u32_at}
use Rattle.dns_wire.specs.Read.Rdata.{data_name_read, ending, one_read, mx_read, soa_read, srv_read}
use Rattle.dns_name.specs.Results.{◌>>=◌}
use Rattle.dns_wire.specs.Read.Section.{section_after}
use Rattle.dns_wire.proofs.SectionLoops.{section_more, section_done}
use Rattle.dns_wire.specs.Server.Walking.{is_end, ends_with_name, ends_with_numbers, soa_behind, is_soa}
use Rattle.dns_wire.specs.Read.Name.{place_after}

-- ---- data

module _ (m front : List ℕ) (at : ℕ) where
  ok_ending : (after : ℕ) (body : Data) → is_ok (ending front at after body) ≡ eqb after (length front)
  ok_ending after body =
      elim (cases_Bool (eqb after (length front))) [
        | inl is ↦ rw is refl
        | inr not ↦ rw not refl
      ]

  ok_name : (body : Labels → Data) (r : Result (Labels × ℕ) WireFault) → is_ok (r >>= λ name. ending front at name.1 (body name.0)) ≡ is_end front (place_after r)
  ok_name body (Ok x) = ok_ending x.1 (body x.0)
  ok_name body (Err fault) = refl

  pub ok_one : at ≤ length front → ends_with_name m front at at ≡ is_ok (one_read m front at)
  ok_one within = rw (le-ltb (length front) at within) (sym (ok_name One (data_name_read m front at at)))

  pub ok_mx : ends_with_name m front at (at + 2) ≡ is_ok (mx_read m front at)
  ok_mx =
      elim (cases_Bool (ltb (length front) (at + 2))) [
        | inl few ↦ rw few refl
        | inr enough ↦ rw enough (sym (ok_name (λ name. Mx (u16_at front at) name) (data_name_read m front at (at + 2))))
      ]

  pub ok_srv : ends_with_name m front at (at + 6) ≡ is_ok (srv_read m front at)
  ok_srv =
      elim (cases_Bool (ltb (length front) (at + 6))) [
        | inl few ↦ rw few refl
        | inr enough ↦ rw enough (sym (ok_name (λ name. Srv (u16_at front at) (u16_at front (at + 2)) (u16_at front (at + 4)) name) (data_name_read m front at (at + 6))))
      ]

  -- the start of authority after its first name, and after both
  abbrev soa_numbers : Labels → Labels × ℕ → Result Data WireFault
  soa_numbers primary mailbox =
      ending front at (mailbox.1 + 20) (Soa primary mailbox.0 (u32_at front mailbox.1) (u32_at front (mailbox.1 + 4)) (u32_at front (mailbox.1 + 8)) (u32_at front (mailbox.1 + 12)) (u32_at front (mailbox.1 + 16)))

  ok_numbers : (primary : Labels) (r : Result (Labels × ℕ) WireFault) → ends_with_numbers front (place_after r) ≡ is_ok (r >>= soa_numbers primary)
  ok_numbers primary (Ok x) = sym (ok_ending (x.1 + 20) _)
  ok_numbers primary (Err fault) = refl

  ok_second : (r : Result (Labels × ℕ) WireFault) → soa_behind m front at (place_after r) ≡ is_ok (r >>= λ primary. data_name_read m front at primary.1 >>= soa_numbers primary.0)
  ok_second (Ok x) = ok_numbers x.0 (data_name_read m front at x.1)
  ok_second (Err fault) = refl

  pub ok_soa : is_soa m front at ≡ is_ok (soa_read m front at)
  ok_soa = ok_second (data_name_read m front at at)

-- ---- sections

pub read_by : {A : Type 0} (r : Result (A × ℕ) WireFault) (next : ℕ) → place_after r ≡ Some next → (item : A) × (r ≡ Ok (item, next))
read_by (Ok x) next h = let e : x.1 ≡ next = cc in (x.0, rw (← e) refl)
read_by (Err fault) next h = absurd cc

fault_by : {A : Type 0} (r : Result (A × ℕ) WireFault) → place_after r ≡ None → (fault : WireFault) × (r ≡ Err fault)
fault_by (Ok x) h = absurd cc
fault_by (Err fault) h = (fault, refl)

module _ {A : Type 0} (read : ℕ → Result (A × ℕ) WireFault) (before : List A) (count i at : ℕ) where
  -- an item more was passed
  pub walk_more : (next : ℕ) → i < count → place_after (read at) ≡ Some next → (item : A) × (section_after read (before ++ item ∷ []) (count - (i + 1)) next ≡ section_after read before (count - i) at)
  walk_more next less here =
      let one = read_by (read at) next here in
      (one.0, section_more read before count i at (one.0, next) less one.1)

  pub walk_fails : (all : Result (List A × ℕ) WireFault) → i < count → place_after (read at) ≡ None → section_after read before (count - i) at ≡ all → place_after all ≡ None
  unfolding section_after
  walk_fails all less here told =
      let one = fault_by (read at) here in
      let k : count - i ≡ suc (count - (i + 1)) = omega arith in
      rw (← told, k, one.1) refl

  pub walk_done : (all : Result (List A × ℕ) WireFault) → count ≤ i → section_after read before (count - i) at ≡ all → place_after all ≡ Some at
  walk_done all past told = rw (← told, section_done read before count i at past) refl
