-- Reading RDATA gives the data that is there, and the first fault where none does.
use Rattle.std.proofs.Common.{◌≡◌, ◌⊎◌, true, ℕ, suc, ◌+◌, ◌≤◌, List, [], ◌∷◌, length, drop, Option, Some, None, Result, Ok, Err, refl, sym, ap, subst, ◌∙◌, inl, inr, ltb, eqb, eq-eqb, arith}
use Rattle.std.specs.Prelude.{MatchResult}
use Rattle.std.proofs.lemmas.Bool.{cases_Bool, le-ltb, ltb-false, eqb-true}
use Rattle.dns_name.specs.Labels.{Labels}
use Rattle.dns_text.specs.declared.record.Data.{Data}
use Rattle.dns_text.specs.declared.record.Data.TheVariants.{One, Mx, Soa, Srv}
use Rattle.dns_text.specs.declared.kind.Form.{Form}
use Rattle.dns_text.specs.declared.kind.Form.TheVariants.{A as FormA, Aaaa as FormAaaa, Name as FormName, Mx as FormMx, Soa as FormSoa, Txt as FormTxt, Srv as FormSrv, Opaque as FormOpaque}
use Rattle.dns_wire.specs.declared.fault.WireFault.{WireFault}
use Rattle.dns_wire.specs.declared.fault.WireFault.TheVariants.{BadData}
use Rattle.dns_wire.specs.Read.Name.{SpelledIn, UnspelledIn, name_read_in}
use Rattle.dns_wire.specs.Read.Number.{u16_at, u32_at}
use Rattle.dns_wire.specs.Read.Rdata.{DataAt, ipv4, ipv6, one_name, mail, start, one_or_more, service, unknown, NamePlace, only, host, first_name, second_name, target, BadNameIn, DataFails, bad_name, formless, data_name_read, ending, one_read, mx_read, soa_read, srv_read, ipv4_read, ipv6_read, strings_after, txt_by, data_read}
use Rattle.dns_name.specs.Results.{◌>>=◌}
use Rattle.dns_wire.proofs.NameLaws.{name_read_in-match, name_read_in-spelled, name_read_in-unspelled, spelled_within}
use Rattle.dns_name.specs.ResultLaws.{match_weaker}
use Rattle.dns_wire.proofs.StringLaws.{strings_spelled, strings_found}

-- ---- what is there is read

module _ (m front : List ℕ) (at : ℕ) (part : length front ≤ length m) where
  data_name_read-spelled : (place after : ℕ) (labels : Labels) → place ≤ length front → SpelledIn m front place after labels → data_name_read m front at place ≡ Ok (labels, after)
  unfolding data_name_read
  data_name_read-spelled place after labels within h = name_read_in-spelled m front (BadData at) place after labels within part h

  data_name_read-fails : (place : ℕ) (fault : WireFault) → place ≤ length front → UnspelledIn m front (BadData at) place fault → data_name_read m front at place ≡ Err fault
  unfolding data_name_read
  data_name_read-fails place fault within h = name_read_in-unspelled m front (BadData at) place fault within part h

same : (n : ℕ) → eqb n n ≡ true
same n = eq-eqb n n refl

pub data_read-stands : {m front : List ℕ} {at : ℕ} {form : Form} {body : Data} → length front ≤ length m → at ≤ length front → DataAt m front at form body → data_read m front at form ≡ Ok body
unfolding data_read
data_read-stands {front = front} {at = at} part within (ipv4 is four) = rw (eq-eqb (length (drop at front)) 4 (ap length is ∙ four), is) refl
data_read-stands {front = front} {at = at} part within (ipv6 is sixteen) = rw (eq-eqb (length (drop at front)) 16 (ap length is ∙ sixteen), is) refl
data_read-stands {m} {front} {at} part within (one_name {name = name} h) = rw (data_name_read-spelled m front at part at (length front) name within h, same (length front)) refl
data_read-stands {m} {front} {at} part within (mail {name = name} room preference h) =
    rw (le-ltb (length front) (at + 2) room, data_name_read-spelled m front at part (at + 2) (length front) name room h, same (length front), preference) refl
data_read-stands {m} {front} {at} part within (start {second = second} {numbers = numbers} {primary = primary} {mailbox = mailbox} h k end serial refresh retry expire minimum) =
    rw (data_name_read-spelled m front at part at second primary within h, data_name_read-spelled m front at part second numbers mailbox (spelled_within h) k, eq-eqb (numbers + 20) (length front) end, serial, refresh, retry, expire, minimum) refl
data_read-stands {front = front} {at = at} part within (one_or_more {string = string} {strings = strings} is) = rw (strings_spelled (string ∷ strings) (drop at front) is) refl
data_read-stands {m} {front} {at} part within (service {target = name} room priority weight port h) =
    rw (le-ltb (length front) (at + 6) room, data_name_read-spelled m front at part (at + 6) (length front) name room h, same (length front), priority, weight, port) refl
data_read-stands part within (unknown is) = rw is refl

-- ---- a name that is none is told

name_told : {m front : List ℕ} {at : ℕ} {form : Form} {place : ℕ} {fault : WireFault} → length front ≤ length m → at ≤ length front → NamePlace m front at form place → UnspelledIn m front (BadData at) place fault → data_read m front at form ≡ Err fault
unfolding data_read
name_told {m} {front} {at} {fault = fault} part within (only {place = place} is) h =
    let e = rw is at (data_name_read-fails m front at part place fault (omega arith) h) in
    rw e refl
name_told {m} {front} {at} {fault = fault} part within (host {place = place} is room) h =
    let e = rw is at (data_name_read-fails m front at part place fault room h) in
    rw (le-ltb (length front) (at + 2) (omega arith), e) refl
name_told {m} {front} {at} {fault = fault} part within (first_name {place = place} is) h =
    let e = rw is at (data_name_read-fails m front at part place fault (omega arith) h) in
    rw e refl
name_told {m} {front} {at} {fault = fault} part within (second_name {place = place} {primary = primary} first) h =
    rw (data_name_read-spelled m front at part at place primary within first, data_name_read-fails m front at part place fault (spelled_within first) h) refl
name_told {m} {front} {at} {fault = fault} part within (target {place = place} is room) h =
    let e = rw is at (data_name_read-fails m front at part place fault room h) in
    rw (le-ltb (length front) (at + 6) (omega arith), e) refl

-- ---- what is read is there, and a fault is told for its reason

-- The reason for a fault: the form isn't there, or a name is none.
abbrev pub Reason : List ℕ → List ℕ → ℕ → Form → WireFault → Type 0
Reason m front at form fault = (fault ≡ BadData at) ⊎ BadNameIn m front at form fault

-- what reading data in a form answered, and why
abbrev pub Reads : List ℕ → List ℕ → ℕ → Form → Result Data WireFault → Type 0
Reads m front at form r = MatchResult r (λ body. DataAt m front at form body) (λ e. Reason m front at form e)

-- what reading a name in such data answered, and why
abbrev pub ReadsName : List ℕ → List ℕ → ℕ → Form → ℕ → Result (Labels × ℕ) WireFault → Type 0
ReadsName m front at form place r = MatchResult r (λ x. SpelledIn m front place x.1 x.0) (λ e. Reason m front at form e)

module _ (m front : List ℕ) (at : ℕ) (part : length front ≤ length m) where
  reads_name : (form : Form) (place : ℕ) → place ≤ length front → NamePlace m front at form place → ReadsName m front at form place (data_name_read m front at place)
  unfolding data_name_read
  reads_name form place within stands =
      match_weaker (name_read_in m front (BadData at) place) _ _ _ _ (name_read_in-match m front (BadData at) place within part)
      (λ x h. h)
      (λ e h. inr (record { place = place; stands = stands; unspelled = h }))

  reads_end : (form : Form) (after : ℕ) (body : Data) → (after ≡ length front → DataAt m front at form body) → Reads m front at form (ending front at after body)
  reads_end form after body stands =
      elim (cases_Bool (eqb after (length front))) [
        | inl is ↦ rw is (stands (eqb-true after (length front) is))
        | inr not ↦ rw not (inl refl)
      ]

  reads_last : (form : Form) (place : ℕ) (body : Labels → Data) → ((x : Labels × ℕ) → SpelledIn m front place (length front) x.0 → DataAt m front at form (body x.0)) → (r : Result (Labels × ℕ) WireFault) → ReadsName m front at form place r → Reads m front at form (r >>= λ name. ending front at name.1 (body name.0))
  reads_last form place body stands (Err e) h = h
  reads_last form place body stands (Ok x) h = reads_end form x.1 (body x.0) (λ e. stands x (subst (λ (a : ℕ). SpelledIn m front place a x.0) e h))

  reads_one : at ≤ length front → Reads m front at FormName (one_read m front at)
  reads_one within = reads_last FormName at (λ name. One name) (λ x h. one_name h) (data_name_read m front at at) (reads_name FormName at within (only refl))

  reads_mx : Reads m front at FormMx (mx_read m front at)
  reads_mx =
      elim (cases_Bool (ltb (length front) (at + 2))) [
        | inl few ↦ rw few (inl refl)
        | inr enough ↦
            let room : at + 2 ≤ length front = ltb-false (length front) (at + 2) enough in
            rw enough (reads_last FormMx (at + 2) (λ name. Mx (u16_at front at) name) (λ x h. mail room refl h) (data_name_read m front at (at + 2)) (reads_name FormMx (at + 2) room (host refl room)))
      ]

  reads_srv : Reads m front at FormSrv (srv_read m front at)
  reads_srv =
      elim (cases_Bool (ltb (length front) (at + 6))) [
        | inl few ↦ rw few (inl refl)
        | inr enough ↦
            let room : at + 6 ≤ length front = ltb-false (length front) (at + 6) enough in
            rw enough (reads_last FormSrv (at + 6) (λ name. Srv (u16_at front at) (u16_at front (at + 2)) (u16_at front (at + 4)) name) (λ x h. service room refl refl refl h) (data_name_read m front at (at + 6)) (reads_name FormSrv (at + 6) room (target refl room)))
      ]

  -- the start of authority after its first name, and after both
  abbrev soa_numbers : Labels → Labels × ℕ → Result Data WireFault
  soa_numbers primary mailbox =
      ending front at (mailbox.1 + 20) (Soa primary mailbox.0 (u32_at front mailbox.1) (u32_at front (mailbox.1 + 4)) (u32_at front (mailbox.1 + 8)) (u32_at front (mailbox.1 + 12)) (u32_at front (mailbox.1 + 16)))

  reads_numbers : (primary : Labels × ℕ) → SpelledIn m front at primary.1 primary.0 → (r : Result (Labels × ℕ) WireFault) → ReadsName m front at FormSoa primary.1 r → Reads m front at FormSoa (r >>= soa_numbers primary.0)
  reads_numbers primary first (Err e) h = h
  reads_numbers primary first (Ok x) h = reads_end FormSoa (x.1 + 20) _ (λ e. start first h e refl refl refl refl refl)

  reads_second : (r : Result (Labels × ℕ) WireFault) → ReadsName m front at FormSoa at r → Reads m front at FormSoa (r >>= λ primary. data_name_read m front at primary.1 >>= soa_numbers primary.0)
  reads_second (Err e) h = h
  reads_second (Ok x) h = reads_numbers x h (data_name_read m front at x.1) (reads_name FormSoa x.1 (spelled_within h) (second_name h))

  reads_soa : at ≤ length front → Reads m front at FormSoa (soa_read m front at)
  reads_soa within = reads_second (data_name_read m front at at) (reads_name FormSoa at within (first_name refl))

  reads_strings : (found : Option (List (List ℕ))) → strings_after (suc (length (drop at front))) [] (drop at front) ≡ found → Reads m front at FormTxt (txt_by at found)
  reads_strings None h = inl refl
  reads_strings (Some []) h = inl refl
  reads_strings (Some (string ∷ strings)) h = one_or_more (strings_found (string ∷ strings) (drop at front) h)

  reads_ipv4 : Reads m front at FormA (ipv4_read front at)
  reads_ipv4 =
      elim (cases_Bool (eqb (length (drop at front)) 4)) [
        | inl is ↦ rw is (ipv4 refl (eqb-true (length (drop at front)) 4 is))
        | inr not ↦ rw not (inl refl)
      ]

  reads_ipv6 : Reads m front at FormAaaa (ipv6_read front at)
  reads_ipv6 =
      elim (cases_Bool (eqb (length (drop at front)) 16)) [
        | inl is ↦ rw is (ipv6 refl (eqb-true (length (drop at front)) 16 is))
        | inr not ↦ rw not (inl refl)
      ]

  data_read-reads : (form : Form) → at ≤ length front → Reads m front at form (data_read m front at form)
  unfolding data_read
  data_read-reads FormA within = reads_ipv4
  data_read-reads FormAaaa within = reads_ipv6
  data_read-reads FormName within = reads_one within
  data_read-reads FormMx within = reads_mx
  data_read-reads FormSoa within = reads_soa within
  data_read-reads FormTxt within = reads_strings (strings_after (suc (length (drop at front))) [] (drop at front)) refl
  data_read-reads FormSrv within = reads_srv
  data_read-reads FormOpaque within = unknown refl

-- ---- the first fault is told, and only that

bad_name_told : {m front : List ℕ} {at : ℕ} {form : Form} {fault : WireFault} → length front ≤ length m → at ≤ length front → BadNameIn m front at form fault → data_read m front at form ≡ Err fault
bad_name_told part within h = name_told part within h.stands h.unspelled

pub data_read-fails : {m front : List ℕ} {at : ℕ} {form : Form} {fault : WireFault} → length front ≤ length m → at ≤ length front → DataFails m front at form fault → data_read m front at form ≡ Err fault
data_read-fails part within (bad_name h) = bad_name_told part within h
data_read-fails {m} {front} {at} {form} part within (formless no_other no_body) = by_reason (data_read m front at form) (data_read-reads m front at part form within)
  where
    by_reason : (r : Result Data WireFault) → Reads m front at form r → r ≡ Err (BadData at)
    by_reason (Ok body) h = absurd (no_body body h)
    by_reason (Err e) (inl is) = ap (λ x. Err x) is
    by_reason (Err e) (inr bad) = ap (λ x. Err x) (no_other e bad)

fails_by : (m front : List ℕ) (at : ℕ) (form : Form) → length front ≤ length m → at ≤ length front → (r : Result Data WireFault) → data_read m front at form ≡ r → Reads m front at form r → MatchResult r (λ body. DataAt m front at form body) (λ e. DataFails m front at form e)
fails_by m front at form part within (Ok body) is h = h
fails_by m front at form part within (Err e) is (inr bad) = bad_name bad
fails_by m front at form part within (Err e) is (inl badly) =
    let read : data_read m front at form ≡ Err (BadData at) = is ∙ ap (λ x. Err x) badly in
    rw badly (formless
    (λ fault bad. (let f = sym (bad_name_told part within bad) ∙ read in cc))
    (λ body stands. let e = sym (data_read-stands part within stands) ∙ read in cc))

pub data_read-match : (m front : List ℕ) (at : ℕ) (form : Form) → length front ≤ length m → at ≤ length front → MatchResult (data_read m front at form) (λ body. DataAt m front at form body) (λ e. DataFails m front at form e)
data_read-match m front at form part within = fails_by m front at form part within (data_read m front at form) refl (data_read-reads m front at part form within)
