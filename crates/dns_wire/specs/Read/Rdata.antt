-- RDATA by class and type (RFC 1035, sections 3.3 and 3.4; RFC 3596, section 2.2; RFC 2782). Here `front` is the front of
-- a message `m` that ends with the RDATA, and `at` is where the RDATA begins. A name's own octets are within it; after a
-- pointer the name may be anywhere in the message.
use Rattle.std.specs.Prelude.{◌≡◌, ℕ, zero, suc, ◌+◌, ◌≤◌, List, [], ◌∷◌, ◌++◌, length, take, drop, Option, Some, None, Result, Ok, Err, nat_lt, ◌==◌, if◌then◌else◌}
use Rattle.std.specs.List.{flat_map}
use Rattle.dns_name.specs.Labels.{Labels, with_length}
use Rattle.dns_text.specs.declared.record.Data.{Data}
use Rattle.dns_text.specs.declared.record.Data.TheVariants.{A, Aaaa, One, Mx, Soa, Txt, Srv, Opaque}
use Rattle.dns_text.specs.declared.kind.Form.{Form}
use Rattle.dns_text.specs.declared.kind.Form.TheVariants.{A as FormA, Aaaa as FormAaaa, Name as FormName, Mx as FormMx, Soa as FormSoa, Txt as FormTxt, Srv as FormSrv, Opaque as FormOpaque}
use Rattle.dns_wire.specs.declared.message.TheConstants.{CLASS_IN}
use Rattle.dns_wire.specs.declared.fault.WireFault.{WireFault}
use Rattle.dns_wire.specs.declared.fault.WireFault.TheVariants.{BadData}
use Rattle.dns_text.specs.Kind.{form_of}
use Rattle.dns_wire.specs.Read.Name.{SpelledIn, UnspelledIn, name_read_in}
use Rattle.dns_wire.specs.Read.Number.{u16_at, u32_at}
use Rattle.dns_name.specs.Results.{◌>>=◌}

-- ---- forms

-- the form of RDATA of a class and type; a class other than IN has no forms of its own
abbrev pub form_in : ℕ → ℕ → Form
form_in class kind = if class == CLASS_IN then form_of kind else FormOpaque

-- ---- the data of RDATA

-- The RDATA, all of it, is this data in this form.
pub data DataAt (m front : List ℕ) (at : ℕ) : Form → Data → Type 0 where
  ipv4 : {octets : List ℕ} → drop at front ≡ octets → length octets ≡ 4 → DataAt m front at FormA (A octets)
  ipv6 : {octets : List ℕ} → drop at front ≡ octets → length octets ≡ 16 → DataAt m front at FormAaaa (Aaaa octets)
  one_name : {name : Labels} → SpelledIn m front at (length front) name → DataAt m front at FormName (One name)
  mail : {preference : ℕ} {name : Labels} → at + 2 ≤ length front → preference ≡ u16_at front at
      → SpelledIn m front (at + 2) (length front) name → DataAt m front at FormMx (Mx preference name)
  start : {second numbers serial refresh retry expire minimum : ℕ} {primary mailbox : Labels}
      → SpelledIn m front at second primary → SpelledIn m front second numbers mailbox → numbers + 20 ≡ length front
      → serial ≡ u32_at front numbers → refresh ≡ u32_at front (numbers + 4) → retry ≡ u32_at front (numbers + 8)
      → expire ≡ u32_at front (numbers + 12) → minimum ≡ u32_at front (numbers + 16)
      → DataAt m front at FormSoa (Soa primary mailbox serial refresh retry expire minimum)
  one_or_more : {string : List ℕ} {strings : List (List ℕ)} → drop at front ≡ flat_map with_length (string ∷ strings)
      → DataAt m front at FormTxt (Txt (string ∷ strings))
  service : {priority weight port : ℕ} {target : Labels} → at + 6 ≤ length front
      → priority ≡ u16_at front at → weight ≡ u16_at front (at + 2) → port ≡ u16_at front (at + 4)
      → SpelledIn m front (at + 6) (length front) target → DataAt m front at FormSrv (Srv priority weight port target)
  unknown : {octets : List ℕ} → drop at front ≡ octets → DataAt m front at FormOpaque (Opaque octets)

-- ---- the first fault of RDATA

-- The form has a name at this place, if everything before it is valid.
pub data NamePlace (m front : List ℕ) (at : ℕ) : Form → ℕ → Type 0 where
  only : {place : ℕ} → place ≡ at → NamePlace m front at FormName place
  host : {place : ℕ} → place ≡ at + 2 → place ≤ length front → NamePlace m front at FormMx place
  first_name : {place : ℕ} → place ≡ at → NamePlace m front at FormSoa place
  second_name : {place : ℕ} {primary : Labels} → SpelledIn m front at place primary → NamePlace m front at FormSoa place
  target : {place : ℕ} → place ≡ at + 6 → place ≤ length front → NamePlace m front at FormSrv place

-- A name of the RDATA has this fault. If the name's own octets pass the end of the RDATA, the fault is that of the RDATA.
pub record BadNameIn (m front : List ℕ) (at : ℕ) (form : Form) (fault : WireFault) : Type 0 where
  pub place : ℕ
  pub stands : NamePlace m front at form place
  pub unspelled : UnspelledIn m front (BadData at) place fault

-- The RDATA is no data of this form: this is the first fault. It is the fault of a name, or else, if no name has another
-- fault, that the RDATA does not have the form.
pub data DataFails (m front : List ℕ) (at : ℕ) (form : Form) : WireFault → Type 0 where
  bad_name : {fault : WireFault} → BadNameIn m front at form fault → DataFails m front at form fault
  formless : ((fault : WireFault) → BadNameIn m front at form fault → fault ≡ BadData at) → ((body : Data) → ¬ (DataAt m front at form body))
      → DataFails m front at form (BadData at)

-- ---- reading

-- a name at a place of the RDATA
unfoldable pub data_name_read : List ℕ → List ℕ → ℕ → ℕ → Result (Labels × ℕ) WireFault
data_name_read m front at place = name_read_in m front (BadData at) place

-- the data, if it ends with the RDATA
abbrev pub ending : List ℕ → ℕ → ℕ → Data → Result Data WireFault
ending front at after body = if after == length front then Ok body else Err (BadData at)

-- one name
abbrev pub one_read : List ℕ → List ℕ → ℕ → Result Data WireFault
one_read m front at = data_name_read m front at at >>= λ name. ending front at name.1 (One name.0)

-- a preference and a name
abbrev pub mx_read : List ℕ → List ℕ → ℕ → Result Data WireFault
mx_read m front at =
    if nat_lt (length front) (at + 2) then Err (BadData at) else
    (data_name_read m front at (at + 2) >>= λ name. ending front at name.1 (Mx (u16_at front at) name.0))

-- two names and five numbers of 32 bits
abbrev pub soa_read : List ℕ → List ℕ → ℕ → Result Data WireFault
soa_read m front at =
    data_name_read m front at at >>= λ primary. data_name_read m front at primary.1 >>= λ mailbox. let numbers = mailbox.1 in
    ending front at (numbers + 20) (Soa primary.0 mailbox.0 (u32_at front numbers) (u32_at front (numbers + 4)) (u32_at front (numbers + 8)) (u32_at front (numbers + 12)) (u32_at front (numbers + 16)))

-- the string preceded by the length at the front, and the octets after it
abbrev pub first_string : List ℕ → Option (List ℕ × List ℕ)
first_string [] = None
first_string (n ∷ octets) = if nat_lt (length octets) n then None else Some (take n octets, drop n octets)

-- the strings before and the first string, then those of the octets after it
abbrev pub strings_by : List (List ℕ) → (List (List ℕ) → List ℕ → Option (List (List ℕ))) → Option (List ℕ × List ℕ) → Option (List (List ℕ))
strings_by before go None = None
strings_by before go (Some (string, rest)) = go (before ++ string ∷ []) rest

-- the strings before, and those that octets are, in a number of steps that is always enough
unfoldable pub strings_after : ℕ → List (List ℕ) → List ℕ → Option (List (List ℕ))
strings_after zero before octets = None
strings_after (suc steps) before [] = Some before
strings_after (suc steps) before (n ∷ octets) = strings_by before (λ b o. strings_after steps b o) (first_string (n ∷ octets))

-- TXT data of these strings, if there is one at least
abbrev pub txt_by : ℕ → Option (List (List ℕ)) → Result Data WireFault
txt_by at None = Err (BadData at)
txt_by at (Some []) = Err (BadData at)
txt_by at (Some (string ∷ strings)) = Ok (Txt (string ∷ strings))

-- strings, one or more
abbrev pub txt_read : List ℕ → ℕ → Result Data WireFault
txt_read front at = txt_by at (strings_after (suc (length (drop at front))) [] (drop at front))

-- three numbers of 16 bits and a name
abbrev pub srv_read : List ℕ → List ℕ → ℕ → Result Data WireFault
srv_read m front at =
    if nat_lt (length front) (at + 6) then Err (BadData at) else
    (data_name_read m front at (at + 6) >>= λ name. ending front at name.1 (Srv (u16_at front at) (u16_at front (at + 2)) (u16_at front (at + 4)) name.0))

-- four octets
abbrev pub ipv4_read : List ℕ → ℕ → Result Data WireFault
ipv4_read front at = if length (drop at front) == 4 then Ok (A (drop at front)) else Err (BadData at)

-- sixteen octets
abbrev pub ipv6_read : List ℕ → ℕ → Result Data WireFault
ipv6_read front at = if length (drop at front) == 16 then Ok (Aaaa (drop at front)) else Err (BadData at)

-- the data of RDATA in a form, or its first fault
unfoldable pub data_read : List ℕ → List ℕ → ℕ → Form → Result Data WireFault
data_read m front at FormA = ipv4_read front at
data_read m front at FormAaaa = ipv6_read front at
data_read m front at FormName = one_read m front at
data_read m front at FormMx = mx_read m front at
data_read m front at FormSoa = soa_read m front at
data_read m front at FormTxt = txt_read front at
data_read m front at FormSrv = srv_read m front at
data_read m front at FormOpaque = Ok (Opaque (drop at front))
