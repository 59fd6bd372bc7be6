-- The data of records as text: the data that a text stands for, how it is read, and how data is written.
use Rattle.std.specs.Prelude.{◌≡◌, ℕ, ◌<◌, ◌+◌, List, ◌∷◌, ◌++◌, [], length, ◌↔◌, Option, Some, option_map, decimal}
use Rattle.std.specs.List.{AllByRecursion, AllByRecursion-prop}
use Rattle.std.specs.Coded.{Coded-set, coded_ℕ, ×_prop, Unit-prop, le_prop}
use Rattle.dns_name.specs.Labels.{Labels}
use Rattle.dns_name.specs.Text.{IsNameText, text_of}
use Rattle.dns_text.specs.declared.record.Data.{Data}
use Rattle.dns_text.specs.declared.record.Data.TheVariants.{A, Aaaa, One, Mx, Soa, Txt, Srv, Opaque}
use Rattle.dns_text.specs.contracts.kind.Form as form_type
use Rattle.dns_text.specs.declared.kind.Form.{Form}
use Rattle.dns_text.specs.declared.kind.Form.TheVariants.{A as FormA, Aaaa as FormAaaa, Name as FormName, Mx as FormMx, Soa as FormSoa, Txt as FormTxt, Srv as FormSrv, Opaque as FormOpaque}
use Rattle.dns_text.specs.declared.number.TheConstants.{MOST_16, MOST_32}
use Rattle.dns_text.specs.declared.string.TheConstants.{MOST_STRING}
use Rattle.dns_text.specs.Field.{name_at, last_name, number_at, last_number}
use Rattle.dns_text.specs.Ipv4.{IsIpv4Text, ipv4_in, ipv4_text}
use Rattle.dns_text.specs.Ipv6.{IsIpv6Text, ipv6_in, ipv6_text}
use Rattle.dns_text.specs.Number.{IsNumberText}
use Rattle.dns_text.specs.Opaque.{IsOpaqueText, octets_in, opaque_text}
use Rattle.dns_text.specs.String.{IsStringsText, strings_in, strings_text}
use Rattle.dns_text.specs.Kind.{form_of}
use Rattle.dns_text.specs.Word.{AreWords, only_word}
use Rattle.dns_name.specs.Options.{◌>>=◌}

-- ---- what a text stands for

-- The text is a preference and an exchange (RFC 1035, section 3.3.9).
pub record IsMxText (text : List ℕ) (preference : ℕ) (exchange : Labels) : Type 0 where
  pub first : List ℕ
  pub second : List ℕ
  pub parts : AreWords text (first ∷ second ∷ [])
  pub number : IsNumberText MOST_16 first preference
  pub name : IsNameText second exchange

-- The text is two names and five numbers of 32 bits (RFC 1035, section 3.3.13).
pub record IsSoaText (text : List ℕ) (primary mailbox : Labels) (serial refresh retry expire minimum : ℕ) : Type 0 where
  pub first : List ℕ
  pub second : List ℕ
  pub third : List ℕ
  pub fourth : List ℕ
  pub fifth : List ℕ
  pub sixth : List ℕ
  pub seventh : List ℕ
  pub parts : AreWords text (first ∷ second ∷ third ∷ fourth ∷ fifth ∷ sixth ∷ seventh ∷ [])
  pub primary_name : IsNameText first primary
  pub mailbox_name : IsNameText second mailbox
  pub serial_number : IsNumberText MOST_32 third serial
  pub refresh_number : IsNumberText MOST_32 fourth refresh
  pub retry_number : IsNumberText MOST_32 fifth retry
  pub expire_number : IsNumberText MOST_32 sixth expire
  pub minimum_number : IsNumberText MOST_32 seventh minimum

-- The text is three numbers of 16 bits and a name (RFC 2782).
pub record IsSrvText (text : List ℕ) (priority weight port : ℕ) (target : Labels) : Type 0 where
  pub first : List ℕ
  pub second : List ℕ
  pub third : List ℕ
  pub fourth : List ℕ
  pub parts : AreWords text (first ∷ second ∷ third ∷ fourth ∷ [])
  pub priority_number : IsNumberText MOST_16 first priority
  pub weight_number : IsNumberText MOST_16 second weight
  pub port_number : IsNumberText MOST_16 third port
  pub target_name : IsNameText fourth target

-- The words of a text stand for this data, in the data's own form.
abbrev pub AreDataWords : List ℕ → Data → Type 0
AreDataWords text (A octets) = (word : List ℕ) × AreWords text (word ∷ []) × IsIpv4Text word octets
AreDataWords text (Aaaa octets) = (word : List ℕ) × AreWords text (word ∷ []) × IsIpv6Text word octets
AreDataWords text (One name) = (word : List ℕ) × AreWords text (word ∷ []) × IsNameText word name
AreDataWords text (Mx preference exchange) = IsMxText text preference exchange
AreDataWords text (Soa primary mailbox serial refresh retry expire minimum) = IsSoaText text primary mailbox serial refresh retry expire minimum
AreDataWords text (Srv priority weight port target) = IsSrvText text priority weight port target
AreDataWords text (Opaque octets) = IsOpaqueText text octets
AreDataWords text (Txt strings) = IsStringsText text strings

-- the form of data
abbrev pub form_in : Data → Form
form_in (A octets) = FormA
form_in (Aaaa octets) = FormAaaa
form_in (One name) = FormName
form_in (Mx preference exchange) = FormMx
form_in (Soa primary mailbox serial refresh retry expire minimum) = FormSoa
form_in (Txt strings) = FormTxt
form_in (Srv priority weight port target) = FormSrv
form_in (Opaque octets) = FormOpaque

-- The text stands for data of this type.
pub record IsDataText (kind : ℕ) (text : List ℕ) (body : Data) : Type 0 where
  pub form : form_of kind ≡ form_in body
  pub words : AreDataWords text body

-- ---- reading

-- MX data of a text: preference and exchange
unfoldable pub mx_in : List ℕ → Option Data
mx_in text = do
  preference ← number_at MOST_16 text
  exchange ← last_name preference.1
  Some (Mx preference.0 exchange)

-- SOA data of a text: two names and five numbers of 32 bits
unfoldable pub soa_in : List ℕ → Option Data
soa_in text = do
  primary ← name_at text
  mailbox ← name_at primary.1
  serial ← number_at MOST_32 mailbox.1
  refresh ← number_at MOST_32 serial.1
  retry ← number_at MOST_32 refresh.1
  expire ← number_at MOST_32 retry.1
  minimum ← last_number MOST_32 expire.1
  Some (Soa primary.0 mailbox.0 serial.0 refresh.0 retry.0 expire.0 minimum)

-- SRV data of a text: three numbers of 16 bits and a name
unfoldable pub srv_in : List ℕ → Option Data
srv_in text = do
  priority ← number_at MOST_16 text
  weight ← number_at MOST_16 priority.1
  port ← number_at MOST_16 weight.1
  target ← last_name port.1
  Some (Srv priority.0 weight.0 port.0 target)

-- the data of this form that a text stands for
unfoldable pub data_as : Form → List ℕ → Option Data
data_as FormA text = only_word text >>= λ word. option_map A (ipv4_in word)
data_as FormAaaa text = only_word text >>= λ word. option_map Aaaa (ipv6_in word)
data_as FormName text = option_map One (last_name text)
data_as FormMx text = mx_in text
data_as FormSoa text = soa_in text
data_as FormSrv text = srv_in text
data_as FormOpaque text = option_map Opaque (octets_in text)
data_as FormTxt text = option_map Txt (strings_in text)

-- the data of this type that a text stands for
abbrev pub data_in : ℕ → List ℕ → Option Data
data_in kind text = data_as (form_of kind) text

-- Data of a type is read from a text exactly if the text stands for it.
abbrev pub ReadsData : Type 0
ReadsData = (kind : ℕ) (text : List ℕ) (body : Data) → (data_in kind text ≡ Some body) ↔ IsDataText kind text body

-- ---- writing

-- a number after a blank
abbrev pub blank_number : ℕ → List ℕ
blank_number n = 32 ∷ decimal n

-- serial, refresh, retry, expire and minimum, each after a blank
abbrev pub soa_numbers_text : ℕ → ℕ → ℕ → ℕ → ℕ → List ℕ
soa_numbers_text serial refresh retry expire minimum = blank_number serial ++ blank_number refresh ++ blank_number retry ++ blank_number expire ++ blank_number minimum

-- MX data as text
abbrev pub mx_text : ℕ → Labels → List ℕ
mx_text preference exchange = decimal preference ++ 32 ∷ text_of exchange

-- SRV data as text
abbrev pub srv_text : ℕ → ℕ → ℕ → Labels → List ℕ
srv_text priority weight port target = decimal priority ++ blank_number weight ++ blank_number port ++ 32 ∷ text_of target

-- two names with a blank between them
abbrev pub names_text : Labels → Labels → List ℕ
names_text primary mailbox = text_of primary ++ 32 ∷ text_of mailbox

-- data as text
unfoldable pub data_text : Data → List ℕ
data_text (A octets) = ipv4_text octets
data_text (Aaaa octets) = ipv6_text octets
data_text (One name) = text_of name
data_text (Mx preference exchange) = mx_text preference exchange
data_text (Soa primary mailbox serial refresh retry expire minimum) = names_text primary mailbox ++ soa_numbers_text serial refresh retry expire minimum
data_text (Srv priority weight port target) = srv_text priority weight port target
data_text (Opaque octets) = opaque_text octets
data_text (Txt strings) = strings_text strings

-- The data has as many octets and strings as its form allows.
abbrev pub IsSized : Data → Type 0
IsSized (A octets) = length octets ≡ 4
IsSized (Aaaa octets) = length octets ≡ 16
IsSized (Txt strings) = (0 < length strings) × AllByRecursion (λ octets. length octets < MOST_STRING + 1) strings
IsSized (Opaque octets) = length octets < MOST_16 + 1
IsSized _ = Unit {0}

-- The data has this form and a size that the form allows.
pub record IsOfForm (form : Form) (body : Data) : Type 0 where
  pub same : form ≡ form_in body
  pub sized : IsSized body

-- The data has the form of its type.
abbrev pub HasForm : ℕ → Data → Type 0
HasForm kind body = IsOfForm (form_of kind) body

-- there is at most one proof that data is of an allowed size
IsSized-prop : (body : Data) → IsProp (IsSized body)
IsSized-prop (A octets) = Coded-set coded_ℕ (length octets) 4
IsSized-prop (Aaaa octets) = Coded-set coded_ℕ (length octets) 16
IsSized-prop (One name) = Unit-prop
IsSized-prop (Mx preference exchange) = Unit-prop
IsSized-prop (Soa primary mailbox serial refresh retry expire minimum) = Unit-prop
IsSized-prop (Txt strings) = ×_prop le_prop (AllByRecursion-prop (λ octets. length octets < MOST_STRING + 1) (λ octets. le_prop) strings)
IsSized-prop (Srv priority weight port target) = Unit-prop
IsSized-prop (Opaque octets) = le_prop

Form-set : IsSet Form
Form-set = Coded-set (form_type.the_row).coded

-- there is at most one proof that data has the form of its type
pub HasForm-prop : (kind : ℕ) (body : Data) → IsProp (HasForm kind body)
HasForm-prop kind body = λ x y i. record { same = Form-set (form_of kind) (form_in body) x.same y.same i; sized = IsSized-prop body x.sized y.sized i }
