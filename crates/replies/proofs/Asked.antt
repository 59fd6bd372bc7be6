-- Octets that ask for something: they have a header, and are no response.
use Rattle.std.proofs.Common.{◌≡◌, Bool, ◌<◌, ◌≤◌, ◌+◌, ◌*◌, ◌/◌, ◌%◌, ℕ, List, [], ◌∷◌, length, get_or, ltb, true, false, refl, inl, inr, arith}
use Rattle.std.proofs.lemmas.Bool.{cases_Bool, ltb-true, ltb-false}
use Rattle.std.specs.Prelude.{MatchBool}
use Rattle.dns_wire.specs.declared.server.query.Query.{Query}
use Rattle.dns_wire.specs.declared.server.query.Asked.TheVariants.{Drop, Fault, Good}
use Rattle.dns_wire.specs.Read.Header.{head_in}
use Rattle.dns_wire.specs.Read.Number.{u16_at}
use Rattle.dns_wire.specs.Server.Asking.{AsksFor, no_header, reply, other_opcode, malformed, unanswerable, good, IsGood}

asks : {m : List ℕ} → 12 ≤ length m → (head_in m).qr ≡ false → AsksFor m Drop → ⊥
asks header request (no_header short) = omega arith
asks header request (reply long is) = cc

pub fault_header : {m : List ℕ} {rcode : ℕ} → AsksFor m (Fault rcode) → 12 ≤ length m
fault_header (other_opcode header request other) = header
fault_header (malformed query is) = query.header
fault_header (unanswerable query question not) = query.header

pub fault_is_told : {m : List ℕ} {rcode : ℕ} → AsksFor m (Fault rcode) → AsksFor m Drop → ⊥
fault_is_told (other_opcode header request other) = asks header request
fault_is_told (malformed query is) = asks query.header query.request
fault_is_told (unanswerable query question not) = asks query.header query.request

pub good_header : {m : List ℕ} {query : Query} → AsksFor m (Good query) → 12 ≤ length m
good_header (good query question is of) = query.header

pub good_is_told : {m : List ℕ} {query : Query} → AsksFor m (Good query) → AsksFor m Drop → ⊥
good_is_told (good query question is of) = asks query.header query.request

pub good_is_read : {m : List ℕ} → IsGood m → AsksFor m Drop → ⊥
good_is_read is = asks is.query.header is.query.request

flags_in : (m : List ℕ) → 12 ≤ length m → u16_at m 2 ≡ get_or m 2 0 * 256 + get_or m 3 0
unfolding u16_at
flags_in [] long = absurd (omega arith)
flags_in (a ∷ []) long = absurd (omega arith)
flags_in (a ∷ b ∷ []) long = absurd (omega arith)
flags_in (a ∷ b ∷ c ∷ []) long = absurd (omega arith)
flags_in (a ∷ b ∷ c ∷ d ∷ rest) long = omega arith

-- The first bit of the third octet is QR, and tells a request from a response.
pub first_bit : (m : List ℕ) (octet : ℕ) → 12 ≤ length m → get_or m 2 0 ≡ octet → octet < 256 → get_or m 3 0 < 256 → MatchBool (ltb octet 128) (¬ (AsksFor m Drop)) (AsksFor m Drop)
first_bit m octet long is small low =
    let flags = flags_in m long in
    elim (cases_Bool (ltb octet 128)) [
      | inl below ↦
          let less = ltb-true octet 128 below in
          let bit : u16_at m 2 / 32768 % 2 ≡ 0 = omega arith in
          let request : (head_in m).qr ≡ false = rw bit refl in
          rw below (λ drops. asks long request drops)
      | inr above ↦
          let more = ltb-false octet 128 above in
          let bit : u16_at m 2 / 32768 % 2 ≡ 1 = omega arith in
          let response : (head_in m).qr ≡ true = rw bit refl in
          rw above (reply long response)
    ]

-- Octets that are dear to read are long, if short ones never are.
pub dear_is_long : (dear : Bool) (most n : ℕ) → (n ≤ most → dear ≡ false) → dear ≡ true → most < n
dear_is_long dear most n short is = elim (cases_Bool (ltb most n)) [
  | inl above ↦ ltb-true most n above
  | inr below ↦ let not = short (ltb-false most n below) in absurd cc
]
