-- Numbers and data that are written at a place of a message are there.
use Rattle.std.proofs.Common.{◌≡◌, ℕ, ◌+◌, ◌^◌, ◌<◌, List, [], ◌∷◌, ◌++◌, length, take, drop, refl, sym, ap, subst, ◌∙◌, append_assoc, arith, length-append}
use Rattle.std.specs.Int.{w16, w32, from_be_bytes}
use Rattle.std.proofs.lemmas.List.{append-nil, take_at}
use Rattle.std.proofs.lemmas.Nat.{from_be_bytes-to_be_bytes_2, from_be_bytes-to_be_bytes_4}
use Rattle.dns_name.specs.Labels.{Labels, IsName}
use Rattle.dns_text.specs.Data.{IsOfForm}
use Rattle.dns_text.specs.declared.kind.Form.{Form}
use Rattle.dns_text.specs.declared.record.Data.{Data}
use Rattle.dns_text.specs.declared.record.Data.TheVariants.{A, Aaaa, One, Mx, Soa, Txt, Srv, Opaque}
use Rattle.dns_wire.specs.Read.Name.{SpelledIn}
use Rattle.dns_wire.specs.Read.Number.{u16_at, u32_at}
use Rattle.dns_wire.specs.Read.Rdata.{DataAt, ipv4, ipv6, one_name, mail, start, one_or_more, service, unknown}
use Rattle.dns_wire.specs.WellFormed.{IsData}
use Rattle.dns_wire.specs.Write.Number.{u16_octets, u32_octets}
use Rattle.dns_wire.specs.Write.Name.{name_octets}
use Rattle.dns_wire.specs.Write.Rdata.{data_octets}
use Rattle.dns_wire.proofs.WrittenName.{StandsAt, stands_first, stands_second, whole_name}

pub u16_written : (m : List ℕ) (at n : ℕ) → n < 2 ^ 16 → StandsAt m at (u16_octets n) → n ≡ u16_at m at
unfolding u16_at
u16_written m at n small h = sym (ap (λ (o : List ℕ). from_be_bytes w16 (take 2 o)) h.1 ∙ ap (from_be_bytes w16) (take_at (u16_octets n) h.0 2 refl) ∙ from_be_bytes-to_be_bytes_2 n small)

pub u32_written : (m : List ℕ) (at n : ℕ) → n < 2 ^ 32 → StandsAt m at (u32_octets n) → n ≡ u32_at m at
unfolding u32_at
u32_written m at n small h = sym (ap (λ (o : List ℕ). from_be_bytes w32 (take 4 o)) h.1 ∙ ap (from_be_bytes w32) (take_at (u32_octets n) h.0 4 refl) ∙ from_be_bytes-to_be_bytes_4 n small)

-- a number after others
pub u16_behind : (m : List ℕ) (at : ℕ) (front : List ℕ) (n : ℕ) (more : List ℕ) → n < 2 ^ 16 → StandsAt m at (front ++ (u16_octets n ++ more)) → n ≡ u16_at m (at + length front)
u16_behind m at front n more small h = u16_written m (at + length front) n small (stands_first m (at + length front) (u16_octets n) more (stands_second m at front (u16_octets n ++ more) h))

pub u32_behind : (m : List ℕ) (at : ℕ) (front : List ℕ) (n : ℕ) (more : List ℕ) → n < 2 ^ 32 → StandsAt m at (front ++ (u32_octets n ++ more)) → n ≡ u32_at m (at + length front)
u32_behind m at front n more small h = u32_written m (at + length front) n small (stands_first m (at + length front) (u32_octets n) more (stands_second m at front (u32_octets n ++ more) h))

-- The octets from a place on are these, all of them.
pub record EndsAt (m : List ℕ) (at : ℕ) (octets : List ℕ) : Type 0 where
  pub are : drop at m ≡ octets
  pub long : length m ≡ at + length octets

stands_all : {m : List ℕ} {at : ℕ} {octets : List ℕ} → EndsAt m at octets → StandsAt m at octets
stands_all {m} {at} {octets} h = ([], h.are ∙ sym (append-nil octets))

-- a name with which the octets end
last_name : (message m : List ℕ) (at place : ℕ) (front : List ℕ) (name : Labels) → EndsAt m at (front ++ name_octets name) → place ≡ at + length front → IsName name → SpelledIn message m place (length m) name
last_name message m at place front name h is fits =
    let there = stands_second m at front (name_octets name) (stands_all h) in
    let end : place + length (name_octets name) ≡ length m = omega (arith, h.long, length-append front (name_octets name)) in
    subst (λ (e : ℕ). SpelledIn message m place e name) end (whole_name message m place name fits (subst (λ (p : ℕ). StandsAt m p (name_octets name)) (sym is) there))

regroup : (a b c d e f g : List ℕ) → a ++ b ++ c ++ d ++ e ++ f ++ g ≡ (a ++ b) ++ (c ++ d ++ e ++ f ++ g)
regroup a b c d e f g = simp append_assoc

-- Data that is written at the end of a message's front is there.
pub data_written : (message m : List ℕ) (at : ℕ) (form : Form) (body : Data) → IsOfForm form body → IsData body → EndsAt m at (data_octets body) → DataAt message m at form body
unfolding data_octets
data_written message m at form (A octets) is fits h = rw is.same (ipv4 h.are is.sized)
data_written message m at form (Aaaa octets) is fits h = rw is.same (ipv6 h.are is.sized)
data_written message m at form (One name) is fits h = rw is.same (one_name (last_name message m at at [] name h (omega arith) fits))
data_written message m at form (Mx preference exchange) is fits h =
    let name : List ℕ = name_octets exchange in
    rw is.same (mail (omega (arith, h.long))
    (u16_written m at preference fits.0 (stands_first m at (u16_octets preference) name (stands_all h)))
    (last_name message m at (at + 2) (u16_octets preference) exchange h refl fits.1))
data_written message m at form (Soa primary mailbox serial refresh retry expire minimum) is fits h =
    let first : List ℕ = name_octets primary in
    let second : List ℕ = name_octets mailbox in
    let numbers : List ℕ = u32_octets serial ++ u32_octets refresh ++ u32_octets retry ++ u32_octets expire ++ u32_octets minimum in
    let parts = regroup first second (u32_octets serial) (u32_octets refresh) (u32_octets retry) (u32_octets expire) (u32_octets minimum) in
    let all : StandsAt m at (first ++ second ++ numbers) = subst (StandsAt m at) parts (stands_all h) in
    let names = stands_first m at (first ++ second) numbers all in
    let place : ℕ = at + length first + length second in
    let there : StandsAt m place numbers = subst (λ (p : ℕ). StandsAt m p numbers) (omega (arith, length-append first second)) (stands_second m at (first ++ second) numbers all) in
    let end : place + 20 ≡ length m = omega (arith, h.long, ap length parts, length-append (first ++ second) numbers, length-append first second) in
    rw is.same (start
    (whole_name message m at primary fits.0 (stands_first m at first second names))
    (whole_name message m (at + length first) mailbox fits.1 (stands_second m at first second names))
    end
    (u32_written m place serial fits.2 (stands_first m place (u32_octets serial) (u32_octets refresh ++ u32_octets retry ++ u32_octets expire ++ u32_octets minimum) there))
    (u32_behind m place (u32_octets serial) refresh (u32_octets retry ++ u32_octets expire ++ u32_octets minimum) fits.3 there)
    (u32_behind m place (u32_octets serial ++ u32_octets refresh) retry (u32_octets expire ++ u32_octets minimum) fits.4 there)
    (u32_behind m place (u32_octets serial ++ u32_octets refresh ++ u32_octets retry) expire (u32_octets minimum) fits.5 there)
    (u32_behind m place (u32_octets serial ++ u32_octets refresh ++ u32_octets retry ++ u32_octets expire) minimum [] fits.6 there))
data_written message m at form (Txt []) is fits h = absurd (let some = is.sized.0 in omega arith)
data_written message m at form (Txt (string ∷ strings)) is fits h = rw is.same (one_or_more h.are)
data_written message m at form (Srv priority weight port target) is fits h =
    let all = stands_all h in
    let name : List ℕ = name_octets target in
    rw is.same (service (omega (arith, h.long))
    (u16_written m at priority fits.0 (stands_first m at (u16_octets priority) (u16_octets weight ++ u16_octets port ++ name) all))
    (u16_behind m at (u16_octets priority) weight (u16_octets port ++ name) fits.1 all)
    (u16_behind m at (u16_octets priority ++ u16_octets weight) port name fits.2 all)
    (last_name message m at (at + 6) (u16_octets priority ++ u16_octets weight ++ u16_octets port) target h refl fits.3))
data_written message m at form (Opaque octets) is fits h = rw is.same (unknown h.are)
