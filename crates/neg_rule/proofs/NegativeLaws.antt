-- What is denied, and by what record.
use Rattle.std.proofs.Common.{◌≡◌, ◌≢◌, ℕ, Bool, true, false, List, [], ◌∷◌, refl, sym, ap, ◌∙◌, subst, arith, cond, inl, inr, Option, Some, None, min}
use Rattle.std.specs.Prelude.{◌&&◌, ◌==◌, if◌then◌else◌}
use Rattle.std.specs.List.{find}
use Rattle.std.specs.Option.{option_map}
use Rattle.std.proofs.lemmas.Bool.{and_parts, cases_Bool, eqb-true}
use Rattle.dns_name.specs.Labels.{Labels, IsAtOrBelow}
use Rattle.dns_name.specs.Options.{◌>>=◌}
use Rattle.dns_text.specs.Data.{HasForm}
use Rattle.dns_text.specs.Kind.{by_number}
use Rattle.dns_text.specs.declared.record.Data.{Data}
use Rattle.dns_text.specs.declared.record.Data.TheVariants.{A, Aaaa, One, Mx, Soa, Txt, Srv, Opaque}
use Rattle.dns_text.specs.declared.record.Question.{Question}
use Rattle.dns_text.specs.declared.record.Record.{Record}
use Rattle.dns_text.specs.declared.types.TheConstants.{SOA}
use Rattle.dns_wire.specs.declared.message.Classed.{Classed}
use Rattle.dns_wire.specs.declared.message.Message.{Message}
use Rattle.dns_wire.specs.declared.message.TheConstants.{CLASS_IN}
use Rattle.ranked.specs.Body.{IsSoa}
use Rattle.neg_rule.specs.Alias.{last_of}
use Rattle.neg_rule.specs.Below.{is_at_or_below}
use Rattle.neg_rule.specs.Negative.{may_deny, denies, soa_for, has_answer, denied_by, denied_in, denied_for, minimum_of, denial, negative_in, Said, IsDeniedWithin}
use Rattle.neg_rule.specs.BelowLaws.{fact_from_below}

-- ---- what a step gave

then_some : {A : Type 0} (b : Bool) (o : Option A) (x : A) → (if b then o else None) ≡ Some x → o ≡ Some x
then_some true o x e = e
then_some false o x e = absurd cc

else_some : {A : Type 0} (b : Bool) (o : Option A) (x : A) → (if b then None else o) ≡ Some x → o ≡ Some x
else_some true o x e = absurd cc
else_some false o x e = e

bound_some : {A B : Type 0} (o : Option A) (f : A → Option B) (y : B) → (o >>= f) ≡ Some y → (x : A) × ((o ≡ Some x) × (f x ≡ Some y))
bound_some None f y e = absurd cc
bound_some (Some x) f y e = (x, (refl, e))

mapped_some : {A B : Type 0} (f : A → B) (o : Option A) (y : B) → option_map f o ≡ Some y → (x : A) × ((o ≡ Some x) × (f x ≡ y))
mapped_some f None y e = absurd cc
mapped_some f (Some x) y e = (x, (refl, cc))

-- what is found passes the test
found_passes : {A : Type 0} (test : A → Bool) (xs : List A) (x : A) → find test xs ≡ Some x → test x ≡ true
found_passes test [] x e = absurd cc
found_passes {A} test (y ∷ ys) x e =
    elim (cases_Bool (test y)) [
      | inl here ↦ let is : Some y ≡ Some x = sym (ap (λ b. cond b (Some y) (find test ys)) here) ∙ e in
          let same : y ≡ x = cc in subst (λ (z : A). test z ≡ true) same here
      | inr later ↦ found_passes test ys x (sym (ap (λ b. cond b (Some y) (find test ys)) later) ∙ e)
    ]

-- ---- the record that denies

record IsDenying (zone name : Labels) (soa : Record) : Type 0 where
  pub kind : soa.kind ≡ SOA
  pub above : is_at_or_below name soa.owner ≡ true
  pub within : is_at_or_below soa.owner zone ≡ true

denying : (zone name : Labels) (r : Classed Record) → denies zone name r ≡ true → IsDenying zone name r.item
denying zone name r e =
    let first = and_parts (r.class == CLASS_IN) (r.item.kind == SOA && (is_at_or_below name r.item.owner && is_at_or_below r.item.owner zone)) e in
    let second = and_parts (r.item.kind == SOA) (is_at_or_below name r.item.owner && is_at_or_below r.item.owner zone) first.1 in
    let third = and_parts (is_at_or_below name r.item.owner) (is_at_or_below r.item.owner zone) second.1 in
    record { kind = eqb-true r.item.kind SOA second.0; above = third.0; within = third.1 }

soa_denies : (message : Message) (zone name : Labels) (soa : Record) → soa_for message zone name ≡ Some soa → IsDenying zone name soa
soa_denies message zone name soa e =
    let r = mapped_some (λ (r : Classed Record). r.item) (find (denies zone name) message.authority) soa e in
    subst (λ (x : Record). IsDenying zone name x) r.1.1 (denying zone name r.0 (found_passes (denies zone name) message.authority r.0 r.1.0))

-- what is denied is denied by such a record
denied_denies : (message : Message) (question : Question) (zone : Labels) (found : Labels × Record) → denied_in message question zone ≡ Some found → IsDenying zone found.0 found.1
denied_denies message question zone found e =
    let chosen = then_some (may_deny message) (last_of message.answer question >>= denied_by message question zone) found e in
    let last = bound_some (last_of message.answer question) (denied_by message question zone) found chosen in
    let there = else_some (has_answer message question last.0) (option_map (λ (soa : Record). (last.0, soa)) (soa_for message zone last.0)) found last.1.1 in
    let soa = mapped_some (λ (soa : Record). (last.0, soa)) (soa_for message zone last.0) found there in
    subst (λ (x : Labels × Record). IsDenying zone x.0 x.1) soa.1.1 (soa_denies message zone last.0 soa.0 soa.1.0)

-- data that has a MINIMUM has the form of an SOA
minimum_formed : (body : Data) (ttl : ℕ) → min (minimum_of body) ttl ≢ 0 → HasForm SOA body
unfolding by_number
minimum_formed (A octets) ttl some = absurd (some (omega arith))
minimum_formed (Aaaa octets) ttl some = absurd (some (omega arith))
minimum_formed (One name) ttl some = absurd (some (omega arith))
minimum_formed (Mx preference exchange) ttl some = absurd (some (omega arith))
minimum_formed (Soa primary mailbox serial refresh retry expire minimum) ttl some = record { same = refl; sized = tt }
minimum_formed (Txt strings) ttl some = absurd (some (omega arith))
minimum_formed (Srv priority weight port target) ttl some = absurd (some (omega arith))
minimum_formed (Opaque octets) ttl some = absurd (some (omega arith))

-- what is denied for a time is denied by an SOA record with data of its form
pub denied_is_soa : (message : Message) (question : Question) (zone : Labels) (found : Labels × Record) → denied_in message question zone ≡ Some found → denied_for found.1 ≢ 0 → IsSoa found.1
denied_is_soa message question zone found e some = ((denied_denies message question zone found e).kind, minimum_formed found.1.body found.1.ttl some)

-- ---- what is said

within_zone : (message : Message) (question : Question) (zone last : Labels) (soa : Record) → IsDenying zone last soa
    → IsDeniedWithin zone (denial message question last soa).owner (denial message question last soa).body
within_zone message question zone last soa h =
    let facts : IsAtOrBelow last soa.owner × IsAtOrBelow soa.owner zone = (fact_from_below last soa.owner h.above, fact_from_below soa.owner zone h.within) in
    elim (cases_Bool (message.head.rcode == 3)) [ inl no_name ↦ rw no_name facts | inr no_data ↦ rw no_data facts ]

pub said_within : (message : Message) (question : Question) (zone : Labels) (said : Said) → negative_in message question zone ≡ Some said → IsDeniedWithin zone said.owner said.body
said_within message question zone said e =
    let say : Labels × Record → Option Said = λ found. if denied_for found.1 == 0 then None else Some (denial message question found.0 found.1) in
    let found = bound_some (denied_in message question zone) say said e in
    let there = else_some (denied_for found.0.1 == 0) (Some (denial message question found.0.0 found.0.1)) said found.1.1 in
    let same : denial message question found.0.0 found.0.1 ≡ said = cc in
    subst (λ (x : Said). IsDeniedWithin zone x.owner x.body) same (within_zone message question zone found.0.0 found.0.1 (denied_denies message question zone found.0 found.1.0))
