-- The IPv4 addresses of a set.
use Rattle.std.proofs.Common.{◌≡◌, ℕ, List, [], ◌∷◌, ◌++◌, inl, inr, sym, subst, refl, arith}
use Rattle.std.specs.List.{AllByRecursion, Contains}
use Rattle.std.proofs.lemmas.List.Concat.{flat_map-cons}
use Rattle.std.proofs.lemmas.List.Elements.{Contains-append_left, Contains-append_right, Contains-append_cases, Contains-push_cases}
use Rattle.std.proofs.lemmas.List.Folds.{flat_map-map}
use Rattle.dns_text.specs.declared.addr.Addr.{Addr}
use Rattle.dns_text.specs.declared.addr.Ip.TheVariants.{V4}
use Rattle.dns_text.specs.declared.record.Data.{Data}
use Rattle.dns_text.specs.declared.record.Data.TheVariants.{A, Aaaa, One, Mx, Soa, Txt, Srv, Opaque}
use Rattle.dns_text.specs.declared.record.Record.{Record}
use Rattle.iterate.specs.declared.answer.AnswerSet.{AnswerSet}
use Rattle.iterate.specs.declared.answer.AnswerSet.TheVariants.{Find as FindTold, Local as LocalTold, Passing as PassingTold}
use Rattle.iterate.specs.Hunting.{v4_of, v4_in, v4_told}
use Rattle.iterate.specs.Told.{IsAddressIn, data_told}

both : {X : Type 0} (P : X → Type 0) (xs ys : List X) → AllByRecursion P xs → AllByRecursion P ys → AllByRecursion P (xs ++ ys)
both P [] ys all more = more
both P (x ∷ xs) ys all more = (all.0, both P xs ys all.1 more)

one_each : (port : ℕ) (told : AnswerSet) (datum : Data) → Contains (data_told told) datum → AllByRecursion (IsAddressIn port told) (v4_of port datum)
one_each port told (A octets) is = (record { octets = octets; among = is; is = refl }, tt)
one_each port told (Aaaa octets) is = tt
one_each port told (One name) is = tt
one_each port told (Mx preference exchange) is = tt
one_each port told (Soa primary mailbox serial refresh retry expire minimum) is = tt
one_each port told (Txt strings) is = tt
one_each port told (Srv priority weight own target) is = tt
one_each port told (Opaque octets) is = tt

each_in : (port : ℕ) (told : AnswerSet) (given : List Data) → ((datum : Data) → Contains given datum → Contains (data_told told) datum) → AllByRecursion (IsAddressIn port told) (v4_in port given)
each_in port told [] within = tt
each_in port told (datum ∷ given) within =
    subst (λ (xs : List Addr). AllByRecursion (IsAddressIn port told) xs) (sym (flat_map-cons (v4_of port) datum given))
    (both (IsAddressIn port told) (v4_of port datum) (v4_in port given) (one_each port told datum (within datum (0, omega arith, refl)))
    (each_in port told given (λ d is. within d (Contains-append_right (datum ∷ []) given d is))))

-- what the code finds
told_is : (port : ℕ) (told : AnswerSet) → v4_told port told ≡ v4_in port (data_told told)
told_is port (FindTold ttl find) = refl
told_is port (LocalTold records) = sym (flat_map-map (v4_of port) (λ (r : Record). r.body) records)
told_is port (PassingTold set) = refl

pub each_told : (port : ℕ) (told : AnswerSet) → AllByRecursion (IsAddressIn port told) (v4_told port told)
each_told port told = subst (λ (xs : List Addr). AllByRecursion (IsAddressIn port told) xs) (sym (told_is port told)) (each_in port told (data_told told) (λ datum is. is))

all_in : (port : ℕ) (octets : List ℕ) (given : List Data) → Contains given (A octets) → Contains (v4_in port given) (record { ip = V4 octets; port = port })
all_in port octets [] is = absurd (omega (arith, is.1))
all_in port octets (datum ∷ given) is =
    subst (λ (xs : List Addr). Contains xs (record { ip = V4 octets; port = port })) (sym (flat_map-cons (v4_of port) datum given)) (elim (Contains-append_cases (datum ∷ []) given (A octets) is) [
      | inl here ↦ Contains-append_left (v4_of port datum) (v4_in port given) (record { ip = V4 octets; port = port }) (elim (Contains-push_cases [] datum (A octets) here) [
        | inl never ↦ absurd (omega (arith, never.1))
        | inr this ↦ subst (λ (d : Data). Contains (v4_of port d) (record { ip = V4 octets; port = port })) (sym this) (0, omega arith, refl)
      ])
      | inr later ↦ Contains-append_right (v4_of port datum) (v4_in port given) (record { ip = V4 octets; port = port }) (all_in port octets given later)
    ])

pub all_told : (port : ℕ) (told : AnswerSet) (addr : Addr) → IsAddressIn port told addr → Contains (v4_told port told) addr
all_told port told addr is =
    subst (λ (a : Addr). Contains (v4_told port told) a) (sym is.is) (subst (λ (xs : List Addr). Contains xs (record { ip = V4 is.octets; port = port })) (sym (told_is port told)) (all_in port is.octets (data_told told) is.among))
