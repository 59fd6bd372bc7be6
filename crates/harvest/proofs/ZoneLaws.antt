-- What is believed of a message is at or below the zone asked.
use Rattle.std.proofs.Common.{append_assoc, ◌≡◌, Bool, true, false, List, [], ◌∷◌, ◌++◌, map, cond, refl, sym, ap, ◌∙◌, subst, Option, Some, None}
use Rattle.std.specs.List.{AllByRecursion, Contains, fold, filter}
use Rattle.std.specs.Option.{option_to_list}
use Rattle.std.proofs.lemmas.Bool.{and_parts}
use Rattle.std.proofs.lemmas.List.Elements.{All-from_recursion, All-get_or}
use Rattle.dns_name.specs.Labels.{Labels, IsAtOrBelow}
use Rattle.dns_name.specs.ListLaws.{all-append, all_push}
use Rattle.dns_text.specs.declared.record.Question.{Question}
use Rattle.dns_text.specs.declared.record.Record.{Record}
use Rattle.dns_wire.specs.declared.message.Classed.{Classed}
use Rattle.dns_wire.specs.declared.message.Message.{Message}
use Rattle.dns_name.specs.BelowLaws.{fact_from_below}
use Rattle.neg_rule.specs.Negative.{Said, negative_in, IsDeniedWithin}
use Rattle.ranked.specs.Set.{with_datum, is_among, each_once}
use Rattle.ranked.specs.declared.find.Body.{Body}
use Rattle.ranked.specs.declared.find.Body.TheVariants.{Set as SetOf, NoData, NoName}
use Rattle.ranked.specs.declared.rank.Rank.{Rank}
use Rattle.ranked.specs.declared.rank.Rank.TheVariants.{Additional}
use Rattle.harvest.specs.Counted.{Ranked, counts, ranked_in, ranked_of, answer_rank, authority_rank}
use Rattle.harvest.specs.Harvest.{sets_in, finds_in, passing_in, lives, passes}
use Rattle.harvest.specs.Learnt.{said_of}
use Rattle.harvest.specs.Sets.{Key, Set, key_of, same_key, set_among, sets_of}

-- ---- what holds of each element

all_map : {X Y : Type 0} (f : X → Y) (P : Y → Type 0) (xs : List X) → AllByRecursion (λ x. P (f x)) xs → AllByRecursion P (map f xs)
all_map f P [] h = tt
all_map f P (x ∷ xs) h = (h.0, all_map f P xs h.1)

all_filter : {X : Type 0} (p : X → Bool) (P : X → Type 0) (xs : List X) → AllByRecursion P xs → AllByRecursion P (filter p xs)
all_filter p P [] h = tt
all_filter p P (x ∷ xs) h =
    elim (p x) as (λ b. AllByRecursion P (cond b (x ∷ filter p xs) (filter p xs))) [ true ↦ (h.0, all_filter p P xs h.1) | false ↦ all_filter p P xs h.1 ]

all_kept : (P : Key → Type 0) (keys more : List Key) → AllByRecursion P keys → AllByRecursion P more → AllByRecursion P (fold (with_datum same_key) keys more)
all_kept P keys [] h k = h
all_kept P keys (key ∷ more) h k =
    all_kept P (with_datum same_key keys key) more (elim (is_among same_key keys key) as (λ b. AllByRecursion P (cond b keys (keys ++ key ∷ []))) [ true ↦ h | false ↦ all_push P keys key h k.0 ]) k.1

pub contained : {X : Type 0} (P : X → Type 0) (xs : List X) (x : X) → AllByRecursion P xs → Contains xs x → P x
contained P xs x all h = subst P h.2 (All-get_or P xs h.0 x h.1 (All-from_recursion P xs all))

-- ---- at or below

abbrev IsBelow : Labels → Ranked → Type 0
IsBelow zone r = IsAtOrBelow r.said.owner zone

section_below : (zone : Labels) (rank : Record → Rank) (section : List (Classed Record)) → AllByRecursion (IsBelow zone) (ranked_in zone rank section)
section_below zone rank [] = tt
section_below zone rank (r ∷ section) =
    let more = section_below zone rank section in
    elim (counts zone r) as (λ b. (b ≡ true → IsAtOrBelow r.item.owner zone) → AllByRecursion (IsBelow zone) (map (λ (r : Classed Record). record { rank = rank r.item; said = r.item }) (cond b (r ∷ filter (counts zone) section) (filter (counts zone) section)))) [
      | true ↦ λ h. (h refl, more)
      | false ↦ λ h. more
    ] (λ is. fact_from_below r.item.owner zone (and_parts _ _ (and_parts _ _ is).1).1)

records_below : (message : Message) (question : Question) (zone : Labels) → AllByRecursion (IsBelow zone) (ranked_of message question zone)
records_below message question zone =
    let answer = section_below zone (answer_rank message.head.aa question.owner) message.answer in
    let authority = section_below zone (λ (r : Record). authority_rank message.head.aa) message.authority in
    let additional = section_below zone (λ (r : Record). Additional) message.additional in
    all-append (IsBelow zone) _ _ answer (all-append (IsBelow zone) _ _ authority additional)

abbrev IsSetBelow : Labels → Set → Type 0
IsSetBelow zone s = IsAtOrBelow s.key.owner zone

sets_below : (zone : Labels) (records : List Ranked) → AllByRecursion (IsBelow zone) records → AllByRecursion (IsSetBelow zone) (sets_of records)
sets_below zone records h =
    let P : Key → Type 0 = λ key. IsAtOrBelow key.owner zone in
    all_map (set_among records) (IsSetBelow zone) (each_once same_key (map key_of records)) (all_kept P [] (map key_of records) tt (all_map key_of P records h))

sets_in_below : (message : Message) (question : Question) (zone : Labels) → AllByRecursion (IsSetBelow zone) (sets_in message question zone)
sets_in_below message question zone = sets_below zone (ranked_of message question zone) (records_below message question zone)

below_both : (n m z : Labels) → IsAtOrBelow n m → IsAtOrBelow m z → IsAtOrBelow n z
below_both n m z h k = (h.0 ++ k.0, h.1 ∙ ap (λ (x : Labels). h.0 ++ x) k.1 ∙ sym (append_assoc h.0 k.0 z))

from_denied : (zone name : Labels) (body : Body) → IsDeniedWithin zone name body → IsAtOrBelow name zone
from_denied zone name (SetOf found) h = absurd h
from_denied zone name (NoData soa) h = below_both name soa.owner zone h.0 h.1
from_denied zone name (NoName soa) h = below_both name soa.owner zone h.0 h.1

negative_below : (zone : Labels) (found : Option Said) → ((said : Said) → found ≡ Some said → IsDeniedWithin zone said.owner said.body) → AllByRecursion (λ said. IsAtOrBelow said.owner zone) (option_to_list found)
negative_below zone None h = tt
negative_below zone (Some said) h = (from_denied zone said.owner said.body (h said refl), tt)

pub finds_below : (message : Message) (question : Question) (zone : Labels) (said : Said) → ((said : Said) → negative_in message question zone ≡ Some said → IsDeniedWithin zone said.owner said.body)
    → Contains (finds_in message question zone) said → IsAtOrBelow said.owner zone
finds_below message question zone said denial h =
    let P : Said → Type 0 = λ said. IsAtOrBelow said.owner zone in
    let sets = all_map said_of P (filter lives (sets_in message question zone)) (all_filter lives (IsSetBelow zone) (sets_in message question zone) (sets_in_below message question zone)) in
    contained P (finds_in message question zone) said (all-append P _ _ sets (negative_below zone (negative_in message question zone) denial)) h

pub passing_below : (message : Message) (question : Question) (zone : Labels) (s : Set) → Contains (passing_in message question zone) s → IsAtOrBelow s.key.owner zone
passing_below message question zone s h =
    contained (IsSetBelow zone) (passing_in message question zone) s (all_filter passes (IsSetBelow zone) (sets_in message question zone) (sets_in_below message question zone)) h
