-- How many octets there are, where a message may have as many.
use Rattle.std.proofs.Common.{◌≡◌, ℕ, ◌+◌, ◌-◌, ◌<◌, ◌≤◌, ltb, List, [], ◌∷◌, ◌++◌, length, take, Option, Some, None, refl, sym, ap, ◌∙◌, inl, inr, arith, length-append}
use Rattle.std.specs.List.{flat_map}
use Rattle.std.specs.Char.{to_ascii_lowercase}
use Rattle.std.specs.Prelude.{IfSome, MatchOption}
use Rattle.std.proofs.lemmas.Bool.{cases_Bool, le-ltb, lt-ltb, ltb-true, ltb-false}
use Rattle.std.proofs.lemmas.List.{length-map, length-take, length-drop}
use Rattle.dns_name.specs.Labels.{Labels, spelled}
use Rattle.dns_name.specs.Order.{name_eq, name_eq_exact}
use Rattle.dns_text.specs.declared.record.Question.{Question}
use Rattle.dns_text.specs.declared.record.Record.{Record}
use Rattle.dns_wire.specs.declared.message.Classed.{Classed}
use Rattle.dns_wire.specs.declared.message.Message.{Message}
use Rattle.dns_wire.specs.Lent.{Records, records_of}
use Rattle.dns_wire.specs.Write.Size.{within, records_len, IsRoom}
use Rattle.dns_wire.specs.Write.SizeLaws.{length-octets_with}
use Rattle.dns_wire.specs.Write.Number.{u16_octets, u32_octets}
use Rattle.dns_wire.specs.Write.Name.{name_octets, owner_octets}
use Rattle.dns_wire.specs.Write.Question.{question_octets, in_class_in, IsQuestionOctets, first_name}
use Rattle.dns_wire.specs.Write.Rdata.{data_octets}
use Rattle.dns_wire.specs.Write.Record.{behind_owner_octets, record_octets, records_octets}
use Rattle.dns_wire.specs.Write.Message.{octets_with, message_octets, IsTooLong}

pub too_many : {n : ℕ} → 65535 < n → None ≡ within n
too_many {n} h = rw (lt-ltb 65535 n h) refl

pub more_than_fit : {n : ℕ} → within n ≡ None → 65535 < n
more_than_fit {n} e =
    elim (cases_Bool (ltb 65535 n)) [
      | inl over ↦ ltb-true 65535 n over
      | inr fits ↦ absurd (let bad : Some n ≡ None = sym (rw fits refl) ∙ e in cc)
    ]

pub fits_within : {n k : ℕ} → k ≡ n → k ≤ 65535 → Some k ≡ within n
fits_within {n} {k} is fits = rw (le-ltb 65535 n (omega arith)) (ap (λ (i : ℕ). Some i) is)

-- What fits is the whole number.
pub as_many : {n k : ℕ} → within n ≡ Some k → (k ≡ n) × (n ≤ 65535)
as_many {n} {k} e =
    elim (cases_Bool (ltb 65535 n)) [
      | inl over ↦ absurd (let bad : None ≡ Some k = sym (rw over refl) ∙ e in cc)
      | inr fits ↦ (let same : Some n ≡ Some k = sym (rw fits refl) ∙ e in cc, ltb-false 65535 n fits)
    ]

-- A message that isn't too long has a place for all of it.
pub record HasRoomForAll (v : Message) : Type 0 where
  pub octets : length (message_octets v) ≤ 65535
  pub questions : length v.questions ≤ 65535
  pub answer : length v.answer ≤ 65535
  pub authority : length v.authority ≤ 65535
  pub additional : length v.additional ≤ 65535

no_more : (n : ℕ) → ¬ (65535 < n) → n ≤ 65535
no_more n h = elim (cases_Bool (ltb 65535 n)) [
  | inl over ↦ absurd (h (ltb-true 65535 n over))
  | inr fits ↦ ltb-false 65535 n fits
]

pub all_fits : (v : Message) → ¬ (IsTooLong v) → HasRoomForAll v
all_fits v h = record {
  octets = no_more _ (λ over. h (inl over));
  questions = no_more _ (λ over. h (inr (inl over)));
  answer = no_more _ (λ over. h (inr (inr (inl over))));
  authority = no_more _ (λ over. h (inr (inr (inr (inl over)))));
  additional = no_more _ (λ over. h (inr (inr (inr (inr over)))));
}

pub data_of_record : (first : Option Labels) (r : Classed Record) → length (data_octets r.item.body) ≤ length (record_octets first r)
data_of_record first r =
    let owner = owner_octets first r.item.owner in
    omega (arith, length-append owner (behind_owner_octets r), length-append (u16_octets r.item.kind) (u16_octets r.class ++ u32_octets r.item.ttl ++ u16_octets (length (data_octets r.item.body)) ++ data_octets r.item.body), length-append (u16_octets r.class ++ u32_octets r.item.ttl ++ u16_octets (length (data_octets r.item.body))) (data_octets r.item.body))

pub length-question_octets : (q : Classed Question) → length (question_octets q) ≡ length (spelled q.item.owner) + 5
length-question_octets q = simp length-append (omega arith)

-- ---- whole messages

-- Questions and records take an octet each at least.
pub many_questions : (questions : List (Classed Question)) → length questions ≤ length (flat_map question_octets questions)
many_questions [] = omega arith
many_questions (q ∷ questions) = omega (arith, many_questions questions, length-append (question_octets q) (flat_map question_octets questions), length-question_octets q)

many_records : (first : Option Labels) (records : List (Classed Record)) → length records ≤ length (records_octets first records)
many_records first [] = omega arith
many_records first (r ∷ records) =
    omega (arith, many_records first records, length-append (record_octets first r) (records_octets first records), length-append (owner_octets first r.item.owner) (behind_owner_octets r))

-- A message is too long by its octets alone.
pub not_long : (v : Message) → length (message_octets v) ≤ 65535 → ¬ (IsTooLong v)
not_long v short long =
    let first : Option Labels = first_name v.questions in
    let all = length-octets_with (flat_map question_octets v.questions) v in
    let questions = many_questions v.questions in
    let answer = many_records first v.answer in
    let authority = many_records first v.authority in
    let additional = many_records first v.additional in
    elim long [
      | inl over ↦ omega arith
      | inr (inl over) ↦ omega arith
      | inr (inr (inl over)) ↦ omega arith
      | inr (inr (inr (inl over))) ↦ omega arith
      | inr (inr (inr (inr over))) ↦ omega arith
    ]

-- So many octets have room, or the message is too long.
abbrev pub HaveRoom : List ℕ → Message → Option ℕ → Type 0
HaveRoom octets v found = MatchOption found (IsTooLong v) (λ n. (length octets ≤ n) × ¬ (IsTooLong v))

pub measured : (questions : List ℕ) (v : Message) → length (octets_with questions v) ≡ length (message_octets v) → (found : Option ℕ) → IsRoom (12 + length questions + records_len (first_name v.questions) (records_of v)) found → HaveRoom (octets_with questions v) v found
measured questions v same None over = let all = length-octets_with questions v in inl (omega arith)
measured questions v same (Some room) (enough, few) = let all = length-octets_with questions v in (omega arith, not_long v (omega arith))

-- ---- owners whole

-- A pointer to a name that isn't the root is no longer than the name.
owner_no_longer : (first owner : Labels) → 0 < length (spelled first) → length (owner_octets (Some first) owner) ≤ length (name_octets owner)
owner_no_longer first owner h =
    let whole = length-append (spelled owner) (0 ∷ []) in
    elim (cases_Bool (name_eq first owner)) [
      | inl same ↦ rw same (let is = ap (λ (n : Labels). length (spelled n)) (name_eq_exact first owner same) in omega arith)
      | inr other ↦ rw other (omega arith)
    ]

records_no_longer : (first : Labels) → 0 < length (spelled first) → (records : List (Classed Record)) → length (records_octets (Some first) records) ≤ length (records_octets None records)
records_no_longer first h [] = omega arith
records_no_longer first h (r ∷ records) =
    let owner = owner_no_longer first r.item.owner h in
    let rest = records_no_longer first h records in
    let behind = behind_owner_octets r in
    omega (arith, length-append (record_octets (Some first) r) (records_octets (Some first) records), length-append (record_octets None r) (records_octets None records), length-append (owner_octets (Some first) r.item.owner) behind, length-append (name_octets r.item.owner) behind)

-- So many octets with each owner whole are no less than with the first question's name, unless that is the root.
pub whole_no_less : (first : Option Labels) (records : Records) → IfSome first (λ name. 0 < length (spelled name)) → records_len first records ≤ records_len None records
whole_no_less None records h = omega arith
whole_no_less (Some first) records h =
    omega (arith, records_no_longer first h records.answer, records_no_longer first h records.authority, records_no_longer first h records.additional)

pub whole_bound : (before : ℕ) (first : Option Labels) (records : Records) (found : Option ℕ) → found ≡ within (before + records_len None records) → IfSome first (λ name. 0 < length (spelled name)) → IfSome found (λ n. (before + records_len first records ≤ n) × (n ≤ 65535))
whole_bound before first records None is h = tt
whole_bound before first records (Some n) is h =
    let same = as_many (sym is) in
    let less = whole_no_less first records h in
    (omega (arith, same.0), omega (arith, same.0, same.1))

-- Too many octets in front are too many in all.
pub front_is_long : (questions : List ℕ) (v : Message) → length (octets_with questions v) ≡ length (message_octets v) → within (12 + length questions) ≡ None → IsTooLong v
front_is_long questions v same e =
    let more = more_than_fit e in
    let all = length-octets_with questions v in
    inl (omega arith)

-- A question takes as many octets in whatever case.
pub as_long : {q : Question} {octets : List ℕ} (v : Message) → IsQuestionOctets octets q → v.questions ≡ in_class_in q ∷ [] → length (octets_with octets v) ≡ length (message_octets v)
as_long {q} {octets} v h is =
    let one = length-question_octets (in_class_in q) in
    let front = take (length octets - 4) octets in
    let name = ap length h.owner in
    let whole : length (flat_map question_octets v.questions) ≡ length (question_octets (in_class_in q) ++ []) = ap (λ (qs : List (Classed Question)). length (flat_map question_octets qs)) is in
    omega (arith, length-octets_with octets v, length-octets_with (flat_map question_octets v.questions) v, ap length h.fixed, length-map front to_ascii_lowercase, length-take (length octets - 4) octets, length-drop (length octets - 4) octets, length-append (question_octets (in_class_in q)) [], length-append (spelled q.owner) (0 ∷ []))

pub sections_fit : (v : Message) → ¬ (IsTooLong v) → records_len (first_name v.questions) (records_of v) ≤ 65535
sections_fit v h =
    let fits = all_fits v h in
    omega (arith, length-octets_with (flat_map question_octets v.questions) v)
