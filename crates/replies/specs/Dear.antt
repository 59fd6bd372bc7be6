-- The steps that reading a message takes: those of its names, strings and records, one after another, up to its end or to the first fault
-- of one of these. Reading may find another fault before that, as RDATA that does not have its form, and takes fewer steps then.
use Rattle.std.specs.Prelude.{◌≡◌, ◌⊎◌, ℕ, zero, suc, ◌+◌, ◌/◌, ◌<◌, ◌≤◌, Bool, true, false, List, [], ◌∷◌, length, drop, Result, Ok, Err, slice_range, nat_lt, ◌&&◌}
use Rattle.replies.specs.declared.limits.TheConstants.{ITEM_STEPS, MOST_STEPS, STEP_OCTETS}
use Rattle.replies.specs.declared.dear.Stop.{Stop}
use Rattle.replies.specs.declared.dear.Stop.TheVariants.{Dear, Faulty}
use Rattle.dns_name.specs.declared.limits.TheConstants.{MAX_NAME_OCTETS}
use Rattle.dns_wire.specs.declared.limits.TheConstants.{HEADER_OCTETS}
use Rattle.dns_wire.specs.declared.read.place.Next.TheVariants.{Finish, Label, Pointer, Reserved, Cut}
use Rattle.dns_text.specs.declared.kind.Form.{Form}
use Rattle.dns_text.specs.declared.kind.Form.TheVariants.{Name, Mx, Soa, Txt, Srv}
use Rattle.dns_wire.specs.Read.Header.{head_in, question_count, answer_count, authority_count, additional_count}
use Rattle.dns_wire.specs.Read.Place.{next_at}
use Rattle.dns_wire.specs.Read.Record.{data_begin, data_end, form_at}

-- How far reading has come in so many steps: behind a part; to a fault, where it ends; or it goes on.
pub data Come : Type 0 where
  Behind : ℕ → Come
  Ended : Come
  Onward : Come

-- What reading a part takes: these steps, to come so far.
abbrev pub Takes : Type 1
Takes = ℕ → Come → Type 0

-- One part follows another, from where that ended. Nothing follows a fault.
pub data Then (first : Takes) (next : ℕ → Takes) : ℕ → Come → Type 0 where
  both : {place k l n : ℕ} {come : Come} → first k (Behind place) → next place l come → n ≡ k + l → Then first next n come
  first_ended : {n : ℕ} → first n Ended → Then first next n Ended
  first_on : {n : ℕ} → first n Onward → Then first next n Onward

-- There is nothing more to read before this place.
abbrev pub Nothing : ℕ → Takes
Nothing place n come = (n ≡ 0) × (come ≡ Behind place)

-- So many parts follow one another, the first at a place.
pub data Times (part : ℕ → Takes) : ℕ → ℕ → ℕ → Come → Type 0 where
  no_parts : {at : ℕ} → Times part zero at 0 (Behind at)
  more_parts : {count at next k l n : ℕ} {come : Come} → part at k (Behind next) → Times part count next l come → n ≡ k + l → Times part (suc count) at n come
  part_ended : {count at n : ℕ} → part at n Ended → Times part (suc count) at n Ended
  part_on : {count at n : ℕ} → part at n Onward → Times part (suc count) at n Onward

-- the steps of a label: one, and one for each `STEP_OCTETS` of its octets
abbrev pub label_steps : ℕ → ℕ
label_steps size = 1 + size / STEP_OCTETS

-- behind the pointer, once the name was followed that it leads to
abbrev pub behind : ℕ → Come → Come
behind place (Behind _) = Behind place
behind place Ended = Ended
behind place Onward = Onward

-- A label of this size is at a place, whole, and a name that has used so many octets may have it.
pub record Fits (m : List ℕ) (at used size : ℕ) : Type 0 where
  pub is : next_at m at ≡ Label size
  pub short : used + size + 2 ≤ MAX_NAME_OCTETS
  pub whole : at + 1 + size ≤ length m

-- A name that has used so many octets can't go on at a place, in a run of labels that began at `run`: its first fault is here, as in `NameFails`.
pub data IsStuck (m : List ℕ) (at run used : ℕ) : Type 0 where
  cut : next_at m at ≡ Cut → IsStuck m at run used
  reserved : next_at m at ≡ Reserved → IsStuck m at run used
  long : {size : ℕ} → next_at m at ≡ Label size → MAX_NAME_OCTETS < used + size + 2 → IsStuck m at run used
  cut_label : {size : ℕ} → next_at m at ≡ Label size → length m < at + 1 + size → IsStuck m at run used
  not_before : {to : ℕ} → next_at m at ≡ Pointer to → run ≤ to → IsStuck m at run used

-- The name that began at `start` is nothing but a pointer to the name right after the header, which is known: reading copies it.
pub record IsKnownName (known : Bool) (start at to : ℕ) : Type 0 where
  pub is_known : known ≡ true
  pub is_first : at ≡ start
  pub leads : to ≡ HEADER_OCTETS

-- What reading a name takes that began at `start`: the steps of its labels, and one for each pointer. It goes on at a place, in a run of labels that
-- began at `run`, with so many octets used, as in `NameAt` and `NameFails`.
pub data NameTakes (m : List ℕ) (known : Bool) (start : ℕ) : ℕ → ℕ → ℕ → ℕ → Come → Type 0 where
  so_far : {at run used : ℕ} → NameTakes m known start at run used 0 Onward
  finish : {at run used : ℕ} → next_at m at ≡ Finish → NameTakes m known start at run used 0 (Behind (at + 1))
  fails : {at run used : ℕ} → IsStuck m at run used → NameTakes m known start at run used 0 Ended
  label : {at run used size k n : ℕ} {come : Come} → Fits m at used size → NameTakes m known start (at + 1 + size) run (used + size + 1) k come
      → n ≡ label_steps size + k → NameTakes m known start at run used n come
  pointer : {at run used to k n : ℕ} {come : Come} → next_at m at ≡ Pointer to → to < run → ¬ (IsKnownName known start at to)
      → NameTakes m known start to to used k come → n ≡ 1 + k → NameTakes m known start at run used n (behind (at + 2) come)
  pointer_on : {at run used to : ℕ} → next_at m at ≡ Pointer to → to < run → NameTakes m known start at run used 1 Onward
  known_name : {at run used to : ℕ} → next_at m at ≡ Pointer to → to < run → IsKnownName known start at to → NameTakes m known start at run used 1 (Behind (at + 2))

-- what reading the name at a place takes
abbrev pub NameAt : List ℕ → Bool → ℕ → Takes
NameAt m known start = NameTakes m known start start start 0

-- What reading strings takes, each preceded by its length: so many steps for each, to come before this place.
pub data StringsTake (end : ℕ) : List ℕ → ℕ → Come → Type 0 where
  strings_on : {octets : List ℕ} → StringsTake end octets 0 Onward
  no_strings : StringsTake end [] 0 (Behind end)
  string : {size k n : ℕ} {octets : List ℕ} {come : Come} → size ≤ length octets → StringsTake end (drop size octets) k come → n ≡ ITEM_STEPS + k
      → StringsTake end (size ∷ octets) n come
  string_cut : {size : ℕ} {octets : List ℕ} → length octets < size → StringsTake end (size ∷ octets) 0 Ended

-- What reading RDATA between two places takes: each of its names, or each of its strings.
abbrev pub DataTakes : List ℕ → Bool → Form → ℕ → ℕ → Takes
DataTakes m known Name begin end = Then (NameAt m known begin) (λ _. Nothing end)
DataTakes m known Mx begin end = Then (NameAt m known (begin + 2)) (λ _. Nothing end)
DataTakes m known Srv begin end = Then (NameAt m known (begin + 6)) (λ _. Nothing end)
DataTakes m known Soa begin end = Then (NameAt m known begin) (λ second. Then (NameAt m known second) (λ _. Nothing end))
DataTakes m known Txt begin end = StringsTake end (slice_range m begin end)
DataTakes m known _ begin end = Nothing end

-- What reading the rest of a record takes, behind its owner.
pub data RestTakes (m : List ℕ) (known : Bool) (fixed : ℕ) : ℕ → Come → Type 0 where
  record_cut : length m < data_end m fixed → RestTakes m known fixed 0 Ended
  record_whole : {n : ℕ} {come : Come} → data_end m fixed ≤ length m
      → DataTakes m known (form_at m fixed) (data_begin fixed) (data_end m fixed) n come → RestTakes m known fixed n come

-- what a record itself takes, before its names
abbrev pub ItemTakes : ℕ → Takes
ItemTakes at n come = (n ≡ ITEM_STEPS) × (come ≡ Behind at)

-- what reading the record at a place takes
abbrev pub RecordTakes : List ℕ → Bool → ℕ → Takes
RecordTakes m known start = Then (ItemTakes start) (λ owner. Then (NameAt m known owner) (λ fixed. RestTakes m known fixed))

-- what reading the question at a place takes
abbrev pub QuestionTakes : List ℕ → ℕ → Takes
QuestionTakes m start = Then (NameAt m false start) (λ at. Nothing (at + 4))

-- whether the name of the first question is known to the records behind it: in a response
abbrev pub is_known : List ℕ → Bool
is_known m = nat_lt 0 (question_count m) && (head_in m).qr

-- the number of records in a message
abbrev pub records_in : List ℕ → ℕ
records_in m = answer_count m + authority_count m + additional_count m

-- What reading a message takes (RFC 1035, section 4.1): its questions, then its records.
pub data MessageTakes (m : List ℕ) : ℕ → Come → Type 0 where
  no_header : length m < HEADER_OCTETS → MessageTakes m 0 Ended
  parts : {n : ℕ} {come : Come} → HEADER_OCTETS ≤ length m
      → Then (Times (QuestionTakes m) (question_count m) HEADER_OCTETS) (λ at. Times (RecordTakes m (is_known m)) (records_in m) at) n come
      → MessageTakes m n come

-- With so many steps left a part was read, and so many are left now; or reading ended at a fault; or it wants more steps than are left.
pub data Read (takes : Takes) (left left' : ℕ) : Result ℕ Stop → Type 0 where
  read : {place n : ℕ} → left' + n ≡ left → takes n (Behind place) → Read takes left left' (Ok place)
  stopped : {n : ℕ} → n ≤ left → takes n Ended → Read takes left left' (Err Faulty)
  wanting : {n : ℕ} → left < n → takes n Onward → Read takes left left' (Err Dear)

-- Reading a message takes more than `MOST_STEPS` steps.
abbrev pub IsLong : List ℕ → Type 0
IsLong m = (n : ℕ) × (MOST_STEPS < n) × MessageTakes m n Onward

-- Reading a message comes to its end, or to its first fault, in `MOST_STEPS` steps.
abbrev pub IsQuick : List ℕ → Type 0
IsQuick m = (n : ℕ) × (n ≤ MOST_STEPS) × (MessageTakes m n Ended ⊎ ((place : ℕ) × MessageTakes m n (Behind place)))
