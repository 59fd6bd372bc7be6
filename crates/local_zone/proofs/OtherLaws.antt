-- The other side of a change: which owners a removal takes, and how many records count for a name.
use Rattle.std.proofs.Common.{◌≡◌, ℕ, zero, suc, ◌+◌, ◌-◌, ◌<◌, ◌≤◌, Bool, true, false, ◌&&◌, ◌||◌, not, cond, List, [], ◌∷◌, ◌++◌, length, map, take, drop, filter, get_or, slice_get, Option, Some, None, refl, ap, sym, subst, ◌∙◌, inl, inr, arith}
use Rattle.std.specs.List.{AllByRecursion}
use Rattle.std.specs.Option.{option_map}
use Rattle.std.proofs.lemmas.Bool.{cases_Bool, false≢true, lt-ltb, le-ltb}
use Rattle.std.proofs.lemmas.List.{length-map, length-take-le}
use Rattle.dns_name.specs.Labels.{Labels}
use Rattle.dns_name.specs.ListLaws.{all_weaker}
use Rattle.dns_name.specs.Order.{name_eq, name_eq_exact, name_eq_itself}
use Rattle.dns_name.specs.Below.{is_at_or_below}
use Rattle.dns_text.specs.declared.record.Record.{Record}
use Rattle.named_list.specs.Turn.{other_of, takes_out, HasPlace}
use Rattle.named_list.specs.TurnLaws.{takes_shorter}
use Rattle.named_list.specs.declared.turn.Turn.{Turn}
use Rattle.local_zone.specs.declared.added.Added.{Added as AddedRecord}
use Rattle.local_zone.specs.declared.added.RecordTurn.{RecordTurn}
use Rattle.local_zone.specs.declared.added.RecordTurn.TheVariants.{Removed}
use Rattle.local_zone.specs.declared.saved.SavedTables.{SavedTables}
use Rattle.local_zone.specs.declared.taken.Taken.{Taken}
use Rattle.local_zone.specs.declared.zone.Zone.{Zone}
use Rattle.local_zone.specs.Added.{brings_back, records_before, records_other, takes_away, GoesBack}
use Rattle.local_zone.specs.Change.{has_zone, is_there, records_with, retimed_by, zones_without}
use Rattle.local_zone.specs.Closest.{closest, gives_way, is_named, lies_in}
use Rattle.local_zone.specs.Count.{count_of, counts_there, same_zone}
use Rattle.local_zone.specs.CountsBelow.{count_below, count_where, is_below, lies_below}
use Rattle.local_zone.specs.Gaps.{at_gaps, first_at, put_back, records_of, rest_of, AreApart, AreWithin}
use Rattle.local_zone.specs.Index.{of_owner}
use Rattle.local_zone.specs.Saved.{before_of, IsRemoval, TakesBack}
use Rattle.local_zone.specs.Tables.{Tables}
use Rattle.local_zone.proofs.AddLaws.{take_front}
use Rattle.local_zone.proofs.CountLaws.{alike}
use Rattle.local_zone.proofs.CountsBelowLaws.{count_back, count_one, count_push, count_retimed}
use Rattle.local_zone.proofs.GapLaws.{back_at, behind, cut_at, put_all}
use Rattle.local_zone.proofs.SoundLaws.{there_retimed}
use Rattle.local_zone.proofs.ZoneLaws.{closest_without}
use Rattle.local_zone.proofs.ZonedLaws.{not_itself}

-- ---- a record that was added

module _ (added : AddedRecord) (records : List Record) (goes : records_with added.said (records_before added records) ≡ records) where
  abbrev said : Record
  said = added.said

  abbrev before : List Record
  before = records_before added records

  abbrev retimed : List Record
  retimed = map (retimed_by said) before

  length_before : added.is_new ≡ true → length before ≡ length records - 1
  length_before new =
      length-map (cond added.is_new (take (length records - 1) records) records) (retimed_by (record added.said { ttl = added.ttl }))
      ∙ ap (λ b. length (cond b (take (length records - 1) records) records)) new
      ∙ length-take-le (length records - 1) records (omega arith)

  none_there : (rs : List Record) → length rs ≡ 0 → is_there rs said ≡ false
  none_there [] e = refl
  none_there (r ∷ rs) e = absurd (omega (arith, e))

  -- it is the last one
  pub last_added : added.is_new ≡ true → records ≡ take (length records - 1) records ++ said ∷ []
  last_added new = by (is_there retimed said) refl
    where
      by : (b : Bool) → is_there retimed said ≡ b → records ≡ take (length records - 1) records ++ said ∷ []
      by true e =
          let is : retimed ≡ records = sym (ap (λ b. cond b retimed (retimed ++ said ∷ [])) e) ∙ goes in
          let none : length retimed ≡ 0 = omega (arith, length_before new, length-map before (retimed_by said), ap length is) in
          absurd (false≢true (sym (none_there retimed none) ∙ e))
      by false e =
          let is : retimed ++ said ∷ [] ≡ records = sym (ap (λ b. cond b retimed (retimed ++ said ∷ [])) e) ∙ goes in
          subst (λ (rs : List Record). rs ≡ take (length rs - 1) rs ++ said ∷ []) is (ap (λ (rs : List Record). rs ++ said ∷ []) (sym (take_front retimed said)))

  -- how many count without it
  pub count_before_is : (p : Labels → Bool) → count_where p records ≡ count_where p before + cond (added.is_new && p said.owner) 1 0
  count_before_is p =
      by added.is_new refl (count_retimed p (record added.said { ttl = added.ttl }) (cond added.is_new (take (length records - 1) records) records))
    where
      by : (b : Bool) → added.is_new ≡ b → count_where p before ≡ count_where p (cond b (take (length records - 1) records) records) → count_where p records ≡ count_where p before + cond (b && p said.owner) 1 0
      by true e is = omega (arith, is, ap (count_where p) (last_added e), count_push p (take (length records - 1) records) said)
      by false e is = omega (arith, is)

-- ---- a record that is added

module _ (new : Record) (records : List Record) where
  abbrev timed : List Record
  timed = map (retimed_by new) records

  pub there_is : (b : Bool) → is_there records new ≡ b → records_with new records ≡ cond b timed (timed ++ new ∷ [])
  there_is b e = ap (λ t. cond t timed (timed ++ new ∷ [])) (there_retimed new records ∙ e)

  -- how many count with it
  pub count_with_is : (p : Labels → Bool) → count_where p (records_with new records) ≡ count_where p records + cond (not (is_there records new) && p new.owner) 1 0
  count_with_is p = by (is_there records new) refl
    where
      by : (b : Bool) → is_there records new ≡ b → count_where p (records_with new records) ≡ count_where p records + cond (not b && p new.owner) 1 0
      by true e = omega (arith, ap (count_where p) (there_is true e), count_retimed p new records)
      by false e = omega (arith, ap (count_where p) (there_is false e), count_push p timed new, count_retimed p new records)

-- ---- a removal

-- the records that a test of owners leaves
abbrev left_by : (Labels → Bool) → List Record → List Record
left_by test records = filter (λ r. not (test r.owner)) records

module _ (test : Labels → Bool) where
  differs : (o a : Labels) (b : Bool) → test o ≡ b → test a ≡ not b → name_eq a o ≡ false
  differs o a b e h =
      elim (cases_Bool (name_eq a o)) [
        | inl same ↦ absurd (no b (sym e ∙ ap test (sym (name_eq_exact a o same)) ∙ h))
        | inr apart ↦ apart
      ]
    where
      no : (b : Bool) → b ≡ not b → ⊥
      no true is = absurd (false≢true (sym is))
      no false is = absurd (false≢true is)

  pub own_gone : (o : Labels) → test o ≡ true → (records : List Record) → of_owner o (left_by test records) ≡ []
  own_gone o e [] = refl
  own_gone o e (r ∷ records) = by (test r.owner) refl (own_gone o e records)
    where
      by : (b : Bool) → test r.owner ≡ b → of_owner o (left_by test records) ≡ [] → of_owner o (cond (not b) (r ∷ left_by test records) (left_by test records)) ≡ []
      by true is rest = rest
      by false is rest = ap (λ t. cond t (r ∷ of_owner o (left_by test records)) (of_owner o (left_by test records))) (differs o r.owner true e is) ∙ rest

  pub own_stays : (o : Labels) → test o ≡ false → (records : List Record) → of_owner o (left_by test records) ≡ of_owner o records
  own_stays o e [] = refl
  own_stays o e (r ∷ records) = by (test r.owner) refl (own_stays o e records)
    where
      by : (b : Bool) → test r.owner ≡ b → of_owner o (left_by test records) ≡ of_owner o records
          → of_owner o (cond (not b) (r ∷ left_by test records) (left_by test records)) ≡ cond (name_eq r.owner o) (r ∷ of_owner o records) (of_owner o records)
      by true is rest = rest ∙ sym (ap (λ t. cond t (r ∷ of_owner o records) (of_owner o records)) (differs o r.owner false e is))
      by false is rest = ap (λ (rs : List Record). cond (name_eq r.owner o) (r ∷ rs) rs) rest

  none_taken : (taken : List Taken) (left full : List Record) → put_back taken left ≡ full → AreApart taken left → left ≡ left_by test full → (o : Labels) → test o ≡ false → of_owner o (records_of taken) ≡ []
  none_taken taken left full back apart is o e =
      elim (apart o) [
        | inl none ↦ none
        | inr empty ↦ sym (put_all o taken left empty) ∙ ap (of_owner o) back ∙ sym (own_stays o e full) ∙ ap (of_owner o) (sym is) ∙ empty
      ]

  all_pass : (ts : List Taken) → ((o : Labels) → test o ≡ false → of_owner o (records_of ts) ≡ []) → AllByRecursion (λ t. test t.item.owner ≡ true) ts
  all_pass [] h = tt
  all_pass (t ∷ ts) h = (here (test t.item.owner) refl, all_pass ts (λ o e. rest o (name_eq t.item.owner o) (h o e)))
    where
      here : (b : Bool) → test t.item.owner ≡ b → test t.item.owner ≡ true
      here true e = e
      here false e =
          let none : t.item ∷ of_owner t.item.owner (records_of ts) ≡ []
          = sym (ap (λ b. cond b (t.item ∷ of_owner t.item.owner (records_of ts)) (of_owner t.item.owner (records_of ts))) (name_eq_itself t.item.owner)) ∙ h t.item.owner e in
          absurd cc

      rest : (o : Labels) (b : Bool) → cond b (t.item ∷ of_owner o (records_of ts)) (of_owner o (records_of ts)) ≡ [] → of_owner o (records_of ts) ≡ []
      rest o true none = absurd cc
      rest o false none = none

  -- a removal takes only what passes its test
  pub taken_pass : (taken : List Taken) (left full : List Record) → put_back taken left ≡ full → AreApart taken left → left ≡ left_by test full → AllByRecursion (λ t. test t.item.owner ≡ true) taken
  taken_pass taken left full back apart is = all_pass taken (none_taken taken left full back apart is)

  head_passes : (ts : List Taken) (o : Labels) → Some o ≡ option_map (λ t. t.item.owner) (slice_get ts 0) → AllByRecursion (λ t. test t.item.owner ≡ true) ts → test o ≡ true
  head_passes [] o e h = absurd cc
  head_passes (t ∷ ts) o e h = let is : o ≡ t.item.owner = cc in ap test is ∙ h.0

pub shorter_without : (name : Labels) (zones : List Zone) → has_zone zones name ≡ true → length (zones_without name zones) < length zones
shorter_without name [] e = absurd (false≢true e)
shorter_without name (z ∷ zones) e = by (name_eq z.name name) e (shorter_without name zones)
  where
    few : (zs : List Zone) → length (zones_without name zs) ≤ length zs
    few [] = omega arith
    few (y ∷ zs) = one (name_eq y.name name) (few zs)
      where
        one : (b : Bool) → length (zones_without name zs) ≤ length zs → length (cond (not b) (y ∷ zones_without name zs) (zones_without name zs)) ≤ suc (length zs)
        one true h = omega (arith, h)
        one false h = omega (arith, h)

    by : (b : Bool) → (b || has_zone zones name) ≡ true → (has_zone zones name ≡ true → length (zones_without name zones) < length zones)
        → length (cond (not b) (z ∷ zones_without name zones) (zones_without name zones)) < suc (length zones)
    by true h more = omega (arith, few zones)
    by false h more = let rest = more h in omega (arith, rest)

-- a removal by a test of owners, with a zone or without one
pub record IsTested (with_zone : Bool) (zones after : List Zone) (full left : List Record) : Type 0 where
  pub test : Labels → Bool
  pub left_is : left ≡ filter (λ r. not (test r.owner)) full
  pub zone : with_zone ≡ true → (name : Labels) × (((o : Labels) → test o ≡ lies_in zones name o) × (after ≡ zones_without name zones))
  pub owner : with_zone ≡ false → ((o a : Labels) → test o ≡ true → test a ≡ name_eq a o) × (after ≡ zones)

pub tested : (turn : Turn Zone) (zones : List Zone) (full left : List Record) → HasPlace (λ (z : Zone). z.name) turn zones
    → IsRemoval (record { zones = zones; records = full }) (record { zones = other_of turn zones; records = left }) → IsTested (takes_out turn) zones (other_of turn zones) full left
tested turn zones full left fits (inl (name, (has, e))) =
    let list : other_of turn zones ≡ zones_without name zones = ap (λ (t : Tables). t.zones) e in
    let short = shorter_without name zones has in
    let takes : takes_out turn ≡ true
    = takes_shorter (λ (z : Zone). z.name) turn zones (other_of turn zones) (fits, refl) ∙ lt-ltb (length (other_of turn zones)) (length zones) (omega (arith, ap length list, short)) in
    record {
      test = λ o. lies_in zones name o;
      left_is = ap (λ (t : Tables). t.records) e;
      zone = λ _. (name, ((λ o. refl), list));
      owner = λ none. absurd (false≢true (sym none ∙ takes));
    }
tested turn zones full left fits (inr (name, e)) =
    let list : other_of turn zones ≡ zones = ap (λ (t : Tables). t.zones) e in
    let takes : takes_out turn ≡ false
    = takes_shorter (λ (z : Zone). z.name) turn zones (other_of turn zones) (fits, refl) ∙ le-ltb (length (other_of turn zones)) (length zones) (omega (arith, ap length list)) in
    record {
      test = λ o. name_eq o name;
      left_is = ap (λ (t : Tables). t.records) e;
      zone = λ some. absurd (false≢true (sym takes ∙ some));
      owner = λ _. ((λ o a same. ap (name_eq a) (sym (name_eq_exact o name same))), list);
    }

module _ {with_zone : Bool} {zones after : List Zone} {full left : List Record} (it : IsTested with_zone zones after full left) where
  -- the first record at the gaps passes
  pub first_goes : (gaps : List ℕ) → left ≡ rest_of gaps full → AreWithin gaps full → AreApart (at_gaps gaps full) (rest_of gaps full) → (o : Labels)
      → Some o ≡ option_map (λ t. t.item.owner) (slice_get (at_gaps gaps full) 0) → it.test o ≡ true
  first_goes gaps is within apart o e =
      head_passes it.test (at_gaps gaps full) o e
      (taken_pass it.test (at_gaps gaps full) (rest_of gaps full) full (back_at gaps full within) apart (sym is ∙ it.left_is))

  -- whether an owner goes with the first
  pub goes_so : (w b : Bool) (first owner : Labels) → w ≡ with_zone → (w ≡ true → (name : Labels) → lies_in zones name first ≡ true → b ≡ lies_in zones name owner) → (w ≡ false → b ≡ name_eq owner first)
      → it.test first ≡ true → b ≡ it.test owner
  goes_so true b first owner w zone one passes =
      let z = it.zone (sym w) in
      zone refl z.0 (sym (z.1.0 first) ∙ passes) ∙ sym (z.1.0 owner)
  goes_so false b first owner w zone one passes = one refl ∙ sym ((it.owner (sym w)).0 first owner passes)

  own_left_none : (owner : Labels) → it.test owner ≡ true → [] ≡ of_owner owner left
  own_left_none owner e = sym (ap (of_owner owner) it.left_is ∙ own_gone it.test owner e full)

  own_left_all : (owner : Labels) → it.test owner ≡ false → of_owner owner full ≡ of_owner owner left
  own_left_all owner e = sym (ap (of_owner owner) it.left_is ∙ own_stays it.test owner e full)

  pub own_left_is : (b : Bool) (owner : Labels) → b ≡ it.test owner → of_owner owner left ≡ cond b [] (of_owner owner full)
  own_left_is true owner e = sym (own_left_none owner (sym e))
  own_left_is false owner e = sym (own_left_all owner (sym e))

empty_head : (ts : List Taken) → None ≡ option_map (λ t. t.item.owner) (slice_get ts 0) → ts ≡ []
empty_head [] e = refl
empty_head (t ∷ ts) e = absurd cc

-- where no record is at the gaps, all stay
pub all_left : (gaps : List ℕ) (full : List Record) → AreWithin gaps full → None ≡ option_map (λ t. t.item.owner) (slice_get (at_gaps gaps full) 0) → full ≡ rest_of gaps full
all_left gaps full within e =
    sym (back_at gaps full within) ∙ ap (λ (ts : List Taken). put_back ts (rest_of gaps full)) (empty_head (at_gaps gaps full) e)

-- the first record at the gaps, by its place
pub head_at : (gap : ℕ) (more : List ℕ) (records : List Record) (r : Record) → slice_get records gap ≡ Some r → slice_get (at_gaps (gap ∷ more) records) 0 ≡ Some (record { gap = gap; item = r })
head_at gap more records r at = by (drop gap records) (dropped gap records r at)
  where
    dropped : (n : ℕ) (rs : List Record) (x : Record) → slice_get rs n ≡ Some x → slice_get (drop n rs) 0 ≡ Some x
    dropped zero rs x e = e
    dropped (suc n) [] x e = absurd cc
    dropped (suc n) (y ∷ rs) x e = dropped n rs x e

    by : (rest : List Record) → slice_get rest 0 ≡ Some r → slice_get (first_at gap rest ++ at_gaps more (drop 1 rest)) 0 ≡ Some (record { gap = gap; item = r })
    by [] e = absurd cc
    by (x ∷ rest) e = let is : x ≡ r = cc in ap (λ (y : Record). Some (record { gap = gap; item = y })) is

pub first_none : (gaps : List ℕ) (records : List Record) → None ≡ slice_get gaps 0 → None ≡ option_map (λ t. t.item.owner) (slice_get (at_gaps gaps records) 0)
first_none [] records e = refl
first_none (gap ∷ more) records e = absurd cc

pub item_at : {X : Type 0} (xs : List X) (i : ℕ) (x : X) → i < length xs → x ≡ get_or xs i x → slice_get xs i ≡ Some x
item_at [] i x within e = absurd (omega (arith, within))
item_at (y ∷ xs) zero x within e = ap Some (sym e)
item_at (y ∷ xs) (suc i) x within e = item_at xs i x (omega (arith, within)) e

-- it lies in the list
pub first_there : (gaps : List ℕ) (records : List Record) (gap : ℕ) → AreWithin gaps records → Some gap ≡ slice_get gaps 0 → gap < length records
first_there [] records gap h e = absurd cc
first_there (g ∷ more) records gap h e =
    let is : g ≡ gap = cc in omega (arith, h.0, is)

pub first_some : (gaps : List ℕ) (records : List Record) (gap : ℕ) (r : Record) → AreWithin gaps records → Some gap ≡ slice_get gaps 0 → r ≡ get_or records gap r
    → Some r.owner ≡ option_map (λ t. t.item.owner) (slice_get (at_gaps gaps records) 0)
first_some [] records gap r h e at = absurd cc
first_some (g ∷ more) records gap r h e at =
    let is : g ≡ gap = cc in
    let there : slice_get records g ≡ Some r = ap (slice_get records) is ∙ item_at records gap r (omega (arith, h.0, is)) at in
    ap (λ (t : Option Taken). option_map (λ (x : Taken). x.item.owner) t) (sym (head_at g more records r there))

pub length_all : (gaps : List ℕ) (records : List Record) → AreWithin gaps records → length (at_gaps gaps records) ≡ length gaps
length_all [] records h = refl
length_all (gap ∷ more) records h =
    let it = cut_at gap records h.0 in
    ap (λ (rs : List Record). length (first_at gap rs ++ at_gaps more (behind gap records))) it.is ∙ ap suc (length_all more (behind gap records) h.1)

-- ---- how many count after a removal

same_named : (name : Labels) (a b : Option Zone) → same_zone a b ≡ true → is_named name b ≡ is_named name a
same_named name None None e = refl
same_named name None (Some b) e = absurd (false≢true e)
same_named name (Some a) None e = absurd (false≢true e)
same_named name (Some a) (Some b) e = ap (λ (n : Labels). name_eq n name) (name_eq_exact b.name a.name e)

not_same : (name : Labels) (a b : Option Zone) (x y : Bool) → is_named name a ≡ x → is_named name b ≡ y → (x ≡ y → ⊥) → same_zone a b ≡ false
not_same name a b x y ea eb apart =
    elim (cases_Bool (same_zone a b)) [
      | inl same ↦ absurd (apart (sym ea ∙ sym (same_named name a b same) ∙ eb))
      | inr other ↦ other
    ]

module _ (zones : List Zone) (gone n : Labels) where
  one_dropped : (o : Labels)
      → ◌≡◌ {A = ℕ} (cond (lies_in zones gone o) 0 (cond (counts_there (zones_without gone zones) n o) 1 0)) (cond (lies_in zones gone n) 0 (cond (counts_there zones n o) 1 0))
  one_dropped o = by (is_at_or_below o n) refl (lies_in zones gone o) refl (lies_in zones gone n) refl
    where
      by : (at : Bool) → is_at_or_below o n ≡ at → (t : Bool) → lies_in zones gone o ≡ t → (l : Bool) → lies_in zones gone n ≡ l
          → ◌≡◌ {A = ℕ} (cond t 0 (cond (at && same_zone (closest (zones_without gone zones) n) (closest (zones_without gone zones) o)) 1 0)) (cond l 0 (cond (at && same_zone (closest zones n) (closest zones o)) 1 0))
      by false at true t true l = refl
      by false at true t false l = refl
      by false at false t true l = refl
      by false at false t false l = refl
      by true at true t true l = refl
      by true at true t false l = sym (ap {B = ℕ} (λ b. cond b 1 0) (not_same gone (closest zones n) (closest zones o) false true l t false≢true))
      by true at false t l here =
          let kept : closest (zones_without gone zones) o ≡ closest zones o = closest_without zones gone o t in
          let same : same_zone (closest (zones_without gone zones) n) (closest (zones_without gone zones) o) ≡ same_zone (closest zones n) (closest zones o)
          = sym (alike (zones_without gone zones) n o at) ∙ ap (gives_way n) kept ∙ alike zones n o at in
          ap {B = ℕ} (λ b. cond b 1 0) same ∙ rest l here
        where
          rest : (l : Bool) → lies_in zones gone n ≡ l → ◌≡◌ {A = ℕ} (cond (same_zone (closest zones n) (closest zones o)) 1 0) (cond l 0 (cond (same_zone (closest zones n) (closest zones o)) 1 0))
          rest true l = ap {B = ℕ} (λ b. cond b 1 0) (not_same gone (closest zones n) (closest zones o) true false l t (λ e. false≢true (sym e)))
          rest false l = refl

  -- after a zone went with its records
  pub count_dropped : (records : List Record) → count_of (zones_without gone zones) n (filter (λ r. not (lies_in zones gone r.owner)) records) ≡ cond (lies_in zones gone n) 0 (count_of zones n records)
  count_dropped [] = by (lies_in zones gone n)
    where
      by : (l : Bool) → ◌≡◌ {A = ℕ} 0 (cond l 0 0)
      by true = refl
      by false = refl
  count_dropped (r ∷ records) =
      by (lies_in zones gone r.owner) (lies_in zones gone n) (one_dropped r.owner) (count_dropped records) (count_one (counts_there zones n) r records) (count_one (counts_there (zones_without gone zones) n) r left)
    where
      left : List Record
      left = filter (λ r. not (lies_in zones gone r.owner)) records

      by : (t l : Bool) → ◌≡◌ {A = ℕ} (cond t 0 (cond (counts_there (zones_without gone zones) n r.owner) 1 0)) (cond l 0 (cond (counts_there zones n r.owner) 1 0))
          → count_of (zones_without gone zones) n left ≡ cond l 0 (count_of zones n records)
          → count_of zones n (r ∷ records) ≡ cond (counts_there zones n r.owner) 1 0 + count_of zones n records
          → count_of (zones_without gone zones) n (r ∷ left) ≡ cond (counts_there (zones_without gone zones) n r.owner) 1 0 + count_of (zones_without gone zones) n left
          → count_of (zones_without gone zones) n (cond (not t) (r ∷ left) left) ≡ cond l 0 (count_of zones n (r ∷ records))
      by true true here rest all some = rest
      by true false here rest all some = omega (arith, here, rest, all)
      by false true here rest all some = omega (arith, here, rest, some)
      by false false here rest all some = omega (arith, here, rest, all, some)

one_owner : (p : Labels → Bool) (o : Labels) (ts : List Taken) → AllByRecursion (λ t. t.item.owner ≡ o) ts → count_where p (records_of ts) ≡ cond (p o) (length ts) 0
one_owner p o [] h = by (p o)
  where
    by : (b : Bool) → ◌≡◌ {A = ℕ} 0 (cond b 0 0)
    by true = refl
    by false = refl
one_owner p o (t ∷ ts) h = by (p o) (ap {B = ℕ} (λ (x : Labels). cond (p x) 1 0) h.0) (one_owner p o ts h.1) (count_one p t.item (records_of ts))
  where
    by : (b : Bool) → ◌≡◌ {A = ℕ} (cond (p t.item.owner) 1 0) (cond b 1 0) → count_where p (records_of ts) ≡ cond b (length ts) 0
        → count_where p (t.item ∷ records_of ts) ≡ cond (p t.item.owner) 1 0 + count_where p (records_of ts) → count_where p (t.item ∷ records_of ts) ≡ cond b (suc (length ts)) 0
    by true here rest all = omega (arith, here, rest, all)
    by false here rest all = omega (arith, here, rest, all)

module _ {with_zone : Bool} {zones after : List Zone} {full left : List Record} (it : IsTested with_zone zones after full left) (gaps : List ℕ) (is : left ≡ rest_of gaps full) (n : Labels) where
  pub count_left_zone : with_zone ≡ true → (b : Bool) (first : Labels) → it.test first ≡ true → (b ≡ it.test n) → count_of after n left ≡ cond b 0 (count_of zones n full)
  count_left_zone w b first passes same =
      let z = it.zone w in
      (λ i. count_of (z.1.1 i) n (it.left_is i))
      ∙ tests z.0 z.1.0 full
      ∙ count_dropped zones z.0 n full
      ∙ ap (λ t. cond t 0 (count_of zones n full)) (sym (z.1.0 n) ∙ sym same)
    where
      tests : (name : Labels) → ((o : Labels) → it.test o ≡ lies_in zones name o) → (rs : List Record)
          → count_of (zones_without name zones) n (filter (λ r. not (it.test r.owner)) rs) ≡ count_of (zones_without name zones) n (filter (λ r. not (lies_in zones name r.owner)) rs)
      tests name h rs = ap (count_of (zones_without name zones) n) (same_filter h rs)
        where
          same_filter : ((o : Labels) → it.test o ≡ lies_in zones name o) → (xs : List Record) → filter (λ r. not (it.test r.owner)) xs ≡ filter (λ r. not (lies_in zones name r.owner)) xs
          same_filter h [] = refl
          same_filter h (x ∷ xs) = λ i. cond (not (h x.owner i)) (x ∷ same_filter h xs i) (same_filter h xs i)

  pub count_left_owner : with_zone ≡ false → AreWithin gaps full → AreApart (at_gaps gaps full) (rest_of gaps full) → (first : Labels) → it.test first ≡ true
      → count_of zones n full ≡ cond (counts_there after n first) (length gaps) 0 + count_of after n left
  count_left_owner w within apart first passes =
      let one = it.owner w in
      let all = taken_pass it.test (at_gaps gaps full) (rest_of gaps full) full (back_at gaps full within) apart (sym is ∙ it.left_is) in
      let owners : AllByRecursion (λ (t : Taken). t.item.owner ≡ first) (at_gaps gaps full)
      = all_weaker (λ (t : Taken). it.test t.item.owner ≡ true) (λ (t : Taken). t.item.owner ≡ first) (λ t h. name_eq_exact t.item.owner first (sym (one.0 first t.item.owner passes) ∙ h)) (at_gaps gaps full) all in
      let taken = one_owner (counts_there zones n) first (at_gaps gaps full) owners in
      let back = count_back (counts_there zones n) (at_gaps gaps full) (rest_of gaps full) in
      let whole = ap (count_where (counts_there zones n)) (back_at gaps full within) in
      let long = ap {B = ℕ} (λ m. cond (counts_there zones n first) m 0) (length_all gaps full within) in
      let there : count_of zones n full ≡ cond (counts_there zones n first) (length gaps) 0 + count_of zones n left = omega (arith, taken, back, whole, long, ap (count_where (counts_there zones n)) is) in
      subst (λ (zs : List Zone). count_of zones n full ≡ cond (counts_there zs n first) (length gaps) 0 + count_of zs n left) (sym one.1) there

-- ---- how many of the records that come back count

at_or_below : (o n : Labels) → cond (is_at_or_below o n) 1 0 ≡ cond (name_eq o n) 1 0 + cond (is_below o n) 1 0
at_or_below o n = by (is_at_or_below o n) refl (name_eq o n) refl
  where
    by : (b : Bool) → is_at_or_below o n ≡ b → (t : Bool) → name_eq o n ≡ t → cond b 1 0 ≡ cond t 1 0 + cond (b && not t) 1 0
    by true at true same = refl
    by true at false apart = refl
    by false at true same = absurd (false≢true (sym (not_itself o n at) ∙ same))
    by false at false apart = refl

module _ (zones : List Zone) (n : Labels) where
  one_zone : (b : Bool) (ts : List Taken) → AllByRecursion (λ t. same_zone (closest zones n) (closest zones t.item.owner) ≡ b) ts
      → count_of zones n (records_of ts) ≡ cond b (length (of_owner n (records_of ts)) + count_below n (records_of ts)) 0
  one_zone true [] h = refl
  one_zone false [] h = refl
  one_zone true (t ∷ ts) h =
      let here : ◌≡◌ {A = ℕ} (cond (counts_there zones n t.item.owner) 1 0) (cond (is_at_or_below t.item.owner n) 1 0) = ap {B = ℕ} (λ b. cond (is_at_or_below t.item.owner n && b) 1 0) h.0 ∙ whole (is_at_or_below t.item.owner n) in
      omega (
        arith,
        here,
        at_or_below t.item.owner n,
        one_zone true ts h.1,
        count_one (counts_there zones n) t.item (records_of ts),
        count_one (λ o. name_eq o n) t.item (records_of ts),
        count_one (lies_below n) t.item (records_of ts),
      )
    where
      whole : (b : Bool) → ◌≡◌ {A = ℕ} (cond (b && true) 1 0) (cond b 1 0)
      whole true = refl
      whole false = refl
  one_zone false (t ∷ ts) h =
      let here : ◌≡◌ {A = ℕ} (cond (counts_there zones n t.item.owner) 1 0) 0 = ap {B = ℕ} (λ b. cond (is_at_or_below t.item.owner n && b) 1 0) h.0 ∙ none (is_at_or_below t.item.owner n) in
      omega (arith, here, one_zone false ts h.1, count_one (counts_there zones n) t.item (records_of ts))
    where
      none : (b : Bool) → ◌≡◌ {A = ℕ} (cond (b && false) 1 0) 0
      none true = refl
      none false = refl

  named_alike : (name : Labels) (x a b : Option Zone) → is_named name a ≡ true → is_named name b ≡ true → same_zone x a ≡ same_zone x b
  named_alike name x None b ea eb = absurd (false≢true ea)
  named_alike name x (Some a) None ea eb = absurd (false≢true eb)
  named_alike name None (Some a) (Some b) ea eb = refl
  named_alike name (Some y) (Some a) (Some b) ea eb = ap (λ (m : Labels). name_eq m y.name) (name_eq_exact a.name name ea ∙ sym (name_eq_exact b.name name eb))

  module _ (left : List Record) (before : List Zone) (t : Taken) (ts : List Taken) (apart : AreApart (t ∷ ts) left) where
    abbrev found : Labels → Option Zone
    found o = closest zones o

    -- all lie in the zone of the first
    alike_first : IsRemoval (record { zones = zones; records = put_back (t ∷ ts) left }) (record { zones = before; records = left })
        → AllByRecursion (λ u. same_zone (found n) (found u.item.owner) ≡ same_zone (found n) (found t.item.owner)) (t ∷ ts)
    alike_first (inl (name, (has, e))) =
        let all = taken_pass (λ o. lies_in zones name o) (t ∷ ts) left (put_back (t ∷ ts) left) refl apart (ap (λ (s : Tables). s.records) e) in
        all_weaker (λ (u : Taken). lies_in zones name u.item.owner ≡ true) (λ (u : Taken). same_zone (found n) (found u.item.owner) ≡ same_zone (found n) (found t.item.owner)) (λ u h. named_alike name (found n) (found u.item.owner) (found t.item.owner) h all.0) (t ∷ ts) all
    alike_first (inr (name, e)) =
        let all = taken_pass (λ o. name_eq o name) (t ∷ ts) left (put_back (t ∷ ts) left) refl apart (ap (λ (s : Tables). s.records) e) in
        all_weaker (λ (u : Taken). name_eq u.item.owner name ≡ true) (λ (u : Taken). same_zone (found n) (found u.item.owner) ≡ same_zone (found n) (found t.item.owner)) (λ u h.
        ap (λ (o : Labels). same_zone (found n) (found o)) (name_eq_exact u.item.owner name h ∙ sym (name_eq_exact t.item.owner name all.0))) (t ∷ ts) all

  pub count_back_is : (taken : List Taken) (left : List Record) (before : List Zone) (first : Labels) (b : Bool) → Some first ≡ option_map (λ t. t.item.owner) (slice_get taken 0) → AreApart taken left
      → IsRemoval (record { zones = zones; records = put_back taken left }) (record { zones = before; records = left }) → b ≡ same_zone (closest zones n) (closest zones first)
      → count_of zones n (records_of taken) ≡ cond b (length (of_owner n (records_of taken)) + count_below n (records_of taken)) 0
  count_back_is [] left before first b e apart removal same = absurd cc
  count_back_is (t ∷ ts) left before first b e apart removal same =
      let is : first ≡ t.item.owner = cc in
      let here : same_zone (closest zones n) (closest zones t.item.owner) ≡ b = ap (λ (o : Labels). same_zone (closest zones n) (closest zones o)) (sym is) ∙ sym same in
      one_zone b (t ∷ ts)
      (all_weaker (λ (u : Taken). same_zone (closest zones n) (closest zones u.item.owner) ≡ same_zone (closest zones n) (closest zones t.item.owner)) (λ (u : Taken). same_zone (closest zones n) (closest zones u.item.owner) ≡ b)
      (λ u h. h ∙ here) (t ∷ ts) (alike_first left before t ts apart removal))

  -- no more of them than there are
  pub few_back : (rs : List Record) → length (of_owner n rs) + count_below n rs ≤ length rs
  few_back [] = omega arith
  few_back (r ∷ rs) =
      let one : cond (is_at_or_below r.owner n) 1 0 ≤ 1 = bit (is_at_or_below r.owner n) in
      omega (arith, few_back rs, one, at_or_below r.owner n, count_one (λ o. name_eq o n) r rs, count_one (lies_below n) r rs)
    where
      bit : (b : Bool) → cond b 1 0 ≤ 1
      bit true = omega arith
      bit false = omega arith

-- what the way there says of each kind of change
pub side_goes : (turn now : RecordTurn) (records : List Record) → turn ≡ now → GoesBack turn records → GoesBack now records
side_goes turn now records is h = subst (λ (t : RecordTurn). GoesBack t records) is h

pub side_takes : (saved : SavedTables) (zones : List Zone) (records : List Record) (now : RecordTurn) → saved.records ≡ now → takes_away now ≡ true
    → TakesBack saved (record { zones = zones; records = records }) (before_of saved (record { zones = zones; records = records }))
    → IsRemoval (record { zones = zones; records = records }) (record { zones = other_of saved.zones zones; records = records_other now records })
side_takes saved zones records now is takes back =
    subst (λ (t : RecordTurn). IsRemoval (record { zones = zones; records = records }) (record { zones = other_of saved.zones zones; records = records_other t records })) is (back.takes (ap takes_away is ∙ takes))

pub side_brings : (saved : SavedTables) (zones : List Zone) (records : List Record) (removed : List Taken) → saved.records ≡ Removed removed
    → TakesBack saved (record { zones = zones; records = records }) (before_of saved (record { zones = zones; records = records }))
    → IsRemoval (record { zones = other_of saved.zones zones; records = put_back removed records }) (record { zones = zones; records = records })
side_brings saved zones records removed is back =
    subst (λ (t : RecordTurn). IsRemoval (record { zones = other_of saved.zones zones; records = records_other t records }) (record { zones = zones; records = records })) is (back.brings (ap brings_back is))
