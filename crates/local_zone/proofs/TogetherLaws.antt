-- Records of one zone: how many of them count for a name, and that a removal takes only such.
use Rattle.std.proofs.Common.{◌≡◌, ℕ, ◌≤◌, Bool, true, false, cond, List, [], ◌∷◌, length, slice_get, Option, Some, None, refl, ap, sym, subst, ◌∙◌, inl, inr, arith}
use Rattle.std.specs.List.{AllByRecursion}
use Rattle.std.specs.Option.{option_map}
use Rattle.std.specs.Prelude.{nat_lt}
use Rattle.std.proofs.lemmas.Bool.{false≢true, ltb-false, ltb-true}
use Rattle.dns_name.specs.Labels.{Labels}
use Rattle.dns_name.specs.ListLaws.{all_weaker}
use Rattle.dns_name.specs.Order.{name_eq, name_eq_exact, name_eq_itself}
use Rattle.dns_text.specs.declared.record.Record.{Record}
use Rattle.named_list.specs.Turn.{other_of, puts_in}
use Rattle.named_list.specs.TurnLaws.{puts_longer}
use Rattle.local_zone.specs.declared.added.RecordTurn.{RecordTurn}
use Rattle.local_zone.specs.declared.added.RecordTurn.TheVariants.{Nothing, Added, Adds, Removed, Removes}
use Rattle.local_zone.specs.declared.saved.SavedTables.{SavedTables}
use Rattle.local_zone.specs.declared.taken.Taken.{Taken}
use Rattle.local_zone.specs.declared.zone.Zone.{Zone}
use Rattle.local_zone.specs.declared.zone_type.ZoneType.TheVariants.{Transparent}
use Rattle.local_zone.specs.Change.{zones_without}
use Rattle.local_zone.specs.Closest.{closest, is_named, lies_in}
use Rattle.local_zone.specs.Count.{same_zone}
use Rattle.local_zone.specs.CountsBelow.{count_where, count_zoned, is_below, is_zone_below, is_zoned}
use Rattle.local_zone.specs.Gaps.{at_gaps, gaps_where, put_back, records_of, rest_of, AreApart}
use Rattle.local_zone.specs.Saved.{before_of, IsRemoval, TakesBack}
use Rattle.local_zone.specs.Tables.{Tables}
use Rattle.local_zone.specs.Together.{LieTogether, MoveTogether}
use Rattle.local_zone.proofs.CountsBelowLaws.{count_one}
use Rattle.local_zone.proofs.GapLaws.{apart_of, back_at, rest_of_test, within_of}
use Rattle.local_zone.proofs.OtherLaws.{shorter_without, side_brings, side_goes, side_takes, taken_pass}

-- ---- how many count

zone_alike : (n : Labels) (x a : Option Zone) → same_zone x a ≡ true → is_zone_below n a ≡ is_zone_below n x
zone_alike n None None e = refl
zone_alike n None (Some a) e = absurd (false≢true e)
zone_alike n (Some x) None e = absurd (false≢true e)
zone_alike n (Some x) (Some a) e = ap (λ (m : Labels). is_below m n) (name_eq_exact a.name x.name e)

count_all : (p : Labels → Bool) (b : Bool) (ts : List Taken) → AllByRecursion (λ t. p t.item.owner ≡ b) ts → count_where p (records_of ts) ≡ cond b (length ts) 0
count_all p true [] h = refl
count_all p false [] h = refl
count_all p true (t ∷ ts) h = omega (arith, ap {B = ℕ} (λ b. cond b 1 0) h.0, count_all p true ts h.1, count_one p t.item (records_of ts))
count_all p false (t ∷ ts) h = omega (arith, ap {B = ℕ} (λ b. cond b 1 0) h.0, count_all p false ts h.1, count_one p t.item (records_of ts))

-- all count for a name, or none does
pub count_together : (zones : List Zone) (taken : List Taken) (first : Labels) → Some first ≡ option_map (λ t. t.item.owner) (slice_get taken 0) → LieTogether zones taken → (name : Labels)
    → count_zoned zones name (records_of taken) ≡ cond (is_zone_below name (closest zones first)) (length taken) 0
count_together zones [] first e it name = absurd cc
count_together zones (t ∷ ts) first e it name =
    let is : first ≡ t.item.owner = cc in
    let all : AllByRecursion (λ (u : Taken). is_zoned zones name u.item.owner ≡ is_zone_below name it.found) (t ∷ ts)
    = all_weaker (λ (u : Taken). same_zone it.found (closest zones u.item.owner) ≡ true) (λ (u : Taken). is_zoned zones name u.item.owner ≡ is_zone_below name it.found)
    (λ u h. zone_alike name it.found (closest zones u.item.owner) h) (t ∷ ts) it.all in
    count_all (is_zoned zones name) (is_zone_below name it.found) (t ∷ ts) all
    ∙ ap {B = ℕ} (λ b. cond b (length (t ∷ ts)) 0) (sym all.0 ∙ ap (λ (o : Labels). is_zone_below name (closest zones o)) (sym is))

pub count_nothing : (zones : List Zone) (taken : List Taken) (name : Labels) → None ≡ slice_get taken 0 → count_zoned zones name (records_of taken) ≡ 0
count_nothing zones [] name e = refl
count_nothing zones (t ∷ ts) name e = absurd cc

-- ---- what a removal takes

same_itself : (x : Option Zone) → same_zone x x ≡ true
same_itself None = refl
same_itself (Some a) = name_eq_itself a.name

as_named : (name : Labels) (found : Option Zone) → is_named name found ≡ true → same_zone (Some (record { name = name; kind = Transparent })) found ≡ true
as_named name None e = e
as_named name (Some z) e = e

together_zone : (zones : List Zone) (name : Labels) (taken : List Taken) → AllByRecursion (λ t. lies_in zones name t.item.owner ≡ true) taken → LieTogether zones taken
together_zone zones name taken h = record {
  found = Some (record { name = name; kind = Transparent });
  all = all_weaker (λ (t : Taken). lies_in zones name t.item.owner ≡ true) (λ (t : Taken). same_zone (Some (record { name = name; kind = Transparent })) (closest zones t.item.owner) ≡ true)
      (λ t e. as_named name (closest zones t.item.owner) e) taken h;
}

together_owner : (zones : List Zone) (owner : Labels) (taken : List Taken) → AllByRecursion (λ t. name_eq t.item.owner owner ≡ true) taken → LieTogether zones taken
together_owner zones owner taken h = record {
  found = closest zones owner;
  all = all_weaker (λ (t : Taken). name_eq t.item.owner owner ≡ true) (λ (t : Taken). same_zone (closest zones owner) (closest zones t.item.owner) ≡ true)
      (λ t e. ap (λ (o : Labels). same_zone (closest zones owner) (closest zones o)) (name_eq_exact t.item.owner owner e) ∙ same_itself (closest zones owner)) taken h;
}

pass_at : (test : Labels → Bool) (records : List Record) (gaps : List ℕ) → gaps ≡ gaps_where (λ r. test r.owner) 0 records → AllByRecursion (λ t. test t.item.owner ≡ true) (at_gaps gaps records)
pass_at test records gaps e =
    taken_pass test (at_gaps gaps records) (rest_of gaps records) records (back_at gaps records (within_of test records gaps e)) (apart_of test records gaps e) (rest_of_test test records gaps e)

pub gaps_in_zone : (zones : List Zone) (name : Labels) (records : List Record) (gaps : List ℕ) → gaps ≡ gaps_where (λ r. lies_in zones name r.owner) 0 records → LieTogether zones (at_gaps gaps records)
gaps_in_zone zones name records gaps e = together_zone zones name (at_gaps gaps records) (pass_at (λ o. lies_in zones name o) records gaps e)

pub gaps_of_owner : (zones : List Zone) (owner : Labels) (records : List Record) (gaps : List ℕ) → gaps ≡ gaps_where (λ r. name_eq r.owner owner) 0 records → LieTogether zones (at_gaps gaps records)
gaps_of_owner zones owner records gaps e = together_owner zones owner (at_gaps gaps records) (pass_at (λ o. name_eq o owner) records gaps e)

module _ (zones after : List Zone) (taken : List Taken) (left full : List Record) (back : put_back taken left ≡ full) (apart : AreApart taken left) where
  -- by the zones before it
  before_removal : IsRemoval (record { zones = zones; records = full }) (record { zones = after; records = left }) → LieTogether zones taken
  before_removal (inl (name, (has, e))) = together_zone zones name taken (taken_pass (λ o. lies_in zones name o) taken left full back apart (ap (λ (t : Tables). t.records) e))
  before_removal (inr (name, e)) = together_owner zones name taken (taken_pass (λ o. name_eq o name) taken left full back apart (ap (λ (t : Tables). t.records) e))

  -- by those after it, if it takes no zone
  after_removal : length zones ≤ length after → IsRemoval (record { zones = zones; records = full }) (record { zones = after; records = left }) → LieTogether after taken
  after_removal few (inl (name, (has, e))) =
      let list : after ≡ zones_without name zones = ap (λ (t : Tables). t.zones) e in
      let short = shorter_without name zones has in
      absurd (omega (arith, few, ap length list, short))
  after_removal few (inr (name, e)) = together_owner after name taken (taken_pass (λ o. name_eq o name) taken left full back apart (ap (λ (t : Tables). t.records) e))

-- ---- what a step takes out or puts back

module _ (saved : SavedTables) (zones : List Zone) (records : List Record) (back : TakesBack saved (record { zones = zones; records = records }) (before_of saved (record { zones = zones; records = records }))) where
  abbrev others : List Zone
  others = other_of saved.zones zones

  longer : puts_in saved.zones ≡ nat_lt (length zones) (length others)
  longer = puts_longer (λ (z : Zone). z.name) saved.zones zones others (back.fits, refl)

  -- where a zone goes in first
  pub moves_in : puts_in saved.zones ≡ true → MoveTogether saved.records others records
  moves_in puts = by saved.records refl
    where
      few : length zones ≤ length others
      few = let more = ltb-true (length zones) (length others) (sym longer ∙ puts) in omega (arith, more)

      by : (r : RecordTurn) → saved.records ≡ r → MoveTogether r others records
      by Nothing e = tt
      by (Added added) e = tt
      by (Adds new) e = tt
      by (Removed removed) e =
          before_removal others zones removed records (put_back removed records) refl (side_goes saved.records (Removed removed) records e back.goes).1 (side_brings saved zones records removed e back)
      by (Removes gaps) e =
          let goes = side_goes saved.records (Removes gaps) records e back.goes in
          after_removal zones others (at_gaps gaps.items records) (rest_of gaps.items records) records (back_at gaps.items records goes.0) goes.1 few (side_takes saved zones records (Removes gaps) e refl back)

  -- where none does
  pub moves_out : puts_in saved.zones ≡ false → MoveTogether saved.records zones records
  moves_out puts = by saved.records refl
    where
      few : length others ≤ length zones
      few = by (nat_lt (length zones) (length others)) refl
        where
          by : (b : Bool) → nat_lt (length zones) (length others) ≡ b → length others ≤ length zones
          by true e = absurd (false≢true (sym puts ∙ longer ∙ e))
          by false e = ltb-false (length zones) (length others) e

      by : (r : RecordTurn) → saved.records ≡ r → MoveTogether r zones records
      by Nothing e = tt
      by (Added added) e = tt
      by (Adds new) e = tt
      by (Removed removed) e =
          after_removal others zones removed records (put_back removed records) refl (side_goes saved.records (Removed removed) records e back.goes).1 few (side_brings saved zones records removed e back)
      by (Removes gaps) e =
          let goes = side_goes saved.records (Removes gaps) records e back.goes in
          before_removal zones others (at_gaps gaps.items records) (rest_of gaps.items records) records (back_at gaps.items records goes.0) goes.1 (side_takes saved zones records (Removes gaps) e refl back)

-- the way back of a change, by the parts of a table
pub by_parts : (saved : SavedTables) (zones : List Zone) (records : List Record) (now other : Tables) → record { zones = zones; records = records } ≡ now → TakesBack saved now other
    → TakesBack saved (record { zones = zones; records = records }) (before_of saved (record { zones = zones; records = records }))
by_parts saved zones records now other is back =
    subst (λ (t : Tables). TakesBack saved t (before_of saved t)) (sym is) (subst (λ (t : Tables). TakesBack saved now t) (sym back.gives) back)
