-- The moments before which names need no sweep, when names come, go and change.
use Rattle.std.proofs.Common.{◌≡◌, ℕ, ◌+◌, ◌-◌, ◌<◌, ◌≤◌, Bool, true, false, cond, Option, Some, None, List, [], ◌∷◌, ◌++◌, length, take, get_or, refl, sym, ap, ◌∙◌, subst, arith, ◌⊎◌, inl, inr}
use Rattle.std.specs.Prelude.{◌==◌, ◌||◌, ◌&&◌, nat_lt, Result, Ok, Err, OnOk, OnErr, IfSome, slice_get, replicate, position, swap_remove}
use Rattle.std.specs.List.{list_any, position_or_len}
use Rattle.std.specs.Map.{keys_of}
use Rattle.std.specs.Option.{option_map_or}
use Rattle.std.proofs.Math.ListN.{set, length-set, length-append}
use Rattle.std.proofs.Math.Seq.{take-append_seam}
use Rattle.std.proofs.lemmas.List.{get_or-set_same, get_or-set_other, get_or_past, get_or-take, get_or-replicate, length-replicate, length-take-le}
use Rattle.std.proofs.lemmas.List.Folds.{list_any-append}
use Rattle.std.proofs.lemmas.Map.Entries.{length-keys_of}
use Rattle.std.proofs.lemmas.Option.{slice_get_past}
use Rattle.std.proofs.lemmas.Bool.Decides.{nat_tests}
use Rattle.indexmap.specs.IndexMap.{swap_remove_entry}
use Rattle.dns_name.specs.Labels.{Labels}
use Rattle.dns_name.specs.Order.{name_eq}
use Rattle.dns_text.specs.declared.record.Question.{Question}
use Rattle.cell_store.specs.declared.owner.OwnerCells.{OwnerCells}
use Rattle.cell_store.specs.Store.{cell_of, name_place, AreAbout, AreSameCells, AreUpTo, StayBut}
use Rattle.cell_store.specs.Count.{KeepPairs}
use Rattle.cell_store.specs.Owner.{after_touch}
use Rattle.ranked.specs.Find.{admission_of, touches}
use Rattle.shelf.proofs.AboutLaws.{about_admitted, about_same}
use Rattle.indexmap.specs.IndexMap.{IndexMap}
use Rattle.cell_store.specs.declared.seed.NameSeed.{NameSeed}
use Rattle.ranked.specs.declared.find.Find.{Find}
use Rattle.ranked.specs.declared.flush.Flush.{Flush}
use Rattle.ranked.specs.Flush.{covers}
use Rattle.shelf.specs.declared.shelf.Shelf.{Shelf}
use Rattle.shelf.specs.declared.shelf.KeptFlush.{KeptFlush}
use Rattle.shelf.specs.Kept.{is_kept, is_version}
use Rattle.shelf.specs.Clean.{dropped, evens, fitted, sure, touched, zeros_to, AreBy, AreEnds, AreEvened, AreKeyed, EndsMixed, IsClean, IsEnd, IsLower}
use Rattle.shelf.specs.Lasts.{last_at, AreLow, AreWinners, IsShaped}
use Rattle.shelf.specs.declared.ends.Ends.{Ends}
use Rattle.shelf.specs.declared.lasts.Lasts.{Lasts}
use Rattle.shelf.proofs.DoubtLaws.{keyed_lower, low_lower, lower_fitted, lower_same, lower_twice, zeros_high, zeros_length, zeros_low}
use Rattle.shelf.proofs.LowLaws.{low_dropped, low_kept, low_lasts, low_still, AreStill}
use Rattle.shelf.proofs.ListLaws.{always_some, append_zero, get_set_other, get_set_same, get_some, get_take, lt_or, same_or, set_zero, some_map}
use Rattle.shelf.proofs.WinnerLaws.{same_size, winners_named, winners_same}

-- ---- a name that is to be visited

touched_here : (place : ℕ) (ends : List ℕ) → get_or (touched place ends) place 0 ≡ 0
touched_here place ends = split (nat_lt place (length ends)) refl
  where
    split : (b : Bool) → nat_lt place (length ends) ≡ b → get_or (cond b (set ends place 0) (ends ++ 0 ∷ [])) place 0 ≡ 0
    split true low = set_zero ends place
    split false high = append_zero ends place ∙ get_or_past ends place 0 (grind (arith, nat_tests))

touched_other : (place : ℕ) (ends : List ℕ) (i : ℕ) → (i ≡ place → ⊥) → get_or (touched place ends) i 0 ≡ get_or ends i 0
touched_other place ends i off = split (nat_lt place (length ends))
  where
    split : (b : Bool) → get_or (cond b (set ends place 0) (ends ++ 0 ∷ [])) i 0 ≡ get_or ends i 0
    split true = get_or-set_other ends place i 0 0 off
    split false = append_zero ends i

-- A list has one moment for each name, and each is as before.
record IsFit (n : ℕ) (ends : List ℕ) : Type 0 where
  size : length (fitted n ends) ≡ n
  same : (i : ℕ) → get_or (fitted n ends) i 0 ≡ get_or ends i 0

fit_same : (n : ℕ) (ends : List ℕ) → length ends ≡ n → IsFit n ends
fit_same n ends at =
    let none : nat_lt n (length ends) ≡ false = grind (arith, nat_tests) in
    let is : fitted n ends ≡ ends = ap (λ b. cond b (take (length ends - 1) ends) ends) none in
    record { size = ap length is ∙ at; same = λ i. ap (λ (l : List ℕ). get_or l i 0) is }

fit_less : (ends : List ℕ) → IsFit (length ends) (ends ++ 0 ∷ [])
fit_less ends =
    let size : length (ends ++ 0 ∷ []) ≡ length ends + 1 = length-append ends (0 ∷ []) in
    let some : nat_lt (length ends) (length (ends ++ 0 ∷ [])) ≡ true = grind (arith, nat_tests) in
    let one : length (ends ++ 0 ∷ []) - 1 ≡ length ends = omega (arith, size) in
    let is : fitted (length ends) (ends ++ 0 ∷ []) ≡ ends =
    ap (λ b. cond b (take (length (ends ++ 0 ∷ []) - 1) (ends ++ 0 ∷ [])) (ends ++ 0 ∷ [])) some ∙ (ap (λ n. take n (ends ++ 0 ∷ [])) one ∙ take-append_seam ends (0 ∷ [])) in
    record { size = ap length is; same = λ i. ap (λ (l : List ℕ). get_or l i 0) is ∙ sym (append_zero ends i) }

fit_touched : (n place : ℕ) (ends : List ℕ) → (n ≡ length ends) ⊎ ((place ≡ length ends) × (n ≡ length ends + 1)) → IsFit n (touched place ends)
fit_touched n place ends size = split (nat_lt place (length ends)) refl size
  where
    split : (b : Bool) → nat_lt place (length ends) ≡ b → (n ≡ length ends) ⊎ ((place ≡ length ends) × (n ≡ length ends + 1)) → IsFit n (cond b (set ends place 0) (ends ++ 0 ∷ []))
    split true low (inl same) = fit_same n (set ends place 0) (length-set ends place 0 ∙ sym same)
    split true low (inr more) = let off : nat_lt place (length ends) ≡ false = grind (arith, nat_tests) in absurd (grind (arith, nat_tests))
    split false high (inl same) = subst (λ m. IsFit m (ends ++ 0 ∷ [])) (sym same) (fit_less ends)
    split false high (inr more) = fit_same n (ends ++ 0 ∷ []) (length-append ends (0 ∷ []) ∙ sym more.1)

-- one name may have changed, or have come: there is a moment for each name
fit_stay : (name : Labels) (old new : List (Labels × OwnerCells)) (ends : List ℕ) → length ends ≡ length old → StayBut name old new → IsFit (length new) (touched (name_place name old) ends)
fit_stay name old new ends own stay = fit_touched (length new) (name_place name old) ends (sizes stay.size)
  where
    sizes : (length new ≡ length old) ⊎ ((name_place name old ≡ length old) × (length new ≡ length old + 1)) → (length new ≡ length ends) ⊎ ((name_place name old ≡ length ends) × (length new ≡ length ends + 1))
    sizes (inl same) = inl (same ∙ sym own)
    sizes (inr more) = inr (more.0 ∙ sym own, more.1 ∙ ap (λ n. n + 1) (sym own))

-- ---- each name is to be visited, or is as it was

still_touched : (name : Labels) (old new : List (Labels × OwnerCells)) (ends : List ℕ) → length ends ≡ length old → StayBut name old new → AreStill old new ends (fitted (length new) (touched (name_place name old) ends))
still_touched name old new ends own stay i = elim (same_or i (name_place name old)) [
  | inl here ↦ inl (fits.same i ∙ (ap (λ n. get_or (touched (name_place name old) ends) n 0) here ∙ touched_here (name_place name old) ends))
  | inr away ↦ inr (stay.others i away, fits.same i ∙ touched_other (name_place name old) ends i away)
]
  where
    fits : IsFit (length new) (touched (name_place name old) ends)
    fits = fit_stay name old new ends own stay

still_set : (old new : List (Labels × OwnerCells)) (ends : List ℕ) (place : ℕ) → ((i : ℕ) → (i ≡ place → ⊥) → slice_get new i ≡ slice_get old i) → AreStill old new ends (set ends place 0)
still_set old new ends place others i = elim (same_or i place) [
  | inl here ↦ inl (ap (λ n. get_or (set ends place 0) n 0) here ∙ set_zero ends place)
  | inr away ↦ inr (others i away, get_or-set_other ends place i 0 0 away)
]

zero_at : (n i : ℕ) → ◌≡◌ {A = ℕ} (get_or (replicate n 0) i 0) 0
zero_at n i = elim (lt_or i n) [ inl low ↦ get_or-replicate n i 0 0 low | inr high ↦ get_or_past (replicate n 0) i 0 (omega (arith, high, length-replicate {A = ℕ} n 0)) ]

-- ---- any relation that holds at moment 0

module _ (P : Labels × OwnerCells → ℕ → Type 0) where
  put_zero : (o : Option (Labels × OwnerCells)) (n : ℕ) → ((e : Labels × OwnerCells) → P e 0) → n ≡ 0 → IfSome o (λ e. P e n)
  put_zero o n start is = subst (λ m. IfSome o (λ e. P e m)) (sym is) (always_some (λ e. P e 0) o start)

  put_same : (o was : Option (Labels × OwnerCells)) (n m : ℕ) → o ≡ was → n ≡ m → IfSome was (λ e. P e m) → IfSome o (λ e. P e n)
  put_same o was n m same at is = subst (λ k. IfSome o (λ e. P e k)) (sym at) (subst (λ (x : Option (Labels × OwnerCells)). IfSome x (λ e. P e m)) (sym same) is)

  -- one name may have changed, or have come
  pub keyed_touched : ((e : Labels × OwnerCells) → P e 0) → (name : Labels) (old new : List (Labels × OwnerCells)) (ends : List ℕ) → AreKeyed P old ends → StayBut name old new
      → AreKeyed P new (fitted (length new) (touched (name_place name old) ends))
  keyed_touched start name old new ends keyed stay = record {
    size = fits.size;
    each = λ i. elim (same_or i place) [
      | inl here ↦ put_zero (slice_get new i) _ start (fits.same i ∙ (ap (λ n. get_or (touched place ends) n 0) here ∙ touched_here place ends))
      | inr away ↦ put_same (slice_get new i) (slice_get old i) _ (get_or ends i 0) (stay.others i away) (fits.same i ∙ touched_other place ends i away) (keyed.each i)
    ];
  }
    where
      place : ℕ
      place = name_place name old

      fits : IsFit (length new) (touched place ends)
      fits = fit_stay name old new ends keyed.size stay

  -- one name may have changed
  pub keyed_reset : ((e : Labels × OwnerCells) → P e 0) → (name : Labels) (old new : List (Labels × OwnerCells)) (ends : List ℕ) → AreKeyed P old ends → StayBut name old new → length new ≡ length old
      → AreKeyed P new (set ends (name_place name old) 0)
  keyed_reset start name old new ends keyed stay size = record {
    size = length-set ends (name_place name old) 0 ∙ (keyed.size ∙ sym size);
    each = λ i. elim (same_or i (name_place name old)) [
      | inl here ↦ put_zero (slice_get new i) _ start (ap (λ n. get_or (set ends (name_place name old) 0) n 0) here ∙ set_zero ends (name_place name old))
      | inr away ↦ put_same (slice_get new i) (slice_get old i) _ (get_or ends i 0) (stay.others i away) (get_or-set_other ends (name_place name old) i 0 0 away) (keyed.each i)
    ];
  }

  -- the name at a place has changed
  pub keyed_set : (old new : List (Labels × OwnerCells)) (ends : List ℕ) (place end : ℕ) → AreKeyed P old ends → ((i : ℕ) → (i ≡ place → ⊥) → slice_get new i ≡ slice_get old i) → length new ≡ length old
      → place < length old → IfSome (slice_get new place) (λ e. P e end) → AreKeyed P new (set ends place end)
  keyed_set old new ends place end keyed others size low next = record {
    size = length-set ends place end ∙ (keyed.size ∙ sym size);
    each = λ i. elim (same_or i place) [
      | inl here ↦
          put_same (slice_get new i) (slice_get new place) _ end (ap (slice_get new) here)
          (ap (λ n. get_or (set ends place end) n 0) here ∙ get_or-set_same ends place end 0 (omega (arith, keyed.size, low))) next
      | inr away ↦ put_same (slice_get new i) (slice_get old i) _ (get_or ends i 0) (others i away) (get_or-set_other ends place i end 0 away) (keyed.each i)
    ];
  }

  -- the name at a place has gone, and the last is in its place
  pub keyed_swap : (entries : List (Labels × OwnerCells)) (ends : List ℕ) (place : ℕ) (d : Labels × OwnerCells) → length ends ≡ length entries
      → ((i : ℕ) → (i ≡ place → ⊥) → IfSome (slice_get entries i) (λ e. P e (get_or ends i 0))) → place < length entries → AreKeyed P (swap_remove entries place d) (swap_remove ends place 0)
  keyed_swap entries ends place d size each low = record {
    size =
        length-take-le (length ends - 1) (set ends place end) (omega (arith, length-set ends place end))
        ∙ (ap (λ n. n - 1) size ∙ sym (length-take-le (length entries - 1) (set entries place moved) (omega (arith, length-set entries place moved))));
    each = λ i. elim (lt_or i (length entries - 1)) [
      | inl before ↦ kept i before
      | inr past ↦
          subst (λ (o : Option (Labels × OwnerCells)). IfSome o (λ e. P e (get_or (swap_remove ends place 0) i 0)))
          (sym (slice_get_past (swap_remove entries place d) i (omega (arith, past, length-take-le (length entries - 1) (set entries place moved) (omega (arith, length-set entries place moved)))))) tt
    ];
  }
    where
      last : ℕ
      last = length entries - 1

      moved : Labels × OwnerCells
      moved = get_or entries (length entries - 1) d

      end : ℕ
      end = get_or ends (length ends - 1) 0

      kept : (i : ℕ) → i < length entries - 1 → IfSome (slice_get (swap_remove entries place d) i) (λ e. P e (get_or (swap_remove ends place 0) i 0))
      kept i before =
          let read : slice_get (swap_remove entries place d) i ≡ slice_get (set entries place moved) i = get_take (length entries - 1) (set entries place moved) i before in
          let moment : get_or (swap_remove ends place 0) i 0 ≡ get_or (set ends place end) i 0 = get_or-take (length ends - 1) (set ends place end) i 0 (omega (arith, size, before)) in
          elim (same_or i place) [
            | inl here ↦
                put_same (slice_get (swap_remove entries place d) i) (slice_get entries (length entries - 1)) _ (get_or ends (length entries - 1) 0)
                (read ∙ (ap (slice_get (set entries place moved)) here ∙ (get_set_same entries place moved low ∙ sym (get_some entries (length entries - 1) d (omega (arith, low))))))
                (moment ∙ (ap (λ n. get_or (set ends place end) n 0) here ∙ (get_or-set_same ends place end 0 (omega (arith, size, low)) ∙ ap (λ n. get_or ends (n - 1) 0) size)))
                (each (length entries - 1) (λ same. omega (arith, same, here, before)))
            | inr away ↦
                put_same (slice_get (swap_remove entries place d) i) (slice_get entries i) _ (get_or ends i 0) (read ∙ get_set_other entries place i moved away) (moment ∙ get_or-set_other ends place i end 0 away) (each i away)
          ]

  -- a name has gone
  pub keyed_dropped : (test : Labels → Bool) (entries : List (Labels × OwnerCells)) (ends : List ℕ) → AreKeyed P entries ends → AreKeyed P (swap_remove_entry test entries) (dropped (position test (keys_of entries)) ends)
  keyed_dropped test [] ends keyed = keyed
  keyed_dropped test (e ∷ entries) ends keyed = split (nat_lt (position_or_len test (keys_of (e ∷ entries))) (length (keys_of (e ∷ entries)))) refl
    where
      place : ℕ
      place = position_or_len test (keys_of (e ∷ entries))

      split : (b : Bool) → nat_lt place (length (keys_of (e ∷ entries))) ≡ b → AreKeyed P (option_map_or (λ i. swap_remove (e ∷ entries) i e) (cond b (Some place) None) (e ∷ entries)) (dropped (cond b (Some place) None) ends)
      split true low = keyed_swap (e ∷ entries) ends place e keyed.size (λ i off. keyed.each i) (grind (arith, nat_tests, length-keys_of (e ∷ entries)))
      split false high = keyed

  -- every name is to be visited
  pub keyed_zero : ((e : Labels × OwnerCells) → P e 0) → (entries : List (Labels × OwnerCells)) (n : ℕ) → n ≡ length entries → AreKeyed P entries (replicate n 0)
  keyed_zero start entries n size = record {
    size = length-replicate n 0 ∙ size;
    each = λ i. put_zero (slice_get entries i) _ start (zero_at n i);
  }

pub keyed_map : (P Q : Labels × OwnerCells → ℕ → Type 0) → ((e : Labels × OwnerCells) (n : ℕ) → P e n → Q e n) → (entries : List (Labels × OwnerCells)) (ends : List ℕ) → AreKeyed P entries ends → AreKeyed Q entries ends
keyed_map P Q step entries ends keyed = record {
  size = keyed.size;
  each = λ i. some_map (λ e. P e (get_or ends i 0)) (λ e. Q e (get_or ends i 0)) (slice_get entries i) (λ e is. step e (get_or ends i 0) is) (keyed.each i);
}

-- ---- other kept flushes

pub end_zero : (kept : List KeptFlush) (e : Labels × OwnerCells) → IsEnd kept e 0
end_zero kept e t low = absurd (omega arith)

clean_kept : (kept more : List KeptFlush) → ((q : Question) (v : ℕ) → is_version kept q v ≡ true → is_version more q v ≡ true) → (t : ℕ) (name : Labels) (cells : OwnerCells) → IsClean kept t name cells → IsClean more t name cells
clean_kept kept more step t name cells is = record {
  kinds = λ k has. let was = is.kinds k has in (was.0, (step (record { owner = name; kind = k }) was.0 was.1.0, was.1.1));
  whole = is.whole;
  counted = is.counted;
}

-- ---- the moments and those of the names that are not mixed

keyed_kept : (kept more : List KeptFlush) → ((q : Question) (v : ℕ) → is_version kept q v ≡ true → is_version more q v ≡ true) → (entries : List (Labels × OwnerCells)) (ends : List ℕ)
    → AreKeyed (IsEnd kept) entries ends → AreKeyed (IsEnd more) entries ends
keyed_kept kept more step entries ends keyed = keyed_map (IsEnd kept) (IsEnd more) (λ e n is t low. clean_kept kept more step t e.0 e.1 (is t low)) entries ends keyed

pub ends_kept : (kept more : List KeptFlush) → ((q : Question) (v : ℕ) → is_version kept q v ≡ true → is_version more q v ≡ true) → (entries : List (Labels × OwnerCells)) (ends : Ends)
    → AreEnds kept entries ends → AreEnds more entries ends
ends_kept kept more step entries ends is = record {
  size = is.size;
  now = keyed_kept kept more step entries (sure ends) is.now;
  ever = is.ever;
  flags = is.flags;
  low = low_kept kept more step entries (sure ends) ends.lasts.ends.items is.low;
  low_ever = is.low_ever;
  winners = is.winners;
}

-- the moments have changed in a way, and the seconds
pub low_by : (kept : List KeptFlush) (entries : List (Labels × OwnerCells)) (f g : List ℕ → List ℕ) (was ends lasts more : List ℕ) → ends ≡ f was → more ≡ g lasts → AreLow kept entries (f was) (g lasts) → AreLow kept entries ends more
low_by kept entries f g was ends lasts more moments same is =
    subst (λ (l : List ℕ). AreLow kept entries l more) (sym moments) (subst (λ (l : List ℕ). AreLow kept entries (f was) l) (sym same) is)

-- each list of moments has changed alike, and each name that is not to be visited is as it was
pub ends_by : (kept : List KeptFlush) (old new : List (Labels × OwnerCells)) (f : List ℕ → List ℕ) (was ends : Ends)
    → ((P : Labels × OwnerCells → ℕ → Type 0) → ((e : Labels × OwnerCells) → P e 0) → (l : List ℕ) → AreKeyed P old l → AreKeyed P new (f l)) → ((l : List ℕ) → length l ≡ length old → AreStill old new l (f l))
    → keys_of new ≡ keys_of old → AreBy f was ends → AreEnds kept old was → AreEnds kept new ends
ends_by kept old new f was ends step still names by is = record {
  size = sym (zeros_length ends.left ends.moments) ∙ (by.sure.size ∙ (step (IsEnd kept) (end_zero kept) (sure was) is.now).size);
  now = keyed_lower (IsEnd kept) (end_zero kept) new (f (sure was)) (sure ends) by.sure (step (IsEnd kept) (end_zero kept) (sure was) is.now);
  ever = subst (λ (l : List ℕ). AreKeyed (IsEnd []) new l) (sym by.unmixed) (step (IsEnd []) (end_zero []) (evens was) is.ever);
  flags = by.flags;
  low = low_lower kept new (f (sure was)) (sure ends) ends.lasts.ends.items by.sure (low_by kept new f (λ l. l) (sure was) (f (sure was)) was.lasts.ends.items ends.lasts.ends.items refl by.lasts.0
      (low_still kept old new (sure was) (f (sure was)) was.lasts.ends.items (still (sure was) is.now.size) is.low));
  low_ever = low_by [] new f (λ l. l) (evens was) (evens ends) was.lasts.ends.items ends.lasts.ends.items by.unmixed by.lasts.0
      (low_still [] old new (evens was) (f (evens was)) was.lasts.ends.items (still (evens was) is.ever.size) is.low_ever);
  winners = winners_same new was.lasts ends.lasts by.lasts (winners_named old new was.lasts names is.winners);
}

-- every name is to be visited
pub ends_zero : (kept : List KeptFlush) (entries : List (Labels × OwnerCells)) (was ends : Ends) → AreEnds kept entries was → AreBy (λ l. replicate (length l) 0) was ends → AreEnds kept entries ends
ends_zero kept entries was ends is by = ends_by kept entries entries (λ l. replicate (length l) 0) was ends
    (λ P start l keyed. keyed_zero P start entries (length l) keyed.size) (λ l size i. inl (zero_at (length l) i)) refl by is

or_false : (a b : Bool) → (a || false) ≡ true → (a || b) ≡ true
or_false true b is = refl
or_false false b is = let no : false ≡ true = is in absurd cc

-- a flush has gone: only names that are mixed are to be visited
pub ends_mixed : (kept more : List KeptFlush) (entries : List (Labels × OwnerCells)) (was ends : Ends) → AreEnds kept entries was → AreEvened was ends → AreEnds more entries ends
ends_mixed kept more entries was ends is by = record {
  size = by.size ∙ is.size;
  now = keyed_lower (IsEnd more) (end_zero more) entries (evens was) (sure ends) by.sure (keyed_kept [] more (λ q v there. or_false (v == 0) (is_kept more q v) there) entries (evens was) is.ever);
  ever = subst (λ (l : List ℕ). AreKeyed (IsEnd []) entries l) (sym by.unmixed) is.ever;
  flags = by.flags;
  low = low_lower more entries (evens was) (sure ends) ends.lasts.ends.items by.sure (low_by more entries (λ l. l) (λ l. l) (evens was) (evens was) was.lasts.ends.items ends.lasts.ends.items refl by.lasts.0
      (low_kept [] more (λ q v there. or_false (v == 0) (is_kept more q v) there) entries (evens was) was.lasts.ends.items is.low_ever));
  low_ever = low_by [] entries (λ l. l) (λ l. l) (evens was) (evens ends) was.lasts.ends.items ends.lasts.ends.items by.unmixed by.lasts.0 is.low_ever;
  winners = winners_same entries was.lasts ends.lasts by.lasts is.winners;
}

or_more : (a b c : Bool) → (a || b) ≡ true → (a || (b || c)) ≡ true
or_more true b c is = refl
or_more false true c is = refl
or_more false false c is = let no : false ≡ true = is in absurd cc

pub version_more : (kept : List KeptFlush) (own : KeptFlush) (q : Question) (v : ℕ) → is_version kept q v ≡ true → is_version (kept ++ own ∷ []) q v ≡ true
version_more kept own q v there =
    ap (λ b. v == 0 || b) (list_any-append (λ (x : KeptFlush). x.number == v && covers x.flush q) kept (own ∷ []))
    ∙ or_more (v == 0) (list_any (λ (x : KeptFlush). x.number == v && covers x.flush q) kept) (list_any (λ (x : KeptFlush). x.number == v && covers x.flush q) (own ∷ [])) there

-- Each moment that is sure was so before, or is right whatever flushes are kept, or is 0.
abbrev AreSettled : Ends → Ends → Type 0
AreSettled was ends = (i : ℕ) → (get_or (sure ends) i 0 ≡ 0) ⊎ ((get_or (sure ends) i 0 ≡ get_or (sure was) i 0) ⊎ (get_or (sure ends) i 0 ≡ get_or (evens was) i 0))

pub ends_settled : (kept : List KeptFlush) (entries : List (Labels × OwnerCells)) (was ends : Ends) → length ends.moments ≡ length was.moments → IsLower (evens was) (evens ends) → length ends.mixed.items ≡ length ends.moments → ends.lasts ≡ was.lasts
    → AreSettled was ends → AreEnds kept entries was → AreEnds kept entries ends
ends_settled kept entries was ends size even flags same settled is = record {
  size = size ∙ is.size;
  now = record {
    size = zeros_length ends.left ends.moments ∙ (size ∙ is.size);
    each = λ i. elim (settled i) [
      | inl none ↦ subst (λ n. IfSome (slice_get entries i) (λ e. IsEnd kept e n)) (sym none) (always_some (λ e. IsEnd kept e 0) (slice_get entries i) (end_zero kept))
      | inr known ↦ elim known [
        | inl before ↦ subst (λ n. IfSome (slice_get entries i) (λ e. IsEnd kept e n)) (sym before) (is.now.each i)
        | inr ever ↦ subst (λ n. IfSome (slice_get entries i) (λ e. IsEnd kept e n)) (sym ever) (ever_now.each i)
      ]
    ];
  };
  ever = keyed_lower (IsEnd []) (end_zero []) entries (evens was) (evens ends) even is.ever;
  flags = flags;
  low = λ i some. elim (settled i) [
    | inl none ↦ absurd (omega (arith, some, none))
    | inr known ↦ elim known [
      | inl before ↦ omega (arith, is.low i (omega (arith, some, before)), ap (λ (l : Lasts). last_at l.ends.items i) same)
      | inr ever ↦ omega (arith, ever_low i (omega (arith, some, ever)), ap (λ (l : Lasts). last_at l.ends.items i) same)
    ]
  ];
  low_ever = low_lower [] entries (evens was) (evens ends) ends.lasts.ends.items even (subst (λ (l : Lasts). AreLow [] entries (evens was) l.ends.items) (sym same) is.low_ever);
  winners = subst (λ (l : Lasts). AreWinners entries l) (sym same) is.winners;
}
  where
    ever_now : AreKeyed (IsEnd kept) entries (evens was)
    ever_now = keyed_kept [] kept (λ q v there. or_false (v == 0) (is_kept kept q v) there) entries (evens was) is.ever

    ever_low : AreLow kept entries (evens was) was.lasts.ends.items
    ever_low = low_kept [] kept (λ q v there. or_false (v == 0) (is_kept kept q v) there) entries (evens was) was.lasts.ends.items is.low_ever

-- the name at a place was the last in doubt
pub place_settled : (was ends : Ends) (place : ℕ) → was.left ≡ place + 1 → ends.left ≡ place → EndsMixed place was.moments was.mixed.items ends.moments → AreSettled was ends
place_settled was ends place before now mixed i = elim (lt_or i place) [
  | inl low ↦ inl (ap (λ n. get_or (zeros_to n ends.moments) i 0) now ∙ zeros_low place ends.moments i low)
  | inr past ↦ elim mixed [
    | inl ended ↦
        let moment : get_or (sure ends) i 0 ≡ get_or (set was.moments place 0) i 0 = read past ∙ ap (λ (l : List ℕ). get_or l i 0) ended in
        elim (same_or i place) [
          | inl here ↦ inl (moment ∙ (ap (λ n. get_or (set was.moments place 0) n 0) here ∙ set_zero was.moments place))
          | inr off ↦ inr (inl (moment ∙ (get_or-set_other was.moments place i 0 0 off ∙ sym (known past off))))
        ]
    | inr same ↦
        let moment : get_or (sure ends) i 0 ≡ get_or was.moments i 0 = read past ∙ ap (λ (l : List ℕ). get_or l i 0) same.0 in
        elim (same_or i place) [
          | inl here ↦ inr (inr (moment ∙ (ap (λ n. get_or was.moments n 0) here ∙ (sym same.1 ∙ sym (ap (λ n. get_or (evens was) n 0) here)))))
          | inr off ↦ inr (inl (moment ∙ sym (known past off)))
        ]
  ]
]
  where
    read : place ≤ i → get_or (sure ends) i 0 ≡ get_or ends.moments i 0
    read past = ap (λ n. get_or (zeros_to n ends.moments) i 0) now ∙ zeros_high place ends.moments i past

    known : place ≤ i → (i ≡ place → ⊥) → get_or (sure was) i 0 ≡ get_or was.moments i 0
    known past off = zeros_high was.left was.moments i (omega (arith, before, past, off))

-- a name has changed, and is to be visited
pub ends_reset : (kept : List KeptFlush) (name : Labels) (old new : List (Labels × OwnerCells)) (was ends : Ends) → AreEnds kept old was → StayBut name old new → length new ≡ length old
    → AreBy (λ l. set l (name_place name old) 0) was ends → AreEnds kept new ends
ends_reset kept name old new was ends is stay size by = ends_by kept old new (λ l. set l (name_place name old) 0) was ends
    (λ P start l keyed. keyed_reset P start name old new l keyed stay size) (λ l long. still_set old new l (name_place name old) stay.others) (names stay.names) by is
  where
    names : (keys_of new ≡ keys_of old) ⊎ (keys_of new ≡ keys_of old ++ name ∷ []) → keys_of new ≡ keys_of old
    names (inl same) = same
    names (inr more) = absurd (omega (arith, size, length-keys_of new, length-keys_of old, ap length more, length-append (keys_of old) (name ∷ [])))

-- the name at a place has changed, and is to be visited
pub ends_put : (kept : List KeptFlush) (old new : List (Labels × OwnerCells)) (was ends : Ends) (place : ℕ) → AreEnds kept old was → ((i : ℕ) → (i ≡ place → ⊥) → slice_get new i ≡ slice_get old i) → keys_of new ≡ keys_of old → place < length old
    → AreBy (λ l. set l place 0) was ends → AreEnds kept new ends
ends_put kept old new was ends place is others names low by = ends_by kept old new (λ l. set l place 0) was ends
    (λ P start l keyed. keyed_set P old new l place 0 keyed others (same_size old new names) low (always_some (λ e. P e 0) (slice_get new place) start)) (λ l long. still_set old new l place others) names by is

-- a flush was made
pub reset_ends : (shelf : Shelf) (owners : IndexMap Labels OwnerCells NameSeed) (flush : Flush) (ends : Ends) → AreEnds shelf.kept.items shelf.owners.entries shelf.ends → StayBut flush.name shelf.owners.entries owners.entries
    → length owners.entries ≡ length shelf.owners.entries → AreBy (λ l. set l (name_place flush.name shelf.owners.entries) 0) shelf.ends ends → AreEnds shelf.kept.items owners.entries ends
reset_ends shelf owners flush ends is stay size by = ends_reset shelf.kept.items flush.name shelf.owners.entries owners.entries shelf.ends ends is stay size by

by_twice : (f g : List ℕ → List ℕ) (a b c : Ends) → ((was now : List ℕ) → IsLower was now → IsLower (g was) (g now)) → AreBy f a b → AreBy g b c → AreBy (λ l. g (f l)) a c
by_twice f g a b c step first then = record {
  moments = then.moments ∙ ap g first.moments;
  unmixed = then.unmixed ∙ ap g first.unmixed;
  sure = lower_twice (g (f (sure a))) (g (sure b)) (sure c) (step (f (sure a)) (sure b) first.sure) then.sure;
  left = omega (arith, first.left, then.left);
  flags = then.flags;
  lasts = (then.lasts.0 ∙ first.lasts.0, then.lasts.1 ∙ first.lasts.1);
}

-- a find was admitted, or refused
module _ (shelf : Shelf) (owners : IndexMap Labels OwnerCells NameSeed) (find lent : Find) (middle ends : Ends) (is : AreEnds shelf.kept.items shelf.owners.entries shelf.ends) (stay : StayBut find.owner shelf.owners.entries owners.entries) (same : lent ≡ find)
    (first : AreBy (touched (name_place lent.owner shelf.owners.entries)) shelf.ends middle) (then : AreBy (fitted (length owners.entries)) middle ends) where
  abbrev held_moments : List ℕ → List ℕ
  held_moments l = fitted (length owners.entries) (touched (name_place find.owner shelf.owners.entries) l)

  held_by : AreBy held_moments shelf.ends ends
  held_by = by_twice (touched (name_place find.owner shelf.owners.entries)) (fitted (length owners.entries)) shelf.ends middle ends (lower_fitted (length owners.entries))
      (subst (λ (x : Find). AreBy (touched (name_place x.owner shelf.owners.entries)) shelf.ends middle) same first) then

  pub held_left : ends.left ≤ shelf.ends.left
  held_left = held_by.left

  pub held_shape : IsShaped ends.lasts
  held_shape = (winners_same shelf.owners.entries shelf.ends.lasts ends.lasts held_by.lasts is.winners).shape

  pub held_room : (X : Type 0) → (name_place lent.owner shelf.owners.entries ≡ length shelf.owners.entries → X) → length ends.lasts.ends.items < length owners.entries → X
  held_room X room more = split stay.size
    where
      split : (length owners.entries ≡ length shelf.owners.entries) ⊎ ((name_place find.owner shelf.owners.entries ≡ length shelf.owners.entries) × (length owners.entries ≡ length shelf.owners.entries + 1)) → X
      split (inl size) = absurd (omega (arith, more, size, ap length held_by.lasts.0, is.winners.size))
      split (inr grown) = room (ap (λ (x : Find). name_place x.owner shelf.owners.entries) same ∙ grown.0)

  held_low : (kept : List KeptFlush) (was now : List ℕ) (after : Lasts) → length was ≡ length shelf.owners.entries → IsLower (held_moments was) now → ((i : ℕ) → last_at after.ends.items i ≡ last_at ends.lasts.ends.items i)
      → AreLow kept shelf.owners.entries was shelf.ends.lasts.ends.items → AreLow kept owners.entries now after.ends.items
  held_low kept was now after size moments lasts low =
      low_lasts kept owners.entries now shelf.ends.lasts.ends.items after.ends.items (λ i. lasts i ∙ ap (λ (l : List ℕ). last_at l i) held_by.lasts.0)
      (low_lower kept owners.entries (held_moments was) now shelf.ends.lasts.ends.items moments
      (low_still kept shelf.owners.entries owners.entries was (held_moments was) shelf.ends.lasts.ends.items (still_touched find.owner shelf.owners.entries owners.entries was size stay) low))

  pub held_ends : (after : Lasts) → ((i : ℕ) → last_at after.ends.items i ≡ last_at ends.lasts.ends.items i)
      → ((name : Labels) (old : List (Labels × OwnerCells)) → StayBut name old owners.entries → AreWinners old ends.lasts → AreWinners owners.entries after)
      → AreEnds shelf.kept.items owners.entries (record { moments = ends.moments; mixed = ends.mixed; left = ends.left; lasts = after })
  held_ends after lasts follow = record {
    size = sym (zeros_length ends.left ends.moments) ∙ (held_by.sure.size ∙ held_now.size);
    now = keyed_lower (IsEnd shelf.kept.items) (end_zero shelf.kept.items) owners.entries (held_moments (sure shelf.ends)) (sure ends) held_by.sure held_now;
    ever = subst (λ (l : List ℕ). AreKeyed (IsEnd []) owners.entries l) (sym held_by.unmixed) (keyed_touched (IsEnd []) (end_zero []) find.owner shelf.owners.entries owners.entries (evens shelf.ends) is.ever stay);
    flags = held_by.flags;
    low = held_low shelf.kept.items (sure shelf.ends) (sure ends) after is.now.size held_by.sure lasts is.low;
    low_ever = held_low [] (evens shelf.ends) (evens ends) after is.ever.size (lower_same (held_moments (evens shelf.ends)) (evens ends) held_by.unmixed) lasts is.low_ever;
    winners = follow find.owner shelf.owners.entries stay (winners_same shelf.owners.entries shelf.ends.lasts ends.lasts held_by.lasts is.winners);
  }
    where
      held_now : AreKeyed (IsEnd shelf.kept.items) owners.entries (held_moments (sure shelf.ends))
      held_now = keyed_touched (IsEnd shelf.kept.items) (end_zero shelf.kept.items) find.owner shelf.owners.entries owners.entries (sure shelf.ends) is.now stay

-- a find was refused, before its name was touched
pub ends_same : (kept : List KeptFlush) (entries : List (Labels × OwnerCells)) (was ends : Ends) → AreBy (λ l. l) was ends → AreEnds kept entries was → AreEnds kept entries ends
ends_same kept entries was ends by is = ends_by kept entries entries (λ l. l) was ends (λ P start l keyed. keyed) (λ l size i. inr (refl, refl)) refl by is

-- a name was removed
module _ (kept : List KeptFlush) (name : Labels) (entries : List (Labels × OwnerCells)) (was ends : Ends) (is : AreEnds kept entries was) (by : AreBy (dropped (position (name_eq name) (keys_of entries))) was ends) where
  pub gone_winners : AreWinners entries ends.lasts
  gone_winners = winners_same entries was.lasts ends.lasts by.lasts is.winners

  pub gone_low : (place : Option ℕ) → IfSome place (λ p. p < length entries) → IfSome place (λ p. p < length ends.lasts.ends.items)
  gone_low None low = tt
  gone_low (Some p) low = omega (arith, low, gone_winners.size)

  pub gone_ends : (place : Option ℕ) (after : Lasts) → place ≡ position (name_eq name) (keys_of entries) → after.ends.items ≡ dropped place ends.lasts.ends.items → AreWinners (swap_remove_entry (name_eq name) entries) after
      → AreEnds kept (swap_remove_entry (name_eq name) entries) (record { moments = ends.moments; mixed = ends.mixed; left = ends.left; lasts = after })
  gone_ends place after at lasts winners = record {
    size = sym (zeros_length ends.left ends.moments) ∙ (by.sure.size ∙ (keyed_dropped (IsEnd kept) (name_eq name) entries (sure was) is.now).size);
    now = keyed_lower (IsEnd kept) (end_zero kept) (swap_remove_entry (name_eq name) entries) (drop (sure was)) (sure ends) by.sure (keyed_dropped (IsEnd kept) (name_eq name) entries (sure was) is.now);
    ever = subst (λ (l : List ℕ). AreKeyed (IsEnd []) (swap_remove_entry (name_eq name) entries) l) (sym by.unmixed) (keyed_dropped (IsEnd []) (name_eq name) entries (evens was) is.ever);
    flags = by.flags;
    low = low_lower kept (swap_remove_entry (name_eq name) entries) (drop (sure was)) (sure ends) after.ends.items by.sure
        (low_by kept (swap_remove_entry (name_eq name) entries) drop drop (sure was) (drop (sure was)) was.lasts.ends.items after.ends.items refl noted
        (low_dropped kept (name_eq name) entries (sure was) was.lasts.ends.items is.now.size is.winners.size is.low));
    low_ever = low_by [] (swap_remove_entry (name_eq name) entries) drop drop (evens was) (evens ends) was.lasts.ends.items after.ends.items by.unmixed noted
        (low_dropped [] (name_eq name) entries (evens was) was.lasts.ends.items is.ever.size is.winners.size is.low_ever);
    winners = winners;
  }
    where
      drop : List ℕ → List ℕ
      drop l = dropped (position (name_eq name) (keys_of entries)) l

      noted : after.ends.items ≡ drop was.lasts.ends.items
      noted = lasts ∙ ((λ i. dropped (at i) (by.lasts.0 i)))

pub held_ok : {X : Type 0} {T E : Type 0} (result : Result T E) (done : T) → OnOk result X → result ≡ Ok done → X
held_ok {X} {T} {E} result done is same = subst (λ (r : Result T E). OnOk r X) same is

pub held_about : {T E : Type 0} (old new : IndexMap Labels OwnerCells NameSeed) (find : Find) (moment top was stored : ℕ) (result : Result T E) → AreUpTo top new
    → OnOk result ((q : Question) (v : ℕ) → v ≤ top → cell_of new q v ≡ after_touch (touches find q) (cell_of old q v) (admission_of find find moment))
    → OnErr result (AreSameCells old new × (stored ≡ was) × KeepPairs old new) → AreAbout old → AreAbout new
held_about old new find moment top was stored (Ok done) upto cells same about = about_admitted old new find moment top upto cells about
held_about old new find moment top was stored (Err fault) upto cells same about = about_same old new same.0 about
