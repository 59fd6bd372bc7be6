-- The sweep of one name after the other.
use Rattle.std.proofs.Common.{◌≡◌, ℕ, zero, suc, ◌+◌, ◌-◌, ◌<◌, ◌≤◌, max, min, Bool, true, false, cond, Option, Some, None, List, [], ◌∷◌, length, get_or, refl, sym, ap, ◌∙◌, subst, arith, ◌⊎◌, inl, inr}
use Rattle.std.specs.Prelude.{is_some, replicate, IfNone, IfSome, slice_get, swap_remove}
use Rattle.std.specs.Map.{keys_of, lookup}
use Rattle.std.proofs.Math.ListN.{set, length-set}
use Rattle.std.proofs.Math.Nat.{min-eq_left}
use Rattle.std.proofs.lemmas.Bool.Decides.{nat_tests}
use Rattle.std.proofs.lemmas.List.{get_or_default}
use Rattle.std.proofs.lemmas.List.Sums.{sum_by-cons, sum_by-set, sum_by-swap_remove}
use Rattle.indexmap.specs.IndexMap.{IndexMap, get, set_value_at}
use Rattle.dns_name.specs.Labels.{Labels}
use Rattle.dns_name.specs.Order.{name_eq, name_eq_exact}
use Rattle.ranked.specs.declared.find.Scope.TheVariants.{One}
use Rattle.cell_store.specs.declared.owner.OwnerCells.{OwnerCells}
use Rattle.cell_store.specs.Count.{count_of, has_place, stored_in, IsTidy}
use Rattle.cell_store.specs.Ends.{latest, name_end}
use Rattle.cell_store.specs.EndLaws.{alive_before, alive_earlier, some_alive, whole_before, whole_earlier}
use Rattle.cell_store.specs.Owner.{cell_in}
use Rattle.cell_store.specs.Store.{AreLeft, AreSameCells, EachCounts, HaveTop}
use Rattle.cell_store.specs.StoredLaws.{others_at}
use Rattle.cell_store.specs.Mixed.{has_mixed, IsLikeFirst}
use Rattle.cell_store.specs.Sweep.{alive_at, is_dead}
use Rattle.ranked.specs.declared.find.Find.{Find}
use Rattle.ranked.specs.declared.cell.Admitted.{Admitted}
use Rattle.std.proofs.lemmas.Bool.{false≢true}
use Rattle.cell_store.specs.Walk.{IsEach, IsEntry}
use Rattle.shelf.specs.declared.shelf.KeptFlush.{KeptFlush}
use Rattle.shelf.specs.Clean.{evens, sure, zeros_to, AreBy, AreEnds, AreKeyed, IsAlive, IsClean, IsEnd, IsLower}
use Rattle.shelf.specs.declared.ends.Ends.{Ends}
use Rattle.shelf.specs.declared.settling.Settling.{Settling}
use Rattle.shelf.specs.Settling.{reached_at_once, steps_left, HaveStepped}
use Rattle.shelf.specs.Losing.{IsTallied}
use Rattle.shelf.specs.Sweep.{asked_at, count_ended, one_ended, turn_at_most, unswept, AreAlive, AreLessened, CanSweep, EndNear, IsDue, IsLessened, IsNext, IsSwept, IsSweptAt, IsUnderway}
use Rattle.shelf.specs.First.{life_at}
use Rattle.shelf.specs.Lasts.{AreWinners}
use Rattle.shelf.specs.declared.lasts.Lasts.{Lasts}
use Rattle.shelf.proofs.DoubtLaws.{keyed_lower, low_lower, zeros_length}
use Rattle.shelf.proofs.DropLaws.{ends_gone, keyed_gone}
use Rattle.shelf.proofs.EndLaws.{end_zero, ends_zero, keyed_map, keyed_set, keyed_zero, low_by}
use Rattle.shelf.proofs.ListLaws.{always_some, some_map}
use Rattle.shelf.proofs.NamedLaws.{each_gone, each_kept, used_some}
use Rattle.shelf.proofs.LowLaws.{low_put, low_put_ever}
use Rattle.shelf.proofs.WinnerLaws.{winners_named}
use Rattle.shelf.proofs.SweepLaws.{less_left, less_more, less_same, not_dead, swept_less}

-- ---- one name

less_same_cells : (kept : List KeptFlush) (t : ℕ) (name : Labels) (cells : OwnerCells) → IsLessened kept t name cells cells
less_same_cells kept t name cells = record {
  cells = λ k v there. refl;
  lost = record { gains = record { upto = λ top is. is; settles = λ n k is. is; count = omega arith; places = λ scope has. has }; cells = λ k v. inl refl };
}

each_same : (kept : List KeptFlush) (t : ℕ) (entries : List (Labels × OwnerCells)) → IsEach (IsEntry (IsLessened kept t)) entries entries
each_same kept t [] = tt
each_same kept t (e ∷ entries) = ((refl, less_same_cells kept t e.0 e.1), each_same kept t entries)

each_at : (kept : List KeptFlush) (t : ℕ) (entries : List (Labels × OwnerCells)) (place : ℕ) (key : Labels) (old new : OwnerCells) → slice_get entries place ≡ Some (key, old) → IsLessened kept t key old new
    → IsEach (IsEntry (IsLessened kept t)) entries (set_value_at entries place new)
each_at kept t [] place key old new there is = let none : None ≡ Some (key, old) = there in absurd cc
each_at kept t (e ∷ entries) zero key old new there is =
    let some : Some e ≡ Some (key, old) = there in
    let one : e ≡ (key, old) = cc in
    ((refl, subst (λ (x : Labels × OwnerCells). IsLessened kept t x.0 x.1 new) (sym one) is), each_same kept t entries)
each_at kept t (e ∷ entries) (suc place) key old new there is = ((refl, less_same_cells kept t e.0 e.1), each_at kept t entries place key old new there is)

size_at : (entries : List (Labels × OwnerCells)) (place : ℕ) (new : OwnerCells) → length (set_value_at entries place new) ≡ length entries
size_at [] place new = refl
size_at (e ∷ entries) zero new = refl
size_at (e ∷ entries) (suc place) new = ap suc (size_at entries place new)

here_at : (P : Labels × OwnerCells → Type 0) (entries : List (Labels × OwnerCells)) (place : ℕ) (key : Labels) (old new : OwnerCells) → slice_get entries place ≡ Some (key, old) → P (key, new) → IfSome (slice_get (set_value_at entries place new) place) P
here_at P [] place key old new there is = tt
here_at P (e ∷ entries) zero key old new there is =
    let some : Some e ≡ Some (key, old) = there in
    let one : e ≡ (key, old) = cc in
    subst (λ (x : Labels × OwnerCells). P (x.0, new)) (sym one) is
here_at P (e ∷ entries) (suc place) key old new there is = here_at P entries place key old new there is

lessened : (kept : List KeptFlush) (t : ℕ) (name : Labels) (old new : OwnerCells) → IsSwept kept t name old new → IsLessened kept t name old new
lessened kept t name old new is = record { cells = is.cells; lost = is.lost }

clean : (kept : List KeptFlush) (t : ℕ) (name : Labels) (old new : OwnerCells) → IsSwept kept t name old new → 1 ≤ count_of new → IsClean kept t name new
clean kept t name old new is some = record { kinds = is.alive; whole = ap (is_dead t) is.whole ∙ not_dead t old.whole; counted = some }

clean_before : (kept : List KeptFlush) (s t : ℕ) (name : Labels) (cells : OwnerCells) → IsClean kept t name cells → (s < name_end cells) ⊎ (s ≤ t) → IsClean kept s name cells
clean_before kept s t name cells is (inl before) = record {
  kinds = λ k has. let was = is.kinds k has in (was.0, (was.1.0, some_alive (cell_in cells k was.0) s t (alive_before cells s before k was.0) was.1.1));
  whole = whole_before cells s before;
  counted = is.counted;
}
clean_before kept s t name cells is (inr early) = record {
  kinds = λ k has. let was = is.kinds k has in (was.0, (was.1.0, alive_earlier (cell_in cells k was.0) s t early was.1.1));
  whole = whole_earlier cells.whole s t early is.whole;
  counted = is.counted;
}

next_at : (kept : List KeptFlush) (t : ℕ) (name : Labels) (old new : OwnerCells) (end after : ℕ) → IsSwept kept t name old new → end ≡ max (name_end new) after → after ≡ min (t + 1) latest → IsNext kept t (name, new) end
next_at kept t name old new end after is at then some =
    let now = clean kept t name old new is some in (
      (λ s low. clean_before kept s t name new now (early s low)),
      now,
      (λ s low small. omega (arith, at, then)),
    )
  where
    early : (s : ℕ) → s < end → (s < name_end new) ⊎ (s ≤ t)
    early s low = grind (arith, at, then)

clean_first : (kept : List KeptFlush) (t : ℕ) (name : Labels) (cells : OwnerCells) → IsLikeFirst cells → IsClean kept t name cells → IsClean [] t name cells
clean_first kept t name cells like is = record {
  kinds = λ k has. let was = is.kinds k has in elim (like k was.0) [
    | inl same ↦ (0, (refl, ap (λ (h : Option (Admitted Find)). is_some (alive_at t h)) (sym same) ∙ was.1.1))
    | inr none ↦ absurd (false≢true (sym (ap (λ (h : Option (Admitted Find)). is_some (alive_at t h)) none) ∙ was.1.1))
  ];
  whole = is.whole;
  counted = is.counted;
}

next_first : (kept : List KeptFlush) (t : ℕ) (name : Labels) (cells : OwnerCells) (end : ℕ) → IsLikeFirst cells → IsNext kept t (name, cells) end → IsNext [] t (name, cells) end
next_first kept t name cells end like next some =
    let now = next some in ((λ s low. clean_first kept s name cells like (now.0 s low)), clean_first kept t name cells like now.1, now.2)

pub swept_at : (kept : List KeptFlush) (t place : ℕ) (entries news : List (Labels × OwnerCells)) (key : Labels) (old new : OwnerCells) (end after : ℕ) (mixed : Bool) → (mixed ≡ false → IsLikeFirst new) → mixed ≡ has_mixed new → slice_get entries place ≡ Some (key, old) → IsSwept kept t key old new
    → news ≡ set_value_at entries place new → end ≡ max (name_end new) after → after ≡ min (t + 1) latest → IsSweptAt kept t place entries news end mixed
swept_at kept t place entries news key old new end after mixed like flag there is put at then = subst (λ (l : List (Labels × OwnerCells)). IsSweptAt kept t place entries l end mixed) (sym put) (record {
  each = each_at kept t entries place key old new there (lessened kept t key old new is);
  others = others_at entries place new;
  size = size_at entries place new;
  next = here_at (λ e. IsNext kept t e end) entries place key old new there (next_at kept t key old new end after is at then);
  ever = λ none. here_at (λ e. IsNext [] t e end) entries place key old new there (next_first kept t key new end (like none) (next_at kept t key old new end after is at then));
  alike = λ none. here_at (λ e. IsLikeFirst e.1) entries place key old new there (like none);
  tidy = here_at (λ e. IsTidy e.1) entries place key old new there is.tidy;
  exact = here_at (λ e. end ≡ max (name_end e.1) (min (t + 1) latest)) entries place key old new there (at ∙ ap (max (name_end new)) then);
  flag = here_at (λ e. mixed ≡ has_mixed e.1) entries place key old new there flag;
})

-- ---- a visit

both_some : (kept : List KeptFlush) (t : ℕ) (o : Option (Labels × OwnerCells)) (end : ℕ) → IfSome o (λ e. IsNext kept t e end) → IfSome o (λ e. 1 ≤ count_of e.1)
    → IfSome o (λ e. IsEnd kept e end × IsClean kept t e.0 e.1 × ((s : ℕ) → s ≤ t → s < latest → s < end))
both_some kept t None end next some = tt
both_some kept t (Some e) end next some = next some

pub due_zero : (kept : List KeptFlush) (t asked : ℕ) (e : Labels × OwnerCells) → IsDue kept t asked e 0
due_zero kept t asked e low = absurd (omega arith)

ever_end : (t : ℕ) (o : Option (Labels × OwnerCells)) (end : ℕ) (mixed : Bool) → (mixed ≡ false → IfSome o (λ e. IsNext [] t e end)) → IfSome o (λ e. 1 ≤ count_of e.1) → IfSome o (λ e. IsEnd [] e (cond mixed 0 end))
ever_end t o end true next some = always_some (λ e. IsEnd [] e 0) o (end_zero [])
ever_end t o end false next some =
    some_map (λ e. IsEnd [] e end × IsClean [] t e.0 e.1 × ((s : ℕ) → s ≤ t → s < latest → s < end)) (λ e. IsEnd [] e end) o (λ e all. all.0) (both_some [] t o end (next refl) some)

each_names : (Q : Labels → OwnerCells → OwnerCells → Type 0) (old new : List (Labels × OwnerCells)) → IsEach (IsEntry Q) old new → keys_of new ≡ keys_of old
each_names Q [] [] each = refl
each_names Q [] (x ∷ new) each = absurd each
each_names Q (e ∷ old) [] each = absurd each
each_names Q (e ∷ old) (x ∷ new) each = (λ i. each.0.0 i ∷ each_names Q old new each.1 i)

module _ {S : Type 0} (kept : List KeptFlush) (t place end : ℕ) (mixed : Bool) (old middle new : IndexMap Labels OwnerCells S) (ends after : Ends) (was stored : ℕ) (low : place < length old.entries) (size : length ends.moments ≡ length old.entries)
    (swept : IsSweptAt kept t place old.entries middle.entries end mixed) (counted : stored ≡ stored_in middle) (fewer : stored ≤ was) (same : AreSameCells middle new) (left : AreLeft middle new) (count : stored_in new ≡ stored_in middle) where
  less : AreLessened kept t old new
  less = less_more kept t old middle new (swept_less kept t old middle swept.each) (less_left kept t middle new same left)

  named : keys_of middle.entries ≡ keys_of old.entries
  named = each_names (IsLessened kept t) old.entries middle.entries swept.each

  -- the ends, with other seconds
  abbrev noting : Lasts → Ends
  noting lasts = record { moments = after.moments; mixed = after.mixed; left = after.left; lasts = lasts }

  -- the name stays
  pub on_kept : after.moments ≡ set ends.moments place end → IsLower (set (sure ends) place end) (sure after) → after.left ≤ ends.left → evens after ≡ set (evens ends) place (cond mixed 0 end) → length after.mixed.items ≡ length after.moments → after.lasts ≡ ends.lasts
      → new.entries ≡ middle.entries → IfSome (slice_get middle.entries place) (λ e. 1 ≤ count_of e.1)
      → (lasts : Lasts) (last : ℕ) → last ≡ min (life_at [] kept new.entries place) latest → lasts.ends.items ≡ set after.lasts.ends.items place last → (AreWinners new.entries after.lasts → AreWinners new.entries lasts)
      → (asked most : ℕ) (first : IndexMap Labels OwnerCells S) → asked ≤ t → asked < latest → IsUnderway kept t asked first most old ends was → IsUnderway kept t asked first most new (noting lasts) stored
  on_kept moments lower fell unmixed flags same entries some lasts last noted seconds tree asked most first before small is = record {
    so_far = record {
      less = less_more kept t first old new is.so_far.less less;
      ends = subst (λ (l : List (Labels × OwnerCells)). AreEnds kept l (noting lasts)) (sym entries) (record {
        size = sym (zeros_length after.left after.moments) ∙ (lower.size ∙ (length-set (sure ends) place end ∙ (is.so_far.ends.now.size ∙ sym swept.size)));
        now = keyed_lower (IsEnd kept) (end_zero kept) middle.entries (set (sure ends) place end) (sure after) lower
            (keyed_set (IsEnd kept) old.entries middle.entries (sure ends) place end is.so_far.ends.now swept.others swept.size low
            (some_map (λ e. IsEnd kept e end × IsClean kept t e.0 e.1 × ((s : ℕ) → s ≤ t → s < latest → s < end)) (λ e. IsEnd kept e end) (slice_get middle.entries place) (λ e all. all.0) both));
        ever = subst (λ (l : List ℕ). AreKeyed (IsEnd []) middle.entries l) (sym unmixed)
            (keyed_set (IsEnd []) old.entries middle.entries (evens ends) place (cond mixed 0 end) is.so_far.ends.ever swept.others swept.size low (ever_end t (slice_get middle.entries place) end mixed swept.ever some));
        flags = flags;
        low = low_lower kept middle.entries (set (sure ends) place end) (sure after) lasts.ends.items lower
            (low_by kept middle.entries (λ l. set l place end) (λ l. set l place last) (sure ends) (set (sure ends) place end) ends.lasts.ends.items lasts.ends.items refl put
            (low_put old.entries middle.entries place last swept.others kept (sure ends) ends.lasts.ends.items end (omega (arith, low, is.so_far.ends.now.size)) (omega (arith, low, is.so_far.ends.winners.size)) at is.so_far.ends.low));
        low_ever = low_by [] middle.entries (λ l. set l place (cond mixed 0 end)) (λ l. set l place last) (evens ends) (evens after) ends.lasts.ends.items lasts.ends.items unmixed put
            (low_put_ever old.entries middle.entries place last swept.others kept (evens ends) ends.lasts.ends.items end mixed (omega (arith, low, is.so_far.ends.ever.size)) (omega (arith, low, is.so_far.ends.winners.size)) at swept.alike is.so_far.ends.low_ever);
        winners = subst (λ (l : List (Labels × OwnerCells)). AreWinners l lasts) entries
            (tree (subst (λ (x : Lasts). AreWinners new.entries x) (sym same) (winners_named old.entries new.entries ends.lasts (ap keys_of entries ∙ named) is.so_far.ends.winners)));
      });
      sure = omega (arith, fell, is.so_far.sure);
      counted = counted ∙ sym count;
      fewer = omega (arith, fewer, is.so_far.fewer);
      named = λ each. subst (λ (l : List (Labels × OwnerCells)). EachCounts l) (sym entries) (each_kept old.entries middle.entries ends.moments place size swept.others swept.size low (used_some (slice_get middle.entries place) some swept.tidy) (is.so_far.named each));
    };
    due = subst (λ (l : List (Labels × OwnerCells)). AreKeyed (IsDue kept t asked) l after.moments) (sym entries)
        (subst (λ (l : List ℕ). AreKeyed (IsDue kept t asked) middle.entries l) (sym moments)
        (keyed_set (IsDue kept t asked) old.entries middle.entries ends.moments place end is.due swept.others swept.size low
        (some_map (λ e. IsEnd kept e end × IsClean kept t e.0 e.1 × ((s : ℕ) → s ≤ t → s < latest → s < end)) (λ e. IsDue kept t asked e end) (slice_get middle.entries place) (λ e all late. all.1) both)));
  }
    where
      put : lasts.ends.items ≡ set ends.lasts.ends.items place last
      put = seconds ∙ ap (λ (x : Lasts). set x.ends.items place last) same

      at : last ≡ min (life_at [] kept middle.entries place) latest
      at = noted ∙ ap (λ (l : List (Labels × OwnerCells)). min (life_at [] kept l place) latest) entries

      both : IfSome (slice_get middle.entries place) (λ e. IsEnd kept e end × IsClean kept t e.0 e.1 × ((s : ℕ) → s ≤ t → s < latest → s < end))
      both = both_some kept t (slice_get middle.entries place) end swept.next some

  -- the name goes
  pub on_gone : AreBy (λ l. swap_remove l place 0) ends after → (d : Labels × OwnerCells) → new.entries ≡ swap_remove middle.entries place d
      → (lasts : Lasts) → lasts.ends.items ≡ swap_remove after.lasts.ends.items place 0 → ((was : List (Labels × OwnerCells)) (d : Labels × OwnerCells) → new.entries ≡ swap_remove was place d → AreWinners was after.lasts → AreWinners new.entries lasts)
      → (asked most : ℕ) (first : IndexMap Labels OwnerCells S) → IsUnderway kept t asked first most old ends was → IsUnderway kept t asked first most new (noting lasts) stored
  on_gone by d entries lasts seconds tree asked most first is = record {
    so_far = record {
      less = less_more kept t first old new is.so_far.less less;
      ends = ends_gone old.entries middle.entries new.entries place d low swept.others named entries kept ends after lasts by seconds tree is.so_far.ends;
      sure = omega (arith, by.left, is.so_far.sure);
      counted = counted ∙ sym count;
      fewer = omega (arith, fewer, is.so_far.fewer);
      named = λ each. each_gone old.entries middle.entries new.entries ends.moments place d low swept.others named entries size (is.so_far.named each);
    };
    due = subst (λ (l : List ℕ). AreKeyed (IsDue kept t asked) new.entries l) (sym by.moments)
        (keyed_gone old.entries middle.entries new.entries place d low swept.others named entries (IsDue kept t asked) ends.moments is.due);
  }

-- ---- fewer names have ended

ended_one : (asked x : ℕ) → x ≤ asked → one_ended asked x ≡ 1
ended_one asked x low = grind (arith, nat_tests)

ended_none : (asked x : ℕ) → asked < x → one_ended asked x ≡ 0
ended_none asked x late = grind (arith, nat_tests)

pub ended_set : (asked : ℕ) (ends : List ℕ) (place end : ℕ) → place < length ends → get_or ends place 0 ≤ asked → asked < end → count_ended asked (set ends place end) + 1 ≡ count_ended asked ends
ended_set asked ends place end low is late =
    omega (arith, sum_by-set (one_ended asked) ends place end 0 low, ended_one asked (get_or ends place 0) is, ended_none asked end late)

pub ended_gone : (asked : ℕ) (ends : List ℕ) (place : ℕ) → place < length ends → get_or ends place 0 ≤ asked → count_ended asked (swap_remove ends place 0) + 1 ≡ count_ended asked ends
ended_gone asked ends place low is = omega (arith, sum_by-swap_remove (one_ended asked) ends place 0 low, ended_one asked (get_or ends place 0) is)

-- one name more may have ended
ended_most : (asked x : ℕ) → one_ended asked x ≤ 1
ended_most asked x = grind (arith, nat_tests)

pub ended_more : (asked : ℕ) (ends : List ℕ) (place end : ℕ) → place < length ends → count_ended asked (set ends place end) ≤ count_ended asked ends + 1
ended_more asked ends place end low = omega (arith, sum_by-set (one_ended asked) ends place end 0 low, ended_most asked end)

-- and one fewer
pub ended_fewer : (asked : ℕ) (ends : List ℕ) (place end : ℕ) → place < length ends → count_ended asked ends ≤ count_ended asked (set ends place end) + 1
ended_fewer asked ends place end low = omega (arith, sum_by-set (one_ended asked) ends place end 0 low, ended_most asked (get_or ends place 0))

-- a name has gone
pub ended_drop : (asked : ℕ) (ends : List ℕ) (place : ℕ) → place < length ends → (count_ended asked (swap_remove ends place 0) ≤ count_ended asked ends) × (count_ended asked ends ≤ count_ended asked (swap_remove ends place 0) + 1)
ended_drop asked ends place low = (
  omega (arith, sum_by-swap_remove (one_ended asked) ends place 0 low),
  omega (arith, sum_by-swap_remove (one_ended asked) ends place 0 low, ended_most asked (get_or ends place 0)),
)

-- no name has ended
pub ended_zero : (asked : ℕ) (ends : List ℕ) → ((i : ℕ) → i < length ends → asked < get_or ends i 0) → count_ended asked ends ≡ 0
ended_zero asked [] later = refl
ended_zero asked (x ∷ ends) later =
    omega (arith, sum_by-cons (one_ended asked) x ends, ended_none asked x (later 0 (omega arith)), ended_zero asked ends (λ i low. later (suc i) (omega (arith, low))))

-- before the latest second a sweep looks at its own moment
pub asked_small : (t : ℕ) → t < latest → asked_at t ≡ t
asked_small t small = min-eq_left (omega (arith, small))

-- at the latest second it looks at the one before
pub asked_latest : (t : ℕ) → t ≡ latest → asked_at t ≡ t - 1
asked_latest t is = subst (λ n. asked_at n ≡ n - 1) (sym is) refl

-- what a turn leaves: a flush has reached some names more
pub turn_reached : (t : ℕ) (old new : List ℕ) (was now : List Settling) → steps_left now < steps_left was → EndNear old new (steps_left was) (steps_left now) → unswept new now t < unswept old was t
turn_reached t old new was now fewer ended = omega (arith, fewer, (ended (asked_at t)).0)

-- no more than so many
pub reached_short : (t : ℕ) (old new : List ℕ) (was now : List Settling) → HaveStepped reached_at_once was now → EndNear old new (steps_left was) (steps_left now) → unswept old was t ≤ unswept new now t + turn_at_most
reached_short t old new was now stepped ended = omega (arith, stepped.1, (ended (asked_at t)).1)

-- some names were visited
pub turn_more : (t : ℕ) (old new : List ℕ) (settlings : List Settling) → t < latest → count_ended t new < count_ended t old → unswept new settlings t < unswept old settlings t
turn_more t old new settlings small fewer =
    let asked = asked_small t small in
    omega (arith, fewer, ap (λ n. count_ended n old) asked, ap (λ n. count_ended n new) asked)

-- no more than so many were
pub turn_short : (t : ℕ) (old new : List ℕ) (settlings : List Settling) → t < latest → count_ended t old ≤ count_ended t new + reached_at_once → unswept old settlings t ≤ unswept new settlings t + turn_at_most
turn_short t old new settlings small short =
    let asked = asked_small t small in
    omega (arith, short, ap (λ n. count_ended n old) asked, ap (λ n. count_ended n new) asked)

-- none is left
pub turn_none : (t : ℕ) (new : List ℕ) (settlings : List Settling) → settlings ≡ [] → count_ended (asked_at t) new ≡ 0 → unswept new settlings t ≡ 0
turn_none t new settlings none ended = omega (arith, ap steps_left none, ended)

pub turn_small : (t : ℕ) (new : List ℕ) (settlings : List Settling) → t < latest → settlings ≡ [] → count_ended t new ≡ 0 → unswept new settlings t ≡ 0
turn_small t new settlings small none ended = turn_none t new settlings none (ap (λ n. count_ended n new) (asked_small t small) ∙ ended)

pub later_of : (kept : List KeptFlush) (t place end asked : ℕ) (entries : List (Labels × OwnerCells)) → place < length entries → IfSome (slice_get entries place) (λ e. IsNext kept t e end) → IfSome (slice_get entries place) (λ e. 1 ≤ count_of e.1)
    → asked ≤ t → asked < latest → asked < end
later_of kept t place end asked [] low next some before small = absurd (omega arith)
later_of kept t zero end asked (e ∷ entries) low next some before small = (next some).2 asked before small
later_of kept t (suc place) end asked (e ∷ entries) low next some before small = later_of kept t place end asked entries (omega arith) next some before small

-- ---- all names

pub each_clean : (kept : List KeptFlush) (t asked : ℕ) (entries : List (Labels × OwnerCells)) (ends : List ℕ) → AreKeyed (IsDue kept t asked) entries ends → ((i : ℕ) → i < length ends → asked < get_or ends i 0)
    → (i : ℕ) → IfSome (slice_get entries i) (λ e. IsClean kept t e.0 e.1)
each_clean kept t asked entries ends keyed later i = split (slice_get entries i) refl (keyed.each i)
  where
    split : (o : Option (Labels × OwnerCells)) → slice_get entries i ≡ o → IfSome o (λ e. IsDue kept t asked e (get_or ends i 0)) → IfSome o (λ e. IsClean kept t e.0 e.1)
    split None at is = tt
    split (Some e) at is = is (later i (omega (arith, keyed.size, within entries i e at)))
      where
        within : (l : List (Labels × OwnerCells)) (i : ℕ) (e : Labels × OwnerCells) → slice_get l i ≡ Some e → i < length l
        within [] i e at = let none : None ≡ Some e = at in absurd cc
        within (x ∷ l) zero e at = omega arith
        within (x ∷ l) (suc i) e at = omega (arith, within l i e at)

found_clean : (kept : List KeptFlush) (t : ℕ) (entries : List (Labels × OwnerCells)) → ((i : ℕ) → IfSome (slice_get entries i) (λ e. IsClean kept t e.0 e.1)) → (name : Labels) → IfSome (lookup (name_eq name) entries) (λ cells. IsClean kept t name cells)
found_clean kept t [] all name = tt
found_clean kept t (e ∷ entries) all name = split (name_eq name e.0) refl (found_clean kept t entries (λ i. all (suc i)) name)
  where
    split : (b : Bool) → name_eq name e.0 ≡ b → IfSome (lookup (name_eq name) entries) (λ cells. IsClean kept t name cells) → IfSome (cond b (Some e.1) (lookup (name_eq name) entries)) (λ cells. IsClean kept t name cells)
    split true same rest = subst (λ (m : Labels). IsClean kept t m e.1) (sym (name_eq_exact name e.0 same)) (all 0)
    split false apart rest = rest

pub all_alive : {S : Type 0} (kept : List KeptFlush) (t : ℕ) (owners : IndexMap Labels OwnerCells S) → ((i : ℕ) → IfSome (slice_get owners.entries i) (λ e. IsClean kept t e.0 e.1)) → AreAlive kept t owners
all_alive kept t owners all = record {
  kinds = λ name. some_map (λ cells. IsClean kept t name cells) (λ cells. (k : ℕ) → has_place cells (One k) ≡ true → IsAlive kept name t cells k) (get name_eq owners name) (λ cells is. is.kinds) (found_clean kept t owners.entries all name);
  wholes = λ name. some_map (λ cells. IsClean kept t name cells) (λ cells. is_dead t cells.whole ≡ false) (get name_eq owners name) (λ cells is. is.whole) (found_clean kept t owners.entries all name);
  counted = λ i low. some_map (λ e. IsClean kept t e.0 e.1) (λ e. 1 ≤ count_of e.1) (slice_get owners.entries i) (λ e is. is.counted) (all i);
}

-- ---- the first visit

pub start : {S : Type 0} (kept : List KeptFlush) (t : ℕ) (owners : IndexMap Labels OwnerCells S) (ends : Ends) (stored : ℕ) → CanSweep kept owners ends stored → IsUnderway kept t t owners stored owners ends stored
start kept t owners ends stored is = record {
  so_far = record { less = less_same kept t owners; ends = is.ends; sure = is.sure; counted = is.counted; fewer = omega arith; named = λ each. each };
  due = keyed_map (IsEnd kept) (IsDue kept t t) (λ e n now late. now t late) owners.entries ends.moments (subst (λ n. AreKeyed (IsEnd kept) owners.entries (zeros_to n ends.moments)) is.sure is.ends.now);
}

pub start_all : {S : Type 0} (kept : List KeptFlush) (t asked : ℕ) (owners : IndexMap Labels OwnerCells S) (old ends : Ends) (stored : ℕ) → CanSweep kept owners old stored → AreBy (λ l. replicate (length l) 0) old ends → IsUnderway kept t asked owners stored owners ends stored
start_all kept t asked owners old ends stored is by = record {
  so_far = record { less = less_same kept t owners; ends = ends_zero kept owners.entries old ends is.ends by; sure = omega (arith, by.left, is.sure); counted = is.counted; fewer = omega arith; named = λ each. each };
  due = subst (λ (l : List ℕ). AreKeyed (IsDue kept t asked) owners.entries l) (sym by.moments) (keyed_zero (IsDue kept t asked) (due_zero kept t asked) owners.entries (length old.moments) is.ends.size);
}

-- The names are tallied while a sweep is under way.
pub tallied_on : {S : Type 0} (kept : List KeptFlush) (t asked most stored : ℕ) (first owners : IndexMap Labels OwnerCells S) (ends : Ends) → HaveTop first → IsUnderway kept t asked first most owners ends stored → IsTallied owners stored ends
tallied_on kept t asked most stored first owners ends top is =
    let so_far = is.so_far in
    record {
      counted = so_far.counted;
      top = (top.0, so_far.less.gains.upto top.0 top.1);
      size = (so_far.ends.size, so_far.ends.flags, so_far.ends.winners.size, so_far.ends.winners.shape);
    }

pub when_none : {X : Type 0} (found : Option ℕ) → found ≡ None → IfNone found X → X
when_none {X} found none is = subst (λ (o : Option ℕ). IfNone o X) none is

pub when_some : (P : ℕ → Type 0) (found : Option ℕ) (place : ℕ) → found ≡ Some place → IfSome found P → P place
when_some P found place there is = subst (λ (o : Option ℕ). IfSome o P) there is

pub later_zero : (ends : List ℕ) (asked : ℕ) → ((i : ℕ) → i < length ends → asked < get_or ends i latest) → (i : ℕ) → i < length ends → asked < get_or ends i 0
later_zero ends asked later i low = omega (arith, later i low, get_or_default ends i latest 0 low)
