-- A name of which no place counts leaves the index.
use Rattle.std.proofs.Common.{◌≡◌, ℕ, ◌-◌, ◌<◌, ◌≤◌, min, Bool, true, false, cond, Option, Some, None, List, [], length, get_or, refl, sym, ap, ◌∙◌, subst, arith}
use Rattle.std.specs.Prelude.{nat_lt, position, slice_get, swap_remove, IfSome}
use Rattle.std.proofs.Math.ListN.{set, length-set}
use Rattle.std.proofs.lemmas.Bool.Decides.{nat_tests}
use Rattle.std.proofs.lemmas.List.{length-take-le}
use Rattle.std.proofs.lemmas.Map.Entries.{length-keys_of}
use Rattle.std.specs.List.{position_or_len}
use Rattle.std.specs.Map.{keys_of}
use Rattle.indexmap.specs.IndexMap.{IndexMap, get}
use Rattle.dns_name.specs.Labels.{Labels}
use Rattle.dns_name.specs.Order.{name_eq, name_eq_exact, name_equiv}
use Rattle.dns_name.specs.Below.{is_at_or_below}
use Rattle.dns_text.specs.declared.record.Question.{Question}
use Rattle.cell_store.specs.declared.owner.OwnerCells.{OwnerCells}
use Rattle.cell_store.specs.Owner.{after_settle}
use Rattle.cell_store.specs.Store.{cell_by_owner, cell_of, name_place, AreSameCells, AreUpTo, StayBut, StayButAt}
use Rattle.shelf.specs.declared.ends.Ends.{Ends}
use Rattle.shelf.specs.declared.lasts.Lasts.{Lasts}
use Rattle.shelf.specs.declared.settling.Settling.{Settling}
use Rattle.shelf.specs.declared.shelf.KeptFlush.{KeptFlush}
use Rattle.shelf.specs.Clean.{evens, sure, AreBy, AreEnds, AreKeyed, IsEnd}
use Rattle.shelf.specs.Lasts.{AreLow, AreWinners}
use Rattle.shelf.specs.Settling.{settled_version, AreReached, IsMoved, IsReaching, IsSettling}
use Rattle.shelf.proofs.AboutLaws.{about_same}
use Rattle.shelf.proofs.DoubtLaws.{keyed_lower, low_lower, zeros_length}
use Rattle.shelf.proofs.EndLaws.{end_zero, ends_reset, keyed_swap, low_by}
use Rattle.shelf.proofs.EvenLaws.{by_none}
use Rattle.shelf.proofs.LowLaws.{life_like, low_swap}
use Rattle.shelf.proofs.SettlingLaws.{all_each, reached_low, swapped_place, IsThere}
use Rattle.shelf.proofs.WinnerLaws.{same_size, winners_named, winners_same}

-- ---- what the flushes have reached

module _ {S : Type 0} (old new : IndexMap Labels OwnerCells S) (place : ℕ) (e d : Labels × OwnerCells) (low : place < length old.entries) (there : slice_get old.entries place ≡ Some e) (put : new.entries ≡ swap_remove old.entries place d)
    (same : AreSameCells old new) (gone : get name_eq new e.0 ≡ None) where
  was_there : IsThere (name_eq e.0) old.entries place
  was_there = record { entry = e; read = there; passes = name_equiv.refl e.0 }

  pub dropped_reached : (zone : Labels) (number left : ℕ) → AreReached zone number left old → AreReached zone number left new
  dropped_reached zone number left is q v far = split (name_eq e.0 q.owner) refl
    where
      split : (b : Bool) → name_eq e.0 q.owner ≡ b → cell_of new q (after_settle (is_at_or_below q.owner zone) number v) ≡ cell_of new q v
      split true named =
          let none : get name_eq new q.owner ≡ None = subst (λ (n : Labels). get name_eq new n ≡ None) (name_eq_exact e.0 q.owner named) gone in
          ap (λ (o : Option OwnerCells). cell_by_owner o q.kind (after_settle (is_at_or_below q.owner zone) number v)) none ∙ sym (ap (λ (o : Option OwnerCells). cell_by_owner o q.kind v) none)
      split false apart =
          let short : min (min left (length old.entries)) (length (swap_remove old.entries place d)) ≤ name_place q.owner (swap_remove old.entries place d) =
          subst (λ (l : List (Labels × OwnerCells)). min (min left (length old.entries)) (length l) ≤ name_place q.owner l) put (omega (arith, far)) in
          let far' : min left (length old.entries) ≤ name_place q.owner old.entries =
          swapped_place e.0 q.owner apart old.entries (min left (length old.entries)) (omega arith) d place low was_there short in
          same q (after_settle (is_at_or_below q.owner zone) number v) ∙ (reached_low zone number left old is q v far' ∙ sym (same q v))

pub same_reached : {S : Type 0} (old new : IndexMap Labels OwnerCells S) → keys_of new.entries ≡ keys_of old.entries → AreSameCells old new → (zone : Labels) (number left : ℕ) → AreReached zone number left old → AreReached zone number left new
same_reached old new put same zone number left is q v far =
    same q (after_settle (is_at_or_below q.owner zone) number v)
    ∙ (is q v (subst (λ (l : List Labels). left ≤ position_or_len (name_eq q.owner) l) put far) ∙ sym (same q v))

-- the name that the clause speaks of
pub gone_at : {S : Type 0} (entries : List (Labels × OwnerCells)) (new : IndexMap Labels OwnerCells S) (place : ℕ) (e : Labels × OwnerCells) (removed : Bool) → slice_get entries place ≡ Some e → removed ≡ true
    → IfSome (slice_get entries place) (λ entry. removed ≡ true → get name_eq new entry.0 ≡ None) → get name_eq new e.0 ≡ None
gone_at entries new place e removed there so gone = subst (λ (o : Option (Labels × OwnerCells)). IfSome o (λ entry. removed ≡ true → get name_eq new entry.0 ≡ None)) there gone so

module _ {S : Type 0} (old new : IndexMap Labels OwnerCells S) (top : ℕ) (upto : AreUpTo top new) (same : AreSameCells old new) (step : (zone : Labels) (number left : ℕ) → AreReached zone number left old → AreReached zone number left new) where
  step_own : (own : Settling) → IsSettling top old own → IsSettling top new own
  step_own own is = record { older = is.older; reached = step own.zone own.number own.left is.reached }

  pub reach_kept : (zone : Labels) (number place : ℕ) → IsReaching zone number top place place old new
  reach_kept zone number place = record {
    cells = λ q v. same q (after_settle (is_at_or_below q.owner zone) number v);
    upto = upto;
    about = about_same old new same;
    reached = step zone number place;
    others = step_own;
  }

  pub moved_kept : (moved : Question → ℕ → ℕ) (was now : List Settling) (first : IndexMap Labels OwnerCells S) → IsMoved moved top was now first old → IsMoved moved top was now first new
  moved_kept moved was now first is = record {
    cells = λ q v. same q (settled_version now q.owner v) ∙ is.cells q v;
    upto = upto;
    about = λ before. about_same old new same (is.about before);
    settling = all_each (IsSettling top old) (IsSettling top new) now step_own is.settling;
  }

-- ---- the moments

pub swapped_size : {X : Type 0} (xs : List X) (place : ℕ) (d : X) → length (swap_remove xs place d) ≡ length xs - 1
swapped_size xs place d = length-take-le (length xs - 1) (set xs place (get_or xs (length xs - 1) d)) (omega (arith, length-set xs place (get_or xs (length xs - 1) d)))

-- the entry of a name has changed, if the name is there; else nothing has
pub ends_absent : (kept : List KeptFlush) (name : Labels) (old new : List (Labels × OwnerCells)) (ends : Ends) → AreEnds kept old ends → StayBut name old new → length new ≡ length old → None ≡ position (name_eq name) (keys_of old) → AreEnds kept new ends
ends_absent kept name old new ends is stay size none = ends_reset kept name old new ends ends is stay size
    (by_none ends ends (name_place name old) (length (keys_of old)) (is.size ∙ sym (length-keys_of old)) is.flags (refl, refl) refl none refl refl)

-- the place of a name that is there
pub spot_of : (p n place : ℕ) → Some place ≡ cond (nat_lt p n) (Some p) None → (place ≡ p) × (p < n)
spot_of p n place at = split (nat_lt p n) refl at
  where
    split : (b : Bool) → nat_lt p n ≡ b → Some place ≡ cond b (Some p) None → (place ≡ p) × (p < n)
    split true low same = (cc, grind (arith, nat_tests))
    split false high same = let no : Some place ≡ None = same in absurd cc

pub stay_at : (name : Labels) (old new : List (Labels × OwnerCells)) (place : ℕ) → place ≡ name_place name old → StayBut name old new → keys_of new ≡ keys_of old → StayButAt place old new
stay_at name old new place at stay names = record { others = λ i off. stay.others i (λ same. off (same ∙ sym at)); names = names }

-- The entry at a place has changed, if any, and then the name there has gone.
module _ (before middle new : List (Labels × OwnerCells)) (place : ℕ) (d : Labels × OwnerCells) (low : place < length before) (others : (i : ℕ) → (i ≡ place → ⊥) → slice_get middle i ≡ slice_get before i)
    (names : keys_of middle ≡ keys_of before) (entries : new ≡ swap_remove middle place d) where
  size : length middle ≡ length before
  size = same_size before middle names

  pub keyed_gone : (P : Labels × OwnerCells → ℕ → Type 0) (l : List ℕ) → AreKeyed P before l → AreKeyed P new (swap_remove l place 0)
  keyed_gone P l keyed = subst (λ (e : List (Labels × OwnerCells)). AreKeyed P e (swap_remove l place 0)) (sym entries)
      (keyed_swap P middle l place d (keyed.size ∙ sym size)
      (λ i off. subst (λ (o : Option (Labels × OwnerCells)). IfSome o (λ e. P e (get_or l i 0))) (sym (others i off)) (keyed.each i)) (omega (arith, size, low)))

  module _ (kept : List KeptFlush) (was after : Ends) (lasts : Lasts) (by : AreBy (λ l. swap_remove l place 0) was after) (seconds : lasts.ends.items ≡ swap_remove after.lasts.ends.items place 0)
      (tree : (old : List (Labels × OwnerCells)) (d : Labels × OwnerCells) → new ≡ swap_remove old place d → AreWinners old after.lasts → AreWinners new lasts) where
    low_gone : (flushes : List KeptFlush) (l now : List ℕ) → length l ≡ length before → now ≡ swap_remove l place 0 → length was.lasts.ends.items ≡ length before → AreLow flushes before l was.lasts.ends.items
        → AreLow flushes new now lasts.ends.items
    low_gone flushes l now long moments wide was_low = subst (λ (e : List (Labels × OwnerCells)). AreLow flushes e now lasts.ends.items) (sym entries)
        (low_by flushes (swap_remove middle place d) (λ k. swap_remove k place 0) (λ k. swap_remove k place 0) l now was.lasts.ends.items lasts.ends.items moments
        (seconds ∙ ap (λ (k : List ℕ). swap_remove k place 0) by.lasts.0)
        (low_swap flushes middle l was.lasts.ends.items place d (long ∙ sym size) (wide ∙ sym size) (omega (arith, size, low))
        (λ i off some. omega (arith, was_low i some, life_like flushes before middle i i (others i off)))))

    pub ends_gone : AreEnds kept before was → AreEnds kept new (record { moments = after.moments; mixed = after.mixed; left = after.left; lasts = lasts })
    ends_gone is = record {
      size = sym (zeros_length after.left after.moments) ∙ (by.sure.size ∙ (keyed_gone (IsEnd kept) (sure was) is.now).size);
      now = keyed_lower (IsEnd kept) (end_zero kept) new (swap_remove (sure was) place 0) (sure after) by.sure (keyed_gone (IsEnd kept) (sure was) is.now);
      ever = subst (λ (l : List ℕ). AreKeyed (IsEnd []) new l) (sym by.unmixed) (keyed_gone (IsEnd []) (evens was) is.ever);
      flags = by.flags;
      low = low_lower kept new (swap_remove (sure was) place 0) (sure after) lasts.ends.items by.sure (low_gone kept (sure was) (swap_remove (sure was) place 0) is.now.size refl is.winners.size is.low);
      low_ever = low_gone [] (evens was) (evens after) is.ever.size by.unmixed is.winners.size is.low_ever;
      winners = tree middle d entries (winners_same middle was.lasts after.lasts by.lasts (winners_named before middle was.lasts names is.winners));
    }
