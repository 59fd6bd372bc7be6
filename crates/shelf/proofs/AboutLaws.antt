-- Each cell has only a find about its question: what keeps this. What is alive in some version has a place that counts.
use Rattle.std.proofs.Common.{◌≡◌, ℕ, ◌<◌, ◌≤◌, Bool, true, false, cond, Option, Some, None, List, [], ◌∷◌, ◌++◌, refl, sym, ap, ◌∙◌, subst, arith, ◌⊎◌, inl, inr}
use Rattle.std.specs.Prelude.{◌||◌, IfSome}
use Rattle.std.specs.List.{AllByRecursion}
use Rattle.std.specs.Set.{is_member}
use Rattle.std.proofs.lemmas.Bool.{false≢true}
use Rattle.std.proofs.lemmas.List.Folds.{list_any-append}
use Rattle.std.proofs.Math.Bool.{or-false}
use Rattle.indexmap.specs.IndexMap.{IndexMap}
use Rattle.dns_name.specs.Labels.{Labels}
use Rattle.dns_text.specs.declared.record.Question.{Question}
use Rattle.ranked.specs.declared.find.Find.{Find}
use Rattle.ranked.specs.declared.find.Scope.{Scope}
use Rattle.ranked.specs.declared.cell.Admitted.{Admitted}
use Rattle.ranked.specs.Find.{touches, admission_of}
use Rattle.ranked.specs.Cell.{after_admission, turns_away, is_alive}
use Rattle.cell_store.specs.declared.owner.OwnerCells.{OwnerCells}
use Rattle.cell_store.specs.Store.{cell_of, AreAbout, AreUpTo}
use Rattle.cell_store.specs.Count.{has_pair, pair_eq, pair_of, AddPair, KeepPairs}
use Rattle.cell_store.specs.HeldLaws.{held_counted}
use Rattle.cell_store.specs.Sweep.{alive_at}
use Rattle.ranked.specs.declared.flush.Flush.{Flush}
use Rattle.shelf.specs.declared.shelf.Shelf.{Shelf}
use Rattle.shelf.specs.Settling.{settled_version}
use Rattle.shelf.specs.Told.{Told, chosen_version, IsShelf, IsShelfOf}
use Rattle.shelf.specs.Told.Told.{admitted, flushed}
use Rattle.shelf.specs.Stored.{count_pairs, pairs_in, HasAdmittedEach, IsAliveInFace, IsAliveInReplay}
use Rattle.shelf.proofs.ShelfLaws.{nothing_past}
use Rattle.shelf.proofs.StoredLaws.{pair_exact, pair_turned, stored_least}

-- ---- a call changes cells

module _ {S : Type 0} (old new : IndexMap Labels OwnerCells S) where
  pub about_same : ((q : Question) (v : ℕ) → cell_of new q v ≡ cell_of old q v) → AreAbout old → AreAbout new
  about_same same is q v = subst (λ (h : Option (Admitted Find)). IfSome h (λ held. touches held.body q ≡ true)) (sym (same q v)) (is q v)

  pub about_moved : (version : Question → ℕ → ℕ) → ((q : Question) (v : ℕ) → cell_of new q v ≡ cell_of old q (version q v)) → AreAbout old → AreAbout new
  about_moved version moved is q v = subst (λ (h : Option (Admitted Find)). IfSome h (λ held. touches held.body q ≡ true)) (sym (moved q v)) (is q (version q v))

  pub about_forgot : (gone : Question → Bool) → ((q : Question) (v : ℕ) → cell_of new q v ≡ cond (gone q) None (cell_of old q v)) → AreAbout old → AreAbout new
  about_forgot gone forgot is q v = subst (λ (h : Option (Admitted Find)). IfSome h (λ held. touches held.body q ≡ true)) (sym (forgot q v)) (split (gone q))
    where
      split : (b : Bool) → IfSome (cond b None (cell_of old q v)) (λ held. touches held.body q ≡ true)
      split true = tt
      split false = is q v

  pub about_admitted : (find : Find) (moment top : ℕ) → AreUpTo top new
      → ((q : Question) (v : ℕ) → v ≤ top → cell_of new q v ≡ cond (touches find q) (after_admission (cell_of old q v) (admission_of find find moment)) (cell_of old q v)) → AreAbout old → AreAbout new
  about_admitted find moment top upto cells is q v = elim (reached v top) [
    | inl low ↦ subst (λ (h : Option (Admitted Find)). IfSome h (λ held. touches held.body q ≡ true)) (sym (cells q v low)) (split (touches find q) refl (turns_away (cell_of old q v) (admission_of find find moment)))
    | inr late ↦ subst (λ (h : Option (Admitted Find)). IfSome h (λ held. touches held.body q ≡ true)) (sym (nothing_past new top upto q v late)) tt
  ]
    where
      reached : (v top : ℕ) → (v ≤ top) ⊎ (top < v)
      reached v top = grind arith

      split : (b : Bool) → touches find q ≡ b → (t : Bool) → IfSome (cond b (cond t (cell_of old q v) (Some (admission_of find find moment))) (cell_of old q v)) (λ held. touches held.body q ≡ true)
      split true at true = is q v
      split true at false = at
      split false at t = is q v

-- ---- what is alive has a place that counts

pub alive_held : (t : ℕ) (h : Option (Admitted Find)) (held : Admitted Find) → alive_at t h ≡ Some held → h ≡ Some held
alive_held t None held is = let none : None ≡ Some held = is in absurd cc
alive_held t (Some x) held is = split (is_alive x t) is
  where
    split : (b : Bool) → cond b (Some x) None ≡ Some held → Some x ≡ Some held
    split true here = here
    split false here = let none : None ≡ Some held = here in absurd cc

pub placed : (shelf : Shelf) → IsShelf shelf → (q : Question) (v t : ℕ) (held : Admitted Find) (pair : Labels × Scope) → alive_at t (cell_of shelf.owners q v) ≡ Some held → pair_of held.body ≡ pair → has_pair shelf.owners pair ≡ true
placed shelf is q v t held pair alive same =
    let counted = held_counted shelf.owners shelf.top is.upto is.about q v in
    let here : cell_of shelf.owners q v ≡ Some held = alive_held t (cell_of shelf.owners q v) held alive in
    ap (has_pair shelf.owners) (sym same) ∙ subst (λ (h : Option (Admitted Find)). IfSome h (λ x. has_pair shelf.owners (pair_of x.body) ≡ true)) here counted

pub placed_face : (shelf : Shelf) → IsShelf shelf → (t : ℕ) (pair : Labels × Scope) → IsAliveInFace shelf t pair → has_pair shelf.owners pair ≡ true
placed_face shelf is t pair it = placed shelf is it.question (settled_version shelf.settlings.items it.question.owner (chosen_version shelf.kept.items it.question it.chosen)) t it.held pair it.alive it.same

pub placed_replay : (shelf : Shelf) → IsShelf shelf → (told : List Told) → IsShelfOf shelf told → (t : ℕ) (pair : Labels × Scope) → IsAliveInReplay shelf.kept.items told t pair → has_pair shelf.owners pair ≡ true
placed_replay shelf is told of t pair it =
    placed shelf is it.question (settled_version shelf.settlings.items it.question.owner it.version) t it.held pair (ap (alive_at t) (of it.question it.version it.there) ∙ it.alive) it.same

-- ---- so many are stored at least

member_all : (P : Labels × Scope → Type 0) (pairs : List (Labels × Scope)) → AllByRecursion P pairs → (pair : Labels × Scope) → is_member pair_eq pairs pair ≡ true → P pair
member_all P [] all pair is = absurd (false≢true is)
member_all P (x ∷ pairs) all pair is = split (pair_eq pair x) refl is (member_all P pairs all.1 pair)
  where
    split : (b : Bool) → pair_eq pair x ≡ b → (b || is_member pair_eq pairs pair) ≡ true → (is_member pair_eq pairs pair ≡ true → P pair) → P pair
    split true at there later = subst (λ (p : Labels × Scope). P p) (sym (pair_exact pair x at)) all.0
    split false at there later = later there

pub counted_least : (shelf : Shelf) → IsShelf shelf → (pairs : List (Labels × Scope)) → ((pair : Labels × Scope) → is_member pair_eq pairs pair ≡ true → has_pair shelf.owners pair ≡ true) → count_pairs pairs ≤ shelf.stored
counted_least shelf is pairs each = omega (arith, stored_least shelf.owners pairs each, is.counted)

pub face_least : (shelf : Shelf) → IsShelf shelf → (t : ℕ) (pairs : List (Labels × Scope)) → AllByRecursion (IsAliveInFace shelf t) pairs → count_pairs pairs ≤ shelf.stored
face_least shelf is t pairs all = counted_least shelf is pairs (λ pair there. placed_face shelf is t pair (member_all (IsAliveInFace shelf t) pairs all pair there))

pub replay_least : (shelf : Shelf) → IsShelf shelf → (told : List Told) → IsShelfOf shelf told → (t : ℕ) (pairs : List (Labels × Scope)) → AllByRecursion (IsAliveInReplay shelf.kept.items told t) pairs → count_pairs pairs ≤ shelf.stored
replay_least shelf is told of t pairs all =
    counted_least shelf is pairs (λ pair there. placed_replay shelf is told of t pair (member_all (IsAliveInReplay shelf.kept.items told t) pairs all pair there))

-- ---- each place that counts is that of an admission

pairs_append : (told more : List Told) → pairs_in (told ++ more) ≡ pairs_in told ++ pairs_in more
pairs_append [] more = refl
pairs_append (admitted find moment ∷ told) more = ap (λ (l : List (Labels × Scope)). pair_of find ∷ l) (pairs_append told more)
pairs_append (flushed flush number ∷ told) more = pairs_append told more

or_either : (a b c : Bool) → (a || b) ≡ true → (b ≡ true → c ≡ true) → (c || (a || false)) ≡ true
or_either true b true is step = refl
or_either true b false is step = refl
or_either false b c is step = ap (λ x. x || false) (step is)

pub admitted_more : (told : List Told) (find : Find) (moment : ℕ) (old new : Shelf) → AddPair (pair_of find) old.owners new.owners → HasAdmittedEach told old → HasAdmittedEach (told ++ admitted find moment ∷ []) new
admitted_more told find moment old new adds each pair has =
    ap (λ (l : List (Labels × Scope)). is_member pair_eq l pair) (pairs_append told (admitted find moment ∷ []))
    ∙ (list_any-append (pair_eq pair) (pairs_in told) (pair_of find ∷ [])
    ∙ or_either (pair_eq pair (pair_of find)) (has_pair old.owners pair) (is_member pair_eq (pairs_in told) pair)
    (ap (λ b. b || has_pair old.owners pair) (pair_turned pair (pair_of find)) ∙ adds pair has) (each pair))

pub flushed_more : (told : List Told) (flush : Flush) (number : ℕ) (old new : Shelf) → KeepPairs old.owners new.owners → HasAdmittedEach told old → HasAdmittedEach (told ++ flushed flush number ∷ []) new
flushed_more told flush number old new keeps each pair has =
    ap (λ (l : List (Labels × Scope)). is_member pair_eq l pair) (pairs_append told (flushed flush number ∷ []))
    ∙ (list_any-append (pair_eq pair) (pairs_in told) [] ∙ (or-false (is_member pair_eq (pairs_in told) pair) ∙ each pair (keeps pair has)))

pub none_admitted : (shelf : Shelf) → IsShelf shelf → shelf.stored ≡ 0 → HasAdmittedEach [] shelf
none_admitted shelf is empty pair has =
    let one = counted_least shelf is (pair ∷ []) (member_all (λ p. has_pair shelf.owners p ≡ true) (pair ∷ []) (has, tt)) in
    absurd (omega (arith, one, empty))
