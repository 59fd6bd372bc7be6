-- A new change under its journal, and one place that changes.
use Rattle.std.proofs.Common.{◌≡◌, ◌≢◌, ℕ, zero, suc, ◌+◌, ◌-◌, ◌≤◌, Bool, false, Option, List, [], ◌∷◌, ◌++◌, length, take, drop, map, refl, sym, ap, subst, ◌∙◌, arith, length-append, append_assoc}
use Rattle.std.proofs.lemmas.List.{take-append-drop}
use Rattle.std.specs.Prelude.{slice_set, if◌then◌else◌}
use Rattle.dns_name.specs.ListLaws.{all-append, all-drop, all-take, all_weaker}
use Rattle.change_law.specs.declared.kept.KeptChange.{KeptChange}
use Rattle.change_law.specs.declared.kept.Standing.{Standing}
use Rattle.change_law.specs.declared.kept.Standing.TheVariants.{Done, Undone, Cleared}
use Rattle.change_law.specs.Choice.{IsChoice, IsPresent, cleared, is_done, turned}
use Rattle.change_law.specs.Face.{Face}
use Rattle.change_law.specs.Row.{kept_as, IsNext, IsRowAfter, IsTurned, any, same_face}
use Rattle.undo_journal.specs.Journal.{AreChanges, Changes, IsChange, IsForgotten, in_effect, newest, out_of_effect, settled_by, tickets_of, told_of}
use Rattle.undo_journal.specs.Needs.{IsNeededAfter, needs_of, undo_needs}
use Rattle.undo_journal.proofs.RingLaws.{IsAt, map_append, map_length}
use Rattle.undo_journal.proofs.RowLaws.{all_in_effect, choice_as, choice_front, choice_with_gone, choice_with_old, choice_with_undone, in_effect_done, present_append, present_out, row_then}

-- ---- a new change

drop_push : {X : Type 0} (n : ℕ) (xs : List X) (x : X) → n ≤ length xs → drop n (xs ++ x ∷ []) ≡ drop n xs ++ x ∷ []
drop_push zero xs x within = refl
drop_push (suc n) [] x within = absurd (omega arith)
drop_push (suc n) (a ∷ xs) x within = drop_push n xs x (omega arith)

drop_map : {X Y : Type 0} (f : X → Y) (n : ℕ) (xs : List X) → drop n (map f xs) ≡ map f (drop n xs)
drop_map f zero xs = refl
drop_map f (suc n) [] = refl
drop_map f (suc n) (x ∷ xs) = drop_map f n xs

module _ {S : Type 0} (table : S → Option ℕ) (before : Changes S) (are : AreChanges table before) (saved : S) where
  abbrev left : List (KeptChange S)
  left = in_effect before.kept

  abbrev excess : ℕ
  excess = length left + 1 - before.limit

  abbrev new : KeptChange S
  new = kept_as Done (before.tickets + 1) saved

  -- the newest of these, with the image of the new one
  newest_image : {Y : Type 0} (f : KeptChange S → Y) → map f (drop excess left ++ new ∷ []) ≡ newest before.limit (map f left ++ f new ∷ [])
  newest_image {Y} f =
      let long : length (map f left ++ f new ∷ []) ≡ length left + 1 = omega (arith, length-append (map f left) (f new ∷ []), map_length f left) in
      let few : excess ≤ length (map f left) = omega (arith, are.room, map_length f left) in
      let same : excess ≡ length (map f left ++ f new ∷ []) - before.limit = omega (arith, long) in
      map_append f (drop excess left) (new ∷ [])
      ∙ ap (λ (l : List Y). l ++ f new ∷ []) (sym (drop_map f excess left))
      ∙ sym (drop_push excess (map f left) (f new) few)
      ∙ ap (λ (n : ℕ). drop n (map f left ++ f new ∷ [])) same

  pub applied_change : (after : Changes S) → after ≡ record { kept = drop excess left ++ new ∷ []; undone = []; tickets = before.tickets + 1; limit = before.limit } → IsChange before (before.tickets + 1) after
  unfolding newest_image
  applied_change after is =
      let present = all-append (λ k. k.standing ≡ Done) (drop excess left) (new ∷ []) (all-drop (λ k. k.standing ≡ Done) excess left (in_effect_done before.kept)) (refl, tt) in
      rw is (record {
        next = refl;
        tickets = refl;
        limit = refl;
        done = ap (λ (l : List (KeptChange S)). tickets_of l) (all_in_effect (drop excess left ++ new ∷ []) present) ∙ newest_image (λ k. k.ticket);
        present = present;
        undone = refl;
      })

  pub applied_row : {W T : Type 0} (keeps : W → List (KeptChange S) → Type 0) (face : W → List (KeptChange S) → (ℕ → Bool) → Face T)
      (made : (ℕ → Bool) → Face T → Face T) (w0 w1 w2 w3 : W) →
      IsRowAfter table keeps face made any w0 before.kept w1 (cleared before.kept ++ new ∷ []) →
      IsRowAfter table keeps face same_face (IsPresent (out_of_effect before.kept)) w1 (cleared before.kept ++ new ∷ []) w2 (left ++ new ∷ []) →
      IsRowAfter table keeps face same_face (IsPresent (take excess left)) w2 (left ++ new ∷ []) w3 (drop excess left ++ new ∷ []) →
      IsRowAfter table keeps face made (IsPresent (settled_by before)) w0 before.kept w3 (drop excess left ++ new ∷ [])
  applied_row {W} {T} keeps face made w0 w1 w2 w3 row0 row1 row2 =
      let gone = out_of_effect before.kept in
      let old = take excess left in
      let first = row_then table keeps face made any (IsPresent gone) (IsPresent gone) w0 w1 w2 before.kept (cleared before.kept ++ new ∷ []) (left ++ new ∷ []) row0 row1
      (λ chosen p. tt) (λ chosen p. p)
      (λ chosen p choice. choice_with_gone table chosen before.kept (new ∷ []) (present_out table chosen before.kept p) choice) in
      let again : old ++ (drop excess left ++ new ∷ []) ≡ left ++ new ∷ []
      = sym (append_assoc old (drop excess left) (new ∷ [])) ∙ ap (λ (l : List (KeptChange S)). l ++ new ∷ []) (take-append-drop excess left) in
      row_then table keeps face made (IsPresent gone) (IsPresent old) (IsPresent (settled_by before)) w0 w2 w3 before.kept (left ++ new ∷ []) (drop excess left ++ new ∷ []) first row2
      (λ chosen p. (present_append chosen old gone p).1) (λ chosen p. (present_append chosen old gone p).0)
      (λ chosen p choice. subst (λ (l : List (KeptChange S)). IsChoice table l chosen) again
      (choice_with_old table chosen old (drop excess left ++ new ∷ []) (all-take _ excess left (in_effect_done before.kept)) (present_append chosen old gone p).0 choice))

  abbrev shrunk : Changes S
  shrunk = record { kept = left; undone = []; tickets = before.tickets; limit = before.limit }

  pub forgotten_kept : (c f : Changes S) → c ≡ shrunk → IsForgotten c f → f.kept ≡ drop excess left
  forgotten_kept c f e is = is.kept ∙ ap (λ (x : Changes S). drop (length x.kept + 1 - x.limit) x.kept) e

  pub applied_changes : (c f k : Changes S) → c ≡ shrunk → IsForgotten c f →
      k ≡ record { kept = f.kept ++ new ∷ []; undone = []; tickets = before.tickets + 1; limit = f.limit } → IsChange before (before.tickets + 1) k
  applied_changes c f k e is g =
      let rest = forgotten_kept c f e is in
      let limit : f.limit ≡ before.limit = is.limit ∙ ap (λ (x : Changes S). x.limit) e in
      applied_change k (g ∙ (λ i. record { kept = rest i ++ new ∷ []; undone = []; tickets = before.tickets + 1; limit = limit i }))

  pub applied_whole : {W T : Type 0} (keeps : W → List (KeptChange S) → Type 0) (face : W → List (KeptChange S) → (ℕ → Bool) → Face T)
      (made : (ℕ → Bool) → Face T → Face T) (w0 w1 w2 w3 : W) (c f : Changes S) → c ≡ shrunk → IsForgotten c f →
      IsRowAfter table keeps face made any w0 before.kept w1 (cleared before.kept ++ new ∷ []) →
      ((tail : List (KeptChange S)) → keeps w1 (cleared before.kept ++ tail) → IsRowAfter table keeps face same_face (IsPresent (out_of_effect before.kept)) w1 (cleared before.kept ++ tail) w2 (c.kept ++ tail)) →
      ((tail : List (KeptChange S)) → keeps w2 (c.kept ++ tail) → IsRowAfter table keeps face same_face (IsPresent (take (length c.kept + 1 - c.limit) c.kept)) w2 (c.kept ++ tail) w3 (f.kept ++ tail)) →
      IsRowAfter table keeps face made (IsPresent (settled_by before)) w0 before.kept w3 (f.kept ++ new ∷ [])
  applied_whole {W} {T} keeps face made w0 w1 w2 w3 c f e is row0 clear forget =
      let rest = forgotten_kept c f e is in
      let row1 = clear (new ∷ []) row0.keeps_left in
      let row2 = forget (new ∷ []) row1.keeps_left in
      let row1' = subst (λ (x : Changes S). IsRowAfter table keeps face same_face (IsPresent (out_of_effect before.kept)) w1 (cleared before.kept ++ new ∷ []) w2 (x.kept ++ new ∷ [])) e row1 in
      let row2' = subst (λ (x : Changes S). IsRowAfter table keeps face same_face (IsPresent (take (length x.kept + 1 - x.limit) x.kept)) w2 (x.kept ++ new ∷ []) w3 (f.kept ++ new ∷ [])) e row2 in
      let row2'' = subst (λ (l : List (KeptChange S)). IsRowAfter table keeps face same_face (IsPresent (take excess left)) w2 (left ++ new ∷ []) w3 (l ++ new ∷ [])) rest row2' in
      subst (λ (l : List (KeptChange S)). IsRowAfter table keeps face made (IsPresent (settled_by before)) w0 before.kept w3 (l ++ new ∷ [])) (sym rest)
      (applied_row keeps face made w0 w1 w2 w3 row0 row1' row2'')

  applied_image : {Y : Type 0} (image : KeptChange S → Y) (c f k : Changes S) → c ≡ shrunk → IsForgotten c f → k.kept ≡ f.kept ++ new ∷ [] →
      map image k.kept ≡ newest before.limit (map image left ++ image new ∷ [])
  applied_image image c f k e is g = ap (map image) (g ∙ ap (λ (l : List (KeptChange S)). l ++ new ∷ []) (forgotten_kept c f e is)) ∙ newest_image image

  -- the undo of the new one, and of the others
  pub applied_needs : (next after : S → Bool) (removed : Bool) → (removed ≡ false → next saved ≡ false) → (c f k : Changes S) → c ≡ shrunk → IsForgotten c f → k.kept ≡ f.kept ++ new ∷ [] →
      IsNeededAfter next after before (before.tickets + 1) removed k
  applied_needs next after removed free c f k e is g = record {
    need = next saved;
    free = free;
    all = applied_image (λ x. (x.ticket, undo_needs next after x)) c f k e is g;
  }

  pub applied_told : {D : Type 0} (told : S → D) (d : D) → told saved ≡ d → (c f k : Changes S) → c ≡ shrunk → IsForgotten c f → k.kept ≡ f.kept ++ new ∷ [] →
      told_of told k.kept ≡ newest before.limit (told_of told left ++ (before.tickets + 1, d) ∷ [])
  applied_told {D} told d same c f k e is g =
      applied_image (λ x. (x.ticket, told x.saved)) c f k e is g
      ∙ ap (λ (x : D). newest before.limit (told_of told left ++ (before.tickets + 1, x) ∷ [])) same

  pub is_next : IsNext (before.tickets + 1) before.kept
  is_next = all_weaker _ _ (λ k h. omega (arith, h)) before.kept are.given

  -- a choice of what is left is one of what was kept
  pub applied_choices : (c f k : Changes S) → c ≡ shrunk → IsForgotten c f → k.kept ≡ f.kept ++ new ∷ [] →
      (chosen : ℕ → Bool) → IsPresent (settled_by before) chosen → IsChoice table k.kept chosen → IsChoice table before.kept chosen
  applied_choices c f k e is g chosen p choice =
      let old = take excess left in
      let both = present_append chosen old (out_of_effect before.kept) p in
      let there : k.kept ≡ drop excess left ++ new ∷ [] = g ∙ ap (λ (l : List (KeptChange S)). l ++ new ∷ []) (forgotten_kept c f e is) in
      let rest = choice_front table chosen (drop excess left) (new ∷ []) (subst (λ (l : List (KeptChange S)). IsChoice table l chosen) there choice) in
      let all_done = choice_with_old table chosen old (drop excess left) (all-take _ excess left (in_effect_done before.kept)) both.0 rest in
      let done = subst (λ (l : List (KeptChange S)). IsChoice table l chosen) (take-append-drop excess left) all_done in
      choice_with_undone table chosen before.kept are.closed (present_out table chosen before.kept both.1) done

-- ---- one place

-- what was at a place and what is there now are of one ticket and one table
pub choices_at : {S : Type 0} (table : S → Option ℕ) (kept : List (KeptChange S)) (n : ℕ) (k k' : KeptChange S) (at : IsAt kept n k) → k'.ticket ≡ k.ticket → table k'.saved ≡ table k.saved →
    k.standing ≢ Cleared → k'.standing ≢ Cleared → (chosen : ℕ → Bool) → IsChoice table (slice_set kept n k') chosen → IsChoice table kept chosen
choices_at {S} table kept n k k' at t e n0 n1 chosen h =
    subst (λ (l : List (KeptChange S)). IsChoice table l chosen) (sym at.all)
    (choice_as table chosen at.earlier k k' at.later t e n0 n1 (subst (λ (l : List (KeptChange S)). IsChoice table l chosen) (at.written k') h))

image_at : {S Y : Type 0} (image : KeptChange S → Y) (kept : List (KeptChange S)) (n : ℕ) (k k' : KeptChange S) (at : IsAt kept n k) → image k' ≡ image k → map image (slice_set kept n k') ≡ map image kept
image_at {S} {Y} image kept n k k' at e =
    ap (map image) (at.written k')
    ∙ map_append image at.earlier (k' ∷ at.later)
    ∙ ap (λ (y : Y). map image at.earlier ++ y ∷ map image at.later) e
    ∙ sym (map_append image at.earlier (k ∷ at.later))
    ∙ sym (ap (map image) at.all)

pub told_at : {S D : Type 0} (told : S → D) (kept : List (KeptChange S)) (n : ℕ) (k k' : KeptChange S) (at : IsAt kept n k) → k'.ticket ≡ k.ticket → told k'.saved ≡ told k.saved →
    told_of told (slice_set kept n k') ≡ told_of told kept
told_at told kept n k k' at t e = image_at (λ x. (x.ticket, told x.saved)) kept n k k' at (λ i. (t i, e i))

-- the undo of one that is turned
pub needs_at : {S : Type 0} (next after : S → Bool) (kept : List (KeptChange S)) (n : ℕ) (k : KeptChange S) (saved : S) (at : IsAt kept n k) (from : Standing) → from ≢ Cleared → k.standing ≡ from →
    IsTurned next after k.saved saved → needs_of next after (slice_set kept n (kept_as (turned from) k.ticket saved)) ≡ needs_of next after kept
needs_at next after kept n k saved at from live stands is =
    image_at (λ x. (x.ticket, undo_needs next after x)) kept n k (kept_as (turned from) k.ticket saved) at
    (ap (λ (b : Bool). (k.ticket, b)) (by from live ∙ sym (ap (λ (s : Standing). if is_done s then next k.saved else after k.saved) stands)))
  where
    by : (s : Standing) → s ≢ Cleared → (if is_done (turned s) then next saved else after saved) ≡ (if is_done s then next k.saved else after k.saved)
    by Done live = is.1
    by Undone live = is.0
    by Cleared live = absurd (live refl)
