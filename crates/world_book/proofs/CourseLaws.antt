-- The course of a world: lemmas by which a book shows that after each event its faces are those of a replay.
use Rattle.std.proofs.Common.{◌≡◌, ◌≢◌, ℕ, zero, suc, ◌+◌, ◌-◌, ◌<◌, ◌≤◌, Bool, true, false, not, eq-eqb, Option, Some, None, ◌⊎◌, inl, inr, List, [], ◌∷◌, ◌++◌, length, take, drop, map, refl, sym, ap, subst, ◌∙◌, arith, length-append}
use Rattle.std.specs.Prelude.{⊤, fold, nat_lt, ◌==◌, ◌&&◌, ◌||◌, if◌then◌else◌}
use Rattle.std.specs.List.{AllByRecursion}
use Rattle.std.proofs.lemmas.Bool.{false≢true, eqb-true}
use Rattle.dns_name.specs.Labels.{Labels}
use Rattle.dns_name.specs.Order.{name_eq}
use Rattle.dns_name.specs.ListLaws.{all-append, all-take, all-drop, all_split, all_weaker}
use Rattle.dns_text.specs.declared.record.Question.{Question}
use Rattle.ranked.specs.declared.cell.Admitted.{Admitted}
use Rattle.ranked.specs.declared.find.Find.{Find}
use Rattle.ranked.specs.Cell.{is_alive, after_admission}
use Rattle.ranked.specs.Find.{touches, admission_of}
use Rattle.ranked.specs.Rank.{level_of}
use Rattle.change_law.specs.declared.kept.KeptChange.{KeptChange}
use Rattle.change_law.specs.declared.kept.Standing.{Standing}
use Rattle.change_law.specs.declared.kept.Standing.TheVariants.{Done, Undone, Cleared}
use Rattle.change_law.specs.Choice.{IsChoice, IsOneTable, IsPresent, IsUncovered, AllowsAt, AreLeftOut, is_done}
use Rattle.change_law.specs.Effect.{effect}
use Rattle.change_law.specs.Face.{Face, IsSame, IsSameAt, alive_at, cell_with, face_with, face_without}
use Rattle.change_law.specs.Row.{IsRowAfter, IsRowFrom, any, same_face, where_chosen}
use Rattle.undo_journal.specs.Journal.{Changes, AreChanges, IsChange, IsClosed, in_effect, is_among, out_of_effect, settled_by, standings_of, standings_with, tickets_of}
use Rattle.undo_journal.specs.TicketLaws.{all_among, all_back, all_both, all_filter, all_images, all_in_effect, asc_filter, in_effect_done, map_length}
use Rattle.world_book.specs.Course.{Deed, Came, Forgot, Made, face_after, face_by, AreAscending, IsFair, Stands}

-- ---- cells where they are alive

-- Content that is alive at a later moment is alive at an earlier one.
pub alive_later : (t m : ℕ) (a : Option (Admitted Find)) → t ≤ m → alive_at m a ≡ alive_at m (alive_at t a)
alive_later t m None less = refl
alive_later t m (Some held) less = by_life (is_alive held t) refl
  where
    by_life : (b : Bool) → is_alive held t ≡ b → alive_at m (Some held) ≡ alive_at m (if b then Some held else None)
    by_life true e = refl
    by_life false e =
        let dead : is_alive held m ≡ false = grind (arith, e, less) in
        ap (λ (b : Bool). if b then Some held else None) dead

-- what an admission makes of a cell hangs on what is alive in it alone
admitted_alive : (m : ℕ) (find : Find) (held : Option (Admitted Find)) →
    alive_at m (after_admission held (admission_of find find m)) ≡ alive_at m (after_admission (alive_at m held) (admission_of find find m))
admitted_alive m find None = refl
admitted_alive m find (Some held) = by_life (is_alive held m) refl
  where
    new : Admitted Find
    new = admission_of find find m

    by_life : (b : Bool) → is_alive held m ≡ b →
        alive_at m (after_admission (Some held) (admission_of find find m)) ≡ alive_at m (after_admission (if b then Some held else None) (admission_of find find m))
    by_life true e = refl
    by_life false e =
        ap (λ (b : Bool). alive_at m (if b && nat_lt (level_of find.rank) (level_of held.rank) then Some held else Some (admission_of find find m))) e

-- Cells with the same living content have the same after an admission.
pub cell_alive : (m : ℕ) (find : Find) (q : Question) (a b : Option (Admitted Find)) → alive_at m a ≡ alive_at m b → alive_at m (cell_with find m q a) ≡ alive_at m (cell_with find m q b)
cell_alive m find q a b e = by_touch (touches find q)
  where
    by_touch : (t : Bool) → alive_at m (if t then after_admission a (admission_of find find m) else a) ≡ alive_at m (if t then after_admission b (admission_of find find m) else b)
    by_touch true = admitted_alive m find a ∙ ap (λ (x : Option (Admitted Find)). alive_at m (after_admission x (admission_of find find m))) e ∙ sym (admitted_alive m find b)
    by_touch false = e

-- ---- faces

module _ {T : Type 0} where
  pub same_at_later : (t m : ℕ) (a b : Face T) → t ≤ m → IsSameAt t a b → IsSameAt m a b
  same_at_later t m a b less h = record {
    tables = h.tables;
    cell = λ q. alive_later t m (a.cell q) less ∙ ap (alive_at m) (h.cell q) ∙ sym (alive_later t m (b.cell q) less);
  }

  pub same_at : (t : ℕ) (a b : Face T) → IsSame a b → IsSameAt t a b
  same_at t a b h = record { tables = h.tables; cell = λ q. ap (alive_at t) (h.cell q) }

  pub same_at_then : {t : ℕ} {a b c : Face T} → IsSameAt t a b → IsSameAt t b c → IsSameAt t a c
  same_at_then g h = record { tables = g.tables ∙ h.tables; cell = λ q. g.cell q ∙ h.cell q }

  pub with_alive : (has_cells : Bool) (find : Find) (m : ℕ) (a b : Face T) → IsSameAt m a b → IsSameAt m (face_with has_cells find m a) (face_with has_cells find m b)
  with_alive true find m a b h = record { tables = h.tables; cell = λ q. cell_alive m find q (a.cell q) (b.cell q) (h.cell q) }
  with_alive false find m a b h = h

  without_alive : (has_cells : Bool) (owner : Labels) (t : ℕ) (a b : Face T) → IsSameAt t a b → IsSameAt t (face_without has_cells owner a) (face_without has_cells owner b)
  without_alive has_cells owner t a b h = record { tables = h.tables; cell = λ q. either (has_cells && name_eq owner q.owner) (a.cell q) (b.cell q) (h.cell q) }
    where
      either : (e : Bool) (x y : Option (Admitted Find)) → alive_at t x ≡ alive_at t y → alive_at t (if e then None else x) ≡ alive_at t (if e then None else y)
      either true x y s = refl
      either false x y s = s

  effect_alive : (t : ℕ) (after : T → T) (empties : Question → Bool) (a b : Face T) → IsSameAt t a b → IsSameAt t (effect after empties a) (effect after empties b)
  effect_alive t after empties a b h = record { tables = ap after h.tables; cell = λ q. either (empties q) (a.cell q) (b.cell q) (h.cell q) }
    where
      either : (e : Bool) (x y : Option (Admitted Find)) → alive_at t x ≡ alive_at t y → alive_at t (if e then None else x) ≡ alive_at t (if e then None else y)
      either true x y s = refl
      either false x y s = s

  chosen_alive : (t ticket : ℕ) (after : T → T) (empties : Question → Bool) (chosen : ℕ → Bool) (a b : Face T) → IsSameAt t a b →
      IsSameAt t (where_chosen ticket (effect after empties) chosen a) (where_chosen ticket (effect after empties) chosen b)
  chosen_alive t ticket after empties chosen a b h = by_choice (chosen ticket)
    where
      by_choice : (c : Bool) → IsSameAt t (if c then effect after empties a else a) (if c then effect after empties b else b)
      by_choice true = effect_alive t after empties a b h
      by_choice false = h

-- A fold over one more item.
pub fold_push : {A B : Type 0} (f : A → B → A) (a : A) (xs : List B) (x : B) → fold f a (xs ++ x ∷ []) ≡ f (fold f a xs) x
fold_push f a [] x = refl
fold_push f a (y ∷ xs) x = fold_push f (f a y) xs x

-- ---- tickets

-- The front of an ascending list ascends.
pub asc_front : (xs ys : List ℕ) → AreAscending (xs ++ ys) → AreAscending xs
asc_front [] ys h = tt
asc_front (x ∷ xs) ys h = ((all_split (λ t. x < t) xs ys h.0).0, asc_front xs ys h.1)

-- An ascending list with a greater ticket at the end ascends.
pub asc_push : (xs : List ℕ) (t : ℕ) → AreAscending xs → AllByRecursion (λ u. u < t) xs → AreAscending (xs ++ t ∷ [])
asc_push [] t h less = (tt, tt)
asc_push (x ∷ xs) t h less = (all-append _ xs (t ∷ []) h.0 (less.0, tt), asc_push xs t h.1 less.1)

-- The rest of an ascending list ascends.
pub asc_drop : (n : ℕ) (xs : List ℕ) → AreAscending xs → AreAscending (drop n xs)
asc_drop zero xs h = h
asc_drop (suc n) [] h = tt
asc_drop (suc n) (x ∷ xs) h = asc_drop n xs h.1

-- what is after differs from what is before
pub asc_apart : (n : ℕ) (xs : List ℕ) → AreAscending xs → AllByRecursion (λ u. AllByRecursion (λ v. v ≢ u) (drop n xs)) (take n xs)
asc_apart zero xs h = tt
asc_apart (suc n) [] h = tt
asc_apart (suc n) (x ∷ xs) h = (all_weaker _ _ (λ v less e. omega (arith, less, e)) (drop n xs) (all-drop (λ v. x < v) n xs h.0), asc_apart n xs h.1)

-- In an ascending list, the first tickets are less than the later ones.
pub asc_cross : (xs ys : List ℕ) → AreAscending (xs ++ ys) → AllByRecursion (λ u. AllByRecursion (λ v. v < u) xs) ys
asc_cross [] ys h = all_weaker (λ u. ⊤) _ (λ u t. tt) ys (all_true ys)
  where
    all_true : (ys : List ℕ) → AllByRecursion (λ u. ⊤) ys
    all_true [] = tt
    all_true (y ∷ ys) = (tt, all_true ys)
asc_cross (x ∷ xs) ys h = both ys (all_split (λ t. x < t) xs ys h.0).1 (asc_cross xs ys h.1)
  where
    both : (ys : List ℕ) → AllByRecursion (λ u. x < u) ys → AllByRecursion (λ u. AllByRecursion (λ v. v < u) xs) ys → AllByRecursion (λ u. AllByRecursion (λ v. v < u) (x ∷ xs)) ys
    both [] a b = tt
    both (y ∷ ys) a b = ((a.0, b.0), both ys a.1 b.1)

-- The first images are the images of the first items.
pub take_map : {X Y : Type 0} (f : X → Y) (n : ℕ) (xs : List X) → map f (take n xs) ≡ take n (map f xs)
take_map f zero xs = refl
take_map f (suc n) [] = refl
take_map f (suc n) (x ∷ xs) = ap (λ l. f x ∷ l) (take_map f n xs)

-- The later images are the images of the later items.
pub drop_map : {X Y : Type 0} (f : X → Y) (n : ℕ) (xs : List X) → map f (drop n xs) ≡ drop n (map f xs)
drop_map f zero xs = refl
drop_map f (suc n) [] = refl
drop_map f (suc n) (x ∷ xs) = drop_map f n xs

-- The first items of the first items.
pub take_less : {X : Type 0} (m n : ℕ) (xs : List X) → m ≤ n → take m (take n xs) ≡ take m xs
take_less zero n xs less = refl
take_less (suc m) zero xs less = absurd (omega arith)
take_less (suc m) (suc n) [] less = refl
take_less (suc m) (suc n) (x ∷ xs) less = ap (λ l. x ∷ l) (take_less m n xs (omega arith))

take_within : {X : Type 0} (n : ℕ) (xs ys : List X) → n ≤ length xs → take n (xs ++ ys) ≡ take n xs
take_within zero xs ys less = refl
take_within (suc n) [] ys less = absurd (omega arith)
take_within (suc n) (x ∷ xs) ys less = ap (λ l. x ∷ l) (take_within n xs ys (omega arith))

-- The number of the first items.
pub length_taken : {X : Type 0} (n : ℕ) (xs : List X) → n ≤ length xs → length (take n xs) ≡ n
length_taken zero xs within = refl
length_taken (suc n) [] within = absurd (omega arith)
length_taken (suc n) (x ∷ xs) within = ap suc (length_taken n xs (omega arith))

-- A Boolean is true or false.
pub is_or_not : (b : Bool) → (b ≡ true) ⊎ (b ≡ false)
is_or_not true = inl refl
is_or_not false = inr refl

-- Numbers that differ are not equal by `==`.
pub differs : (u t : ℕ) → u ≢ t → (u == t) ≡ false
differs u t n = elim (is_or_not (u == t)) [ inl e ↦ absurd (n (eqb-true u t e)) | inr e ↦ e ]

-- A change of one ticket leaves the others as they are.
pub other_struck : (struck : ℕ → Bool) (b : Bool) (t u : ℕ) → u ≢ t → (if u == t then b else struck u) ≡ struck u
other_struck struck b t u n = ap (λ (c : Bool). if c then b else struck u) (differs u t n)

-- The ticket that changes has its new value.
pub this_struck : (struck : ℕ → Bool) (b : Bool) (t : ℕ) → (if t == t then b else struck t) ≡ b
this_struck struck b t = ap (λ (c : Bool). if c then b else struck t) (eq-eqb t t refl)

-- A change that is not in effect has no standing of one that is.
not_done : (s : Standing) → s ≢ Done → is_done s ≡ false
not_done Done n = absurd (n refl)
not_done Undone n = refl
not_done Cleared n = refl

abbrev is_cleared : Standing → Bool
is_cleared Cleared = true
is_cleared s = false

-- ---- the kept changes

module _ {S : Type 0} where
  -- No change in effect has the ticket of another.
  parts_apart : (kept : List (KeptChange S)) → AreAscending (tickets_of kept) → AllByRecursion (λ k. AllByRecursion (λ v. v ≢ k.ticket) (tickets_of (in_effect kept))) (out_of_effect kept)
  parts_apart [] h = tt
  parts_apart (k ∷ kept) h =
      let more = parts_apart kept h.1 in
      let above : AllByRecursion (λ x. k.ticket < x.ticket) kept = all_back (λ (x : KeptChange S). x.ticket) (λ t. k.ticket < t) kept h.0 in
      elim (is_or_not (is_done k.standing)) [
        | inl yes' ↦
            rw yes' (all_both (λ x. k.ticket < x.ticket) (λ x. AllByRecursion (λ v. v ≢ x.ticket) (tickets_of (in_effect kept))) _ (λ x less out. (λ e. omega (arith, less, e), out)) (out_of_effect kept)
            (all_filter (λ x. k.ticket < x.ticket) (λ x. not (is_done x.standing)) kept above) more)
        | inr no' ↦
            rw no' (
              all_images (λ (x : KeptChange S). x.ticket) (λ v. v ≢ k.ticket) (in_effect kept)
                  (all_weaker _ _ (λ x less e. omega (arith, less, e)) (in_effect kept) (all_filter (λ x. k.ticket < x.ticket) (λ x. is_done x.standing) kept above)),
              more,
            )
      ]

  pub firsts : (kept : List (KeptChange S)) → map (λ (one : ℕ × Standing). one.0) (standings_of kept) ≡ tickets_of kept
  firsts [] = refl
  firsts (k ∷ kept) = ap (λ (l : List ℕ). k.ticket ∷ l) (firsts kept)

  -- what is in effect is kept
  pub done_known : (kept : List (KeptChange S)) (t : ℕ) → is_among (tickets_of (in_effect kept)) t ≡ true → is_among (tickets_of kept) t ≡ true
  done_known [] t e = e
  done_known (k ∷ kept) t e = by (is_done k.standing) (done_known kept t) e
    where
      or_more : (x y z : Bool) → (y ≡ true → z ≡ true) → (x || y) ≡ true → (x || z) ≡ true
      or_more true y z f h = refl
      or_more false y z f h = f h

      or_after : (x z : Bool) → z ≡ true → (x || z) ≡ true
      or_after true z h = refl
      or_after false z h = h

      by : (b : Bool) → (is_among (tickets_of (in_effect kept)) t ≡ true → is_among (tickets_of kept) t ≡ true) →
          is_among (tickets_of (if b then k ∷ in_effect kept else in_effect kept)) t ≡ true → is_among (tickets_of (k ∷ kept)) t ≡ true
      by true more e = or_more (k.ticket == t) (is_among (tickets_of (in_effect kept)) t) (is_among (tickets_of kept) t) more e
      by false more e = or_after (k.ticket == t) (is_among (tickets_of kept) t) (more e)

pub firsts_with : (t : ℕ) (s : Standing) (standings : List (ℕ × Standing)) → map (λ (one : ℕ × Standing). one.0) (standings_with t s standings) ≡ map (λ (one : ℕ × Standing). one.0) standings
firsts_with t s [] = refl
firsts_with t s (one ∷ standings) = ap (λ (l : List ℕ). one.0 ∷ l) (firsts_with t s standings)

-- ---- the course goes on

module _ {W S T : Type 0} (has_cells : Bool) (table : S → Option ℕ) (keeps : W → List (KeptChange S) → Type 0) (face : W → List (KeptChange S) → (ℕ → Bool) → Face T) (start : Face T) where
  pub stands_admitted : (w w' : W) (changes : Changes S) (now moment : ℕ) (deeds : List (Deed T)) (struck : ℕ → Bool) (find : Find) → now ≤ moment →
      IsRowFrom table keeps face moment (face_with has_cells find moment) w changes.kept w' →
      Stands has_cells table keeps face start w changes now deeds struck → Stands has_cells table keeps face start w' changes moment (deeds ++ Came find moment ∷ []) struck
  stands_admitted w w' changes now moment deeds struck find less row st = record {
    kept = row.keeps_still;
    ascending = st.ascending;
    given = st.given;
    marked = st.marked;
    later = st.later;
    faces = λ chosen choice fair.
        let old = same_at_later now moment (face w changes.kept chosen) (face_by has_cells chosen start deeds) less (st.faces chosen choice fair) in
        let new = with_alive has_cells find moment (face w changes.kept chosen) (face_by has_cells chosen start deeds) old in
        subst (λ (f : Face T). IsSameAt moment (face w' changes.kept chosen) f) (sym (fold_push (face_after has_cells chosen) start deeds (Came find moment)))
        (same_at_then (row.faces chosen choice) new);
  }

  pub stands_swept : (w w' : W) (changes : Changes S) (now moment : ℕ) (deeds : List (Deed T)) (struck : ℕ → Bool) → now ≤ moment →
      IsRowFrom table keeps face moment (λ f. f) w changes.kept w' →
      Stands has_cells table keeps face start w changes now deeds struck → Stands has_cells table keeps face start w' changes moment deeds struck
  stands_swept w w' changes now moment deeds struck less row st = record {
    kept = row.keeps_still;
    ascending = st.ascending;
    given = st.given;
    marked = st.marked;
    later = st.later;
    faces = λ chosen choice fair.
        same_at_then (row.faces chosen choice) (same_at_later now moment (face w changes.kept chosen) (face_by has_cells chosen start deeds) less (st.faces chosen choice fair));
  }

  pub stands_forgot : (w w' : W) (changes : Changes S) (now moment : ℕ) (deeds : List (Deed T)) (struck : ℕ → Bool) (owner : Labels) → now ≤ moment →
      IsRowAfter table keeps face (λ chosen. face_without has_cells owner) any w changes.kept w' changes.kept →
      Stands has_cells table keeps face start w changes now deeds struck → Stands has_cells table keeps face start w' changes moment (deeds ++ Forgot owner ∷ []) struck
  stands_forgot w w' changes now moment deeds struck owner less row st = record {
    kept = row.keeps_left;
    ascending = st.ascending;
    given = st.given;
    marked = st.marked;
    later = st.later;
    faces = λ chosen choice fair.
        let old = same_at_later now moment (face w changes.kept chosen) (face_by has_cells chosen start deeds) less (st.faces chosen choice fair) in
        let new = without_alive has_cells owner moment (face w changes.kept chosen) (face_by has_cells chosen start deeds) old in
        subst (λ (f : Face T). IsSameAt moment (face w' changes.kept chosen) f) (sym (fold_push (face_after has_cells chosen) start deeds (Forgot owner)))
        (same_at_then (same_at moment (face w' changes.kept chosen) (face_without has_cells owner (face w changes.kept chosen)) (row.faces chosen tt choice)) new);
  }

  -- what is chosen of these changes, if they are not kept any more
  present_of : (chosen struck : ℕ → Bool) (changes : Changes S) → IsFair changes struck chosen → (those : List (KeptChange S)) → AllByRecursion (λ k. struck k.ticket ≡ not (is_done k.standing)) those →
      AllByRecursion (λ k. k.ticket ≤ changes.tickets) those → AllByRecursion (λ k. AllByRecursion (λ v. v ≢ k.ticket) (tickets_of changes.kept)) those → IsPresent those chosen
  present_of chosen struck changes fair [] marked given out = tt
  present_of chosen struck changes fair (k ∷ those) marked given out =
      (fair k.ticket given.0 out.0 ∙ ap not marked.0 ∙ not_not (is_done k.standing), present_of chosen struck changes fair those marked.1 given.1 out.1)
    where
      not_not : (b : Bool) → not (not b) ≡ b
      not_not true = refl
      not_not false = refl

  pub stands_made : (w w' : W) (before after : Changes S) (now : ℕ) (deeds : List (Deed T)) (struck : ℕ → Bool) (ticket : ℕ) (tables : T → T) (empties : Question → Bool) →
      AreChanges table before → IsChange before ticket after →
      IsRowAfter table keeps face (where_chosen ticket (effect tables empties)) (IsPresent (settled_by before)) w before.kept w' after.kept →
      ((chosen : ℕ → Bool) → IsPresent (settled_by before) chosen → IsChoice table after.kept chosen → IsChoice table before.kept chosen) →
      Stands has_cells table keeps face start w before now deeds struck →
      Stands has_cells table keeps face start w' after now (deeds ++ Made ticket tables empties ∷ []) struck
  unfolding present_of
  stands_made w w' before after now deeds struck ticket tables empties are is row choices st =
      let ticket_of : KeptChange S → ℕ = λ k. k.ticket in
      let left = in_effect before.kept in
      let gone = out_of_effect before.kept in
      let D = tickets_of left in
      let m = length (D ++ ticket ∷ []) - before.limit in
      let now_all : tickets_of after.kept ≡ drop m (D ++ ticket ∷ [])
      = ap (λ (l : List (KeptChange S)). tickets_of l) (sym (all_in_effect after.kept is.present)) ∙ is.done in
      let marked : AllByRecursion (λ k. struck k.ticket ≡ not (is_done k.standing)) before.kept = all_back (λ (k : KeptChange S). (k.ticket, k.standing)) (λ one. struck one.0 ≡ not (is_done one.1)) before.kept st.marked in
      let below : AllByRecursion (λ k. k.ticket < ticket) before.kept = all_weaker (λ k. k.ticket ≤ before.tickets) (λ k. k.ticket < ticket) (λ k h. omega (arith, h, is.next)) before.kept are.given in
      let below_left = all_filter (λ k. k.ticket < ticket) (λ k. is_done k.standing) before.kept below in
      let asc_left : AreAscending D = asc_filter (λ k. is_done k.standing) before.kept are.ascending in
      let asc_all : AreAscending (D ++ ticket ∷ []) = asc_push D ticket asc_left (all_images ticket_of (λ t. t < ticket) left below_left) in
      let ticket_free : struck ticket ≡ false = st.later ticket (omega (arith, is.next)) in
      let absent : (t : ℕ) → t ≢ ticket → AllByRecursion (λ u. u ≢ t) D → AllByRecursion (λ u. u ≢ t) (tickets_of after.kept)
      = λ t apart out. subst (λ (l : List ℕ). AllByRecursion (λ u. u ≢ t) l) (sym now_all) (all-drop (λ u. u ≢ t) m (D ++ ticket ∷ []) (all-append (λ u. u ≢ t) D (ticket ∷ []) out (λ e. apart (sym e), tt))) in
      let fair_before : (chosen : ℕ → Bool) → IsFair after struck chosen → IsFair before struck chosen
      = λ chosen fair t h out.
      fair t (omega (arith, h, is.next, is.tickets))
      (absent t (λ e. omega (arith, h, e, is.next)) (all_images ticket_of (λ u. u ≢ t) left (all_filter (λ k. k.ticket ≢ t) (λ k. is_done k.standing) before.kept (all_back ticket_of (λ u. u ≢ t) before.kept out)))) in
      let settled : (chosen : ℕ → Bool) → IsFair after struck chosen → IsPresent (settled_by before) chosen
      = λ chosen fair.
      let m' = length left + 1 - before.limit in
      let long : length (D ++ ticket ∷ []) ≡ length left + 1 = omega (arith, length-append D (ticket ∷ []), map_length ticket_of left) in
      let same : m' ≡ m = omega (arith, long) in
      let few : m' ≤ length D = omega (arith, are.room, map_length ticket_of left) in
      let old = take m' left in
      let old_tickets : tickets_of old ≡ take m (D ++ ticket ∷ []) = take_map ticket_of m' left ∙ sym (take_within m' D (ticket ∷ []) few) ∙ ap (λ (n : ℕ). take n (D ++ ticket ∷ [])) same in
      let apart = subst (λ (l : List ℕ). AllByRecursion (λ u. AllByRecursion (λ v. v ≢ u) (drop m (D ++ ticket ∷ []))) l) (sym old_tickets) (asc_apart m (D ++ ticket ∷ []) asc_all) in
      let old_out : AllByRecursion (λ k. AllByRecursion (λ v. v ≢ k.ticket) (tickets_of after.kept)) old
      = all_back ticket_of (λ u. AllByRecursion (λ v. v ≢ u) (tickets_of after.kept)) old
      (all_weaker _ _ (λ u h. subst (λ (l : List ℕ). AllByRecursion (λ v. v ≢ u) l) (sym now_all) h) (tickets_of old) apart) in
      let gone_out : AllByRecursion (λ k. AllByRecursion (λ v. v ≢ k.ticket) (tickets_of after.kept)) gone
      = all_both (λ k. k.ticket < ticket) (λ k. AllByRecursion (λ v. v ≢ k.ticket) D) (λ k. AllByRecursion (λ v. v ≢ k.ticket) (tickets_of after.kept))
      (λ k less out. absent k.ticket (λ e. omega (arith, less, e)) out) gone (all_filter (λ k. k.ticket < ticket) (λ k. not (is_done k.standing)) before.kept below) (parts_apart before.kept are.ascending) in
      let known : (those : List (KeptChange S)) → AllByRecursion (λ k. k.ticket < ticket) those → AllByRecursion (λ k. k.ticket ≤ after.tickets) those
      = λ those h. all_weaker (λ k. k.ticket < ticket) (λ k. k.ticket ≤ after.tickets) (λ k less. omega (arith, less, is.tickets)) those h in
      all-append (λ k. chosen k.ticket ≡ is_done k.standing) old gone
      (present_of chosen struck after fair old (all-take _ m' left (all_filter _ (λ k. is_done k.standing) before.kept marked)) (known old (all-take _ m' left below_left)) old_out)
      (present_of chosen struck after fair gone (all_filter _ (λ k. not (is_done k.standing)) before.kept marked) (known gone (all_filter _ (λ k. not (is_done k.standing)) before.kept below)) gone_out) in
      let free_left : AllByRecursion (λ t. struck t ≡ false) D
      = all_images ticket_of (λ t. struck t ≡ false) left (all_both (λ k. struck k.ticket ≡ not (is_done k.standing)) (λ k. k.standing ≡ Done) (λ k. struck k.ticket ≡ false) (λ k x y. x ∙ ap (λ (s : Standing). not (is_done s)) y) left
      (all_filter _ (λ k. is_done k.standing) before.kept marked) (in_effect_done before.kept)) in
      let free : AllByRecursion (λ t. struck t ≡ false) (tickets_of after.kept)
      = subst (λ (l : List ℕ). AllByRecursion (λ t. struck t ≡ false) l) (sym now_all) (all-drop (λ t. struck t ≡ false) m (D ++ ticket ∷ []) (all-append (λ t. struck t ≡ false) D (ticket ∷ []) free_left (ticket_free, tt))) in
      record {
        kept = row.keeps_left;
        ascending = subst AreAscending (sym now_all) (asc_drop m (D ++ ticket ∷ []) asc_all);
        given = subst (λ (l : List ℕ). AllByRecursion (λ t. t ≤ after.tickets) l) (sym now_all)
            (all-drop (λ t. t ≤ after.tickets) m (D ++ ticket ∷ []) (all-append (λ t. t ≤ after.tickets) D (ticket ∷ []) (all_images ticket_of (λ t. t ≤ after.tickets) left (all_weaker _ _ (λ k h. omega (arith, h, is.tickets)) left below_left)) (omega (arith, is.tickets), tt)));
        marked = all_images (λ (k : KeptChange S). (k.ticket, k.standing)) (λ one. struck one.0 ≡ not (is_done one.1)) after.kept
            (all_both (λ k. struck k.ticket ≡ false) (λ k. k.standing ≡ Done) _ (λ k x y. x ∙ sym (ap (λ (s : Standing). not (is_done s)) y)) after.kept (all_back ticket_of (λ t. struck t ≡ false) after.kept free) is.present);
        later = λ t h. st.later t (omega (arith, h, is.next, is.tickets));
        faces = λ chosen choice fair.
            let p = settled chosen fair in
            let old = st.faces chosen (choices chosen p choice) (fair_before chosen fair) in
            let new = chosen_alive now ticket tables empties chosen (face w before.kept chosen) (face_by has_cells chosen start deeds) old in
            subst (λ (f : Face T). IsSameAt now (face w' after.kept chosen) f) (sym (fold_push (face_after has_cells chosen) start deeds (Made ticket tables empties)))
            (same_at_then (same_at now (face w' after.kept chosen) (where_chosen ticket (effect tables empties) chosen (face w before.kept chosen)) (row.faces chosen p choice)) new);
      }

  -- a kept change is undone, or in effect again
  pub stands_turned : (w w' : W) (before after : Changes S) (now : ℕ) (deeds : List (Deed T)) (struck : ℕ → Bool) (t : ℕ) (s : Standing) →
      is_among (tickets_of before.kept) t ≡ true → standings_of after.kept ≡ standings_with t s (standings_of before.kept) → after.tickets ≡ before.tickets →
      IsRowAfter table keeps face same_face any w before.kept w' after.kept →
      ((chosen : ℕ → Bool) → IsChoice table after.kept chosen → IsChoice table before.kept chosen) →
      Stands has_cells table keeps face start w before now deeds struck →
      Stands has_cells table keeps face start w' after now deeds (λ u. if u == t then not (is_done s) else struck u)
  stands_turned w w' before after now deeds struck t s there standings tickets row choices st =
      let same : tickets_of after.kept ≡ tickets_of before.kept = sym (firsts after.kept) ∙ ap (map (λ (one : ℕ × Standing). one.0)) standings ∙ firsts_with t s (standings_of before.kept) ∙ firsts before.kept in
      let given : t ≤ before.tickets = all_among (λ u. u ≤ before.tickets) (tickets_of before.kept) t st.given there in
      record {
        kept = row.keeps_left;
        ascending = subst AreAscending (sym same) st.ascending;
        given = subst (λ (l : List ℕ). AllByRecursion (λ u. u ≤ after.tickets) l) (sym same) (all_weaker _ _ (λ u h. omega (arith, h, tickets)) (tickets_of before.kept) st.given);
        marked = subst (λ (l : List (ℕ × Standing)). AllByRecursion (λ one. (if one.0 == t then not (is_done s) else struck one.0) ≡ not (is_done one.1)) l) (sym standings) (marked_with (standings_of before.kept) st.marked);
        later = λ u h. other_struck struck (not (is_done s)) t u (λ f. omega (arith, h, f, given, tickets)) ∙ st.later u (omega (arith, h, tickets));
        faces = λ chosen choice fair.
            let fair_before : IsFair before struck chosen
            = λ u h absent.
            let n : t ≢ u = all_among (λ v. v ≢ u) (tickets_of before.kept) t absent there in
            fair u (omega (arith, h, tickets)) (subst (λ (l : List ℕ). AllByRecursion (λ v. v ≢ u) l) (sym same) absent) ∙ ap not (other_struck struck (not (is_done s)) t u (λ f. n (sym f))) in
            same_at_then (same_at now (face w' after.kept chosen) (face w before.kept chosen) (row.faces chosen tt choice)) (st.faces chosen (choices chosen choice) fair_before);
      }
    where
      marked_with : (standings : List (ℕ × Standing)) → AllByRecursion (λ one. struck one.0 ≡ not (is_done one.1)) standings →
          AllByRecursion (λ one. (if one.0 == t then not (is_done s) else struck one.0) ≡ not (is_done one.1)) (standings_with t s standings)
      marked_with [] h = tt
      marked_with (one ∷ standings) h = (by (one.0 == t), marked_with standings h.1)
        where
          by : (b : Bool) → (if b then not (is_done s) else struck one.0) ≡ not (is_done (if b then s else one.1))
          by true = refl
          by false = h.0

  pub stands_still : (w w' : W) (before after : Changes S) (now : ℕ) (deeds : List (Deed T)) (struck : ℕ → Bool) →
      after ≡ before → IsRowAfter table keeps face same_face any w before.kept w' after.kept →
      Stands has_cells table keeps face start w before now deeds struck → Stands has_cells table keeps face start w' after now deeds struck
  stands_still w w' before after now deeds struck same row st =
      let row' = subst (λ (x : Changes S). IsRowAfter table keeps face same_face any w before.kept w' x.kept) same row in
      subst (λ (x : Changes S). Stands has_cells table keeps face start w' x now deeds struck) (sym same) (record {
        kept = row'.keeps_left;
        ascending = st.ascending;
        given = st.given;
        marked = st.marked;
        later = st.later;
        faces = λ chosen choice fair. same_at_then (same_at now (face w' before.kept chosen) (face w before.kept chosen) (row'.faces chosen tt choice)) (st.faces chosen choice fair);
      })

  -- what the world shows is what a replay gives, with what is struck left out
  pub stands_shown : (shown : W → Face T) → ((w : W) (kept : List (KeptChange S)) (chosen : ℕ → Bool) → keeps w kept → IsPresent kept chosen → IsSame (face w kept chosen) (shown w)) →
      (w : W) (changes : Changes S) (now : ℕ) (deeds : List (Deed T)) (struck : ℕ → Bool) → AreChanges table changes →
      Stands has_cells table keeps face start w changes now deeds struck → IsSameAt now (shown w) (face_by has_cells (λ t. not (struck t)) start deeds)
  stands_shown shown shows w changes now deeds struck are st =
      let stand : ℕ → Bool = λ t. not (struck t) in
      let present : IsPresent changes.kept stand
      = all_weaker _ _ (λ k e. ap not e ∙ not_not (is_done k.standing)) changes.kept (all_back (λ (k : KeptChange S). (k.ticket, k.standing)) (λ one. struck one.0 ≡ not (is_done one.1)) changes.kept st.marked) in
      let choice : IsChoice table changes.kept stand = present_choice stand changes.kept are.closed present (all_weaker _ _ (λ k e. never_cleared k.standing (is_among changes.undone k.ticket) e) changes.kept are.standings) in
      same_at_then (same_at now (shown w) (face w changes.kept stand) (record { tables = sym (shows w changes.kept stand st.kept present).tables; cell = λ q. sym ((shows w changes.kept stand st.kept present).cell q) }))
      (st.faces stand choice (λ t h absent. refl))
    where
      not_not : (b : Bool) → not (not b) ≡ b
      not_not true = refl
      not_not false = refl

      never_cleared : (s : Standing) (b : Bool) → s ≡ (if b then Undone else Done) → s ≢ Cleared
      never_cleared s true e c = false≢true (ap is_cleared (sym e ∙ c))
      never_cleared s false e c = false≢true (ap is_cleared (sym e ∙ c))

      present_choice : (chosen : ℕ → Bool) (kept : List (KeptChange S)) → IsClosed table kept → IsPresent kept chosen → AllByRecursion (λ k. k.standing ≢ Cleared) kept → IsChoice table kept chosen
      present_choice chosen [] closed p n = tt
      present_choice chosen (k ∷ kept) closed p n = (by k.standing refl, present_choice chosen kept closed.1 p.1 n.1)
        where
          out : (those : List (KeptChange S)) → IsUncovered table k.saved those → IsPresent those chosen → AreLeftOut table chosen k.saved those
          out those u q = all_both (λ j. IsOneTable (table k.saved) (table j.saved) → j.standing ≢ Done) (λ j. chosen j.ticket ≡ is_done j.standing) _ (λ j f e same. e ∙ not_done j.standing (f same)) those u q

          by : (s : Standing) → k.standing ≡ s → AllowsAt table chosen k.standing k kept
          by Done e = subst (λ (s : Standing). AllowsAt table chosen s k kept) (sym e) (λ left. absurd (false≢true (sym left ∙ (p.0 ∙ ap is_done e))))
          by Undone e = subst (λ (s : Standing). AllowsAt table chosen s k kept) (sym e) (λ left. out kept (closed.0 e) p.1)
          by Cleared e = absurd (n.0 e)
