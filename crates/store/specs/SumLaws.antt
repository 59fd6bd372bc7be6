-- The row of two worlds as one, by the rows of both: lemmas.
use Rattle.std.proofs.Common.{◌≡◌, ◌≢◌, ◌<◌, ℕ, Bool, true, false, Option, Some, None, List, [], ◌∷◌, ◌++◌, refl, sym, ap, subst, ◌∙◌}
use Rattle.std.specs.Prelude.{if◌then◌else◌}
use Rattle.std.specs.List.{AllByRecursion}
use Rattle.std.proofs.lemmas.List.{append-nil}
use Rattle.dns_name.specs.Labels.{Labels}
use Rattle.dns_text.specs.declared.record.Question.{Question}
use Rattle.ranked.specs.declared.find.Find.{Find}
use Rattle.change_law.specs.declared.kept.KeptChange.{KeptChange}
use Rattle.change_law.specs.declared.kept.Standing.{Standing}
use Rattle.change_law.specs.declared.kept.Standing.TheVariants.{Done, Undone, Cleared}
use Rattle.change_law.specs.Choice.{IsOneTable, AllowsAt, IsChoice, IsClear, IsPresent, cleared, passed}
use Rattle.change_law.specs.Effect.{effect}
use Rattle.change_law.specs.Face.{Face, IsSame, IsSameAt, face_with, face_without}
use Rattle.change_law.specs.Row.{IsRowAfter, IsRowFrom, IsNext, IsTurnable, CanTurn, any, same_face, where_chosen, kept_as, with_change}
use Rattle.table_changes.specs.Part.{with_part, part}
use Rattle.table_changes.specs.PartLaws.{part_append, part_cleared, part_at, part_past, part_all, part_present}
use Rattle.store.specs.Sum.{joined, KeepsParts, face_of_parts}

-- ---- a part, whose changes are of the tables that it says

module _ {S P : Type 0} (mine : S → Option P) (table : S → Option ℕ) (own : P → Option ℕ)
    (agrees : (s : S) (p : P) → mine s ≡ Some p → table s ≡ own p) where
  one_table : (a b : S) (p q : P) → mine a ≡ Some p → mine b ≡ Some q → IsOneTable (own p) (own q) → IsOneTable (table a) (table b)
  one_table a b p q e f one =
      subst (λ (x : Option ℕ). IsOneTable x (table b)) (sym (agrees a p e)) (subst (λ (y : Option ℕ). IsOneTable (own p) y) (sym (agrees b q f)) one)

  pub clear_part : (from : Standing) (saved : S) (p : P) (earlier later : List (KeptChange S)) → mine saved ≡ Some p → IsClear table from saved (passed from earlier later) →
      IsClear own from p (passed from (part mine earlier) (part mine later))
  clear_part from saved p earlier later e h = by from h
    where
      aside : (s : Standing) (others : List (KeptChange S)) → IsClear table s saved others → IsClear own s p (part mine others)
      aside s others c =
          part_all mine (λ k. IsOneTable (table saved) (table k.saved) → k.standing ≢ s) (λ k. IsOneTable (own p) (own k.saved) → k.standing ≢ s)
          (λ k q f g one. g (one_table saved k.saved p q e f one)) others c

      by : (s : Standing) → IsClear table s saved (passed s earlier later) → IsClear own s p (passed s (part mine earlier) (part mine later))
      by Done c = aside Done later c
      by Undone c = aside Undone earlier c
      by Cleared c = aside Cleared earlier c

  pub choice_part : (kept : List (KeptChange S)) (chosen : ℕ → Bool) → IsChoice table kept chosen → IsChoice own (part mine kept) chosen
  choice_part [] chosen h = tt
  choice_part (k ∷ kept) chosen h = by (mine k.saved) refl (choice_part kept chosen h.1)
    where
      left_out : (p : P) → mine k.saved ≡ Some p → AllByRecursion (λ e. IsOneTable (table k.saved) (table e.saved) → chosen e.ticket ≡ false) kept →
          AllByRecursion (λ e. IsOneTable (own p) (own e.saved) → chosen e.ticket ≡ false) (part mine kept)
      left_out p e all =
          part_all mine (λ e. IsOneTable (table k.saved) (table e.saved) → chosen e.ticket ≡ false) (λ e. IsOneTable (own p) (own e.saved) → chosen e.ticket ≡ false)
          (λ later q f g one. g (one_table k.saved later.saved p q e f one)) kept all

      allows : (s : Standing) (p : P) → mine k.saved ≡ Some p → AllowsAt table chosen s k kept → AllowsAt own chosen s (kept_as k.standing k.ticket p) (part mine kept)
      allows Cleared p e a = a
      allows Done p e a = λ out. left_out p e (a out)
      allows Undone p e a = λ out. left_out p e (a out)

      by : (p : Option P) → mine k.saved ≡ p → IsChoice own (part mine kept) chosen → IsChoice own (with_part k.ticket k.standing p (part mine kept)) chosen
      by None e more = more
      by (Some p) e more = (allows k.standing p e h.0, more)

  pub next_part : (ticket : ℕ) (kept : List (KeptChange S)) → IsNext ticket kept → IsNext ticket (part mine kept)
  next_part ticket kept h = part_all mine (λ k. k.ticket < ticket) (λ k. k.ticket < ticket) (λ k p e less. less) kept h

  pub turnable_part : {X W : Type 0} (all : X → List (KeptChange S) → Type 0) (keeps : W → List (KeptChange P) → Type 0) (whole : X) (world : W)
      → ((kept : List (KeptChange S)) → all whole kept → keeps world (part mine kept)) → (from : Standing) (earlier : List (KeptChange S)) (ticket : ℕ) (saved : S) (later : List (KeptChange S)) (p : P) → mine saved ≡ Some p
      → IsTurnable table all from whole earlier ticket saved later → IsTurnable own keeps from world (part mine earlier) ticket p (part mine later)
  turnable_part all keeps whole world keeps_part from earlier ticket saved later p e at = record {
    live = at.live;
    kept = subst (λ (l : List (KeptChange P)). keeps world l) (part_at mine earlier from ticket saved later p e) (keeps_part _ at.kept);
    clear = clear_part from saved p earlier later e at.clear;
  }

  -- what can be turned in the whole can be turned in its part
  pub part_can_turn : {X W : Type 0} (all : X → List (KeptChange S) → Type 0) (keeps : W → List (KeptChange P) → Type 0) (whole : X) (world : W)
      → ((kept : List (KeptChange S)) → all whole kept → keeps world (part mine kept)) → (from : Standing) (saved : S) (p : P) → mine saved ≡ Some p → CanTurn table all from whole saved → CanTurn own keeps from world p
  part_can_turn all keeps whole world keeps_part from saved p e r =
      (part mine r.0, (r.1.0, (part mine r.1.1.0, turnable_part all keeps whole world keeps_part from r.0 r.1.0 saved r.1.1.0 p e r.1.1.1)))

-- ---- the rows of a part, at other names of its lists

module _ {W A T : Type 0} (own : A → Option ℕ) (keeps : W → List (KeptChange A) → Type 0) (face : W → List (KeptChange A) → (ℕ → Bool) → Face T) where
  pub row_at : (made : (ℕ → Bool) → Face T → Face T) (P : (ℕ → Bool) → Type 0) (before after : W) (kept kept' left left' : List (KeptChange A)) → kept' ≡ kept → left' ≡ left →
      IsRowAfter own keeps face made P before kept after left → IsRowAfter own keeps face made P before kept' after left'
  row_at made P before after kept kept' left left' e f row =
      subst (λ (l : List (KeptChange A)). IsRowAfter own keeps face made P before l after left') (sym e)
      (subst (λ (l : List (KeptChange A)). IsRowAfter own keeps face made P before kept after l) (sym f) row)

  pub row_still : (before after : W) (kept left : List (KeptChange A)) → after ≡ before → left ≡ kept → keeps before kept → IsRowAfter own keeps face same_face any before kept after left
  row_still before after kept left e f h =
      subst (λ (w : W). IsRowAfter own keeps face same_face any before kept w left) (sym e)
      (subst (λ (l : List (KeptChange A)). IsRowAfter own keeps face same_face any before kept before l) (sym f)
      (record { keeps_left = h; faces = λ chosen p choice. record { tables = refl; cell = λ q. refl } }))

  pub row_world : (made : (ℕ → Bool) → Face T → Face T) (P : (ℕ → Bool) → Type 0) (before after after' : W) (kept left : List (KeptChange A)) → after' ≡ after →
      IsRowAfter own keeps face made P before kept after left → IsRowAfter own keeps face made P before kept after' left
  row_world made P before after after' kept left e row = subst (λ (w : W). IsRowAfter own keeps face made P before kept w left) (sym e) row

-- ---- the row of both

module _ {X W V S A B T U : Type 0} (first : X → W) (second : X → V) (mine : S → Option A) (theirs : S → Option B)
    (table : S → Option ℕ) (own : A → Option ℕ) (other : B → Option ℕ)
    (agrees : (s : S) (a : A) → mine s ≡ Some a → table s ≡ own a) (agrees' : (s : S) (b : B) → theirs s ≡ Some b → table s ≡ other b)
    (keeps : W → List (KeptChange A) → Type 0) (others : V → List (KeptChange B) → Type 0)
    (face : W → List (KeptChange A) → (ℕ → Bool) → Face T) (faces : V → List (KeptChange B) → (ℕ → Bool) → Face U) where
  abbrev Keeps : X → List (KeptChange S) → Type 0
  Keeps = KeepsParts first second mine theirs keeps others

  abbrev face_both : X → List (KeptChange S) → (ℕ → Bool) → Face T
  face_both = face_of_parts first second mine theirs face faces

  pub sum_row : (made : (ℕ → Bool) → Face T → Face T) (here : (ℕ → Bool) → Face T → Face T) (there : (ℕ → Bool) → Face U → Face U) (P Q R : (ℕ → Bool) → Type 0) →
      ((chosen : ℕ → Bool) → P chosen → Q chosen) → ((chosen : ℕ → Bool) → P chosen → R chosen) →
      ((chosen : ℕ → Bool) (f f' : Face T) (g g' : Face U) → IsSame f' (here chosen f) → IsSame g' (there chosen g) → IsSame (joined f' g') (made chosen (joined f g))) →
      (x x' : X) (kept left : List (KeptChange S)) →
      IsRowAfter own keeps face here Q (first x) (part mine kept) (first x') (part mine left) →
      IsRowAfter other others faces there R (second x) (part theirs kept) (second x') (part theirs left) →
      IsRowAfter table Keeps face_both made P x kept x' left
  sum_row made here there P Q R for_first for_second join x x' kept left row row' = record {
    keeps_left = (row.keeps_left, row'.keeps_left);
    faces = λ chosen p choice.
        join chosen (face (first x) (part mine kept) chosen) (face (first x') (part mine left) chosen)
        (faces (second x) (part theirs kept) chosen) (faces (second x') (part theirs left) chosen)
        (row.faces chosen (for_first chosen p) (choice_part mine table own agrees left chosen choice))
        (row'.faces chosen (for_second chosen p) (choice_part theirs table other agrees' left chosen choice));
  }

  same_joined : (f f' : Face T) (g g' : Face U) → IsSame f' f → IsSame g' g → IsSame (joined f' g') (joined f g)
  same_joined f f' g g' a b = record { tables = a.tables; cell = b.cell }

  pub sum_same : (P Q R : (ℕ → Bool) → Type 0) → ((chosen : ℕ → Bool) → P chosen → Q chosen) → ((chosen : ℕ → Bool) → P chosen → R chosen) →
      (x x' : X) (kept left : List (KeptChange S)) →
      IsRowAfter own keeps face same_face Q (first x) (part mine kept) (first x') (part mine left) →
      IsRowAfter other others faces same_face R (second x) (part theirs kept) (second x') (part theirs left) →
      IsRowAfter table Keeps face_both same_face P x kept x' left
  sum_same P Q R for_first for_second x x' kept left row row' =
      sum_row same_face same_face same_face P Q R for_first for_second (λ chosen f f' g g' a b. same_joined f f' g g' a b) x x' kept left row row'

  -- ---- what is undone is cleared

  pub sum_clears : ((world : W) (kept : List (KeptChange A)) → keeps world kept → IsRowAfter own keeps face same_face any world kept world (cleared kept)) →
      ((world : V) (kept : List (KeptChange B)) → others world kept → IsRowAfter other others faces same_face any world kept world (cleared kept)) →
      (x : X) (kept : List (KeptChange S)) → Keeps x kept → IsRowAfter table Keeps face_both same_face any x kept x (cleared kept)
  sum_clears clears clears' x kept h =
      sum_same any any any (λ chosen p. tt) (λ chosen p. tt) x x kept (cleared kept)
      (row_at own keeps face same_face any (first x) (first x) (part mine kept) (part mine kept) (cleared (part mine kept)) (part mine (cleared kept)) refl (part_cleared mine kept) (clears (first x) (part mine kept) h.0))
      (row_at other others faces same_face any (second x) (second x) (part theirs kept) (part theirs kept) (cleared (part theirs kept)) (part theirs (cleared kept)) refl (part_cleared theirs kept) (clears' (second x) (part theirs kept) h.1))

  -- ---- a change more

  with_mine : (kept : List (KeptChange S)) (ticket : ℕ) (saved : S) (a : A) → mine saved ≡ Some a → part mine (with_change kept ticket saved) ≡ with_change (part mine kept) ticket a
  with_mine kept ticket saved a e = part_at mine (cleared kept) Done ticket saved [] a e ∙ ap (λ (l : List (KeptChange A)). l ++ kept_as Done ticket a ∷ []) (part_cleared mine kept)

  without_mine : (kept : List (KeptChange S)) (ticket : ℕ) (saved : S) → mine saved ≡ None → part mine (with_change kept ticket saved) ≡ cleared (part mine kept)
  without_mine kept ticket saved e = part_past mine (cleared kept) Done ticket saved [] e ∙ append-nil (part mine (cleared kept)) ∙ part_cleared mine kept

  with_theirs : (kept : List (KeptChange S)) (ticket : ℕ) (saved : S) (b : B) → theirs saved ≡ Some b → part theirs (with_change kept ticket saved) ≡ with_change (part theirs kept) ticket b
  with_theirs kept ticket saved b e = part_at theirs (cleared kept) Done ticket saved [] b e ∙ ap (λ (l : List (KeptChange B)). l ++ kept_as Done ticket b ∷ []) (part_cleared theirs kept)

  without_theirs : (kept : List (KeptChange S)) (ticket : ℕ) (saved : S) → theirs saved ≡ None → part theirs (with_change kept ticket saved) ≡ cleared (part theirs kept)
  without_theirs kept ticket saved e = part_past theirs (cleared kept) Done ticket saved [] e ∙ append-nil (part theirs (cleared kept)) ∙ part_cleared theirs kept

  first_effect : (after : T → T) (none empties : Question → Bool) → ((q : Question) → empties q ≡ false) →
      (b : Bool) (f f' : Face T) (g g' : Face U) → IsSame f' (if b then effect after none f else f) → IsSame g' g → IsSame (joined f' g') (if b then effect after empties (joined f g) else joined f g)
  first_effect after none empties keeps_all true f f' g g' here there = record {
    tables = here.tables;
    cell = λ q. there.cell q ∙ ap (λ (c : Bool). if c then None else g.cell q) (sym (keeps_all q));
  }
  first_effect after none empties keeps_all false f f' g g' here there = record { tables = here.tables; cell = there.cell }

  second_effect : (none : U → U) (after : T → T) (empties : Question → Bool) → ((t : T) → after t ≡ t) →
      (b : Bool) (f f' : Face T) (g g' : Face U) → IsSame f' f → IsSame g' (if b then effect none empties g else g) → IsSame (joined f' g') (if b then effect after empties (joined f g) else joined f g)
  second_effect none after empties stays true f f' g g' here there = record { tables = here.tables ∙ sym (stays f.tables); cell = there.cell }
  second_effect none after empties stays false f f' g g' here there = record { tables = here.tables; cell = there.cell }

  -- A change of the first part empties no cell.
  pub first_made : ((world : V) (kept : List (KeptChange B)) → others world kept → IsRowAfter other others faces same_face any world kept world (cleared kept)) →
      (after : T → T) (none empties : Question → Bool) → ((q : Question) → empties q ≡ false) →
      (x x' : X) (kept : List (KeptChange S)) (ticket : ℕ) (saved : S) (a : A) → mine saved ≡ Some a → theirs saved ≡ None → second x' ≡ second x → Keeps x kept →
      IsRowAfter own keeps face (where_chosen ticket (effect after none)) any (first x) (part mine kept) (first x') (with_change (part mine kept) ticket a) →
      IsRowAfter table Keeps face_both (where_chosen ticket (effect after empties)) any x kept x' (with_change kept ticket saved)
  first_made clears after none empties keeps_all x x' kept ticket saved a e apart stays h row =
      sum_row (where_chosen ticket (effect after empties)) (where_chosen ticket (effect after none)) same_face any any any (λ chosen p. tt) (λ chosen p. tt)
      (λ chosen f f' g g' here there. first_effect after none empties keeps_all (chosen ticket) f f' g g' here there)
      x x' kept (with_change kept ticket saved)
      (row_at own keeps face (where_chosen ticket (effect after none)) any (first x) (first x') (part mine kept) (part mine kept) (with_change (part mine kept) ticket a) (part mine (with_change kept ticket saved)) refl (with_mine kept ticket saved a e) row)
      (row_world other others faces same_face any (second x) (second x) (second x') (part theirs kept) (part theirs (with_change kept ticket saved)) stays
      (row_at other others faces same_face any (second x) (second x) (part theirs kept) (part theirs kept) (cleared (part theirs kept)) (part theirs (with_change kept ticket saved)) refl (without_theirs kept ticket saved apart)
      (clears (second x) (part theirs kept) h.1)))

  -- A change of the second part leaves the tables.
  pub second_made : ((world : W) (kept : List (KeptChange A)) → keeps world kept → IsRowAfter own keeps face same_face any world kept world (cleared kept)) →
      (none : U → U) (after : T → T) (empties : Question → Bool) → ((t : T) → after t ≡ t) →
      (x x' : X) (kept : List (KeptChange S)) (ticket : ℕ) (saved : S) (b : B) → theirs saved ≡ Some b → mine saved ≡ None → first x' ≡ first x → Keeps x kept →
      IsRowAfter other others faces (where_chosen ticket (effect none empties)) any (second x) (part theirs kept) (second x') (with_change (part theirs kept) ticket b) →
      IsRowAfter table Keeps face_both (where_chosen ticket (effect after empties)) any x kept x' (with_change kept ticket saved)
  second_made clears none after empties same x x' kept ticket saved b e apart stays h row =
      sum_row (where_chosen ticket (effect after empties)) same_face (where_chosen ticket (effect none empties)) any any any (λ chosen p. tt) (λ chosen p. tt)
      (λ chosen f f' g g' here there. second_effect none after empties same (chosen ticket) f f' g g' here there)
      x x' kept (with_change kept ticket saved)
      (row_world own keeps face same_face any (first x) (first x) (first x') (part mine kept) (part mine (with_change kept ticket saved)) stays
      (row_at own keeps face same_face any (first x) (first x) (part mine kept) (part mine kept) (cleared (part mine kept)) (part mine (with_change kept ticket saved)) refl (without_mine kept ticket saved apart)
      (clears (first x) (part mine kept) h.0)))
      (row_at other others faces (where_chosen ticket (effect none empties)) any (second x) (second x') (part theirs kept) (part theirs kept) (with_change (part theirs kept) ticket b) (part theirs (with_change kept ticket saved)) refl (with_theirs kept ticket saved b e) row)

  -- ---- a change that is undone or redone

  pub first_moved : (x x' : X) (earlier : List (KeptChange S)) (standing standing' : Standing) (ticket : ℕ) (saved saved' : S) (later : List (KeptChange S)) (a a' : A) →
      mine saved ≡ Some a → mine saved' ≡ Some a' → theirs saved ≡ None → theirs saved' ≡ None → second x' ≡ second x → Keeps x (earlier ++ kept_as standing ticket saved ∷ later) →
      IsRowAfter own keeps face same_face any (first x) (part mine earlier ++ kept_as standing ticket a ∷ part mine later) (first x') (part mine earlier ++ kept_as standing' ticket a' ∷ part mine later) →
      IsRowAfter table Keeps face_both same_face any x (earlier ++ kept_as standing ticket saved ∷ later) x' (earlier ++ kept_as standing' ticket saved' ∷ later)
  first_moved x x' earlier standing standing' ticket saved saved' later a a' e e' apart apart' stays h row =
      sum_same any any any (λ chosen p. tt) (λ chosen p. tt) x x' (earlier ++ kept_as standing ticket saved ∷ later) (earlier ++ kept_as standing' ticket saved' ∷ later)
      (row_at own keeps face same_face any (first x) (first x')
      (part mine earlier ++ kept_as standing ticket a ∷ part mine later) (part mine (earlier ++ kept_as standing ticket saved ∷ later))
      (part mine earlier ++ kept_as standing' ticket a' ∷ part mine later) (part mine (earlier ++ kept_as standing' ticket saved' ∷ later))
      (part_at mine earlier standing ticket saved later a e) (part_at mine earlier standing' ticket saved' later a' e') row)
      (row_still other others faces (second x) (second x') (part theirs (earlier ++ kept_as standing ticket saved ∷ later)) (part theirs (earlier ++ kept_as standing' ticket saved' ∷ later)) stays
      (part_past theirs earlier standing' ticket saved' later apart' ∙ sym (part_past theirs earlier standing ticket saved later apart)) h.1)

  pub second_moved : (x x' : X) (earlier : List (KeptChange S)) (standing standing' : Standing) (ticket : ℕ) (saved saved' : S) (later : List (KeptChange S)) (b b' : B) →
      theirs saved ≡ Some b → theirs saved' ≡ Some b' → mine saved ≡ None → mine saved' ≡ None → first x' ≡ first x → Keeps x (earlier ++ kept_as standing ticket saved ∷ later) →
      IsRowAfter other others faces same_face any (second x) (part theirs earlier ++ kept_as standing ticket b ∷ part theirs later) (second x') (part theirs earlier ++ kept_as standing' ticket b' ∷ part theirs later) →
      IsRowAfter table Keeps face_both same_face any x (earlier ++ kept_as standing ticket saved ∷ later) x' (earlier ++ kept_as standing' ticket saved' ∷ later)
  second_moved x x' earlier standing standing' ticket saved saved' later b b' e e' apart apart' stays h row =
      sum_same any any any (λ chosen p. tt) (λ chosen p. tt) x x' (earlier ++ kept_as standing ticket saved ∷ later) (earlier ++ kept_as standing' ticket saved' ∷ later)
      (row_still own keeps face (first x) (first x') (part mine (earlier ++ kept_as standing ticket saved ∷ later)) (part mine (earlier ++ kept_as standing' ticket saved' ∷ later)) stays
      (part_past mine earlier standing' ticket saved' later apart' ∙ sym (part_past mine earlier standing ticket saved later apart)) h.0)
      (row_at other others faces same_face any (second x) (second x')
      (part theirs earlier ++ kept_as standing ticket b ∷ part theirs later) (part theirs (earlier ++ kept_as standing ticket saved ∷ later))
      (part theirs earlier ++ kept_as standing' ticket b' ∷ part theirs later) (part theirs (earlier ++ kept_as standing' ticket saved' ∷ later))
      (part_at theirs earlier standing ticket saved later b e) (part_at theirs earlier standing' ticket saved' later b' e') row)

  -- ---- a change that is no longer kept

  pub first_gone : (P : (ℕ → Bool) → Type 0) (x x' : X) (earlier : List (KeptChange S)) (standing : Standing) (ticket : ℕ) (saved : S) (later : List (KeptChange S)) (a : A) →
      mine saved ≡ Some a → theirs saved ≡ None → second x' ≡ second x → Keeps x (earlier ++ kept_as standing ticket saved ∷ later) →
      IsRowAfter own keeps face same_face P (first x) (part mine earlier ++ kept_as standing ticket a ∷ part mine later) (first x') (part mine earlier ++ part mine later) →
      IsRowAfter table Keeps face_both same_face P x (earlier ++ kept_as standing ticket saved ∷ later) x' (earlier ++ later)
  first_gone P x x' earlier standing ticket saved later a e apart stays h row =
      sum_same P P any (λ chosen p. p) (λ chosen p. tt) x x' (earlier ++ kept_as standing ticket saved ∷ later) (earlier ++ later)
      (row_at own keeps face same_face P (first x) (first x')
      (part mine earlier ++ kept_as standing ticket a ∷ part mine later) (part mine (earlier ++ kept_as standing ticket saved ∷ later))
      (part mine earlier ++ part mine later) (part mine (earlier ++ later))
      (part_at mine earlier standing ticket saved later a e) (part_append mine earlier later) row)
      (row_still other others faces (second x) (second x') (part theirs (earlier ++ kept_as standing ticket saved ∷ later)) (part theirs (earlier ++ later)) stays
      (part_append theirs earlier later ∙ sym (part_past theirs earlier standing ticket saved later apart)) h.1)

  pub second_gone : (P : (ℕ → Bool) → Type 0) (x x' : X) (earlier : List (KeptChange S)) (standing : Standing) (ticket : ℕ) (saved : S) (later : List (KeptChange S)) (b : B) →
      theirs saved ≡ Some b → mine saved ≡ None → first x' ≡ first x → Keeps x (earlier ++ kept_as standing ticket saved ∷ later) →
      IsRowAfter other others faces same_face P (second x) (part theirs earlier ++ kept_as standing ticket b ∷ part theirs later) (second x') (part theirs earlier ++ part theirs later) →
      IsRowAfter table Keeps face_both same_face P x (earlier ++ kept_as standing ticket saved ∷ later) x' (earlier ++ later)
  second_gone P x x' earlier standing ticket saved later b e apart stays h row =
      sum_same P any P (λ chosen p. tt) (λ chosen p. p) x x' (earlier ++ kept_as standing ticket saved ∷ later) (earlier ++ later)
      (row_still own keeps face (first x) (first x') (part mine (earlier ++ kept_as standing ticket saved ∷ later)) (part mine (earlier ++ later)) stays
      (part_append mine earlier later ∙ sym (part_past mine earlier standing ticket saved later apart)) h.0)
      (row_at other others faces same_face P (second x) (second x')
      (part theirs earlier ++ kept_as standing ticket b ∷ part theirs later) (part theirs (earlier ++ kept_as standing ticket saved ∷ later))
      (part theirs earlier ++ part theirs later) (part theirs (earlier ++ later))
      (part_at theirs earlier standing ticket saved later b e) (part_append theirs earlier later) row)

  -- ---- admissions, sweeps and forgets, which are the second part's

  pub sum_from : (made : Face T → Face T) (there : Face U → Face U) (moment : ℕ) →
      ((f f' : Face T) (g g' : Face U) → f'.tables ≡ f.tables → IsSameAt moment g' (there g) → IsSameAt moment (joined f' g') (made (joined f g))) →
      (x x' : X) (kept : List (KeptChange S)) → first x' ≡ first x → Keeps x kept →
      IsRowFrom other others faces moment there (second x) (part theirs kept) (second x') →
      IsRowFrom table Keeps face_both moment made x kept x'
  sum_from made there moment join x x' kept stays h row = record {
    keeps_still = (subst (λ (w : W). keeps w (part mine kept)) (sym stays) h.0, row.keeps_still);
    faces = λ chosen choice.
        join (face (first x) (part mine kept) chosen) (face (first x') (part mine kept) chosen)
        (faces (second x) (part theirs kept) chosen) (faces (second x') (part theirs kept) chosen)
        (ap (λ (w : W). (face w (part mine kept) chosen).tables) stays)
        (row.faces chosen (choice_part theirs table other agrees' kept chosen choice));
  }

  pub sum_admitted : (find : Find) (moment : ℕ) (x x' : X) (kept : List (KeptChange S)) → first x' ≡ first x → Keeps x kept →
      IsRowFrom other others faces moment (face_with true find moment) (second x) (part theirs kept) (second x') →
      IsRowFrom table Keeps face_both moment (face_with true find moment) x kept x'
  sum_admitted find moment = sum_from (face_with true find moment) (face_with true find moment) moment (λ f f' g g' same there. record { tables = same; cell = there.cell })

  pub sum_swept : (moment : ℕ) (x x' : X) (kept : List (KeptChange S)) → first x' ≡ first x → Keeps x kept →
      IsRowFrom other others faces moment (λ f. f) (second x) (part theirs kept) (second x') →
      IsRowFrom table Keeps face_both moment (λ f. f) x kept x'
  sum_swept moment = sum_from (λ f. f) (λ f. f) moment (λ f f' g g' same there. record { tables = same; cell = there.cell })

  pub sum_forgot : (owner : Labels) (x x' : X) (kept : List (KeptChange S)) → first x' ≡ first x → Keeps x kept →
      IsRowAfter other others faces (λ chosen. face_without true owner) any (second x) (part theirs kept) (second x') (part theirs kept) →
      IsRowAfter table Keeps face_both (λ chosen. face_without true owner) any x kept x' kept
  sum_forgot owner x x' kept stays h row =
      sum_row (λ chosen. face_without true owner) same_face (λ chosen. face_without true owner) any any any (λ chosen p. tt) (λ chosen p. tt)
      (λ chosen f f' g g' here there. record { tables = here.tables; cell = there.cell })
      x x' kept kept (row_still own keeps face (first x) (first x') (part mine kept) (part mine kept) stays refl h.0) row

  -- ---- what is shown

  pub sum_shows : (shown : W → Face T) (shown' : V → Face U) →
      ((world : W) (kept : List (KeptChange A)) (chosen : ℕ → Bool) → keeps world kept → IsPresent kept chosen → IsSame (face world kept chosen) (shown world)) →
      ((world : V) (kept : List (KeptChange B)) (chosen : ℕ → Bool) → others world kept → IsPresent kept chosen → IsSame (faces world kept chosen) (shown' world)) →
      (x : X) (kept : List (KeptChange S)) (chosen : ℕ → Bool) → Keeps x kept → IsPresent kept chosen → IsSame (face_both x kept chosen) (joined (shown (first x)) (shown' (second x)))
  sum_shows shown shown' shows shows' x kept chosen h present =
      same_joined (shown (first x)) (face (first x) (part mine kept) chosen) (shown' (second x)) (faces (second x) (part theirs kept) chosen)
      (shows (first x) (part mine kept) chosen h.0 (part_present mine kept chosen present)) (shows' (second x) (part theirs kept) chosen h.1 (part_present theirs kept chosen present))
