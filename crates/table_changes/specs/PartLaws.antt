-- The laws of the changes of one table among those that are kept: lemmas.
use Rattle.std.proofs.Common.{◌≡◌, ◌≢◌, ℕ, Bool, false, Option, Some, None, List, [], ◌∷◌, ◌++◌, refl, sym, ap, subst, ◌∙◌}
use Rattle.std.specs.List.{AllByRecursion}
use Rattle.change_law.specs.declared.kept.KeptChange.{KeptChange}
use Rattle.change_law.specs.declared.kept.Standing.{Standing}
use Rattle.change_law.specs.declared.kept.Standing.TheVariants.{Done, Undone, Cleared}
use Rattle.change_law.specs.Choice.{IsOneTable, AllowsAt, IsChoice, IsClear, IsPresent, is_done, clear, cleared, passed}
use Rattle.change_law.specs.Row.{kept_as}
use Rattle.table_changes.specs.Part.{with_part, part}

module _ {S P : Type 0} (mine : S → Option P) where
  pub part_append : (xs ys : List (KeptChange S)) → part mine (xs ++ ys) ≡ part mine xs ++ part mine ys
  part_append [] ys = refl
  part_append (k ∷ xs) ys = by (mine k.saved) (part_append xs ys)
    where
      by : (p : Option P) → part mine (xs ++ ys) ≡ part mine xs ++ part mine ys → with_part k.ticket k.standing p (part mine (xs ++ ys)) ≡ with_part k.ticket k.standing p (part mine xs) ++ part mine ys
      by None h = h
      by (Some p) h = ap (λ (x : List (KeptChange P)). kept_as k.standing k.ticket p ∷ x) h

  pub part_cleared : (kept : List (KeptChange S)) → part mine (cleared kept) ≡ cleared (part mine kept)
  part_cleared [] = refl
  part_cleared (k ∷ kept) = by (mine k.saved) (part_cleared kept)
    where
      by : (p : Option P) → part mine (cleared kept) ≡ cleared (part mine kept) → with_part k.ticket (clear k.standing) p (part mine (cleared kept)) ≡ cleared (with_part k.ticket k.standing p (part mine kept))
      by None h = h
      by (Some p) h = ap (λ (x : List (KeptChange P)). kept_as (clear k.standing) k.ticket p ∷ x) h

  -- at a change of the table, and at one of another
  pub part_at : (earlier : List (KeptChange S)) (standing : Standing) (ticket : ℕ) (saved : S) (later : List (KeptChange S)) (p : P) → mine saved ≡ Some p →
      part mine (earlier ++ kept_as standing ticket saved ∷ later) ≡ part mine earlier ++ kept_as standing ticket p ∷ part mine later
  part_at earlier standing ticket saved later p e =
      part_append earlier (kept_as standing ticket saved ∷ later) ∙ ap (λ (x : Option P). part mine earlier ++ with_part ticket standing x (part mine later)) e

  pub part_past : (earlier : List (KeptChange S)) (standing : Standing) (ticket : ℕ) (saved : S) (later : List (KeptChange S)) → mine saved ≡ None →
      part mine (earlier ++ kept_as standing ticket saved ∷ later) ≡ part mine earlier ++ part mine later
  part_past earlier standing ticket saved later e =
      part_append earlier (kept_as standing ticket saved ∷ later) ∙ ap (λ (x : Option P). part mine earlier ++ with_part ticket standing x (part mine later)) e

  -- what holds of all of the kept ones holds of the part
  pub part_all : (Q : KeptChange S → Type 0) (R : KeptChange P → Type 0) → ((k : KeptChange S) (p : P) → mine k.saved ≡ Some p → Q k → R (kept_as k.standing k.ticket p)) →
      (kept : List (KeptChange S)) → AllByRecursion Q kept → AllByRecursion R (part mine kept)
  part_all Q R gives [] h = tt
  part_all Q R gives (k ∷ kept) h = by (mine k.saved) refl (part_all Q R gives kept h.1)
    where
      by : (p : Option P) → mine k.saved ≡ p → AllByRecursion R (part mine kept) → AllByRecursion R (with_part k.ticket k.standing p (part mine kept))
      by None e more = more
      by (Some p) e more = (gives k p e h.0, more)

  pub part_present : (kept : List (KeptChange S)) (chosen : ℕ → Bool) → IsPresent kept chosen → IsPresent (part mine kept) chosen
  part_present kept chosen h = part_all (λ k. chosen k.ticket ≡ is_done k.standing) (λ k. chosen k.ticket ≡ is_done k.standing) (λ k p e q. q) kept h

  -- ---- where the changes of the table have one number

  module _ (table : S → Option ℕ) (number : ℕ) (numbered : (s : S) (p : P) → mine s ≡ Some p → table s ≡ Some number) where
    abbrev pub of_part : P → Option ℕ
    of_part p = Some number

    pub of_one : (a b : P) → IsOneTable (of_part a) (of_part b)
    of_one a b = refl

    same_table : (a b : S) (p q : P) → mine a ≡ Some p → mine b ≡ Some q → IsOneTable (table a) (table b)
    same_table a b p q e f =
        subst (λ (x : Option ℕ). IsOneTable x (table b)) (sym (numbered a p e)) (subst (λ (y : Option ℕ). IsOneTable (Some number) y) (sym (numbered b q f)) refl)

    pub part_clear : (from : Standing) (saved : S) (p : P) (earlier later : List (KeptChange S)) → mine saved ≡ Some p → IsClear table from saved (passed from earlier later) →
        IsClear of_part from p (passed from (part mine earlier) (part mine later))
    part_clear from saved p earlier later e h = by from h
      where
        aside : (s : Standing) (others : List (KeptChange S)) → IsClear table s saved others → IsClear of_part s p (part mine others)
        aside s others c =
            part_all (λ k. IsOneTable (table saved) (table k.saved) → k.standing ≢ s) (λ k. IsOneTable (of_part p) (of_part k.saved) → k.standing ≢ s) (λ k q f g one. g (same_table saved k.saved p q e f)) others c

        by : (s : Standing) → IsClear table s saved (passed s earlier later) → IsClear of_part s p (passed s (part mine earlier) (part mine later))
        by Done c = aside Done later c
        by Undone c = aside Undone earlier c
        by Cleared c = aside Cleared earlier c

    pub part_choice : (kept : List (KeptChange S)) (chosen : ℕ → Bool) → IsChoice table kept chosen → IsChoice of_part (part mine kept) chosen
    part_choice [] chosen h = tt
    part_choice (k ∷ kept) chosen h = by (mine k.saved) refl (part_choice kept chosen h.1)
      where
        left_out : (p : P) → mine k.saved ≡ Some p → AllByRecursion (λ e. IsOneTable (table k.saved) (table e.saved) → chosen e.ticket ≡ false) kept →
            AllByRecursion (λ e. IsOneTable (of_part p) (of_part e.saved) → chosen e.ticket ≡ false) (part mine kept)
        left_out p e all =
            part_all (λ e. IsOneTable (table k.saved) (table e.saved) → chosen e.ticket ≡ false) (λ e. IsOneTable (of_part p) (of_part e.saved) → chosen e.ticket ≡ false)
            (λ later q f g one. g (same_table k.saved later.saved p q e f)) kept all

        allows : (s : Standing) (p : P) → mine k.saved ≡ Some p → AllowsAt table chosen s k kept → AllowsAt of_part chosen s (kept_as k.standing k.ticket p) (part mine kept)
        allows Cleared p e a = a
        allows Done p e a = λ out. left_out p e (a out)
        allows Undone p e a = λ out. left_out p e (a out)

        by : (p : Option P) → mine k.saved ≡ p → IsChoice of_part (part mine kept) chosen → IsChoice of_part (with_part k.ticket k.standing p (part mine kept)) chosen
        by None e more = more
        by (Some p) e more = (allows k.standing p e h.0, more)
