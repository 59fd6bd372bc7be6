-- The laws of the row of one table: lemmas, which proofs here and above cite.
use Rattle.std.proofs.Common.{◌≡◌, ◌≢◌, ℕ, Bool, true, false, Option, ◌⊎◌, inl, inr, List, [], ◌∷◌, ◌++◌, refl, sym, ap, subst, ◌∙◌}
use Rattle.std.specs.List.{AllByRecursion}
use Rattle.std.proofs.lemmas.Bool.{false≢true}
use Rattle.std.proofs.lemmas.List.{append-nil}
use Rattle.dns_name.specs.ListLaws.{all-append, all_split, all_weaker}
use Rattle.change_law.specs.declared.kept.KeptChange.{KeptChange}
use Rattle.change_law.specs.declared.kept.Standing.{Standing}
use Rattle.change_law.specs.declared.kept.Standing.TheVariants.{Done, Undone, Cleared}
use Rattle.change_law.specs.Choice.{IsOneTable, AllowsAt, IsChoice, IsPresent, IsUncovered, IsFounded, is_done, clear, cleared, cleared_one, IsClear, passed, turned}
use Rattle.change_law.specs.Row.{kept_as, with_change}
use Rattle.table_changes.specs.TableRow.{back_over, again_over, taken_back, made_again, table_by, IsOrdered, nothing, LeadBack, LeadOn, KeepsRow}

abbrev is_undone : Standing → Bool
is_undone Undone = true
is_undone _ = false

abbrev is_cleared : Standing → Bool
is_cleared Cleared = true
is_cleared _ = false

Done≢Undone : Done ≢ Undone
Done≢Undone e = false≢true (ap is_undone e)

Undone≢Done : Undone ≢ Done
Undone≢Done e = false≢true (ap is_done e)

Cleared≢Done : Cleared ≢ Done
Cleared≢Done e = false≢true (ap is_done e)

Cleared≢Undone : Cleared ≢ Undone
Cleared≢Undone e = false≢true (ap is_undone e)

is_or_not : (b : Bool) → (b ≡ true) ⊎ (b ≡ false)
is_or_not true = inl refl
is_or_not false = inr refl

module _ {S V : Type 0} (other : S → V → V) where
  -- ---- one change that makes no difference

  pub back_not_done : (b : Bool) (s : Standing) (saved : S) (v : V) → s ≢ Done → back_over other b s saved v ≡ v
  back_not_done true s saved v n = refl
  back_not_done false Done saved v n = absurd (n refl)
  back_not_done false Undone saved v n = refl
  back_not_done false Cleared saved v n = refl

  pub back_chosen : (b : Bool) (s : Standing) (saved : S) (v : V) → b ≡ true → back_over other b s saved v ≡ v
  back_chosen true s saved v n = refl
  back_chosen false s saved v n = absurd (false≢true n)

  pub again_not_undone : (b : Bool) (s : Standing) (saved : S) (v : V) → s ≢ Undone → again_over other b s saved v ≡ v
  again_not_undone true Done saved v n = refl
  again_not_undone true Undone saved v n = absurd (n refl)
  again_not_undone true Cleared saved v n = refl
  again_not_undone false s saved v n = refl

  pub again_left : (b : Bool) (s : Standing) (saved : S) (v : V) → b ≡ false → again_over other b s saved v ≡ v
  again_left true s saved v n = absurd (false≢true (sym n))
  again_left false s saved v n = refl

  -- ---- many

  pub taken_same : (chosen : ℕ → Bool) (v : V) (kept : List (KeptChange S)) → AllByRecursion (λ k. (x : V) → back_over other (chosen k.ticket) k.standing k.saved x ≡ x) kept →
      taken_back other chosen v kept ≡ v
  taken_same chosen v [] h = refl
  taken_same chosen v (k ∷ kept) h = ap (back_over other (chosen k.ticket) k.standing k.saved) (taken_same chosen v kept h.1) ∙ h.0 v

  pub made_same : (chosen : ℕ → Bool) (v : V) (kept : List (KeptChange S)) → AllByRecursion (λ k. (x : V) → again_over other (chosen k.ticket) k.standing k.saved x ≡ x) kept →
      made_again other chosen v kept ≡ v
  made_same chosen v [] h = refl
  made_same chosen v (k ∷ kept) h = ap (λ (x : V). made_again other chosen x kept) (h.0 v) ∙ made_same chosen v kept h.1

  pub taken_append : (chosen : ℕ → Bool) (v : V) (xs ys : List (KeptChange S)) → taken_back other chosen v (xs ++ ys) ≡ taken_back other chosen (taken_back other chosen v ys) xs
  taken_append chosen v [] ys = refl
  taken_append chosen v (x ∷ xs) ys = ap (back_over other (chosen x.ticket) x.standing x.saved) (taken_append chosen v xs ys)

  pub made_append : (chosen : ℕ → Bool) (v : V) (xs ys : List (KeptChange S)) → made_again other chosen v (xs ++ ys) ≡ made_again other chosen (made_again other chosen v xs) ys
  made_append chosen v [] ys = refl
  made_append chosen v (x ∷ xs) ys = made_append chosen (again_over other (chosen x.ticket) x.standing x.saved v) xs ys

  pub taken_no_done : (chosen : ℕ → Bool) (v : V) (kept : List (KeptChange S)) → AllByRecursion (λ k. k.standing ≢ Done) kept → taken_back other chosen v kept ≡ v
  taken_no_done chosen v kept h = taken_same chosen v kept (all_weaker _ _ (λ k n x. back_not_done (chosen k.ticket) k.standing k.saved x n) kept h)

  pub made_no_undone : (chosen : ℕ → Bool) (v : V) (kept : List (KeptChange S)) → AllByRecursion (λ k. k.standing ≢ Undone) kept → made_again other chosen v kept ≡ v
  made_no_undone chosen v kept h = made_same chosen v kept (all_weaker _ _ (λ k n x. again_not_undone (chosen k.ticket) k.standing k.saved x n) kept h)

  pub cleared_no_undone : (kept : List (KeptChange S)) → AllByRecursion (λ k. k.standing ≢ Undone) (cleared kept)
  cleared_no_undone [] = tt
  cleared_no_undone (k ∷ kept) = (never k.standing, cleared_no_undone kept)
    where
      never : (s : Standing) → clear s ≢ Undone
      never Done e = Done≢Undone e
      never Undone e = Cleared≢Undone e
      never Cleared e = Cleared≢Undone e

  pub back_cleared : (b : Bool) (s : Standing) (saved : S) (v : V) → back_over other b (clear s) saved v ≡ back_over other b s saved v
  back_cleared true s saved v = refl
  back_cleared false Done saved v = refl
  back_cleared false Undone saved v = refl
  back_cleared false Cleared saved v = refl

  pub taken_cleared : (chosen : ℕ → Bool) (v : V) (kept : List (KeptChange S)) → taken_back other chosen v (cleared kept) ≡ taken_back other chosen v kept
  taken_cleared chosen v [] = refl
  taken_cleared chosen v (k ∷ kept) =
      back_cleared (chosen k.ticket) k.standing k.saved (taken_back other chosen v (cleared kept)) ∙ ap (back_over other (chosen k.ticket) k.standing k.saved) (taken_cleared chosen v kept)

-- ---- choices of one table

module _ {S : Type 0} (table : S → Option ℕ) (one : (a b : S) → IsOneTable (table a) (table b)) (chosen : ℕ → Bool) where
  -- with one, all before it that are not cleared
  pub chosen_at : (s : Standing) (k : KeptChange S) (later : List (KeptChange S)) → AllowsAt table chosen s k later → (one_later : AllByRecursion (λ e. chosen e.ticket ≡ false) later → ⊥) → s ≢ Cleared → chosen k.ticket ≡ true
  chosen_at Cleared k later h none n = absurd (n refl)
  chosen_at Done k later h none n =
      elim (is_or_not (chosen k.ticket)) [ inl it ↦ it | inr out ↦ absurd (none (all_weaker _ _ (λ e f. f (one k.saved e.saved)) later (h out))) ]
  chosen_at Undone k later h none n =
      elim (is_or_not (chosen k.ticket)) [ inl it ↦ it | inr out ↦ absurd (none (all_weaker _ _ (λ e f. f (one k.saved e.saved)) later (h out))) ]

  pub chosen_before : (earlier : List (KeptChange S)) (k : KeptChange S) (later : List (KeptChange S)) → IsChoice table (earlier ++ k ∷ later) chosen → chosen k.ticket ≡ true →
      AllByRecursion (λ e. e.standing ≢ Cleared → chosen e.ticket ≡ true) earlier
  chosen_before [] k later h it = tt
  chosen_before (e ∷ earlier) k later h it = (
    λ n. chosen_at e.standing e (earlier ++ k ∷ later) h.0 (λ all. false≢true (sym (all_split (λ x. chosen x.ticket ≡ false) earlier (k ∷ later) all).1.0 ∙ it)) n,
    chosen_before earlier k later h.1 it,
  )

-- ---- the laws

module _ {S V : Type 0} (other : S → V → V) (table : S → Option ℕ) (one : (a b : S) → IsOneTable (table a) (table b)) where
  abbrev Leaves : (ℕ → Bool) → List (KeptChange S) → Type 0
  Leaves chosen kept = AllByRecursion (λ k. k.standing ≡ Undone → chosen k.ticket ≡ false) kept

  made_left : (chosen : ℕ → Bool) (v : V) (kept : List (KeptChange S)) → Leaves chosen kept → made_again other chosen v kept ≡ v
  made_left chosen v kept h = made_same other chosen v kept (all_weaker _ _ (λ k f x. one_left k.standing k f x) kept h)
    where
      one_left : (s : Standing) (k : KeptChange S) → (s ≡ Undone → chosen k.ticket ≡ false) → (x : V) → again_over other (chosen k.ticket) s k.saved x ≡ x
      one_left Undone k f x = again_left other (chosen k.ticket) Undone k.saved x (f refl)
      one_left Done k f x = again_not_undone other (chosen k.ticket) Done k.saved x Done≢Undone
      one_left Cleared k f x = again_not_undone other (chosen k.ticket) Cleared k.saved x Cleared≢Undone

  taken_chosen : (chosen : ℕ → Bool) (v : V) (kept : List (KeptChange S)) → AllByRecursion (λ k. k.standing ≢ Cleared → chosen k.ticket ≡ true) kept → taken_back other chosen v kept ≡ v
  taken_chosen chosen v kept h = taken_same other chosen v kept (all_weaker _ _ (λ k f x. one_chosen k.standing k f x) kept h)
    where
      one_chosen : (s : Standing) (k : KeptChange S) → (s ≢ Cleared → chosen k.ticket ≡ true) → (x : V) → back_over other (chosen k.ticket) s k.saved x ≡ x
      one_chosen Undone k f x = back_not_done other (chosen k.ticket) Undone k.saved x Undone≢Done
      one_chosen Done k f x = back_chosen other (chosen k.ticket) Done k.saved x (f (λ e. Cleared≢Done (sym e)))
      one_chosen Cleared k f x = back_not_done other (chosen k.ticket) Cleared k.saved x Cleared≢Done

  -- what is undone is not chosen where it is cleared
  left_cleared : (chosen : ℕ → Bool) (kept tail : List (KeptChange S)) → IsChoice table (cleared kept ++ tail) chosen → Leaves chosen kept
  left_cleared chosen [] tail h = tt
  left_cleared chosen (k ∷ kept) tail h = (one_out k.standing h.0, left_cleared chosen kept tail h.1)
    where
      one_out : (s : Standing) → AllowsAt table chosen (clear s) (cleared_one k) (cleared kept ++ tail) → s ≡ Undone → chosen k.ticket ≡ false
      one_out Undone a e = a
      one_out Done a e = absurd (Done≢Undone e)
      one_out Cleared a e = absurd (Cleared≢Undone e)

  chosen_cleared : (chosen : ℕ → Bool) (kept : List (KeptChange S)) → AllByRecursion (λ k. k.standing ≢ Cleared → chosen k.ticket ≡ true) (cleared kept) →
      AllByRecursion (λ k. k.standing ≡ Done → chosen k.ticket ≡ true) kept
  chosen_cleared chosen [] h = tt
  chosen_cleared chosen (k ∷ kept) h = (λ e. h.0 (λ f. Cleared≢Done (sym f ∙ ap clear e)), chosen_cleared chosen kept h.1)

  taken_done : (chosen : ℕ → Bool) (v : V) (kept : List (KeptChange S)) → AllByRecursion (λ k. k.standing ≡ Done → chosen k.ticket ≡ true) kept → taken_back other chosen v kept ≡ v
  taken_done chosen v kept h = taken_same other chosen v kept (all_weaker _ _ (λ k f x. one_done k.standing k f x) kept h)
    where
      one_done : (s : Standing) (k : KeptChange S) → (s ≡ Done → chosen k.ticket ≡ true) → (x : V) → back_over other (chosen k.ticket) s k.saved x ≡ x
      one_done Undone k f x = back_not_done other (chosen k.ticket) Undone k.saved x Undone≢Done
      one_done Done k f x = back_chosen other (chosen k.ticket) Done k.saved x (f refl)
      one_done Cleared k f x = back_not_done other (chosen k.ticket) Cleared k.saved x Cleared≢Done

  -- after one more
  pub table_with : (chosen : ℕ → Bool) (v v' : V) (kept : List (KeptChange S)) (ticket : ℕ) (saved : S) → other saved v' ≡ v → IsChoice table (with_change kept ticket saved) chosen →
      (chosen ticket ≡ false → table_by other v' (with_change kept ticket saved) chosen ≡ table_by other v kept chosen)
      × (chosen ticket ≡ true → (table_by other v' (with_change kept ticket saved) chosen ≡ v') × (table_by other v kept chosen ≡ v))
  unfolding made_left left_cleared chosen_cleared taken_done
  table_with chosen v v' kept ticket saved leads choice =
      let new = kept_as Done ticket saved in
      let all = cleared kept ++ new ∷ [] in
      let no_undone : AllByRecursion (λ k. k.standing ≢ Undone) all = all-append _ (cleared kept) (new ∷ []) (cleared_no_undone other kept) (Done≢Undone, tt) in
      let whole : table_by other v' all chosen ≡ taken_back other chosen (back_over other (chosen ticket) Done saved v') kept
      = made_no_undone other chosen (taken_back other chosen v' all) all no_undone ∙ taken_append other chosen v' (cleared kept) (new ∷ [])
      ∙ taken_cleared other chosen (back_over other (chosen ticket) Done saved v') kept in
      let old : table_by other v kept chosen ≡ taken_back other chosen v kept = made_left chosen (taken_back other chosen v kept) kept (left_cleared chosen kept (new ∷ []) choice) in
      let done : chosen ticket ≡ true → AllByRecursion (λ k. k.standing ≡ Done → chosen k.ticket ≡ true) kept
      = λ it. chosen_cleared chosen kept (chosen_before table one chosen (cleared kept) new [] choice it) in (
        λ out. whole ∙ ap (λ (b : Bool). taken_back other chosen (back_over other b Done saved v') kept) out ∙ ap (λ (x : V). taken_back other chosen x kept) leads ∙ sym old,
        λ it. (
          whole ∙ ap (λ (b : Bool). taken_back other chosen (back_over other b Done saved v') kept) it ∙ taken_done chosen v' kept (done it),
          old ∙ taken_done chosen v kept (done it),
        ),
      )

-- ---- what leads where

module _ {S V : Type 0} (other : S → V → V) (Leads : S → V → V → Type 0) where
  ordered_no_undone : (kept : List (KeptChange S)) → AllByRecursion (λ k. k.standing ≢ Undone) kept → IsOrdered kept
  ordered_no_undone [] h = tt
  ordered_no_undone (k ∷ kept) h = (λ u. absurd (h.0 u), ordered_no_undone kept h.1)

  on_no_undone : (v : V) (kept : List (KeptChange S)) → AllByRecursion (λ k. k.standing ≢ Undone) kept → LeadOn other Leads v kept
  on_no_undone v [] h = tt
  on_no_undone v (k ∷ kept) h = (λ u. absurd (h.0 u), on_no_undone (again_over other true k.standing k.saved v) kept h.1)

  back_no_done : (v : V) (kept : List (KeptChange S)) → AllByRecursion (λ k. k.standing ≢ Done) kept → LeadBack other Leads v kept
  back_no_done v [] h = tt
  back_no_done v (k ∷ kept) h = (λ d. absurd (h.0 d), back_no_done v kept h.1)

  -- the part after a place
  lead_at : (v : V) (earlier : List (KeptChange S)) (k : KeptChange S) (later : List (KeptChange S)) → LeadBack other Leads v (earlier ++ k ∷ later) → LeadBack other Leads v (k ∷ later)
  lead_at v [] k later h = h
  lead_at v (e ∷ earlier) k later h = lead_at v earlier k later h.1

  on_past : (v : V) (earlier rest : List (KeptChange S)) → AllByRecursion (λ k. k.standing ≢ Undone) earlier → LeadOn other Leads v (earlier ++ rest) → LeadOn other Leads v rest
  on_past v [] rest n h = h
  on_past v (e ∷ earlier) rest n h =
      on_past v earlier rest n.1 (subst (λ (x : V). LeadOn other Leads x (earlier ++ rest)) (again_not_undone other true e.standing e.saved v n.0) h.1)

  on_before : (v : V) (earlier rest : List (KeptChange S)) → AllByRecursion (λ k. k.standing ≢ Undone) earlier → LeadOn other Leads v rest → LeadOn other Leads v (earlier ++ rest)
  on_before v [] rest n h = h
  on_before v (e ∷ earlier) rest n h =
      (λ u. absurd (n.0 u), subst (λ (x : V). LeadOn other Leads x (earlier ++ rest)) (sym (again_not_undone other true e.standing e.saved v n.0)) (on_before v earlier rest n.1 h))

  -- the same before a place where the part after it goes back to the same
  back_before : (v v' : V) (earlier rest rest' : List (KeptChange S)) → taken_back other nothing v rest ≡ taken_back other nothing v' rest' →
      LeadBack other Leads v (earlier ++ rest) → LeadBack other Leads v' rest' → LeadBack other Leads v' (earlier ++ rest')
  back_before v v' [] rest rest' e h h' = h'
  back_before v v' (k ∷ earlier) rest rest' e h h' =
      let same : taken_back other nothing v (earlier ++ rest) ≡ taken_back other nothing v' (earlier ++ rest')
      = taken_append other nothing v earlier rest ∙ ap (λ (x : V). taken_back other nothing x earlier) e ∙ sym (taken_append other nothing v' earlier rest') in
      (λ d. subst (λ (x : V). Leads k.saved x (other k.saved x)) same (h.0 d), back_before v v' earlier rest rest' e h.1 h')

  before_done : (earlier : List (KeptChange S)) (k : KeptChange S) (later : List (KeptChange S)) → k.standing ≡ Done → IsOrdered (earlier ++ k ∷ later) → AllByRecursion (λ e. e.standing ≢ Undone) earlier
  before_done [] k later d h = tt
  before_done (e ∷ earlier) k later d h = (λ u. (all_split (λ x. x.standing ≢ Done) earlier (k ∷ later) (h.0 u)).1.0 d, before_done earlier k later d h.1)

  behind : (earlier : List (KeptChange S)) (k : KeptChange S) (later : List (KeptChange S)) → IsOrdered (earlier ++ k ∷ later) → IsOrdered (k ∷ later)
  behind [] k later h = h
  behind (e ∷ earlier) k later h = behind earlier k later h.1

  ordered_before : (earlier rest : List (KeptChange S)) → AllByRecursion (λ e. e.standing ≢ Undone) earlier → IsOrdered rest → IsOrdered (earlier ++ rest)
  ordered_before [] rest n h = h
  ordered_before (e ∷ earlier) rest n h = (λ u. absurd (n.0 u), ordered_before earlier rest n.1 h)

  -- ---- one more

  pub keeps_with : (v v' : V) (kept : List (KeptChange S)) (ticket : ℕ) (saved : S) → Leads saved v' v → other saved v' ≡ v →
      KeepsRow other Leads v kept → KeepsRow other Leads v' (with_change kept ticket saved)
  unfolding ordered_no_undone on_no_undone
  keeps_with v v' kept ticket saved leads is h =
      let new = kept_as Done ticket saved in
      let no_undone : AllByRecursion (λ k. k.standing ≢ Undone) (cleared kept ++ new ∷ []) = all-append _ (cleared kept) (new ∷ []) (cleared_no_undone other kept) (Done≢Undone, tt) in
      record {
        ordered = ordered_no_undone (cleared kept ++ new ∷ []) no_undone;
        back = all_back kept h.back;
        on = on_no_undone v' (cleared kept ++ new ∷ []) no_undone;
      }
    where
      was_done : (s : Standing) → clear s ≡ Done → s ≡ Done
      was_done Done e = refl
      was_done Undone e = absurd (Cleared≢Done e)
      was_done Cleared e = absurd (Cleared≢Done e)

      all_back : (kept : List (KeptChange S)) → LeadBack other Leads v kept → LeadBack other Leads v' (cleared kept ++ kept_as Done ticket saved ∷ [])
      all_back [] b = (λ d. subst (λ (x : V). Leads saved v' x) (sym is) leads, tt)
      all_back (k ∷ rest) b =
          let same : taken_back other nothing v' (cleared rest ++ kept_as Done ticket saved ∷ []) ≡ taken_back other nothing v rest
          = taken_append other nothing v' (cleared rest) (kept_as Done ticket saved ∷ []) ∙ taken_cleared other nothing (other saved v') rest ∙ ap (λ (x : V). taken_back other nothing x rest) is in
          (λ d. subst (λ (x : V). Leads k.saved x (other k.saved x)) (sym same) (b.0 (was_done k.standing d)), all_back rest b.1)

  -- ---- where a change of another table cleared what was undone

  pub keeps_stale : (v : V) (kept : List (KeptChange S)) → KeepsRow other Leads v kept → KeepsRow other Leads v (cleared kept)
  unfolding ordered_no_undone on_no_undone
  keeps_stale v kept h = record {
    ordered = ordered_no_undone (cleared kept) (cleared_no_undone other kept);
    back = all_back kept h.back;
    on = on_no_undone v (cleared kept) (cleared_no_undone other kept);
  }
    where
      was_done : (s : Standing) → clear s ≡ Done → s ≡ Done
      was_done Done e = refl
      was_done Undone e = absurd (Cleared≢Done e)
      was_done Cleared e = absurd (Cleared≢Done e)

      all_back : (kept : List (KeptChange S)) → LeadBack other Leads v kept → LeadBack other Leads v (cleared kept)
      all_back [] b = tt
      all_back (k ∷ rest) b =
          (λ d. subst (λ (x : V). Leads k.saved x (other k.saved x)) (sym (taken_cleared other nothing v rest)) (b.0 (was_done k.standing d)), all_back rest b.1)

  pub table_stale : (table : S → Option ℕ) (one : (a b : S) → IsOneTable (table a) (table b)) (v : V) (kept : List (KeptChange S)) (chosen : ℕ → Bool) → IsChoice table (cleared kept) chosen →
      table_by other v (cleared kept) chosen ≡ table_by other v kept chosen
  unfolding made_left left_cleared
  table_stale table one v kept chosen choice =
      let out = left_cleared other table one chosen kept [] (subst (λ (x : List (KeptChange S)). IsChoice table x chosen) (sym (append-nil (cleared kept))) choice) in
      made_no_undone other chosen (taken_back other chosen v (cleared kept)) (cleared kept) (cleared_no_undone other kept)
      ∙ taken_cleared other chosen v kept ∙ sym (made_left other table one chosen (taken_back other chosen v kept) kept out)

  -- ---- settled

  pub keeps_oldest : (v : V) (ticket : ℕ) (saved : S) (later : List (KeptChange S)) → KeepsRow other Leads v (kept_as Done ticket saved ∷ later) → KeepsRow other Leads v later
  keeps_oldest v ticket saved later h = record { ordered = h.ordered.1; back = h.back.1; on = h.on.1 }

  pub table_oldest : (v : V) (ticket : ℕ) (saved : S) (later : List (KeptChange S)) (chosen : ℕ → Bool) → chosen ticket ≡ true →
      table_by other v later chosen ≡ table_by other v (kept_as Done ticket saved ∷ later) chosen
  table_oldest v ticket saved later chosen it =
      let rest = taken_back other chosen v later in
      ap (λ (b : Bool). made_again other chosen (again_over other b Done saved (back_over other b Done saved rest)) later) (sym it)

  pub keeps_cleared : (v : V) (earlier : List (KeptChange S)) (ticket : ℕ) (saved : S) (later : List (KeptChange S)) → KeepsRow other Leads v (earlier ++ kept_as Cleared ticket saved ∷ later) → KeepsRow other Leads v (earlier ++ later)
  keeps_cleared v earlier ticket saved later h = record {
    ordered = ordered_drop earlier h.ordered;
    back = back_before v v earlier (kept_as Cleared ticket saved ∷ later) later refl h.back (lead_at v earlier (kept_as Cleared ticket saved) later h.back).1;
    on = on_drop v earlier h.on;
  }
    where
      ordered_drop : (earlier : List (KeptChange S)) → IsOrdered (earlier ++ kept_as Cleared ticket saved ∷ later) → IsOrdered (earlier ++ later)
      ordered_drop [] o = o.1
      ordered_drop (e ∷ earlier) o =
          (λ u. let parts = all_split (λ x. x.standing ≢ Done) earlier (kept_as Cleared ticket saved ∷ later) (o.0 u) in all-append _ earlier later parts.0 parts.1.1, ordered_drop earlier o.1)

      on_drop : (x : V) (earlier : List (KeptChange S)) → LeadOn other Leads x (earlier ++ kept_as Cleared ticket saved ∷ later) → LeadOn other Leads x (earlier ++ later)
      on_drop x [] o = o.1
      on_drop x (e ∷ earlier) o = (o.0, on_drop (again_over other true e.standing e.saved x) earlier o.1)

  pub table_cleared : (v : V) (earlier : List (KeptChange S)) (ticket : ℕ) (saved : S) (later : List (KeptChange S)) (chosen : ℕ → Bool) →
      table_by other v (earlier ++ later) chosen ≡ table_by other v (earlier ++ kept_as Cleared ticket saved ∷ later) chosen
  table_cleared v earlier ticket saved later chosen =
      let k = kept_as Cleared ticket saved in
      let rest = taken_back other chosen v later in
      let skip : back_over other (chosen ticket) Cleared saved rest ≡ rest = back_not_done other (chosen ticket) Cleared saved rest Cleared≢Done in
      let taken : taken_back other chosen v (earlier ++ k ∷ later) ≡ taken_back other chosen v (earlier ++ later)
      = taken_append other chosen v earlier (k ∷ later) ∙ ap (λ (x : V). taken_back other chosen x earlier) skip ∙ sym (taken_append other chosen v earlier later) in
      let start = taken_back other chosen v (earlier ++ later) in
      let on : made_again other chosen start (earlier ++ k ∷ later) ≡ made_again other chosen start (earlier ++ later)
      = made_append other chosen start earlier (k ∷ later)
      ∙ ap (λ (x : V). made_again other chosen x later) (again_not_undone other (chosen ticket) Cleared saved (made_again other chosen start earlier) Cleared≢Undone)
      ∙ sym (made_append other chosen start earlier later) in
      sym (ap (λ (x : V). made_again other chosen x (earlier ++ k ∷ later)) taken ∙ on)

  -- ---- back and again

  module _ (table : S → Option ℕ) (one : (a b : S) → IsOneTable (table a) (table b)) (v v' : V) (earlier : List (KeptChange S)) (ticket : ℕ) (saved saved' : S) (later : List (KeptChange S))
      (way : other saved v ≡ v') (again : other saved' v' ≡ v) (leads : Leads saved' v' v) where
    leads_there : Leads saved' v' (other saved' v')
    leads_there = subst (λ (x : V). Leads saved' v' x) (sym again) leads

    no_done : IsUncovered table saved later → AllByRecursion (λ k. k.standing ≢ Done) later
    no_done h = all_weaker _ _ (λ k f. f (one saved k.saved)) later h

    no_undone : IsFounded table saved earlier → AllByRecursion (λ k. k.standing ≢ Undone) earlier
    no_undone h = all_weaker _ _ (λ k f. f (one saved k.saved)) earlier h

    keeps_back : IsUncovered table saved later → KeepsRow other Leads v (earlier ++ kept_as Done ticket saved ∷ later) → KeepsRow other Leads v' (earlier ++ kept_as Undone ticket saved' ∷ later)
    unfolding leads_there no_done
    keeps_back u h =
        let k = kept_as Done ticket saved in
        let k' = kept_as Undone ticket saved' in
        let none = no_done u in
        let first = before_done earlier k later refl h.ordered in
        let origin : taken_back other nothing v (k ∷ later) ≡ taken_back other nothing v' (k' ∷ later)
        = ap (other saved) (taken_no_done other nothing v later none) ∙ way ∙ sym (taken_no_done other nothing v' later none) in
        let on = on_past v earlier (k ∷ later) first h.on in
        record {
          ordered = ordered_before earlier (k' ∷ later) first (λ e. none, (behind earlier k later h.ordered).1);
          back = back_before v v' earlier (k ∷ later) (k' ∷ later) origin h.back (λ d. absurd (Undone≢Done d), back_no_done v' later none);
          on = on_before v' earlier (k' ∷ later) first (λ e. leads_there, subst (λ (x : V). LeadOn other Leads x later) (sym again) on.1);
        }

    table_back : IsUncovered table saved later → KeepsRow other Leads v (earlier ++ kept_as Done ticket saved ∷ later) → (chosen : ℕ → Bool) → IsChoice table (earlier ++ kept_as Undone ticket saved' ∷ later) chosen →
        table_by other v' (earlier ++ kept_as Undone ticket saved' ∷ later) chosen ≡ table_by other v (earlier ++ kept_as Done ticket saved ∷ later) chosen
    unfolding no_done
    table_back u h chosen choice =
        let k = kept_as Done ticket saved in
        let k' = kept_as Undone ticket saved' in
        let none = no_done u in
        let first = before_done earlier k later refl h.ordered in
        let x = taken_back other chosen (back_over other (chosen ticket) Done saved v) earlier in
        let y = taken_back other chosen v' earlier in
        let taken : taken_back other chosen v (earlier ++ k ∷ later) ≡ x
        = taken_append other chosen v earlier (k ∷ later) ∙ ap (λ (z : V). taken_back other chosen (back_over other (chosen ticket) Done saved z) earlier) (taken_no_done other chosen v later none) in
        let taken' : taken_back other chosen v' (earlier ++ k' ∷ later) ≡ y
        = taken_append other chosen v' earlier (k' ∷ later)
        ∙ ap (λ (z : V). taken_back other chosen z earlier) (back_not_done other (chosen ticket) Undone saved' (taken_back other chosen v' later) Undone≢Done ∙ taken_no_done other chosen v' later none) in
        let made : made_again other chosen x (earlier ++ k ∷ later) ≡ made_again other chosen x later
        = made_append other chosen x earlier (k ∷ later)
        ∙ ap (λ (z : V). made_again other chosen z later) (again_not_undone other (chosen ticket) Done saved (made_again other chosen x earlier) Done≢Undone ∙ made_no_undone other chosen x earlier first) in
        let made' : made_again other chosen y (earlier ++ k' ∷ later) ≡ made_again other chosen (again_over other (chosen ticket) Undone saved' y) later
        = made_append other chosen y earlier (k' ∷ later)
        ∙ ap (λ (z : V). made_again other chosen (again_over other (chosen ticket) Undone saved' z) later) (made_no_undone other chosen y earlier first) in
        let same : again_over other (chosen ticket) Undone saved' y ≡ x
        = elim (is_or_not (chosen ticket)) [
          | inl it ↦
              let all = chosen_before table one chosen earlier k' later choice it in
              ap (λ (b : Bool). again_over other b Undone saved' y) it ∙ ap (other saved') (taken_chosen other table one chosen v' earlier all) ∙ again
              ∙ sym (ap (λ (b : Bool). taken_back other chosen (back_over other b Done saved v) earlier) it ∙ taken_chosen other table one chosen v earlier all)
          | inr out ↦
              ap (λ (b : Bool). again_over other b Undone saved' y) out ∙ ap (λ (z : V). taken_back other chosen z earlier) (sym way)
              ∙ sym (ap (λ (b : Bool). taken_back other chosen (back_over other b Done saved v) earlier) out)
        ] in
        ap (λ (z : V). made_again other chosen z (earlier ++ k' ∷ later)) taken' ∙ made' ∙ ap (λ (z : V). made_again other chosen z later) same
        ∙ sym (ap (λ (z : V). made_again other chosen z (earlier ++ k ∷ later)) taken ∙ made)

    keeps_again : IsFounded table saved earlier → KeepsRow other Leads v (earlier ++ kept_as Undone ticket saved ∷ later) → KeepsRow other Leads v' (earlier ++ kept_as Done ticket saved' ∷ later)
    unfolding leads_there no_undone
    keeps_again u h =
        let k = kept_as Undone ticket saved in
        let k' = kept_as Done ticket saved' in
        let first = no_undone u in
        let rest = behind earlier k later h.ordered in
        let none = rest.0 refl in
        let origin : taken_back other nothing v (k ∷ later) ≡ taken_back other nothing v' (k' ∷ later)
        = taken_no_done other nothing v later none ∙ sym (ap (other saved') (taken_no_done other nothing v' later none) ∙ again) in
        let on = on_past v earlier (k ∷ later) first h.on in
        let there : Leads saved' (taken_back other nothing v' later) (other saved' (taken_back other nothing v' later))
        = subst (λ (x : V). Leads saved' x (other saved' x)) (sym (taken_no_done other nothing v' later none)) leads_there in
        record {
          ordered = ordered_before earlier (k' ∷ later) first (λ e. absurd (Done≢Undone e), rest.1);
          back = back_before v v' earlier (k ∷ later) (k' ∷ later) origin h.back (λ d. there, back_no_done v' later none);
          on = on_before v' earlier (k' ∷ later) first (λ e. absurd (Done≢Undone e), subst (λ (x : V). LeadOn other Leads x later) way on.1);
        }

    table_again : IsFounded table saved earlier → KeepsRow other Leads v (earlier ++ kept_as Undone ticket saved ∷ later) → (chosen : ℕ → Bool) → IsChoice table (earlier ++ kept_as Done ticket saved' ∷ later) chosen →
        table_by other v' (earlier ++ kept_as Done ticket saved' ∷ later) chosen ≡ table_by other v (earlier ++ kept_as Undone ticket saved ∷ later) chosen
    unfolding no_undone
    table_again u h chosen choice =
        let k = kept_as Undone ticket saved in
        let k' = kept_as Done ticket saved' in
        let first = no_undone u in
        let none = (behind earlier k later h.ordered).0 refl in
        let x = taken_back other chosen v earlier in
        let y = taken_back other chosen (back_over other (chosen ticket) Done saved' v') earlier in
        let taken : taken_back other chosen v (earlier ++ k ∷ later) ≡ x
        = taken_append other chosen v earlier (k ∷ later)
        ∙ ap (λ (z : V). taken_back other chosen z earlier) (back_not_done other (chosen ticket) Undone saved (taken_back other chosen v later) Undone≢Done ∙ taken_no_done other chosen v later none) in
        let taken' : taken_back other chosen v' (earlier ++ k' ∷ later) ≡ y
        = taken_append other chosen v' earlier (k' ∷ later) ∙ ap (λ (z : V). taken_back other chosen (back_over other (chosen ticket) Done saved' z) earlier) (taken_no_done other chosen v' later none) in
        let made : made_again other chosen x (earlier ++ k ∷ later) ≡ made_again other chosen (again_over other (chosen ticket) Undone saved x) later
        = made_append other chosen x earlier (k ∷ later) ∙ ap (λ (z : V). made_again other chosen (again_over other (chosen ticket) Undone saved z) later) (made_no_undone other chosen x earlier first) in
        let made' : made_again other chosen y (earlier ++ k' ∷ later) ≡ made_again other chosen y later
        = made_append other chosen y earlier (k' ∷ later)
        ∙ ap (λ (z : V). made_again other chosen z later) (again_not_undone other (chosen ticket) Done saved' (made_again other chosen y earlier) Done≢Undone ∙ made_no_undone other chosen y earlier first) in
        let same : y ≡ again_over other (chosen ticket) Undone saved x
        = elim (is_or_not (chosen ticket)) [
          | inl it ↦
              let all = chosen_before table one chosen earlier k' later choice it in
              ap (λ (b : Bool). taken_back other chosen (back_over other b Done saved' v') earlier) it ∙ taken_chosen other table one chosen v' earlier all ∙ sym way
              ∙ ap (other saved) (sym (taken_chosen other table one chosen v earlier all)) ∙ sym (ap (λ (b : Bool). again_over other b Undone saved x) it)
          | inr out ↦
              ap (λ (b : Bool). taken_back other chosen (back_over other b Done saved' v') earlier) out ∙ ap (λ (z : V). taken_back other chosen z earlier) again
              ∙ sym (ap (λ (b : Bool). again_over other b Undone saved x) out)
        ] in
        ap (λ (z : V). made_again other chosen z (earlier ++ k' ∷ later)) taken' ∙ made' ∙ ap (λ (z : V). made_again other chosen z later) same
        ∙ sym (ap (λ (z : V). made_again other chosen z (earlier ++ k ∷ later)) taken ∙ made)

    -- ---- either way

    pub keeps_turned : (from : Standing) → from ≢ Cleared → IsClear table from saved (passed from earlier later) → KeepsRow other Leads v (earlier ++ kept_as from ticket saved ∷ later) →
        KeepsRow other Leads v' (earlier ++ kept_as (turned from) ticket saved' ∷ later)
    keeps_turned Done live clear h = keeps_back clear h
    keeps_turned Undone live clear h = keeps_again clear h
    keeps_turned Cleared live clear h = absurd (live refl)

    pub table_turned : (from : Standing) → from ≢ Cleared → IsClear table from saved (passed from earlier later) → KeepsRow other Leads v (earlier ++ kept_as from ticket saved ∷ later) →
        (chosen : ℕ → Bool) → IsChoice table (earlier ++ kept_as (turned from) ticket saved' ∷ later) chosen →
        table_by other v' (earlier ++ kept_as (turned from) ticket saved' ∷ later) chosen ≡ table_by other v (earlier ++ kept_as from ticket saved ∷ later) chosen
    table_turned Done live clear h chosen choice = table_back clear h chosen choice
    table_turned Undone live clear h chosen choice = table_again clear h chosen choice
    table_turned Cleared live clear h chosen choice = absurd (live refl)

  -- what a turn asks of the saved value
  leads_last : (table : S → Option ℕ) (one : (a b : S) → IsOneTable (table a) (table b)) (v : V) (earlier : List (KeptChange S)) (ticket : ℕ) (saved : S) (later : List (KeptChange S)) →
      KeepsRow other Leads v (earlier ++ kept_as Done ticket saved ∷ later) → IsUncovered table saved later → Leads saved v (other saved v)
  leads_last table one v earlier ticket saved later h u =
      let none = all_weaker (λ k. IsOneTable (table saved) (table k.saved) → k.standing ≢ Done) (λ k. k.standing ≢ Done) (λ k f. f (one saved k.saved)) later u in
      subst (λ (x : V). Leads saved x (other saved x)) (taken_no_done other nothing v later none) ((lead_at v earlier (kept_as Done ticket saved) later h.back).0 refl)

  leads_first : (table : S → Option ℕ) (one : (a b : S) → IsOneTable (table a) (table b)) (v : V) (earlier : List (KeptChange S)) (ticket : ℕ) (saved : S) (later : List (KeptChange S)) →
      KeepsRow other Leads v (earlier ++ kept_as Undone ticket saved ∷ later) → IsFounded table saved earlier → Leads saved v (other saved v)
  leads_first table one v earlier ticket saved later h u =
      let first = all_weaker (λ k. IsOneTable (table saved) (table k.saved) → k.standing ≢ Undone) (λ k. k.standing ≢ Undone) (λ k f. f (one saved k.saved)) earlier u in
      (on_past v earlier (kept_as Undone ticket saved ∷ later) first h.on).0 refl

  pub leads_over : (table : S → Option ℕ) (one : (a b : S) → IsOneTable (table a) (table b)) (v : V) (from : Standing) → from ≢ Cleared → (earlier : List (KeptChange S)) (ticket : ℕ) (saved : S) (later : List (KeptChange S)) →
      KeepsRow other Leads v (earlier ++ kept_as from ticket saved ∷ later) → IsClear table from saved (passed from earlier later) → Leads saved v (other saved v)
  leads_over table one v Done live earlier ticket saved later h clear = leads_last table one v earlier ticket saved later h clear
  leads_over table one v Undone live earlier ticket saved later h clear = leads_first table one v earlier ticket saved later h clear
  leads_over table one v Cleared live earlier ticket saved later h clear = absurd (live refl)

-- ---- what is in effect

module _ {S V : Type 0} (other : S → V → V) (chosen : ℕ → Bool) where
  back_present : (s : Standing) (k : KeptChange S) → chosen k.ticket ≡ is_done s → (x : V) → back_over other (chosen k.ticket) s k.saved x ≡ x
  back_present Done k e x = back_chosen other (chosen k.ticket) Done k.saved x e
  back_present Undone k e x = back_not_done other (chosen k.ticket) Undone k.saved x Undone≢Done
  back_present Cleared k e x = back_not_done other (chosen k.ticket) Cleared k.saved x Cleared≢Done

  again_present : (s : Standing) (k : KeptChange S) → chosen k.ticket ≡ is_done s → (x : V) → again_over other (chosen k.ticket) s k.saved x ≡ x
  again_present Done k e x = again_not_undone other (chosen k.ticket) Done k.saved x Done≢Undone
  again_present Undone k e x = again_left other (chosen k.ticket) Undone k.saved x e
  again_present Cleared k e x = again_left other (chosen k.ticket) Cleared k.saved x e

  none_back : (kept : List (KeptChange S)) → IsPresent kept chosen → AllByRecursion (λ k. (x : V) → back_over other (chosen k.ticket) k.standing k.saved x ≡ x) kept
  none_back kept h = all_weaker _ _ (λ k e x. back_present k.standing k e x) kept h

  none_again : (kept : List (KeptChange S)) → IsPresent kept chosen → AllByRecursion (λ k. (x : V) → again_over other (chosen k.ticket) k.standing k.saved x ≡ x) kept
  none_again kept h = all_weaker _ _ (λ k e x. again_present k.standing k e x) kept h

-- a choice of what is in effect gives the table as it is
pub table_present : {S V : Type 0} (other : S → V → V) (v : V) (kept : List (KeptChange S)) (chosen : ℕ → Bool) → IsPresent kept chosen → table_by other v kept chosen ≡ v
table_present {S} {V} other v kept chosen h =
    ap (λ (x : V). made_again other chosen x kept) (taken_same other chosen v kept (none_back other chosen kept h)) ∙ made_same other chosen v kept (none_again other chosen kept h)

module _ {S V : Type 0} (other : S → V → V) (v : V) (earlier : List (KeptChange S)) (ticket : ℕ) (saved : S) (later : List (KeptChange S)) (chosen : ℕ → Bool) where
  -- a choice of what is in effect but this change gives the other side of it
  table_without : IsPresent (earlier ++ kept_as Undone ticket saved ∷ later) chosen → table_by other v (earlier ++ kept_as Done ticket saved ∷ later) chosen ≡ other saved v
  table_without present =
      let k = kept_as Done ticket saved in
      let parts = all_split (λ e. chosen e.ticket ≡ is_done e.standing) earlier (kept_as Undone ticket saved ∷ later) present in
      let taken : taken_back other chosen v (earlier ++ k ∷ later) ≡ other saved v
      = taken_append other chosen v earlier (k ∷ later)
      ∙ ap (λ (x : V). taken_back other chosen (back_over other (chosen ticket) Done saved x) earlier) (taken_same other chosen v later (none_back other chosen later parts.1.1))
      ∙ ap (λ (b : Bool). taken_back other chosen (back_over other b Done saved v) earlier) parts.1.0
      ∙ taken_same other chosen (other saved v) earlier (none_back other chosen earlier parts.0) in
      ap (λ (x : V). made_again other chosen x (earlier ++ k ∷ later)) taken
      ∙ made_same other chosen (other saved v) (earlier ++ k ∷ later)
      (all-append (λ e. (x : V) → again_over other (chosen e.ticket) e.standing e.saved x ≡ x) earlier (k ∷ later) (none_again other chosen earlier parts.0)
      ((λ x. again_not_undone other (chosen ticket) Done saved x Done≢Undone), none_again other chosen later parts.1.1))

  -- the same with it, if it is undone
  table_added : IsPresent (earlier ++ kept_as Done ticket saved ∷ later) chosen → table_by other v (earlier ++ kept_as Undone ticket saved ∷ later) chosen ≡ other saved v
  table_added present =
      let k = kept_as Undone ticket saved in
      let parts = all_split (λ e. chosen e.ticket ≡ is_done e.standing) earlier (kept_as Done ticket saved ∷ later) present in
      let taken : taken_back other chosen v (earlier ++ k ∷ later) ≡ v
      = taken_same other chosen v (earlier ++ k ∷ later)
      (all-append (λ e. (x : V) → back_over other (chosen e.ticket) e.standing e.saved x ≡ x) earlier (k ∷ later) (none_back other chosen earlier parts.0)
      ((λ x. back_not_done other (chosen ticket) Undone saved x Undone≢Done), none_back other chosen later parts.1.1)) in
      ap (λ (x : V). made_again other chosen x (earlier ++ k ∷ later)) taken
      ∙ made_append other chosen v earlier (k ∷ later)
      ∙ ap (λ (x : V). made_again other chosen (again_over other (chosen ticket) Undone saved x) later) (made_same other chosen v earlier (none_again other chosen earlier parts.0))
      ∙ ap (λ (b : Bool). made_again other chosen (again_over other b Undone saved v) later) parts.1.0
      ∙ made_same other chosen (other saved v) later (none_again other chosen later parts.1.1)

  pub table_over : (from : Standing) → from ≢ Cleared → IsPresent (earlier ++ kept_as (turned from) ticket saved ∷ later) chosen → table_by other v (earlier ++ kept_as from ticket saved ∷ later) chosen ≡ other saved v
  table_over Done live present = table_without present
  table_over Undone live present = table_added present
  table_over Cleared live present = absurd (live refl)
