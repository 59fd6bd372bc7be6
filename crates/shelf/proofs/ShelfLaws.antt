-- The cells of a shelf after one more admission or flush.
use Rattle.std.proofs.Common.{◌≡◌, ◌≢◌, ℕ, ◌<◌, ◌≤◌, Bool, true, false, cond, Option, Some, None, List, [], ◌∷◌, ◌++◌, map, refl, sym, ap, ◌∙◌, arith, ◌⊎◌, inl, inr}
use Rattle.std.specs.Prelude.{fold, ◌==◌, ◌&&◌, ◌||◌, nat_lt, IfSome}
use Rattle.std.specs.List.{AllByRecursion}
use Rattle.indexmap.specs.IndexMap.{IndexMap, get}
use Rattle.std.proofs.lemmas.Bool.{cases_Bool, eq-eqb, eqb-true, false≢true, and_parts}
use Rattle.std.proofs.lemmas.Bool.Decides.{nat_tests}
use Rattle.std.proofs.lemmas.List.Sums.{fold-append}
use Rattle.std.proofs.lemmas.List.Folds.{list_any-append}
use Rattle.std.proofs.Math.Bool.{or-false}
use Rattle.dns_name.specs.Labels.{Labels}
use Rattle.dns_name.specs.Order.{name_eq}
use Rattle.dns_text.specs.declared.record.Question.{Question}
use Rattle.ranked.specs.declared.find.Find.{Find}
use Rattle.ranked.specs.declared.cell.Admitted.{Admitted}
use Rattle.ranked.specs.Find.{admission_of}
use Rattle.cell_store.specs.declared.owner.OwnerCells.{OwnerCells}
use Rattle.cell_store.specs.declared.owner.KindColumn.{KindColumn}
use Rattle.cell_store.specs.declared.owner.WholeFind.{WholeFind}
use Rattle.cell_store.specs.Version.{nothing, place_at}
use Rattle.cell_store.specs.Owner.{column_of, column_held, whole_held, whole_cell, place_held, IsWholeUpTo, IsUpTo}
use Rattle.cell_store.specs.Store.{cell_of, cell_by_owner, AreUpTo}
use Rattle.ranked.specs.declared.flush.Flush.{Flush}
use Rattle.shelf.specs.declared.shelf.KeptFlush.{KeptFlush}
use Rattle.ranked.specs.Flush.{covers}
use Rattle.shelf.specs.Kept.{with_shown}
use Rattle.shelf.specs.Told.{Told, told_after, cell_by, only, is_kept, is_version, later_shown, shown_version}
use Rattle.shelf.specs.Told.Told.{flushed}
use Rattle.cell_store.specs.TestLaws.{and_false, both, either, or_left, or_right}

-- ---- versions that no admission has reached are empty

past : (upto v : ℕ) → upto < v → nat_lt upto v ≡ true
past upto v late = grind (arith, nat_tests)

whole_past : (whole : Option WholeFind) (top v : ℕ) → IsWholeUpTo top whole → top < v → whole_held whole v ≡ None
whole_past None top v upto late = refl
whole_past (Some whole) top v upto late = ap (λ b. cond b None (Some (admission_of whole.find whole.find whole.since))) (past whole.upto v (omega arith))

held_past : (whole : Option WholeFind) (kinds : List KindColumn) (top kind v : ℕ) → IsWholeUpTo top whole → AllByRecursion (λ own. own.column.upto ≤ top) kinds → top < v
    → column_held whole (column_of kinds kind) v ≡ None
held_past whole [] top kind v upto all late = whole_past whole top v upto late
held_past whole (x ∷ kinds) top kind v upto all late = elim (cases_Bool (x.kind == kind)) [
  | inl here ↦
      let now : nat_lt x.column.upto v ≡ true = past x.column.upto v (omega (arith, all.0)) in
      rw here (ap (λ b. place_held (whole_cell whole) (cond b nothing (place_at x.column.versions v))) now)
  | inr gone ↦ rw gone (held_past whole kinds top kind v upto all.1 late)
]

owner_past : (cells : Option OwnerCells) (top kind v : ℕ) → IfSome cells (IsUpTo top) → top < v → cell_by_owner cells kind v ≡ None
owner_past None top kind v upto late = refl
owner_past (Some cells) top kind v upto late = held_past cells.whole cells.kinds.items top kind v upto.whole upto.kinds late

pub nothing_past : {S : Type 0} (owners : IndexMap Labels OwnerCells S) (top : ℕ) → AreUpTo top owners → (question : Question) (v : ℕ) → top < v → cell_of owners question v ≡ None
nothing_past owners top upto question v late = owner_past (get name_eq owners question.owner) top question.kind v (upto question.owner) late

-- ---- versions

kept_low : (kept : List KeptFlush) (top : ℕ) (question : Question) (v : ℕ) → AllByRecursion (λ own. own.number ≤ top) kept → is_kept kept question v ≡ true → v ≤ top
kept_low [] top question v all is = absurd (false≢true is)
kept_low (x ∷ kept) top question v all is = elim (either (x.number == v && covers x.flush question) (is_kept kept question v) is) [
  | inl here ↦ omega (arith, all.0, eqb-true x.number v (and_parts _ _ here).0)
  | inr later ↦ kept_low kept top question v all.1 later
]

pub version_low : (kept : List KeptFlush) (top : ℕ) (question : Question) (v : ℕ) → AllByRecursion (λ own. own.number ≤ top) kept → is_version kept question v ≡ true → v ≤ top
version_low kept top question v all is = elim (either (v == 0) (is_kept kept question v) is) [
  | inl none ↦ omega (arith, eqb-true v 0 none)
  | inr some ↦ kept_low kept top question v all some
]

shown_or : (question : Question) (kept : List KeptFlush) (v : ℕ) → (fold (later_shown question) v kept ≡ v) ⊎ (is_kept kept question (fold (later_shown question) v kept) ≡ true)
shown_or question [] v = inl refl
shown_or question (x ∷ kept) v = elim (shown_or question kept (later_shown question v x)) [
  | inl same ↦ elim (cases_Bool (x.shown && covers x.flush question)) [
    | inl here ↦
        let at : fold (later_shown question) (later_shown question v x) kept ≡ x.number = same ∙ ap (λ b. cond b x.number v) here in
        inr (or_left _ _ (both _ _ (eq-eqb x.number _ (sym at)) (and_parts _ _ here).1))
    | inr gone ↦ inl (same ∙ ap (λ b. cond b x.number v) gone)
  ]
  | inr later ↦ inr (or_right _ _ later)
]

pub shown_is_version : (kept : List KeptFlush) (question : Question) → is_version kept question (shown_version kept question) ≡ true
shown_is_version kept question = elim (shown_or question kept 0) [
  | inl none ↦ or_left _ _ (eq-eqb (shown_version kept question) 0 none)
  | inr some ↦ or_right _ _ some
]

same_kept : (number : ℕ) (shown : Bool) (kept : List KeptFlush) (question : Question) (v : ℕ) → is_kept (map (with_shown number shown) kept) question v ≡ is_kept kept question v
same_kept number shown [] question v = refl
same_kept number shown (x ∷ kept) question v = ap (λ b. (x.number == v && covers x.flush question) || b) (same_kept number shown kept question v)

pub same_version : (number : ℕ) (shown : Bool) (kept : List KeptFlush) (question : Question) (v : ℕ) → is_version (map (with_shown number shown) kept) question v ≡ is_version kept question v
same_version number shown kept question v = ap (λ b. v == 0 || b) (same_kept number shown kept question v)

pub same_numbers : (number : ℕ) (shown : Bool) (kept : List KeptFlush) (top : ℕ) → AllByRecursion (λ own. own.number ≤ top) kept → AllByRecursion (λ own. own.number ≤ top) (map (with_shown number shown) kept)
same_numbers number shown [] top all = tt
same_numbers number shown (x ∷ kept) top all = (all.0, same_numbers number shown kept top all.1)

-- ---- the replay

pub told_more : (question : Question) (chosen : ℕ → Bool) (told : List Told) (more : Told) → cell_by question chosen (told ++ more ∷ []) ≡ told_after question chosen (cell_by question chosen told) more
told_more question chosen told more = fold-append (told_after question chosen) None told (more ∷ [])

apart : (a b : ℕ) → a ≢ b → (a == b) ≡ false
apart a b ne = elim (cases_Bool (a == b)) [ inl same ↦ absurd (ne (eqb-true a b same)) | inr so ↦ so ]

assoc : (a b c : Bool) → (a || (b || c)) ≡ true → ((a || b) || c) ≡ true
assoc true b c h = refl
assoc false b c h = h

-- a flush more: the versions that were there stay, and the new one is empty
pub flush_told : (cells : Question → ℕ → Option (Admitted Find)) (kept : List KeptFlush) (top : ℕ) (told : List Told) (flush : Flush) (number : ℕ)
    → ((question : Question) (v : ℕ) → top < v → cells question v ≡ None) → AllByRecursion (λ own. own.number ≤ top) kept → top < number
    → ((question : Question) (version : ℕ) → is_version kept question version ≡ true → cells question version ≡ cell_by question (only version) told)
    → (question : Question) (version : ℕ) → is_version (kept ++ record { flush = flush; number = number; shown = true } ∷ []) question version ≡ true
    → cells question version ≡ cell_by question (only version) (told ++ flushed flush number ∷ [])
flush_told cells kept top told flush number nothing numbers newest is question version there =
    elim (cases_Bool (is_version kept question version)) [
      | inl old ↦
          let low = version_low kept top question version numbers old in
          let other : (version == number) ≡ false = apart version number (λ same. absurd (omega (arith, same))) in
          is question version old
          ∙ sym (told_more question (only version) told (flushed flush number)
          ∙ (ap (λ b. cond (covers flush question && b) None (cell_by question (only version) told)) other ∙ ap (λ b. cond b None (cell_by question (only version) told)) (and_false (covers flush question))))
      | inr not_old ↦
          let split : (is_version kept question version || (number == version && covers flush question)) ≡ true = new_version old_is there in
          let here : (number == version && covers flush question) ≡ true = sym (ap (λ b. b || (number == version && covers flush question)) not_old) ∙ split in
          let parts = and_parts _ _ here in
          let same : number ≡ version = eqb-true number version parts.0 in
          nothing question version (omega (arith, same))
          ∙ sym (told_more question (only version) told (flushed flush number)
          ∙ ap (λ b. cond b None (cell_by question (only version) told)) (both _ _ parts.1 (eq-eqb version number (sym same))))
    ]
  where
    old_is : is_kept (kept ++ record { flush = flush; number = number; shown = true } ∷ []) question version ≡ (is_kept kept question version || (number == version && covers flush question))
    old_is =
        list_any-append (λ own. own.number == version && covers own.flush question) kept (record { flush = flush; number = number; shown = true } ∷ [])
        ∙ ap (λ b. is_kept kept question version || b) (or-false (number == version && covers flush question))

    new_version : is_kept (kept ++ record { flush = flush; number = number; shown = true } ∷ []) question version ≡ (is_kept kept question version || (number == version && covers flush question))
        → (version == 0 || is_kept (kept ++ record { flush = flush; number = number; shown = true } ∷ []) question version) ≡ true → ((version == 0 || is_kept kept question version) || (number == version && covers flush question)) ≡ true
    new_version e t = assoc (version == 0) (is_kept kept question version) (number == version && covers flush question) (sym (ap (λ b. version == 0 || b) e) ∙ t)
