-- The end of the last find of a name: no find in a version of it ends later, and one ends then.
use Rattle.std.proofs.Common.{◌≡◌, ℕ, ◌+◌, ◌<◌, ◌≤◌, max, Bool, true, false, cond, Option, Some, None, List, [], ◌∷◌, refl, sym, ap, ◌∙◌, subst, arith, ◌⊎◌, inl, inr}
use Rattle.std.specs.Prelude.{◌==◌, ◌&&◌, ◌||◌, fold, nat_lt}
use Rattle.std.proofs.lemmas.Bool.{cases_Bool, eqb-true, false≢true}
use Rattle.std.proofs.lemmas.Bool.Decides.{nat_tests}
use Rattle.dns_name.specs.Labels.{Labels}
use Rattle.dns_name.specs.Below.{is_at_or_below}
use Rattle.dns_text.specs.declared.record.Question.{Question}
use Rattle.ranked.specs.declared.find.Find.{Find}
use Rattle.ranked.specs.declared.cell.Admitted.{Admitted}
use Rattle.ranked.specs.Find.{admission_of}
use Rattle.ranked.specs.Flush.{covers}
use Rattle.cell_store.specs.declared.owner.KindColumn.{KindColumn}
use Rattle.cell_store.specs.declared.owner.WholeFind.{WholeFind}
use Rattle.cell_store.specs.declared.owner.OwnerCells.{OwnerCells}
use Rattle.cell_store.specs.Column.{Cells}
use Rattle.cell_store.specs.Life.{life_end}
use Rattle.cell_store.specs.Mixed.{IsLikeFirst}
use Rattle.cell_store.specs.Owner.{after_settle, column_held, column_of, whole_held}
use Rattle.shelf.specs.declared.settling.Settling.{Settling}
use Rattle.shelf.specs.declared.shelf.KeptFlush.{KeptFlush}
use Rattle.shelf.specs.Settling.{settled_version}
use Rattle.shelf.specs.Kept.{is_kept, is_version}
use Rattle.shelf.specs.Told.{chosen_version, later_chosen, only}
use Rattle.shelf.specs.First.{cell_at_name, kind_life, later_kind, later_life, name_life}
use Rattle.cell_store.specs.TestLaws.{both, either, or_right}

parts : (a b : Bool) → (a && b) ≡ true → (a ≡ true) × (b ≡ true)
parts true b is = (refl, is)
parts false b is = absurd (false≢true is)

-- ---- a type

module _ (cell : ℕ → Option (Admitted Find)) (q : Question) where
  abbrev life : ℕ → ℕ
  life v = life_end (cell v)

  later_start : (x : KeptFlush) (start : ℕ) → start ≤ later_life cell q start x
  later_start x start = split (covers x.flush q)
    where
      split : (b : Bool) → start ≤ cond b (max start (life x.number)) start
      split true = grind arith
      split false = omega arith

  later_own : (x : KeptFlush) (start : ℕ) → covers x.flush q ≡ true → life x.number ≤ later_life cell q start x
  later_own x start at = subst (λ b. life x.number ≤ cond b (max start (life x.number)) start) (sym at) (grind arith)

  kind_most : (kept : List KeptFlush) (start v : ℕ) → (life v ≤ start) ⊎ (is_kept kept q v ≡ true) → life v ≤ fold (later_life cell q) start kept
  kind_most [] start v (inl low) = low
  kind_most [] start v (inr there) = absurd (false≢true there)
  kind_most (x ∷ kept) start v (inl low) = kind_most kept (later_life cell q start x) v (inl (omega (arith, low, later_start x start)))
  kind_most (x ∷ kept) start v (inr there) = elim (either (x.number == v && covers x.flush q) (is_kept kept q v) there) [
    | inl here ↦
        let own = parts (x.number == v) (covers x.flush q) here in
        kind_most kept (later_life cell q start x) v (inl (subst (λ n. life n ≤ later_life cell q start x) (eqb-true x.number v own.0) (later_own x start own.1)))
    | inr later ↦ kind_most kept (later_life cell q start x) v (inr later)
  ]

  max_or : (a b : ℕ) → (max a b ≡ a) ⊎ (max a b ≡ b)
  max_or a b = grind arith

  kind_there : (kept : List KeptFlush) (start : ℕ) → (fold (later_life cell q) start kept ≡ start) ⊎ ((v : ℕ) × ((is_kept kept q v ≡ true) × (life v ≡ fold (later_life cell q) start kept)))
  kind_there [] start = inl refl
  kind_there (x ∷ kept) start = elim (kind_there kept (later_life cell q start x)) [
    | inr there ↦ inr (there.0, (or_right (x.number == there.0 && covers x.flush q) (is_kept kept q there.0) there.1.0, there.1.1))
    | inl same ↦ elim (cases_Bool (covers x.flush q)) [
      | inr away ↦ inl (same ∙ ap (λ b. cond b (max start (life x.number)) start) away)
      | inl at ↦
          let now : later_life cell q start x ≡ max start (life x.number) = ap (λ b. cond b (max start (life x.number)) start) at in
          elim (max_or start (life x.number)) [
            | inl first ↦ inl (same ∙ (now ∙ first))
            | inr own ↦ inr (x.number, (ap (λ b. b || is_kept kept q x.number) (both (x.number == x.number) (covers x.flush q) (itself x.number) at), sym (same ∙ (now ∙ own))))
          ]
    ]
  ]
    where
      itself : (n : ℕ) → (n == n) ≡ true
      itself n = grind (arith, nat_tests)

  pub version_most : (kept : List KeptFlush) (v : ℕ) → is_version kept q v ≡ true → life v ≤ kind_life kept cell q
  version_most kept v there = elim (either (v == 0) (is_kept kept q v) there) [
    | inl first ↦ kind_most kept (life 0) v (inl (subst (λ n. life n ≤ life 0) (sym (eqb-true v 0 first)) (omega arith)))
    | inr own ↦ kind_most kept (life 0) v (inr own)
  ]

  pub version_there : (kept : List KeptFlush) → (v : ℕ) × ((is_version kept q v ≡ true) × (life v ≡ kind_life kept cell q))
  version_there kept = elim (kind_there kept (life 0)) [
    | inl first ↦ (0, (refl, sym first))
    | inr own ↦ (own.0, (or_right (own.0 == 0) (is_kept kept q own.0) own.1.0, own.1.1))
  ]

-- ---- a name

module _ (settlings : List Settling) (kept : List KeptFlush) (name : Labels) (cells : OwnerCells) where
  abbrev base : ℕ
  base = life_end (whole_held cells.whole (settled_version settlings name 0))

  abbrev of_kind : ℕ → ℕ
  of_kind k = kind_life kept (cell_at_name settlings name cells k) (record { owner = name; kind = k })

  start_low : (kinds : List KindColumn) (start : ℕ) → start ≤ fold (later_kind settlings kept name cells) start kinds
  start_low [] start = omega arith
  start_low (x ∷ kinds) start =
      let next : start ≤ max start (of_kind x.kind) = grind arith in
      let rest : max start (of_kind x.kind) ≤ fold (later_kind settlings kept name cells) (max start (of_kind x.kind)) kinds = start_low kinds (max start (of_kind x.kind)) in
      let all : start ≤ fold (later_kind settlings kept name cells) (max start (of_kind x.kind)) kinds = omega (arith, next, rest) in
      all

  kinds_most : (kinds : List KindColumn) (start k : ℕ) (column : Cells) → column_of kinds k ≡ Some column → of_kind k ≤ fold (later_kind settlings kept name cells) start kinds
  kinds_most [] start k column there = let none : None ≡ Some column = there in absurd cc
  kinds_most (x ∷ kinds) start k column there = elim (cases_Bool (x.kind == k)) [
    | inl here ↦
        let same : x.kind ≡ k = eqb-true x.kind k here in
        let low : of_kind x.kind ≤ max start (of_kind x.kind) = grind arith in
        let all : max start (of_kind x.kind) ≤ fold (later_kind settlings kept name cells) (max start (of_kind x.kind)) kinds = start_low kinds (max start (of_kind x.kind)) in
        subst (λ n. of_kind n ≤ fold (later_kind settlings kept name cells) (max start (of_kind x.kind)) kinds) same (omega (arith, low, all))
    | inr away ↦ kinds_most kinds (max start (of_kind x.kind)) k column (sym (ap (λ b. cond b (Some x.column) (column_of kinds k)) away) ∙ there)
  ]

  kinds_there : (kinds : List KindColumn) (start : ℕ) → (fold (later_kind settlings kept name cells) start kinds ≡ start) ⊎ ((k : ℕ) × (of_kind k ≡ fold (later_kind settlings kept name cells) start kinds))
  kinds_there [] start = inl refl
  kinds_there (x ∷ kinds) start = elim (kinds_there kinds (max start (of_kind x.kind))) [
    | inr there ↦ inr there
    | inl same ↦ elim (max_or start (of_kind x.kind)) [
      | inl first ↦ inl (same ∙ first)
      | inr own ↦ inr (x.kind, sym (same ∙ own))
    ]
  ]
    where
      max_or : (a b : ℕ) → (max a b ≡ a) ⊎ (max a b ≡ b)
      max_or a b = grind arith

  low_settled : (list : List Settling) (a b : ℕ) → a ≤ b → settled_version list name a ≤ settled_version list name b
  low_settled [] a b low = low
  low_settled (own ∷ later) a b low = low_settled later (after_settle (is_at_or_below name own.zone) own.number a) (after_settle (is_at_or_below name own.zone) own.number b) (by (is_at_or_below name own.zone))
    where
      by : (c : Bool) → after_settle c own.number a ≤ after_settle c own.number b
      by true = omega (arith, low)
      by false = low

  settled_low : (v : ℕ) → settled_version settlings name 0 ≤ settled_version settlings name v
  settled_low v = low_settled settlings 0 v (omega arith)

  whole_low : (whole : Option WholeFind) (a b : ℕ) → a ≤ b → life_end (whole_held whole b) ≤ life_end (whole_held whole a)
  whole_low None a b low = omega arith
  whole_low (Some whole) a b low = split (nat_lt whole.upto b) refl
    where
      all : Option (Admitted Find)
      all = Some (admission_of whole.find whole.find whole.since)

      split : (c : Bool) → nat_lt whole.upto b ≡ c → life_end (cond c None all) ≤ life_end (cond (nat_lt whole.upto a) None all)
      split true past = omega arith
      split false in_it =
          let first : nat_lt whole.upto a ≡ false = grind (arith, nat_tests) in
          subst (λ c. life_end all ≤ life_end (cond c None all)) (sym first) (omega arith)

  -- the find of the whole name does not end later
  pub whole_most : life_end (whole_held cells.whole (settled_version settlings name 0)) ≤ name_life settlings kept name cells
  whole_most = start_low cells.kinds.items base

  -- no find of a type in a version ends later
  pub name_most : (k v : ℕ) → is_version kept (record { owner = name; kind = k }) v ≡ true → life_end (cell_at_name settlings name cells k v) ≤ name_life settlings kept name cells
  name_most k v there = split (column_of cells.kinds.items k) refl
    where
      w : ℕ
      w = settled_version settlings name v

      split : (o : Option Cells) → column_of cells.kinds.items k ≡ o → life_end (cell_at_name settlings name cells k v) ≤ name_life settlings kept name cells
      split None at =
          let none : cell_at_name settlings name cells k v ≡ whole_held cells.whole w = ap (λ (o : Option Cells). column_held cells.whole o w) at in
          let low : life_end (cell_at_name settlings name cells k v) ≤ base =
          subst (λ (h : Option (Admitted Find)). life_end h ≤ base) (sym none) (whole_low cells.whole (settled_version settlings name 0) w (settled_low v)) in
          omega (arith, low, start_low cells.kinds.items base)
      split (Some column) at =
          omega (arith, version_most (cell_at_name settlings name cells k) (record { owner = name; kind = k }) kept v there, kinds_most cells.kinds.items base k column at)

  -- ---- a type that has no column

  abbrev past_kinds : List KindColumn → ℕ
  past_kinds [] = 0
  past_kinds (x ∷ kinds) = max (x.kind + 1) (past_kinds kinds)

  no_column : (kinds : List KindColumn) (k : ℕ) → past_kinds kinds ≤ k → column_of kinds k ≡ None
  no_column [] k high = refl
  no_column (x ∷ kinds) k high =
      let own : x.kind + 1 ≤ max (x.kind + 1) (past_kinds kinds) = grind arith in
      let rest : past_kinds kinds ≤ max (x.kind + 1) (past_kinds kinds) = grind arith in
      let most : max (x.kind + 1) (past_kinds kinds) ≤ k = high in
      let far : x.kind < k = omega (arith, own, most) in
      let away : (x.kind == k) ≡ false = grind (arith, nat_tests) in
      ap (λ b. cond b (Some x.column) (column_of kinds k)) away ∙ no_column kinds k (omega (arith, rest, most))

  -- one ends then
  pub name_there : (k : ℕ) × ((v : ℕ) × ((is_version kept (record { owner = name; kind = k }) v ≡ true) × (life_end (cell_at_name settlings name cells k v) ≡ name_life settlings kept name cells)))
  name_there = elim (kinds_there cells.kinds.items base) [
    | inl first ↦
        let k = past_kinds cells.kinds.items in
        let none : cell_at_name settlings name cells k 0 ≡ whole_held cells.whole (settled_version settlings name 0) =
        ap (λ (o : Option Cells). column_held cells.whole o (settled_version settlings name 0)) (no_column cells.kinds.items k (omega arith)) in
        (k, (0, (refl, ap life_end none ∙ sym first)))
    | inr own ↦
        let at = version_there (cell_at_name settlings name cells own.0) (record { owner = name; kind = own.0 }) kept in
        (own.0, (at.0, (at.1.0, at.1.1 ∙ own.1)))
  ]

-- ---- the choice that gives a version

turned : (a b : ℕ) → (a == b) ≡ (b == a)
turned a b = grind (arith, nat_tests)

only_fold : (kept : List KeptFlush) (q : Question) (v start : ℕ) → (start ≡ v) ⊎ (is_kept kept q v ≡ true) → fold (later_chosen q (only v)) start kept ≡ v
only_fold [] q v start (inl same) = same
only_fold [] q v start (inr there) = absurd (false≢true there)
only_fold (x ∷ kept) q v start is = elim (cases_Bool (only v x.number && covers x.flush q)) [
  | inl here ↦
      let own = parts (only v x.number) (covers x.flush q) here in
      only_fold kept q v (later_chosen q (only v) start x) (inl (ap (λ b. cond b x.number start) here ∙ sym (eqb-true v x.number own.0)))
  | inr away ↦
      let same : later_chosen q (only v) start x ≡ start = ap (λ b. cond b x.number start) away in
      let off : (x.number == v && covers x.flush q) ≡ false = ap (λ b. b && covers x.flush q) (turned x.number v) ∙ away in
      only_fold kept q v (later_chosen q (only v) start x) (elim is [
        | inl at ↦ inl (same ∙ at)
        | inr there ↦ elim (either (x.number == v && covers x.flush q) (is_kept kept q v) there) [
          | inl first ↦ absurd (false≢true (sym off ∙ first))
          | inr later ↦ inr later
        ]
      ])
]

pub only_version : (kept : List KeptFlush) (q : Question) (v : ℕ) → is_version kept q v ≡ true → chosen_version kept q (only v) ≡ v
only_version kept q v there = elim (either (v == 0) (is_kept kept q v) there) [
  | inl first ↦ only_fold kept q v 0 (inl (sym (eqb-true v 0 first)))
  | inr own ↦ only_fold kept q v 0 (inr own)
]

-- ---- a name whose versions are alike

module _ (cell : ℕ → Option (Admitted Find)) (q : Question) (like : (v : ℕ) → (cell v ≡ cell 0) ⊎ (cell v ≡ None)) where
  ends_before : (v : ℕ) → life_end (cell v) ≤ life_end (cell 0)
  ends_before v = elim (like v) [
    | inl same ↦ omega (arith, ap life_end same)
    | inr none ↦ omega (arith, ap life_end none)
  ]

  stays_last : (x : KeptFlush) → later_life cell q (life_end (cell 0)) x ≡ life_end (cell 0)
  stays_last x = split (covers x.flush q)
    where
      split : (b : Bool) → cond b (max (life_end (cell 0)) (life_end (cell x.number))) (life_end (cell 0)) ≡ life_end (cell 0)
      split true = omega (arith, ends_before x.number)
      split false = refl

  first_is_last : (kept : List KeptFlush) → kind_life kept cell q ≡ life_end (cell 0)
  first_is_last [] = refl
  first_is_last (x ∷ kept) = ap (λ (n : ℕ). fold (later_life cell q) n kept) (stays_last x) ∙ first_is_last kept

module _ (kept : List KeptFlush) (name : Labels) (cells : OwnerCells) (like : IsLikeFirst cells) where
  same_kinds : (kinds : List KindColumn) (end : ℕ) → fold (later_kind [] [] name cells) end kinds ≡ fold (later_kind [] kept name cells) end kinds
  same_kinds [] end = refl
  same_kinds (own ∷ kinds) end =
      let last = first_is_last (cell_at_name [] name cells own.kind) (record { owner = name; kind = own.kind }) (like own.kind) kept in
      ap (λ (n : ℕ). fold (later_kind [] [] name cells) (max end n) kinds) (sym last) ∙ same_kinds kinds (later_kind [] kept name cells end own)

  -- if the versions of a name are alike, its last find ends in the same second whichever flushes are kept
  pub life_of_alike : name_life [] [] name cells ≡ name_life [] kept name cells
  life_of_alike = same_kinds cells.kinds.items (life_end (whole_held cells.whole 0))
