-- Whether a find would be cached, and whether there is room for its place.
use Rattle.std.proofs.Common.{◌≡◌, ℕ, zero, suc, length, get_or, ◌+◌, ◌<◌, ◌≤◌, Bool, true, false, cond, Option, Some, None, List, [], ◌∷◌, refl, sym, ap, ◌∙◌, subst, arith, ◌⊎◌, inl, inr}
use Rattle.std.specs.Prelude.{fold, ◌==◌, ◌&&◌, not}
use Rattle.std.specs.Prelude.{Result, Ok, Err, IfErr, IsOk}
use Rattle.std.proofs.lemmas.Bool.{cases_Bool, eq-eqb, eqb-true, false≢true, and_parts}
use Rattle.dns_name.specs.Order.{name_eq_exact}
use Rattle.dns_text.specs.declared.record.Question.{Question}
use Rattle.ranked.specs.declared.find.Find.{Find}
use Rattle.ranked.specs.declared.find.Scope.{Scope}
use Rattle.ranked.specs.declared.find.Scope.TheVariants.{One, Whole}
use Rattle.ranked.specs.declared.cell.Admitted.{Admitted}
use Rattle.ranked.specs.Find.{touches, admission_of, has_kind}
use Rattle.ranked.specs.Cell.{after_admission, turns_away}
use Rattle.cell_store.specs.Count.{has_place_for, one_if}
use Rattle.shelf.specs.declared.shelf.KeptFlush.{KeptFlush}
use Rattle.shelf.specs.declared.shelf.Shelf.{Shelf}
use Rattle.shelf.specs.declared.fault.StoreFault.{StoreFault}
use Rattle.shelf.specs.declared.fault.StoreFault.TheVariants.{NoMemory}
use Rattle.shelf.specs.declared.room.Room.TheVariants as room
use Rattle.ranked.specs.Flush.{covers}
use Rattle.shelf.specs.Room.{takes, taken_by, is_taken, is_wanted, needs_place, room_for, IsFault}
use Rattle.shelf.specs.Told.{cell_at, is_kept, is_version, later_chosen, chosen_version}
use Rattle.cell_store.specs.TestLaws.{or_left, or_right, either, both, not_false}

-- ---- one version

some_is_none : {A : Type 0} (x : A) → Some x ≡ None → ⊥
some_is_none x is = cc

-- ---- all versions

module _ (cells : Question → ℕ → Option (Admitted Find)) (find : Find) (moment : ℕ) (question : Question) where
  taken_stays : (kept : List KeptFlush) → fold (taken_by cells find moment question) true kept ≡ true
  taken_stays [] = refl
  taken_stays (x ∷ kept) = ap (λ b. fold (taken_by cells find moment question) b kept) (always (covers x.flush question && takes cells find moment question x.number)) ∙ taken_stays kept
    where
      always : (b : Bool) → cond b true true ≡ true
      always true = refl
      always false = refl

  not_start : (kept : List KeptFlush) (t : Bool) → fold (taken_by cells find moment question) t kept ≡ false → t ≡ false
  not_start kept true is = absurd (false≢true (sym is ∙ taken_stays kept))
  not_start kept false is = refl

  chosen_true : (b t : Bool) → cond b true t ≡ false → b ≡ false
  chosen_true true t is = is
  chosen_true false t is = refl

  not_kept : (kept : List KeptFlush) (t : Bool) → fold (taken_by cells find moment question) t kept ≡ false → (v : ℕ) → is_kept kept question v ≡ true → takes cells find moment question v ≡ false
  not_kept [] t is v there = absurd (false≢true there)
  not_kept (x ∷ kept) t is v there = elim (either (x.number == v && covers x.flush question) (is_kept kept question v) there) [
    | inl here ↦
        let parts = and_parts _ _ here in
        let off : (covers x.flush question && takes cells find moment question x.number) ≡ false = chosen_true _ t (not_start kept (taken_by cells find moment question t x) is) in
        elim (cases_Bool (takes cells find moment question v)) [
          | inl yes_v ↦ absurd (false≢true (sym off ∙ both _ _ parts.1 (ap (takes cells find moment question) (eqb-true x.number v parts.0) ∙ yes_v)))
          | inr no_v ↦ no_v
        ]
    | inr later ↦ not_kept kept (taken_by cells find moment question t x) is v later
  ]

  -- the version of a flush that covers the question would cache it
  pub taken_at : (kept : List KeptFlush) (t : Bool) (i : ℕ) (own : KeptFlush) → i < length kept → own ≡ get_or kept i own → covers own.flush question ≡ true → takes cells find moment question own.number ≡ true → fold (taken_by cells find moment question) t kept ≡ true
  taken_at [] t i own low is covered taken = absurd (omega arith)
  taken_at (x ∷ kept) t zero own low is covered taken =
      let here : covers x.flush question ≡ true = ap (λ (k : KeptFlush). covers k.flush question) (sym is) ∙ covered in
      let there : takes cells find moment question x.number ≡ true = ap (λ (k : KeptFlush). takes cells find moment question k.number) (sym is) ∙ taken in
      ap (λ b. fold (taken_by cells find moment question) (cond b true t) kept) (both _ _ here there) ∙ taken_stays kept
  taken_at (x ∷ kept) t (suc i) own low is covered taken = taken_at kept (taken_by cells find moment question t x) i own (omega arith) is covered taken

  -- version 0 would cache it
  pub taken_first : (kept : List KeptFlush) → takes cells find moment question 0 ≡ true → is_taken cells kept find moment question ≡ true
  taken_first kept taken = ap (λ b. fold (taken_by cells find moment question) b kept) taken ∙ taken_stays kept

  -- no version would cache it
  pub not_version : (kept : List KeptFlush) → is_taken cells kept find moment question ≡ false → (v : ℕ) → is_version kept question v ≡ true → takes cells find moment question v ≡ false
  not_version kept is v there = elim (either (v == 0) (is_kept kept question v) there) [
    | inl none ↦ ap (takes cells find moment question) (eqb-true v 0 none) ∙ not_start kept (takes cells find moment question 0) is
    | inr some ↦ not_kept kept (takes cells find moment question 0) is v some
  ]

-- it leaves the cell as it is
pub stays : (cells : Question → ℕ → Option (Admitted Find)) (kept : List KeptFlush) (find : Find) (moment : ℕ) (kind : ℕ) → find.scope ≡ One kind → is_taken cells kept find moment (record { owner = find.owner; kind = kind }) ≡ false
    → (q : Question) (v : ℕ) → is_version kept q v ≡ true → cells q v ≡ cond (touches find q) (after_admission (cells q v) (admission_of find find moment)) (cells q v)
stays cells kept find moment kind scope none q v there = elim (cases_Bool (touches find q)) [
  | inl here ↦
      let parts = and_parts _ _ here in
      let owner : find.owner ≡ q.owner = name_eq_exact find.owner q.owner parts.0 in
      let type : kind ≡ q.kind = eqb-true kind q.kind (ap (λ s. has_kind s q.kind) (sym scope) ∙ parts.1) in
      let same : record { owner = find.owner; kind = kind } ≡ q = (λ i. record { owner = owner i; kind = type i }) in
      let away : turns_away (cells q v) (admission_of find find moment) ≡ true =
      not_false _ (not_version cells find moment q kept (ap (is_taken cells kept find moment) (sym same) ∙ none) v there) in
      sym (ap (λ b. cond b (after_admission (cells q v) (admission_of find find moment)) (cells q v)) here ∙ ap (λ b. cond b (cells q v) (Some (admission_of find find moment))) away)
  | inr gone ↦ sym (ap (λ b. cond b (after_admission (cells q v) (admission_of find find moment)) (cells q v)) gone)
]

-- ---- a choice has a version

chosen_or : (question : Question) (chosen : ℕ → Bool) (kept : List KeptFlush) (v : ℕ) → (fold (later_chosen question chosen) v kept ≡ v) ⊎ (is_kept kept question (fold (later_chosen question chosen) v kept) ≡ true)
chosen_or question chosen [] v = inl refl
chosen_or question chosen (x ∷ kept) v = elim (chosen_or question chosen kept (later_chosen question chosen v x)) [
  | inl same ↦ elim (cases_Bool (chosen x.number && covers x.flush question)) [
    | inl here ↦
        let at : fold (later_chosen question chosen) (later_chosen question chosen v x) kept ≡ x.number = same ∙ ap (λ b. cond b x.number v) here in
        inr (or_left _ _ (both _ _ (eq-eqb x.number _ (sym at)) (and_parts _ _ here).1))
    | inr gone ↦ inl (same ∙ ap (λ b. cond b x.number v) gone)
  ]
  | inr later ↦ inr (or_right _ _ later)
]

pub chosen_is_version : (kept : List KeptFlush) (question : Question) (chosen : ℕ → Bool) → is_version kept question (chosen_version kept question chosen) ≡ true
chosen_is_version kept question chosen = elim (chosen_or question chosen kept 0) [
  | inl none ↦ or_left _ _ (eq-eqb (chosen_version kept question chosen) 0 none)
  | inr some ↦ or_right _ _ some
]

-- ---- room

data_free : room.Free ≡ room.Full → ⊥
data_free is = cc

pub room_unwanted : (shelf : Shelf) (find : Find) (moment : ℕ) → room.Unwanted ≡ room_for shelf find moment → is_wanted shelf find moment find.scope ≡ false
room_unwanted shelf find moment is = split (has_place_for shelf.owners find) (is_wanted shelf find moment find.scope) (shelf.stored == shelf.limit) is
  where
    split : (h w e : Bool) → room.Unwanted ≡ cond h room.Free (cond w (cond e room.Full room.Free) room.Unwanted) → w ≡ false
    split true w e is = absurd cc
    split false true true is = absurd cc
    split false true false is = absurd cc
    split false false e is = refl

pub room_full : (shelf : Shelf) (find : Find) (moment : ℕ) → room.Full ≡ room_for shelf find moment → (shelf.stored ≡ shelf.limit) × (needs_place shelf find moment ≡ true)
room_full shelf find moment is = split (has_place_for shelf.owners find) (is_wanted shelf find moment find.scope) (shelf.stored == shelf.limit) refl is
  where
    split : (h w e : Bool) → (shelf.stored == shelf.limit) ≡ e → room.Full ≡ cond h room.Free (cond w (cond e room.Full room.Free) room.Unwanted) → (shelf.stored ≡ shelf.limit) × ((not h && w) ≡ true)
    split true w e same is = absurd cc
    split false true true same is = (eqb-true shelf.stored shelf.limit same, refl)
    split false true false same is = absurd cc
    split false false e same is = absurd cc

pub room_free : (shelf : Shelf) (find : Find) (moment : ℕ) → room.Free ≡ room_for shelf find moment → shelf.stored ≤ shelf.limit → shelf.stored + one_if (not (has_place_for shelf.owners find)) ≤ shelf.limit
room_free shelf find moment is few = split (has_place_for shelf.owners find) (is_wanted shelf find moment find.scope) (shelf.stored == shelf.limit) refl is
  where
    split : (h w e : Bool) → (shelf.stored == shelf.limit) ≡ e → room.Free ≡ cond h room.Free (cond w (cond e room.Full room.Free) room.Unwanted) → shelf.stored + one_if (not h) ≤ shelf.limit
    split true w e same is = omega arith
    split false true true same is = absurd cc
    split false true false same is =
        elim (lt_or shelf.stored shelf.limit few) [ inl low ↦ omega arith | inr at ↦ absurd (false≢true (sym same ∙ eq-eqb shelf.stored shelf.limit at)) ]
      where
        lt_or : (a b : ℕ) → a ≤ b → (a < b) ⊎ (a ≡ b)
        lt_or a b le = grind arith
    split false false e same is = absurd cc

-- ---- full if it needs a new place
pub full_room : (shelf : Shelf) (find : Find) (moment : ℕ) → shelf.stored ≡ shelf.limit → needs_place shelf find moment ≡ true → room_for shelf find moment ≡ room.Full
full_room shelf find moment same needs =
    split (has_place_for shelf.owners find) (is_wanted shelf find moment find.scope) needs ∙ ap (λ b. cond b room.Full room.Free) (eq-eqb shelf.stored shelf.limit same)
  where
    split : (h w : Bool) → (not h && w) ≡ true → cond h room.Free (cond w (cond (shelf.stored == shelf.limit) room.Full room.Free) room.Unwanted) ≡ cond (shelf.stored == shelf.limit) room.Full room.Free
    split true w is = absurd (false≢true is)
    split false true is = refl
    split false false is = absurd (false≢true is)

-- an admission that every version outranks changes none
pub unwanted_cell : (shelf : Shelf) (find : Find) (moment : ℕ) → is_wanted shelf find moment find.scope ≡ false → (q : Question) (v : ℕ) → is_version shelf.kept.items q v ≡ true
    → cell_at shelf q v ≡ cond (touches find q) (after_admission (cell_at shelf q v) (admission_of find find moment)) (cell_at shelf q v)
unwanted_cell shelf find moment none = split find.scope refl
  where
    split : (scope : Scope) → find.scope ≡ scope → (q : Question) (v : ℕ) → is_version shelf.kept.items q v ≡ true
        → cell_at shelf q v ≡ cond (touches find q) (after_admission (cell_at shelf q v) (admission_of find find moment)) (cell_at shelf q v)
    split (One kind) is q v there = stays (cell_at shelf) shelf.kept.items find moment kind is (ap (is_wanted shelf find moment) (sym is) ∙ none) q v there
    split Whole is q v there = absurd (false≢true (sym none ∙ ap (is_wanted shelf find moment) is))

pub not_both : (shelf : Shelf) (find : Find) (moment : ℕ) → room.Free ≡ room_for shelf find moment → shelf.stored ≡ shelf.limit → needs_place shelf find moment ≡ true → ⊥
not_both shelf find moment is same needs = data_free (is ∙ full_room shelf find moment same needs)

pub not_needed : (shelf : Shelf) (find : Find) (moment : ℕ) → room.Unwanted ≡ room_for shelf find moment → shelf.stored ≡ shelf.limit → needs_place shelf find moment ≡ true → ⊥
not_needed shelf find moment is same needs = let e : room.Unwanted ≡ room.Full = is ∙ full_room shelf find moment same needs in cc

-- it has a place, or needs one
pub has_or_needs : (shelf : Shelf) (find : Find) (moment : ℕ) → room.Free ≡ room_for shelf find moment → needs_place shelf find moment ≡ false → has_place_for shelf.owners find ≡ true
has_or_needs shelf find moment is = split (has_place_for shelf.owners find) (is_wanted shelf find moment find.scope) (shelf.stored == shelf.limit) is
  where
    split : (h w e : Bool) → room.Free ≡ cond h room.Free (cond w (cond e room.Full room.Free) room.Unwanted) → (not h && w) ≡ false → h ≡ true
    split true w e is none = refl
    split false true e is none = absurd (false≢true (sym none))
    split false false e is none = absurd cc

-- memory is refused only for a find whose place is not counted yet
pub fault_of : {T : Type 0} (shelf : Shelf) (find : Find) (moment : ℕ) (result : Result T StoreFault) → IfErr result (λ fault. fault ≡ NoMemory) → (has_place_for shelf.owners find ≡ true → IsOk result) → IfErr result (λ fault. IsFault shelf find moment fault)
fault_of shelf find moment (Ok done) is free = tt
fault_of shelf find moment (Err fault) is free = subst (λ f. IsFault shelf find moment f) (sym is) (split (has_place_for shelf.owners find) refl)
  where
    split : (b : Bool) → has_place_for shelf.owners find ≡ b → has_place_for shelf.owners find ≡ false
    split true has = absurd (false≢true (free has))
    split false none = none
