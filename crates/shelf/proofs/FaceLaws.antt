-- The cells for each choice of the kept flushes.
use Rattle.std.proofs.Common.{◌≡◌, ℕ, zero, suc, ◌+◌, ◌<◌, ◌≤◌, max, length, get_or, Bool, true, false, cond, Option, Some, None, List, [], ◌∷◌, ◌++◌, map, refl, sym, ap, ◌∙◌, subst, arith, ◌⊎◌, inl, inr}
use Rattle.std.specs.Prelude.{fold, ◌==◌, ◌&&◌, ◌||◌, IfSome}
use Rattle.std.specs.List.{AllByRecursion, list_any, remove}
use Rattle.std.proofs.Math.Bool.{or-false}
use Rattle.std.proofs.lemmas.Bool.{cases_Bool, eq-eqb, eqb-true}
use Rattle.std.proofs.lemmas.List.Sums.{fold-append}
use Rattle.indexmap.specs.IndexMap.{IndexMap, get}
use Rattle.dns_name.specs.Order.{name_eq}
use Rattle.cell_store.specs.declared.owner.KindColumn.{KindColumn}
use Rattle.cell_store.specs.declared.owner.WholeFind.{WholeFind}
use Rattle.cell_store.specs.Owner.{IsWholeUpTo, IsUpTo}
use Rattle.dns_name.specs.Labels.{Labels}
use Rattle.dns_text.specs.declared.record.Question.{Question}
use Rattle.cell_store.specs.declared.owner.OwnerCells.{OwnerCells}
use Rattle.ranked.specs.declared.find.Find.{Find}
use Rattle.ranked.specs.declared.cell.Admitted.{Admitted}
use Rattle.cell_store.specs.Store.{AreUpTo, CanSettleAt}
use Rattle.ranked.specs.declared.flush.Reach.TheVariants.{OneType, Name, Zone}
use Rattle.ranked.specs.declared.flush.Flush.{Flush}
use Rattle.shelf.specs.declared.shelf.KeptFlush.{KeptFlush}
use Rattle.ranked.specs.Flush.{covers, reaches, flushed_types}
use Rattle.dns_name.specs.Below.{is_at_or_below}
use Rattle.shelf.specs.Kept.{with_shown}
use Rattle.shelf.specs.Told.{IsAscending, CanSettleFlush, types_of, later_chosen, chosen_version, without}

-- ---- a flush is undone or redone

pub same_all : (P : KeptFlush → Type 0) (number : ℕ) (shown : Bool) → ((own : KeptFlush) → P own → P (with_shown number shown own)) → (kept : List KeptFlush) → AllByRecursion P kept → AllByRecursion P (map (with_shown number shown) kept)
same_all P number shown step [] all = tt
same_all P number shown step (x ∷ kept) all = (step x all.0, same_all P number shown step kept all.1)

pub same_ascending : (number : ℕ) (shown : Bool) (kept : List KeptFlush) → IsAscending kept → IsAscending (map (with_shown number shown) kept)
same_ascending number shown [] is = tt
same_ascending number shown (x ∷ kept) is = (same_all (λ other. x.number < other.number) number shown (λ own low. low) kept is.0, same_ascending number shown kept is.1)

same_fold : (number : ℕ) (shown : Bool) (kept : List KeptFlush) (question : Question) (chosen : ℕ → Bool) (v : ℕ) → fold (later_chosen question chosen) v (map (with_shown number shown) kept) ≡ fold (later_chosen question chosen) v kept
same_fold number shown [] question chosen v = refl
same_fold number shown (x ∷ kept) question chosen v = same_fold number shown kept question chosen (later_chosen question chosen v x)

pub same_chosen : (number : ℕ) (shown : Bool) (kept : List KeptFlush) (question : Question) (chosen : ℕ → Bool) → chosen_version (map (with_shown number shown) kept) question chosen ≡ chosen_version kept question chosen
same_chosen number shown kept question chosen = same_fold number shown kept question chosen 0

-- ---- one flush more

low_fold : (top : ℕ) (kept : List KeptFlush) (question : Question) (chosen : ℕ → Bool) (v : ℕ) → AllByRecursion (λ own. own.number ≤ top) kept → v ≤ top → fold (later_chosen question chosen) v kept ≤ top
low_fold top [] question chosen v all low = low
low_fold top (x ∷ kept) question chosen v all low = low_fold top kept question chosen (later_chosen question chosen v x) all.1 (split (chosen x.number && covers x.flush question))
  where
    split : (b : Bool) → cond b x.number v ≤ top
    split true = all.0
    split false = low

pub chosen_low : (top : ℕ) (kept : List KeptFlush) (question : Question) (chosen : ℕ → Bool) → AllByRecursion (λ own. own.number ≤ top) kept → chosen_version kept question chosen ≤ top
chosen_low top kept question chosen all = low_fold top kept question chosen 0 all (omega arith)

pub flush_face : (before after : Question → ℕ → Option (Admitted Find)) (kept left : List KeptFlush) (own : KeptFlush) → ((q : Question) → before q own.number ≡ None) → ((q : Question) (v : ℕ) → after q v ≡ before q v) → left ≡ kept ++ own ∷ []
    → (chosen : ℕ → Bool) (q : Question) → after q (chosen_version left q chosen) ≡ cond (chosen own.number && covers own.flush q) None (before q (chosen_version kept q chosen))
flush_face before after kept left own nothing cells is chosen q =
    ap (λ (l : List KeptFlush). after q (chosen_version l q chosen)) is
    ∙ (cells q (chosen_version (kept ++ own ∷ []) q chosen)
    ∙ (ap (before q) (fold-append (later_chosen q chosen) 0 kept (own ∷ []))
    ∙ split (chosen own.number && covers own.flush q)))
  where
    split : (b : Bool) → before q (cond b own.number (chosen_version kept q chosen)) ≡ cond b None (before q (chosen_version kept q chosen))
    split true = nothing q
    split false = refl

all_append : (P : KeptFlush → Type 0) (kept : List KeptFlush) (own : KeptFlush) → AllByRecursion P kept → P own → AllByRecursion P (kept ++ own ∷ [])
all_append P [] own all here = (here, tt)
all_append P (x ∷ kept) own all here = (all.0, all_append P kept own all.1 here)

pub all_more : (P Q : KeptFlush → Type 0) (kept : List KeptFlush) (own : KeptFlush) → ((k : KeptFlush) → P k → Q k) → AllByRecursion P kept → Q own → AllByRecursion Q (kept ++ own ∷ [])
all_more P Q [] own step all here = (here, tt)
all_more P Q (x ∷ kept) own step all here = (step x all.0, all_more P Q kept own step all.1 here)

pub ascending_more : (top : ℕ) (kept : List KeptFlush) (own : KeptFlush) → AllByRecursion (λ k. k.number ≤ top) kept → top < own.number → IsAscending kept → IsAscending (kept ++ own ∷ [])
ascending_more top [] own low newest is = (tt, tt)
ascending_more top (x ∷ kept) own low newest is = (all_append (λ k. x.number < k.number) kept own is.0 (omega (arith, low.0)), ascending_more top kept own low.1 newest is.1)

-- ---- the oldest becomes permanent

-- a fold over the flushes takes none of them, or does not depend on where it began
begun : (number : ℕ) (kept : List KeptFlush) (q : Question) (chosen : ℕ → Bool) → AllByRecursion (λ own. number < own.number) kept
    → ((v : ℕ) → fold (later_chosen q chosen) v kept ≡ v) ⊎ ((w : ℕ) × ((number < w) × ((v : ℕ) → fold (later_chosen q chosen) v kept ≡ w)))
begun number [] q chosen all = inl (λ v. refl)
begun number (x ∷ kept) q chosen all = elim (begun number kept q chosen all.1) [
  | inl none ↦ elim (cases_Bool (chosen x.number && covers x.flush q)) [
    | inl here ↦ inr (x.number, (all.0, λ v. none (later_chosen q chosen v x) ∙ ap (λ b. cond b x.number v) here))
    | inr gone ↦ inl (λ v. none (later_chosen q chosen v x) ∙ ap (λ b. cond b x.number v) gone)
  ]
  | inr some ↦ inr (some.0, (some.1.0, λ v. some.1.1 (later_chosen q chosen v x)))
]

max_later : (number w : ℕ) → number < w → max number w ≡ w
max_later number w low = grind arith

max_zero : (number : ℕ) → max number 0 ≡ number
max_zero number = grind arith

pub oldest_face : (before after : Question → ℕ → Option (Admitted Find)) (own : KeptFlush) (later : List KeptFlush) → IsAscending (own ∷ later)
    → ((q : Question) (v : ℕ) → after q v ≡ before q (cond (covers own.flush q) (max own.number v) v))
    → (chosen : ℕ → Bool) → chosen own.number ≡ true → (q : Question) → after q (chosen_version later q chosen) ≡ before q (chosen_version (own ∷ later) q chosen)
oldest_face before after own later is cells chosen with q = cells q (chosen_version later q chosen) ∙ ap (before q) (split (covers own.flush q) refl)
  where
    start : later_chosen q chosen 0 own ≡ cond (covers own.flush q) own.number 0
    start = ap (λ b. cond (b && covers own.flush q) own.number 0) with

    split : (b : Bool) → covers own.flush q ≡ b → cond (covers own.flush q) (max own.number (chosen_version later q chosen)) (chosen_version later q chosen) ≡ fold (later_chosen q chosen) (later_chosen q chosen 0 own) later
    split true here =
        ap (λ b. cond b (max own.number (chosen_version later q chosen)) (chosen_version later q chosen)) here
        ∙ (elim (begun own.number later q chosen is.0) [
          | inl none ↦ ap (max own.number) (none 0) ∙ (max_zero own.number ∙ sym (none own.number))
          | inr some ↦ ap (max own.number) (some.1.1 0) ∙ (max_later own.number some.0 some.1.0 ∙ sym (some.1.1 own.number))
        ]
        ∙ sym (ap (λ v. fold (later_chosen q chosen) v later) (start ∙ ap (λ b. cond b own.number 0) here)))
    split false gone =
        ap (λ b. cond b (max own.number (chosen_version later q chosen)) (chosen_version later q chosen)) gone
        ∙ sym (ap (λ v. fold (later_chosen q chosen) v later) (start ∙ ap (λ b. cond b own.number 0) gone))

-- ---- one leaves the list

pub all_without : (P : KeptFlush → Type 0) (number : ℕ) (kept : List KeptFlush) → AllByRecursion P kept → AllByRecursion P (without number kept)
all_without P number [] all = tt
all_without P number (x ∷ kept) all = split (x.number == number) (all_without P number kept all.1)
  where
    split : (b : Bool) → AllByRecursion P (without number kept) → AllByRecursion P (cond b kept (x ∷ without number kept))
    split true rest = all.1
    split false rest = (all.0, rest)

pub ascending_without : (number : ℕ) (kept : List KeptFlush) → IsAscending kept → IsAscending (without number kept)
ascending_without number [] is = tt
ascending_without number (x ∷ kept) is = split (x.number == number) (ascending_without number kept is.1)
  where
    split : (b : Bool) → IsAscending (without number kept) → IsAscending (cond b kept (x ∷ without number kept))
    split true rest = is.1
    split false rest = (all_without (λ other. x.number < other.number) number kept is.0, rest)

without_fold : (number : ℕ) (kept : List KeptFlush) (q : Question) (chosen : ℕ → Bool) → chosen number ≡ false → (v : ℕ) → fold (later_chosen q chosen) v (without number kept) ≡ fold (later_chosen q chosen) v kept
without_fold number [] q chosen not v = refl
without_fold number (x ∷ kept) q chosen not v = elim (cases_Bool (x.number == number)) [
  | inl here ↦
      let off : chosen x.number ≡ false = ap chosen (eqb-true x.number number here) ∙ not in
      ap (λ b. fold (later_chosen q chosen) v (cond b kept (x ∷ without number kept))) here
      ∙ sym (ap (λ b. fold (later_chosen q chosen) (cond (b && covers x.flush q) x.number v) kept) off)
  | inr gone ↦
      ap (λ b. fold (later_chosen q chosen) v (cond b kept (x ∷ without number kept))) gone ∙ without_fold number kept q chosen not (later_chosen q chosen v x)
]

pub chosen_without : (number : ℕ) (kept : List KeptFlush) (q : Question) (chosen : ℕ → Bool) → chosen number ≡ false → chosen_version (without number kept) q chosen ≡ chosen_version kept q chosen
chosen_without number kept q chosen not = without_fold number kept q chosen not 0

-- ---- by the list as the code has it

pub read_first : (kept : List KeptFlush) (own first : KeptFlush) (later : List KeptFlush) → first ≡ get_or kept 0 first → kept ≡ own ∷ later → first ≡ own
read_first kept own first later read is = read ∙ ap (λ (l : List KeptFlush). get_or l 0 first) is

rest_first : (kept left : List KeptFlush) (own : KeptFlush) (later : List KeptFlush) → left ≡ remove kept 0 → kept ≡ own ∷ later → left ≡ later
rest_first kept left own later removed is = removed ∙ ap (λ (l : List KeptFlush). remove l 0) is

pub removed_kept : (kept left : List KeptFlush) → left ≡ remove kept 0 → (own : KeptFlush) (later : List KeptFlush) → kept ≡ own ∷ later → left ≡ later
removed_kept kept left removed own later is = rest_first kept left own later removed is

pub removed_face : (before after : Question → ℕ → Option (Admitted Find)) (kept left : List KeptFlush) (first : KeptFlush) → IsAscending kept → first ≡ get_or kept 0 first → left ≡ remove kept 0
    → ((q : Question) (v : ℕ) → after q v ≡ before q (cond (covers first.flush q) (max first.number v) v))
    → (own : KeptFlush) (later : List KeptFlush) (chosen : ℕ → Bool) → kept ≡ own ∷ later → chosen own.number ≡ true → (q : Question) → after q (chosen_version left q chosen) ≡ before q (chosen_version kept q chosen)
removed_face before after kept left first asc read removed cells own later chosen is with q =
    let one : first ≡ own = read_first kept own first later read is in
    let cells' : (q : Question) (v : ℕ) → after q v ≡ before q (cond (covers own.flush q) (max own.number v) v) =
    subst (λ (k : KeptFlush). (q : Question) (v : ℕ) → after q v ≡ before q (cond (covers k.flush q) (max k.number v) v)) one cells in
    ap (λ (l : List KeptFlush). after q (chosen_version l q chosen)) (rest_first kept left own later removed is)
    ∙ (oldest_face before after own later (subst (λ (l : List KeptFlush). IsAscending l) is asc) cells' chosen with q
    ∙ ap (λ (l : List KeptFlush). before q (chosen_version l q chosen)) (sym is))

pub all_removed : (P : KeptFlush → Type 0) (kept left : List KeptFlush) → left ≡ remove kept 0 → AllByRecursion P kept → AllByRecursion P left
all_removed P kept left removed all = subst (λ (l : List KeptFlush). AllByRecursion P l) (sym removed) (split kept all)
  where
    split : (l : List KeptFlush) → AllByRecursion P l → AllByRecursion P (remove l 0)
    split [] is = tt
    split (x ∷ l) is = is.1

pub ascending_removed : (kept left : List KeptFlush) → left ≡ remove kept 0 → IsAscending kept → IsAscending left
ascending_removed kept left removed is = subst (λ (l : List KeptFlush). IsAscending l) (sym removed) (split kept is)
  where
    split : (l : List KeptFlush) → IsAscending l → IsAscending (remove l 0)
    split [] h = tt
    split (x ∷ l) h = h.1

pub all_first : (P : KeptFlush → Type 0) (kept : List KeptFlush) (first : KeptFlush) → 0 < length kept → first ≡ get_or kept 0 first → AllByRecursion P kept → P first
all_first P [] first some read all = absurd (omega arith)
all_first P (x ∷ kept) first some read all = subst (λ (k : KeptFlush). P k) (sym read) all.0

-- ---- one is taken out, found by its number

pub removed_here : (number place : ℕ) (kept : List KeptFlush) (lent : KeptFlush) → ((i : ℕ) (d : KeptFlush) → i < place → ((get_or kept i d).number == number) ≡ false)
    → place < length kept → lent ≡ get_or kept place lent → lent.number ≡ number → remove kept place ≡ without number kept
removed_here number place [] lent before low read here = absurd (omega arith)
removed_here number zero (x ∷ kept) lent before low read here =
    let at : (x.number == number) ≡ true = ap (λ (k : KeptFlush). k.number == number) (sym read) ∙ eq-eqb lent.number number here in
    sym (ap (λ b. cond b kept (x ∷ without number kept)) at)
removed_here number (suc place) (x ∷ kept) lent before low read here =
    let away : (x.number == number) ≡ false = before 0 x (omega arith) in
    ap (λ (l : List KeptFlush). x ∷ l) (removed_here number place kept lent (λ i d few. before (suc i) d (omega arith)) (omega arith) read here)
    ∙ sym (ap (λ b. cond b kept (x ∷ without number kept)) away)

pub removed_none : (number place : ℕ) (kept : List KeptFlush) → ((i : ℕ) (d : KeptFlush) → i < place → ((get_or kept i d).number == number) ≡ false) → length kept ≤ place → kept ≡ without number kept
removed_none number place [] before high = refl
removed_none number zero (x ∷ kept) before high = absurd (omega arith)
removed_none number (suc place) (x ∷ kept) before high =
    let away : (x.number == number) ≡ false = before 0 x (omega arith) in
    ap (λ (l : List KeptFlush). x ∷ l) (removed_none number place kept (λ i d few. before (suc i) d (omega arith)) (omega arith))
    ∙ sym (ap (λ b. cond b kept (x ∷ without number kept)) away)

-- ---- a greater number

whole_greater : (top more : ℕ) (whole : Option WholeFind) → top ≤ more → IsWholeUpTo top whole → IsWholeUpTo more whole
whole_greater top more None le is = tt
whole_greater top more (Some w) le is = omega (arith, is)

kinds_greater : (top more : ℕ) (kinds : List KindColumn) → top ≤ more → AllByRecursion (λ own. own.column.upto ≤ top) kinds → AllByRecursion (λ own. own.column.upto ≤ more) kinds
kinds_greater top more [] le all = tt
kinds_greater top more (x ∷ kinds) le all = (omega (arith, all.0), kinds_greater top more kinds le all.1)

owner_greater : (top more : ℕ) (o : Option OwnerCells) → top ≤ more → IfSome o (IsUpTo top) → IfSome o (IsUpTo more)
owner_greater top more None le is = tt
owner_greater top more (Some cells) le is = record { whole = whole_greater top more cells.whole le is.whole; kinds = kinds_greater top more cells.kinds.items le is.kinds; left = is.left; once = is.once; wide = is.wide; own = is.own }

pub upto_greater : {S : Type 0} (owners : IndexMap Labels OwnerCells S) (top more : ℕ) → top ≤ more → AreUpTo top owners → AreUpTo more owners
upto_greater owners top more le is name = owner_greater top more (get name_eq owners name) le (is name)

-- ---- each flush can become permanent

settles_kinds : {S : Type 0} (owners after : IndexMap Labels OwnerCells S) (number : ℕ) (name : Labels) (kinds : List ℕ) → ((k : ℕ) → CanSettleAt number k name owners → CanSettleAt number k name after)
    → AllByRecursion (λ kind. CanSettleAt number kind name owners) kinds → AllByRecursion (λ kind. CanSettleAt number kind name after) kinds
settles_kinds owners after number name [] step all = tt
settles_kinds owners after number name (k ∷ kinds) step all = (step k all.0, settles_kinds owners after number name kinds step all.1)

settles_flush : {S : Type 0} (owners after : IndexMap Labels OwnerCells S) (number : ℕ) (flush : Flush) → ((k : ℕ) → CanSettleAt number k flush.name owners → CanSettleAt number k flush.name after)
    → CanSettleFlush owners number flush → CanSettleFlush after number flush
settles_flush owners after number flush step told = settles_kinds owners after number flush.name (types_of flush.reach) step told

pub settles_kept : {S : Type 0} (owners after : IndexMap Labels OwnerCells S) (top : ℕ) (kept : List KeptFlush) → ((n k : ℕ) (name : Labels) → n ≤ top → CanSettleAt n k name owners → CanSettleAt n k name after)
    → AllByRecursion (λ own. own.number ≤ top) kept → AllByRecursion (λ own. CanSettleFlush owners own.number own.flush) kept → AllByRecursion (λ own. CanSettleFlush after own.number own.flush) kept
settles_kept owners after top [] step low told = tt
settles_kept owners after top (x ∷ kept) step low told = (settles_flush owners after x.number x.flush (λ k t. step x.number k x.flush.name low.0 t) told.0, settles_kept owners after top kept step low.1 told.1)

pub settles_each : {S : Type 0} (owners after : IndexMap Labels OwnerCells S) (kept : List KeptFlush) → ((n k : ℕ) (name : Labels) → CanSettleAt n k name owners → CanSettleAt n k name after)
    → AllByRecursion (λ own. CanSettleFlush owners own.number own.flush) kept → AllByRecursion (λ own. CanSettleFlush after own.number own.flush) kept
settles_each owners after [] step told = tt
settles_each owners after (x ∷ kept) step told = (settles_flush owners after x.number x.flush (λ k t. step x.number k x.flush.name t) told.0, settles_each owners after kept step told.1)

-- ---- the questions that a flush covers

pub covers_below : (flush : Flush) (q : Question) → flush.reach ≡ Zone → covers flush q ≡ is_at_or_below q.owner flush.name
covers_below flush q is = ap (λ r. reaches r flush.name q) is

pub covers_one : (flush : Flush) (kind : ℕ) (q : Question) → flush.reach ≡ OneType kind → covers flush q ≡ (name_eq flush.name q.owner && list_any (λ own. own == q.kind) (kind ∷ []))
covers_one flush kind q is = ap (λ r. reaches r flush.name q) is ∙ ap (λ b. name_eq flush.name q.owner && b) (sym (or-false (kind == q.kind)))

pub covers_name : (flush : Flush) (q : Question) → flush.reach ≡ Name → covers flush q ≡ (name_eq flush.name q.owner && list_any (λ own. own == q.kind) flushed_types)
covers_name flush q is = ap (λ r. reaches r flush.name q) is

pub length_shown : (number : ℕ) (shown : Bool) (kept : List KeptFlush) → length (map (with_shown number shown) kept) ≡ length kept
length_shown number shown [] = refl
length_shown number shown (x ∷ kept) = ap suc (length_shown number shown kept)

-- a flush of a number was kept and has gone, or none was
pub without_or : (number : ℕ) (kept : List KeptFlush) → ((without number kept ≡ kept) × (list_any (λ (own : KeptFlush). own.number == number) kept ≡ false))
    ⊎ ((length (without number kept) + 1 ≡ length kept) × (list_any (λ (own : KeptFlush). own.number == number) kept ≡ true))
without_or number [] = inl (refl, refl)
without_or number (x ∷ kept) = split (x.number == number) (without_or number kept)
  where
    split : (b : Bool) → ((without number kept ≡ kept) × (list_any (λ (own : KeptFlush). own.number == number) kept ≡ false)) ⊎ ((length (without number kept) + 1 ≡ length kept) × (list_any (λ (own : KeptFlush). own.number == number) kept ≡ true))
        → ((cond b kept (x ∷ without number kept) ≡ x ∷ kept) × ((b || list_any (λ (own : KeptFlush). own.number == number) kept) ≡ false))
        ⊎ ((length (cond b kept (x ∷ without number kept)) + 1 ≡ length (x ∷ kept)) × ((b || list_any (λ (own : KeptFlush). own.number == number) kept) ≡ true))
    split true rest = inr (omega arith, refl)
    split false (inl same) = inl (ap (λ (l : List KeptFlush). x ∷ l) same.0, same.1)
    split false (inr less) = inr (omega (arith, less.0), less.1)

pub less_without : (number : ℕ) (kept now : List KeptFlush) → now ≡ without number kept → length now < length kept → (length now + 1 ≡ length kept) × (list_any (λ (own : KeptFlush). own.number == number) kept ≡ true)
less_without number kept now at fewer = elim (without_or number kept) [
  | inl same ↦ absurd (omega (arith, fewer, ap length at, ap length same.0))
  | inr less ↦ (omega (arith, ap length at, less.0), less.1)
]

pub same_without : (number : ℕ) (kept now : List KeptFlush) → now ≡ without number kept → length kept ≤ length now → (now ≡ kept) × (list_any (λ (own : KeptFlush). own.number == number) kept ≡ false)
same_without number kept now at more = elim (without_or number kept) [
  | inl same ↦ (at ∙ same.0, same.1)
  | inr less ↦ absurd (omega (arith, more, ap length at, less.0))
]

pub length_without : (number : ℕ) (kept : List KeptFlush) → length (without number kept) ≤ length kept
length_without number [] = omega arith
length_without number (x ∷ kept) = split (x.number == number) (length_without number kept)
  where
    split : (b : Bool) → length (without number kept) ≤ length kept → length (cond b kept (x ∷ without number kept)) ≤ suc (length kept)
    split true low = omega arith
    split false low = omega (arith, low)
