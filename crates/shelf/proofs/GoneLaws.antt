-- The tree of the places when one goes: the last one is no winner any more, and a node that it does not concern keeps its own.
use Rattle.std.proofs.Common.{◌≡◌, ℕ, zero, suc, ◌+◌, ◌*◌, ◌/◌, ◌<◌, ◌≤◌, List, [], length, refl, sym, ap, ◌∙◌, subst, arith, ◌⊎◌, inl, inr}
use Rattle.std.proofs.Math.ListN.{set, length-set}
use Rattle.std.proofs.lemmas.List.{get_or-set_same, get_or-set_other}
use Rattle.dns_name.specs.Labels.{Labels}
use Rattle.cell_store.specs.declared.owner.OwnerCells.{OwnerCells}
use Rattle.winner_tree.specs.Tree.{up, IsBelow}
use Rattle.shelf.specs.Lasts.{winner_at, AreFirstBut, AreFirstButGone, AreLetGo, AreMoved, AreRight, AreWithin, HaveCome, IsNodeOrWinner, IsRight, IsUnder, IsWinner, Leads}
use Rattle.shelf.proofs.ListLaws.{same_or}
use Rattle.shelf.proofs.OrderLaws.{up_last, up_low}
use Rattle.shelf.proofs.WinnerLaws.{next_within, right_next, up_none, within_set}
use Rattle.shelf.proofs.AgainLaws.{by_next, come_first, come_set, next_under}

-- ---- places at or below a node

below_then : (a b k l n : ℕ) → up k (b + 1) ≡ a + 1 → up l n ≡ b + 1 → (m : ℕ) × (up m n ≡ a + 1)
below_then a b k zero n near far = (k, ap (up k) far ∙ near)
below_then a b k (suc l) n near far = let more = below_then a b k l (n / 2) near far in (suc more.0, more.1)

under_come : (old new : List ℕ) → length new ≡ length old → HaveCome old new → (i j : ℕ) → IsUnder new i j → IsUnder old i j
under_come old new size come i j (m, (low, (below, inl same))) = (m, (omega (arith, low, size), (below, inl same)))
under_come old new size come i j (m, (low, (below, inr same))) =
    let was = come m (omega (arith, low, size)) in (
      was.0,
      (
        was.1.0,
        (
          below_then i m below.0 was.1.1.0.0 (was.0 + 1) below.1 was.1.1.0.1,
          elim was.1.1.1 [
            | inl at ↦ inl (same ∙ at)
            | inr at ↦ inr (same ∙ at)
          ],
        ),
      ),
    )

-- a node that is not at or above one is not at or above its parent, but for itself
off_more : (node c i : ℕ) → c + 1 ≡ node → (i ≡ c → ⊥) → ((k : ℕ) → up k (node / 2) ≡ i + 1 → ⊥) → (k : ℕ) → up k node ≡ i + 1 → ⊥
off_more node c i is away off zero at = away (omega (arith, at, is))
off_more node c i is away off (suc k) at = off k at

above_last : (n i : ℕ) → i < n → IsBelow i n → (k : ℕ) × (up k ((n + 1) / 2) ≡ i + 1)
above_last n i low (zero, at) = absurd (omega (arith, low, at))
above_last n i low (suc k, at) = (k, at)

-- ---- the last place is no winner any more

-- the nodes are done that are not at or above one, whose number is one less
pub record IsLettingGo (entries : List (Labels × OwnerCells)) (lasts old winners : List ℕ) (node : ℕ) : Type 0 where
  pub low : node ≤ length winners
  pub size : length winners ≡ length old
  pub within : AreWithin winners
  pub come : HaveCome old winners
  pub same : (i : ℕ) → i < node → winner_at winners i ≡ winner_at old i
  pub kept : (i : ℕ) → i < length old → (winner_at old i ≡ length old → ⊥) → winner_at winners i ≡ winner_at old i
  pub gone : (i : ℕ) → i < length old → ((k : ℕ) → up k node ≡ i + 1 → ⊥) → winner_at winners i ≡ length old → ⊥
  pub right : (i : ℕ) → i < length old → ((k : ℕ) → up k node ≡ i + 1 → ⊥) → winner_at old i ≡ length old → IsRight entries lasts winners i

module _ (entries : List (Labels × OwnerCells)) (lasts old : List ℕ) where
  pub go_first : (last : ℕ) → last ≡ length old → AreWithin old → IsLettingGo entries lasts old old ((last + 1) / 2)
  go_first last at within = record {
    low = omega (arith, at);
    size = refl;
    within = within;
    come = come_first old;
    same = λ i low. refl;
    kept = λ i low off. refl;
    gone = last_off;
    right = λ i low off is. absurd (last_off i low off is);
  }
    where
      last_off : (i : ℕ) → i < length old → ((k : ℕ) → up k ((last + 1) / 2) ≡ i + 1 → ⊥) → winner_at old i ≡ length old → ⊥
      last_off i low off is =
          let below : IsBelow i last = subst (λ n. IsBelow i n) (is ∙ sym at) (within i low) in
          let above = above_last last i (omega (arith, low, at)) below in
          off above.0 above.1

  module _ (winners : List ℕ) (node c : ℕ) (here : c + 1 ≡ node) (is : IsLettingGo entries lasts old winners node) where
    low_here : c < length winners
    low_here = omega (arith, is.low, here)

    pub go_on : (v : ℕ) → winner_at winners c ≡ length old → IsWinner entries lasts winners c v → IsNodeOrWinner winners c v → IsLettingGo entries lasts old (set winners c v) (node / 2)
    go_on v was winner next = record {
      low = omega (arith, is.low, length-set winners c v);
      size = length-set winners c v ∙ is.size;
      within = within_set entries lasts winners c v low_here (next_within winners c v next is.within) is.within;
      come = come_set old winners is.size is.come c (omega (arith, low_here, is.size)) v (next_under old winners is.size is.come c (omega (arith, low_here, is.size)) v next);
      same = λ i low. get_or-set_other winners c i v 0 (λ at. omega (arith, low, at, here)) ∙ is.same i (omega (arith, low));
      kept = λ i low off. get_or-set_other winners c i v 0 (λ at. off (sym (is.kept i low off) ∙ (ap (winner_at winners) at ∙ was))) ∙ is.kept i low off;
      gone = λ i low off at. elim (same_or i c) [
        | inl same ↦ not_next (sym (get_or-set_same winners c v 0 low_here) ∙ (ap (winner_at (set winners c v)) (sym same) ∙ at)) next
        | inr away ↦ is.gone i low (off_more node c i here away off) (sym (get_or-set_other winners c i v 0 away) ∙ at)
      ];
      right = λ i low off at. right_next entries lasts winners c v low_here node i here winner is.within (omega (arith, low, is.size)) off (λ before. is.right i low before at);
    }
      where
        past : (j : ℕ) → c < j → (k : ℕ) → up k node ≡ j + 1 → ⊥
        past j later k at = omega (arith, later, at, here, up_low k node)

        not_next : v ≡ length old → IsNodeOrWinner winners c v → ⊥
        not_next at (inl same) = omega (arith, at, same, low_here, is.size)
        not_next at (inr (inl left)) = is.gone (2 * c + 1) (omega (arith, left.0, is.size)) (past (2 * c + 1) (omega arith)) (sym left.1 ∙ at)
        not_next at (inr (inr right)) = is.gone (2 * c + 2) (omega (arith, right.0, is.size)) (past (2 * c + 2) (omega arith)) (sym right.1 ∙ at)

    pub go_past : (winner_at winners c ≡ length old → ⊥) → IsLettingGo entries lasts old winners (node / 2)
    go_past other = record {
      low = omega (arith, is.low);
      size = is.size;
      within = is.within;
      come = is.come;
      same = λ i low. is.same i (omega (arith, low));
      kept = is.kept;
      gone = λ i low off at. elim (same_or i c) [
        | inl same ↦ other (ap (winner_at winners) (sym same) ∙ at)
        | inr away ↦ is.gone i low (off_more node c i here away off) at
      ];
      right = λ i low off at. elim (same_or i c) [
        | inl same ↦ absurd (other (ap (winner_at winners) (sym same) ∙ (is.same i (omega (arith, same, here)) ∙ at)))
        | inr away ↦ is.right i low (off_more node c i here away off) at
      ];
    }

  pub let_gone : (winners : List ℕ) (node : ℕ) → node ≡ 0 → IsLettingGo entries lasts old winners node → AreLetGo entries lasts old winners
  let_gone winners node none is = record {
    gone = λ i low. is.gone i low (off i);
    right = λ i low. is.right i low (off i);
    kept = is.kept;
  }
    where
      off : (i k : ℕ) → up k node ≡ i + 1 → ⊥
      off i k at = omega (arith, at, ap (up k) none, up_none k)

-- ---- a place is the winner in the stead of the last one

pub record IsMovingInto (place : ℕ) (old winners : List ℕ) (node : ℕ) : Type 0 where
  pub low : node ≤ length winners
  pub size : length winners ≡ length old
  pub within : AreWithin winners
  pub above : (k : ℕ) × (up k (place + 1) ≡ node)
  pub moved : (i : ℕ) → i < length old
      → ((winner_at old i ≡ length old) × (IsBelow i place × (winner_at winners i ≡ place)))
      ⊎ ((winner_at winners i ≡ winner_at old i) × (IsBelow i place → winner_at old i ≡ length old → (k : ℕ) × (up k node ≡ i + 1)))

module _ (place : ℕ) (old : List ℕ) where
  pub move_first : place < length old → AreWithin old → IsMovingInto place old old (place + 1)
  move_first low within = record {
    low = omega (arith, low);
    size = refl;
    within = within;
    above = (0, refl);
    moved = λ i there. inr (refl, λ below is. below);
  }

  module _ (winners : List ℕ) (node c : ℕ) (here : c + 1 ≡ node) (is : IsMovingInto place old winners node) where
    on : IsBelow c place
    on = (is.above.0, is.above.1 ∙ sym here)

    parent : (k : ℕ) × (up k (place + 1) ≡ node / 2)
    parent = (suc is.above.0, up_last is.above.0 (place + 1) ∙ ap (λ n. n / 2) is.above.1)

    there : c < length winners
    there = omega (arith, is.low, here)

    next_up : (i : ℕ) → (i ≡ c → ⊥) → (k : ℕ) × (up k node ≡ i + 1) → (k : ℕ) × (up k (node / 2) ≡ i + 1)
    next_up i away (zero, at) = absurd (away (omega (arith, at, here)))
    next_up i away (suc k, at) = (k, at)

    pub move_on : winner_at winners c ≡ length old → IsMovingInto place old (set winners c place) (node / 2)
    move_on was = record {
      low = omega (arith, is.low, length-set winners c place);
      size = length-set winners c place ∙ is.size;
      within = within_set [] [] winners c place there on is.within;
      above = parent;
      moved = λ i low. elim (same_or i c) [
        | inl same ↦
            let named : winner_at (set winners c place) i ≡ place = ap (winner_at (set winners c place)) same ∙ get_or-set_same winners c place 0 there in
            let below : IsBelow i place = subst (λ n. IsBelow n place) (sym same) on in
            elim (is.moved i low) [
              | inl done ↦ inl (done.0, (below, named))
              | inr kept ↦ inl (sym kept.0 ∙ (ap (winner_at winners) same ∙ was), (below, named))
            ]
        | inr away ↦
            let other : winner_at (set winners c place) i ≡ winner_at winners i = get_or-set_other winners c i place 0 away in
            elim (is.moved i low) [
              | inl done ↦ inl (done.0, (done.1.0, other ∙ done.1.1))
              | inr kept ↦ inr (other ∙ kept.0, λ below at. next_up i away (kept.1 below at))
            ]
      ];
    }

    pub move_past : (winner_at winners c ≡ length old → ⊥) → IsMovingInto place old winners (node / 2)
    move_past off = record {
      low = omega (arith, is.low);
      size = is.size;
      within = is.within;
      above = parent;
      moved = λ i low. elim (is.moved i low) [
        | inl done ↦ inl done
        | inr kept ↦ inr (
          kept.0,
          λ below at. elim (same_or i c) [
            | inl same ↦ absurd (off (ap (winner_at winners) (sym same) ∙ (kept.0 ∙ at)))
            | inr away ↦ next_up i away (kept.1 below at)
          ],
        )
      ];
    }

  pub all_moved : (winners : List ℕ) (node : ℕ) → node ≡ 0 → IsMovingInto place old winners node → AreMoved place old winners
  all_moved winners node none is i low = elim (is.moved i low) [
    | inl done ↦ inl done
    | inr kept ↦ inr (kept.0, λ below at. let on = kept.1 below at in omega (arith, on.1, ap (up on.0) none, up_none on.0))
  ]

-- ---- all nodes are right

-- a node keeps its winner
still_right : (entries : List (Labels × OwnerCells)) (lasts old new : List ℕ) (Some : ℕ → Type 0) (i : ℕ) → length new ≡ length old → HaveCome old new → i < length old → winner_at new i ≡ winner_at old i
    → ((j : ℕ) → IsUnder old i j → (Some j → ⊥) → Leads entries lasts (winner_at old i) j) → ((j : ℕ) → IsNodeOrWinner new i j → Some j → ⊥) → IsRight entries lasts new i
still_right entries lasts old new Some i size come low same leads free =
    by_next entries lasts new i (winner_at new i) (λ j next. subst (λ n. Leads entries lasts n j) (sym same) (leads j (next_under old new size come i low j next) (free j next)))

not_last : (entries : List (Labels × OwnerCells)) (lasts old new : List ℕ) (i j : ℕ) → length new ≡ length old → AreLetGo entries lasts old new → i < length old → IsNodeOrWinner new i j → j ≡ length old → ⊥
not_last entries lasts old new i j size go low (inl same) at = omega (arith, same, at, low)
not_last entries lasts old new i j size go low (inr (inl left)) at = go.gone (2 * i + 1) (omega (arith, left.0, size)) (sym left.1 ∙ at)
not_last entries lasts old new i j size go low (inr (inr right)) at = go.gone (2 * i + 2) (omega (arith, right.0, size)) (sym right.1 ∙ at)

pub right_last : (entries : List (Labels × OwnerCells)) (lasts old new : List ℕ) (place : ℕ) → place ≡ length old → length new ≡ length old → HaveCome old new → AreLetGo entries lasts old new → AreFirstButGone place entries lasts old → AreRight entries lasts new
right_last entries lasts old new place at size come go but i there =
    let low : i < length old = omega (arith, there, size) in
    elim (same_or (winner_at old i) (length old)) [
      | inl is ↦ go.right i low is
      | inr off ↦
          still_right entries lasts old new (λ j. (j ≡ place) ⊎ (j ≡ length old)) i size come low (go.kept i low off)
          (but i low (λ some. off (past some))) (λ j next some. not_last entries lasts old new i j size go low next (past some))
    ]
  where
    past : {j : ℕ} → (j ≡ place) ⊎ (j ≡ length old) → j ≡ length old
    past (inl is) = is ∙ at
    past (inr is) = is

module _ (entries : List (Labels × OwnerCells)) (lasts old middle new : List ℕ) (place : ℕ) (low : place < length old) (within : AreWithin old) (but : AreFirstButGone place entries lasts old) where
  module _ (half : length middle ≡ length old) (moved : AreMoved place old middle) (size : length new ≡ length middle) (inside : AreWithin new) (come : HaveCome middle new) (go : AreLetGo entries lasts middle new) where
    come_middle : HaveCome old middle
    come_middle i there = elim (moved i there) [
      | inl named ↦ (place, (low, (named.1.0, inl named.1.1)))
      | inr kept ↦ (i, (there, ((0, refl), inr kept.0)))
    ]

    come_all : HaveCome old new
    come_all i there = under_come old middle half come_middle i (winner_at new i) (come i (omega (arith, there, half)))

    kept_all : (i : ℕ) → i < length old → winner_at middle i ≡ winner_at old i → (winner_at old i ≡ length old → ⊥) → winner_at new i ≡ winner_at old i
    kept_all i there same off = go.kept i (omega (arith, there, half)) (λ at. off (sym same ∙ (at ∙ half))) ∙ same

    under_low : (i j : ℕ) → IsUnder new i j → j ≡ length old → ⊥
    under_low i j (m, (there, (below, inl same))) at = omega (arith, there, same, at, size, half)
    under_low i j (m, (there, (below, inr same))) at = go.gone m (omega (arith, there, size)) (sym same ∙ (at ∙ sym half))

    pub first_again : AreFirstBut place entries lasts new
    first_again i there at off j under away = elim (moved i (omega (arith, there, size, half))) [
      | inl named ↦ absurd (off (go.kept i (omega (arith, there, size)) (λ is. omega (arith, is, named.1.1, low, half)) ∙ named.1.1))
      | inr kept ↦
          let own : i < length old = omega (arith, there, size, half) in
          let free : winner_at old i ≡ length old → ⊥ = kept.1 at in
          let same : winner_at new i ≡ winner_at old i = kept_all i own kept.0 free in
          subst (λ n. Leads entries lasts n j) (sym same)
          (but i own (λ some. elim some [
            | inl is ↦ off (same ∙ is)
            | inr is ↦ free is
          ]) j (under_come old new (size ∙ half) come_all i j under) (λ some. elim some [
            | inl is ↦ away is
            | inr is ↦ under_low i j under is
          ]))
    ]

    pub right_aside : (i : ℕ) → i < length new → (IsBelow i place → ⊥) → IsRight entries lasts new i
    right_aside i there off = elim (moved i (omega (arith, there, size, half))) [
      | inl named ↦ absurd (off named.1.0)
      | inr kept ↦ elim (same_or (winner_at old i) (length old)) [
        | inl is ↦ go.right i (omega (arith, there, size)) (kept.0 ∙ (is ∙ sym half))
        | inr other ↦
            let own : i < length old = omega (arith, there, size, half) in
            still_right entries lasts old new (λ j. (j ≡ place) ⊎ (j ≡ length old)) i (size ∙ half) come_all own (kept_all i own kept.0 other)
            (but i own (λ some. elim some [
              | inl is ↦ off (subst (λ n. IsBelow i n) is (within i own))
              | inr is ↦ other is
            ])) (λ j next some. elim some [
              | inl is ↦ off (subst (λ n. IsBelow i n) is (next_within new i j next inside))
              | inr is ↦ not_last entries lasts middle new i j size go (omega (arith, there, size)) next (is ∙ sym half)
            ])
      ]
    ]
