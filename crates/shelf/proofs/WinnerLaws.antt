-- The tree of the places by the seconds of their last finds: a node and its children, and what a change leaves right.
use Rattle.std.proofs.Common.{◌≡◌, ℕ, zero, suc, ◌+◌, ◌-◌, ◌*◌, ◌/◌, ◌<◌, ◌≤◌, List, [], ◌∷◌, length, get_or, refl, sym, ap, ◌∙◌, subst, arith, ◌⊎◌, inl, inr}
use Rattle.std.specs.Map.{keys_of}
use Rattle.std.proofs.Math.ListN.{set, length-set}
use Rattle.std.proofs.lemmas.List.{get_or-set_same, get_or-set_other}
use Rattle.std.proofs.lemmas.Map.Entries.{length-keys_of}
use Rattle.dns_name.specs.Labels.{Labels}
use Rattle.cell_store.specs.declared.owner.OwnerCells.{OwnerCells}
use Rattle.winner_tree.specs.Tree.{up, IsBelow}
use Rattle.shelf.specs.declared.lasts.Lasts.{Lasts}
use Rattle.shelf.specs.First.{name_at}
use Rattle.shelf.specs.Lasts.{last_at, winner_at, AreSameLasts, AreWinners, AreWithin, IsFirstOf, IsNodeOrWinner, IsRight, IsShaped, IsUnder, IsWinner, Leads}
use Rattle.shelf.proofs.ListLaws.{same_or}
use Rattle.ranked.specs.OldestLaws.{sooner_itself, sooner_then}
use Rattle.shelf.proofs.OrderLaws.{below_root, sooner_same, up_last}

-- ---- places at or below a node

pub below_child : (node child i : ℕ) → (child ≡ 2 * node + 1) ⊎ (child ≡ 2 * node + 2) → IsBelow child i → IsBelow node i
below_child node child i (inl left) (k, at) = let half : up k (i + 1) / 2 ≡ node + 1 = omega (arith, left, at) in (suc k, up_last k (i + 1) ∙ half)
below_child node child i (inr right) (k, at) = let half : up k (i + 1) / 2 ≡ node + 1 = omega (arith, right, at) in (suc k, up_last k (i + 1) ∙ half)

-- a node above a place is at or above the parent of that
pub below_parent : (node i : ℕ) → node < i → IsBelow node i → IsBelow node ((i - 1) / 2)
below_parent node i low (zero, at) = absurd (omega (arith, low, at))
below_parent node i low (suc k, at) = let half : (i + 1) / 2 ≡ (i - 1) / 2 + 1 = omega (arith, low) in (k, sym (ap (up k) half) ∙ at)

pub up_none : (k : ℕ) → up k 0 ≡ 0
up_none zero = refl
up_none (suc k) = up_none k

-- ---- a node

pub leads_then : (entries : List (Labels × OwnerCells)) (lasts : List ℕ) (a b c : ℕ) → Leads entries lasts a b → Leads entries lasts b c → Leads entries lasts a c
leads_then entries lasts a b c first then = sooner_then (last_at lasts a) (last_at lasts b) (last_at lasts c) (name_at entries a) (name_at entries b) (name_at entries c) first then

module _ (entries : List (Labels × OwnerCells)) (lasts winners : List ℕ) (place child : ℕ) where
  leads_itself : Leads entries lasts place place
  leads_itself = sooner_itself (last_at lasts place) (name_at entries place)

  pub first_past : length winners ≤ child → IsFirstOf entries lasts winners place child place
  first_past few = record { one = inl refl; own = leads_itself; other = λ low. absurd (omega (arith, low, few)) }

  pub first_child : (winner : ℕ) → winner ≡ winner_at winners child → child < length winners → Leads entries lasts winner place → IsFirstOf entries lasts winners place child winner
  first_child winner is low leads = record {
    one = inr (low, is);
    own = leads;
    other = λ low. subst (λ p. Leads entries lasts winner p) is (sooner_itself (last_at lasts winner) (name_at entries winner));
  }

  pub first_own : (winner : ℕ) → winner ≡ winner_at winners child → Leads entries lasts place winner → IsFirstOf entries lasts winners place child place
  first_own winner is leads = record { one = inl refl; own = leads_itself; other = λ low. subst (λ p. Leads entries lasts place p) is leads }

module _ (entries : List (Labels × OwnerCells)) (lasts winners : List ℕ) (node near first : ℕ) (one : IsFirstOf entries lasts winners node (2 * node + 1) near) (two : IsFirstOf entries lasts winners near (2 * node + 2) first) where
  pub both_first : IsWinner entries lasts winners node first
  both_first = record {
    own = leads_then entries lasts first near node two.own one.own;
    left = λ low. leads_then entries lasts first near (winner_at winners (2 * node + 1)) two.own (one.other low);
    right = two.other;
  }

  pub both_next : IsNodeOrWinner winners node first
  both_next = elim two.one [
    | inl same ↦ elim one.one [
      | inl own ↦ inl (same ∙ own)
      | inr left ↦ inr (inl (left.0, same ∙ left.1))
    ]
    | inr right ↦ inr (inr right)
  ]

pub next_within : (winners : List ℕ) (node place : ℕ) → IsNodeOrWinner winners node place → AreWithin winners → IsBelow node place
next_within winners node place (inl same) within = subst (λ n. IsBelow node n) (sym same) (0, refl)
next_within winners node place (inr (inl left)) within =
    below_child node (2 * node + 1) place (inl refl) (subst (λ n. IsBelow (2 * node + 1) n) (sym left.1) (within (2 * node + 1) left.0))
next_within winners node place (inr (inr right)) within =
    below_child node (2 * node + 2) place (inr refl) (subst (λ n. IsBelow (2 * node + 2) n) (sym right.1) (within (2 * node + 2) right.0))

-- ---- a node stays right if nothing below it changes

-- two places have the same second and name before and after
abbrev pub IsLike : List (Labels × OwnerCells) → List (Labels × OwnerCells) → List ℕ → List ℕ → ℕ → Type 0
IsLike entries other lasts more a = (last_at lasts a ≡ last_at more a) × (name_at entries a ≡ name_at other a)

-- a node or one of its children
abbrev pub IsNear : ℕ → ℕ → Type 0
IsNear i j = (j ≡ i) ⊎ ((j ≡ 2 * i + 1) ⊎ (j ≡ 2 * i + 2))

module _ (entries other : List (Labels × OwnerCells)) (lasts more winners news : List ℕ) where
  pub leads_like : (a b : ℕ) → IsLike entries other lasts more a → IsLike entries other lasts more b → Leads entries lasts a b → Leads other more a b
  leads_like a b p q is = sooner_same (last_at lasts a) (last_at more a) (last_at lasts b) (last_at more b) (name_at entries a) (name_at other a) (name_at entries b) (name_at other b) p.0 p.1 q.0 q.1 is

  pub right_like : (i : ℕ) → AreWithin winners → i < length news → ((a : ℕ) → IsBelow i a → IsLike entries other lasts more a)
      → ((j : ℕ) → IsNear i j → j < length news → (j < length winners) × (winner_at winners j ≡ winner_at news j)) → IsRight entries lasts winners i → IsRight other more news i
  right_like i within low like kept is = record {
    own = subst (λ p. Leads other more p i) own.1 (leads_like (winner_at winners i) i (like (winner_at winners i) (within i own.0)) (like i (0, refl)) is.own);
    left = λ there.
        let child = kept (2 * i + 1) (inr (inl refl)) there in
        let below = below_child i (2 * i + 1) (winner_at winners (2 * i + 1)) (inl refl) (within (2 * i + 1) child.0) in
        moved (2 * i + 1) child.1 below (is.left child.0);
    right = λ there.
        let child = kept (2 * i + 2) (inr (inr refl)) there in
        let below = below_child i (2 * i + 2) (winner_at winners (2 * i + 2)) (inr refl) (within (2 * i + 2) child.0) in
        moved (2 * i + 2) child.1 below (is.right child.0);
  }
    where
      own : (i < length winners) × (winner_at winners i ≡ winner_at news i)
      own = kept i (inl refl) low

      moved : (j : ℕ) → winner_at winners j ≡ winner_at news j → IsBelow i (winner_at winners j) → Leads entries lasts (winner_at winners i) (winner_at winners j) → Leads other more (winner_at news i) (winner_at news j)
      moved j same below leads =
          subst (λ p. Leads other more p (winner_at news j)) own.1
          (subst (λ p. Leads other more (winner_at winners i) p) same (leads_like (winner_at winners i) (winner_at winners j) (like (winner_at winners i) (within i own.0)) (like (winner_at winners j) below) leads))

-- ---- one node is mended

module _ (entries : List (Labels × OwnerCells)) (lasts winners : List ℕ) (c v : ℕ) (low : c < length winners) where
  pub within_set : IsBelow c v → AreWithin winners → AreWithin (set winners c v)
  within_set below within i there = elim (same_or i c) [
    | inl here ↦
        subst (λ n. IsBelow n (winner_at (set winners c v) n)) (sym here) (subst (λ n. IsBelow c n) (sym (get_or-set_same winners c v 0 low)) below)
    | inr away ↦ subst (λ n. IsBelow i n) (sym (get_or-set_other winners c i v 0 away)) (within i (omega (arith, there, length-set winners c v)))
  ]

  right_here : IsWinner entries lasts winners c v → IsRight entries lasts (set winners c v) c
  right_here is = record {
    own = subst (λ p. Leads entries lasts p c) at is.own;
    left = λ there. child (2 * c + 1) (omega arith) (is.left (omega (arith, there, length-set winners c v)));
    right = λ there. child (2 * c + 2) (omega arith) (is.right (omega (arith, there, length-set winners c v)));
  }
    where
      at : v ≡ winner_at (set winners c v) c
      at = sym (get_or-set_same winners c v 0 low)

      child : (j : ℕ) → c < j → Leads entries lasts v (winner_at winners j) → Leads entries lasts (winner_at (set winners c v) c) (winner_at (set winners c v) j)
      child j later leads =
          let off : j ≡ c → ⊥ = λ same. omega (arith, same, later) in
          subst (λ p. Leads entries lasts p (winner_at (set winners c v) j)) at (subst (λ p. Leads entries lasts v p) (sym (get_or-set_other winners c j v 0 off)) leads)

  right_away : (i : ℕ) → i < length winners → AreWithin winners → (i ≡ c → ⊥) → (2 * i + 1 ≡ c → ⊥) → (2 * i + 2 ≡ c → ⊥) → IsRight entries lasts winners i → IsRight entries lasts (set winners c v) i
  right_away i there within own left right is =
      right_like entries entries lasts lasts winners (set winners c v) i within (omega (arith, there, length-set winners c v)) (λ a below. (refl, refl)) kept is
    where
      stays : (j : ℕ) → (j ≡ c → ⊥) → j < length (set winners c v) → (j < length winners) × (winner_at winners j ≡ winner_at (set winners c v) j)
      stays j off there = (omega (arith, there, length-set winners c v), sym (get_or-set_other winners c j v 0 off))

      kept : (j : ℕ) → IsNear i j → j < length (set winners c v) → (j < length winners) × (winner_at winners j ≡ winner_at (set winners c v) j)
      kept j (inl same) there = stays j (λ at. own (sym same ∙ at)) there
      kept j (inr (inl same)) there = stays j (λ at. left (sym same ∙ at)) there
      kept j (inr (inr same)) there = stays j (λ at. right (sym same ∙ at)) there

  -- each node is right that is not at or above the parent
  pub right_next : (node i : ℕ) → c + 1 ≡ node → IsWinner entries lasts winners c v → AreWithin winners → i < length winners → ((k : ℕ) → up k (node / 2) ≡ i + 1 → ⊥)
      → (((k : ℕ) → up k node ≡ i + 1 → ⊥) → IsRight entries lasts winners i) → IsRight entries lasts (set winners c v) i
  right_next node i is winner within there off was = elim (same_or i c) [
    | inl here ↦ subst (λ n. IsRight entries lasts (set winners c v) n) (sym here) (right_here winner)
    | inr away ↦
        right_away i there within away (λ left. off 0 (omega (arith, left, is))) (λ right. off 0 (omega (arith, right, is))) (was (λ k at. above away k at))
  ]
    where
      above : (i ≡ c → ⊥) → (k : ℕ) → up k node ≡ i + 1 → ⊥
      above away zero at = away (omega (arith, at, is))
      above away (suc k) at = off k at

-- ---- the names of the places

pub name_key : (entries : List (Labels × OwnerCells)) (a : ℕ) → name_at entries a ≡ get_or (keys_of entries) a []
name_key [] a = refl
name_key (e ∷ entries) zero = refl
name_key (e ∷ entries) (suc a) = name_key entries a

pub same_names : (old new : List (Labels × OwnerCells)) → keys_of new ≡ keys_of old → (a : ℕ) → name_at old a ≡ name_at new a
same_names old new same a = name_key old a ∙ (ap (λ (l : List Labels). get_or l a []) (sym same) ∙ sym (name_key new a))

pub same_size : (old new : List (Labels × OwnerCells)) → keys_of new ≡ keys_of old → length new ≡ length old
same_size old new same = sym (length-keys_of new) ∙ (ap length same ∙ length-keys_of old)

-- the cells of names have changed, and no place
pub winners_named : (old new : List (Labels × OwnerCells)) (lasts : Lasts) → keys_of new ≡ keys_of old → AreWinners old lasts → AreWinners new lasts
winners_named old new lasts same is = record {
  size = is.size ∙ sym (same_size old new same);
  shape = is.shape;
  right = λ i low.
      right_like old new lasts.ends.items lasts.ends.items lasts.winners.items lasts.winners.items i is.shape.1 low (λ a below. (refl, same_names old new same a)) (λ j near there. (there, refl)) (is.right i low);
}

pub alike : (new old : Lasts) → new ≡ old → AreSameLasts old new
alike new old same = (ap (λ (l : Lasts). l.ends.items) same, ap (λ (l : Lasts). l.winners.items) same)

pub shaped_same : (old new : Lasts) → AreSameLasts old new → IsShaped old → IsShaped new
shaped_same old new same is = (ap length same.1 ∙ (is.0 ∙ sym (ap length same.0)), subst (λ (l : List ℕ). AreWithin l) (sym same.1) is.1)

-- the places have the same seconds and winners
pub winners_same : (entries : List (Labels × OwnerCells)) (old new : Lasts) → AreSameLasts old new → AreWinners entries old → AreWinners entries new
winners_same entries old new same is = record {
  size = ap length same.0 ∙ is.size;
  shape = shaped_same old new same is.shape;
  right = λ i low.
      subst (λ (l : List ℕ). IsRight entries l new.winners.items i) (sym same.0)
      (subst (λ (l : List ℕ). IsRight entries old.ends.items l i) (sym same.1) (is.right i (omega (arith, low, ap length same.1))));
}

-- ---- the first of all

module _ (entries : List (Labels × OwnerCells)) (lasts : Lasts) (is : AreWinners entries lasts) where
  abbrev winner_of : ℕ → ℕ
  winner_of i = winner_at lasts.winners.items i

  from_child : (p i : ℕ) → p < length lasts.winners.items → i < length lasts.winners.items → (i ≡ 2 * p + 1) ⊎ (i ≡ 2 * p + 2) → Leads entries lasts.ends.items (winner_of p) (winner_of i)
  from_child p i low there (inl left) = subst (λ n. Leads entries lasts.ends.items (winner_of p) (winner_of n)) (sym left) ((is.right p low).left (omega (arith, left, there)))
  from_child p i low there (inr right) = subst (λ n. Leads entries lasts.ends.items (winner_of p) (winner_of n)) (sym right) ((is.right p low).right (omega (arith, right, there)))

  from_node : (node k i : ℕ) → up k (i + 1) ≡ node + 1 → i < length lasts.winners.items → Leads entries lasts.ends.items (winner_of node) (winner_of i)
  from_node node zero i at low =
      let same : i ≡ node = omega (arith, at) in
      subst (λ n. Leads entries lasts.ends.items (winner_of node) (winner_of n)) (sym same) (sooner_itself (last_at lasts.ends.items (winner_of node)) (name_at entries (winner_of node)))
  from_node node (suc k) zero at low = absurd (omega (arith, at, up_none k))
  from_node node (suc k) (suc i) at low =
      let parent : (suc i ≡ 2 * (i / 2) + 1) ⊎ (suc i ≡ 2 * (i / 2) + 2) = grind arith in
      let half : (suc i + 1) / 2 ≡ i / 2 + 1 = omega arith in
      leads_then entries lasts.ends.items (winner_of node) (winner_of (i / 2)) (winner_of (suc i)) (from_node node k (i / 2) (sym (ap (up k) half) ∙ at) (omega (arith, low)))
      (from_child (i / 2) (suc i) (omega (arith, low)) low parent)

  pub leads_under : (node place : ℕ) → IsUnder lasts.winners.items node place → Leads entries lasts.ends.items (winner_of node) place
  leads_under node place (i, (low, (below, inl same))) =
      subst (λ n. Leads entries lasts.ends.items (winner_of node) n) (sym same)
      (leads_then entries lasts.ends.items (winner_of node) (winner_of i) i (from_node node below.0 i below.1 low) (is.right i low).own)
  leads_under node place (i, (low, (below, inr same))) = subst (λ n. Leads entries lasts.ends.items (winner_of node) n) (sym same) (from_node node below.0 i below.1 low)

  pub root_leads : (i : ℕ) → i < length entries → Leads entries lasts.ends.items (winner_of 0) i
  root_leads i there = leads_under 0 i (i, (omega (arith, there, is.size, is.shape.0), (below_root i, inl refl)))
