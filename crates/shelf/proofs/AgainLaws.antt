-- The tree of the places once one of them has changed: a node is mended by the winner that it had.
use Rattle.std.proofs.Common.{◌≡◌, ℕ, ◌+◌, ◌-◌, ◌*◌, ◌/◌, ◌<◌, List, length, refl, sym, ap, ◌∙◌, subst, arith, ◌⊎◌, inl, inr}
use Rattle.std.proofs.Math.ListN.{set, length-set}
use Rattle.std.proofs.lemmas.List.{get_or-set_same, get_or-set_other}
use Rattle.dns_name.specs.Labels.{Labels}
use Rattle.cell_store.specs.declared.owner.OwnerCells.{OwnerCells}
use Rattle.winner_tree.specs.Tree.{IsBelow}
use Rattle.shelf.specs.First.{name_at}
use Rattle.shelf.specs.Lasts.{last_at, winner_at, AreFirstBut, AreWithin, HaveCome, IsNodeOrWinner, IsReady, IsUnder, IsWinner, Leads}
use Rattle.shelf.proofs.ListLaws.{same_or}
use Rattle.ranked.specs.OldestLaws.{sooner_itself}
use Rattle.shelf.proofs.WinnerLaws.{below_child, leads_then, next_within}

-- ---- a node, by its winner before

pub by_next : (entries : List (Labels × OwnerCells)) (lasts winners : List ℕ) (node v : ℕ) → ((j : ℕ) → IsNodeOrWinner winners node j → Leads entries lasts v j) → IsWinner entries lasts winners node v
by_next entries lasts winners node v leads = record {
  own = leads node (inl refl);
  left = λ low. leads (winner_at winners (2 * node + 1)) (inr (inl (low, refl)));
  right = λ low. leads (winner_at winners (2 * node + 2)) (inr (inr (low, refl)));
}

module _ (entries : List (Labels × OwnerCells)) (lasts winners : List ℕ) (node changed first : ℕ) (ready : IsReady entries lasts winners node changed first) where
  abbrev was : ℕ
  was = winner_at winners node

  to_next : (v : ℕ) → IsWinner entries lasts winners node v → (j : ℕ) → IsNodeOrWinner winners node j → Leads entries lasts v j
  to_next v is j (inl same) = subst (λ n. Leads entries lasts v n) (sym same) is.own
  to_next v is j (inr (inl left)) = subst (λ n. Leads entries lasts v n) (sym left.1) (is.left left.0)
  to_next v is j (inr (inr right)) = subst (λ n. Leads entries lasts v n) (sym right.1) (is.right right.0)

  pub anew : (v : ℕ) → IsWinner entries lasts winners node v → IsWinner entries lasts winners node v × Leads entries lasts v changed
  anew v is = (is, leads_then entries lasts v first changed (to_next v is first ready.next) ready.leads)

  -- the winner before, if it does not come after the changed place
  pub stays : (was ≡ changed → ⊥) → Leads entries lasts was changed → IsWinner entries lasts winners node was × Leads entries lasts was changed
  stays off leads = (
    by_next entries lasts winners node was (λ j next. elim (same_or j changed) [
      | inl same ↦ subst (λ n. Leads entries lasts was n) (sym same) leads
      | inr away ↦ ready.others off j next away
    ]),
    leads,
  )

  -- another place comes before the changed one
  pub stays_behind : (was ≡ changed → ⊥) → (first ≡ changed → ⊥) → IsWinner entries lasts winners node was × Leads entries lasts was changed
  stays_behind off away = stays off (leads_then entries lasts was first changed (ready.others off first ready.next away) ready.leads)

  -- the changed place, if it does not come after the winner before
  pub takes : (was ≡ changed → ⊥) → Leads entries lasts changed was → IsWinner entries lasts winners node changed × Leads entries lasts changed changed
  takes off leads = (
    by_next entries lasts winners node changed (λ j next. elim (same_or j changed) [
      | inl same ↦ subst (λ n. Leads entries lasts changed n) (sym same) (sooner_itself (last_at lasts changed) (name_at entries changed))
      | inr away ↦ leads_then entries lasts changed was j leads (ready.others off j next away)
    ]),
    sooner_itself (last_at lasts changed) (name_at entries changed),
  )

pub leads_itself : (entries : List (Labels × OwnerCells)) (lasts : List ℕ) (place : ℕ) → Leads entries lasts place place
leads_itself entries lasts place = sooner_itself (last_at lasts place) (name_at entries place)

-- ---- the winners are of the places and winners before

pub come_first : (old : List ℕ) → HaveCome old old
come_first old i low = (i, (low, ((0, refl), inr refl)))

child_under : (old : List ℕ) (node child place : ℕ) → (child ≡ 2 * node + 1) ⊎ (child ≡ 2 * node + 2) → IsUnder old child place → IsUnder old node place
child_under old node child place is (i, (low, (below, own))) = (i, (low, (below_child node child i is below, own)))

module _ (old winners : List ℕ) (size : length winners ≡ length old) (come : HaveCome old winners) (node : ℕ) (low : node < length old) where
  pub next_under : (place : ℕ) → IsNodeOrWinner winners node place → IsUnder old node place
  next_under place (inl same) = (node, (low, ((0, refl), inl same)))
  next_under place (inr (inl left)) =
      child_under old node (2 * node + 1) place (inl refl) (subst (λ n. IsUnder old (2 * node + 1) n) (sym left.1) (come (2 * node + 1) (omega (arith, left.0, size))))
  next_under place (inr (inr right)) =
      child_under old node (2 * node + 2) place (inr refl) (subst (λ n. IsUnder old (2 * node + 2) n) (sym right.1) (come (2 * node + 2) (omega (arith, right.0, size))))

  pub one_under : (changed v : ℕ) → changed < length old → IsBelow node changed → IsNodeOrWinner winners node v ⊎ ((v ≡ changed) ⊎ (v ≡ winner_at winners node)) → IsUnder old node v
  one_under changed v there below (inl next) = next_under v next
  one_under changed v there below (inr (inl same)) = (changed, (there, (below, inl same)))
  one_under changed v there below (inr (inr same)) = subst (λ n. IsUnder old node n) (sym same) (come node low)

  pub come_set : (v : ℕ) → IsUnder old node v → HaveCome old (set winners node v)
  come_set v under i there = elim (same_or i node) [
    | inl here ↦
        subst (λ n. IsUnder old n (winner_at (set winners node v) n)) (sym here)
        (subst (λ n. IsUnder old node n) (sym (get_or-set_same winners node v 0 (omega (arith, low, size)))) under)
    | inr away ↦ subst (λ n. IsUnder old i n) (sym (get_or-set_other winners node i v 0 away)) (come i there)
  ]

  -- a node is ready for its winner, once those below it are mended
  pub ready_for : (entries : List (Labels × OwnerCells)) (lasts : List ℕ) (changed first : ℕ) → AreFirstBut changed entries lasts old → IsBelow node changed → winner_at winners node ≡ winner_at old node
      → IsNodeOrWinner winners node first → Leads entries lasts first changed → IsReady entries lasts winners node changed first
  ready_for entries lasts changed first but below same next leads = record {
    next = next;
    leads = leads;
    others = λ off j is away.
        subst (λ n. Leads entries lasts n j) (sym same) (but node low below (λ at. off (same ∙ at)) j (next_under j is) away);
  }

pub one_within : (winners : List ℕ) (node changed v : ℕ) → node < length winners → AreWithin winners → IsBelow node changed → IsNodeOrWinner winners node v ⊎ ((v ≡ changed) ⊎ (v ≡ winner_at winners node)) → IsBelow node v
one_within winners node changed v low within below (inl next) = next_within winners node v next within
one_within winners node changed v low within below (inr (inl same)) = subst (λ n. IsBelow node n) (sym same) below
one_within winners node changed v low within below (inr (inr same)) = subst (λ n. IsBelow node n) (sym same) (within node low)

-- the winner of a node is next to its parent
pub next_parent : (winners : List ℕ) (node v : ℕ) → node < length winners → 0 < (node + 1) / 2 → IsNodeOrWinner (set winners node v) ((node + 1) / 2 - 1) v
next_parent winners node v low more = elim sides [
  | inl left ↦ inr (inl (omega (arith, left, low, length-set winners node v), at left))
  | inr right ↦ inr (inr (omega (arith, right, low, length-set winners node v), at right))
]
  where
    sides : (2 * ((node + 1) / 2 - 1) + 1 ≡ node) ⊎ (2 * ((node + 1) / 2 - 1) + 2 ≡ node)
    sides = grind arith

    at : {n : ℕ} → n ≡ node → v ≡ winner_at (set winners node v) n
    at {n} same = sym (get_or-set_same winners node v 0 low) ∙ ap (λ k. winner_at (set winners node v) k) (sym same)
