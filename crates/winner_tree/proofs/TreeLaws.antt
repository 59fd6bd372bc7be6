-- The tree of winners, node by node.
use Rattle.std.proofs.Common.{◌≡◌, ℕ, zero, suc, ◌+◌, ◌*◌, ◌/◌, ◌++◌, ◌<◌, ◌≤◌, List, [], ◌∷◌, length, take, refl, sym, ap, ◌∙◌, subst, arith, ◌⊎◌, inl, inr}
use Rattle.std.proofs.lemmas.List.{get_or_append_left, get_or_past, get_or-take, length-take-le}
use Rattle.std.proofs.Math.ListN.{length-append}
use Rattle.winner_tree.specs.Tree.{moment_at, never, up, IsBound, IsNode, IsTree, AreLater}

-- ---- the root

le_child : (ends least : List ℕ) (p i : ℕ) → IsNode ends least p → (i ≡ 2 * p + 1) ⊎ (i ≡ 2 * p + 2) → moment_at least p ≤ moment_at least i
le_child ends least p i is (inl left) = subst (λ n. moment_at least p ≤ moment_at least n) (sym left) (omega arith)
le_child ends least p i is (inr right) = subst (λ n. moment_at least p ≤ moment_at least n) (sym right) (omega arith)

root_at : (ends least : List ℕ) → IsTree ends least → (fuel i : ℕ) → i < fuel → i < length ends → moment_at least 0 ≤ moment_at least i
root_at ends least tree zero i low there = absurd (omega arith)
root_at ends least tree (suc fuel) zero low there = omega arith
root_at ends least tree (suc fuel) (suc i) low there =
    let parent : (suc i ≡ 2 * (i / 2) + 1) ⊎ (suc i ≡ 2 * (i / 2) + 2) = grind arith in
    let here : moment_at least (i / 2) ≤ moment_at least (suc i) = le_child ends least (i / 2) (suc i) (tree.nodes (i / 2) (omega arith)) parent in
    let up : moment_at least 0 ≤ moment_at least (i / 2) = root_at ends least tree fuel (i / 2) (omega arith) (omega arith) in
    omega arith

pub root_later : (ends least : List ℕ) (moment : ℕ) → IsTree ends least → moment < moment_at least 0 → AreLater ends moment
root_later ends least moment tree later i there =
    let up : moment_at least 0 ≤ moment_at least i = root_at ends least tree (suc i) i (omega arith) there in
    let here : IsNode ends least i = tree.nodes i there in
    omega arith

-- ---- any node

up_zero : (k : ℕ) → up k 0 ≡ 0
up_zero zero = refl
up_zero (suc k) = up_zero k

node_at : (ends least : List ℕ) (node : ℕ) → IsTree ends least → (k i : ℕ) → up k (i + 1) ≡ node + 1 → i < length ends → moment_at least node ≤ moment_at least i
node_at ends least node tree zero i at there = let same : node ≡ i = omega (arith, at) in omega (arith, ap (moment_at least) same)
node_at ends least node tree (suc k) zero at there = absurd (omega (arith, at, up_zero k))
node_at ends least node tree (suc k) (suc i) at there =
    let parent : (suc i ≡ 2 * (i / 2) + 1) ⊎ (suc i ≡ 2 * (i / 2) + 2) = grind arith in
    let half : (suc i + 1) / 2 ≡ i / 2 + 1 = omega arith in
    let here : moment_at least (i / 2) ≤ moment_at least (suc i) = le_child ends least (i / 2) (suc i) (tree.nodes (i / 2) (omega arith)) parent in
    let above : moment_at least node ≤ moment_at least (i / 2) = node_at ends least node tree k (i / 2) (sym (ap (up k) half) ∙ at) (omega arith) in
    omega (arith, here, above)

pub node_bound : (ends least : List ℕ) (node : ℕ) → IsTree ends least → IsBound ends node (moment_at least node)
node_bound ends least node tree i below there =
    let above : moment_at least node ≤ moment_at least i = node_at ends least node tree below.0 i below.1 there in
    let here : IsNode ends least i = tree.nodes i there in
    omega (arith, above, here)

-- ---- one position more

append_never : (moments : List ℕ) (i : ℕ) → moment_at (moments ++ never ∷ []) i ≡ moment_at moments i
append_never [] zero = refl
append_never [] (suc i) = refl
append_never (x ∷ moments) zero = refl
append_never (x ∷ moments) (suc i) = append_never moments i

added : (ends least : List ℕ) (end : ℕ) → IsTree ends least → (i : ℕ) → i < length (ends ++ end ∷ []) → (i ≡ length ends → ⊥) → IsNode (ends ++ end ∷ []) (least ++ never ∷ []) i
added ends least end tree i low off =
    let before : i < length ends = omega (arith, length-append ends (end ∷ [])) in
    let node : IsNode ends least i = tree.nodes i before in
    let here : moment_at (ends ++ end ∷ []) i ≡ moment_at ends i = get_or_append_left ends (end ∷ []) never i before in
    let own : moment_at (least ++ never ∷ []) i ≡ moment_at least i = append_never least i in
    let left : moment_at (least ++ never ∷ []) (2 * i + 1) ≡ moment_at least (2 * i + 1) = append_never least (2 * i + 1) in
    let right : moment_at (least ++ never ∷ []) (2 * i + 2) ≡ moment_at least (2 * i + 2) = append_never least (2 * i + 2) in
    cc

pub pushed : (ends least new_ends new_least : List ℕ) (end place : ℕ) → IsTree ends least → new_ends ≡ ends ++ end ∷ [] → new_least ≡ least ++ never ∷ [] → place ≡ length ends
    → (i : ℕ) → i < length new_ends → (i ≡ place → ⊥) → IsNode new_ends new_least i
pushed ends least new_ends new_least end place tree ends_is least_is at i low off =
    subst (λ (l : List ℕ). IsNode l new_least i) (sym ends_is) (subst (λ (l : List ℕ). IsNode (ends ++ end ∷ []) l i) (sym least_is)
    (added ends least end tree i (subst (λ (l : List ℕ). i < length l) ends_is low) (λ e. off (e ∙ sym at))))

-- ---- the last position is removed, once it ends never

take_never : (moments : List ℕ) (last i : ℕ) → length moments ≡ last + 1 → moment_at moments last ≡ never → moment_at (take last moments) i ≡ moment_at moments i
take_never moments last i size at = elim (before_or i last) [
  | inl before ↦ get_or-take last moments i never before
  | inr past ↦
      let short : moment_at (take last moments) i ≡ never = get_or_past (take last moments) i never (omega (arith, length-take-le last moments (omega arith))) in
      elim past [
        | inl here ↦ short ∙ sym (ap (moment_at moments) here ∙ at)
        | inr beyond ↦ short ∙ sym (get_or_past moments i never (omega arith))
      ]
]
  where
    before_or : (a b : ℕ) → (a < b) ⊎ ((a ≡ b) ⊎ (b < a))
    before_or a b = grind arith

pub popped : (ends least : List ℕ) (last : ℕ) → IsTree ends least → length ends ≡ last + 1 → moment_at ends last ≡ never → IsTree (take last ends) (take last least)
popped ends least last tree size at = record {
  size = length-take-le last least (omega (arith, tree.size)) ∙ sym (length-take-le last ends (omega arith));
  nodes = λ i low.
      let short : length (take last ends) ≡ last = length-take-le last ends (omega arith) in
      let node : IsNode ends least i = tree.nodes i (omega arith) in
      let here : moment_at (take last ends) i ≡ moment_at ends i = take_never ends last i size at in
      let own : moment_at (take last least) i ≡ moment_at least i = take_never least last i (tree.size ∙ size) none in
      let left : moment_at (take last least) (2 * i + 1) ≡ moment_at least (2 * i + 1) = take_never least last (2 * i + 1) (tree.size ∙ size) none in
      let right : moment_at (take last least) (2 * i + 2) ≡ moment_at least (2 * i + 2) = take_never least last (2 * i + 2) (tree.size ∙ size) none in
      cc;
}
  where
    none : moment_at least last ≡ never
    none =
        let node : IsNode ends least last = tree.nodes last (omega arith) in
        let left : moment_at least (2 * last + 1) ≡ never = get_or_past least (2 * last + 1) never (omega (arith, tree.size)) in
        let right : moment_at least (2 * last + 2) ≡ never = get_or_past least (2 * last + 2) never (omega (arith, tree.size)) in
        omega arith
