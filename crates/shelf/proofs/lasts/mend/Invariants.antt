use Rattle.std.proofs.Common.{◌≡◌, ◌<◌, ◌≤◌, ◌+◌, ◌-◌, ℕ, length}
use Rattle.winner_tree.specs.Tree.{up, IsBelow}
use Rattle.shelf.specs.Lasts.{winner_at, AreFirstBut, AreWithin, HaveCome, IsNodeOrWinner, IsRight, Leads}
use Rattle.shelf.proofs.lasts.mend.Given as goal

-- each node is mended that is not at or above one, whose number is one less
abbrev pub invariant-loop-node : goal.invariant-loop-node
invariant-loop-node l = record {
  low : l.node ≤ length l.winners.items;
  size : length l.winners.items ≡ length l.fn.winners.items;
  within : AreWithin l.winners.items;
  above : (k : ℕ) × (up k (l.place + 1) ≡ l.node);
  same : (i : ℕ) → i < l.node → winner_at l.winners.items i ≡ winner_at l.fn.winners.items i;
  come : HaveCome l.fn.winners.items l.winners.items;
  next : 0 < l.node → IsNodeOrWinner l.winners.items (l.node - 1) l.first;
  leads : AreFirstBut l.place l.owners.entries l.lasts l.fn.winners.items → Leads l.owners.entries l.lasts l.first l.place;
  right : AreFirstBut l.place l.owners.entries l.lasts l.fn.winners.items
      → (i : ℕ) → i < length l.fn.winners.items → ((k : ℕ) → up k l.node ≡ i + 1 → ⊥) → ((IsBelow i l.place → ⊥) → IsRight l.owners.entries l.lasts l.fn.winners.items i) → IsRight l.owners.entries l.lasts l.winners.items i;
}

abbrev pub decreases-loop-node : goal.decreases-loop-node
decreases-loop-node l = l.node
