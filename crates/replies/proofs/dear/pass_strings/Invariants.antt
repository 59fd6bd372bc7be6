use Rattle.std.proofs.Common.{◌≡◌, ◌+◌, ℕ}
use Rattle.replies.specs.Dear.{Come, StringsTake}
use Rattle.replies.proofs.dear.pass_strings.Given as goal

-- What the strings take from here on is what they take, less the steps so far.
abbrev pub invariant-loop-size : goal.invariant-loop-size
invariant-loop-size l = record {
  spent : ℕ;
  is_spent : spent + l.left ≡ l.fn.left;
  leads : (k n : ℕ) (come : Come) → StringsTake l.end l.rest k come → n ≡ spent + k → StringsTake l.end l.strings n come;
}

-- Each turn takes a step.
abbrev pub decreases-loop-size : goal.decreases-loop-size
decreases-loop-size l = l.left
