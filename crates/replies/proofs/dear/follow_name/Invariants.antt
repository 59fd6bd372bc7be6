use Rattle.std.proofs.Common.{◌≡◌, ◌+◌, ◌<◌, ◌≤◌, ℕ, length}
use Rattle.std.specs.Prelude.{IfSome}
use Rattle.dns_name.specs.declared.limits.TheConstants.{MAX_NAME_OCTETS}
use Rattle.replies.specs.Dear.{Come, NameAt, NameTakes}
use Rattle.replies.proofs.Dearness.{settle}
use Rattle.replies.proofs.dear.follow_name.Given as goal

-- The place after the name is within the message, and the octets so far leave one for the zero octet. What the name takes from here on is what it takes, less the steps so far.
abbrev pub invariant-loop-octet : goal.invariant-loop-octet
invariant-loop-octet l = record {
  within : IfSome l.after (λ after. after ≤ length l.octets);
  few : l.used < MAX_NAME_OCTETS;
  spent : ℕ;
  is_spent : spent + l.left ≡ l.fn.left;
  leads : (k n : ℕ) (come : Come) → NameTakes l.octets l.copies l.start l.at l.run l.used k come → n ≡ spent + k
      → NameAt l.octets l.copies l.start n (settle l.after come);
}

-- Each turn takes a step.
abbrev pub decreases-loop-octet : goal.decreases-loop-octet
decreases-loop-octet l = l.left
