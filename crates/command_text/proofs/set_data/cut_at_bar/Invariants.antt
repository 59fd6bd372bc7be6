use Rattle.std.proofs.Common.{◌≡◌, ℕ, List, ◌++◌, length}
use Rattle.command_text.specs.Bar.{onto, pieces}
use Rattle.command_text.proofs.set_data.cut_at_bar.Given as goal

-- the words so far are of the first piece
abbrev pub invariant-loop-word : goal.invariant-loop-word
invariant-loop-word l = (front : List ℕ) × (l.text ≡ front ++ l.rest) × (pieces l.text ≡ onto front (pieces l.rest))

abbrev pub decreases-loop-word : goal.decreases-loop-word
decreases-loop-word l = length l.rest
