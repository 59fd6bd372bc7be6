use Rattle.std.proofs.Common.{length}
use Rattle.command_text.proofs.AddrWords.{Left}
use Rattle.command_text.proofs.addrs.read_addrs.Given as goal

-- the addresses of the words so far are read
abbrev pub invariant-loop-word : goal.invariant-loop-word
invariant-loop-word l = Left l.text l.rest l.addrs.items

abbrev pub decreases-loop-word : goal.decreases-loop-word
decreases-loop-word l = length l.rest
