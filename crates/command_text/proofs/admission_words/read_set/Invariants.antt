use Rattle.std.proofs.Common.{◌≡◌, length}
use Rattle.std.specs.List.{AllByRecursion}
use Rattle.dns_text.specs.Data.{HasForm}
use Rattle.command_text.specs.Bar.{pieces}
use Rattle.command_text.specs.Admit.{data_of}
use Rattle.command_text.proofs.Sets.{behind}
use Rattle.command_text.proofs.admission_words.read_set.Given as goal

-- the data of the pieces so far are read, each of the form of its type
abbrev pub invariant-loop-piece : goal.invariant-loop-piece
invariant-loop-piece l = record {
  read : data_of l.kind (pieces l.text) ≡ behind l.data.items (data_of l.kind (pieces l.rest));
  formed : AllByRecursion (HasForm l.kind) l.data.items;
}

abbrev pub decreases-loop-piece : goal.decreases-loop-piece
decreases-loop-piece l = length l.rest
