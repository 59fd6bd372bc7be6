use Rattle.stub_table.proofs.SoundLaws.{sound_empty}
use Rattle.stub_table.proofs.table.StubTable.new.Goals as goal

pub invariant_of-result : goal.invariant_of-result
invariant_of-result c = rw c.new.ensures sound_empty
