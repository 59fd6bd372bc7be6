use Rattle.std.proofs.Common.{◌≡◌, false, List, sym, subst}
use Rattle.stub_table.specs.declared.stub.Stub.{Stub}
use Rattle.stub_table.specs.Change.{has_stub}
use Rattle.named_list.specs.TurnLaws.{puts_none_without}
use Rattle.stub_table.proofs.SoundLaws.{sound_without}
use Rattle.stub_table.proofs.table.StubTable.remove.Goals as goal

pub invariant_of-self : goal.invariant_of-self
invariant_of-self c = rw c.take-turn.ensures.list (sound_without c.args.name.now c.self.inside.stubs c.self.invariant)

pub returns-clause-frees : goal.returns-clause-frees
returns-clause-frees c none =
    let none' = subst (λ (stubs : List Stub). has_stub stubs c.args.name.now ≡ false) (sym c.self.view_is) none in
    puts_none_without (λ (s : Stub). s.name) c.args.name.now c.take-turn.result c.take-turn.new.self c.self.inside.stubs c.take-turn.ensures.list none' c.take-turn.ensures.saved
