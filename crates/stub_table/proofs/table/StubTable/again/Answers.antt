use Rattle.std.proofs.Common.{List, sym, subst}
use Rattle.named_list.specs.Turn.{HasPlace}
use Rattle.named_list.specs.TurnLaws.{turned}
use Rattle.stub_table.specs.declared.stub.Stub.{Stub}
use Rattle.stub_table.proofs.table.StubTable.again.Goals as goal

pub returns-clause-turned : goal.returns-clause-turned
returns-clause-turned c =
    let fits = subst (λ (stubs : List Stub). HasPlace (λ (s : Stub). s.name) c.args.saved.now.turn stubs) (sym c.self.view_is) c.requires.1.fits in
    turned (λ (s : Stub). s.name) c.turn_over.result c.args.saved.now.turn c.turn_over.new.turn c.self.inside.stubs c.turn_over.new.self fits c.turn_over.ensures.ok c.turn_over.ensures.again
