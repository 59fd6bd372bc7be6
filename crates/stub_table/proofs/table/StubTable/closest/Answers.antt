use Rattle.std.proofs.Common.{◌≡◌, ap, ◌∙◌}
use Rattle.stub_table.specs.Stubs.{Stubs}
use Rattle.stub_table.specs.Closest.{closest_stub}
use Rattle.stub_table.proofs.table.StubTable.closest.Goals as goal

pub returns : goal.returns
returns c = c.closest.ensures ∙ ap (λ (stubs : Stubs). closest_stub stubs c.args.name.now) c.self.view_is
