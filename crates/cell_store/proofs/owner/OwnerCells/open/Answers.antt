use Rattle.std.proofs.Common.{[]}
use Rattle.cell_store.proofs.OpenLaws.{opens_none}
use Rattle.cell_store.proofs.SettleLaws.{settles_here}
use Rattle.cell_store.proofs.owner.OwnerCells.open.Goals as goal

pub returns-clause-opened : goal.returns-clause-opened
returns-clause-opened c = λ n. settles_here c.place_for.new.self.whole c.place_for.new.self.kinds.items c.args.kind c.in_ok-place_for.field-0 n (record { kind = 0; column = record { versions = []; upto = 0 } }) c.in_ok-place_for.ensures.place

pub returns-then-is_none-clause-opens : goal.returns-then-is_none-clause-opens
returns-then-is_none-clause-opens c = opens_none c.args.top c.args.self.now c.requires.upto
