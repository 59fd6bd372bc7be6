use Rattle.std.proofs.Common.{refl}
use Rattle.cell_store.specs.declared.owner.OwnerCells.{OwnerCells}
use Rattle.cell_store.proofs.EmptyLaws.{no_whole, thin_cells, thin_places, thin_settles, thin_tidy, thin_upto, tidy_whole}
use Rattle.cell_store.proofs.OpenLaws.{same_content}
use Rattle.cell_store.proofs.owner.OwnerCells.drop_empty.Goals as goal

pub returns-then-is_some-clause-tidy : goal.returns-then-is_some-clause-tidy
returns-then-is_some-clause-tidy c = tidy_whole c.args.self.now c.is_some.result c.is_some.ensures c.if-is_some.true

pub returns-then-is_some-clause-same : goal.returns-then-is_some-clause-same
returns-then-is_some-clause-same c = same_content c.args.self.now c.args.self.now refl refl

pub returns-clause-same : goal.returns-clause-same
returns-clause-same c =
    let old = c.args.self.now in
    let new : OwnerCells = record { alloc = old.alloc; whole = old.whole; kinds = c.keep_counted.new.kinds } in
    let none = no_whole old c.is_some.result c.is_some.ensures c.if-is_some.false in
    let once = c.requires.top.1.once in
    record {
      cells = thin_cells old new refl c.keep_counted.ensures none once;
      places = thin_places old new refl c.keep_counted.ensures none once;
      settles = λ n k was. thin_settles old new refl c.keep_counted.ensures none n k;
    }

pub returns-clause-upto : goal.returns-clause-upto
returns-clause-upto c = thin_upto c.args.self.now (record { alloc = c.args.self.now.alloc; whole = c.args.self.now.whole; kinds = c.keep_counted.new.kinds }) refl c.keep_counted.ensures

pub returns-clause-tidy : goal.returns-clause-tidy
returns-clause-tidy c = thin_tidy c.args.self.now (record { alloc = c.args.self.now.alloc; whole = c.args.self.now.whole; kinds = c.keep_counted.new.kinds }) refl c.keep_counted.ensures
