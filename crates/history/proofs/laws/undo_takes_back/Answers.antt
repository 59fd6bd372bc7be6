use Rattle.std.proofs.Common.{List, ap}
use Rattle.history.specs.declared.event.Entry.{Entry}
use Rattle.history.specs.Changes.{tables_by}
use Rattle.history.proofs.UndoLaw.{stands_as_before, shows_as_before}
use Rattle.history.proofs.laws.undo_takes_back.Goals as goal

pub returns : goal.returns
returns c = λ bound history command some given undone accepted.
    let same = stands_as_before bound history given undone command some accepted in
    record {
      standing = same;
      tables = ap (λ (entries : List Entry). (tables_by entries).local) same;
      stubs = ap (λ (entries : List Entry). (tables_by entries).stubs) same;
      shown = shows_as_before bound history given undone command some accepted;
    }
