use Rattle.std.proofs.Common.{List, subst}
use Rattle.std.specs.List.{AllByRecursion}
use Rattle.cell_store.specs.declared.owner.KindColumn.{KindColumn}
use Rattle.cell_store.specs.Mixed.{IsEven}
use Rattle.cell_store.proofs.MixedLaws.{like_first}
use Rattle.cell_store.proofs.owner.OwnerCells.is_mixed.Goals as goal

pub returns-clause-alike : goal.returns-clause-alike
returns-clause-alike c = λ one.
    like_first c.args.self.now (subst (λ (l : List KindColumn). AllByRecursion (λ (own : KindColumn). IsEven own.column) l) c.deref.ensures.value (c.any_mixed.ensures.even one))
