use Rattle.std.proofs.Common.{arith}
use Rattle.shelf.proofs.NamedLaws.{columns_few, names_few}
use Rattle.shelf.proofs.shelf.Shelf.names.Goals as goal

pub returns-clause-few : goal.returns-clause-few
returns-clause-few c = λ whole. omega (arith, c.len.ensures.len, names_few c.args.self.now.owners.entries whole.named, whole.counted)

pub returns-clause-columns : goal.returns-clause-columns
returns-clause-columns c = λ whole. omega (arith, columns_few c.args.self.now.owners.entries whole.named, whole.counted)
