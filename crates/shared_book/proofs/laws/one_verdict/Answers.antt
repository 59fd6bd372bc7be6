use Rattle.shared_book.proofs.OrderLaws.{one_verdict}
use Rattle.shared_book.proofs.laws.one_verdict.Goals as goal

pub returns : goal.returns
returns g c = λ kept passes receipts a b p q. one_verdict kept passes receipts a b p q
