-- The values of `==`.
use Rattle.std.specs.Prelude.{Bool}
use Rattle.shared_book.specs.declared.receipt.Receipt.{Receipt}
use Rattle.shared_book.specs.contracts.receipt.ReceiptPartialEq.TheImpl as receipt_impl

-- whether `==` calls two receipts equal
abbrev pub receipt_eq : Receipt → Receipt → Bool
receipt_eq a b = receipt_impl.ghosts.eq a b
