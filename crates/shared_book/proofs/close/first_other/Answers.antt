use Rattle.std.proofs.Common.{rules, ◌≡◌, true, arith}
use Rattle.shared_book.proofs.ClosingLaws.{first_other_at, take_both}
use Rattle.shared_book.proofs.close.first_other.Goals as goal

pub returns-then-not-is_entry : goal.returns-then-not-is_entry
returns-then-not-is_entry c =
    first_other_at c.args.first c.args.receipts.now c.args.entries.now.items c.loop-i.i c.index-receipts-i.result (omega arith) c.index-receipts-i.is c.loop-i.invariant.1
    (λ g. let is : c.is_entry.result ≡ true = c.is_entry.ensures.1 g in search rules)

pub loop-i-preserved : goal.loop-i-preserved
loop-i-preserved c =
    take_both c.args.receipts.now c.args.entries.now.items c.loop-i.i c.index-receipts-i.result (omega arith) c.index-receipts-i.is c.loop-i.invariant.1
    (let is : c.is_entry.result ≡ true = search rules in c.is_entry.ensures.0 is)
