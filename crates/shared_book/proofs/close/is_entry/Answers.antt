use Rattle.std.proofs.Common.{rules, ◌<◌, length}
use Rattle.shared_book.proofs.ClosingLaws.{is_entry_at}
use Rattle.shared_book.proofs.close.is_entry.Goals as goal

pub returns : goal.returns
returns c =
    let within : c.args.i < length c.args.entries.now.items = search rules in
    is_entry_at c.args.entries.now.items c.args.i c.args.receipt.now c.index.result.now c.eq.result within c.index.ensures c.eq.ensures
