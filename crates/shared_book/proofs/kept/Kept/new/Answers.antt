use Rattle.std.proofs.Common.{rules, ◌≤◌, ℕ, arith, subst, sym, ◌∙◌}
use Rattle.shared_book.specs.Kept.{IsKept}
use Rattle.shared_book.proofs.RecordLaws.{begins}
use Rattle.shared_book.proofs.kept.Kept.new.Goals as goal

pub invariant_of-kept : goal.invariant_of-kept
invariant_of-kept g c =
    let window = c.in-Ok.window in
    let some : 1 ≤ window.limit = omega (arith, c.in-Ok.ensures.limit) in
    let begun = begins g.B.Book.stands_for g.B.Book.settings c.args.book c.args.opening window.first window.limit window.calls.items c.requires.books c.in-Ok.ensures.first c.in-Ok.ensures.calls some in
    let is : ℕ → Type 0 = λ callers. IsKept g.B.Book.stands_for g.B.Book.settings (record {
      book = c.args.book;
      opening = c.args.opening;
      first = window.first;
      window = window.calls.items;
      limit = window.limit;
      total = 0;
      callers = callers;
    }) in
    (search rules, (c.in-Ok.ensures.limit ∙ c.requires.known.limit_is, c.requires.known.settings_are), subst is (sym c.one.ensures) begun)
