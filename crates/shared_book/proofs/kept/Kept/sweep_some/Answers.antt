use Rattle.std.proofs.Common.{rules, refl}
use Rattle.shared_book.proofs.RecordLaws.{keeps_book, keeps_stayed}
use Rattle.shared_book.proofs.kept.Kept.sweep_some.Goals as goal

pub invariant_of-self : goal.invariant_of-self
invariant_of-self g c =
    let b = g.B.Book in
    let kept = keeps_book b.stands_for b.settings _ c.sweep_one.new.book c.self.invariant.2 c.sweep_one.ensures.stands c.sweep_one.ensures.settings in
    (search rules, search rules, keeps_stayed b.stands_for b.settings _ c.sweep_one.new.opening kept c.sweep_one.ensures.opening c.sweep_one.ensures.opening_settings)

pub returns-clause-turn : goal.returns-clause-turn
returns-clause-turn g c = rw (← c.self.view_is) (record {
  freed = record {
    stands = c.sweep_one.ensures.stands;
    opening = c.sweep_one.ensures.opening;
    no_more = c.sweep_one.ensures.stored;
    same_settings = (c.sweep_one.ensures.settings, c.sweep_one.ensures.opening_settings);
    same_record = record { first = refl; window = refl; limit = refl; total = refl; callers = refl };
  };
  fewer = c.sweep_one.ensures.more;
  none = c.sweep_one.ensures.none;
})
