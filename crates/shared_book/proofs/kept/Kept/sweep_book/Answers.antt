use Rattle.std.proofs.Common.{rules, refl}
use Rattle.shared_book.proofs.RecordLaws.{keeps_book}
use Rattle.shared_book.proofs.kept.Kept.sweep_book.Goals as goal

pub invariant_of-self : goal.invariant_of-self
invariant_of-self g c =
    let b = g.B.Book in
    (search rules, search rules, keeps_book b.stands_for b.settings _ c.sweep_some.new.self c.self.invariant.2 c.sweep_some.ensures.stands c.sweep_some.ensures.settings)

pub returns-clause-freed : goal.returns-clause-freed
returns-clause-freed g c = rw (← c.self.view_is) (record {
  stands = c.sweep_some.ensures.stands;
  opening = λ h is. is;
  no_more = c.sweep_some.ensures.stored;
  same_settings = (c.sweep_some.ensures.settings, refl);
  same_record = record { first = refl; window = refl; limit = refl; total = refl; callers = refl };
})
