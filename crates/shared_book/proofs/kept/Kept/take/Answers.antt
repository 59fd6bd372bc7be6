-- First the window moves on, and then the book takes the event.
use Rattle.std.proofs.Common.{sym, subst, refl, inl, inr}
use Rattle.std.proofs.lemmas.Bool.{false≢true}
use Rattle.history.specs.Answers.{IsTimely}
use Rattle.shared_book.proofs.CallLaws.{step_alike}
use Rattle.shared_book.proofs.RecordLaws.{always_ok}
use Rattle.shared_book.proofs.kept.Kept.take.Goals as goal

pub append-requires-clause-timely : goal.append-requires-clause-timely
append-requires-clause-timely g c = subst (λ n. IsTimely n c.args.event) (sym c.make_room.ensures.moves.same_total) c.requires.timely

pub returns-in-Ok-clause-step : goal.returns-in-Ok-clause-step
returns-in-Ok-clause-step g c = record {
  between = c.make_room.new.self;
  moves = c.make_room.ensures.moves;
  room = always_ok c.append.result c.in-Ok.ensures.room;
  taken = inl c.append.ensures.taken;
}

pub returns-in-Err-clause-step : goal.returns-in-Err-clause-step
returns-in-Err-clause-step g c = record {
  between = c.make_room.new.self;
  moves = c.make_room.ensures.moves;
  room = tt;
  taken = inr (
    c.in-Err.ensures.full,
    record { timely = subst (λ n. IsTimely n c.args.event) (sym c.make_room.ensures.moves.same_total) c.requires.timely; told = refl; same = refl; same_pass = refl },
  );
}

pub returns-in-Ok-clause-free : goal.returns-in-Ok-clause-free
returns-in-Ok-clause-free g c = λ free.
    c.append.ensures.free free.plain (subst (λ (book : g.row.B.Denot). g.B.Book.is_free book c.args.event) (sym c.make_room.ensures.moves.same_book) free.free)

pub returns-in-Err-clause-free : goal.returns-in-Err-clause-free
returns-in-Err-clause-free g c = λ free. absurd (false≢true (c.in-Err.ensures.free free.room))

-- The book's own answer is that to the append.
pub returns-in-Ok-clause-own : goal.returns-in-Ok-clause-own
returns-in-Ok-clause-own g c = λ room is.
    let b = g.B.Book in
    step_alike b.stands_for b.settings b.stored c.args.event c.append.result c.append.new.self.book c.make_room.ensures.moves.same_book is c.append.ensures.taken.book

pub returns-in-Err-clause-own : goal.returns-in-Err-clause-own
returns-in-Err-clause-own g c = λ room is. absurd (false≢true (c.in-Err.ensures.free room))
