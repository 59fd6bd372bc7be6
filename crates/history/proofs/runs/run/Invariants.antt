use Rattle.std.proofs.Common.{◌≡◌, List, ◌++◌}
use Rattle.history.specs.declared.event.Event.{Event}
use Rattle.history.specs.Reply.{replies_of}
use Rattle.history.proofs.runs.run.Given as goal

-- the events so far are answered and taken
abbrev pub invariant-loop-event : goal.invariant-loop-event
invariant-loop-event g l =
    let stands_for = g.B.Book.stands_for in
    let settings = g.B.Book.settings in
    record {
      told : (h : List Event) → stands_for l.fn.book h → l.replies.items ≡ l.fn.replies.items ++ replies_of (settings l.fn.book) h l.yielded;
      taken : (h : List Event) → stands_for l.fn.book h → stands_for l.book (h ++ l.yielded);
      settings : settings l.book ≡ settings l.fn.book;
    }
