-- What a list of events comes to.
use Rattle.std.specs.Prelude.{ℕ, List, []}
use Rattle.history.specs.declared.event.Entry.{Entry}
use Rattle.history.specs.Marks.{Marks, no_marks}

-- the events so far
pub record Past : Type 0 where
  pub now : ℕ  -- the greatest moment given, by struck commands too
  pub marks : Marks
  pub log : List Entry  -- each event, with the moment at which it counts and the ticket that it took

-- before any event
abbrev pub nothing : Past
nothing = record { now = 0; marks = no_marks; log = [] }
