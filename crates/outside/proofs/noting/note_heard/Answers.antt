use Rattle.std.proofs.Common.{subst, sym}
use Rattle.flight.specs.declared.sockets.Listened.{Listened}
use Rattle.outside.specs.Pauses.{NotesHeard}
use Rattle.outside.proofs.noting.note_heard.Goals as goal

pub returns-in-Came : goal.returns-in-Came
returns-in-Came c =
    subst (λ (h : Listened). NotesHeard h c.args.flaw c.args.server.now c.args.over c.args.query.now c.args.now c.args.pauses.now c.note_answered.new.self) (sym c.in-Came.is) c.note_answered.ensures

pub returns-in-NoMemory : goal.returns-in-NoMemory
returns-in-NoMemory c =
    subst (λ (h : Listened). NotesHeard h c.args.flaw c.args.server.now c.args.over c.args.query.now c.args.now c.args.pauses.now c.note_answered-in-NoMemory.new.self) (sym c.in-NoMemory.is) c.note_answered-in-NoMemory.ensures

pub returns-in-Broken : goal.returns-in-Broken
returns-in-Broken c =
    subst (λ (h : Listened). NotesHeard h c.args.flaw c.args.server.now c.args.over c.args.query.now c.args.now c.args.pauses.now c.note_early_end.new.pauses) (sym c.in-Broken.is) c.note_early_end.ensures
