use Rattle.std.proofs.Common.{Bor, List, Option, Some, inl, subst, sym, ℕ}
use Rattle.std.specs.Option.{option_copied}
use Rattle.dns_name.specs.Labels.{Labels}
use Rattle.flight.specs.declared.sockets.Listened.{Listened}
use Rattle.flight.specs.declared.sockets.Listened.TheVariants.{Came}
use Rattle.outside.specs.Refusals.{IsRefusal, NotesAnswer}
use Rattle.outside.proofs.refusals.Refusals.note_heard.Goals as goal

pub returns-then-is_refusal : goal.returns-then-is_refusal
returns-then-is_refusal c =
    let octets = c.in-Came.octets in
    let refuses : IsRefusal octets = subst (λ (m : List ℕ). IsRefusal m) c.as_slice.ensures (c.is_refusal.ensures.0 c.if-is_refusal.true) in
    let came : NotesAnswer (Came octets) c.args.server.now c.args.over (Some c.in-Some.zone.now) c.args.now c.args.self.now c.note.new.self = inl (refuses, c.note.ensures) in
    let named = subst (λ (zone : Option (Bor Labels)). NotesAnswer (Came octets) c.args.server.now c.args.over (option_copied zone) c.args.now c.args.self.now c.note.new.self) (sym c.in-Some.is) came in
    subst (λ (heard : Listened). NotesAnswer heard c.args.server.now c.args.over (option_copied c.args.zone) c.args.now c.args.self.now c.note.new.self) (sym c.in-Came.is) named
