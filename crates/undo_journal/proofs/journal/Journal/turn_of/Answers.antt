use Rattle.std.proofs.Common.{◌≡◌, ◌∙◌, sym, ap}
use Rattle.std.proofs.lemmas.Bool.{false≢true}
use Rattle.change_law.specs.declared.kept.KeptChange.{KeptChange}
use Rattle.undo_journal.proofs.ReachLaws.{turn_needs_none_at}
use Rattle.undo_journal.proofs.journal.Journal.turn_of.Goals as goal

pub returns-in_err-turn_at-in-At-clause-free : goal.returns-in_err-turn_at-in-At-clause-free
returns-in_err-turn_at-in-At-clause-free g c = λ none.
    let is = c.in-At.ensures.2 in
    let can = c.in-At.ensures.3 in
    let same : can.here ≡ is.here = cc (can.there, is.there) in
    absurd (false≢true (c.in_err-turn_at-in-At.ensures.free
    (turn_needs_none_at g.C.World.World.needs_memory c.args.from c.args.self.now.kept c.in-At.place c.args.ticket is.here none is.there is.own (ap (λ (k : KeptChange _). k.standing) (sym same) ∙ can.stands))))
