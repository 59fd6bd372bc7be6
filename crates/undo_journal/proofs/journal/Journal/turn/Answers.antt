use Rattle.std.proofs.Common.{ℕ, ◌≡◌, ◌∙◌, Some, sym, ap}
use Rattle.std.specs.Prelude.{option_map}
use Rattle.std.proofs.lemmas.Bool.{false≢true}
use Rattle.undo_journal.proofs.ReachLaws.{turn_needs_none_at}
use Rattle.undo_journal.proofs.journal.Journal.turn.Goals as goal

pub returns-in_err-ticket-in-Some-clause-free : goal.returns-in_err-ticket-in-Some-clause-free
returns-in_err-ticket-in-Some-clause-free g c = λ ticket last none.
    let is = c.in-Some.ensures.some.0 in
    let own = one_of (sym (ap (λ o. option_map (λ k. k.ticket) o) is.there) ∙ (c.in-Some.ensures.some.1 ∙ last)) in
    absurd (false≢true (c.in_err-ticket-in-Some.ensures.free
    (turn_needs_none_at g.C.World.World.needs_memory c.args.from c.args.self.now.kept c.in-Some.place ticket is.here none is.there own is.stands)))
  where
    one_of : {a b : ℕ} → Some a ≡ Some b → a ≡ b
    one_of e = cc
