use Rattle.std.proofs.Common.{List, [], ◌∷◌, ◌++◌, sym, ◌∙◌, ap, subst, append_assoc}
use Rattle.std.proofs.lemmas.Result.{err_from_is_err_and}
use Rattle.std.proofs.iter.Next.{Yields-more}
use Rattle.std.specs.Vec.Iter.{into_iter_items, into_iter_steps}
use Rattle.history.specs.declared.event.Event.{Event}
use Rattle.history.specs.declared.event.Reply.{Reply}
use Rattle.history.specs.declared.event.Settings.{Settings}
use Rattle.history.specs.declared.runs.RunFault.{RunFault}
use Rattle.history.specs.History.{past_of}
use Rattle.history.specs.Reply.{reply_of, replies_of}
use Rattle.history.specs.Runs.{Meets}
use Rattle.history.proofs.Replying.{replies_of-push}
use Rattle.history.proofs.Taken.{given_last}
use Rattle.history.proofs.runs.run.Goals as goal

pub loop-event-preserved : goal.loop-event-preserved
loop-event-preserved g c =
    let so_far = c.loop-event.invariant in
    let events = c.loop-event.yielded in
    let event = c.in-Some.event in
    let settings = g.B.Book.settings c.args.book.now in
    record {
      told = λ h s.
          let one = c.in_ok-step_one.ensures.answered (h ++ events) (so_far.taken h s) in
          one.0
          ∙ ap (λ (s : Settings). c.loop-event.replies.items ++ reply_of s (past_of s.journal (h ++ events)) event ∷ []) so_far.settings
          ∙ ap (λ (rs : List Reply). rs ++ reply_of settings (past_of settings.journal (h ++ events)) event ∷ []) (so_far.told h s)
          ∙ append_assoc c.args.replies.now.items (replies_of settings h events) (reply_of settings (past_of settings.journal (h ++ events)) event ∷ [])
          ∙ ap (λ (rs : List Reply). c.args.replies.now.items ++ rs) (sym (replies_of-push settings h events event));
      taken = λ h s.
          let one = c.in_ok-step_one.ensures.answered (h ++ events) (so_far.taken h s) in
          subst (λ (k : List Event). g.B.Book.stands_for c.step_one.new.book k) (append_assoc h events (event ∷ [])) one.1;
      settings = c.step_one.ensures.settings ∙ so_far.settings;
    }

pub returns-in_err-step_one-clause-replies : goal.returns-in_err-step_one-clause-replies
returns-in_err-step_one-clause-replies g c = λ h s.
    let so_far = c.loop-event.invariant in
    let before = c.loop-event.yielded in
    let event = c.in-Some.event in
    let start = c.into_iter-event-iterator.result in
    let p = err_from_is_err_and c.from_residual.result c.from_residual.ensures.1 in
    let more = Yields-more into_iter_steps start before c.loop-event.event-iterator event c.next.new.self c.loop-event.yielded_by c.in-Some.ensures.steps in
    let split = given_last start before event c.args.events.items c.next.new.self c.into_iter-event-iterator.ensures.into_iter_gives.0 more in
    let one = c.in_err-step_one.ensures.answered (h ++ before) (so_far.taken h s) in
    let met = subst (λ (s : Settings). Meets s (h ++ before) event p.0) so_far.settings
    (subst (λ (f : RunFault). Meets (g.B.Book.settings c.loop-event.book) (h ++ before) event f) (sym p.2) one.0) in
    rw (p.1) (before, record { next = event; later = into_iter_items c.next.new.self; are = split; met = met }, record { replies = one.1 ∙ so_far.told h s; stands = one.2 })
