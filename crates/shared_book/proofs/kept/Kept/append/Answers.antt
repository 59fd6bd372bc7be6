-- The book's reply to the copy is that to the event, and so the window stays legal.
use Rattle.std.proofs.Common.{rules, ◌≡◌, ◌<◌, ◌+◌, List, [], ◌∷◌, ◌++◌, length, true, refl, sym, ◌∙◌, subst}
use Rattle.std.specs.Prelude.{Ok}
use Rattle.history.specs.declared.event.Event.{Event}
use Rattle.history.specs.declared.event.Settings.{Settings}
use Rattle.history.specs.Answers.{IsTimely}
use Rattle.history.specs.Desk.{IsStep as IsBookStep}
use Rattle.history.specs.Event.{is_plain}
use Rattle.history.specs.History.{past_of}
use Rattle.history.specs.Reply.{reply_of}
use Rattle.shared_book.specs.declared.receipt.Receipt.{Receipt}
use Rattle.shared_book.specs.Kept.{KeptState}
use Rattle.shared_book.proofs.RecordLaws.{all_events, same_lack, keeps_called, keeps_book, timely_after}
use Rattle.shared_book.proofs.kept.Kept.append.Goals as goal

pub tell-requires-clause-some : goal.tell-requires-clause-some
tell-requires-clause-some g c =
    let k = c.self.invariant.2 in
    (all_events g.B.Book.stands_for g.B.Book.settings _ k, k.stands)

pub tell-requires-clause-timely : goal.tell-requires-clause-timely
tell-requires-clause-timely g c =
    let b = g.B.Book in
    let total : IsTimely c.self.inside.total c.args.copy = search rules in
    timely_after b.stands_for b.settings g.met.B.Book.one_count _ c.self.invariant.2 c.args.copy total

pub invariant_of-self : goal.invariant_of-self
invariant_of-self g c =
    let b = g.B.Book in
    (search rules, search rules, keeps_book b.stands_for b.settings _ c.tell.new.book c.self.invariant.2 c.in-Err.ensures.step.stands c.in-Err.ensures.step.same_settings)

pub invariant_of-self-2 : goal.invariant_of-self-2
invariant_of-self-2 g c =
    let b = g.B.Book in
    let i = c.self.inside in
    let k = c.self.invariant.2 in
    let history : List Event = all_events b.stands_for b.settings _ k in
    let settings : Settings = b.settings i.book in
    let told = c.in-Ok.told in
    let e : Receipt = record { number = i.total + 1; caller = c.caller.result; event = c.args.event; reply = told.kept } in
    let same : c.args.copy ≡ c.args.event = c.requires.same in
    let step : IsBookStep b.stands_for b.settings b.stored i.book c.args.event (Ok told.reply) c.tell.new.book
    = subst (λ (x : Event). IsBookStep b.stands_for b.settings b.stored i.book x (Ok told.reply) c.tell.new.book) same c.in-Ok.ensures.step in
    let answers = step.answers history k.stands in
    let reply : e.reply ≡ reply_of settings (past_of settings.journal history) c.args.event = told.alike ∙ answers.1 in
    let room : length i.window.calls.items < i.window.limit = subst (λ (kept : KeptState g.row.B.Denot). length kept.window < kept.limit) (sym c.self.view_is) c.requires.room in
    let grown : c.push.new.self.calls.items ≡ i.window.calls.items ++ e ∷ [] = search rules in
    (search rules, search rules, keeps_called b.stands_for b.settings _ c.tell.new.book c.push.new.self.first c.push.new.self.limit c.push.new.self.calls.items e k c.push.ensures.first c.push.ensures.limit room answers.0 reply (step.stands history k.stands) step.same_settings refl grown)

pub returns-in-Err-clause-free : goal.returns-in-Err-clause-free
returns-in-Err-clause-free g c = λ plain free is.
    let is_free = g.B.Book.is_free in
    let here = subst (λ (kept : KeptState g.row.B.Denot). is_free kept.book c.args.event) (sym c.self.view_is) free in
    let same : c.args.copy ≡ c.args.event = c.requires.same in
    c.in-Err.ensures.free (subst (λ (e : Event). is_plain e ≡ true) (sym same) plain) (subst (λ (e : Event). is_free c.self.inside.book e) (sym same) here) (same_lack c.in-Err.fault is)
