-- The book with an event more: each field is what the definitions say.
use Rattle.std.specs.List.{cons_option}
use Rattle.std.proofs.Common.{◌≡◌, ℕ, ◌+◌, max, List, [], ◌∷◌, ◌++◌, false, refl, sym, ◌∙◌, ap, subst, arith, length}
use Rattle.history.specs.declared.event.Entry.{Entry}
use Rattle.history.specs.declared.event.Reply.{Reply}
use Rattle.undo_book.specs.declared.log.Logged.{Logged}
use Rattle.history.specs.Event.{moment_of}
use Rattle.history.specs.Counts.{counted_in}
use Rattle.history.specs.Marks.{Marks}
use Rattle.history.specs.Tickets.{InOne}
use Rattle.history.specs.History.{Past}
use Rattle.history.specs.Reply.{reply_of}
use Rattle.undo_book.specs.Plain.{marks_in, marks_by, entries_in, AreFlagged}
use Rattle.undo_book.specs.PlainPast.{past_in}
use Rattle.undo_book.specs.declared.index.Indexed.{Indexed}
use Rattle.undo_book.specs.Index.{index_from, index_of_entry}
use Rattle.undo_book.proofs.AddedLaws.{added_by}
use Rattle.undo_book.proofs.StoredLaws.{counted_after}
use Rattle.undo_book.proofs.IndexLaws.{index_after}
use Rattle.history.specs.TicketLaws.{next_in_one}
use Rattle.undo_book.proofs.PlainLaws.{marks_by_reply, entries_after, length_after, flags_after, past_by_parts, entry_by_parts}
use Rattle.undo_book.proofs.plain_history.PlainPast.add.Goals as goal

pub invariant_of-self : goal.invariant_of-self
invariant_of-self c =
    let book = c.args.self.now in
    let past : Past = past_in book in
    let event = c.args.event in
    let bound = book.settings.journal in
    let reply : Reply = reply_of book.settings past event in
    let logged : Logged = record { entry = record { event = event; moment = c.max-moment.result; ticket = c.ticket_taken-ticket.result }; struck = false } in
    let added = added_by book.settings past event book.log.items logged c.args.reply.now c.ticket_taken-ticket.result (marks_in c.mark.new.marks) _ c.set_flags.new.log.items
    c.requires.reply c.ticket_taken-ticket.ensures c.mark.ensures.marks c.push_reserved.ensures.items c.set_flags.ensures in
    let size : length c.set_flags.new.log.items ≡ length book.log.items + 1 = ap (λ (l : List Logged). length l) added.log ∙ length_after reply book.log.items logged in
    let few = book.few_tickets in
    let flags = flags_after book.settings past event book.log.items logged book.in_one book.flagged refl added.ticket in
    record {
      has_journal = book.has_journal;
      few_tickets = omega (arith, c.mark.ensures.few);
      counted =
          c.stored_after-self.ensures
          ∙ sym (ap counted_in (ap entries_in added.log ∙ entries_after reply book.log.items logged) ∙ counted_after book.log.items logged.entry);
      indexed =
          c.add_to_index.ensures
          ∙ ap (λ (l : List Indexed). l ++ cons_option (index_of_entry c.len.result event) []) book.indexed
          ∙ ap (λ (n : ℕ). index_from 0 book.log.items ++ cons_option (index_of_entry n event) []) (c.len.ensures ∙ book.log.ok.0)
          ∙ sym (index_after reply book.log.items logged)
          ∙ sym (ap (λ (l : List Logged). index_from 0 l) added.log);
      in_one = subst (λ (m : Marks). (t : ℕ) → InOne m t) (sym (added.marks ∙ marks_by_reply book.settings past event)) (next_in_one bound past event book.in_one);
      flagged =
          subst (λ (m : Marks). AreFlagged m.struck c.set_flags.new.log.items) (sym added.marks)
          (subst (λ (l : List Logged). AreFlagged (marks_by bound past.marks reply).struck l) (sym added.log) flags);
    }

pub returns-clause-past : goal.returns-clause-past
returns-clause-past c =
    let book = c.args.self.now in
    let past : Past = past_in book in
    let event = c.args.event in
    let logged : Logged = record { entry = record { event = event; moment = c.max-moment.result; ticket = c.ticket_taken-ticket.result }; struck = false } in
    let added = added_by book.settings past event book.log.items logged c.args.reply.now c.ticket_taken-ticket.result (marks_in c.mark.new.marks) _ c.set_flags.new.log.items
    c.requires.reply c.ticket_taken-ticket.ensures c.mark.ensures.marks c.push_reserved.ensures.items c.set_flags.ensures in
    let moment : c.max-moment.result ≡ max past.now (moment_of event) = c.max-moment.ensures ∙ ap (λ (n : ℕ). max past.now n) c.moment.ensures in
    past_by_parts _ _ _ _ _ _ moment (added.marks ∙ marks_by_reply book.settings past event)
    (ap entries_in added.log ∙ entries_after (reply_of book.settings past event) book.log.items logged ∙ ap (λ (e : Entry). past.log ++ e ∷ []) (entry_by_parts event _ _ _ _ moment added.ticket))
