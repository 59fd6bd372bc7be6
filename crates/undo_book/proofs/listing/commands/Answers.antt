use Rattle.std.proofs.Common.{◌≡◌, ℕ, ◌+◌, ◌<◌, Option, List, [], ◌∷◌, ◌++◌, length, get_or, take, sym, ◌∙◌, ap}
use Rattle.std.specs.Prelude.{filter_map}
use Rattle.std.specs.List.{cons_option}
use Rattle.std.proofs.lemmas.List.{take_more}
use Rattle.std.proofs.lemmas.List.Elements.{filter_map-append}
use Rattle.history.specs.declared.event.Entry.{Entry}
use Rattle.history.specs.declared.event.Journalled.{Journalled}
use Rattle.undo_book.specs.declared.log.Logged.{Logged}
use Rattle.history.specs.Journal.{journalled_of}
use Rattle.undo_book.specs.Plain.{marks_in, entries_in}
use Rattle.undo_book.proofs.PlainLaws.{entries_push}
use Rattle.undo_book.proofs.listing.commands.Goals as goal

-- with the commands of one entry more
with_next : (held : Entry → Option Journalled) (log items : List Logged) (i : ℕ) (l : Logged) (so_far after : List Journalled)
    → items ≡ log → i < length items → l ≡ get_or items i l → so_far ≡ filter_map held (entries_in (take i log)) → after ≡ so_far ++ cons_option (held l.entry) []
    → after ≡ filter_map held (entries_in (take (i + 1) log))
with_next held log items i l so_far after are within is known next =
    let within' : i < length log = rw are at within in
    let is' : l ≡ get_or log i l = rw are at is in
    let more : take (i + 1) log ≡ take i log ++ l ∷ [] = take_more log i l within' ∙ ap (λ (x : Logged). take i log ++ x ∷ []) (sym is') in
    next
    ∙ ap (λ (cs : List Journalled). cs ++ cons_option (held l.entry) []) known
    ∙ sym (filter_map-append held (entries_in (take i log)) (l.entry ∷ []))
    ∙ sym (ap (λ (es : List Entry). filter_map held es) (entries_push (take i log) l))
    ∙ sym (ap (λ (ls : List Logged). filter_map held (entries_in ls)) more)

pub loop-logged-preserved : goal.loop-logged-preserved
loop-logged-preserved c =
    let past = c.args.past.now in
    with_next (λ entry. journalled_of (marks_in past.marks) entry.event entry.ticket) past.log.items _ c.loop-logged.logged-index c.logged-item.result
    _ _ c.deref-logged-items.ensures.value c.loop-logged-test.true c.logged-item.is c.loop-logged.invariant c.in_ok-add_command.ensures
