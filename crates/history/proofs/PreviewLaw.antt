-- A move is refused for the reason that its event is refused. The command that `what_undo` shows is the one that an undo takes back.
use Rattle.std.proofs.Common.{◌≡◌, ◌<◌, ℕ, suc, Bool, true, false, cond, Option, Some, None, List, [], ◌∷◌, length, refl, sym, ap, ◌∙◌, inl, inr, arith}
use Rattle.std.specs.Prelude.{filter, ◌||◌, ◌==◌}
use Rattle.std.specs.List.{Contains}
use Rattle.std.proofs.lemmas.Bool.{cases_Bool, eqb-true, false≢true}
use Rattle.history.specs.declared.event.Event.{Event}
use Rattle.history.specs.declared.event.Journalled.{Journalled}
use Rattle.history.specs.declared.event.Move.{Move}
use Rattle.history.specs.declared.event.Move.TheVariants as move
use Rattle.history.specs.declared.event.Refusal.TheVariants as refusal
use Rattle.history.specs.declared.event.Reply.TheVariants.{Seen, Undone, NothingToUndo}
use Rattle.history.specs.declared.event.Seen.TheVariants.{Command as CommandSeen, Refused as RefusedSeen}
use Rattle.history.specs.declared.event.Settings.{Settings}
use Rattle.history.specs.History.{Past, past_of}
use Rattle.history.specs.Journal.{command_at, command_of, commands_of, is_among, tickets_of}
use Rattle.history.specs.Marks.{last_of}
use Rattle.history.specs.Reply.{move_at, next_seen, refusal_in, reply_of, reply_to_move, reply_to_undo}
use Rattle.history.specs.TicketLaws.{among_occurs, last_occurs}
use Rattle.history.proofs.JournalLaw.{done_are_held}

pub same_refusal : (settings : Settings) (past : Past) (m : ℕ) (step : Move) → refusal_in (reply_to_move past step) ≡ refusal_in (reply_of settings past (move_at m step))
same_refusal settings past m move.Undo = refl
same_refusal settings past m move.Redo = refl
same_refusal settings past m (move.UndoOf t) = refl

-- ---- the command that an undo would take back

found_at : (commands : List Journalled) (t : ℕ) (held : Journalled) → command_at commands t ≡ Some held → (held.ticket ≡ t) × Contains commands held
found_at [] t held e = absurd cc
found_at (c ∷ commands) t held e =
    elim (cases_Bool (c.ticket == t)) [
      | inl same ↦
          let here : Some c ≡ Some held = rw same at e in
          let is : c ≡ held = cc in
          (sym (ap (λ (j : Journalled). j.ticket) is) ∙ eqb-true c.ticket t same, (0, omega arith, is))
      | inr other ↦
          let later : command_at commands t ≡ Some held = rw other at e in
          let found = found_at commands t held later in
          (found.0, (suc found.1.0, omega (arith, found.1.1), found.1.2))
    ]

missed_at : (commands : List Journalled) (t : ℕ) → command_at commands t ≡ None → is_among (tickets_of commands) t ≡ false
missed_at [] t e = refl
missed_at (c ∷ commands) t e =
    elim (cases_Bool (c.ticket == t)) [
      | inl same ↦ let here : Some c ≡ None = rw same at e in absurd cc
      | inr other ↦ let later : command_at commands t ≡ None = rw other at e in rw other (missed_at commands t later)
    ]

among_more : (p : Journalled → Bool) (commands : List Journalled) (t : ℕ) → is_among (tickets_of (filter p commands)) t ≡ true → is_among (tickets_of commands) t ≡ true
among_more p [] t e = e
among_more p (c ∷ commands) t e = by_pick (p c) e (among_more p commands t)
  where
    either : (b x y : Bool) → (b || x) ≡ true → (x ≡ true → y ≡ true) → (b || y) ≡ true
    either true x y e f = refl
    either false x y e f = f e

    later : (b y : Bool) → y ≡ true → (b || y) ≡ true
    later true y e = refl
    later false y e = e

    by_pick : (b : Bool) → is_among (tickets_of (cond b (c ∷ filter p commands) (filter p commands))) t ≡ true
        → (is_among (tickets_of (filter p commands)) t ≡ true → is_among (tickets_of commands) t ≡ true) → is_among (tickets_of (c ∷ commands)) t ≡ true
    by_pick true e more = either (c.ticket == t) _ _ e more
    by_pick false e more = later (c.ticket == t) _ (more e)

-- the newest command that can be undone is in the journal
newest_held : (bound : ℕ) (history : List Event) (t : ℕ) → last_of (past_of bound history).marks.done ≡ Some t → is_among (tickets_of (commands_of (past_of bound history))) t ≡ true
newest_held bound history t last =
    let past = past_of bound history in
    among_more (λ j. j.done) (commands_of past) t
    (ap (λ l. is_among l t) (done_are_held bound history) ∙ among_occurs t past.marks.done (last_occurs past.marks.done t last))

shown_is : (o : Option Journalled) (held : Journalled) → Seen (next_seen o) ≡ Seen (CommandSeen held) → o ≡ Some held
shown_is None held e = absurd cc
shown_is (Some h) held e = cc

none_is : (o : Option Journalled) → Seen (next_seen o) ≡ Seen (RefusedSeen refusal.NothingToUndo) → o ≡ None
none_is None e = refl
none_is (Some h) e = absurd cc

pub next_shown : (commands : List Journalled) (last : Option ℕ) (held : Journalled) → Seen (next_seen (command_of commands last)) ≡ Seen (CommandSeen held)
    → (reply_to_undo last ≡ Undone held.ticket) × Contains commands held
next_shown commands None held e = let none = shown_is None held e in absurd cc
next_shown commands (Some t) held e = let found = found_at commands t held (shown_is (command_at commands t) held e) in (ap Undone (sym found.0), found.1)

none_left : (commands : List Journalled) (last : Option ℕ) → ((t : ℕ) → last ≡ Some t → is_among (tickets_of commands) t ≡ true)
    → Seen (next_seen (command_of commands last)) ≡ Seen (RefusedSeen refusal.NothingToUndo) → reply_to_undo last ≡ NothingToUndo
none_left commands None there e = refl
none_left commands (Some t) there e = absurd (false≢true (sym (missed_at commands t (none_is (command_at commands t) e)) ∙ there t refl))

pub none_shown : (bound : ℕ) (history : List Event) → Seen (next_seen (command_of (commands_of (past_of bound history)) (last_of (past_of bound history).marks.done))) ≡ Seen (RefusedSeen refusal.NothingToUndo)
    → reply_to_undo (last_of (past_of bound history).marks.done) ≡ NothingToUndo
none_shown bound history e = none_left (commands_of (past_of bound history)) (last_of (past_of bound history).marks.done) (newest_held bound history) e
