-- The answer by a log in which one command has another flag is that by the choice after its undo, or after its redo.
use Rattle.std.proofs.Common.{◌≡◌, ℕ, Bool, true, false, Option, Some, None, List, [], ◌∷◌, map, max, refl, sym, ap, subst, ◌∙◌}
use Rattle.std.specs.Prelude.{Result, IfOk, fold}
use Rattle.std.proofs.lemmas.Result.{IfOk-weaker}
use Rattle.dns_text.specs.declared.record.Question.{Question}
use Rattle.ranked.specs.declared.cell.Admitted.{Admitted}
use Rattle.ranked.specs.declared.find.Find.{Find}
use Rattle.ranked.specs.Cell.{shown_at}
use Rattle.local_zone.specs.Answer.{local_of}
use Rattle.history.specs.declared.event.Ask.{Ask}
use Rattle.history.specs.declared.event.Ask.TheVariants.{After}
use Rattle.history.specs.declared.event.Entry.{Entry}
use Rattle.history.specs.declared.event.Move.{Move}
use Rattle.history.specs.declared.event.Move.TheVariants as move
use Rattle.history.specs.declared.event.Refusal.TheVariants as refusal
use Rattle.history.specs.declared.event.Seen.{Seen}
use Rattle.history.specs.declared.event.Seen.TheVariants.{Refused}
use Rattle.history.specs.declared.event.Settings.{Settings}
use Rattle.history.specs.declared.tables.Tables.{Tables}
use Rattle.history.specs.Cells.{cell_after}
use Rattle.history.specs.Changes.{tables_by}
use Rattle.history.specs.History.{Past, is_unstruck, standing_with}
use Rattle.history.specs.Journal.{commands_of, is_among, over}
use Rattle.history.specs.Marks.{Marks, last_of, restore, strike}
use Rattle.history.specs.PreviewLaws.{redo_refused, redo_shows, undo_of_shows, undo_refused, undo_shows}
use Rattle.history.specs.Reply.{answer_after, answer_by, seen_by, seen_first, seen_of}
use Rattle.undo_book.specs.declared.log.Logged.{Logged}
use Rattle.undo_book.specs.declared.plain_history.PlainPast.{PlainPast}
use Rattle.undo_book.specs.Plain.{AreFlagged, cell_after_logged, entries_in, marks_in, with_flag}
use Rattle.undo_book.specs.PlainPast.{past_in}
use Rattle.undo_book.specs.Preview.{answer_with, cell_after_flagged, cell_with}
use Rattle.undo_book.proofs.PlainLaws.{cell_by_flags, entries_flagged, stands_flags, struck_flags}
use Rattle.undo_book.proofs.TablesLaws.{replayed}

cells_flagged : (q : Question) (ticket : ℕ) (flag : Bool) (log : List Logged) (cell : Option (Admitted Find)) → fold (cell_after_flagged q ticket flag) cell log ≡ fold (cell_after_logged q) cell (map (with_flag ticket flag) log)
cells_flagged q ticket flag [] cell = refl
cells_flagged q ticket flag (l ∷ log) cell = cells_flagged q ticket flag log (cell_after_flagged q ticket flag cell l)

-- if the flags, one of them changed, say what these marks have struck
answer_flagged : (past : PlainPast) (marks : Marks) (ticket : ℕ) (flag : Bool) (q : Question) (moment : ℕ) → AreFlagged marks.struck (map (with_flag ticket flag) past.log.items)
    → answer_with past ticket flag q moment ≡ answer_by (is_unstruck marks) (entries_in past.log.items) q (max past.moment moment)
answer_flagged past marks ticket flag q moment h =
    let log = past.log.items in
    let t = max past.moment moment in
    ap (λ (tables : Tables). seen_first (local_of tables.local q) (seen_by (shown_at (cell_with ticket flag log q) t))) (replayed marks ticket flag log h)
    ∙ ap (λ (cell : Option (Admitted Find)). seen_first (local_of (tables_by (standing_with (is_unstruck marks) (entries_in log))).local q) (seen_by (shown_at cell t)))
    (cells_flagged q ticket flag log None ∙ cell_by_flags q marks (map (with_flag ticket flag) log) None h
    ∙ ap (λ (es : List Entry). fold (cell_after q) None (standing_with (is_unstruck marks) es)) (entries_flagged ticket flag log))

pub answer_struck : (past : PlainPast) (ticket : ℕ) (q : Question) (moment : ℕ)
    → answer_with past ticket true q moment ≡ answer_by (is_unstruck (strike (marks_in past.marks) ticket)) (entries_in past.log.items) q (max past.moment moment)
answer_struck past ticket q moment =
    answer_flagged past (strike (marks_in past.marks) ticket) ticket true q moment (struck_flags past.marks.struck.items ticket past.log.items past.flagged)

pub answer_restored : (past : PlainPast) (ticket : ℕ) (q : Question) (moment : ℕ)
    → answer_with past ticket false q moment ≡ answer_by (is_unstruck (restore (marks_in past.marks) ticket)) (entries_in past.log.items) q (max past.moment moment)
answer_restored past ticket q moment =
    answer_flagged past (restore (marks_in past.marks) ticket) ticket false q moment (stands_flags past.marks.struck.items ticket past.log.items past.flagged)

-- ---- the reply to an ask of an undo or a redo

-- a reply is the answer right after a step
abbrev Tells : {E : Type 0} → PlainPast → Move → Question → ℕ → Result Seen E → Type 0
Tells past step q moment r = IfOk r (λ seen. seen ≡ answer_after past.settings.journal (past_in past) step q moment)

module _ {E : Type 0} (past : PlainPast) (step : Move) (q : Question) (moment : ℕ) (ticket : ℕ) (r : Result Seen E) where
  pub tells_undo : step ≡ move.Undo → last_of past.marks.done.items ≡ Some ticket → IfOk r (λ seen. seen ≡ answer_with past ticket true q moment) → Tells past step q moment r
  tells_undo is last told = subst (λ (s : Move). Tells past s q moment r) (sym is)
      (IfOk-weaker r (λ seen. seen ≡ answer_with past ticket true q moment) (λ seen. seen ≡ answer_after past.settings.journal (past_in past) move.Undo q moment)
      (λ seen here. undo_shows past.settings.journal (past_in past) moment q ticket seen last (here ∙ answer_struck past ticket q moment)) told)

  pub tells_redo : step ≡ move.Redo → last_of past.marks.undone.items ≡ Some ticket → IfOk r (λ seen. seen ≡ answer_with past ticket false q moment) → Tells past step q moment r
  tells_redo is last told = subst (λ (s : Move). Tells past s q moment r) (sym is)
      (IfOk-weaker r (λ seen. seen ≡ answer_with past ticket false q moment) (λ seen. seen ≡ answer_after past.settings.journal (past_in past) move.Redo q moment)
      (λ seen here. redo_shows past.settings.journal (past_in past) moment q ticket seen last (here ∙ answer_restored past ticket q moment)) told)

  pub tells_undo_of : is_among past.marks.done.items ticket ≡ true → over (commands_of (past_in past)) ticket ≡ None → IfOk r (λ seen. seen ≡ answer_with past ticket true q moment)
      → Tells past (move.UndoOf ticket) q moment r
  tells_undo_of there none told =
      IfOk-weaker r (λ seen. seen ≡ answer_with past ticket true q moment) (λ seen. seen ≡ answer_after past.settings.journal (past_in past) (move.UndoOf ticket) q moment)
      (λ seen here. undo_of_shows past.settings.journal (past_in past) moment q ticket seen there none (here ∙ answer_struck past ticket q moment)) told

pub tells_no_undo : (past : PlainPast) (step : Move) (q : Question) (moment : ℕ) → step ≡ move.Undo → last_of past.marks.done.items ≡ None
    → Refused refusal.NothingToUndo ≡ answer_after past.settings.journal (past_in past) step q moment
tells_no_undo past step q moment is none =
    undo_refused past.settings.journal (past_in past) moment q none ∙ ap (λ (s : Move). answer_after past.settings.journal (past_in past) s q moment) (sym is)

pub tells_no_redo : (past : PlainPast) (step : Move) (q : Question) (moment : ℕ) → step ≡ move.Redo → last_of past.marks.undone.items ≡ None
    → Refused refusal.NothingToRedo ≡ answer_after past.settings.journal (past_in past) step q moment
tells_no_redo past step q moment is none =
    redo_refused past.settings.journal (past_in past) moment q none ∙ ap (λ (s : Move). answer_after past.settings.journal (past_in past) s q moment) (sym is)

-- a lookup that asks for the answer right after a step sees it
pub sees_after : {E : Type 0} (settings : Settings) (past : Past) (ask : Ask) (q : Question) (step : Move) (moment : ℕ) (r : Result Seen E) → ask ≡ After q step
    → IfOk r (λ seen. seen ≡ answer_after settings.journal past step q moment) → IfOk r (λ seen. seen ≡ seen_of settings past ask moment)
sees_after settings past ask q step moment r is told = subst (λ (a : Ask). IfOk r (λ seen. seen ≡ seen_of settings past a moment)) (sym is) told
