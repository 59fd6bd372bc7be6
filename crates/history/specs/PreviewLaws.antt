-- What a lookup sees right after an undo or a redo, by the choice that it makes: lemmas, which the books above cite.
use Rattle.std.proofs.Common.{◌≡◌, ℕ, Bool, true, false, Option, None, Some, List, [], ◌∷◌, ◌++◌, max, refl, sym, ap, ◌∙◌, arith}
use Rattle.std.specs.Option.{option_map_or}
use Rattle.std.proofs.lemmas.List.{append-nil}
use Rattle.std.proofs.lemmas.List.Elements.{filter-append}
use Rattle.dns_text.specs.declared.record.Question.{Question}
use Rattle.ranked.specs.Cell.{shown_at}
use Rattle.local_zone.specs.Answer.{local_of}
use Rattle.history.specs.declared.event.Entry.{Entry}
use Rattle.history.specs.declared.event.Move.{Move}
use Rattle.history.specs.declared.event.Move.TheVariants as move
use Rattle.history.specs.declared.event.Refusal.TheVariants as refusal
use Rattle.history.specs.declared.event.Seen.{Seen}
use Rattle.history.specs.declared.event.Seen.TheVariants.{Refused}
use Rattle.history.specs.declared.event.Event.TheVariants.{Undo, Redo, UndoOf}
use Rattle.history.specs.Cells.{cell_by}
use Rattle.history.specs.Changes.{tables_by}
use Rattle.history.specs.History.{Past, followed_by, is_unstruck, standing_of, standing_with, stands_by, unless_buried}
use Rattle.history.specs.Journal.{commands_of, is_among, over}
use Rattle.history.specs.Marks.{last_of, restore, strike}
use Rattle.history.specs.Reply.{answer_after, answer_by, answer_of, marks_moved, move_at, refusal_in, reply_to_redo, reply_to_undo, reply_to_undo_of, seen_by, seen_first, seen_unless}

-- an undo or a redo is never in force
left_out : (chosen : ℕ → Bool) (log : List Entry) (entry : Entry) → stands_by chosen entry.event entry.ticket ≡ false →
    standing_with chosen (log ++ entry ∷ []) ≡ standing_with chosen log
left_out chosen log entry out =
    filter-append (λ (e : Entry). stands_by chosen e.event e.ticket) log (entry ∷ []) ∙ rw out (append-nil (standing_with chosen log))

-- what is in force right after it
pub standing_moved : (bound : ℕ) (past : Past) (m : ℕ) (step : Move) →
    standing_of (followed_by bound past (move_at m step)) ≡ standing_with (is_unstruck (marks_moved past step)) past.log
standing_moved bound past m move.Undo =
    left_out (is_unstruck (marks_moved past move.Undo)) past.log (record { event = Undo m; moment = max past.now m; ticket = None }) refl
standing_moved bound past m move.Redo =
    left_out (is_unstruck (marks_moved past move.Redo)) past.log (record { event = Redo m; moment = max past.now m; ticket = None }) refl
standing_moved bound past m (move.UndoOf t) =
    left_out (is_unstruck (marks_moved past (move.UndoOf t))) past.log (record { event = UndoOf m t; moment = max past.now m; ticket = None }) refl

now_moved : (bound : ℕ) (past : Past) (m : ℕ) (step : Move) → max (followed_by bound past (move_at m step)).now m ≡ max past.now m
now_moved bound past m move.Undo = omega arith
now_moved bound past m move.Redo = omega arith
now_moved bound past m (move.UndoOf t) = omega arith

-- the answer to a question right after it
pub answer_moved : (bound : ℕ) (past : Past) (m : ℕ) (step : Move) (q : Question) →
    answer_of (followed_by bound past (move_at m step)) q m ≡ answer_by (is_unstruck (marks_moved past step)) past.log q (max past.now m)
answer_moved bound past m step q =
    let after = followed_by bound past (move_at m step) in
    ap (λ (es : List Entry). seen_first (local_of (tables_by es).local q) (seen_by (shown_at (cell_by q es) (max after.now m)))) (standing_moved bound past m step)
    ∙ ap (λ (t : ℕ). answer_by (is_unstruck (marks_moved past step)) past.log q t) (now_moved bound past m step)

-- ---- what a preview sees, by what the undo or the redo reaches

module _ (bound : ℕ) (past : Past) (m : ℕ) (q : Question) where
  pub undo_shows : (t : ℕ) (seen : Seen) → last_of past.marks.done ≡ Some t → seen ≡ answer_by (is_unstruck (strike past.marks t)) past.log q (max past.now m) → seen ≡ answer_after bound past move.Undo q m
  undo_shows t seen last is =
      is
      ∙ ap (λ (o : Option ℕ). answer_by (is_unstruck (option_map_or (strike past.marks) o past.marks)) past.log q (max past.now m)) (sym last)
      ∙ sym (answer_moved bound past m move.Undo q)
      ∙ ap (λ (o : Option ℕ). seen_unless (refusal_in (reply_to_undo o)) (answer_of (followed_by bound past (Undo m)) q m)) (sym last)

  pub redo_shows : (t : ℕ) (seen : Seen) → last_of past.marks.undone ≡ Some t → seen ≡ answer_by (is_unstruck (restore past.marks t)) past.log q (max past.now m) → seen ≡ answer_after bound past move.Redo q m
  redo_shows t seen last is =
      is
      ∙ ap (λ (o : Option ℕ). answer_by (is_unstruck (option_map_or (restore past.marks) o past.marks)) past.log q (max past.now m)) (sym last)
      ∙ sym (answer_moved bound past m move.Redo q)
      ∙ ap (λ (o : Option ℕ). seen_unless (refusal_in (reply_to_redo o)) (answer_of (followed_by bound past (Redo m)) q m)) (sym last)

  pub undo_of_shows : (t : ℕ) (seen : Seen) → is_among past.marks.done t ≡ true → over (commands_of past) t ≡ None → seen ≡ answer_by (is_unstruck (strike past.marks t)) past.log q (max past.now m)
      → seen ≡ answer_after bound past (move.UndoOf t) q m
  undo_of_shows t seen there none is =
      is
      ∙ (λ i. answer_by (is_unstruck (option_map_or (strike past.marks) (unless_buried (sym there i) (sym none i) t) past.marks)) past.log q (max past.now m))
      ∙ sym (answer_moved bound past m (move.UndoOf t) q)
      ∙ (λ i. seen_unless (refusal_in (reply_to_undo_of (sym there i) (sym none i) t)) (answer_of (followed_by bound past (UndoOf m t)) q m))

  pub undo_refused : last_of past.marks.done ≡ None → Refused refusal.NothingToUndo ≡ answer_after bound past move.Undo q m
  undo_refused none = ap (λ (o : Option ℕ). seen_unless (refusal_in (reply_to_undo o)) (answer_of (followed_by bound past (Undo m)) q m)) (sym none)

  pub redo_refused : last_of past.marks.undone ≡ None → Refused refusal.NothingToRedo ≡ answer_after bound past move.Redo q m
  redo_refused none = ap (λ (o : Option ℕ). seen_unless (refusal_in (reply_to_redo o)) (answer_of (followed_by bound past (Redo m)) q m)) (sym none)

  pub undo_of_not_kept : (t : ℕ) → is_among past.marks.done t ≡ false → Refused refusal.NotKept ≡ answer_after bound past (move.UndoOf t) q m
  undo_of_not_kept t out =
      ap (λ (b : Bool). seen_unless (refusal_in (reply_to_undo_of b (over (commands_of past) t) t)) (answer_of (followed_by bound past (UndoOf m t)) q m)) (sym out)

  pub undo_of_buried : (t other : ℕ) → is_among past.marks.done t ≡ true → over (commands_of past) t ≡ Some other → Refused (refusal.Buried other) ≡ answer_after bound past (move.UndoOf t) q m
  undo_of_buried t other there by =
      (λ i. seen_unless (refusal_in (reply_to_undo_of (sym there i) (sym by i) t)) (answer_of (followed_by bound past (UndoOf m t)) q m))
