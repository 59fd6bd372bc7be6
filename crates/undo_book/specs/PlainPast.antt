-- What the history of a plain book comes to, and what the book may answer after it.
use Rattle.std.specs.Prelude.{◌≡◌, ◌<◌, ℕ, IsTrue, IsErrOf, Result, length, vec_len, vec_capacity}
use Rattle.undo_book.specs.declared.plain_history.PlainPast.{PlainPast}
use Rattle.history.specs.declared.book.StepFault.{StepFault}
use Rattle.history.specs.declared.book.StepFault.TheVariants.{Full}
use Rattle.history.specs.declared.event.Event.{Event}
use Rattle.history.specs.declared.event.Reply.{Reply}
use Rattle.history.specs.Answers.{AnswersBy, IsTimely}
use Rattle.history.specs.Event.{is_admission}
use Rattle.history.specs.History.{Past}
use Rattle.history.specs.Journal.{commands_of, is_among, over, under}
use Rattle.history.specs.Reply.{reply_of, reply_to_redo_of, reply_to_undo_of}
use Rattle.undo_book.specs.Plain.{marks_in, entries_in, HasRoom}

abbrev pub past_in : PlainPast → Past
past_in past = record { now = past.moment; marks = marks_in past.marks; log = entries_in past.log.items }

-- the reply to an undo of a ticket
abbrev pub reply_to_undo_in : PlainPast → ℕ → Reply
reply_to_undo_in past ticket = reply_to_undo_of (is_among past.marks.done.items ticket) (over (commands_of (past_in past)) ticket) ticket

-- the reply to a redo of a ticket
abbrev pub reply_to_redo_in : PlainPast → ℕ → Reply
reply_to_redo_in past ticket = reply_to_redo_of (is_among past.marks.undone.items ticket) (under (commands_of (past_in past)) ticket) ticket

-- One event more needs no memory.
pub record IsReady (past : PlainPast) : Type 0 where
  pub in_marks : HasRoom past.marks
  pub in_log : vec_len past.log < vec_capacity past.log
  pub in_index : vec_len past.index < vec_capacity past.index

-- The reply of the replay, or a fault for its reason.
abbrev pub AnswersAfter : PlainPast → Event → Result Reply StepFault → Type 0
AnswersAfter past event answer =
    AnswersBy past.settings (length past.log.items) past.stored (reply_of past.settings (past_in past) event) event answer

-- A timely admission is `Full` where as many are stored as there may be cells.
abbrev pub IsFullAtTheLimit : PlainPast → Event → Result Reply StepFault → Type 0
IsFullAtTheLimit past event answer =
    IsTimely (length past.log.items) event → IsTrue (is_admission event) → past.stored ≡ past.settings.cells → IsErrOf answer (Full past.settings.cells)
