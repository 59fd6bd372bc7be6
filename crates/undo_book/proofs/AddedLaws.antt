-- What an event adds to a log and its marks, where the code was told the reply.
use Rattle.std.proofs.Common.{◌≡◌, Option, List, [], ◌∷◌, ◌++◌, ◌∙◌, ap, ℕ}
use Rattle.history.specs.declared.event.Event.{Event}
use Rattle.history.specs.declared.event.Reply.{Reply}
use Rattle.history.specs.declared.event.Settings.{Settings}
use Rattle.history.specs.History.{Past, ticket_for}
use Rattle.history.specs.Marks.{Marks}
use Rattle.history.specs.Reply.{reply_of, ticket_taken}
use Rattle.undo_book.specs.declared.log.Logged.{Logged}
use Rattle.undo_book.specs.Plain.{marks_by, flags_by}
use Rattle.undo_book.proofs.PlainLaws.{ticket_by_reply}

-- the ticket that the event took, the marks after it and the log after it, by the history's own reply
pub record Added (settings : Settings) (past : Past) (event : Event) (before : List Logged) (logged : Logged) (took : Option ℕ) (left : Marks) (after : List Logged) : Type 0 where
  pub ticket : took ≡ ticket_for past event
  pub marks : left ≡ marks_by settings.journal past.marks (reply_of settings past event)
  pub log : after ≡ flags_by (reply_of settings past event) (before ++ logged ∷ [])

pub added_by : (settings : Settings) (past : Past) (event : Event) (before : List Logged) (logged : Logged) (told : Reply) (took : Option ℕ) (left : Marks) (pushed after : List Logged) →
    told ≡ reply_of settings past event → took ≡ ticket_taken told → left ≡ marks_by settings.journal past.marks told → pushed ≡ before ++ logged ∷ [] → after ≡ flags_by told pushed →
    Added settings past event before logged took left after
added_by settings past event before logged told took left pushed after is ticket marks push flags = record {
  ticket = ticket ∙ ap ticket_taken is ∙ ticket_by_reply settings past event;
  marks = marks ∙ ap (λ (r : Reply). marks_by settings.journal past.marks r) is;
  log = flags ∙ ap (λ (l : List Logged). flags_by told l) push ∙ ap (λ (r : Reply). flags_by r (before ++ logged ∷ [])) is;
}
