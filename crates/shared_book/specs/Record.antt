-- A record of calls that one thread could have made.
use Rattle.std.specs.Prelude.{◌≡◌, ℕ, ◌+◌, List, [], ◌∷◌, ◌++◌, length, map}
use Rattle.history.specs.declared.event.Event.{Event}
use Rattle.history.specs.declared.event.Reply.{Reply}
use Rattle.history.specs.declared.event.Settings.{Settings}
use Rattle.history.specs.History.{past_of}
use Rattle.history.specs.Reply.{reply_of}
use Rattle.shared_book.specs.declared.receipt.Receipt.{Receipt}

-- the receipt of a call of this caller
abbrev pub receipt_for : ℕ → ℕ → Event → Reply → Receipt
receipt_for number caller event reply = record { number = number; caller = caller; event = event; reply = reply }

-- the events of these receipts, in their order
abbrev pub events_of : List Receipt → List Event
events_of entries = map (λ entry. entry.event) entries

-- After a history each entry has the next number, and the reply that a replay of the events before it gives.
abbrev pub IsLegalAfter : Settings → List Event → List Receipt → Type 0
IsLegalAfter settings history [] = Unit {0}
IsLegalAfter settings history (entry ∷ entries) =
    (entry.number ≡ length history + 1) × (entry.reply ≡ reply_of settings (past_of settings.journal history) entry.event)
    × IsLegalAfter settings (history ++ entry.event ∷ []) entries
