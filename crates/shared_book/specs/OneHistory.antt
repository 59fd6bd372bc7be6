-- What the receipts of all callers come to once a book is closed.
use Rattle.std.specs.Prelude.{◌≡◌, ℕ, ◌+◌, ◌<◌, ◌≤◌, None, List, [], ◌∷◌, ◌++◌, length, All, AllPairs, Contains}
use Rattle.history.specs.declared.event.Event.{Event}
use Rattle.history.specs.declared.event.Settings.{Settings}
use Rattle.history.specs.History.{past_of}
use Rattle.history.specs.Reply.{reply_of}
use Rattle.shared_book.specs.declared.receipt.Receipt.{Receipt}
use Rattle.shared_book.specs.Pass.{PassState}
use Rattle.shared_book.specs.Kept.{KeptState, IsKept}
use Rattle.shared_book.specs.Calling.{IsReceiptOf}
use Rattle.shared_book.specs.Closing.{ClosesAs, numbered_from}

-- A receipt's event is in a history at the receipt's number. Its reply is that of a replay of the events before it.
pub record IsPlaced (settings : Settings) (history : List Event) (receipt : Receipt) : Type 0 where
  pub before : List Event
  pub later : List Event
  pub history_is : history ≡ before ++ receipt.event ∷ later
  pub number_is : receipt.number ≡ length before + 1
  pub reply_is : receipt.reply ≡ reply_of settings (past_of settings.journal before) receipt.event

-- The receipts that one caller got, in the order of its calls, with its pass before the first and after the last. Between two calls the pass may be split or joined, and never forgets what it has seen.
abbrev pub AreOfCaller : PassState → List Receipt → PassState → Type 0
AreOfCaller first [] last = (last.caller ≡ first.caller) × (first.seen ≤ last.seen)
AreOfCaller first (receipt ∷ receipts) last =
    (before : PassState) × (after : PassState) × (before.caller ≡ first.caller) × (first.seen ≤ before.seen)
    × IsReceiptOf before receipt.event receipt after
    × AreOfCaller after receipts last

-- The receipts that are not behind the window are of one history, which the book stands for. It has as many events as calls were made. Each of these receipts has its place there, and each event from the window's first on has a receipt of its number. The receipts of one caller are in the order of its calls.
pub record AreOfOneHistory {B : Type 0} (stands_for : B → List Event → Type 0) (settings : B → Settings) (kept : KeptState B) (receipts : List Receipt) : Type 0 where
  pub history : List Event
  pub stands : stands_for kept.book history
  pub as_many : length history ≡ kept.total
  pub placed : All (IsPlaced (settings kept.book) history) (numbered_from kept.first receipts)
  pub each_event : (n : ℕ) → kept.first ≤ n → n ≤ length history → (receipt : Receipt) × Contains (numbered_from kept.first receipts) receipt × (receipt.number ≡ n)
  pub in_turn : (first last : PassState) (own : List Receipt) → AreOfCaller first own last → All (Contains receipts) own
      → AllPairs (λ a b. a.number < b.number) own
      × All (λ r. kept.first ≤ r.number → IsPlaced (settings kept.book) history r) own × All (λ r. r.caller ≡ first.caller) own

-- The receipts with which a book was closed are of one history.
abbrev pub ClosedIsOneHistory : {B : Type 0} → (B → List Event → Type 0) → (B → Settings) → Type 0
ClosedIsOneHistory {B} stands_for settings =
    (kept : KeptState B) (passes : List PassState) (receipts : List Receipt)
    → ClosesAs kept passes receipts None → IsKept stands_for settings kept → AreOfOneHistory stands_for settings kept receipts
