-- What a look is about to be answered.
use Rattle.std.specs.Prelude.{◌≡◌, ℕ, Option, Some, None, List, Result, IfOk}
use Rattle.std.specs.Option.{option_map}
use Rattle.history.specs.declared.event.Ask.{Ask}
use Rattle.history.specs.declared.event.Event.{Event}
use Rattle.history.specs.declared.event.Event.TheVariants.{Look}
use Rattle.history.specs.declared.event.Reply.{Reply}
use Rattle.history.specs.declared.event.Reply.TheVariants.{Seen as SeenReply}
use Rattle.history.specs.declared.event.Seen.{Seen}
use Rattle.history.specs.declared.event.Settings.{Settings}
use Rattle.history.specs.History.{Past, past_of}
use Rattle.history.specs.Reply.{reply_of, seen_of}
use Rattle.shared_book.specs.declared.told.Ahead.{Ahead}

-- what a lookup is about to see; nothing for any other event
abbrev pub seen_ahead : Settings → Past → Event → Option Seen
seen_ahead settings past (Look moment ask) = Some (seen_of settings past ask moment)
seen_ahead settings past _ = None

-- a reply to something other than a lookup
abbrev pub ShowsNothing : Reply → Type 0
ShowsNothing (SeenReply seen) = ⊥
ShowsNothing _ = Unit {0}

-- The reply shows what was seen ahead of it, or nothing.
abbrev pub IsEcho : Reply → Option Seen → Type 0
IsEcho reply (Some seen) = reply ≡ SeenReply seen
IsEcho reply None = ShowsNothing reply

-- What was seen ahead, if there was memory, is what a lookup would see after each history that the book stands for.
abbrev pub SeesAhead : {B E : Type 0} → (B → List Event → Type 0) → (B → Settings) → B → Ask → ℕ → Result Ahead E → Type 0
SeesAhead stands_for made_with book ask moment told =
    (h : List Event) → stands_for book h → IfOk told (λ ahead. ahead.seen ≡ seen_of (made_with book) (past_of (made_with book).journal h) ask moment)

-- The same of an event that may be no lookup.
abbrev pub LooksAhead : {B E : Type 0} → (B → List Event → Type 0) → (B → Settings) → B → Event → Result (Option Ahead) E → Type 0
LooksAhead stands_for made_with book event told =
    (h : List Event) → stands_for book h → IfOk told (λ ahead. option_map (λ a. a.seen) ahead ≡ seen_ahead (made_with book) (past_of (made_with book).journal h) event)

-- The reply to an event shows this, after each history that the book stands for.
abbrev pub WillShow : {B : Type 0} → (B → List Event → Type 0) → (B → Settings) → B → Event → Seen → Type 0
WillShow stands_for made_with book event seen =
    (h : List Event) → stands_for book h → reply_of (made_with book) (past_of (made_with book).journal h) event ≡ SeenReply seen

-- The reply to an event shows nothing, after a history that the book stands for.
abbrev pub WillShowNothing : {B : Type 0} → (B → List Event → Type 0) → (B → Settings) → B → Event → Type 0
WillShowNothing stands_for made_with book event =
    (h : List Event) × stands_for book h × ShowsNothing (reply_of (made_with book) (past_of (made_with book).journal h) event)
