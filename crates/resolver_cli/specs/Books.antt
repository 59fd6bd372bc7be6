-- The books with which a service begins.
use Rattle.history.specs.declared.book.Book.{Ghosts}
use Rattle.history.specs.declared.event.Settings.{Settings}
use Rattle.history.specs.Event.{lagging_of}
use Rattle.history.specs.Fresh.{FreshBook}
use Rattle.shared_book.specs.Fresh.{CanShare}

-- An opening book to these settings has taken no event.
abbrev pub IsOpening : {B : Type 0} → Ghosts B → Settings → B → Type 0
IsOpening by settings book = FreshBook by.stands_for by.settings (lagging_of settings) book

-- The first of two books can be shared, with the second as its opening book.
abbrev pub CanShareBoth : {B : Type 0} → Ghosts B → B × B → Type 0
CanShareBoth by b = CanShare by.stands_for by.settings b.0 b.1
