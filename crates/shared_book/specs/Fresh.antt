-- Of what a shared book is made.
use Rattle.std.specs.Prelude.{◌≡◌, ℕ, List, []}
use Rattle.history.specs.declared.event.Event.{Event}
use Rattle.history.specs.declared.event.Settings.{Settings}
use Rattle.history.specs.Event.{lagging_of}
use Rattle.history.specs.Fresh.{FreshBook}
use Rattle.shared_book.specs.Ledger.{LedgerState}

-- A book and an opening book may begin together: neither has taken an event, and the opening book lags behind.
pub record CanShare {B : Type 0} (stands_for : B → List Event → Type 0) (made_with : B → Settings) (book opening : B) : Type 0 where
  pub empty : stands_for book []
  pub lags : FreshBook stands_for made_with (lagging_of (made_with book)) opening

-- A blank ledger, the calls that a window can have and a book's settings are as the identity of a ledger says: its name, its parts, so many calls and these settings.
pub record IsKnownAs (name parts calls : ℕ) (known : Settings) (blank : LedgerState) (limit : ℕ) (settings : Settings) : Type 0 where
  pub name_is : blank.name ≡ name
  pub parts_are : blank.parts ≡ parts
  pub limit_is : limit ≡ calls
  pub settings_are : settings ≡ known
