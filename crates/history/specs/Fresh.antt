-- A new book.
use Rattle.std.specs.Prelude.{◌≡◌, List, []}
use Rattle.history.specs.declared.event.Event.{Event}
use Rattle.history.specs.declared.event.Settings.{Settings}

-- A book with these settings that has taken no event.
pub record FreshBook {B : Type 0} (stands_for : B → List Event → Type 0) (made_with : B → Settings) (settings : Settings) (book : B) : Type 0 where
  pub empty : stands_for book []
  pub settings_are : made_with book ≡ settings
