-- What a book in another book says of both.
use Rattle.std.proofs.Common.{◌≡◌, ◌∙◌, List, [], ap, sym, subst}
use Rattle.history.specs.declared.event.Event.{Event}
use Rattle.history.specs.declared.event.Settings.{Settings}
use Rattle.history.specs.Fresh.{FreshBook}

-- A book that holds a new book is new.
pub held : {B W : Type 0} (stands : B → List Event → Type 0) (made : B → Settings) (inner : W → B) (settings : Settings) (outer : W) (book : B) → inner outer ≡ book
    → FreshBook stands made settings book → FreshBook (λ (w : W) (h : List Event). stands (inner w) h) (λ (w : W). made (inner w)) settings outer
held {B} {W} stands made inner settings outer book is fresh = record {
  empty = subst (λ (b : B). stands b []) (sym is) fresh.empty;
  settings_are = ap (λ (b : B). made b) is ∙ fresh.settings_are;
}
