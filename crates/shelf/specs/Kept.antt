-- The kept flushes: whether they are in force, and the versions that they give.
use Rattle.std.specs.Prelude.{ℕ, Bool, false, not, List, [], ◌∷◌, ◌==◌, ◌&&◌, ◌||◌, if◌then◌else◌}
use Rattle.std.specs.List.{list_any}
use Rattle.dns_text.specs.declared.record.Question.{Question}
use Rattle.ranked.specs.Flush.{covers}
use Rattle.shelf.specs.declared.shelf.KeptFlush.{KeptFlush}

-- a kept flush, in force or not if it has this number
abbrev pub with_shown : ℕ → Bool → KeptFlush → KeptFlush
with_shown number shown own = record { flush = own.flush; number = own.number; shown = if own.number == number then shown else own.shown }

-- a kept flush, in force if it was not, or not if it was, if it has this number
abbrev pub turned_over : ℕ → KeptFlush → KeptFlush
turned_over number own = record { flush = own.flush; number = own.number; shown = if own.number == number then not own.shown else own.shown }

-- whether the oldest flush has this number and is in force
abbrev pub stands_first : ℕ → List KeptFlush → Bool
stands_first number [] = false
stands_first number (own ∷ later) = own.number == number && own.shown

-- whether a kept flush of this number covers the question
abbrev pub is_kept : List KeptFlush → Question → ℕ → Bool
is_kept kept question version = list_any (λ own. own.number == version && covers own.flush question) kept

-- whether it is a version of the question: 0, or the number of a kept flush that covers it
abbrev pub is_version : List KeptFlush → Question → ℕ → Bool
is_version kept question version = version == 0 || is_kept kept question version
