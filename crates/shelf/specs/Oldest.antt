-- The name to forget first: the one whose last find ends first, over each choice of the kept flushes, the undone ones among them.
use Rattle.std.specs.Prelude.{ℕ, Bool}
use Rattle.dns_name.specs.Labels.{Labels}
use Rattle.ranked.specs.Oldest.{EndsFirst, NoneEnds}
use Rattle.cell_store.specs.Life.{IsAliveTo}
use Rattle.shelf.specs.declared.shelf.Shelf.{Shelf}
use Rattle.shelf.specs.Told.{face_of}

-- A find of a name is alive at a moment, if only the chosen ones of the kept flushes are in force, and its life ends in this second.
pub record IsEnding (shelf : Shelf) (t : ℕ) (name : Labels) (end : ℕ) : Type 0 where
  pub chosen : ℕ → Bool
  pub kind : ℕ
  pub alive : IsAliveTo t (face_of shelf chosen (record { owner = name; kind = kind })) end

-- The last find of no other name ends sooner. Of the names whose last finds end in the same second this is the first in the order of names.
abbrev pub IsOldest : Shelf → ℕ → Labels → Type 0
IsOldest shelf t name = EndsFirst (IsEnding shelf t) name

-- No name has a find that is alive at a moment, whatever choice of the kept flushes is in force.
abbrev pub IsNoneAlive : Shelf → ℕ → Type 0
IsNoneAlive shelf t = NoneEnds (IsEnding shelf t)
