-- The version of the program.
use Rattle.std.specs.Prelude.{◌≡◌, ℕ, List, [], ◌∷◌, codes}

-- The command line of a program is its name and `--version`, and nothing else.
abbrev pub AsksVersion : List (List ℕ) → Type 0
AsksVersion words = (name : List ℕ) × (words ≡ name ∷ codes "--version" ∷ [])
