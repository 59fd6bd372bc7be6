-- The octets that a connection gave and took.
use Rattle.std.specs.Prelude.{◌≡◌, ℕ, List, [], ◌∷◌, ◌++◌}

-- octets that one call read of a connection, or wrote to it
pub data Passage : Type 0 where
  read : List ℕ → Passage
  written : List ℕ → Passage

-- One call moved octets: the connection before, the octets, the connection after.
abbrev pub Passes : Type 0 → Type 1
Passes S = S → List ℕ → S → Type 0

-- Just these octets were read and written, one call after another.
abbrev pub AllPassed : {S : Type 0} → Passes S → Passes S → List Passage → S → S → Type 0
AllPassed reads writes [] old new = new ≡ old
AllPassed {S} reads writes (read octets ∷ rest) old new = (mid : S) × reads old octets mid × AllPassed reads writes rest mid new
AllPassed {S} reads writes (written octets ∷ rest) old new = (mid : S) × writes old octets mid × AllPassed reads writes rest mid new

-- the octets that were read, in order
abbrev pub read_in : List Passage → List ℕ
read_in [] = []
read_in (read octets ∷ rest) = octets ++ read_in rest
read_in (written octets ∷ rest) = read_in rest

-- the octets that were written, in order
abbrev pub written_in : List Passage → List ℕ
written_in [] = []
written_in (read octets ∷ rest) = written_in rest
written_in (written octets ∷ rest) = octets ++ written_in rest
