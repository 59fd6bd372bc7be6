-- The lines of an input.
use Rattle.std.specs.Prelude.{◌≡◌, ◌≢◌, ◌⊎◌, ◌<◌, ℕ, nat_eq, List, [], ◌∷◌, ◌++◌, length, map, take, flat_map, if◌then◌else◌}
use Rattle.std.specs.List.{AllByRecursion}
use Rattle.std.specs.Io.BufRead.{strip_last}
use Rattle.streams.specs.declared.held_line.TheConstants.{LONGEST_LINE, MOST_HELD}

-- A line without one carriage return at its end.
abbrev pub without_return : List ℕ → List ℕ
without_return line = strip_last 13 line

-- The lines that end, where so much of the first has come before the octets. Octet 10 ends a line.
abbrev pub ended_lines : List ℕ → List ℕ → List (List ℕ)
ended_lines begun [] = []
ended_lines begun (octet ∷ octets) = if nat_eq octet 10 then without_return begun ∷ ended_lines [] octets else ended_lines (begun ++ octet ∷ []) octets

-- The octets so far of the line that has not ended.
abbrev pub begun_line : List ℕ → List ℕ → List ℕ
begun_line begun [] = begun
begun_line begun (octet ∷ octets) = if nat_eq octet 10 then begun_line [] octets else begun_line (begun ++ octet ∷ []) octets

-- The last line may lack its end. It counts if it has an octet.
abbrev pub last_line : List ℕ → List (List ℕ)
last_line [] = []
last_line (octet ∷ octets) = (octet ∷ octets) ∷ []

-- The lines of an input: those that end, and the last one if it has an octet.
abbrev pub lines_of : List ℕ → List (List ℕ)
lines_of input = ended_lines [] input ++ last_line (begun_line [] input)

-- The octets that are kept of a line that has begun: all of a line that is not too long.
abbrev pub held_of : List ℕ → List ℕ
held_of begun = take MOST_HELD begun

-- The octets handed on for a line: all of it, or, if it is too long, some that are too long too and begin with the same octet.
abbrev pub IsLineHeard : List ℕ → List ℕ → Type 0
IsLineHeard line whole = (line ≡ whole) ⊎ ((LONGEST_LINE < length line) × (LONGEST_LINE < length whole) × (take 1 line ≡ take 1 whole))

-- This holds of each line of which these octets may have been handed on.
abbrev pub IfHeard : List ℕ → (List ℕ → Type 0) → Type 0
IfHeard line P = (whole : List ℕ) → IsLineHeard line whole → P whole

-- No octet of it ends a line.
abbrev pub IsUnended : List ℕ → Type 0
IsUnended octets = AllByRecursion (λ octet. octet ≢ 10) octets

-- A line with its end.
abbrev pub with_end : List ℕ → List ℕ
with_end line = line ++ 10 ∷ []

-- The input is these lines, each with its end, and then the front of one more.
pub record Splits (input : List ℕ) (whole : List (List ℕ)) (rest : List ℕ) : Type 0 where
  pub all : input ≡ flat_map with_end whole ++ rest
  pub unended : AllByRecursion IsUnended whole
  pub partial : IsUnended rest

-- The lines of an input are these, each without one carriage return at its end, and the front behind them, if it has an octet.
abbrev pub AreLines : List ℕ → List (List ℕ) → List ℕ → Type 0
AreLines input whole rest = lines_of input ≡ map without_return whole ++ last_line rest
