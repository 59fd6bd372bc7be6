-- The first octet of a line of an operator.
use Rattle.std.specs.Prelude.{◌≡◌, ◌≤◌, ◌⊎◌, ℕ, List, [], ◌∷◌}

-- A line may begin with this octet: a small letter, as every command does, `#` as comments do, a blank, or an end of line.
abbrev pub BeginsLine : ℕ → Type 0
BeginsLine octet = ((97 ≤ octet) × (octet ≤ 122)) ⊎ ((octet ≡ 35) ⊎ ((octet ≡ 32) ⊎ ((octet ≡ 9) ⊎ ((octet ≡ 13) ⊎ (octet ≡ 10)))))

-- The first octet of this word is one with which a line may begin.
abbrev pub BeginsAsLine : List ℕ → Type 0
BeginsAsLine [] = ⊥
BeginsAsLine (octet ∷ _) = BeginsLine octet
