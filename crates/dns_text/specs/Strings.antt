-- Strings of TXT data as octets, each preceded by its length (RFC 1035, sections 3.3 and 3.3.14).
use Rattle.std.specs.Prelude.{◌≡◌, ℕ, ◌+◌, ◌<◌, List, ◌∷◌, length}
use Rattle.std.specs.List.{AllByRecursion}
use Rattle.dns_name.specs.Labels.{labels_in, spelled}
use Rattle.dns_text.specs.declared.string.TheConstants.{MOST_STRING}

-- the strings that octets spell: they are written as the labels of a name are
abbrev pub strings_of : List ℕ → List (List ℕ)
strings_of octets = labels_in octets

-- The octets spell strings, and end with the last one.
abbrev pub SpellStrings : List ℕ → Type 0
SpellStrings octets = spelled (strings_of octets) ≡ octets

-- A string has at most 255 octets.
pub record IsString (octets : List ℕ) : Type 0 where
  pub each : AllByRecursion (λ b. b < 256) octets
  pub few : length octets < MOST_STRING + 1

-- The octets are those of strings, as a value keeps them.
pub record AreStrings (octets : List ℕ) : Type 0 where
  pub spell : SpellStrings octets
  pub each : AllByRecursion IsString (strings_of octets)

-- The octets begin with this string, and the rest follows it.
pub record BeginsWithString (octets string rest : List ℕ) : Type 0 where
  pub strings : strings_of octets ≡ string ∷ strings_of rest
  pub spell : SpellStrings rest
