-- What the words of a line say.
use Rattle.std.specs.Prelude.{◌≡◌, ℕ, List, [], ◌∷◌, ◌++◌, Option, Some, None, map, codes, bytes_eq, if◌then◌else◌}
use Rattle.dns_text.specs.Word.{AreWords, BeginsWithWords}
use Rattle.dns_text.specs.Opaque.{octets_of_hex}

-- the octets that pairs of hexadecimal digits stand for; `-` is none
abbrev pub octets_in : List ℕ → Option (List ℕ)
octets_in digits = if bytes_eq digits (codes "-") then Some [] else octets_of_hex digits

-- The words of a text say these, each by itself.
abbrev pub EachSays : {A : Type 0} → (List ℕ → Option A) → List ℕ → List A → Type 0
EachSays read text xs = (words : List (List ℕ)) × AreWords text words × (map read words ≡ map Some xs)

-- A word of a text says nothing.
abbrev pub OneSaysNothing : {A : Type 0} → (List ℕ → Option A) → List ℕ → Type 0
OneSaysNothing read text =
    (words : List (List ℕ)) × (word : List ℕ) × (rest : List ℕ) × BeginsWithWords text (words ++ word ∷ []) rest × (read word ≡ None)
