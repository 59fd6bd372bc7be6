-- Data of a set, separated by words that are a bar alone.
use Rattle.std.specs.Prelude.{◌≡◌, ◌≢◌, ℕ, Bool, true, false, ◌&&◌, List, [], ◌∷◌, ◌++◌, Option, None, Some, ◌==◌, codes, is_none, unwrap_or, if◌then◌else◌}
use Rattle.dns_text.specs.declared.word.Within.{Within}
use Rattle.dns_text.specs.declared.word.Within.TheVariants.{Plain}
use Rattle.dns_text.specs.Word.{is_blank, after_octet, next_word}

-- A blank follows, or the text ends.
abbrev pub is_at_end : List ℕ → Bool
is_at_end [] = true
is_at_end (c ∷ text) = is_blank c

-- A bar (124) that a blank or the end follows.
abbrev pub is_bar : List ℕ → Bool
is_bar [] = false
is_bar (c ∷ text) = c == 124 && is_at_end text

-- Adds octets to the front of the first piece.
abbrev pub onto : List ℕ → List (List ℕ) → List (List ℕ)
onto octets [] = octets ∷ []
onto octets (piece ∷ pieces) = (octets ++ piece) ∷ pieces

-- The pieces of a text between the words that are a bar alone, from inside a word or from between words.
-- A bar inside a word or its quotes belongs to that word.
abbrev pub pieces_from : Option Within → List ℕ → List (List ℕ)
pieces_from within [] = [] ∷ []
pieces_from within (c ∷ text) =
    if is_none within && is_bar (c ∷ text) then [] ∷ pieces_from None text
    else onto (c ∷ []) (pieces_from (after_octet (unwrap_or within Plain) c) text)

-- The pieces of a text between the words that are a bar alone.
abbrev pub pieces : List ℕ → List (List ℕ)
pieces text = pieces_from None text

-- A word that is a bar alone ends a piece, with the blanks before it.
abbrev pub BarsEndPieces : Type 0
BarsEndPieces =
    (text word after : List ℕ) → next_word text ≡ Some (word, after) → word ≡ codes "|"
    → (first : List ℕ) × (text ≡ first ++ codes "|" ++ after) × (pieces text ≡ first ∷ pieces after)

-- Any other word is part of its piece.
abbrev pub WordsGoOnInPieces : Type 0
WordsGoOnInPieces =
    (text word after : List ℕ) → next_word text ≡ Some (word, after) → word ≢ codes "|"
    → (first : List ℕ) × (text ≡ first ++ after) × (pieces text ≡ onto first (pieces after))
