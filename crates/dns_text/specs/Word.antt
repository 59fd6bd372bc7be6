-- Words of a line: spaces and tabs end a word, but inside double quotes they belong to it.
use Rattle.std.specs.Prelude.{◌≡◌, ℕ, Bool, ◌||◌, List, [], ◌∷◌, Option, Some, None, ◌==◌, if◌then◌else◌, option_map}
use Rattle.dns_text.specs.declared.word.Within.{Within}
use Rattle.dns_text.specs.declared.word.Within.TheVariants.{Plain, Quotes, Escape, QuotedEscape}
use Rattle.dns_name.specs.Options.{◌>>=◌}

-- whether an octet of text is a space or a tab
abbrev pub is_blank : ℕ → Bool
is_blank c = c == 32 || c == 9

-- the state within a word after one more octet; none if the octet ends the word. A backslash only keeps a quote from
-- opening or closing.
abbrev pub after_octet : Within → ℕ → Option Within
after_octet QuotedEscape c = Some Quotes
after_octet Escape c = if is_blank c then None else Some Plain
after_octet Plain c = if c == 92 then Some Escape else if c == 34 then Some Quotes else if is_blank c then None else Some Plain
after_octet Quotes c = if c == 92 then Some QuotedEscape else if c == 34 then Some Plain else Some Quotes

-- the first part with one octet before it, and the second part
abbrev pub with_first : ℕ → List ℕ × List ℕ → List ℕ × List ℕ
with_first c r = (c ∷ r.0, r.1)

-- the end of a word; or the octet, and the rest of the word after it
abbrev pub goes_on : ℕ → List ℕ → (Within → List ℕ × List ℕ) → Option Within → List ℕ × List ℕ
goes_on c text go None = ([], c ∷ text)
goes_on c text go (Some within) = with_first c (go within)

-- the rest of a word at the front of a text, and the text from the blank after it on
unfoldable pub cut_word : Within → List ℕ → List ℕ × List ℕ
cut_word within [] = ([], [])
cut_word within (c ∷ text) = goes_on c text (λ w. cut_word w text) (after_octet within c)

-- the text without the blanks at its front
abbrev pub skip_blanks : List ℕ → List ℕ
skip_blanks [] = []
skip_blanks (c ∷ text) = if is_blank c then skip_blanks text else c ∷ text

-- the word at the front of a text that begins with no blank, and the text after it
abbrev pub word_at : List ℕ → Option (List ℕ × List ℕ)
word_at [] = None
word_at (c ∷ text) = Some (cut_word Plain (c ∷ text))

-- the first word of a text, and the text after it
abbrev pub next_word : List ℕ → Option (List ℕ × List ℕ)
next_word text = word_at (skip_blanks text)

-- The words of a text are these, in this order.
abbrev pub AreWords : List ℕ → List (List ℕ) → Type 0
AreWords text [] = next_word text ≡ None
AreWords text (word ∷ words) = (rest : List ℕ) × (next_word text ≡ Some (word, rest)) × AreWords rest words

-- The first words of a text are these, and the rest is after them.
abbrev pub BeginsWithWords : List ℕ → List (List ℕ) → List ℕ → Type 0
BeginsWithWords text [] rest = text ≡ rest
BeginsWithWords text (word ∷ words) rest = (after : List ℕ) × (next_word text ≡ Some (word, after)) × BeginsWithWords after words rest

-- the word, if no other follows
abbrev pub unless_more : List ℕ → Option (List ℕ × List ℕ) → Option (List ℕ)
unless_more word None = Some word
unless_more word (Some more) = None

-- the only word of a text
abbrev pub only_word : List ℕ → Option (List ℕ)
only_word text = next_word text >>= λ first. unless_more first.0 (next_word first.1)

-- the text before the first such octet, and the text after it
abbrev pub cut_at : ℕ → List ℕ → Option (List ℕ × List ℕ)
cut_at octet [] = None
cut_at octet (c ∷ text) = if c == octet then Some ([], text) else option_map (with_first c) (cut_at octet text)
