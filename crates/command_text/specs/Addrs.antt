-- Addresses of servers, each a word: the form ADDR..
use Rattle.std.specs.Prelude.{ℕ, Option, Some, None, Result, List, [], ◌∷◌, flat_map, if◌then◌else◌}
use Rattle.dns_name.specs.Results.{or_fault}
use Rattle.dns_text.specs.declared.addr.Addr.{Addr}
use Rattle.dns_text.specs.declared.word.Within.{Within}
use Rattle.dns_text.specs.declared.word.Within.TheVariants.{Plain}
use Rattle.dns_text.specs.Word.{is_blank, after_octet}
use Rattle.dns_text.specs.Addr.{addr_in, addr_text}
use Rattle.command_text.specs.declared.fault.LineFault.{LineFault}
use Rattle.command_text.specs.declared.fault.LineFault.TheVariants.{BadAddress}
use Rattle.command_text.specs.Bar.{onto}
use Rattle.command_text.specs.Parts.{each_in}

-- The words of a text that begins with c, inside a word or at the start of one: c ends the word, or is its next octet.
abbrev pub words_with : ℕ → (Option Within → List (List ℕ)) → Option Within → List (List ℕ)
words_with c go None = [] ∷ go None
words_with c go (Some within) = onto (c ∷ []) (go (Some within))

-- The words of a text, from inside a word or from between words.
unfoldable pub words_from : Option Within → List ℕ → List (List ℕ)
words_from None [] = []
words_from (Some within) [] = [] ∷ []
words_from None (c ∷ text) = if is_blank c then words_from None text else words_with c (λ w. words_from w text) (after_octet Plain c)
words_from (Some within) (c ∷ text) = words_with c (λ w. words_from w text) (after_octet within c)

-- The words of a text.
abbrev pub words_of : List ℕ → List (List ℕ)
words_of text = words_from None text

-- The addresses that the words of a text write.
abbrev pub addrs_in : List ℕ → Result (List Addr) LineFault
addrs_in text = or_fault BadAddress (each_in addr_in (words_of text))

-- Addresses as text, each after a blank.
abbrev pub addrs_text : List Addr → List ℕ
addrs_text addrs = flat_map (λ addr. 32 ∷ addr_text addr) addrs
