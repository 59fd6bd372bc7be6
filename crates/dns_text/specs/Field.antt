-- Names and numbers in data: each is a word.
use Rattle.std.specs.Prelude.{ℕ, List, Option, Some, None, option_map, Result, Ok, Err}
use Rattle.dns_name.specs.declared.fault.NameFault.{NameFault}
use Rattle.dns_name.specs.Labels.{Labels}
use Rattle.dns_name.specs.Reading.{name_in}
use Rattle.dns_text.specs.Number.{number_in}
use Rattle.dns_text.specs.Word.{next_word, only_word}
use Rattle.dns_name.specs.Options.{◌>>=◌}

-- the name that was read, if one was
abbrev pub name_or_none : Result Labels NameFault → Option Labels
name_or_none (Ok name) = Some name
name_or_none (Err fault) = None

-- the name that a word stands for
abbrev pub named : List ℕ → Option Labels
named word = name_or_none (name_in word)

-- the name that is the first word of a text, and the text after it
abbrev pub name_at : List ℕ → Option (Labels × List ℕ)
name_at text = next_word text >>= λ word. option_map (λ name. (name, word.1)) (named word.0)

-- the name that is the only word of a text
abbrev pub last_name : List ℕ → Option Labels
last_name text = only_word text >>= named

-- the number that is the first word of a text, no greater than `most`, and the text after it
abbrev pub number_at : ℕ → List ℕ → Option (ℕ × List ℕ)
number_at most text = next_word text >>= λ word. option_map (λ n. (n, word.1)) (number_in most word.0)

-- the number that is the only word of a text, no greater than `most`
abbrev pub last_number : ℕ → List ℕ → Option ℕ
last_number most text = only_word text >>= number_in most
