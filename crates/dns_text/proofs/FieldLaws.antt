-- Names and numbers that are written are read back.
use Rattle.std.proofs.Common.{◌≡◌, ℕ, ◌<◌, ◌≤◌, ◌^◌, List, ◌++◌, Some, refl}
use Rattle.std.specs.Prelude.{decimal}
use Rattle.std.proofs.lemmas.Fmt.{decimal_nonempty}
use Rattle.dns_name.specs.Labels.{Labels, IsName}
use Rattle.dns_name.specs.Text.{text_of}
use Rattle.dns_text.specs.Field.{name_at, last_name, number_at, last_number}
use Rattle.dns_text.proofs.NumberLaws.{digits-decimal, number_in-decimal}
use Rattle.dns_text.proofs.WordLaws.{IsWord, EndsWord, digits_scanned, next_word-front, only_word-whole}
use Rattle.dns_text.proofs.NameLaws.{named-text_of, name_is_word}

pub number_is_word : (n : ℕ) → n < 2 ^ 64 → IsWord (decimal n)
number_is_word n h = record { some = decimal_nonempty n h; closed = digits_scanned (decimal n) (digits-decimal n h) }

pub name_at-text_of : (labels : Labels) (rest : List ℕ) → IsName labels → EndsWord rest → name_at (text_of labels ++ rest) ≡ Some (labels, rest)
name_at-text_of labels rest h ends = rw (next_word-front (text_of labels) rest (name_is_word labels h) ends) (rw (named-text_of labels h) refl)

pub last_name-text_of : (labels : Labels) → IsName labels → last_name (text_of labels) ≡ Some labels
last_name-text_of labels h = rw (only_word-whole (text_of labels) (name_is_word labels h)) (named-text_of labels h)

pub number_at-decimal : (most n : ℕ) (rest : List ℕ) → n ≤ most → n < 2 ^ 64 → EndsWord rest → number_at most (decimal n ++ rest) ≡ Some (n, rest)
number_at-decimal most n rest few h ends = rw (next_word-front (decimal n) rest (number_is_word n h) ends) (rw (number_in-decimal most n few h) refl)

pub last_number-decimal : (most n : ℕ) → n ≤ most → n < 2 ^ 64 → last_number most (decimal n) ≡ Some n
last_number-decimal most n few h = rw (only_word-whole (decimal n) (number_is_word n h)) (number_in-decimal most n few h)
