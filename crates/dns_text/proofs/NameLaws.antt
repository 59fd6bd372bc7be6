-- Names as words of a line.
use Rattle.std.proofs.Common.{◌≡◌, ℕ, ◌<◌, Bool, true, false, List, [], ◌∷◌, Option, Some, None, refl, ap, arith, length-append}
use Rattle.std.specs.List.{AllByRecursion, flat_map}
use Rattle.std.proofs.lemmas.Bool.{agree_below, agree_below_at}
use Rattle.dns_name.specs.Labels.{Labels, IsLabel, IsLowerOctet, IsName}
use Rattle.dns_name.specs.Text.{octet_text, label_text, text_of}
use Rattle.dns_name.specs.TextLaws.{name_in-text_of}
use Rattle.dns_text.specs.declared.word.Within.{Within}
use Rattle.dns_text.specs.declared.word.Within.TheVariants.{Plain, Quotes, Escape, QuotedEscape}
use Rattle.dns_text.specs.Field.{name_or_none, named}
use Rattle.dns_text.proofs.WordLaws.{scanned, IsWord, joined_scanned}

is_plain : Option Within → Bool
is_plain (Some Plain) = true
is_plain _ = false

plain : (o : Option Within) → is_plain o ≡ true → o ≡ Some Plain
unfolding is_plain
plain None e = absurd cc
plain (Some Plain) e = refl
plain (Some Quotes) e = absurd cc
plain (Some Escape) e = absurd cc
plain (Some QuotedEscape) e = absurd cc

all_plain : agree_below (λ b. is_plain (scanned Plain (octet_text b))) (λ _. true) 256 ≡ true
unfolding is_plain scanned
all_plain = refl

escaped_scanned : (b : ℕ) → b < 256 → scanned Plain (octet_text b) ≡ Some Plain
escaped_scanned b small = plain (scanned Plain (octet_text b)) (agree_below_at (λ n. is_plain (scanned Plain (octet_text n))) (λ _. true) 256 b all_plain small)

nothing_scanned : scanned Plain [] ≡ Some Plain
unfolding scanned
nothing_scanned = refl

dot_scanned : scanned Plain (46 ∷ []) ≡ Some Plain
unfolding scanned
dot_scanned = refl

octets_scanned : (label : List ℕ) → AllByRecursion IsLowerOctet label → scanned Plain (flat_map octet_text label) ≡ Some Plain
octets_scanned [] each = nothing_scanned
octets_scanned (b ∷ label) each = joined_scanned (octet_text b) (flat_map octet_text label) (escaped_scanned b each.0.octet) (octets_scanned label each.1)

label_scanned : (label : List ℕ) → IsLabel label → scanned Plain (label_text label) ≡ Some Plain
label_scanned label h = joined_scanned (flat_map octet_text label) (46 ∷ []) (octets_scanned label h.octets) dot_scanned

labels_scanned : (labels : Labels) → AllByRecursion IsLabel labels → scanned Plain (flat_map label_text labels) ≡ Some Plain
labels_scanned [] each = nothing_scanned
labels_scanned (label ∷ labels) each = joined_scanned (label_text label) (flat_map label_text labels) (label_scanned label each.0) (labels_scanned labels each.1)

pub name_is_word : (labels : Labels) → IsName labels → IsWord (text_of labels)
name_is_word [] h = record { some = omega arith; closed = dot_scanned }
name_is_word (label ∷ labels) h =
    record {
      some = omega (arith, length-append (label_text label) (flat_map label_text labels), length-append (flat_map octet_text label) (46 ∷ []));
      closed = labels_scanned (label ∷ labels) h.each;
    }

pub named-text_of : (labels : Labels) → IsName labels → named (text_of labels) ≡ Some labels
named-text_of labels h = ap name_or_none (name_in-text_of labels h)
