-- Records that are written are read back.
use Rattle.std.proofs.Common.{◌≡◌, ℕ, ◌<◌, ◌^◌, false, List, ◌∷◌, ◌++◌, Some, Ok, refl, arith, append_assoc}
use Rattle.std.specs.Prelude.{decimal}
use Rattle.dns_name.specs.Labels.{IsName}
use Rattle.dns_name.specs.Text.{text_of}
use Rattle.dns_text.specs.declared.record.Record.{Record}
use Rattle.dns_text.specs.Word.{next_word}
use Rattle.dns_text.specs.Kind.{type_text, is_excluded}
use Rattle.dns_text.specs.Data.{data_in, data_text}
use Rattle.dns_text.specs.Record.{is_class, after_class, ttl_at, ttl_and_class, record_in, record_text}
use Rattle.dns_text.proofs.NumberLaws.{is_digits-decimal, number_in-decimal}
use Rattle.dns_text.proofs.WordLaws.{IsWord, next_word-front}
use Rattle.dns_text.proofs.FieldLaws.{number_is_word}
use Rattle.dns_text.proofs.NameLaws.{named-text_of, name_is_word}
use Rattle.dns_text.proofs.KindLaws.{type_is_word, type_in-type_text, type_is_no_class}
use Rattle.dns_text.proofs.DataLaws.{data_in-blank}

-- a blank before words
next_word-blank : (text : List ℕ) → next_word (32 ∷ text) ≡ next_word text
next_word-blank text = refl

-- the words of a record
record_words : (r : Record) → record_text r ≡ text_of r.owner ++ 32 ∷ (decimal r.ttl ++ 32 ∷ (type_text r.kind ++ 32 ∷ data_text r.body))
record_words r = simp append_assoc

ttl_read : (n : ℕ) (rest : List ℕ) → n < 2 ^ 31 → ttl_at (next_word (32 ∷ (decimal n ++ 32 ∷ rest))) ≡ Ok (Some n, next_word (32 ∷ rest))
ttl_read n rest small =
    let first : next_word (32 ∷ (decimal n ++ 32 ∷ rest)) ≡ Some (decimal n, 32 ∷ rest) = next_word-front (decimal n) (32 ∷ rest) (number_is_word n (omega arith)) refl in
    rw first (rw (is_digits-decimal n (omega arith)) (rw (number_in-decimal 2147483647 n (omega arith) (omega arith)) refl))

class_absent : (word rest : List ℕ) → IsWord word → is_class word ≡ false → after_class (next_word (32 ∷ (word ++ 32 ∷ rest))) ≡ Some (word, 32 ∷ rest)
class_absent word rest h e =
    let first : next_word (32 ∷ (word ++ 32 ∷ rest)) ≡ Some (word, 32 ∷ rest) = next_word-front word (32 ∷ rest) h refl in
    rw first (rw e refl)

ttl_and_class_read : (n : ℕ) (word rest : List ℕ) → n < 2 ^ 31 → IsWord word → is_class word ≡ false → ttl_and_class (next_word (32 ∷ (decimal n ++ 32 ∷ (word ++ 32 ∷ rest)))) ≡ Ok (n, Some (word, 32 ∷ rest))
unfolding ttl_and_class
ttl_and_class_read n word rest small h e = rw (ttl_read n (word ++ 32 ∷ rest) small) (rw (class_absent word rest h e) refl)

pub record_again : (r : Record) → IsName r.owner → r.kind < 65536 → is_excluded r.kind ≡ false → r.ttl < 2 ^ 31 → data_in r.kind (data_text r.body) ≡ Some r.body → record_in (record_text r) ≡ Ok r
unfolding record_in
record_again r name kind known small again =
    let rest : List ℕ = 32 ∷ (decimal r.ttl ++ 32 ∷ (type_text r.kind ++ 32 ∷ data_text r.body)) in
    let first : next_word (text_of r.owner ++ rest) ≡ Some (text_of r.owner, rest) = next_word-front (text_of r.owner) rest (name_is_word r.owner name) refl in
    rw (record_words r) (rw first (rw (named-text_of r.owner name)
    (rw (ttl_and_class_read r.ttl (type_text r.kind) (data_text r.body) small (type_is_word r.kind kind) (type_is_no_class r.kind))
    (rw (type_in-type_text r.kind kind known) (rw (data_in-blank r.kind (data_text r.body)) (rw again refl))))))
