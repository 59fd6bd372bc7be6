-- The addresses of a text, word by word.
use Rattle.std.proofs.Common.{◌≡◌, ℕ, List, [], ◌∷◌, ◌++◌, Some, None, Ok, Err, refl, ap, ◌∙◌}
use Rattle.std.proofs.Common.{map}
use Rattle.std.proofs.lemmas.List.{append-nil}
use Rattle.std.specs.List.{AllByRecursion}
use Rattle.dns_name.specs.Results.{or_fault, GivesBut}
use Rattle.dns_text.specs.declared.addr.Addr.{Addr}
use Rattle.dns_text.specs.Word.{next_word}
use Rattle.dns_text.specs.Addr.{addr_in, addr_text}
use Rattle.dns_text.specs.Written.{WritesAddrs}
use Rattle.command_text.specs.declared.fault.LineFault.{LineFault}
use Rattle.command_text.specs.declared.fault.LineFault.TheVariants.{BadAddress, NoMemory}
use Rattle.command_text.specs.Parts.{each_in}
use Rattle.command_text.specs.Addrs.{words_from, words_of, addrs_in, addrs_text}
use Rattle.command_text.specs.CommandWords.{IsAddr}
use Rattle.command_text.proofs.WordList.{words-none, words-some}
use Rattle.command_text.proofs.Sets.{behind, one-more, no-more, fails-more}

-- The addresses of a text are those read so far, and those of the words that are left of it.
abbrev pub Left : List ℕ → List ℕ → List Addr → Type 0
Left text rest addrs = each_in addr_in (words_of text) ≡ behind addrs (each_in addr_in (words_of rest))

-- the words that are left begin with this one
begins : (text rest : List ℕ) (addrs : List Addr) (word after : List ℕ) → Left text rest addrs → next_word rest ≡ Some (word, after)
    → each_in addr_in (words_of text) ≡ behind addrs (each_in addr_in (word ∷ words_of after))
begins text rest addrs word after left some = left ∙ ap (λ (words : List (List ℕ)). behind addrs (each_in addr_in words)) (words-some rest word after some)

-- one more is read
pub read-more : (text rest : List ℕ) (addrs : List Addr) (word after : List ℕ) (addr : Addr) → Left text rest addrs → next_word rest ≡ Some (word, after)
    → or_fault BadAddress (addr_in word) ≡ Ok addr → Left text after (addrs ++ addr ∷ [])
read-more text rest addrs word after addr left some one = one-more BadAddress addr_in word (words_of after) addrs addr _ (begins text rest addrs word after left some) one

-- a word is no address
pub read-fails : (text rest : List ℕ) (addrs : List Addr) (word after : List ℕ) (fault : LineFault) → Left text rest addrs → next_word rest ≡ Some (word, after)
    → or_fault BadAddress (addr_in word) ≡ Err fault → GivesBut NoMemory (Err fault) (addrs_in text)
read-fails text rest addrs word after fault left some one =
    fails-more BadAddress addr_in word (words_of after) addrs fault _ (begins text rest addrs word after left some) (λ other. one)

-- no word is left
pub read-all : (text rest : List ℕ) (addrs : List Addr) → Left text rest addrs → next_word rest ≡ None → addrs_in text ≡ Ok addrs
read-all text rest addrs left none =
    no-more BadAddress addr_in addrs _ (left ∙ ap (λ (words : List (List ℕ)). behind addrs (each_in addr_in words)) (words-none rest none))

-- ---- addresses that are written are read back

pub first-addr : WritesAddrs → (addr : Addr) (addrs : List Addr) → IsAddr addr → next_word (addr_text addr ++ addrs_text addrs) ≡ Some (addr_text addr, addrs_text addrs)
first-addr w addr [] h = ap next_word (append-nil (addr_text addr)) ∙ (w addr h.0 h.1 h.2).0.last
first-addr w addr (next ∷ addrs) h = (w addr h.0 h.1 h.2).0.first (addr_text next ++ addrs_text addrs)

written-words : WritesAddrs → (addrs : List Addr) → AllByRecursion IsAddr addrs → words_of (addrs_text addrs) ≡ map addr_text addrs
unfolding words_from
written-words w [] each = refl
written-words w (addr ∷ addrs) each =
    words-some (addrs_text (addr ∷ addrs)) (addr_text addr) (addrs_text addrs) (first-addr w addr addrs each.0)
    ∙ ap (λ (words : List (List ℕ)). addr_text addr ∷ words) (written-words w addrs each.1)

written-read : WritesAddrs → (addrs : List Addr) → AllByRecursion IsAddr addrs → each_in addr_in (map addr_text addrs) ≡ Some addrs
unfolding each_in
written-read w [] each = refl
written-read w (addr ∷ addrs) each = rw ((w addr each.0.0 each.0.1 each.0.2).1, written-read w addrs each.1) refl

pub addrs-again : WritesAddrs → (addrs : List Addr) → AllByRecursion IsAddr addrs → addrs_in (addrs_text addrs) ≡ Ok addrs
addrs-again w addrs each = rw (written-words w addrs each, written-read w addrs each) refl
