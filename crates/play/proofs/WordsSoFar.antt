-- What the words of a text say, word by word.
use Rattle.std.proofs.Common.{◌≡◌, ℕ, List, [], ◌∷◌, ◌++◌, Option, Some, None, Ok, Err, map, refl, sym, ◌∙◌}
use Rattle.std.proofs.lemmas.List.{map-append}
use Rattle.dns_name.specs.Results.{or_fault, GivesBut}
use Rattle.dns_name.specs.ResultLaws.{or_fault-ok}
use Rattle.dns_text.specs.Word.{next_word, AreWords, BeginsWithWords}
use Rattle.play.specs.declared.stop.Stop.{Stop}
use Rattle.play.specs.declared.stop.Stop.TheVariants.{Device, NoMemory}
use Rattle.play.specs.Words.{EachSays, OneSaysNothing}

-- The words before the rest of a text say these.
abbrev pub SaidSoFar : {A : Type 0} → (List ℕ → Option A) → List ℕ → List ℕ → List A → Type 0
SaidSoFar read text rest xs = (words : List (List ℕ)) × BeginsWithWords text words rest × (map read words ≡ map Some xs)

begins_more : (text : List ℕ) (words : List (List ℕ)) (rest word after : List ℕ) → BeginsWithWords text words rest
    → next_word rest ≡ Some (word, after) → BeginsWithWords text (words ++ word ∷ []) after
begins_more text [] rest word after begins next = (after, rw begins next, refl)
begins_more text (first ∷ words) rest word after begins next = (begins.0, begins.1, begins_more begins.0 words rest word after begins.2 next)

begins_all : (text : List ℕ) (words : List (List ℕ)) (rest : List ℕ) → BeginsWithWords text words rest → next_word rest ≡ None → AreWords text words
begins_all text [] rest begins none = rw begins none
begins_all text (first ∷ words) rest begins none = (begins.0, begins.1, begins_all begins.0 words rest begins.2 none)

-- one more
pub said_more : {A : Type 0} (read : List ℕ → Option A) (text rest word after : List ℕ) (xs : List A) (x : A) → SaidSoFar read text rest xs
    → next_word rest ≡ Some (word, after) → or_fault Device (read word) ≡ Ok x → SaidSoFar read text after (xs ++ x ∷ [])
said_more read text rest word after xs x so_far next said = (
  so_far.0 ++ word ∷ [],
  begins_more text so_far.0 rest word after so_far.1 next,
  map-append read so_far.0 (word ∷ []) ∙ rw (so_far.2, or_fault-ok Device (read word) x said) (sym (map-append (λ y. Some y) xs (x ∷ []))),
)

-- no word is left
pub said_all : {A : Type 0} (read : List ℕ → Option A) (text rest : List ℕ) (xs : List A) → SaidSoFar read text rest xs
    → next_word rest ≡ None → EachSays read text xs
said_all read text rest xs so_far none = (so_far.0, begins_all text so_far.0 rest so_far.1 none, so_far.2)

unread : {A : Type 0} (o : Option A) (stop : Stop) → GivesBut NoMemory (Err stop) (or_fault Device o) → stop ≡ Device → o ≡ None
unread None stop gives device = refl
unread (Some x) stop gives device = let told = gives (λ same. absurd cc) in absurd cc

-- a word says nothing
pub says_nothing : {A : Type 0} (read : List ℕ → Option A) (text rest word after : List ℕ) (xs : List A) (stop : Stop) → SaidSoFar read text rest xs
    → next_word rest ≡ Some (word, after) → GivesBut NoMemory (Err stop) (or_fault Device (read word)) → stop ≡ Device → OneSaysNothing read text
says_nothing read text rest word after xs stop so_far next gives device =
    (so_far.0, word, after, begins_more text so_far.0 rest word after so_far.1 next, unread (read word) stop gives device)
