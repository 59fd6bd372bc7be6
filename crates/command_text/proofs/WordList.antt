-- The words of a text, one after another.
use Rattle.std.proofs.Common.{◌≡◌, ℕ, Bool, true, false, cond, List, [], ◌∷◌, Option, Some, None, refl, sym, ap, ◌∙◌}
use Rattle.dns_text.specs.declared.word.Within.{Within}
use Rattle.dns_text.specs.declared.word.Within.TheVariants.{Plain}
use Rattle.dns_text.specs.Word.{is_blank, after_octet, goes_on, cut_word, skip_blanks, next_word, word_at, AreWords}
use Rattle.command_text.specs.Bar.{onto}
use Rattle.command_text.specs.Addrs.{words_with, words_from, words_of}
use Rattle.command_text.proofs.Bars.{end-is-blank, begins-word, skip-begins, some-cut}

pub words-blank : (c : ℕ) (text : List ℕ) → is_blank c ≡ true → words_of (c ∷ text) ≡ words_of text
unfolding words_from
words-blank c text b = rw b refl

words-step : (c : ℕ) (text : List ℕ) (o : Option Within) → (o ≡ None → is_blank c ≡ true)
    → ((w : Within) → words_from (Some w) text ≡ (cut_word w text).0 ∷ words_of (cut_word w text).1)
    → let cut = goes_on c text (λ w. cut_word w text) o in words_with c (λ w. words_from w text) o ≡ cut.0 ∷ words_of cut.1
words-step c text None b more = ap (λ (ws : List (List ℕ)). [] ∷ ws) (sym (words-blank c text (b refl)))
words-step c text (Some w) b more = ap (λ (ws : List (List ℕ)). onto (c ∷ []) ws) (more w)

-- a word that has begun, and those after it
words-open : (text : List ℕ) (w : Within) → words_from (Some w) text ≡ (cut_word w text).0 ∷ words_of (cut_word w text).1
unfolding cut_word words_from
words-open [] w = refl
words-open (c ∷ text) w = words-step c text (after_octet w c) (end-is-blank w c) (words-open text)

skip-step : (b : Bool) (c : ℕ) (text : List ℕ) → is_blank c ≡ b → words_of text ≡ words_of (skip_blanks text) → words_of (c ∷ text) ≡ words_of (cond b (skip_blanks text) (c ∷ text))
skip-step true c text is more = words-blank c text is ∙ more
skip-step false c text is more = refl

words-skip : (text : List ℕ) → words_of text ≡ words_of (skip_blanks text)
words-skip [] = refl
words-skip (c ∷ text) = skip-step (is_blank c) c text refl (words-skip text)

words-start : (c : ℕ) (text : List ℕ) → is_blank c ≡ false → words_of (c ∷ text) ≡ words_from (Some Plain) (c ∷ text)
unfolding words_from
words-start c text b = rw b refl

none-at : (text : List ℕ) → word_at text ≡ None → words_of text ≡ []
unfolding words_from
none-at [] h = refl
none-at (c ∷ text) h = cc

some-at : (text word after : List ℕ) → begins-word text → word_at text ≡ Some (word, after) → words_of text ≡ word ∷ words_of after
some-at [] word after b h = cc
some-at (c ∷ text) word after b h =
    let cut = some-cut (cut_word Plain (c ∷ text)) word after h in
    words-start c text b ∙ words-open (c ∷ text) Plain
    ∙ ap (λ (w : List ℕ). w ∷ words_of (cut_word Plain (c ∷ text)).1) cut.0 ∙ ap (λ (t : List ℕ). word ∷ words_of t) cut.1

pub words-none : (text : List ℕ) → next_word text ≡ None → words_of text ≡ []
words-none text h = words-skip text ∙ none-at (skip_blanks text) h

pub words-some : (text word after : List ℕ) → next_word text ≡ Some (word, after) → words_of text ≡ word ∷ words_of after
words-some text word after h = words-skip text ∙ some-at (skip_blanks text) word after (skip-begins text) h

pub words-only : (text : List ℕ) (words : List (List ℕ)) → AreWords text words → words_of text ≡ words
words-only text [] are = words-none text are
words-only text (word ∷ words) are = words-some text word are.0 are.1 ∙ ap (λ (ws : List (List ℕ)). word ∷ ws) (words-only are.0 words are.2)

are-by : (text : List ℕ) (words : List (List ℕ)) (o : Option (List ℕ × List ℕ)) → next_word text ≡ o → words_of text ≡ words → AreWords text words
are-by text [] None e is = e
are-by text [] (Some first) e is = let clash : first.0 ∷ words_of first.1 ≡ [] = sym (words-some text first.0 first.1 e) ∙ is in absurd cc
are-by text (word ∷ words) None e is = let clash : [] ≡ word ∷ words = sym (words-none text e) ∙ is in absurd cc
are-by text (word ∷ words) (Some first) e is =
    let same : first.0 ∷ words_of first.1 ≡ word ∷ words = sym (words-some text first.0 first.1 e) ∙ is in
    let head : first.0 ≡ word = cc in
    let tail : words_of first.1 ≡ words = cc in
    (first.1, e ∙ ap (λ (w : List ℕ). Some (w, first.1)) head, are-by first.1 words (next_word first.1) refl tail)

pub words-all : (text : List ℕ) → AreWords text (words_of text)
words-all text = are-by text (words_of text) (next_word text) refl refl
