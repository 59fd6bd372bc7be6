-- The pieces between bars, word by word.
use Rattle.std.proofs.Common.{◌≡◌, ℕ, ◌<◌, Bool, true, false, cond, ◌&&◌, nat_eq, List, [], ◌∷◌, ◌++◌, length, take, ◌+◌, ◌-◌, Option, Some, None, inl, inr, refl, sym, ap, subst, ◌∙◌, append_assoc, length-append, arith}
use Rattle.std.proofs.lemmas.List.{append-nil}
use Rattle.std.proofs.Math.Seq.{take-append_seam}
use Rattle.std.proofs.lemmas.Bool.Decides.{eqb_tells}
use Rattle.dns_text.specs.declared.word.Within.{Within}
use Rattle.dns_text.specs.declared.word.Within.TheVariants.{Plain, Quotes, Escape, QuotedEscape}
use Rattle.dns_text.specs.Word.{is_blank, after_octet, with_first, goes_on, cut_word, skip_blanks, word_at, next_word}
use Rattle.command_text.specs.Bar.{is_at_end, is_bar, onto, pieces_from, pieces}

-- a blank is one of two octets
blank-is : (P : ℕ → Type 0) (c : ℕ) → P 32 → P 9 → is_blank c ≡ true → P c
blank-is P c p q b = elim (eqb_tells c 32) [
  | inl s ↦ subst P (sym s.1) p
  | inr s ↦ elim (eqb_tells c 9) [
    | inl t ↦ subst P (sym t.1) q
    | inr t ↦ let other : is_blank c ≡ false = rw (s.0, t.0) refl in absurd (cc (b, other))
  ]
]

pub onto-append : (xs ys : List ℕ) (ps : List (List ℕ)) → onto (xs ++ ys) ps ≡ onto xs (onto ys ps)
onto-append xs ys [] = refl
onto-append xs ys (p ∷ ps) = ap (λ (q : List ℕ). q ∷ ps) (append_assoc xs ys p)

onto-nil-cond : (b : Bool) (c : ℕ) (x : List (List ℕ)) (ps : List (List ℕ)) → onto [] (cond b ([] ∷ x) (onto (c ∷ []) ps)) ≡ cond b ([] ∷ x) (onto (c ∷ []) ps)
onto-nil-cond true c x ps = refl
onto-nil-cond false c x ps = sym (onto-append [] (c ∷ []) ps)

onto-nil : (within : Option Within) (text : List ℕ) → onto [] (pieces_from within text) ≡ pieces_from within text
onto-nil within [] = refl
onto-nil None (c ∷ text) = onto-nil-cond (is_bar (c ∷ text)) c (pieces_from None text) (pieces_from (after_octet Plain c) text)
onto-nil (Some w) (c ∷ text) = sym (onto-append [] (c ∷ []) (pieces_from (after_octet w c) text))

pieces-blank : (c : ℕ) (text : List ℕ) → is_blank c ≡ true → pieces_from None (c ∷ text) ≡ onto (c ∷ []) (pieces_from None text)
pieces-blank c text b = blank-is (λ (d : ℕ). pieces_from None (d ∷ text) ≡ onto (d ∷ []) (pieces_from None text)) c refl refl b

-- Only a blank ends a word.
end-cond : (b d e : Bool) (x y : Within) → cond d (Some x) (cond e (Some y) (cond b None (Some Plain))) ≡ None → b ≡ true
end-cond true d e x y h = refl
end-cond false true e x y h = cc
end-cond false false true x y h = cc
end-cond false false false x y h = cc

escape-cond : (b : Bool) → cond b None (Some Plain) ≡ None → b ≡ true
escape-cond true h = refl
escape-cond false h = cc

quotes-cond : (d e : Bool) → cond d (Some QuotedEscape) (cond e (Some Plain) (Some Quotes)) ≡ None → ⊥
quotes-cond true e h = cc
quotes-cond false true h = cc
quotes-cond false false h = cc

pub end-is-blank : (w : Within) (c : ℕ) → after_octet w c ≡ None → is_blank c ≡ true
end-is-blank Plain c h = end-cond (is_blank c) (nat_eq c 92) (nat_eq c 34) Escape Quotes h
end-is-blank Quotes c h = absurd (quotes-cond (nat_eq c 92) (nat_eq c 34) h)
end-is-blank Escape c h = escape-cond (is_blank c) h
end-is-blank QuotedEscape c h = cc

word-step : (c : ℕ) (text : List ℕ) (o : Option Within) → (o ≡ None → is_blank c ≡ true)
    → ((w : Within) → pieces_from (Some w) text ≡ onto (cut_word w text).0 (pieces_from None (cut_word w text).1))
    → let cut = goes_on c text (λ w. cut_word w text) o in onto (c ∷ []) (pieces_from o text) ≡ onto cut.0 (pieces_from None cut.1)
word-step c text None b more = sym (ap (λ (ps : List (List ℕ)). onto [] ps) (pieces-blank c text (b refl)) ∙ sym (onto-append [] (c ∷ []) (pieces_from None text)))
word-step c text (Some w) b more =
    ap (λ (ps : List (List ℕ)). onto (c ∷ []) ps) (more w) ∙ sym (onto-append (c ∷ []) (cut_word w text).0 (pieces_from None (cut_word w text).1))

-- the octets of a word are of one piece
pieces-word : (text : List ℕ) (w : Within) → pieces_from (Some w) text ≡ onto (cut_word w text).0 (pieces_from None (cut_word w text).1)
unfolding cut_word
pieces-word [] w = refl
pieces-word (c ∷ text) w = word-step c text (after_octet w c) (end-is-blank w c) (pieces-word text)

splits-step : (c : ℕ) (text : List ℕ) (o : Option Within) → ((w : Within) → text ≡ (cut_word w text).0 ++ (cut_word w text).1)
    → let cut = goes_on c text (λ w. cut_word w text) o in c ∷ text ≡ cut.0 ++ cut.1
splits-step c text None more = refl
splits-step c text (Some w) more = ap (λ (t : List ℕ). c ∷ t) (more w)

word-splits : (text : List ℕ) (w : Within) → text ≡ (cut_word w text).0 ++ (cut_word w text).1
unfolding cut_word
word-splits [] w = refl
word-splits (c ∷ text) w = splits-step c text (after_octet w c) (word-splits text)

plain-not-bar : (c : ℕ) (text : List ℕ) → is_bar (c ∷ text) ≡ false → pieces_from None (c ∷ text) ≡ pieces_from (Some Plain) (c ∷ text)
plain-not-bar c text h = rw h refl

-- what follows where a bar ends a word
end-cut : (text : List ℕ) → is_at_end text ≡ true → cut_word Plain text ≡ ([], text)
unfolding cut_word
end-cut [] h = refl
end-cut (d ∷ text) h = blank-is (λ (c : ℕ). cut_word Plain (c ∷ text) ≡ ([], c ∷ text)) d refl refl h

no-more-step : (d : ℕ) (text : List ℕ) (o : Option Within) → (o ≡ None → is_blank d ≡ true) → (goes_on d text (λ w. cut_word w text) o).0 ≡ [] → is_blank d ≡ true
no-more-step d text None b h = b refl
no-more-step d text (Some w) b h = cc

end-only : (text : List ℕ) → (cut_word Plain text).0 ≡ [] → is_at_end text ≡ true
unfolding cut_word
end-only [] h = refl
end-only (d ∷ text) h = no-more-step d text (after_octet Plain d) (end-is-blank Plain d) h

-- a text that begins with no blank
abbrev pub begins-word : List ℕ → Type 0
begins-word [] = Unit {0}
begins-word (c ∷ text) = is_blank c ≡ false

-- ---- one word more

some-is : (w v : Within) → Some w ≡ Some v → w ≡ v
some-is w v h = cc

bar-not-word : (c : ℕ) (text : List ℕ) (o : Option Within) → o ≡ after_octet Plain c → (goes_on c text (λ w. cut_word w text) o).0 ≡ 124 ∷ [] → is_bar (c ∷ text) ≡ true
bar-not-word c text None e h = cc
bar-not-word c text (Some w) e h =
    let first : c ≡ 124 = cc in
    let none : (cut_word w text).0 ≡ [] = cc in
    let plain : w ≡ Plain = some-is w Plain (e ∙ ap (λ (n : ℕ). after_octet Plain n) first) in
    let ends = end-only text (ap (λ (v : Within). (cut_word v text).0) (sym plain) ∙ none) in
    rw (first, ends) refl

blanks-by : (b : Bool) (c : ℕ) (text : List ℕ) → is_blank c ≡ b
    → ((front : List ℕ) × (text ≡ front ++ skip_blanks text) × (pieces text ≡ onto front (pieces (skip_blanks text))))
    → let rest = cond b (skip_blanks text) (c ∷ text) in (front : List ℕ) × (c ∷ text ≡ front ++ rest) × (pieces (c ∷ text) ≡ onto front (pieces rest))
blanks-by true c text is so = (
  c ∷ so.0,
  ap (λ (t : List ℕ). c ∷ t) so.1,
  pieces-blank c text is ∙ ap (λ (ps : List (List ℕ)). onto (c ∷ []) ps) so.2 ∙ sym (onto-append (c ∷ []) so.0 (pieces (skip_blanks text))),
)
blanks-by false c text is so = ([], refl, sym (onto-nil None (c ∷ text)))

-- The blanks before a word are of its piece.
pub blanks : (text : List ℕ) → (front : List ℕ) × (text ≡ front ++ skip_blanks text) × (pieces text ≡ onto front (pieces (skip_blanks text)))
blanks [] = ([], refl, refl)
blanks (c ∷ text) = blanks-by (is_blank c) c text refl (blanks text)

begins-by : (b : Bool) (c : ℕ) (text : List ℕ) → is_blank c ≡ b → begins-word (skip_blanks text) → begins-word (cond b (skip_blanks text) (c ∷ text))
begins-by true c text is more = more
begins-by false c text is more = is

pub skip-begins : (text : List ℕ) → begins-word (skip_blanks text)
skip-begins [] = tt
skip-begins (c ∷ text) = begins-by (is_blank c) c text refl (skip-begins text)

pub some-cut : (cut : List ℕ × List ℕ) (word after : List ℕ) → Some cut ≡ Some (word, after) → (cut.0 ≡ word) × (cut.1 ≡ after)
some-cut cut word after h = let e : cut ≡ (word, after) = cc in (ap (λ (r : List ℕ × List ℕ). r.0) e, ap (λ (r : List ℕ × List ℕ). r.1) e)

not-empty-by : (c : ℕ) (text : List ℕ) (o : Option Within) → (o ≡ None → is_blank c ≡ true) → is_blank c ≡ false → 0 < length (goes_on c text (λ w. cut_word w text) o).0
not-empty-by c text None b n = let yes = b refl in absurd (cc (yes, n))
not-empty-by c text (Some w) b n = omega arith

word-not-empty : (c : ℕ) (text : List ℕ) → is_blank c ≡ false → 0 < length (cut_word Plain (c ∷ text)).0
unfolding cut_word
word-not-empty c text n = not-empty-by c text (after_octet Plain c) (end-is-blank Plain c) n

bar-word : (c : ℕ) (text : List ℕ) → (cut_word Plain (c ∷ text)).0 ≡ 124 ∷ [] → is_bar (c ∷ text) ≡ true
unfolding cut_word
bar-word c text h = bar-not-word c text (after_octet Plain c) refl h

and-left : (a b : Bool) → a && b ≡ true → a ≡ true
and-left true b h = refl
and-left false b h = cc

and-right : (a b : Bool) → a && b ≡ true → b ≡ true
and-right true b h = h
and-right false b h = cc

is-124 : (c : ℕ) → nat_eq c 124 ≡ true → c ≡ 124
is-124 c h = elim (eqb_tells c 124) [
  | inl p ↦ p.1
  | inr p ↦ let other = p.0 in absurd (cc (h, other))
]

cut-124 : (text : List ℕ) → is_at_end text ≡ true → cut_word Plain (124 ∷ text) ≡ (124 ∷ [], text)
unfolding cut_word
cut-124 text h = ap (λ (r : List ℕ × List ℕ). with_first 124 r) (end-cut text h)

cut-bar : (c : ℕ) (text : List ℕ) → is_bar (c ∷ text) ≡ true → cut_word Plain (c ∷ text) ≡ (124 ∷ [], text)
cut-bar c text h =
    ap (λ (d : ℕ). cut_word Plain (d ∷ text)) (is-124 c (and-left (nat_eq c 124) (is_at_end text) h)) ∙ cut-124 text (and-right (nat_eq c 124) (is_at_end text) h)

pieces-bar : (c : ℕ) (text : List ℕ) → is_bar (c ∷ text) ≡ true → pieces (c ∷ text) ≡ [] ∷ pieces text
pieces-bar c text h = rw h refl

no-bar-by : (text front rest : List ℕ) → text ≡ front ++ rest → pieces text ≡ onto front (pieces rest) → word_at rest ≡ None → pieces text ≡ text ∷ []
no-bar-by text front [] splits is none = is ∙ ap (λ (t : List ℕ). t ∷ []) (sym splits)
no-bar-by text front (c ∷ rest) splits is none = cc

-- a text of blanks is one piece
pub no-bar : (text : List ℕ) → next_word text ≡ None → pieces text ≡ text ∷ []
no-bar text none = let b = blanks text in no-bar-by text b.0 (skip_blanks text) b.1 b.2 none

not-bar-by : (b : Bool) (c : ℕ) (text : List ℕ) → is_bar (c ∷ text) ≡ b → ((cut_word Plain (c ∷ text)).0 ≡ 124 ∷ [] → ⊥)
    → pieces (c ∷ text) ≡ onto (cut_word Plain (c ∷ text)).0 (pieces (cut_word Plain (c ∷ text)).1)
not-bar-by true c text is not = absurd (not (ap (λ (r : List ℕ × List ℕ). r.0) (cut-bar c text is)))
not-bar-by false c text is not = plain-not-bar c text is ∙ pieces-word (c ∷ text) Plain

word-more-by : (text front rest word after : List ℕ) → text ≡ front ++ rest → pieces text ≡ onto front (pieces rest) → begins-word rest
    → word_at rest ≡ Some (word, after) → (word ≡ 124 ∷ [] → ⊥)
    → (first : List ℕ) × (text ≡ first ++ after) × (pieces text ≡ onto first (pieces after)) × (0 < length first)
word-more-by text front [] word after splits is begins read not = cc
word-more-by text front (c ∷ rest) word after splits is begins read not =
    let cut = cut_word Plain (c ∷ rest) in
    let parts = some-cut cut word after read in
    let one = not-bar-by (is_bar (c ∷ rest)) c rest refl (λ h. not (sym parts.0 ∙ h)) in
    let rest-is : c ∷ rest ≡ word ++ after = word-splits (c ∷ rest) Plain ∙ ap (λ (w : List ℕ). w ++ cut.1) parts.0 ∙ ap (λ (a : List ℕ). word ++ a) parts.1 in
    let some : 0 < length word = subst (λ (w : List ℕ). 0 < length w) parts.0 (word-not-empty c rest begins) in (
      front ++ word,
      splits ∙ ap (λ (r : List ℕ). front ++ r) rest-is ∙ sym (append_assoc front word after),
      is ∙ ap (λ (ps : List (List ℕ)). onto front ps) (one ∙ ap (λ (w : List ℕ). onto w (pieces cut.1)) parts.0 ∙ ap (λ (a : List ℕ). onto word (pieces a)) parts.1)
          ∙ sym (onto-append front word (pieces after)),
      omega (arith, some, length-append front word),
    )

-- a word that is no bar is of the first piece
pub word-more : (text word after : List ℕ) → next_word text ≡ Some (word, after) → (word ≡ 124 ∷ [] → ⊥)
    → (first : List ℕ) × (text ≡ first ++ after) × (pieces text ≡ onto first (pieces after)) × (0 < length first)
word-more text word after read not = let b = blanks text in word-more-by text b.0 (skip_blanks text) word after b.1 b.2 (skip-begins text) read not

word-bar-by : (text front rest word after : List ℕ) → text ≡ front ++ rest → pieces text ≡ onto front (pieces rest) → word_at rest ≡ Some (word, after) → word ≡ 124 ∷ []
    → (first : List ℕ) × (text ≡ first ++ 124 ∷ after) × (pieces text ≡ first ∷ pieces after)
word-bar-by text front [] word after splits is read bar = cc
word-bar-by text front (c ∷ rest) word after splits is read bar =
    let parts = some-cut (cut_word Plain (c ∷ rest)) word after read in
    let yes = bar-word c rest (parts.0 ∙ bar) in
    let after-is : rest ≡ after = sym (ap (λ (r : List ℕ × List ℕ). r.1) (cut-bar c rest yes)) ∙ parts.1 in
    let c-is : c ≡ 124 = is-124 c (and-left (nat_eq c 124) (is_at_end rest) yes) in (
      front,
      splits ∙ ap (λ (d : ℕ). front ++ d ∷ rest) c-is ∙ ap (λ (r : List ℕ). front ++ 124 ∷ r) after-is,
      is ∙ ap (λ (ps : List (List ℕ)). onto front ps) (pieces-bar c rest yes) ∙ ap (λ (f : List ℕ). f ∷ pieces rest) (append-nil front) ∙ ap (λ (r : List ℕ). front ∷ pieces r) after-is,
    )

-- a bar ends the first piece
pub word-bar : (text word after : List ℕ) → next_word text ≡ Some (word, after) → word ≡ 124 ∷ []
    → (first : List ℕ) × (text ≡ first ++ 124 ∷ after) × (pieces text ≡ first ∷ pieces after)
word-bar text word after read bar = let b = blanks text in word-bar-by text b.0 (skip_blanks text) word after b.1 b.2 read bar

pub onto-pieces : (text : List ℕ) → onto [] (pieces text) ≡ pieces text
onto-pieces text = onto-nil None text

-- where a bar is found
pub at-bar : (text front rest word after : List ℕ) → text ≡ front ++ rest → pieces text ≡ onto front (pieces rest) → Some (word, after) ≡ next_word rest → word ≡ 124 ∷ []
    → (length after < length text) × (pieces text ≡ take (length text - length after - 1) text ∷ pieces after)
at-bar text front rest word after splits is read bar =
    let b = word-bar rest word after (sym read) bar in
    let whole = front ++ b.0 in
    let text-is : text ≡ whole ++ 124 ∷ after = splits ∙ ap (λ (r : List ℕ). front ++ r) b.1 ∙ sym (append_assoc front b.0 (124 ∷ after)) in
    let n : length text ≡ length whole + (length after + 1) = omega (arith, ap (λ (t : List ℕ). length t) text-is, length-append whole (124 ∷ after)) in
    let m : length text - length after - 1 ≡ length whole = omega (arith, n) in
    let front-is : take (length text - length after - 1) text ≡ whole =
    ap (λ (k : ℕ). take k text) m ∙ ap (λ (t : List ℕ). take (length whole) t) text-is ∙ take-append_seam whole (124 ∷ after) in (
      omega (arith, n),
      is ∙ ap (λ (ps : List (List ℕ)). onto front ps) b.2 ∙ ap (λ (w : List ℕ). w ∷ pieces after) (sym front-is),
    )

-- where another word is found
pub past-word : (text front rest word after : List ℕ) → text ≡ front ++ rest → pieces text ≡ onto front (pieces rest) → Some (word, after) ≡ next_word rest → (word ≡ 124 ∷ [] → ⊥)
    → (whole : List ℕ) × (text ≡ whole ++ after) × (pieces text ≡ onto whole (pieces after)) × (length after < length rest)
past-word text front rest word after splits is read not =
    let more = word-more rest word after (sym read) not in
    let n : length rest ≡ length more.0 + length after = ap (λ (t : List ℕ). length t) more.1 ∙ length-append more.0 after in (
      front ++ more.0,
      splits ∙ ap (λ (r : List ℕ). front ++ r) more.1 ∙ sym (append_assoc front more.0 after),
      is ∙ ap (λ (ps : List (List ℕ)). onto front ps) more.2 ∙ sym (onto-append front more.0 (pieces after)),
      omega (arith, n, more.3),
    )

-- where no word is left
pub at-end : (text front rest : List ℕ) → text ≡ front ++ rest → pieces text ≡ onto front (pieces rest) → None ≡ next_word rest → pieces text ≡ text ∷ []
at-end text front rest splits is none =
    is ∙ ap (λ (ps : List (List ℕ)). onto front ps) (no-bar rest (sym none)) ∙ ap (λ (t : List ℕ). t ∷ []) (sym splits)
