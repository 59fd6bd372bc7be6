-- The lines that the splitter gives are those of the input.
use Rattle.std.proofs.Common.{◌≡◌, ◌≢◌, ℕ, List, [], ◌∷◌, ◌++◌, map, flat_map, inl, inr, refl, sym, ◌∙◌, ap, append_assoc}
use Rattle.std.proofs.lemmas.List.{append-nil}
use Rattle.std.proofs.lemmas.Bool.Decides.{eqb_tells}
use Rattle.std.specs.List.{AllByRecursion}
use Rattle.streams.specs.Split.{without_return, last_line, lines_of, ended_lines, begun_line}
use Rattle.streams.specs.Split.{IsUnended, with_end, Splits}
use Rattle.streams.proofs.Transcripts.{no-end}

-- octets that end no line go onto what has come
ended-unended : (begun xs ys : List ℕ) → IsUnended xs → ended_lines begun (xs ++ ys) ≡ ended_lines (begun ++ xs) ys
ended-unended begun [] ys u = ap (λ (b : List ℕ). ended_lines b ys) (sym (append-nil begun))
ended-unended begun (x ∷ xs) ys u =
    rw (no-end x u.0) (ended-unended (begun ++ x ∷ []) xs ys u.1 ∙ ap (λ (b : List ℕ). ended_lines b ys) (append_assoc begun (x ∷ []) xs))

begun-unended : (begun xs ys : List ℕ) → IsUnended xs → begun_line begun (xs ++ ys) ≡ begun_line (begun ++ xs) ys
begun-unended begun [] ys u = ap (λ (b : List ℕ). begun_line b ys) (sym (append-nil begun))
begun-unended begun (x ∷ xs) ys u =
    rw (no-end x u.0) (begun-unended (begun ++ x ∷ []) xs ys u.1 ∙ ap (λ (b : List ℕ). begun_line b ys) (append_assoc begun (x ∷ []) xs))

regroup : (line more rest : List ℕ) → ((line ++ 10 ∷ []) ++ more) ++ rest ≡ line ++ (10 ∷ (more ++ rest))
regroup line more rest = append_assoc (line ++ 10 ∷ []) more rest ∙ append_assoc line (10 ∷ []) (more ++ rest)

ended-all : (whole : List (List ℕ)) (rest : List ℕ) → AllByRecursion IsUnended whole → IsUnended rest → ended_lines [] (flat_map with_end whole ++ rest) ≡ map without_return whole
ended-all [] rest us u = ap (λ (r : List ℕ). ended_lines [] r) (sym (append-nil rest)) ∙ ended-unended [] rest [] u
ended-all (line ∷ whole) rest us u =
    ap (λ (r : List ℕ). ended_lines [] r) (regroup line (flat_map with_end whole) rest)
    ∙ ended-unended [] line (10 ∷ (flat_map with_end whole ++ rest)) us.0
    ∙ ap (λ (ls : List (List ℕ)). without_return line ∷ ls) (ended-all whole rest us.1 u)

begun-all : (whole : List (List ℕ)) (rest : List ℕ) → AllByRecursion IsUnended whole → IsUnended rest → begun_line [] (flat_map with_end whole ++ rest) ≡ rest
begun-all [] rest us u = ap (λ (r : List ℕ). begun_line [] r) (sym (append-nil rest)) ∙ begun-unended [] rest [] u
begun-all (line ∷ whole) rest us u =
    ap (λ (r : List ℕ). begun_line [] r) (regroup line (flat_map with_end whole) rest)
    ∙ begun-unended [] line (10 ∷ (flat_map with_end whole ++ rest)) us.0
    ∙ begun-all whole rest us.1 u

pub lines-only : (input : List ℕ) (whole : List (List ℕ)) (rest : List ℕ) → Splits input whole rest → lines_of input ≡ map without_return whole ++ last_line rest
lines-only input whole rest s =
    ap (λ (i : List ℕ). lines_of i) s.all
    ∙ ap (λ (ls : List (List ℕ)). ls ++ last_line (begun_line [] (flat_map with_end whole ++ rest))) (ended-all whole rest s.unended s.partial)
    ∙ ap (λ (r : List ℕ). map without_return whole ++ last_line r) (begun-all whole rest s.unended s.partial)

-- one octet before what is told apart
add-octet : (octet : ℕ) (octets : List ℕ) (whole : List (List ℕ)) (rest : List ℕ) → octet ≢ 10 → Splits octets whole rest → (w : List (List ℕ)) × (r : List ℕ) × Splits (octet ∷ octets) w r
add-octet octet octets [] rest n s = ([], octet ∷ rest, record { all = ap (λ (l : List ℕ). octet ∷ l) s.all; unended = tt; partial = (n, s.partial) })
add-octet octet octets (line ∷ whole) rest n s = ((octet ∷ line) ∷ whole, rest, record { all = ap (λ (l : List ℕ). octet ∷ l) s.all; unended = ((n, s.unended.0), s.unended.1); partial = s.partial })

pub lines-some : (input : List ℕ) → (whole : List (List ℕ)) × (rest : List ℕ) × Splits input whole rest
lines-some [] = ([], [], record { all = refl; unended = tt; partial = tt })
lines-some (octet ∷ octets) =
    let others = lines-some octets in
    elim (eqb_tells octet 10) [
      | inl p ↦ ([] ∷ others.0, others.1, record { all = ap (λ (o : ℕ). o ∷ octets) p.1 ∙ ap (λ (l : List ℕ). 10 ∷ l) others.2.all; unended = (tt, others.2.unended); partial = others.2.partial })
      | inr p ↦ add-octet octet octets others.0 others.1 p.1 others.2
    ]
