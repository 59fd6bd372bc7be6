-- Laws that proofs in this crate and in those above it cite: octets read or written one text after another, and transcripts.
use Rattle.std.proofs.Common.{ℕ, Bool, false, List, ◌++◌, Option, Some, None, sym, refl, ap, subst, [], ◌∷◌, ◌∙◌, append_assoc}
use Rattle.std.proofs.lemmas.List.{append-nil}
use Rattle.std.specs.Io.KnownBytes.{Appends, Consumes, Keeps}
use Rattle.streams.specs.Transcript.{Obeying, Transcript, Partly}

-- Two texts appended one after the other are their concatenation appended.
pub Appends-then : (u v w : Option (List ℕ)) (a b : List ℕ) → Appends u v a → Appends v w b → Appends u w (a ++ b)
Appends-then None v w a b x y = tt
Appends-then (Some xs) None w a b x y = absurd x
Appends-then (Some xs) (Some ys) None a b x y = y
Appends-then (Some xs) (Some ys) (Some zs) a b x y = y ∙ ap (λ (t : List ℕ). t ++ b) x ∙ append_assoc xs a b

-- Two texts read one after the other are their concatenation read.
pub Consumes-then : (u v w : Option (List ℕ)) (a b : List ℕ) → Consumes u v a → Consumes v w b → Consumes u w (a ++ b)
Consumes-then None v w a b x y = tt
Consumes-then (Some xs) None w a b x y = absurd x
Consumes-then (Some xs) (Some ys) None a b x y = y
Consumes-then (Some xs) (Some ys) (Some zs) a b x y = x ∙ ap (λ (t : List ℕ). a ++ t) y ∙ sym (append_assoc a b zs)

-- If nothing changes, the empty text was appended.
pub Appends-same : (u : Option (List ℕ)) → Appends u u []
Appends-same None = tt
Appends-same (Some xs) = sym (append-nil xs)

-- If nothing changes, the empty text was read.
pub Consumes-same : (u : Option (List ℕ)) → Consumes u u []
Consumes-same None = tt
Consumes-same (Some xs) = refl

-- A read that gives nothing leaves what was read before.
pub Consumes-kept : (u v w : Option (List ℕ)) (a : List ℕ) → Consumes u v a → Keeps v w → Consumes u w a
Consumes-kept None v w a x y = tt
Consumes-kept (Some xs) None w a x y = absurd x
Consumes-kept (Some xs) (Some ys) None a x y = absurd y
Consumes-kept (Some xs) (Some ys) (Some zs) a x y = x ∙ ap (λ (t : List ℕ). a ++ t) (sym y)

-- A line that is obeyed between two states is obeyed by the rule too, between places that stand for these states.
abbrev pub IsRuled : {O : Type 0} {P : Type 0} → Obeying O → Obeying P → (O → P → Type 0) → Type 0
IsRuled {O = O} {P = P} obeys rule stands =
    (o next : O) (line text : List ℕ) (ends : Bool) (p : P) → obeys o line text ends next → stands o p → (q : P) × rule p line text ends q × stands next q

-- Then all lines of a transcript are obeyed by the rule.
pub Transcript-ruled : (O P : Type 0) (obeys : Obeying O) (rule : Obeying P) (stands : O → P → Type 0) → IsRuled obeys rule stands
    → (o next : O) (lines : List (List ℕ)) (text : List ℕ) (p : P) → Transcript obeys o lines text next → stands o p → (q : P) × Transcript rule p lines text q × stands next q
Transcript-ruled O P obeys rule stands ruled o next [] text p t s = (p, (t.0, refl), subst (λ (n : O). stands n p) (sym t.1) s)
Transcript-ruled O P obeys rule stands ruled o next (line ∷ lines) text p t s =
    let one = ruled o t.1 line t.0 false p t.3 s in
    let rest = Transcript-ruled O P obeys rule stands ruled t.1 next lines t.2 one.0 t.4 one.2 in
    (rest.0, (t.0, one.0, t.2, one.1, rest.1, t.5), rest.2)

-- So are the lines up to one of which only a part was written.
pub Partly-ruled : (O P : Type 0) (obeys : Obeying O) (rule : Obeying P) (stands : O → P → Type 0) → IsRuled obeys rule stands
    → (shows : List ℕ → Bool → List ℕ → Type 0) (o next : O) (lines : List (List ℕ)) (text : List ℕ) (p : P)
    → Partly obeys shows o lines text next → stands o p → (q : P) × Partly rule shows p lines text q × stands next q
Partly-ruled O P obeys rule stands ruled shows o next lines text p b s =
    let before = Transcript-ruled O P obeys rule stands ruled o b.mid b.before b.told p b.first s in
    let last = ruled b.mid next b.line b.whole b.ends before.0 b.last before.2 in (
      last.0,
      record {
        before = b.before;
        line = b.line;
        behind = b.behind;
        are = b.are;
        told = b.told;
        mid = before.0;
        whole = b.whole;
        ends = b.ends;
        front = b.front;
        first = before.1;
        last = last.1;
        shown = b.shown;
        all = b.all;
      },
      last.2,
    )
