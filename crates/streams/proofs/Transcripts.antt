-- Transcripts of one list of lines after another.
use Rattle.std.proofs.Common.{◌≡◌, ℕ, Bool, true, false, cond, nat_eq, List, [], ◌∷◌, ◌++◌, inl, inr, refl, sym, ◌∙◌, ap, subst, append_assoc}
use Rattle.std.proofs.lemmas.Bool.Decides.{eqb_tells}
use Rattle.std.proofs.lemmas.List.{append-nil}
use Rattle.streams.specs.Split.{without_return, ended_lines, begun_line}
use Rattle.streams.specs.Transcript.{Obeying, Transcript, Partly}

pub Transcript-append : (O : Type 0) (obeys : Obeying O) (o mid next : O) (xs ys : List (List ℕ)) (s t : List ℕ)
    → Transcript obeys o xs s mid → Transcript obeys mid ys t next → Transcript obeys o (xs ++ ys) (s ++ t) next
Transcript-append O obeys o mid next [] ys s t a b =
    subst (λ (u : List ℕ). Transcript obeys o ys u next) (sym (ap (λ (v : List ℕ). v ++ t) a.0)) (subst (λ (p : O). Transcript obeys p ys t next) a.1 b)
Transcript-append O obeys o mid next (x ∷ xs) ys s t a b =
    (a.0, a.1, a.2 ++ t, a.3, Transcript-append O obeys a.1 mid next xs ys a.2 t a.4 b, ap (λ (u : List ℕ). u ++ t) a.5 ∙ append_assoc a.0 a.2 t)

pub Partly-after : (O : Type 0) (obeys : Obeying O) (shows : List ℕ → Bool → List ℕ → Type 0) (o mid next : O) (xs ys : List (List ℕ)) (s t : List ℕ)
    → Transcript obeys o xs s mid → Partly obeys shows mid ys t next → Partly obeys shows o (xs ++ ys) (s ++ t) next
Partly-after O obeys shows o mid next xs ys s t a b = record {
  before = xs ++ b.before;
  line = b.line;
  behind = b.behind;
  are = ap (λ (l : List (List ℕ)). xs ++ l) b.are ∙ sym (append_assoc xs b.before (b.line ∷ b.behind));
  told = s ++ b.told;
  mid = b.mid;
  whole = b.whole;
  ends = b.ends;
  front = b.front;
  first = Transcript-append O obeys o mid b.mid xs b.before s b.told a b.first;
  last = b.last;
  shown = b.shown;
  all = ap (λ (u : List ℕ). s ++ u) b.all ∙ sym (append_assoc s b.told b.front);
}

pub Partly-before : (O : Type 0) (obeys : Obeying O) (shows : List ℕ → Bool → List ℕ → Type 0) (o next : O) (xs ys : List (List ℕ)) (t : List ℕ)
    → Partly obeys shows o xs t next → Partly obeys shows o (xs ++ ys) t next
Partly-before O obeys shows o next xs ys t b = record {
  before = b.before;
  line = b.line;
  behind = b.behind ++ ys;
  are = ap (λ (l : List (List ℕ)). l ++ ys) b.are ∙ append_assoc b.before (b.line ∷ b.behind) ys;
  told = b.told;
  mid = b.mid;
  whole = b.whole;
  ends = b.ends;
  front = b.front;
  first = b.first;
  last = b.last;
  shown = b.shown;
  all = b.all;
}

-- one line and its text are a transcript
pub Transcript-one : (O : Type 0) (obeys : Obeying O) (o next : O) (line text : List ℕ) → obeys o line text false next → Transcript obeys o (line ∷ []) text next
Transcript-one O obeys o next line text p = (text, next, [], p, (refl, refl), sym (append-nil text))

pub Partly-one : (O : Type 0) (obeys : Obeying O) (shows : List ℕ → Bool → List ℕ → Type 0) (o next : O) (line text : List ℕ) (ends : Bool) (front : List ℕ)
    → obeys o line text ends next → shows text ends front → Partly obeys shows o (line ∷ []) front next
Partly-one O obeys shows o next line text ends front p q = record {
  before = [];
  line = line;
  behind = [];
  are = refl;
  told = [];
  mid = o;
  whole = text;
  ends = ends;
  front = front;
  first = (refl, refl);
  last = p;
  shown = q;
  all = refl;
}

lines-seam : (b : Bool) (w : List ℕ) (ys g h : List ℕ) (d e k l : List (List ℕ)) → d ≡ k ++ ended_lines g ys → e ≡ l ++ ended_lines h ys
    → cond b (w ∷ d) e ≡ cond b (w ∷ k) l ++ ended_lines (cond b g h) ys
lines-seam true w ys g h d e k l p q = ap (λ (m : List (List ℕ)). w ∷ m) p
lines-seam false w ys g h d e k l p q = q

begun-seam : (b : Bool) (ys g h d e : List ℕ) → d ≡ begun_line g ys → e ≡ begun_line h ys → cond b d e ≡ begun_line (cond b g h) ys
begun-seam true ys g h d e p q = p
begun-seam false ys g h d e p q = q

pub ended_lines-append : (begun xs ys : List ℕ) → ended_lines begun (xs ++ ys) ≡ ended_lines begun xs ++ ended_lines (begun_line begun xs) ys
ended_lines-append begun [] ys = refl
ended_lines-append begun (x ∷ xs) ys =
    lines-seam (nat_eq x 10) (without_return begun) ys (begun_line [] xs) (begun_line (begun ++ x ∷ []) xs) _ _ (ended_lines [] xs) (ended_lines (begun ++ x ∷ []) xs)
    (ended_lines-append [] xs ys) (ended_lines-append (begun ++ x ∷ []) xs ys)

pub begun_line-append : (begun xs ys : List ℕ) → begun_line begun (xs ++ ys) ≡ begun_line (begun_line begun xs) ys
begun_line-append begun [] ys = refl
begun_line-append begun (x ∷ xs) ys =
    begun-seam (nat_eq x 10) ys (begun_line [] xs) (begun_line (begun ++ x ∷ []) xs) _ _ (begun_line-append [] xs ys) (begun_line-append (begun ++ x ∷ []) xs ys)

pub no-end : (octet : ℕ) → (octet ≡ 10 → ⊥) → nat_eq octet 10 ≡ false
no-end octet h = elim (eqb_tells octet 10) [
  | inl p ↦ absurd (h p.1)
  | inr p ↦ p.0
]
