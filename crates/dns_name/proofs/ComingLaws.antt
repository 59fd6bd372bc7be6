-- The last label of a run of octets, the leftmost of the name, and where it begins.
use Rattle.std.proofs.Common.{◌≡◌, ℕ, ◌+◌, ◌<◌, List, [], ◌∷◌, ◌++◌, length, take, drop, refl, sym, ap, subst, ◌∙◌, arith, length-append, reverse}
use Rattle.std.specs.List.{AllByRecursion}
use Rattle.std.proofs.lemmas.List.{take_at, drop_at, reverse-append, append-nil, length-take, nil_from_length}
use Rattle.dns_name.specs.Building.{IsComing, Ends, IsOver, starts_from}
use Rattle.dns_name.specs.Labels.{Labels, IsLabel, IsOctets, with_length, spelled, labels_in}
use Rattle.dns_name.specs.ListLaws.{all_split, same_ends}
use Rattle.dns_name.specs.Octets.{labels_in-spelled, spelled-append}

starts_from-append : (place : ℕ) (a b : Labels) → starts_from place (a ++ b) ≡ starts_from place a ++ starts_from (place + length (spelled a)) b
starts_from-append place [] b = let e : place + 0 ≡ place = omega arith in rw e refl
starts_from-append place (l ∷ a) b =
    let e : (place + (length l + 1)) + length (spelled a) ≡ place + length (spelled (l ∷ a)) = omega (arith, length-append l (spelled a)) in
    ap (λ (x : List ℕ). place ∷ x) (starts_from-append (place + (length l + 1)) a b ∙ ap (λ (k : ℕ). starts_from (place + (length l + 1)) a ++ starts_from k b) e)

-- the labels but the last, which is the leftmost of the name
record Last (labels : Labels) : Type 0 where
  front : Labels
  label : List ℕ
  parts : labels ≡ front ++ label ∷ []

last_of : (l : List ℕ) (ls : Labels) → Last (l ∷ ls)
last_of l [] = record { front = []; label = l; parts = refl }
last_of l (next ∷ ls) =
    let more = last_of next ls in
    record { front = l ∷ more.front; label = more.label; parts = ap (λ (x : Labels). l ∷ x) more.parts }

-- the last label begins at a place
pub record EndsAt (octets starts : List ℕ) (place : ℕ) : Type 0 where
  pub within : place < length octets
  pub parts : Ends octets (drop 1 (drop place octets)) (take place octets) starts

ends_with : (octets starts : List ℕ) (place : ℕ) (last : Last (labels_in octets)) → IsOctets octets → starts ++ place ∷ [] ≡ starts_from 0 (labels_in octets) → EndsAt octets starts place
ends_with octets starts place last h e =
    let front : Labels = last.front in
    let label : List ℕ = last.label in
    let same = same_ends starts (starts_from 0 front) place (0 + length (spelled front)) (e ∙ ap (starts_from 0) last.parts ∙ starts_from-append 0 front (label ∷ [])) in
    let here : length (spelled front) ≡ place = let at : place ≡ 0 + length (spelled front) = same.1 in omega arith in
    let whole : octets ≡ spelled front ++ with_length label = sym h.spells ∙ ap (λ (x : Labels). spelled x) last.parts ∙ spelled-append front (label ∷ []) ∙ ap (λ (x : List ℕ). spelled front ++ x) (append-nil (with_length label)) in
    let before : take place octets ≡ spelled front = ap (take place) whole ∙ take_at (spelled front) (with_length label) place here in
    let after : drop place octets ≡ with_length label = ap (drop place) whole ∙ drop_at (spelled front) (with_length label) place here in
    let left : labels_in (take place octets) ≡ front = ap labels_in before ∙ labels_in-spelled front in
    record {
      within = omega (arith, here, ap length whole, length-append (spelled front) (with_length label));
      parts = record {
        labels = ap (λ (x : Labels). reverse x) last.parts ∙ reverse-append front (label ∷ []) ∙ ap (λ (x : List ℕ). x ∷ reverse front) (ap (drop 1) (sym after)) ∙ ap (λ (x : Labels). drop 1 (drop place octets) ∷ reverse x) (sym left);
        coming = record {
          spell = record {
            spells = ap (λ (x : Labels). spelled x) left ∙ sym before;
            each = rw left ((all_split IsLabel front (label ∷ []) (subst (AllByRecursion IsLabel) last.parts h.each)).0);
            short = omega (arith, h.short, length-take place octets);
          };
          places = same.0 ∙ ap (starts_from 0) (sym left);
        };
      };
    }

ends_at : (octets starts : List ℕ) (place : ℕ) (labels : Labels) → labels_in octets ≡ labels → IsOctets octets → starts ++ place ∷ [] ≡ starts_from 0 labels → EndsAt octets starts place
ends_at octets starts place [] are h e = absurd (omega (arith, ap length e, length-append starts (place ∷ [])))
ends_at octets starts place (l ∷ ls) are h e = ends_with octets starts place (subst Last (sym are) (last_of l ls)) h (e ∙ ap (starts_from 0) (sym are))

-- the start that is taken away last is that of the last label
pub ends : (octets starts rest : List ℕ) (start place : ℕ) → IsComing octets starts → starts ≡ rest ++ start ∷ [] → place ≡ start → EndsAt octets rest place
ends octets starts rest start place h taken here =
    ends_at octets rest place (labels_in octets) refl h.spell (ap (λ (n : ℕ). rest ++ n ∷ []) here ∙ sym taken ∙ h.places)

no_starts : (labels : Labels) → [] ≡ starts_from 0 labels → labels ≡ []
no_starts [] e = refl
no_starts (l ∷ ls) e = absurd (let bad = ap length e in omega arith)

-- no start, no label
pub over : (octets starts rest : List ℕ) → IsComing octets starts → starts ≡ rest ++ [] → length starts ≡ 0 → IsOver octets rest
over octets starts rest h taken none =
    let left : rest ≡ [] = nil_from_length rest (omega (arith, none, ap length taken, length-append rest [])) in
    let places : [] ≡ starts_from 0 (labels_in octets) = sym (nil_from_length starts none) ∙ h.places in
    record { labels = ap (λ (x : Labels). reverse x) (no_starts (labels_in octets) places); coming = record { spell = h.spell; places = left ∙ places } }
