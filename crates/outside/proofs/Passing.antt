-- Octets that are written and read piece by piece.
use Rattle.std.proofs.Common.{◌≡◌, ℕ, ◌+◌, ◌-◌, ◌<◌, ◌≤◌, List, ◌++◌, length, take, drop, slice_range, Option, inl, inr, refl, sym, ap, ◌∙◌, subst, arith, length-drop, append_assoc}
use Rattle.std.proofs.Math.Nat.{eq-or-lt_of_le}
use Rattle.std.proofs.Math.Seq.{drop-length, take-add}
use Rattle.std.proofs.lemmas.List.{take_all, take-append-drop, take-append-le, drop-drop, drop_at, take_at}
use Rattle.std.specs.Io.{StartsWith, appended_bytes}
use Rattle.std.specs.Io.KnownBytes.{Appends, Consumes}
use Rattle.streams.specs.Laws.{Appends-then, Consumes-same, Consumes-then}
use Rattle.outside.specs.Line.{LineState, WentFrom}

-- So many octets more are written, and so all from there on to after them.
pub written_on : (u v w : Option (List ℕ)) (octets : List ℕ) (from left count : ℕ) → from ≤ left → left ≤ length octets
    → Appends u v (slice_range octets from left) → Appends v w (take count (take (length octets - left) (drop left octets)))
    → Appends u w (slice_range octets from (left + count))
written_on u v w octets from left count later within before more =
    let rest : take (length octets - left) (drop left octets) ≡ drop left octets = take_all _ _ (omega (arith, length-drop left octets)) in
    let far : from + (left - from) ≡ left = omega arith in
    let long : (left - from) + count ≡ left + count - from = omega arith in
    let joined : take (left - from) (drop from octets) ++ take count (take (length octets - left) (drop left octets)) ≡ slice_range octets from (left + count) =
    ap (λ (l : List ℕ). take (left - from) (drop from octets) ++ take count l) (rest ∙ sym (drop-drop (left - from) from octets ∙ ap (λ (n : ℕ). drop n octets) far))
    ∙ sym (take-add (left - from) count (drop from octets)) ∙ ap (λ (n : ℕ). take n (drop from octets)) long in
    subst (Appends u w) joined (Appends-then u v w _ _ before more)

appended_on : (u v w : Option (List ℕ)) (old mid took : List ℕ) → StartsWith mid old → Consumes u v (appended_bytes old mid) → Consumes v w took
    → StartsWith (mid ++ took) old × Consumes u w (appended_bytes old (mid ++ took))
appended_on u v w old mid took starts before more =
    let rest = drop (length old) mid in
    let all : mid ++ took ≡ old ++ (rest ++ took) =
    ap (λ (l : List ℕ). l ++ took) (sym (take-append-drop (length old) mid) ∙ ap (λ (l : List ℕ). l ++ rest) starts) ∙ append_assoc old rest took in (
      ap (take (length old)) all ∙ take_at old (rest ++ took) (length old) refl,
      subst (Consumes u w) (sym (ap (drop (length old)) all ∙ drop_at old (rest ++ took) (length old) refl)) (Consumes-then u v w _ _ before more),
    )

-- So many octets were read to the front of a room, and are appended.
pub came_on : (u v w : Option (List ℕ)) (old mid new front behind : List ℕ) (count : ℕ) → StartsWith mid old → Consumes u v (appended_bytes old mid)
    → count ≤ length front → Consumes v w (take count front) → new ≡ mid ++ take count (front ++ behind) → StartsWith new old × Consumes u w (appended_bytes old new)
came_on u v w old mid new front behind count starts before within more is =
    subst (λ (l : List ℕ). StartsWith l old × Consumes u w (appended_bytes old l)) (ap (λ (l : List ℕ). mid ++ l) (sym (take-append-le count front behind within)) ∙ sym is)
    (appended_on u v w old mid (take count front) starts before more)

-- Nothing has come since.
pub none_came : (u : Option (List ℕ)) (octets : List ℕ) → Consumes u u (appended_bytes octets octets)
none_came u octets = subst (Consumes u u) (sym (drop-length octets)) (Consumes-same u)

-- Of the query so many octets have left, and then those up to there.
left_on : (octets : List ℕ) (from left : ℕ) → from ≤ left → take from octets ++ slice_range octets from left ≡ take left octets
left_on octets from left later =
    let far : from + (left - from) ≡ left = omega arith in sym (take-add from (left - from) octets) ∙ ap (λ (n : ℕ). take n octets) far

-- What came is what had come, and the rest.
rest_of : (old new : List ℕ) → StartsWith new old → old ++ appended_bytes old new ≡ new
rest_of old new starts = ap (λ (l : List ℕ). l ++ appended_bytes old new) (sym starts) ∙ take-append-drop (length old) new

pub same_start : (octets : List ℕ) → StartsWith octets octets
same_start octets = take_all (length octets) octets (omega arith)

-- A line that came so far from a fresh connection goes on.
pub went_on : {S : Type 0} (contents remaining : S → Option (List ℕ)) (fresh : S) (old : LineState S) (written : S) (new : LineState S)
    → new.asks ≡ old.asks → old.left ≤ new.left → new.left ≤ length old.asks → Appends (contents old.stream) (contents written) (slice_range old.asks old.left new.left)
    → (old.left ≡ length old.asks → written ≡ old.stream) → (new.left < length old.asks → (written ≡ new.stream) × (new.came ≡ old.came))
    → StartsWith new.came old.came → Consumes (remaining written) (remaining new.stream) (appended_bytes old.came new.came)
    → WentFrom contents remaining fresh old → WentFrom contents remaining fresh new
went_on {S} contents remaining fresh old written new asks later within wrote idle unread starts read went =
    let same : take new.left old.asks ≡ take new.left new.asks = ap (λ (l : List ℕ). take new.left l) (sym asks) in
    let far : old.left ≤ length old.asks = omega (arith, later, within) in
    elim (eq-or-lt_of_le far) [
      | inl all ↦
          let is = idle all in
          let left : old.left ≡ new.left = omega arith in
          record {
            written = went.written;
            asked = subst (Appends (contents fresh) (contents went.written)) (ap (λ (n : ℕ). take n old.asks) left ∙ same) went.asked;
            told = subst (Consumes (remaining went.written) (remaining new.stream)) (rest_of old.came new.came starts)
                (Consumes-then _ _ _ _ _ went.told (subst (λ (s : S). Consumes (remaining s) (remaining new.stream) (appended_bytes old.came new.came)) is read));
            unread = λ some. absurd (omega (arith, ap (λ (l : List ℕ). length l) asks));
          }
      | inr some ↦
          let none = went.unread some in
          record {
            written = written;
            asked = subst (Appends (contents fresh) (contents written)) (left_on old.asks old.left new.left later ∙ same)
                (Appends-then _ _ _ _ _ (subst (λ (s : S). Appends (contents fresh) (contents s) (take old.left old.asks)) none.0 went.asked) wrote);
            told = subst (λ (l : List ℕ). Consumes (remaining written) (remaining new.stream) (appended_bytes l new.came)) none.1 read;
            unread = λ more. let is = unread (omega (arith, ap (λ (l : List ℕ). length l) asks)) in (is.0, is.1 ∙ none.1);
          }
    ]
