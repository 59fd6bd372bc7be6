-- The version in force, flush by flush.
use Rattle.std.proofs.Common.{◌≡◌, ◌∙◌, ◌+◌, ◌-◌, ◌<◌, ◌≤◌, ℕ, List, [], ◌∷◌, length, take, get_or, sym, ap, arith}
use Rattle.std.proofs.lemmas.List.{map-append, take_more}
use Rattle.std.proofs.lemmas.List.Sums.{fold_push}
use Rattle.dns_text.specs.declared.record.Question.{Question}
use Rattle.shelf.specs.declared.shelf.KeptFlush.{KeptFlush}
use Rattle.std.specs.Prelude.{map}
use Rattle.shelf.specs.Kept.{turned_over}
use Rattle.shelf.specs.Told.{later_shown, shown_version}

-- the version in force by the first flushes is that by those before the last of them, and then by that one
pub last_shown : (kept : List KeptFlush) (question : Question) (place : ℕ) (own : KeptFlush) → 0 < place → place ≤ length kept → own ≡ get_or kept (place - 1) own
    → shown_version (take place kept) question ≡ later_shown question (shown_version (take (place - 1) kept) question) own
last_shown kept question place own some low is =
    let next : place - 1 + 1 ≡ place = omega arith in
    let front : List KeptFlush = take (place - 1) kept in
    ap (λ n. shown_version (take n kept) question) (sym next)
    ∙ (ap (λ (l : List KeptFlush). shown_version l question) (take_more kept (place - 1) own (omega arith))
    ∙ (fold_push (later_shown question) 0 front (get_or kept (place - 1) own)
    ∙ ap (λ (f : KeptFlush). later_shown question (shown_version front question) f) (sym is)))

-- the same, if one flush is turned over
pub last_shown_over : (number : ℕ) (kept : List KeptFlush) (question : Question) (place : ℕ) (own : KeptFlush) → 0 < place → place ≤ length kept → own ≡ get_or kept (place - 1) own
    → shown_version (map (turned_over number) (take place kept)) question
    ≡ later_shown question (shown_version (map (turned_over number) (take (place - 1) kept)) question) (turned_over number own)
last_shown_over number kept question place own some low is =
    let f = turned_over number in
    let next : place - 1 + 1 ≡ place = omega arith in
    let front : List KeptFlush = take (place - 1) kept in
    ap (λ n. shown_version (map f (take n kept)) question) (sym next)
    ∙ (ap (λ (l : List KeptFlush). shown_version (map f l) question) (take_more kept (place - 1) own (omega arith))
    ∙ (ap (λ (l : List KeptFlush). shown_version l question) (map-append f front (get_or kept (place - 1) own ∷ []))
    ∙ (fold_push (later_shown question) 0 (map f front) (f (get_or kept (place - 1) own))
    ∙ ap (λ (g : KeptFlush). later_shown question (shown_version (map f front) question) (f g)) (sym is))))
