-- Receipts beside the entries of the record, place by place.
use Rattle.std.proofs.Common.{◌≡◌, ℕ, zero, suc, ◌+◌, ◌<◌, ◌≤◌, Bool, Some, List, [], ◌∷◌, ◌++◌, length, get_or, slice_get, take, drop, refl, sym, ◌∙◌, ap, arith}
use Rattle.std.specs.Prelude.{IsTrue, ◌↔◌, ◌≢◌}
use Rattle.std.proofs.lemmas.List.{take-append-drop, take_more, drop_more, length-take-le, take_all}
use Rattle.std.proofs.lemmas.Option.{slice_get_within, slice_get_read, get_or_from_slice_get}
use Rattle.shared_book.specs.declared.receipt.Receipt.{Receipt}
use Rattle.shared_book.specs.Equal.{receipt_eq}
use Rattle.shared_book.proofs.EqualLaws.{receipt_eq_exact, receipt_eq_itself}
use Rattle.shared_book.specs.Closing.{IsFirstOther}

pub is_entry_at : (entries : List Receipt) (i : ℕ) (x y : Receipt) (r : Bool) → i < length entries → y ≡ get_or entries i y → r ≡ receipt_eq y x
    → IsTrue r ↔ (slice_get entries i ≡ Some x)
is_entry_at entries i x y r lt at is = (
  λ t. slice_get_read entries (length entries) i y refl lt at ∙ ap (λ (z : Receipt). Some z) (receipt_eq_exact y x (sym is ∙ t)),
  λ g. is ∙ ap (λ (z : Receipt). receipt_eq z x) (at ∙ get_or_from_slice_get entries i x y g) ∙ receipt_eq_itself x,
)

pub take_both : (receipts entries : List Receipt) (i : ℕ) (x : Receipt) → i < length receipts → x ≡ get_or receipts i x → take i receipts ≡ take i entries
    → slice_get entries i ≡ Some x → (i + 1 ≤ length entries) × (take (i + 1) receipts ≡ take (i + 1) entries)
take_both receipts entries i x lt at same g =
    let within : i < length entries = slice_get_within entries i x g in
    let here : get_or receipts i x ≡ get_or entries i x = sym at ∙ sym (get_or_from_slice_get entries i x x g) in (
      omega arith,
      take_more receipts i x lt
          ∙ ap (λ (p : List Receipt). p ++ get_or receipts i x ∷ []) same
          ∙ ap (λ (z : Receipt). take i entries ++ z ∷ []) here
          ∙ sym (take_more entries i x within),
    )

drop_get : (xs : List Receipt) (i : ℕ) → slice_get (drop i xs) 0 ≡ slice_get xs i
drop_get [] zero = refl
drop_get [] (suc i) = refl
drop_get (x ∷ xs) zero = refl
drop_get (x ∷ xs) (suc i) = drop_get xs i

pub first_other_at : (first : ℕ) (receipts entries : List Receipt) (i : ℕ) (x : Receipt) → i < length receipts → x ≡ get_or receipts i x → take i receipts ≡ take i entries
    → (slice_get entries i ≢ Some x) → IsFirstOther first (first + i) receipts entries
first_other_at first receipts entries i x lt at same other = record {
  before = take i receipts;
  receipt = x;
  later = drop (i + 1) receipts;
  rest = drop i entries;
  receipts_are = sym (take-append-drop i receipts) ∙ ap (λ (q : List Receipt). take i receipts ++ q) (drop_more receipts i x lt ∙ ap (λ (z : Receipt). z ∷ drop (i + 1) receipts) (sym at));
  entries_are = sym (take-append-drop i entries) ∙ ap (λ (p : List Receipt). p ++ drop i entries) (sym same);
  other = λ g. other (sym (drop_get entries i) ∙ g);
  number_is = ap (λ n. first + n) (sym (length-take-le i receipts (omega arith)));
}

pub all_same : (receipts entries : List Receipt) (i : ℕ) → length receipts ≤ i → length entries ≤ length receipts → take i receipts ≡ take i entries → receipts ≡ entries
all_same receipts entries i past few same =
    sym (take_all i receipts past) ∙ same ∙ take_all i entries (omega arith)
