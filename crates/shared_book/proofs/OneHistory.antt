-- The receipts with which a book was closed are of one history.
use Rattle.std.proofs.Common.{◌≡◌, ℕ, zero, suc, ◌+◌, ◌-◌, ◌<◌, ◌≤◌, Bool, true, false, cond, leb, List, [], ◌∷◌, ◌++◌, length, refl, sym, ◌∙◌, ap, subst, arith, append_assoc, length-append}
use Rattle.std.proofs.lemmas.Bool.{le-leb}
use Rattle.std.specs.Prelude.{All, AllPairs, Contains}
use Rattle.std.proofs.lemmas.List.{length-map}
use Rattle.std.proofs.lemmas.List.Elements.{All-cons, All-nil, All-weaker, All-contains}
use Rattle.std.proofs.lemmas.List.Kept.{AllPairs-cons}
use Rattle.std.proofs.lemmas.List.Sorted.{IsPermutation-sym, All-permutation, Contains-permutation}
use Rattle.history.specs.declared.event.Event.{Event}
use Rattle.history.specs.declared.event.Settings.{Settings}
use Rattle.shared_book.specs.declared.receipt.Receipt.{Receipt}
use Rattle.shared_book.specs.Pass.{PassState}
use Rattle.shared_book.specs.Record.{events_of, IsLegalAfter}
use Rattle.shared_book.specs.Closing.{numbered_from}
use Rattle.shared_book.specs.OneHistory.{IsPlaced, AreOfCaller, ClosedIsOneHistory}

placed_after : (settings : Settings) (h : List Event) (entries : List Receipt) → IsLegalAfter settings h entries → All (IsPlaced settings (h ++ events_of entries)) entries
placed_after settings h [] legal = All-nil _
placed_after settings h (e ∷ entries) legal =
    let history : List Event = h ++ e.event ∷ events_of entries in
    let here : IsPlaced settings history e
    = record { before = h; later = events_of entries; history_is = refl; number_is = legal.0; reply_is = legal.1 } in
    let later : All (IsPlaced settings history) entries
    = subst (λ (k : List Event). All (IsPlaced settings k) entries) (append_assoc h (e.event ∷ []) (events_of entries)) (placed_after settings (h ++ e.event ∷ []) entries legal.2) in
    All-cons (IsPlaced settings history) e entries here later

-- an entry after another is contained with it
contains_more : (x r : Receipt) (entries : List Receipt) → Contains entries r → Contains (x ∷ entries) r
contains_more x r entries is = (suc is.0, omega (arith, is.1), is.2)

numbered : (settings : Settings) (h : List Event) (entries : List Receipt) → IsLegalAfter settings h entries → (n : ℕ) → n < length entries
    → (r : Receipt) × Contains entries r × (r.number ≡ length h + n + 1)
numbered settings h [] legal n within = absurd (omega (arith, within))
numbered settings h (e ∷ entries) legal zero within = (e, (zero, omega arith, refl), omega (arith, legal.0))
numbered settings h (e ∷ entries) legal (suc n) within =
    let more = numbered settings (h ++ e.event ∷ []) entries legal.2 n (omega (arith, within)) in
    (more.0, contains_more e more.0 entries more.1, omega (arith, more.2, length-append h (e.event ∷ [])))

-- a caller's numbers are above what it had seen
above : (first last : PassState) (own : List Receipt) → AreOfCaller first own last → All (λ r. first.seen < r.number) own
above first last [] calls = All-nil _
above first last (r ∷ own) calls =
    let after = calls.1 in
    let got = calls.4 in
    let counted : after.seen ≡ r.number = ap (λ (p : PassState). p.seen) got.counted in
    let here : first.seen < r.number = omega (arith, calls.3, got.later) in
    All-cons (λ x. first.seen < x.number) r own here
    (All-weaker (λ x. after.seen < x.number) (λ x. first.seen < x.number) (λ x lt. omega (arith, lt, counted, here)) own (above after last own calls.5))

caller_is : (first last : PassState) (own : List Receipt) → AreOfCaller first own last → All (λ r. r.caller ≡ first.caller) own
caller_is first last [] calls = All-nil _
caller_is first last (r ∷ own) calls =
    let after = calls.1 in
    let got = calls.4 in
    let here : r.caller ≡ first.caller = got.caller ∙ calls.2 in
    let kept : after.caller ≡ first.caller = ap (λ (p : PassState). p.caller) got.counted ∙ calls.2 in
    All-cons (λ x. x.caller ≡ first.caller) r own here
    (All-weaker (λ x. x.caller ≡ after.caller) (λ x. x.caller ≡ first.caller) (λ x is. is ∙ kept) own (caller_is after last own calls.5))

rise : (first last : PassState) (own : List Receipt) → AreOfCaller first own last → AllPairs (λ a b. a.number < b.number) own
rise first last [] calls = λ i j d lt within. absurd (omega (arith, within))
rise first last (r ∷ own) calls =
    let after = calls.1 in
    let got = calls.4 in
    let counted : after.seen ≡ r.number = ap (λ (p : PassState). p.seen) got.counted in
    AllPairs-cons (λ a b. a.number < b.number) r own (All-weaker (λ x. after.seen < x.number) (λ x. r.number < x.number) (λ x lt. omega (arith, lt, counted)) own (above after last own calls.5))
    (rise after last own calls.5)

-- a receipt that is not behind the window is among those that are not
contained_from : (first : ℕ) (receipts : List Receipt) (r : Receipt) → first ≤ r.number → Contains receipts r → Contains (numbered_from first receipts) r
contained_from first [] r within (i, lt, is) = absurd (omega (arith, lt))
contained_from first (x ∷ xs) r within (zero, lt, is) =
    let here : leb first x.number ≡ true = le-leb first x.number (subst (λ (y : Receipt). first ≤ y.number) (sym is) within) in
    rw here (zero, omega arith, is)
contained_from first (x ∷ xs) r within (suc i, lt, is) = behind (leb first x.number) x (numbered_from first xs) (contained_from first xs r within (i, omega (arith, lt), is)) where
  behind : (b : Bool) (x : Receipt) (rest : List Receipt) → Contains rest r → Contains (cond b (x ∷ rest) rest) r
  behind true x rest is = contains_more x r rest is
  behind false x rest is = is

pub one_history : {B : Type 0} (stands_for : B → List Event → Type 0) (settings : B → Settings) → ClosedIsOneHistory stands_for settings
one_history stands_for settings kept passes receipts closed k =
    let made_with : Settings = settings kept.book in
    let history : List Event = k.before ++ events_of kept.window in
    let given : List Receipt = numbered_from kept.first receipts in
    let in_order = closed.1.moved in
    let back = IsPermutation-sym given kept.window in_order in
    let placed : All (IsPlaced made_with history) given
    = All-permutation (IsPlaced made_with history) kept.window given back (placed_after made_with k.before kept.window k.legal) in
    let many : length history ≡ kept.total
    = length-append k.before (events_of kept.window) ∙ ap (λ n. length k.before + n) (length-map kept.window (λ (x : Receipt). x.event)) ∙ k.counted in
    record {
      history = history;
      stands = k.stands;
      as_many = many;
      placed = placed;
      each_event = λ n from within.
          let one = numbered made_with k.before kept.window k.legal (n - kept.first) (omega (arith, from, within, many, k.numbered, k.counted)) in
          (one.0, Contains-permutation kept.window given one.0 back one.1, omega (arith, one.2, from, k.numbered));
      in_turn = λ first last own calls held. (
        rise first last own calls,
        All-weaker (Contains receipts) (λ r. kept.first ≤ r.number → IsPlaced made_with history r)
            (λ r is from. All-contains (IsPlaced made_with history) given r placed (contained_from kept.first receipts r from is)) own held,
        caller_is first last own calls,
      );
    }
