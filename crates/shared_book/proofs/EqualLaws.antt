-- What `==` calls equal is one receipt, and each receipt is equal to itself.
use Rattle.std.proofs.Common.{◌≡◌, ℕ, true, eqb, eq-eqb, refl}
use Rattle.std.proofs.lemmas.Bool.{and_parts, eqb-true}
use Rattle.std.specs.Cmp.Derive.{both_true}
use Rattle.history.specs.EqualLaws.{event_eq_exact, event_eq_itself, reply_eq_exact, reply_eq_itself}
use Rattle.shared_book.specs.declared.receipt.Receipt.{Receipt}
use Rattle.shared_book.specs.Equal.{receipt_eq}

pub receipt_eq_exact : (a b : Receipt) → receipt_eq a b ≡ true → a ≡ b
receipt_eq_exact a b e =
    let p = and_parts _ _ e in
    let q = and_parts _ _ p.1 in
    let r = and_parts _ _ q.1 in
    let x : a.number ≡ b.number = eqb-true a.number b.number p.0 in
    let y : a.caller ≡ b.caller = eqb-true a.caller b.caller q.0 in
    let z : a.event ≡ b.event = event_eq_exact a.event b.event r.0 in
    let w : a.reply ≡ b.reply = reply_eq_exact a.reply b.reply r.1 in
    λ i. record { number = x i; caller = y i; event = z i; reply = w i }

same : (n : ℕ) → eqb n n ≡ true
same n = eq-eqb n n refl

pub receipt_eq_itself : (a : Receipt) → receipt_eq a a ≡ true
receipt_eq_itself a = both_true (same a.number) (both_true (same a.caller) (both_true (event_eq_itself a.event) (reply_eq_itself a.reply)))
