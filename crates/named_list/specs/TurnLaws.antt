-- What a way back puts in or takes out, by the lengths of both lists: lemmas for the crates above.
use Rattle.std.proofs.Common.{◌≡◌, ℕ, zero, suc, ◌<◌, ◌≤◌, Bool, true, false, not, ◌||◌, cond, List, [], ◌∷◌, ◌++◌, length, map, insert, remove, slice_set, refl, ap, sym, subst, ◌∙◌, inl, inr, arith, length-append}
use Rattle.std.specs.Prelude.{nat_lt, Result, Ok, Err, OnOk}
use Rattle.std.proofs.lemmas.Bool.{cases_Bool, false≢true}
use Rattle.std.proofs.lemmas.Bool.Decides.{nat_tests}
use Rattle.std.proofs.lemmas.List.{length-map}
use Rattle.std.proofs.lemmas.List.Edits.{length-insert, length-remove}
use Rattle.dns_name.specs.Labels.{Labels}
use Rattle.dns_name.specs.Order.{name_eq}
use Rattle.named_list.specs.Named.{has_named, put_over, list_with, list_without}
use Rattle.named_list.specs.Turn.{other_of, puts_in, takes_out, HasPlace, IsWayBack}
use Rattle.named_list.specs.declared.turn.Turn.{Turn}
use Rattle.named_list.specs.declared.turn.Turn.TheVariants.{Nothing, Other, Without, With}

less : (a b : ℕ) → a < b → nat_lt a b ≡ true
less a b h = grind (arith, nat_tests)

not_less : (a b : ℕ) → b ≤ a → nat_lt a b ≡ false
not_less a b h = grind (arith, nat_tests)

length_set : {X : Type 0} (xs : List X) (i : ℕ) (x : X) → length (slice_set xs i x) ≡ length xs
length_set [] zero x = refl
length_set [] (suc i) x = refl
length_set (y ∷ xs) zero x = refl
length_set (y ∷ xs) (suc i) x = ap suc (length_set xs i x)

-- It puts a thing in if the list before was longer.
pub puts_longer : {T : Type 0} (name_of : T → Labels) (turn : Turn T) (left before : List T) → IsWayBack name_of turn left before → puts_in turn ≡ nat_lt (length left) (length before)
puts_longer {T} name_of Nothing left before way = sym (not_less (length left) (length before) (omega (arith, ap length way.1)))
puts_longer {T} name_of (Other place thing) left before way = sym (not_less (length left) (length before) (omega (arith, ap length way.1, length_set left place thing)))
puts_longer {T} name_of (Without place) left before way = sym (not_less (length left) (length before) (omega (arith, ap length way.1, length-remove left place way.0)))
puts_longer {T} name_of (With place thing) left before way = sym (less (length left) (length before) (omega (arith, ap length way.1, length-insert left place thing way.0)))

-- It takes one out if the list before was shorter.
pub takes_shorter : {T : Type 0} (name_of : T → Labels) (turn : Turn T) (left before : List T) → IsWayBack name_of turn left before → takes_out turn ≡ nat_lt (length before) (length left)
takes_shorter {T} name_of Nothing left before way = sym (not_less (length before) (length left) (omega (arith, ap length way.1)))
takes_shorter {T} name_of (Other place thing) left before way = sym (not_less (length before) (length left) (omega (arith, ap length way.1, length_set left place thing)))
takes_shorter {T} name_of (Without place) left before way = sym (less (length before) (length left) (omega (arith, ap length way.1, length-remove left place way.0)))
takes_shorter {T} name_of (With place thing) left before way = sym (not_less (length before) (length left) (omega (arith, ap length way.1, length-insert left place thing way.0)))

-- The way there puts in what the way back takes out.
pub puts_taken : {T : Type 0} (name_of : T → Labels) (turn again : Turn T) (left before : List T) → IsWayBack name_of turn left before → IsWayBack name_of again before left → puts_in again ≡ takes_out turn
puts_taken {T} name_of turn again left before way there = puts_longer name_of again before left there ∙ sym (takes_shorter name_of turn left before way)

pub takes_put : {T : Type 0} (name_of : T → Labels) (turn again : Turn T) (left before : List T) → IsWayBack name_of turn left before → IsWayBack name_of again before left → takes_out again ≡ puts_in turn
takes_put {T} name_of turn again left before way there = takes_shorter name_of again before left there ∙ sym (puts_longer name_of turn left before way)

-- If the list before was no longer, the way back puts nothing in.
pub puts_nothing : {T : Type 0} (name_of : T → Labels) (turn : Turn T) (left before : List T) → IsWayBack name_of turn left before → length before ≤ length left → puts_in turn ≡ false
puts_nothing {T} name_of turn left before way few = puts_longer name_of turn left before way ∙ not_less (length left) (length before) few

-- A step and the way back that it leaves: what one puts in, the other takes out.
pub turned : {T X E : Type 0} (name_of : T → Labels) (result : Result X E) (turn again : Turn T) (now new : List T) → HasPlace name_of turn now
    → OnOk result (new ≡ other_of turn now) → OnOk result (IsWayBack name_of again new now) → OnOk result ((puts_in again ≡ takes_out turn) × (takes_out again ≡ puts_in turn))
turned {T} name_of (Ok x) turn again now new fits is way =
    let there = subst (λ (things : List T). IsWayBack name_of again things now) is way in
    (puts_taken name_of turn again now (other_of turn now) (fits, refl) there, takes_put name_of turn again now (other_of turn now) (fits, refl) there)
turned {T} name_of (Err e) turn again now new fits is way = tt

length_with : {T : Type 0} (name_of : T → Labels) (new : T) (things : List T) → length things ≤ length (list_with name_of new things)
length_with {T} name_of new things =
    elim (cases_Bool (has_named name_of things (name_of new))) [
      | inl has ↦ rw has (omega (arith, length-map things (put_over name_of new)))
      | inr none ↦ rw none (omega (arith, length-append things (new ∷ [])))
    ]

-- To take back that a thing was put puts nothing in.
pub puts_none_with : {T : Type 0} (name_of : T → Labels) (new : T) (turn : Turn T) (left before : List T) → left ≡ list_with name_of new before → IsWayBack name_of turn left before → puts_in turn ≡ false
puts_none_with {T} name_of new turn left before is way = puts_nothing name_of turn left before way (omega (arith, ap length is, length_with name_of new before))

length_without : {T : Type 0} (name_of : T → Labels) (name : Labels) (things : List T) → has_named name_of things name ≡ false → length (list_without name_of name things) ≡ length things
length_without {T} name_of name [] none = refl
length_without {T} name_of name (s ∷ things) none = by (name_eq (name_of s) name) refl none (length_without name_of name things)
  where
    by : (b : Bool) → name_eq (name_of s) name ≡ b → (b || has_named name_of things name) ≡ false → (has_named name_of things name ≡ false → length (list_without name_of name things) ≡ length things)
        → length (cond (not b) (s ∷ list_without name_of name things) (list_without name_of name things)) ≡ suc (length things)
    by true e none more = absurd (false≢true (sym none))
    by false e none more = ap suc (more none)

-- To take back that a name was taken out puts nothing in, if no thing had it.
pub puts_none_without : {T : Type 0} (name_of : T → Labels) (name : Labels) (turn : Turn T) (left before : List T) → left ≡ list_without name_of name before → has_named name_of before name ≡ false → IsWayBack name_of turn left before → puts_in turn ≡ false
puts_none_without {T} name_of name turn left before is none way = puts_nothing name_of turn left before way (omega (arith, ap length is, length_without name_of name before none))
