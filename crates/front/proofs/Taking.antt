-- What a worker takes into rooms, one datagram after another.
use Rattle.std.proofs.Common.{◌≡◌, ◌∙◌, ◌+◌, ◌++◌, ℕ, List, [], ◌∷◌, map, take, ap, sym, refl, subst}
use Rattle.std.proofs.lemmas.List.{map-append}
use Rattle.std.specs.Prelude.{Option, Some, None, IsSomeAnd}
use Rattle.system.specs.declared.came.Came.{Came}
use Rattle.front.specs.Rooms.{Arrived, fronts_of, with_front}
use Rattle.front.specs.Moves.{AllMoved, Datagram, Moves, datagram_to}
use Rattle.front.proofs.Moving.{all_moved_then}

with_front_then : (came : Option Came) (room : List ℕ) (first second all : List Datagram) → all ≡ first ++ second → with_front came room all ≡ with_front came room first ++ second
with_front_then None room first second all is = is
with_front_then (Some came) room first second all is = ap (λ (rest : List Datagram). datagram_to came.peer (take came.count room) ∷ rest) is

-- The datagrams of two lists of rooms, in order.
fronts_then : (first second : List Arrived) → fronts_of (first ++ second) ≡ fronts_of first ++ fronts_of second
fronts_then [] second = refl
fronts_then (one ∷ first) second = with_front_then one.came one.room (fronts_of first) (fronts_of second) (fronts_of (first ++ second)) (fronts_then first second)

module _ {S : Type 0} (takes : Moves S) where
  front_moved : (came : Option Came) (room : List ℕ) (old new : S) → IsSomeAnd came (λ (c : Came). takes old c.peer (take c.count room) new) → AllMoved takes (with_front came room []) old new
  front_moved None room old new none = absurd none
  front_moved (Some came) room old new took = (new, took, refl)

module _ {X : Type 0} {S : Type 0} (takes : Moves S) (view : X → Arrived) where
  -- One datagram more was taken, into the room behind those so far.
  pub taken_on : (slots slots' : List X) (i : ℕ) (slot : X) (old mid new : S) → AllMoved takes (fronts_of (map view (take i slots))) old mid → IsSomeAnd (view slot).came (λ (c : Came). takes mid c.peer (take c.count (view slot).room) new)
      → take (i + 1) slots' ≡ take i slots ++ slot ∷ [] → AllMoved takes (fronts_of (map view (take (i + 1) slots'))) old new
  taken_on slots slots' i slot old mid new before next is =
      let list = ap (λ (xs : List X). fronts_of (map view xs)) is ∙ ap fronts_of (map-append view (take i slots) (slot ∷ [])) ∙ fronts_then (map view (take i slots)) (view slot ∷ []) in
      subst (λ (datagrams : List Datagram). AllMoved takes datagrams old new) (sym list)
      (all_moved_then takes (fronts_of (map view (take i slots))) (fronts_of (view slot ∷ [])) old mid new before (front_moved takes (view slot).came (view slot).room mid new next))
