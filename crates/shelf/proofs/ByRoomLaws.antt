-- What the room decides of an admission.
use Rattle.std.proofs.Common.{◌≡◌, ℕ, ◌≤◌, Bool, true, false, List, refl, sym, ap, ◌∙◌, subst}
use Rattle.std.specs.Prelude.{Result, Ok, Err, IfErr, IsOk, IsErrOf, ◌||◌, ◌&&◌, not}
use Rattle.std.proofs.lemmas.Bool.{false≢true}
use Rattle.indexmap.specs.IndexMap.{IndexMap}
use Rattle.dns_name.specs.Labels.{Labels}
use Rattle.ranked.specs.declared.find.Find.{Find}
use Rattle.cell_store.specs.declared.owner.OwnerCells.{OwnerCells}
use Rattle.cell_store.specs.Count.{has_pair, has_place_for, pair_eq, pair_of, AddPair, KeepPairs}
use Rattle.shelf.specs.declared.shelf.Shelf.{Shelf}
use Rattle.shelf.specs.declared.fault.StoreFault.{StoreFault}
use Rattle.shelf.specs.declared.fault.StoreFault.TheVariants.{Full, NoMemory}
use Rattle.shelf.specs.Room.{is_wanted, needs_place}
use Rattle.shelf.specs.Told.{Told, IsShelf}
use Rattle.shelf.specs.Stored.{count_pairs, pairs_in, HasAdmittedEach, IsByRoom}
use Rattle.shelf.proofs.AboutLaws.{placed_face, placed_replay}
use Rattle.cell_store.specs.TestLaws.{or_right}

-- all places are those that they were
pub same_pairs : (shelf : Shelf) (find : Find) → AddPair (pair_of find) shelf.owners shelf.owners
same_pairs shelf find pair has = or_right (pair_eq (pair_of find) pair) (has_pair shelf.owners pair) has

pub owners_pairs : {S : Type 0} (old new : IndexMap Labels OwnerCells S) → new ≡ old → KeepPairs old new
owners_pairs old new same pair has = ap (λ (m : IndexMap Labels OwnerCells _). has_pair m pair) (sym same) ∙ has

no_error : {T : Type 0} (result : Result T StoreFault) (fault : StoreFault) → IsOk result → IsErrOf result fault → ⊥
no_error {T} result fault is of = false≢true (subst (λ (r : Result T StoreFault). IsOk r) of is)

-- an admission that succeeds
pub by_room_ok : {T : Type 0} (shelf : Shelf) (find : Find) (moment : ℕ) (result : Result T StoreFault) (x : T) → result ≡ Ok x → (shelf.stored ≡ shelf.limit → needs_place shelf find moment ≡ true → ⊥) → IsByRoom shelf find moment result
by_room_ok {T} shelf find moment result x is room =
    let ok : IsOk result = subst (λ (r : Result T StoreFault). IsOk r) (sym is) refl in
    record {
      full = λ h. absurd (room h.0 h.1);
      unneeded = λ h. ok;
      counted = λ h. ok;
      alive = λ h. ok;
      replayed = λ told of h. ok;
      many = λ told each n of. absurd (no_error result (Full n) ok of);
    }

-- a full one
no_place : (h w : Bool) → (not h && w) ≡ true → h ≡ true → ⊥
no_place true w is has = false≢true is
no_place false w is has = false≢true has

pub by_room_full : {T : Type 0} (shelf : Shelf) → IsShelf shelf → (find : Find) (moment : ℕ) (result : Result T StoreFault) (n : ℕ) → result ≡ Err (Full n) → n ≡ shelf.stored → (shelf.stored ≡ shelf.limit) × (needs_place shelf find moment ≡ true)
    → ((told : List Told) → HasAdmittedEach told shelf → shelf.limit ≤ count_pairs (pairs_in told)) → IsByRoom shelf find moment result
by_room_full {T} shelf is find moment result n failed all full many = record {
  full = λ h. failed ∙ ap (λ k. Err (Full k)) all;
  unneeded = λ h. absurd (false≢true (sym h ∙ full.1));
  counted = λ h. absurd (none h);
  alive = λ h. absurd (none (placed_face shelf is moment (pair_of find) h));
  replayed = λ told of h. absurd (none (placed_replay shelf is told of moment (pair_of find) h));
  many = λ told each n of. many told each;
}
  where
    none : has_pair shelf.owners (pair_of find) ≡ true → ⊥
    none has = no_place (has_place_for shelf.owners find) (is_wanted shelf find moment find.scope) full.1 has

-- one that needs memory only for a new place
full_not : {T : Type 0} (result : Result T StoreFault) → IfErr result (λ fault. fault ≡ NoMemory) → (n : ℕ) → IsErrOf result (Full n) → ⊥
full_not {T} result is n of = let both : Full n ≡ NoMemory = subst (λ (r : Result T StoreFault). IfErr r (λ fault. fault ≡ NoMemory)) of is in absurd cc

pub by_room_free : {T : Type 0} (shelf : Shelf) → IsShelf shelf → (find : Find) (moment : ℕ) (result : Result T StoreFault) → (shelf.stored ≡ shelf.limit → needs_place shelf find moment ≡ true → ⊥)
    → (needs_place shelf find moment ≡ false → has_place_for shelf.owners find ≡ true) → IfErr result (λ fault. fault ≡ NoMemory) → (has_place_for shelf.owners find ≡ true → IsOk result) → IsByRoom shelf find moment result
by_room_free shelf is find moment result room has fault free = record {
  full = λ h. absurd (room h.0 h.1);
  unneeded = λ h. free (has h);
  counted = free;
  alive = λ h. free (placed_face shelf is moment (pair_of find) h);
  replayed = λ told of h. free (placed_replay shelf is told of moment (pair_of find) h);
  many = λ told each n of. absurd (full_not result fault n of);
}
