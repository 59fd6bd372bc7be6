-- The places of names among the entries, when the cells of one have changed.
use Rattle.std.proofs.Common.{◌≡◌, ℕ, zero, suc, ◌+◌, Bool, true, false, cond, Option, Some, None, List, [], ◌∷◌, ◌++◌, length, refl, sym, ap, ◌∙◌, subst, arith, inl, inr}
use Rattle.std.specs.Prelude.{not, slice_get}
use Rattle.std.specs.List.{position_or_len}
use Rattle.std.specs.Map.{keys_of, lookup, set_value}
use Rattle.std.proofs.lemmas.Map.{keys-set_value}
use Rattle.indexmap.specs.IndexMap.{insert_entry}
use Rattle.dns_name.specs.Labels.{Labels}
use Rattle.dns_name.specs.Order.{name_eq}
use Rattle.cell_store.specs.declared.owner.OwnerCells.{OwnerCells}
use Rattle.cell_store.specs.Store.{name_place, StayBut}

length_step : (b : Bool) (e : Labels × OwnerCells) (entries rest : List (Labels × OwnerCells)) (new : OwnerCells) → length rest ≡ length entries → length (cond b ((e.0, new) ∷ entries) (e ∷ rest)) ≡ suc (length entries)
length_step true e entries rest new same = refl
length_step false e entries rest new same = ap suc same

pub length_set : (test : Labels → Bool) (entries : List (Labels × OwnerCells)) (new : OwnerCells) → length (set_value test entries new) ≡ length entries
length_set test [] new = refl
length_set test (e ∷ entries) new = length_step (test e.0) e entries (set_value test entries new) new (length_set test entries new)

-- a step of a search for a place
step : (b : Bool) (e : Labels × OwnerCells) (entries rest : List (Labels × OwnerCells)) (new : OwnerCells) (n i : ℕ) → ((j : ℕ) → (j ≡ n → ⊥) → slice_get rest j ≡ slice_get entries j) → (i ≡ cond (not b) (1 + n) 0 → ⊥)
    → slice_get (cond b ((e.0, new) ∷ entries) (e ∷ rest)) i ≡ slice_get (e ∷ entries) i
step true e entries rest new n zero others off = absurd (off refl)
step true e entries rest new n (suc i) others off = refl
step false e entries rest new n zero others off = refl
step false e entries rest new n (suc i) others off = others i (λ same. off (omega (arith, same)))

others_set : (test : Labels → Bool) (entries : List (Labels × OwnerCells)) (new : OwnerCells) (i : ℕ) → (i ≡ position_or_len test (keys_of entries) → ⊥) → slice_get (set_value test entries new) i ≡ slice_get entries i
others_set test [] new i off = refl
others_set test (e ∷ entries) new i off = step (test e.0) e entries (set_value test entries new) new (position_or_len test (keys_of entries)) i (others_set test entries new) off

pub stays_set : (test : Labels → Bool) (name : Labels) (entries : List (Labels × OwnerCells)) (new : OwnerCells) → name_eq name ≡ test → StayBut name entries (set_value test entries new)
stays_set test name entries new is = record {
  others = λ i off. others_set test entries new i (λ same. off (same ∙ sym (ap (λ (t : Labels → Bool). position_or_len t (keys_of entries)) is)));
  size = inl (length_set test entries new);
  names = inl (keys-set_value test entries new);
}

-- ---- a new name

others_put : (name : Labels) (entries : List (Labels × OwnerCells)) (new : OwnerCells) (i : ℕ) → (i ≡ name_place name entries → ⊥) → slice_get (insert_entry name_eq entries name new) i ≡ slice_get entries i
others_put name [] new zero off = absurd (off refl)
others_put name [] new (suc i) off = refl
others_put name (e ∷ entries) new i off = step (name_eq name e.0) e entries (insert_entry name_eq entries name new) new (name_place name entries) i (others_put name entries new) off

last_step : (b : Bool) (e : Labels × OwnerCells) (entries rest : List (Labels × OwnerCells)) (found : Option OwnerCells) (new : OwnerCells) (n : ℕ) → cond b (Some e.1) found ≡ None → (found ≡ None → (n ≡ length entries) × (length rest ≡ length entries + 1))
    → (cond (not b) (1 + n) 0 ≡ length (e ∷ entries)) × (length (cond b ((e.0, new) ∷ entries) (e ∷ rest)) ≡ length (e ∷ entries) + 1)
last_step true e entries rest found new n none before = let some : Some e.1 ≡ None = none in absurd cc
last_step false e entries rest found new n none before = let was = before none in (omega (arith, was.0), omega (arith, was.1))

last_put : (name : Labels) (entries : List (Labels × OwnerCells)) (new : OwnerCells) → lookup (name_eq name) entries ≡ None
    → (name_place name entries ≡ length entries) × (length (insert_entry name_eq entries name new) ≡ length entries + 1)
last_put name [] new none = (refl, refl)
last_put name (e ∷ entries) new none =
    last_step (name_eq name e.0) e entries (insert_entry name_eq entries name new) (lookup (name_eq name) entries) new (name_place name entries) none (last_put name entries new)

keys_step : (b : Bool) (name : Labels) (e : Labels × OwnerCells) (entries rest : List (Labels × OwnerCells)) (found : Option OwnerCells) (new : OwnerCells) → cond b (Some e.1) found ≡ None → (found ≡ None → keys_of rest ≡ keys_of entries ++ name ∷ [])
    → keys_of (cond b ((e.0, new) ∷ entries) (e ∷ rest)) ≡ e.0 ∷ (keys_of entries ++ name ∷ [])
keys_step true name e entries rest found new none before = let some : Some e.1 ≡ None = none in absurd cc
keys_step false name e entries rest found new none before = ap (λ (l : List Labels). e.0 ∷ l) (before none)

keys_put : (name : Labels) (entries : List (Labels × OwnerCells)) (new : OwnerCells) → lookup (name_eq name) entries ≡ None → keys_of (insert_entry name_eq entries name new) ≡ keys_of entries ++ name ∷ []
keys_put name [] new none = refl
keys_put name (e ∷ entries) new none = keys_step (name_eq name e.0) name e entries (insert_entry name_eq entries name new) (lookup (name_eq name) entries) new none (keys_put name entries new)

pub stays_put : (name : Labels) (old : List (Labels × OwnerCells)) (cells : OwnerCells) → lookup (name_eq name) old ≡ None → (new : List (Labels × OwnerCells)) → new ≡ insert_entry name_eq old name cells → StayBut name old new
stays_put name old cells none new is = subst (λ (l : List (Labels × OwnerCells)). StayBut name old l) (sym is) (record { others = others_put name old cells; size = inr (last_put name old cells none); names = inr (keys_put name old cells none) })
