-- The last find of a name does not end before the second that the last visit noted: what keeps this true.
use Rattle.std.proofs.Common.{◌≡◌, ℕ, ◌-◌, ◌<◌, ◌≤◌, Bool, true, false, cond, min, Option, Some, None, List, [], ◌∷◌, length, get_or, refl, ap, ◌∙◌, arith, ◌⊎◌, inl, inr}
use Rattle.std.specs.Prelude.{nat_lt, position, slice_get, swap_remove, IfSome}
use Rattle.std.specs.List.{position_or_len}
use Rattle.std.specs.Map.{keys_of}
use Rattle.std.specs.Option.{option_map_or}
use Rattle.std.proofs.Math.ListN.{set}
use Rattle.std.proofs.lemmas.List.{get_or-set_same, get_or-set_other, get_or_past}
use Rattle.std.proofs.lemmas.Map.Entries.{length-keys_of}
use Rattle.std.proofs.lemmas.Bool.Decides.{nat_tests}
use Rattle.indexmap.specs.IndexMap.{swap_remove_entry}
use Rattle.dns_name.specs.Labels.{Labels}
use Rattle.dns_text.specs.declared.record.Question.{Question}
use Rattle.cell_store.specs.declared.owner.OwnerCells.{OwnerCells}
use Rattle.cell_store.specs.Ends.{latest}
use Rattle.cell_store.specs.Life.{life_end}
use Rattle.cell_store.specs.Mixed.{IsLikeFirst}
use Rattle.cell_store.specs.Owner.{cell_in}
use Rattle.shelf.specs.declared.shelf.KeptFlush.{KeptFlush}
use Rattle.shelf.specs.Clean.{dropped}
use Rattle.shelf.specs.Kept.{is_version}
use Rattle.shelf.specs.First.{life_at, name_life}
use Rattle.shelf.specs.Lasts.{last_at, AreLow}
use Rattle.shelf.proofs.ListLaws.{lt_or, same_or}
use Rattle.shelf.proofs.GapLaws.{read_away, read_here, swap_away, swap_here, swap_size}
use Rattle.shelf.proofs.LifeLaws.{name_most, name_there}

-- each name is to be visited, or is as it was
abbrev pub AreStill : List (Labels × OwnerCells) → List (Labels × OwnerCells) → List ℕ → List ℕ → Type 0
AreStill old new was ends = (i : ℕ) → (get_or ends i 0 ≡ 0) ⊎ ((slice_get new i ≡ slice_get old i) × (get_or ends i 0 ≡ get_or was i 0))

pub life_like : (kept : List KeptFlush) (old new : List (Labels × OwnerCells)) (i j : ℕ) → slice_get new i ≡ slice_get old j → life_at [] kept new i ≡ life_at [] kept old j
life_like kept old new i j same = ap (λ (o : Option (Labels × OwnerCells)). option_map_or (λ e. name_life [] kept e.0 e.1) o 0) same

pub low_still : (kept : List KeptFlush) (old new : List (Labels × OwnerCells)) (was ends lasts : List ℕ) → AreStill old new was ends → AreLow kept old was lasts → AreLow kept new ends lasts
low_still kept old new was ends lasts still is i some = elim (still i) [
  | inl none ↦ absurd (omega (arith, some, none))
  | inr same ↦ omega (arith, is i (omega (arith, some, same.1)), life_like kept old new i i same.0)
]

pub low_lasts : (kept : List KeptFlush) (entries : List (Labels × OwnerCells)) (moments lasts more : List ℕ) → ((i : ℕ) → last_at more i ≡ last_at lasts i) → AreLow kept entries moments lasts → AreLow kept entries moments more
low_lasts kept entries moments lasts more same is i some = omega (arith, same i, is i some)

-- ---- other kept flushes

life_kept : (kept more : List KeptFlush) → ((q : Question) (v : ℕ) → is_version kept q v ≡ true → is_version more q v ≡ true) → (o : Option (Labels × OwnerCells))
    → option_map_or (λ e. name_life [] kept e.0 e.1) o 0 ≤ option_map_or (λ e. name_life [] more e.0 e.1) o 0
life_kept kept more step None = omega arith
life_kept kept more step (Some e) =
    let own = name_there [] kept e.0 e.1 in
    let k = own.0 in
    let v = own.1.0 in
    omega (arith, own.1.1.1, name_most [] more e.0 e.1 k v (step (record { owner = e.0; kind = k }) v own.1.1.0))

pub low_kept : (kept more : List KeptFlush) → ((q : Question) (v : ℕ) → is_version kept q v ≡ true → is_version more q v ≡ true) → (entries : List (Labels × OwnerCells)) (moments lasts : List ℕ)
    → AreLow kept entries moments lasts → AreLow more entries moments lasts
low_kept kept more step entries moments lasts is i some = omega (arith, is i some, life_kept kept more step (slice_get entries i))

-- the columns of a name hold nothing but what version 0 has
life_first : (kept : List KeptFlush) (name : Labels) (cells : OwnerCells) → IsLikeFirst cells → name_life [] kept name cells ≤ name_life [] [] name cells
life_first kept name cells like = split (like k v)
  where
    own : (k : ℕ) × ((v : ℕ) × ((is_version kept (record { owner = name; kind = k }) v ≡ true) × (life_end (cell_in cells k v) ≡ name_life [] kept name cells)))
    own = name_there [] kept name cells

    k : ℕ
    k = own.0

    v : ℕ
    v = own.1.0

    split : (cell_in cells k v ≡ cell_in cells k 0) ⊎ (cell_in cells k v ≡ None) → name_life [] kept name cells ≤ name_life [] [] name cells
    split (inl same) = omega (arith, own.1.1.1, ap life_end same, name_most [] [] name cells k 0 refl)
    split (inr none) = let zero : life_end (cell_in cells k v) ≡ 0 = ap life_end none in omega (arith, own.1.1.1, zero)

first_life : (kept : List KeptFlush) (o : Option (Labels × OwnerCells)) → IfSome o (λ e. IsLikeFirst e.1) → option_map_or (λ e. name_life [] kept e.0 e.1) o 0 ≤ option_map_or (λ e. name_life [] [] e.0 e.1) o 0
first_life kept None like = omega arith
first_life kept (Some e) like = life_first kept e.0 e.1 like

-- ---- the name at a place was visited

module _ (old new : List (Labels × OwnerCells)) (place last : ℕ) (others : (i : ℕ) → (i ≡ place → ⊥) → slice_get new i ≡ slice_get old i) where
  low_set : (kept : List KeptFlush) (moments lasts : List ℕ) (end : ℕ) → place < length moments → place < length lasts → (0 < end → last ≤ life_at [] kept new place) → AreLow kept old moments lasts
      → AreLow kept new (set moments place end) (set lasts place last)
  low_set kept moments lasts end low there next is i some = elim (same_or i place) [
    | inl here ↦
        let moment : get_or (set moments place end) i 0 ≡ end = ap (λ n. get_or (set moments place end) n 0) here ∙ get_or-set_same moments place end 0 low in
        let own : last_at (set lasts place last) i ≡ last = ap (λ n. get_or (set lasts place last) n 0) here ∙ get_or-set_same lasts place last 0 there in
        omega (arith, own, next (omega (arith, some, moment)), life_like kept new new i place (ap (slice_get new) here))
    | inr away ↦
        let moment : get_or (set moments place end) i 0 ≡ get_or moments i 0 = get_or-set_other moments place i end 0 away in
        let own : last_at (set lasts place last) i ≡ last_at lasts i = get_or-set_other lasts place i last 0 away in
        omega (arith, own, is i (omega (arith, some, moment)), life_like kept old new i i (others i away))
  ]

  pub low_put : (kept : List KeptFlush) (moments lasts : List ℕ) (end : ℕ) → place < length moments → place < length lasts → last ≡ min (life_at [] kept new place) latest → AreLow kept old moments lasts
      → AreLow kept new (set moments place end) (set lasts place last)
  low_put kept moments lasts end low there noted is = low_set kept moments lasts end low there (λ some. omega (arith, noted)) is

  pub low_put_ever : (kept : List KeptFlush) (evens lasts : List ℕ) (end : ℕ) (mixed : Bool) → place < length evens → place < length lasts → last ≡ min (life_at [] kept new place) latest
      → (mixed ≡ false → IfSome (slice_get new place) (λ e. IsLikeFirst e.1)) → AreLow [] old evens lasts → AreLow [] new (set evens place (cond mixed 0 end)) (set lasts place last)
  low_put_ever kept evens lasts end mixed low there noted alike is = low_set [] evens lasts (cond mixed 0 end) low there (split mixed alike) is
    where
      split : (b : Bool) → (b ≡ false → IfSome (slice_get new place) (λ e. IsLikeFirst e.1)) → 0 < cond b 0 end → last ≤ life_at [] [] new place
      split true alike some = absurd (omega (arith, some))
      split false alike some = omega (arith, noted, first_life kept (slice_get new place) (alike refl))

-- ---- the name at a place has gone, and the last one is in its place

pub low_swap : (kept : List KeptFlush) (old : List (Labels × OwnerCells)) (moments lasts : List ℕ) (p : ℕ) (d : Labels × OwnerCells) → length moments ≡ length old → length lasts ≡ length old → p < length old
    → ((i : ℕ) → (i ≡ p → ⊥) → 0 < get_or moments i 0 → last_at lasts i ≤ life_at [] kept old i) → AreLow kept (swap_remove old p d) (swap_remove moments p 0) (swap_remove lasts p 0)
low_swap kept old moments lasts p d size long low is i some = elim (lt_or i (length old - 1)) [
  | inl before ↦ elim (same_or i p) [
    | inl here ↦
        let there : p < length old - 1 = omega (arith, before, here) in
        let moment : get_or (swap_remove moments p 0) i 0 ≡ get_or moments (length old - 1) 0 =
        ap (λ n. get_or (swap_remove moments p 0) n 0) here ∙ (read_here moments p (omega (arith, there, size)) ∙ ap (λ n. get_or moments (n - 1) 0) size) in
        let own : last_at (swap_remove lasts p 0) i ≡ last_at lasts (length old - 1) =
        ap (λ n. get_or (swap_remove lasts p 0) n 0) here ∙ (read_here lasts p (omega (arith, there, long)) ∙ ap (λ n. get_or lasts (n - 1) 0) long) in
        let life = life_like kept old (swap_remove old p d) i (length old - 1) (ap (slice_get (swap_remove old p d)) here ∙ swap_here old p d there) in
        omega (arith, own, is (length old - 1) (λ same. omega (arith, same, there)) (omega (arith, some, moment)), life)
    | inr away ↦
        let moment : get_or (swap_remove moments p 0) i 0 ≡ get_or moments i 0 = read_away moments p i away (λ same. omega (arith, same, before, size)) in
        let own : last_at (swap_remove lasts p 0) i ≡ last_at lasts i = read_away lasts p i away (λ same. omega (arith, same, before, long)) in
        let life = life_like kept old (swap_remove old p d) i i (swap_away old p i d away (λ same. omega (arith, same, before))) in
        omega (arith, own, is i away (omega (arith, some, moment)), life)
  ]
  | inr past ↦
      let none : get_or (swap_remove moments p 0) i 0 ≡ 0 = get_or_past (swap_remove moments p 0) i 0 (omega (arith, past, size, swap_size moments p 0)) in
      absurd (omega (arith, some, none))
]

pub low_dropped : (kept : List KeptFlush) (test : Labels → Bool) (old : List (Labels × OwnerCells)) (moments lasts : List ℕ) → length moments ≡ length old → length lasts ≡ length old → AreLow kept old moments lasts
    → AreLow kept (swap_remove_entry test old) (dropped (position test (keys_of old)) moments) (dropped (position test (keys_of old)) lasts)
low_dropped kept test [] moments lasts size long is = is
low_dropped kept test (e ∷ old) moments lasts size long is = split (nat_lt place (length (keys_of (e ∷ old)))) refl
  where
    place : ℕ
    place = position_or_len test (keys_of (e ∷ old))

    split : (b : Bool) → nat_lt place (length (keys_of (e ∷ old))) ≡ b
        → AreLow kept (option_map_or (λ i. swap_remove (e ∷ old) i e) (cond b (Some place) None) (e ∷ old)) (dropped (cond b (Some place) None) moments) (dropped (cond b (Some place) None) lasts)
    split true low = low_swap kept (e ∷ old) moments lasts place e size long (grind (arith, nat_tests, length-keys_of (e ∷ old))) (λ i off some. is i some)
    split false high = is
