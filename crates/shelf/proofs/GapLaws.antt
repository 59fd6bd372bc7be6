-- The tree of the places when a name comes or goes.
use Rattle.std.proofs.Common.{◌≡◌, ℕ, zero, suc, ◌+◌, ◌-◌, ◌/◌, ◌<◌, ◌≤◌, Bool, Option, Some, None, List, [], ◌∷◌, ◌++◌, length, take, get_or, refl, sym, ap, ◌∙◌, subst, arith, ◌⊎◌, inl, inr}
use Rattle.std.specs.Prelude.{position, slice_get, swap_remove}
use Rattle.std.specs.Option.{option_map_or}
use Rattle.std.specs.Map.{keys_of}
use Rattle.std.proofs.Math.ListN.{set, length-set, length-append}
use Rattle.std.proofs.lemmas.List.{get_or-set_same, get_or-set_other, get_or_past, get_or-take, length-take-le}
use Rattle.std.proofs.lemmas.Map.Entries.{length-keys_of}
use Rattle.std.proofs.lemmas.Option.{slice_get_past}
use Rattle.indexmap.specs.IndexMap.{swap_remove_entry}
use Rattle.dns_name.specs.Labels.{Labels}
use Rattle.cell_store.specs.declared.owner.OwnerCells.{OwnerCells}
use Rattle.cell_store.specs.Store.{StayBut}
use Rattle.winner_tree.specs.Tree.{IsBelow}
use Rattle.shelf.specs.First.{name_at}
use Rattle.shelf.specs.declared.lasts.Lasts.{Lasts}
use Rattle.shelf.specs.Lasts.{winner_at, AreFirstBut, AreFirstButGone, AreMended, AreRight, AreWinners, AreWithin, IsRight, IsUnder, Leads}
use Rattle.shelf.proofs.ListLaws.{get_set_other, get_set_same, get_some, get_take, lt_or, same_or}
use Rattle.shelf.proofs.WinnerLaws.{leads_like, leads_under, name_key, right_like, winners_named, IsLike, IsNear}

-- ---- a name comes

read_more : {X : Type 0} (xs : List X) (x d : X) (a : ℕ) → (a ≡ length xs → ⊥) → get_or (xs ++ x ∷ []) a d ≡ get_or xs a d
read_more [] x d zero off = absurd (off refl)
read_more [] x d (suc a) off = refl
read_more (y ∷ xs) x d zero off = refl
read_more (y ∷ xs) x d (suc a) off = read_more xs x d a (λ same. off (ap suc same))

read_last : {X : Type 0} (xs : List X) (x d : X) → get_or (xs ++ x ∷ []) (length xs) d ≡ x
read_last [] x d = refl
read_last (y ∷ xs) x d = read_last xs x d

pub within_more : (winners : List ℕ) (n : ℕ) → length winners ≡ n → AreWithin winners → AreWithin (winners ++ n ∷ [])
within_more winners n size within i there = elim (same_or i (length winners)) [
  | inl here ↦
      let at : winner_at (winners ++ n ∷ []) i ≡ i = ap (λ k. get_or (winners ++ n ∷ []) k 0) here ∙ (read_last winners n 0 ∙ (sym size ∙ sym here)) in
      subst (λ k. IsBelow i k) (sym at) (0, refl)
  | inr away ↦ subst (λ k. IsBelow i k) (sym (read_more winners n 0 i away)) (within i (omega (arith, there, away, length-append winners (n ∷ []))))
]

module _ (old new : List (Labels × OwnerCells)) (name : Labels) (names : keys_of new ≡ keys_of old ++ name ∷ []) (lasts winners : List ℕ) (n : ℕ) (own : length old ≡ n) (size : length lasts ≡ n) (nodes : length winners ≡ n) (within : AreWithin winners) where
  like_more : (a : ℕ) → (a ≡ n → ⊥) → IsLike old new lasts (lasts ++ 0 ∷ []) a
  like_more a off = (
    sym (read_more lasts 0 0 a (λ same. off (same ∙ size))),
    name_key old a ∙ (sym (read_more (keys_of old) name [] a (λ same. off (same ∙ (length-keys_of old ∙ own)))) ∙ (ap (λ (l : List Labels). get_or l a []) (sym names) ∙ sym (name_key new a))),
  )

  kept_more : (j : ℕ) → (j ≡ n → ⊥) → j < length (winners ++ n ∷ []) → (j < length winners) × (winner_at winners j ≡ winner_at (winners ++ n ∷ []) j)
  kept_more j off there = (omega (arith, there, off, nodes, length-append winners (n ∷ [])), sym (read_more winners n 0 j (λ same. off (same ∙ nodes))))

  pub right_more : (i : ℕ) → i < length (winners ++ n ∷ []) → (IsBelow i n → ⊥) → ((j : ℕ) → j < length winners → IsRight old lasts winners j) → IsRight new (lasts ++ 0 ∷ []) (winners ++ n ∷ []) i
  right_more i there off is =
      right_like old new lasts (lasts ++ 0 ∷ []) winners (winners ++ n ∷ []) i within there (λ a below. like_more a (λ same. off (subst (λ k. IsBelow i k) same below))) near (is i (kept_more i here there).0)
    where
      here : i ≡ n → ⊥
      here same = off (0, ap (λ k. k + 1) (sym same))

      near : (j : ℕ) → IsNear i j → j < length (winners ++ n ∷ []) → (j < length winners) × (winner_at winners j ≡ winner_at (winners ++ n ∷ []) j)
      near j (inl same) low = kept_more j (λ at. here (sym same ∙ at)) low
      near j (inr (inl left)) low = kept_more j (λ at. off (1, parent j at (omega (arith, left)))) low
        where
          parent : (j : ℕ) → j ≡ n → (j + 1) / 2 ≡ i + 1 → (n + 1) / 2 ≡ i + 1
          parent j at half = ap (λ k. (k + 1) / 2) (sym at) ∙ half
      near j (inr (inr right)) low = kept_more j (λ at. off (1, parent j at (omega (arith, right)))) low
        where
          parent : (j : ℕ) → j ≡ n → (j + 1) / 2 ≡ i + 1 → (n + 1) / 2 ≡ i + 1
          parent j at half = ap (λ k. (k + 1) / 2) (sym at) ∙ half

-- another place than the new one has the winner that it had, and so have the places below it
module _ (old new : List (Labels × OwnerCells)) (name : Labels) (names : keys_of new ≡ keys_of old ++ name ∷ []) (lasts : Lasts) (is : AreWinners old lasts) where
  abbrev size_of : ℕ
  size_of = length lasts.ends.items

  abbrev before : List ℕ
  before = lasts.winners.items

  read_before : (i : ℕ) → (i ≡ size_of → ⊥) → winner_at (before ++ size_of ∷ []) i ≡ winner_at before i
  read_before i off = read_more before size_of 0 i (λ same. off (same ∙ is.shape.0))

  under_before : (i j : ℕ) → IsUnder (before ++ size_of ∷ []) i j → (j ≡ size_of → ⊥) → IsUnder before i j
  under_before i j (m, (low, (below, one))) away = elim (same_or m size_of) [
    | inl here ↦
        absurd (away (elim one [
          | inl same ↦ same ∙ here
          | inr same ↦ same ∙ (ap (λ k. winner_at (before ++ size_of ∷ []) k) (here ∙ sym is.shape.0) ∙ read_last before size_of 0)
        ]))
    | inr off ↦ (
      m,
      (
        omega (arith, low, off, is.shape.0, length-append before (size_of ∷ [])),
        (
          below,
          elim one [
            | inl same ↦ inl same
            | inr same ↦ inr (same ∙ read_before m off)
          ],
        ),
      ),
    )
  ]

  pub first_more : AreFirstBut size_of new (lasts.ends.items ++ 0 ∷ []) (before ++ size_of ∷ [])
  first_more i low at off j under away = elim (same_or i size_of) [
    | inl here ↦ absurd (off (ap (λ k. winner_at (before ++ size_of ∷ []) k) (here ∙ sym is.shape.0) ∙ read_last before size_of 0))
    | inr apart ↦
        let was = read_before i apart in
        subst (λ k. Leads new (lasts.ends.items ++ 0 ∷ []) k j) (sym was)
        (leads_like old new lasts.ends.items (lasts.ends.items ++ 0 ∷ []) before before (winner_at before i) j (like (winner_at before i) (λ same. off (was ∙ same))) (like j away)
        (leads_under old lasts is i j (under_before i j under away)))
  ]
    where
      like : (a : ℕ) → (a ≡ size_of → ⊥) → IsLike old new lasts.ends.items (lasts.ends.items ++ 0 ∷ []) a
      like a off = like_more old new name names lasts.ends.items before size_of (sym is.size) refl is.shape.0 is.shape.1 a off

-- ---- a name goes: the last one moves into the gap

pub swap_size : {X : Type 0} (xs : List X) (p : ℕ) (d : X) → length (swap_remove xs p d) ≡ length xs - 1
swap_size xs p d = let v = get_or xs (length xs - 1) d in length-take-le (length xs - 1) (set xs p v) (omega (arith, length-set xs p v))

pub swap_away : {X : Type 0} (xs : List X) (p a : ℕ) (d : X) → (a ≡ p → ⊥) → (a ≡ length xs - 1 → ⊥) → slice_get (swap_remove xs p d) a ≡ slice_get xs a
swap_away xs p a d off end = elim (lt_or a (length xs - 1)) [
  | inl low ↦ get_take (length xs - 1) (set xs p (get_or xs (length xs - 1) d)) a low ∙ get_set_other xs p a (get_or xs (length xs - 1) d) off
  | inr high ↦ slice_get_past (swap_remove xs p d) a (omega (arith, high, swap_size xs p d)) ∙ sym (slice_get_past xs a (omega (arith, high, end)))
]

pub swap_here : {X : Type 0} (xs : List X) (p : ℕ) (d : X) → p < length xs - 1 → slice_get (swap_remove xs p d) p ≡ slice_get xs (length xs - 1)
swap_here xs p d low =
    get_take (length xs - 1) (set xs p (get_or xs (length xs - 1) d)) p low
    ∙ (get_set_same xs p (get_or xs (length xs - 1) d) (omega (arith, low)) ∙ sym (get_some xs (length xs - 1) d (omega (arith, low))))

pub read_away : (xs : List ℕ) (p a : ℕ) → (a ≡ p → ⊥) → (a ≡ length xs - 1 → ⊥) → get_or (swap_remove xs p 0) a 0 ≡ get_or xs a 0
read_away xs p a off end = elim (lt_or a (length xs - 1)) [
  | inl low ↦ get_or-take (length xs - 1) (set xs p (get_or xs (length xs - 1) 0)) a 0 low ∙ get_or-set_other xs p a (get_or xs (length xs - 1) 0) 0 off
  | inr high ↦ get_or_past (swap_remove xs p 0) a 0 (omega (arith, high, swap_size xs p 0)) ∙ sym (get_or_past xs a 0 (omega (arith, high, end)))
]

pub read_here : (xs : List ℕ) (p : ℕ) → p < length xs - 1 → get_or (swap_remove xs p 0) p 0 ≡ get_or xs (length xs - 1) 0
read_here xs p low = get_or-take (length xs - 1) (set xs p (get_or xs (length xs - 1) 0)) p 0 low ∙ get_or-set_same xs p (get_or xs (length xs - 1) 0) 0 (omega (arith, low))

pub within_take : (winners : List ℕ) (n : ℕ) → n ≤ length winners → AreWithin winners → AreWithin (take n winners)
within_take winners n few within i there =
    let low : i < n = omega (arith, there, length-take-le n winners few) in
    subst (λ k. IsBelow i k) (sym (get_or-take n winners i 0 low)) (within i (omega (arith, low, few)))

module _ (old new : List (Labels × OwnerCells)) (d : Labels × OwnerCells) (lasts : List ℕ) (p n : ℕ) (entries : new ≡ swap_remove old p d) (own : length old ≡ n + 1) (size : length lasts ≡ n + 1) where
  like_gone : (a : ℕ) → (a ≡ p → ⊥) → (a ≡ n → ⊥) → IsLike old new lasts (swap_remove lasts p 0) a
  like_gone a off end = (
    sym (read_away lasts p a off (λ same. end (omega (arith, same, size)))),
    sym (ap (λ (l : List (Labels × OwnerCells)). name_at l a) entries ∙ ap (λ (o : Option (Labels × OwnerCells)). option_map_or (λ e. e.0) o []) (swap_away old p a d off (λ same. end (omega (arith, same, own))))),
  )

module _ (old new : List (Labels × OwnerCells)) (d : Labels × OwnerCells) (lasts : Lasts) (p n : ℕ) (entries : new ≡ swap_remove old p d) (is : AreWinners old lasts) (last : length lasts.ends.items ≡ n + 1) where
  wide : length lasts.winners.items ≡ n + 1
  wide = is.shape.0 ∙ last

  long : length (take n lasts.winners.items) ≡ n
  long = length-take-le n lasts.winners.items (omega (arith, wide))

  read_take : (i : ℕ) → i < length (take n lasts.winners.items) → winner_at (take n lasts.winners.items) i ≡ winner_at lasts.winners.items i
  read_take i low = get_or-take n lasts.winners.items i 0 (omega (arith, low, long))

  under_take : (i j : ℕ) → IsUnder (take n lasts.winners.items) i j → IsUnder lasts.winners.items i j
  under_take i j (m, (low, (below, one))) = (
    m,
    (
      omega (arith, low, long, wide),
      (
        below,
        elim one [
          | inl same ↦ inl same
          | inr same ↦ inr (same ∙ read_take m low)
        ],
      ),
    ),
  )

  -- no place comes before a winner but the one that goes and the last one
  pub first_gone : AreFirstButGone p new (swap_remove lasts.ends.items p 0) (take n lasts.winners.items)
  first_gone i low off j under away =
      subst (λ k. Leads new (swap_remove lasts.ends.items p 0) k j) (sym (read_take i low))
      (leads_like old new lasts.ends.items (swap_remove lasts.ends.items p 0) lasts.winners.items lasts.winners.items (winner_at lasts.winners.items i) j
      (like (winner_at lasts.winners.items i) (λ same. off (inl (read_take i low ∙ same))) (λ same. off (inr (read_take i low ∙ (same ∙ sym long)))))
      (like j (λ same. away (inl same)) (λ same. away (inr (same ∙ sym long)))) (leads_under old lasts is i j (under_take i j under)))
    where
      like : (a : ℕ) → (a ≡ p → ⊥) → (a ≡ n → ⊥) → IsLike old new lasts.ends.items (swap_remove lasts.ends.items p 0) a
      like a = like_gone old new d lasts.ends.items p n entries (omega (arith, last, is.size)) last a

-- ---- a changed place

pub first_set : (entries : List (Labels × OwnerCells)) (lasts : Lasts) (place end : ℕ) → AreWinners entries lasts → AreFirstBut place entries (set lasts.ends.items place end) lasts.winners.items
first_set entries lasts place end is i low at off j under away =
    leads_like entries entries lasts.ends.items (set lasts.ends.items place end) lasts.winners.items lasts.winners.items (winner_at lasts.winners.items i) j
    (like (winner_at lasts.winners.items i) off) (like j away) (leads_under entries lasts is i j under)
  where
    like : (a : ℕ) → (a ≡ place → ⊥) → IsLike entries entries lasts.ends.items (set lasts.ends.items place end) a
    like a off = (sym (get_or-set_other lasts.ends.items place a end 0 off), refl)

-- ---- all places, once the nodes above those that have changed are mended

pub stayed : (old new : List (Labels × OwnerCells)) (name : Labels) (lasts : Lasts) → StayBut name old new → AreWinners old lasts → length new ≤ length lasts.ends.items → AreWinners new lasts
stayed old new name lasts stay is few = split stay.names
  where
    split : (keys_of new ≡ keys_of old) ⊎ (keys_of new ≡ keys_of old ++ name ∷ []) → AreWinners new lasts
    split (inl same) = winners_named old new lasts same is
    split (inr more) = absurd (omega (arith, few, is.size, length-keys_of new, length-keys_of old, ap length more, length-append (keys_of old) (name ∷ [])))

module _ (before after : Lasts) (middle seconds : List ℕ) (all : seconds ≡ after.ends.items) (size : length after.winners.items ≡ length middle) (within : AreWithin after.winners.items) where
  built : (new : List (Labels × OwnerCells)) → length after.ends.items ≡ length new → length middle ≡ length after.ends.items → ((i : ℕ) → i < length middle → IsRight new seconds after.winners.items i) → AreWinners new after
  built new own nodes right = record {
    size = own;
    shape = (size ∙ nodes, within);
    right = λ i low. subst (λ (l : List ℕ). IsRight new l after.winners.items i) all (right i (omega (arith, low, size)));
  }

  pub followed : (old new : List (Labels × OwnerCells)) (name : Labels) → StayBut name old new → AreWinners old before → length before.ends.items < length new → after.ends.items ≡ before.ends.items ++ 0 ∷ []
      → middle ≡ before.winners.items ++ length before.ends.items ∷ [] → (AreFirstBut (length before.ends.items) new seconds middle → AreMended (λ i. IsBelow i (length before.ends.items)) new seconds middle after.winners.items) → AreWinners new after
  followed old new name stay is more ends winners mended = split stay.names
    where
      n : ℕ
      n = length before.ends.items

      split : (keys_of new ≡ keys_of old) ⊎ (keys_of new ≡ keys_of old ++ name ∷ []) → AreWinners new after
      split (inl same) = absurd (omega (arith, more, is.size, length-keys_of new, length-keys_of old, ap length same))
      split (inr names) =
          let grown : length new ≡ length old + 1 = omega (arith, length-keys_of new, length-keys_of old, ap length names, length-append (keys_of old) (name ∷ [])) in
          let long : length after.ends.items ≡ length before.ends.items + 1 = omega (arith, ap length ends, length-append before.ends.items (0 ∷ [])) in
          let wide : length middle ≡ length before.winners.items + 1 = omega (arith, ap length winners, length-append before.winners.items (n ∷ [])) in
          let first : AreFirstBut n new seconds middle =
          subst (λ (l : List ℕ). AreFirstBut n new l middle) (sym (all ∙ ends))
          (subst (λ (l : List ℕ). AreFirstBut n new (before.ends.items ++ 0 ∷ []) l) (sym winners) (first_more old new name names before is)) in
          built new (omega (arith, grown, long, is.size)) (omega (arith, long, wide, is.shape.0))
          (λ i low. mended first i low (λ off.
          subst (λ (l : List ℕ). IsRight new l middle i) (sym (all ∙ ends))
          (subst (λ (l : List ℕ). IsRight new (before.ends.items ++ 0 ∷ []) l i) (sym winners)
          (right_more old new name names before.ends.items before.winners.items n (sym is.size) refl is.shape.0 is.shape.1 i (omega (arith, low, ap length winners)) off is.right))))

  pub set_right : (entries : List (Labels × OwnerCells)) (place end : ℕ) → AreWinners entries before → after.ends.items ≡ set before.ends.items place end → middle ≡ before.winners.items
      → (AreFirstBut place entries seconds middle → AreMended (λ i. IsBelow i place) entries seconds middle after.winners.items) → AreWinners entries after
  set_right entries place end is ends winners mended =
      let long : length after.ends.items ≡ length before.ends.items = ap length ends ∙ length-set before.ends.items place end in
      let first : AreFirstBut place entries seconds middle =
      subst (λ (l : List ℕ). AreFirstBut place entries l middle) (sym (all ∙ ends))
      (subst (λ (l : List ℕ). AreFirstBut place entries (set before.ends.items place end) l) (sym winners) (first_set entries before place end is)) in
      built entries (long ∙ is.size) (ap length winners ∙ (is.shape.0 ∙ sym long))
      (λ i low. mended first i low (λ off.
      subst (λ (l : List ℕ). IsRight entries l middle i) (sym (all ∙ ends))
      (subst (λ (l : List ℕ). IsRight entries (set before.ends.items place end) l i) (sym winners)
      (right_like entries entries before.ends.items (set before.ends.items place end) before.winners.items before.winners.items i is.shape.1 (omega (arith, low, ap length winners))
      (λ a below. (sym (get_or-set_other before.ends.items place a end 0 (λ same. off (subst (λ k. IsBelow i k) same below))), refl)) (λ j near there. (there, refl)) (is.right i (omega (arith, low, ap length winners)))))))

  pub swap_right : (old new : List (Labels × OwnerCells)) (d : Labels × OwnerCells) (p n : ℕ) → new ≡ swap_remove old p d → AreWinners old before → length before.ends.items ≡ n + 1 → after.ends.items ≡ swap_remove before.ends.items p 0
      → middle ≡ take n before.winners.items → (AreFirstButGone p new seconds middle → AreRight new seconds after.winners.items) → AreWinners new after
  swap_right old new d p n entries is last ends winners right =
      let short : length new ≡ n = omega (arith, ap length entries, swap_size old p d, last, is.size) in
      let long : length after.ends.items ≡ n = omega (arith, ap length ends, swap_size before.ends.items p 0, last) in
      let wide : length middle ≡ n = ap length winners ∙ length-take-le n before.winners.items (omega (arith, is.shape.0, last)) in
      let first : AreFirstButGone p new seconds middle =
      subst (λ (l : List ℕ). AreFirstButGone p new l middle) (sym (all ∙ ends))
      (subst (λ (l : List ℕ). AreFirstButGone p new (swap_remove before.ends.items p 0) l) (sym winners) (first_gone old new d before p n entries is last)) in
      built new (long ∙ sym short) (wide ∙ sym long) (λ i low. right first i (omega (arith, low, size)))

-- ---- the place of the name that goes

pub removed_some : (test : Labels → Bool) (entries : List (Labels × OwnerCells)) (p : ℕ) → Some p ≡ position test (keys_of entries) → (d : Labels × OwnerCells) × (swap_remove_entry test entries ≡ swap_remove entries p d)
removed_some test [] p is = let none : Some p ≡ None = is in absurd cc
removed_some test (e ∷ entries) p is = (e, ap (λ (o : Option ℕ). option_map_or (λ i. swap_remove (e ∷ entries) i e) o (e ∷ entries)) (sym is))

pub removed_none : (test : Labels → Bool) (entries : List (Labels × OwnerCells)) → None ≡ position test (keys_of entries) → swap_remove_entry test entries ≡ entries
removed_none test [] is = refl
removed_none test (e ∷ entries) is = ap (λ (o : Option ℕ). option_map_or (λ i. swap_remove (e ∷ entries) i e) o (e ∷ entries)) (sym is)
