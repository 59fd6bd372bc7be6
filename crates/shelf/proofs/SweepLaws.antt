-- The cells of a name after a sweep, type after type.
use Rattle.std.proofs.Common.{◌≡◌, ℕ, zero, suc, ◌+◌, ◌<◌, ◌≤◌, Bool, true, false, cond, Option, Some, None, List, [], ◌∷◌, ◌++◌, length, get_or, map, refl, sym, ap, ◌∙◌, subst, arith, ◌⊎◌, inl, inr}
use Rattle.std.specs.Prelude.{fold, ◌==◌, ◌&&◌, ◌||◌, is_some, IfSome}
use Rattle.std.specs.List.{list_any}
use Rattle.std.specs.Option.{option_map_or}
use Rattle.std.proofs.lemmas.Bool.{cases_Bool, eq-eqb, eqb-true, false≢true}
use Rattle.std.proofs.lemmas.List.Folds.{list_any-append}
use Rattle.std.proofs.Math.Bool.{or-false}
use Rattle.indexmap.specs.IndexMap.{IndexMap, get}
use Rattle.dns_name.specs.Labels.{Labels}
use Rattle.dns_name.specs.Order.{name_eq, name_eq_exact}
use Rattle.dns_text.specs.declared.record.Question.{Question}
use Rattle.ranked.specs.declared.find.Find.{Find}
use Rattle.ranked.specs.declared.find.Scope.{Scope}
use Rattle.ranked.specs.declared.find.Scope.TheVariants.{One}
use Rattle.ranked.specs.declared.cell.Admitted.{Admitted}
use Rattle.ranked.specs.Find.{touches}
use Rattle.cell_store.specs.declared.owner.KindColumn.{KindColumn}
use Rattle.cell_store.specs.declared.owner.WholeFind.{WholeFind}
use Rattle.cell_store.specs.declared.owner.OwnerCells.{OwnerCells}
use Rattle.cell_store.specs.Column.{Cells, is_counted}
use Rattle.cell_store.specs.Owner.{cell_in, column_of, column_held, CanSettle, IsUpTo, KeepsUpTo}
use Rattle.cell_store.specs.Store.{cell_of, cell_by_owner, AreAbout, AreLeft, AreSameCells, AreUpTo, CanSettleAt, GainNothing}
use Rattle.cell_store.specs.Count.{has_pair, has_place, HasSameContent, IsTidy, KeepPairs, LosesFinds, LosesFindsOf}
use Rattle.cell_store.specs.Prune.{is_asked}
use Rattle.cell_store.specs.Sweep.{alive_at, is_dead, whole_swept, IsSeenAlive, KeepsAlive}
use Rattle.cell_store.specs.Walk.{IsEach, IsEntry, IsFound}
use Rattle.cell_store.specs.WalkLaws.{found_each}
use Rattle.shelf.specs.declared.shelf.KeptFlush.{KeptFlush}
use Rattle.ranked.specs.Flush.{covers}
use Rattle.shelf.specs.Told.{is_kept, is_version}
use Rattle.shelf.specs.Sweep.{number_more, numbers_of, AreLessened, IsAlive, IsLessened, IsSwept}
use Rattle.cell_store.specs.TestLaws.{and_false, and_true}

-- ---- the versions that are asked for are those of the question

or_assoc : (a b c : Bool) → ((a || b) || c) ≡ (a || (b || c))
or_assoc true b c = refl
or_assoc false b c = refl

any_numbers : (q : Question) (v : ℕ) (kept : List KeptFlush) (done : List ℕ) → list_any (λ n. n == v) (fold (number_more q) done kept) ≡ (list_any (λ n. n == v) done || is_kept kept q v)
any_numbers q v [] done = sym (or-false (list_any (λ n. n == v) done))
any_numbers q v (x ∷ kept) done = any_numbers q v kept (number_more q done x) ∙ split (covers x.flush q) refl
  where
    split : (b : Bool) → covers x.flush q ≡ b → (list_any (λ n. n == v) (cond (covers x.flush q) (done ++ x.number ∷ []) done) || is_kept kept q v) ≡ (list_any (λ n. n == v) done || ((x.number == v && covers x.flush q) || is_kept kept q v))
    split true is =
        ap (λ b. list_any (λ n. n == v) (cond b (done ++ x.number ∷ []) done) || is_kept kept q v) is
        ∙ (ap (λ b. b || is_kept kept q v) (list_any-append (λ n. n == v) done (x.number ∷ []) ∙ ap (λ b. list_any (λ n. n == v) done || b) (or-false (x.number == v)))
        ∙ (or_assoc (list_any (λ n. n == v) done) (x.number == v) (is_kept kept q v)
        ∙ sym (ap (λ b. list_any (λ n. n == v) done || (b || is_kept kept q v)) (ap (λ b. x.number == v && b) is ∙ and_true (x.number == v)))))
    split false is =
        ap (λ b. list_any (λ n. n == v) (cond b (done ++ x.number ∷ []) done) || is_kept kept q v) is
        ∙ sym (ap (λ b. list_any (λ n. n == v) done || (b || is_kept kept q v)) (ap (λ b. x.number == v && b) is ∙ and_false (x.number == v)))

pub asked_version : (kept : List KeptFlush) (q : Question) (v : ℕ) → is_asked (numbers_of kept q) v ≡ is_version kept q v
asked_version kept q v = ap (λ b. v == 0 || b) (any_numbers q v kept [])

-- ---- type after type

pub lost_twice : (old cur new : OwnerCells) → LosesFinds old cur → LosesFinds cur new → LosesFinds old new
lost_twice old cur new first then = record {
  gains = record {
    upto = λ top is. then.gains.upto top (first.gains.upto top is);
    settles = λ n k is. then.gains.settles n k (first.gains.settles n k is);
    count = omega (arith, first.gains.count, then.gains.count);
    places = λ scope has. first.gains.places scope (then.gains.places scope has);
  };
  cells = λ k v. elim (then.cells k v) [
    | inl same ↦ elim (first.cells k v) [ inl was ↦ inl (same ∙ was) | inr none ↦ inr (same ∙ none) ]
    | inr none ↦ inr none
  ];
}

pub record IsSweptTo (kept : List KeptFlush) (t : ℕ) (name : Labels) (place : ℕ) (old new : OwnerCells) : Type 0 where
  pub cells : (k v : ℕ) → is_version kept (record { owner = name; kind = k }) v ≡ true → alive_at t (cell_in new k v) ≡ alive_at t (cell_in old k v)
  pub alive : (i : ℕ) (d : KindColumn) → i < place → i < length new.kinds.items → has_place new (One (get_or new.kinds.items i d).kind) ≡ true → IsAlive kept name t new (get_or new.kinds.items i d).kind
  pub whole : new.whole ≡ whole_swept t old.whole
  pub lost : LosesFinds old new

kind_of : KindColumn → ℕ
kind_of own = own.kind

same_size : (xs ys : List KindColumn) → map (λ (own : KindColumn). own.kind) xs ≡ map (λ (own : KindColumn). own.kind) ys → length xs ≡ length ys
same_size xs ys is = sym (size xs) ∙ (ap length is ∙ size ys)
  where
    size : (l : List KindColumn) → length (map (λ (own : KindColumn). own.kind) l) ≡ length l
    size [] = refl
    size (x ∷ l) = ap suc (size l)

read_kind : (xs : List KindColumn) (i : ℕ) (d : KindColumn) → get_or (map (λ (own : KindColumn). own.kind) xs) i d.kind ≡ (get_or xs i d).kind
read_kind [] i d = refl
read_kind (x ∷ xs) zero d = refl
read_kind (x ∷ xs) (suc i) d = read_kind xs i d

same_kind : (xs ys : List KindColumn) (i : ℕ) (d : KindColumn) → map (λ (own : KindColumn). own.kind) xs ≡ map (λ (own : KindColumn). own.kind) ys → (get_or xs i d).kind ≡ (get_or ys i d).kind
same_kind xs ys i d is = sym (read_kind xs i d) ∙ (ap (λ (l : List ℕ). get_or l i d.kind) is ∙ read_kind ys i d)

pub swept_more : (kept : List KeptFlush) (t : ℕ) (name : Labels) (place : ℕ) (old cur new : OwnerCells) (kind : ℕ) (numbers : List ℕ) → IsSweptTo kept t name place old cur
    → ((d : KindColumn) → kind ≡ (get_or cur.kinds.items place d).kind) → numbers ≡ numbers_of kept (record { owner = name; kind = kind })
    → KeepsAlive kind numbers t cur new → IsSeenAlive kind numbers t new → LosesFindsOf kind cur new → IsSweptTo kept t name (place + 1) old new
swept_more kept t name place old cur new kind numbers is here asked cells seen lost = record {
  cells = λ k v there. cells k v (λ same. version k v same there) ∙ is.cells k v there;
  alive = λ i d low few has. one i d low few (get_or new.kinds.items i d).kind refl has;
  whole = lost.whole ∙ is.whole;
  lost = lost_twice old cur new is.lost lost.lost;
}
  where
    version : (k v : ℕ) → (kind == k) ≡ true → is_version kept (record { owner = name; kind = k }) v ≡ true → is_asked numbers v ≡ true
    version k v same there =
        ap (λ (l : List ℕ). is_asked l v) asked ∙ (asked_version kept (record { owner = name; kind = kind }) v ∙ (ap (λ n. is_version kept (record { owner = name; kind = n }) v) (eqb-true kind k same) ∙ there))

    one : (i : ℕ) (d : KindColumn) → i < place + 1 → i < length new.kinds.items → (k : ℕ) → (get_or new.kinds.items i d).kind ≡ k → has_place new (One k) ≡ true → IsAlive kept name t new k
    one i d low few k at has = elim (cases_Bool (kind == k)) [
      | inl same ↦
          let e : kind ≡ k = eqb-true kind k same in
          let there = seen (ap (λ n. has_place new (One n)) e ∙ has) in
          subst (λ n. IsAlive kept name t new n) e (there.0, (sym (asked_version kept (record { owner = name; kind = kind }) there.0) ∙ (ap (λ (l : List ℕ). is_asked l there.0) (sym asked) ∙ there.1.0), there.1.1))
      | inr apart ↦
          let was : (get_or cur.kinds.items i d).kind ≡ k = sym (same_kind new.kinds.items cur.kinds.items i d lost.kinds) ∙ at in
          let column = lost.others k apart in
          let size : length new.kinds.items ≡ length cur.kinds.items = same_size new.kinds.items cur.kinds.items lost.kinds in
          let had : has_place cur (One k) ≡ true = ap (λ (o : Option Cells). option_map_or is_counted o false) (sym column) ∙ has in
          let before : i < place = elim (under i place low) [ inl less ↦ less | inr last ↦ absurd (false≢true (sym apart ∙ eq-eqb kind k (here d ∙ (ap (λ n. (get_or cur.kinds.items n d).kind) (sym last) ∙ was)))) ] in
          let rest : IsAlive kept name t cur k = subst (λ n. has_place cur (One n) ≡ true → IsAlive kept name t cur n) was (is.alive i d before (omega (arith, size, few))) had in
          (rest.0, (rest.1.0, ap (λ (w : Option WholeFind). is_some (alive_at t (column_held w (column_of new.kinds.items k) rest.0))) lost.whole ∙ (ap (λ (o : Option Cells). is_some (alive_at t (column_held cur.whole o rest.0))) column ∙ rest.1.1)))
    ]
      where
        under : (a b : ℕ) → a < b + 1 → (a < b) ⊎ (a ≡ b)
        under a b less = grind arith

kind_found : (kinds : List KindColumn) (k : ℕ) → option_map_or is_counted (column_of kinds k) false ≡ true → (i : ℕ) × ((i < length kinds) × ((d : KindColumn) → (get_or kinds i d).kind ≡ k))
kind_found [] k has = absurd (false≢true has)
kind_found (x ∷ kinds) k has = elim (cases_Bool (x.kind == k)) [
  | inl here ↦ (0, (omega arith, λ d. eqb-true x.kind k here))
  | inr gone ↦
      let rest = kind_found kinds k (ap (λ b. option_map_or is_counted (cond b (Some x.column) (column_of kinds k)) false) (sym gone) ∙ has) in
      (suc rest.0, (omega (arith, rest.1.0), λ d. rest.1.1 d))
]

-- and then the columns without a find go
pub swept_all : (kept : List KeptFlush) (t : ℕ) (name : Labels) (place : ℕ) (old cur new : OwnerCells) (d : KindColumn) → IsSweptTo kept t name place old cur → length cur.kinds.items ≤ place
    → HasSameContent cur new → KeepsUpTo cur new → new.whole ≡ cur.whole → IsTidy new → IsSwept kept t name old new
swept_all kept t name place old cur new d is high same upto whole tidy = record {
  cells = λ k v there. ap (alive_at t) (same.cells k v) ∙ is.cells k v there;
  alive = λ k has.
      let had : has_place cur (One k) ≡ true = sym (same.places.places (One k)) ∙ has in
      let at = kind_found cur.kinds.items k had in
      let rest : IsAlive kept name t cur k = subst (λ n. has_place cur (One n) ≡ true → IsAlive kept name t cur n) (at.1.1 d) (is.alive at.0 d (omega (arith, at.1.0, high)) at.1.0) had in
      (rest.0, (rest.1.0, ap (λ (h : Option (Admitted Find)). is_some (alive_at t h)) (same.cells k rest.0) ∙ rest.1.1));
  whole = whole ∙ is.whole;
  lost = lost_twice old cur new is.lost (record {
    gains = record { upto = upto; settles = same.settles; count = omega (arith, same.places.count); places = λ scope has. sym (same.places.places scope) ∙ has };
    cells = λ k v. inl (same.cells k v);
  });
  tidy = tidy;
}

pub not_dead : (t : ℕ) (whole : Option WholeFind) → is_dead t (whole_swept t whole) ≡ false
not_dead t whole = elim (cases_Bool (is_dead t whole)) [
  | inl dead ↦ ap (λ b. is_dead t (cond b None whole)) dead
  | inr lives ↦ ap (λ b. is_dead t (cond b None whole)) lives ∙ lives
]

-- ---- all names

module _ {S : Type 0} (kept : List KeptFlush) (t : ℕ) (old new : IndexMap Labels OwnerCells S) (each : IsEach (IsEntry (IsLessened kept t)) old.entries new.entries) where
  found : (name : Labels) → IsFound (name_eq name) (IsLessened kept t) (get name_eq old name) (get name_eq new name)
  found name = found_each (IsLessened kept t) (name_eq name) old.entries new.entries each

  swept_cells : (q : Question) (v : ℕ) → is_version kept q v ≡ true → (o n : Option OwnerCells) → IsFound (name_eq q.owner) (IsLessened kept t) o n → alive_at t (cell_by_owner n q.kind v) ≡ alive_at t (cell_by_owner o q.kind v)
  swept_cells q v there None None is = refl
  swept_cells q v there None (Some n) is = absurd is
  swept_cells q v there (Some o) None is = absurd is
  swept_cells q v there (Some o) (Some n) is =
      let name : q.owner ≡ is.0 = name_eq_exact q.owner is.0 is.1.0 in
      is.1.1.cells q.kind v (ap (λ (m : Labels). is_version kept (record { owner = m; kind = q.kind }) v) (sym name) ∙ there)

  pub swept_cell : (q : Question) (v : ℕ) → is_version kept q v ≡ true → alive_at t (cell_of new q v) ≡ alive_at t (cell_of old q v)
  swept_cell q v there = swept_cells q v there (get name_eq old q.owner) (get name_eq new q.owner) (found q.owner)

  each_of : (P : OwnerCells → Type 0) (name : Labels) → ((o n : OwnerCells) → IsLessened kept t name o n → P o → P n) → (o n : Option OwnerCells) → IsFound (name_eq name) (IsLessened kept t) o n → IfSome o P → IfSome n P
  each_of P name step None None is was = tt
  each_of P name step None (Some n) is was = absurd is
  each_of P name step (Some o) None is was = absurd is
  each_of P name step (Some o) (Some n) is was = step o n (subst (λ (m : Labels). IsLessened kept t m o n) (sym (name_eq_exact name is.0 is.1.0)) is.1.1) was

  pub swept_upto : (top : ℕ) → AreUpTo top old → AreUpTo top new
  swept_upto top upto name = each_of (IsUpTo top) name (λ o n is was. is.lost.gains.upto top was) (get name_eq old name) (get name_eq new name) (found name) (upto name)

  pub swept_settles : (n k : ℕ) (name : Labels) → CanSettleAt n k name old → CanSettleAt n k name new
  swept_settles n k name told = each_of (CanSettle n k) name (λ o m is was. is.lost.gains.settles n k was) (get name_eq old name) (get name_eq new name) (found name) told

  lost_cells : (q : Question) (v : ℕ) (o n : Option OwnerCells) → IsFound (name_eq q.owner) (IsLessened kept t) o n → (cell_by_owner n q.kind v ≡ cell_by_owner o q.kind v) ⊎ (cell_by_owner n q.kind v ≡ None)
  lost_cells q v None None is = inl refl
  lost_cells q v None (Some n) is = absurd is
  lost_cells q v (Some o) None is = absurd is
  lost_cells q v (Some o) (Some n) is = is.1.1.lost.cells q.kind v

  pub swept_about : AreAbout old → AreAbout new
  swept_about about q v = elim (lost_cells q v (get name_eq old q.owner) (get name_eq new q.owner) (found q.owner)) [
    | inl same ↦ subst (λ (h : Option (Admitted Find)). IfSome h (λ held. touches held.body q ≡ true)) (sym same) (about q v)
    | inr none ↦ subst (λ (h : Option (Admitted Find)). IfSome h (λ held. touches held.body q ≡ true)) (sym none) tt
  ]

  lost_pairs : (pair : Labels × Scope) (o n : Option OwnerCells) → IsFound (name_eq pair.0) (IsLessened kept t) o n
      → option_map_or (λ cells. has_place cells pair.1) n false ≡ true → option_map_or (λ cells. has_place cells pair.1) o false ≡ true
  lost_pairs pair None None is has = has
  lost_pairs pair None (Some n) is has = absurd is
  lost_pairs pair (Some o) None is has = absurd is
  lost_pairs pair (Some o) (Some n) is has = is.1.1.lost.gains.places pair.1 has

  pub swept_pairs : KeepPairs old new
  swept_pairs pair has = lost_pairs pair (get name_eq old pair.0) (get name_eq new pair.0) (found pair.0) has

  pub swept_less : AreLessened kept t old new
  swept_less = record { cells = swept_cell; about = swept_about; gains = record { upto = swept_upto; settles = swept_settles; pairs = swept_pairs } }

-- ---- names are dropped

-- what holds of the cells of a name holds of those that are left
pub left_each : {S : Type 0} (old new : IndexMap Labels OwnerCells S) (P : OwnerCells → Type 0) → AreLeft old new → (name : Labels) → IfSome (get name_eq old name) P → IfSome (get name_eq new name) P
left_each old new P left name was = split (get name_eq new name) (left name)
  where
    split : (o : Option OwnerCells) → IfSome o (λ cells. get name_eq old name ≡ Some cells) → IfSome o P
    split None is = tt
    split (Some cells) is = subst (λ (o : Option OwnerCells). IfSome o P) is was

pub left_pairs : {S : Type 0} (old new : IndexMap Labels OwnerCells S) → AreLeft old new → KeepPairs old new
left_pairs old new left pair has = split (get name_eq new pair.0) refl (left pair.0)
  where
    counted : Option OwnerCells → Bool
    counted o = option_map_or (λ cells. has_place cells pair.1) o false

    split : (o : Option OwnerCells) → get name_eq new pair.0 ≡ o → IfSome o (λ cells. get name_eq old pair.0 ≡ Some cells) → has_pair old pair ≡ true
    split None at is = absurd (false≢true (sym (ap counted at) ∙ has))
    split (Some cells) at is = ap counted (is ∙ sym at) ∙ has

pub about_same : {S : Type 0} (old new : IndexMap Labels OwnerCells S) → AreSameCells old new → AreAbout old → AreAbout new
about_same old new same about q v = subst (λ (h : Option (Admitted Find)). IfSome h (λ held. touches held.body q ≡ true)) (sym (same q v)) (about q v)

-- ---- sweeps of some names

pub less_same : {S : Type 0} (kept : List KeptFlush) (t : ℕ) (owners : IndexMap Labels OwnerCells S) → AreLessened kept t owners owners
less_same kept t owners = record { cells = λ q v there. refl; about = λ is. is; gains = record { upto = λ top is. is; settles = λ n k name is. is; pairs = λ pair has. has } }

-- Two calls gain nothing, if neither does.
pub gain_twice : {S : Type 0} (first middle last : IndexMap Labels OwnerCells S) → GainNothing first middle → GainNothing middle last → GainNothing first last
gain_twice first middle last before after = record {
  upto = λ top is. after.upto top (before.upto top is);
  settles = λ n k name is. after.settles n k name (before.settles n k name is);
  pairs = λ pair has. before.pairs pair (after.pairs pair has);
}

pub less_more : {S : Type 0} (kept : List KeptFlush) (t : ℕ) (first middle last : IndexMap Labels OwnerCells S) → AreLessened kept t first middle → AreLessened kept t middle last → AreLessened kept t first last
less_more kept t first middle last before after = record {
  cells = λ q v there. after.cells q v there ∙ before.cells q v there;
  about = λ is. after.about (before.about is);
  gains = gain_twice first middle last before.gains after.gains;
}

pub less_left : {S : Type 0} (kept : List KeptFlush) (t : ℕ) (old new : IndexMap Labels OwnerCells S) → AreSameCells old new → AreLeft old new → AreLessened kept t old new
less_left kept t old new same left = record {
  cells = λ q v there. ap (alive_at t) (same q v);
  about = about_same old new same;
  gains = record {
    upto = λ top is name. left_each old new (IsUpTo top) left name (is name);
    settles = λ n k name is. left_each old new (CanSettle n k) left name is;
    pairs = left_pairs old new left;
  };
}
