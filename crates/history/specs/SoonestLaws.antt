-- The soonest of a list of pairs is the name to forget first, if the pairs are the ends of a past; and one name alone is: lemmas.
use Rattle.std.proofs.Common.{◌≡◌, ℕ, ◌<◌, ◌≤◌, Bool, true, false, cond, Option, Some, None, List, [], ◌∷◌, refl, sym, ◌∙◌, ap, subst, ◌⊎◌, inl, inr, arith}
use Rattle.std.specs.Prelude.{fold, max, nat_lt, ◌==◌, ◌&&◌, ◌||◌, IsTrue}
use Rattle.std.specs.List.{AllByRecursion}
use Rattle.std.specs.Ordering.{is_le, ordering_reverse}
use Rattle.std.specs.declared.cmp.Ordering.{Ordering}
use Rattle.std.specs.declared.cmp.Ordering.TheVariants.{Less, Equal, Greater}
use Rattle.std.proofs.lemmas.Bool.{cases_Bool, eqb-true}
use Rattle.std.proofs.lemmas.Bool.Decides.{nat_tests}
use Rattle.dns_name.specs.Labels.{Labels}
use Rattle.dns_name.specs.Order.{IsNotAfter, name_cmp, name_cmp_exact, name_eq, name_eq_exact, name_total, not_after_back}
use Rattle.ranked.specs.declared.cell.Admitted.{Admitted}
use Rattle.ranked.specs.declared.find.Find.{Find}
use Rattle.ranked.specs.Cell.{end_of, is_alive}
use Rattle.ranked.specs.Oldest.{IsLastEnding, IsSooner}
use Rattle.ranked.specs.OldestLaws.{sooner_itself, sooner_then}
use Rattle.history.specs.History.{Past}
use Rattle.history.specs.Oldest.{IsEnding, IsOldest}
use Rattle.history.specs.OldestFound.{is_sooner, last_end, later_end, oldest_in, sooner_of}

-- ---- the order of names

equal_by : (x y : Ordering) → x ≡ ordering_reverse y → IsTrue (is_le x) → IsTrue (is_le y) → x ≡ Equal
equal_by Less Less is low high = absurd cc
equal_by Less Equal is low high = absurd cc
equal_by Less Greater is low high = absurd cc
equal_by Equal y is low high = refl
equal_by Greater y is low high = absurd cc

not_after_both : (a b : Labels) → IsNotAfter a b → IsNotAfter b a → a ≡ b
not_after_both a b low high = name_cmp_exact a b (equal_by (name_cmp a b) (name_cmp b a) (name_total.antisymm a b) low high)

-- ---- one name alone is the oldest

one_by : (a b : ℕ) (n m : Labels) → IsSooner a n b m → IsSooner b m a n → n ≡ m
one_by a b n m (inl p) (inl q) = absurd (omega arith)
one_by a b n m (inl p) (inr q) = absurd (omega (arith, q.0))
one_by a b n m (inr p) (inl q) = absurd (omega (arith, p.0))
one_by a b n m (inr p) (inr q) = not_after_both n m p.1 q.1

-- No two names are the oldest, and none is where there is none.
pub one_oldest : (past : Past) (t : ℕ) (a b : Option Labels) → IsOldest past t a → IsOldest past t b → a ≡ b
one_oldest past t None None p q = refl
one_oldest past t None (Some m) p q = absurd (p m q.end q.own.ending)
one_oldest past t (Some n) None p q = absurd (q n p.end p.own.ending)
one_oldest past t (Some n) (Some m) p q = ap Some (one_by p.end q.end n m (p.first m q.end q.own) (q.first n p.end p.own))

-- ---- ends of a list of pairs

later_low : (name : Labels) (a : ℕ) (pair : Labels × ℕ) → a ≤ later_end name a pair
later_low name a pair = split (name_eq pair.0 name)
  where
    split : (b : Bool) → a ≤ cond b (max a pair.1) a
    split true = omega arith
    split false = omega arith

pub fold_low : (name : Labels) (ends : List (Labels × ℕ)) (a : ℕ) → a ≤ fold (later_end name) a ends
fold_low name [] a = omega arith
fold_low name (p ∷ ends) a = omega (arith, later_low name a p, fold_low name ends (later_end name a p))

-- a name with an end is that of some pair
named : (Q : Labels → Type 0) (name : Labels) (ends : List (Labels × ℕ)) (a : ℕ) → AllByRecursion (λ p. Q p.0) ends → (fold (later_end name) a ends ≡ a) ⊎ Q name
named Q name [] a all = inl refl
named Q name (p ∷ ends) a all = elim (cases_Bool (name_eq p.0 name)) [
  | inl same ↦ inr (subst Q (name_eq_exact p.0 name same) all.0)
  | inr other ↦ rw other (named Q name ends a all.1)
]

-- ---- the soonest of a list of pairs

module _ (ends : List (Labels × ℕ)) where
  abbrev last : Labels → ℕ
  last name = last_end ends name

  abbrev Sooner : Labels → Labels → Type 0
  Sooner n m = IsSooner (last n) n (last m) m

  sooner_by : (n m : Labels) → is_sooner ends n m ≡ true → Sooner n m
  sooner_by n m is = elim (cases_Bool (is_le (name_cmp n m))) [
    | inl low ↦ elim (split (last n) (last m) (is_le (name_cmp n m)) is) [ inl less ↦ inl less | inr tied ↦ inr (tied.0, low) ]
    | inr high ↦ elim (split (last n) (last m) (is_le (name_cmp n m)) is) [ inl less ↦ inl less | inr tied ↦ inr (tied.0, tied.1) ]
  ]
    where
      split : (a b : ℕ) (low : Bool) → (nat_lt a b || (a == b && low)) ≡ true → (a < b) ⊎ ((a ≡ b) × IsTrue low)
      split a b true is = grind (arith, nat_tests)
      split a b false is = inl (grind (arith, nat_tests))

  later_by : (n m : Labels) → is_sooner ends n m ≡ false → Sooner m n
  later_by n m is = elim (cases_Bool (is_le (name_cmp n m))) [
    | inl low ↦ inl (tied (last n) (last m) (sym (ap (λ b. nat_lt (last n) (last m) || (last n == last m && b)) low) ∙ is))
    | inr high ↦ elim (split (last n) (last m) (sym (ap (λ b. nat_lt (last n) (last m) || (last n == last m && b)) high) ∙ is)) [
      | inl less ↦ inl less
      | inr same ↦ inr (same, not_after_back n m high)
    ]
  ]
    where
      tied : (a b : ℕ) → (nat_lt a b || (a == b && true)) ≡ false → b < a
      tied a b is = grind (arith, nat_tests)

      split : (a b : ℕ) → (nat_lt a b || (a == b && false)) ≡ false → (b < a) ⊎ (b ≡ a)
      split a b is = grind (arith, nat_tests)

  -- The name found is not after another, unless that has no end. If none is found, it has none.
  abbrev Beats : Option Labels → Labels → Type 0
  Beats None m = last m ≡ 0
  Beats (Some n) m = (last m ≡ 0) ⊎ Sooner n m

  abbrev HasEnd : Option Labels → Type 0
  HasEnd None = Unit {0}
  HasEnd (Some n) = 1 ≤ last n

  record Goes (found : Option Labels) (m : Labels) (next : Option Labels) : Type 0 where
    pub has : HasEnd next
    pub beats : Beats next m
    pub keeps : (k : Labels) → Beats found k → Beats next k

  from_none : (m : Labels) (b : Bool) → (last m == 0) ≡ b → Goes None m (cond b None (Some m))
  from_none m true is = record { has = tt; beats = eqb-true (last m) 0 is; keeps = λ k none. none }
  from_none m false is = record { has = grind (arith, nat_tests); beats = inr (sooner_itself (last m) m); keeps = λ k none. inl none }

  from_some : (n m : Labels) → 1 ≤ last n → (none sooner : Bool) → (last m == 0) ≡ none → is_sooner ends n m ≡ sooner → Goes (Some n) m (cond (none || sooner) (Some n) (Some m))
  from_some n m has true sooner is by = record { has = has; beats = inl (eqb-true (last m) 0 is); keeps = λ k it. it }
  from_some n m has false true is by = record { has = has; beats = inr (sooner_by n m by); keeps = λ k it. it }
  from_some n m has false false is by = record {
    has = grind (arith, nat_tests);
    beats = inr (sooner_itself (last m) m);
    keeps = λ k it. elim it [ inl none ↦ inl none | inr later ↦ inr (sooner_then (last m) (last n) (last k) m n k (later_by n m by) later) ];
  }

  goes : (found : Option Labels) (m : Labels) → HasEnd found → Goes found m (sooner_of ends found m)
  goes None m has = from_none m (last m == 0) refl
  goes (Some n) m has = from_some n m has (last m == 0) (is_sooner ends n m) refl refl

  record Ends (found : Option Labels) (xs : List (Labels × ℕ)) (next : Option Labels) : Type 0 where
    pub has : HasEnd next
    pub all : AllByRecursion (λ p. Beats next p.0) xs
    pub keeps : (k : Labels) → Beats found k → Beats next k

  end_with : (xs : List (Labels × ℕ)) (found : Option Labels) → HasEnd found → Ends found xs (fold (λ f p. sooner_of ends f p.0) found xs)
  end_with [] found has = record { has = has; all = tt; keeps = λ k it. it }
  end_with (p ∷ xs) found has =
      let one = goes found p.0 has in
      let rest = end_with xs (sooner_of ends found p.0) one.has in
      record { has = rest.has; all = (rest.keeps p.0 one.beats, rest.all); keeps = λ k it. rest.keeps k (one.keeps k it) }

  pub beats_all : (m : Labels) → Beats (oldest_in ends) m
  beats_all m =
      let it = end_with ends None tt in
      elim (named (Beats (oldest_in ends)) m ends 0 it.all) [ inl none ↦ no_end (oldest_in ends) m none | inr beats ↦ beats ]
    where
      no_end : (found : Option Labels) (m : Labels) → last m ≡ 0 → Beats found m
      no_end None m none = none
      no_end (Some n) m none = inl none

  pub oldest_has : HasEnd (oldest_in ends)
  oldest_has = (end_with ends None tt).has

-- ---- what these pairs say of a past

pub alive_later : (t : ℕ) (held : Admitted Find) → is_alive held t ≡ true → t < end_of held
alive_later t held alive = grind (arith, nat_tests)

-- Each pair is an ending of its name, or has no end; and no ending of a name is later than all its pairs.
pub record AreEndings (past : Past) (t : ℕ) (ends : List (Labels × ℕ)) : Type 0 where
  pub sound : AllByRecursion (λ pair. (pair.1 ≡ 0) ⊎ IsEnding past t pair.0 pair.1) ends
  pub whole : (name : Labels) (end : ℕ) → IsEnding past t name end → end ≤ last_end ends name

module _ (past : Past) (t : ℕ) where
  abbrev pub Ended : Labels → ℕ → Type 0
  Ended name end = (end ≡ 0) ⊎ IsEnding past t name end

  pub max_ended : (name : Labels) (a b : ℕ) → Ended name a → Ended name b → Ended name (max a b)
  max_ended name a b p q = elim (one_of a b) [ inl left ↦ subst (λ n. Ended name n) (sym left) p | inr right ↦ subst (λ n. Ended name n) (sym right) q ]
    where
      one_of : (a b : ℕ) → (max a b ≡ a) ⊎ (max a b ≡ b)
      one_of a b = grind arith

  later_ended : (name : Labels) (a : ℕ) (p : Labels × ℕ) → Ended name a → Ended p.0 p.1 → Ended name (later_end name a p)
  later_ended name a p own it = split (name_eq p.0 name) refl
    where
      split : (b : Bool) → name_eq p.0 name ≡ b → Ended name (cond b (max a p.1) a)
      split true same = max_ended name a p.1 own (subst (λ (n : Labels). Ended n p.1) (name_eq_exact p.0 name same) it)
      split false other = own

  last_ended : (name : Labels) (ends : List (Labels × ℕ)) (a : ℕ) → Ended name a → AllByRecursion (λ p. Ended p.0 p.1) ends → Ended name (fold (later_end name) a ends)
  last_ended name [] a own all = own
  last_ended name (p ∷ ends) a own all = last_ended name ends (later_end name a p) (later_ended name a p own all.0) all.1

  ending_is_some : (name : Labels) (end : ℕ) → IsEnding past t name end → 1 ≤ end
  ending_is_some name end is = omega (arith, alive_later t is.held is.alive, is.at)

  last_is : (name : Labels) (ends : List (Labels × ℕ)) → AreEndings past t ends → 1 ≤ last_end ends name → IsLastEnding (IsEnding past t) name (last_end ends name)
  last_is name ends are some = record {
    ending = elim (last_ended name ends 0 (inl refl) are.sound) [ inl none ↦ absurd (omega (arith, none)) | inr is ↦ is ];
    last = λ other is. are.whole name other is;
  }

  found_is : (ends : List (Labels × ℕ)) (found : Option Labels) → AreEndings past t ends → HasEnd ends found → ((m : Labels) → Beats ends found m) → IsOldest past t found
  found_is ends None are has beats = λ name end is. omega (arith, beats name, are.whole name end is, ending_is_some name end is)
  found_is ends (Some n) are has beats = record {
    end = last_end ends n;
    own = last_is n ends are has;
    first = λ other later is.
        let some : 1 ≤ last_end ends other = omega (arith, are.whole other later is.ending, ending_is_some other later is.ending) in
        let own = last_is other ends are some in
        let same : last_end ends other ≡ later = omega (arith, are.whole other later is.ending, is.last (last_end ends other) own.ending) in
        elim (beats other) [
          | inl none ↦ absurd (omega (arith, none))
          | inr sooner ↦ subst (λ e. IsSooner (last_end ends n) n e other) same sooner
        ];
  }

  -- The soonest of the pairs is the oldest name.
  pub soonest_is : (ends : List (Labels × ℕ)) → AreEndings past t ends → IsOldest past t (oldest_in ends)
  soonest_is ends are = found_is ends (oldest_in ends) are (oldest_has ends) (beats_all ends)
