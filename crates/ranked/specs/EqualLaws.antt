-- Finds that are equal by `==` are the same, and so are ranks of one level. Each find is equal to itself: lemmas for the crates above.
use Rattle.std.proofs.Common.{◌≡◌, ℕ, ◌≤◌, true, eqb, eq-eqb, Some, refl, ap, sym, ◌∙◌, Decides}
use Rattle.std.proofs.lemmas.Bool.{and_parts, false≢true, eqb-true}
use Rattle.std.proofs.lemmas.Slice.Eq.{slice_eq-Decides}
use Rattle.std.specs.Cmp.Derive.{both_true}
use Rattle.std.specs.Prelude.{IsTrue}
use mathlib.Core.HLevel.{is_prop→PathP}
use mathlib.Core.Bool.{Bool-set}
use native.Mathlib.Bridge.{le_prop}
use Rattle.dns_name.specs.Order.{name_eq_exact, name_eq_itself}
use Rattle.dns_name.specs.ResultLaws.{some_same}
use Rattle.dns_text.specs.declared.record.Data.{Data}
use Rattle.dns_text.specs.Equal.{data_eq}
use Rattle.dns_text.specs.EqualLaws.{data_eq_exact, data_eq_itself, record_eq_exact, record_eq_itself}
use Rattle.ranked.specs.declared.rank.Rank.{Rank}
use Rattle.ranked.specs.declared.rank.Rank.TheVariants.{Additional, Answer, Authority, AuthoritativeAnswer}
use Rattle.ranked.specs.declared.find.Find.{Find}
use Rattle.ranked.specs.declared.find.Scope.{Scope}
use Rattle.ranked.specs.declared.find.Scope.TheVariants.{One, Whole}
use Rattle.ranked.specs.declared.find.Body.{Body}
use Rattle.ranked.specs.declared.find.Body.TheVariants.{Set, NoData, NoName}
use Rattle.ranked.specs.Body.{has_data, has_rank, longest_ttl, HasForms, HasForms-prop}
use Rattle.ranked.specs.Equal.{rank_eq, scope_eq, body_eq, find_eq}
use Rattle.ranked.specs.Rank.{level_of, rank_at}

-- Ranks that `==` calls equal are the same.
pub rank_eq_exact : (a b : Rank) → rank_eq a b ≡ true → a ≡ b
rank_eq_exact Additional Additional e = refl
rank_eq_exact Answer Answer e = refl
rank_eq_exact Authority Authority e = refl
rank_eq_exact AuthoritativeAnswer AuthoritativeAnswer e = refl
rank_eq_exact _ _ e = absurd (false≢true e)

rank_back : (a : Rank) → rank_at (level_of a) ≡ Some a
rank_back Additional = refl
rank_back Answer = refl
rank_back Authority = refl
rank_back AuthoritativeAnswer = refl

-- Ranks of the same level are the same.
pub level_exact : (a b : Rank) → level_of a ≡ level_of b → a ≡ b
level_exact a b e = some_same (sym (rank_back a) ∙ ap rank_at e ∙ rank_back b)

scope_eq_exact : (a b : Scope) → scope_eq a b ≡ true → a ≡ b
scope_eq_exact (One kind) (One other) e = ap One (eqb-true kind other e)
scope_eq_exact Whole Whole e = refl
scope_eq_exact _ _ e = absurd (false≢true e)

data_eq-Decides : (a b : Data) → Decides (data_eq a b) (a ≡ b)
data_eq-Decides a b = (data_eq_exact a b, λ same. ap (data_eq a) (sym same) ∙ data_eq_itself a)

body_eq_exact : (a b : Body) → body_eq a b ≡ true → a ≡ b
body_eq_exact (Set xs) (Set ys) e = ap Set ((slice_eq-Decides data_eq-Decides xs ys _ refl).0 e)
body_eq_exact (NoData soa) (NoData other) e = ap NoData (record_eq_exact soa other e)
body_eq_exact (NoName soa) (NoName other) e = ap NoName (record_eq_exact soa other e)
body_eq_exact _ _ e = absurd (false≢true e)

-- A find with the same fields is the same find: the facts that it carries are true in one way.
find_path : (a b : Find) → a.owner ≡ b.owner → a.scope ≡ b.scope → a.rank ≡ b.rank → a.ttl ≡ b.ttl → a.body ≡ b.body → a ≡ b
find_path a b o s r t y = λ i. record {
  owner = o i;
  scope = s i;
  rank = r i;
  ttl = t i;
  body = y i;
  lives = is_prop→PathP (λ j. 1 ≤ t j) (λ j. le_prop) a.lives b.lives i;
  cut = is_prop→PathP (λ j. t j ≤ longest_ttl (y j)) (λ j. le_prop) a.cut b.cut i;
  ranked = is_prop→PathP (λ j. IsTrue (has_rank (y j) (r j))) (λ j. Bool-set (has_rank (y j) (r j)) true) a.ranked b.ranked i;
  found = is_prop→PathP (λ j. IsTrue (has_data (y j))) (λ j. Bool-set (has_data (y j)) true) a.found b.found i;
  formed = is_prop→PathP (λ j. HasForms (s j) (y j)) (λ j. HasForms-prop (s j) (y j)) a.formed b.formed i;
}

-- Finds that `==` calls equal are the same.
pub find_eq_exact : (a b : Find) → find_eq a b ≡ true → a ≡ b
find_eq_exact a b e =
    let p = and_parts _ _ e in
    let q = and_parts _ _ p.1 in
    let r = and_parts _ _ q.1 in
    let s = and_parts _ _ r.1 in
    find_path a b (name_eq_exact a.owner b.owner p.0) (scope_eq_exact a.scope b.scope q.0) (rank_eq_exact a.rank b.rank r.0) (eqb-true a.ttl b.ttl s.0) (body_eq_exact a.body b.body s.1)

-- ---- each value is equal to itself

same : (n : ℕ) → eqb n n ≡ true
same n = eq-eqb n n refl

-- A rank equals itself.
pub rank_eq_itself : (a : Rank) → rank_eq a a ≡ true
rank_eq_itself Additional = refl
rank_eq_itself Answer = refl
rank_eq_itself Authority = refl
rank_eq_itself AuthoritativeAnswer = refl

scope_eq_itself : (a : Scope) → scope_eq a a ≡ true
scope_eq_itself (One kind) = same kind
scope_eq_itself Whole = refl

body_eq_itself : (a : Body) → body_eq a a ≡ true
body_eq_itself (Set xs) = (slice_eq-Decides data_eq-Decides xs xs _ refl).1 refl
body_eq_itself (NoData soa) = record_eq_itself soa
body_eq_itself (NoName soa) = record_eq_itself soa

-- A find equals itself.
pub find_eq_itself : (a : Find) → find_eq a a ≡ true
find_eq_itself a = both_true (name_eq_itself a.owner) (both_true (scope_eq_itself a.scope) (both_true (rank_eq_itself a.rank) (both_true (same a.ttl) (body_eq_itself a.body))))
