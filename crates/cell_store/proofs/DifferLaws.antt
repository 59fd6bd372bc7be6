-- No two neighbours of a column have the same content, whatever is done to it.
use Rattle.std.proofs.Common.{◌≡◌, ℕ, zero, suc, ◌+◌, Bool, true, false, cond, Option, Some, None, List, [], ◌∷◌, length, map, drop, refl, sym, ap, ◌∙◌, subst, inl, inr}
use Rattle.std.specs.Prelude.{◌==◌, ◌&&◌}
use Rattle.std.specs.List.{list_any}
use Rattle.std.proofs.lemmas.Bool.{cases_Bool, eq-eqb, eqb-true, false≢true}
use Rattle.ranked.specs.declared.cell.Admitted.{Admitted}
use Rattle.ranked.specs.Rank.{level_of}
use Rattle.cell_store.specs.declared.version.Version.{Version}
use Rattle.cell_store.specs.Version.{lowered}
use Rattle.cell_store.specs.Slots.{held_names, names, renamed_held, renamed}
use Rattle.cell_store.specs.Merge.{same_held}
use Rattle.cell_store.specs.Few.{content, contents, same_content, turns, DoDiffer}
use Rattle.cell_store.proofs.EntryLaws.{Content, content_exact, content_itself, contents_lowered, contents_renamed, renamed_content}
use Rattle.cell_store.proofs.FewLaws.{apart_parts}
use Rattle.cell_store.specs.TestLaws.{neither}

-- ---- a flush becomes permanent

differ_tail : (x : Content) (xs : List Content) → DoDiffer (x ∷ xs) → DoDiffer xs
differ_tail x [] is = tt
differ_tail x (y ∷ ys) is = (apart_parts {A = Content} (λ a. 0) same_content content_exact content_itself x y ys is).1

drop_none : (i : ℕ) → DoDiffer (contents (drop i []))
drop_none zero = tt
drop_none (suc i) = tt

differ_dropped : (versions : List (Version ℕ)) (i : ℕ) → DoDiffer (contents versions) → DoDiffer (contents (drop i versions))
differ_dropped [] i is = drop_none i
differ_dropped (x ∷ versions) zero is = is
differ_dropped (x ∷ versions) (suc i) is = differ_dropped versions i (differ_tail (content x.place) (contents versions) is)

pub differ_forgot : (number i : ℕ) (versions lower news : List (Version ℕ)) → lower ≡ map (lowered number) versions → news ≡ drop i lower → DoDiffer (contents versions) → DoDiffer (contents news)
differ_forgot number i versions lower news each is differ =
    let now : DoDiffer (contents (map (lowered number) versions)) = subst (λ (l : List Content). DoDiffer l) (sym (contents_lowered number versions)) differ in
    subst (λ (l : List (Version ℕ)). DoDiffer (contents l)) (sym is) (differ_dropped lower i (subst (λ (l : List (Version ℕ)). DoDiffer (contents l)) (sym each) now))

-- ---- a find gets another slot, to which no cell refers

same_slot : (old new a b : ℕ) → (a == new) ≡ false → (b == new) ≡ false → (cond (a == old) new a == cond (b == old) new b) ≡ (a == b)
same_slot old new a b first second = split (a == old) refl (b == old) refl
  where
    turn : (x y : ℕ) → (x == y) ≡ false → (y == x) ≡ false
    turn x y off = elim (cases_Bool (y == x)) [
      | inl same ↦ absurd (false≢true (sym off ∙ eq-eqb x y (sym (eqb-true y x same))))
      | inr apart ↦ apart
    ]

    split : (p : Bool) → (a == old) ≡ p → (q : Bool) → (b == old) ≡ q → (cond p new a == cond q new b) ≡ (a == b)
    split true here true there = eq-eqb new new refl ∙ sym (eq-eqb a b (eqb-true a old here ∙ sym (eqb-true b old there)))
    split true here false gone = turn b new second ∙ sym (ap (λ n. n == b) (eqb-true a old here) ∙ turn b old gone)
    split false gone true there = first ∙ sym (ap (λ n. a == n) (eqb-true b old there) ∙ gone)
    split false gone false off = refl

same_renamed : (old new : ℕ) (a b : Option (Admitted ℕ)) → held_names new a ≡ false → held_names new b ≡ false → same_held (renamed_held old new a) (renamed_held old new b) ≡ same_held a b
same_renamed old new None None first second = refl
same_renamed old new None (Some b) first second = refl
same_renamed old new (Some a) None first second = refl
same_renamed old new (Some a) (Some b) first second =
    ap (λ t. level_of a.rank == level_of b.rank && (a.ttl == b.ttl && (a.since == b.since && t))) (same_slot old new a.body b.body first second)

abbrev names_content : ℕ → Content → Bool
names_content slot None = false
names_content slot (Some held) = held_names slot held

named : (slot : ℕ) (x : Version ℕ) → names slot x ≡ false → names_content slot (content x.place) ≡ false
named slot x is = split x.place.left
  where
    split : (l : Bool) → names_content slot (cond l None (Some x.place.cell.held)) ≡ false
    split true = refl
    split false = is

same_contents : (old new : ℕ) (a b : Content) → names_content new a ≡ false → names_content new b ≡ false → same_content (renamed_content old new a) (renamed_content old new b) ≡ same_content a b
same_contents old new None None first second = refl
same_contents old new None (Some b) first second = refl
same_contents old new (Some a) None first second = refl
same_contents old new (Some a) (Some b) first second = same_renamed old new a b first second

turns_renamed : (old new : ℕ) (x : Version ℕ) (versions : List (Version ℕ)) → list_any (names new) (x ∷ versions) ≡ false
    → turns same_content (renamed_content old new (content x.place)) (map (renamed_content old new) (contents versions)) ≡ turns same_content (content x.place) (contents versions)
turns_renamed old new x [] none = refl
turns_renamed old new x (y ∷ versions) none =
    let parts = neither (names new x) (list_any (names new) (y ∷ versions)) none in
    let rest = neither (names new y) (list_any (names new) versions) parts.1 in
    let here = same_contents old new (content x.place) (content y.place) (named new x parts.0) (named new y rest.0) in
    (λ i. cond {A = ℕ} (here i) 0 1 + turns_renamed old new y versions parts.1 i)

length_map : (f : Content → Content) (xs : List Content) → length (map f xs) ≡ length xs
length_map f [] = refl
length_map f (x ∷ xs) = ap suc (length_map f xs)

pub differ_renamed : (old new : ℕ) (versions : List (Version ℕ)) → list_any (names new) versions ≡ false → DoDiffer (contents versions) → DoDiffer (contents (map (renamed old new) versions))
differ_renamed old new [] none differ = tt
differ_renamed old new (x ∷ versions) none differ =
    subst (λ (l : List Content). DoDiffer l) (sym (contents_renamed old new (x ∷ versions)))
    (turns_renamed old new x versions none ∙ (differ ∙ sym (length_map (renamed_content old new) (contents versions))))
