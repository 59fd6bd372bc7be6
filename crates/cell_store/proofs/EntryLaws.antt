-- A column keeps few entries, whatever is done to it.
use Rattle.std.proofs.Common.{◌≡◌, ℕ, zero, suc, ◌+◌, ◌<◌, ◌≤◌, Bool, true, false, cond, Option, Some, None, List, [], ◌∷◌, ◌++◌, length, get_or, map, drop, refl, sym, ap, ◌∙◌, subst, arith, ◌⊎◌, inl, inr}
use Rattle.std.specs.Prelude.{nat_lt}
use Rattle.std.specs.List.{AllByRecursion, remove}
use Rattle.std.proofs.lemmas.Bool.{eq-eqb, false≢true, and_parts}
use Rattle.ranked.specs.declared.rank.Rank.{Rank}
use Rattle.ranked.specs.declared.rank.Rank.TheVariants.{Additional, Answer, Authority, AuthoritativeAnswer}
use Rattle.ranked.specs.declared.cell.Admitted.{Admitted}
use Rattle.ranked.specs.Rank.{level_of}
use Rattle.ranked.specs.Cell.{after_admission, turns_away, is_alive}
use Rattle.cell_store.specs.declared.version.Place.{Place}
use Rattle.cell_store.specs.declared.version.Version.{Version}
use Rattle.cell_store.specs.Version.{nothing, whole, own, after_find, version_after, lowered, reached}
use Rattle.cell_store.specs.Slots.{renamed_held, renamed}
use Rattle.cell_store.specs.Merge.{same_held, holds_same, AreApart}
use Rattle.cell_store.specs.Prune.{emptied, is_seen, kept_entry, pruned}
use Rattle.cell_store.specs.Sweep.{alive_at, version_swept}
use Rattle.cell_store.specs.Few.{content, contents, rank_of, same_content, AreFew, DoDiffer, IsLeftEmpty, AreRanked}
use Rattle.cell_store.proofs.MergeLaws.{held_exact, joined}
use Rattle.cell_store.proofs.FewLaws.{few_one, few_raised, few_admitted, few_tail, few_once, few_renamed, few_less, few_entries, AreLess}
use Rattle.cell_store.specs.TestLaws.{lt_of}

abbrev pub Content : Type 0
Content = Option (Option (Admitted ℕ))

pub level_small : (rank : Rank) → level_of rank ≤ 4
level_small Additional = omega arith
level_small Answer = omega arith
level_small Authority = omega arith
level_small AuthoritativeAnswer = omega arith

level_some : (rank : Rank) → 1 ≤ level_of rank
level_some Additional = omega arith
level_some Answer = omega arith
level_some Authority = omega arith
level_some AuthoritativeAnswer = omega arith

pub content_exact : (a b : Content) → same_content a b ≡ true → a ≡ b
content_exact None None is = refl
content_exact (Some a) (Some b) is = ap Some (held_exact a b is)
content_exact None (Some b) is = absurd (false≢true is)
content_exact (Some a) None is = absurd (false≢true is)

held_itself : (held : Option (Admitted ℕ)) → same_held held held ≡ true
held_itself None = refl
held_itself (Some a) = rw (eq-eqb (level_of a.rank) (level_of a.rank) refl, eq-eqb a.ttl a.ttl refl, eq-eqb a.since a.since refl, eq-eqb a.body a.body refl) refl

pub content_itself : (a : Content) → same_content a a ≡ true
content_itself None = refl
content_itself (Some held) = held_itself held

only_none : (a : Content) → rank_of a ≡ 0 → a ≡ Some None
only_none None is = absurd (omega (arith, is))
only_none (Some None) is = refl
only_none (Some (Some held)) is = absurd (omega (arith, is, level_some held.rank))

-- ---- an admission

abbrev after_content : Admitted ℕ → Bool → Content → Content
after_content new outranked None = cond outranked None (Some (Some new))
after_content new outranked (Some held) = Some (after_admission held new)

content_after : (new : Admitted ℕ) (outranked : Bool) (place : Place ℕ) → content (after_find new outranked place) ≡ after_content new outranked (content place)
content_after new outranked place = split place.left outranked refl
  where
    split : (l o : Bool) → place.left ≡ l → content (cond l (cond o place (own (Some new))) (own (after_admission place.cell.held new))) ≡ after_content new o (cond l None (Some place.cell.held))
    split true true at = ap (λ l. cond l None (Some place.cell.held)) at
    split true false at = refl
    split false o at = refl

contents_after : (new : Admitted ℕ) (outranked : Bool) (versions : List (Version ℕ)) → contents (map (version_after new outranked) versions) ≡ map (after_content new outranked) (contents versions)
contents_after new outranked [] = refl
contents_after new outranked (x ∷ versions) = (λ i. content_after new outranked x.place i ∷ contents_after new outranked versions i)

takes : (new : Admitted ℕ) (outranked : Bool) → (outranked ≡ true → level_of new.rank < 4) → (a : Content)
    → (after_content new outranked a ≡ Some (Some new)) ⊎ ((after_content new outranked a ≡ a) × (level_of new.rank < rank_of a))
takes new true low None = inr (refl, low refl)
takes new false low None = inl refl
takes new outranked low (Some None) = inl refl
takes new outranked low (Some (Some held)) = split (turns_away (Some held) new) refl
  where
    split : (b : Bool) → turns_away (Some held) new ≡ b → (after_content new outranked (Some (Some held)) ≡ Some (Some new)) ⊎ ((after_content new outranked (Some (Some held)) ≡ Some (Some held)) × (level_of new.rank < level_of held.rank))
    split true away = inr (ap (λ b. Some (cond b (Some held) (Some new))) away, lt_of (level_of new.rank) (level_of held.rank) (and_parts _ _ away).1)
    split false taken = inl (ap (λ b. Some (cond b (Some held) (Some new))) taken)

few_map : (f : Content → Content) (new : Content) → ((a : Content) → (f a ≡ new) ⊎ ((f a ≡ a) × (rank_of new < rank_of a))) → rank_of new ≤ 4 → (l : List Content) → AreFew l → AreFew (map f l)
few_map f new takes small [] few = tt
few_map f new takes small (x ∷ xs) few = few_admitted rank_of same_content content_exact content_itself f new takes small x xs few

few_after : (new : Admitted ℕ) (outranked : Bool) → (outranked ≡ true → level_of new.rank < 4) → (versions : List (Version ℕ)) → AreFew (contents versions) → AreFew (contents (map (version_after new outranked) versions))
few_after new outranked low versions few =
    subst (λ (l : List Content). AreFew l) (sym (contents_after new outranked versions)) (few_map (after_content new outranked) (Some (Some new)) (takes new outranked low) (level_small new.rank) (contents versions) few)

empty_place_after : (new : Admitted ℕ) (outranked : Bool) (place : Place ℕ) → (place.left ≡ true → place.cell.held ≡ None) → (after_find new outranked place).left ≡ true → (after_find new outranked place).cell.held ≡ None
empty_place_after new outranked place empty = split place.left outranked
  where
    split : (l o : Bool) → (cond l (cond o place (own (Some new))) (own (after_admission place.cell.held new))).left ≡ true → (cond l (cond o place (own (Some new))) (own (after_admission place.cell.held new))).cell.held ≡ None
    split true true is = empty is
    split true false is = absurd (false≢true is)
    split false o is = absurd (false≢true is)

empty_after : (new : Admitted ℕ) (outranked : Bool) (versions : List (Version ℕ)) → AllByRecursion IsLeftEmpty versions → AllByRecursion IsLeftEmpty (map (version_after new outranked) versions)
empty_after new outranked [] all = tt
empty_after new outranked (x ∷ versions) all = (empty_place_after new outranked x.place all.0, empty_after new outranked versions all.1)

pub ranked_after : (new : Admitted ℕ) (outranked : Bool) → (outranked ≡ true → level_of new.rank < 4) → (versions : List (Version ℕ)) → AreRanked versions → AreRanked (map (version_after new outranked) versions)
ranked_after new outranked low versions is = (empty_after new outranked versions is.0, few_after new outranked low versions is.1)

-- ---- an empty entry more

contents_push : (versions : List (Version ℕ)) (x : Version ℕ) → contents (versions ++ x ∷ []) ≡ contents versions ++ content x.place ∷ []
contents_push [] x = refl
contents_push (y ∷ versions) x = ap (λ (l : List Content). content y.place ∷ l) (contents_push versions x)

few_push : (l : List Content) → AreFew l → AreFew (l ++ Some None ∷ [])
few_push [] few = few_one rank_of same_content content_exact content_itself (Some None) (omega arith)
few_push (x ∷ xs) few = few_raised rank_of same_content content_exact content_itself x xs (Some None) refl few

empty_push : (versions : List (Version ℕ)) (x : Version ℕ) → x.place.left ≡ false → AllByRecursion IsLeftEmpty versions → AllByRecursion IsLeftEmpty (versions ++ x ∷ [])
empty_push [] x not all = ((λ is. absurd (false≢true (sym not ∙ is))), tt)
empty_push (y ∷ versions) x not all = (all.0, empty_push versions x not all.1)

pub ranked_reached : (upto top : ℕ) (versions : List (Version ℕ)) → AreRanked versions → AreRanked (reached upto top versions)
ranked_reached upto top versions is = split (nat_lt upto top)
  where
    next : Version ℕ
    next = record { from = upto + 1; place = nothing }

    split : (b : Bool) → AreRanked (cond b (versions ++ next ∷ []) versions)
    split true = (empty_push versions next refl is.0, subst (λ (l : List Content). AreFew l) (sym (contents_push versions next)) (few_push (contents versions) is.1))
    split false = is

pub ranked_one : (version : Version ℕ) → version.place.cell.held ≡ None → AreRanked (version ∷ [])
ranked_one version none = (((λ is. none), tt), few_one rank_of same_content content_exact content_itself (content version.place) (split version.place.left))
  where
    split : (l : Bool) → rank_of (cond l None (Some version.place.cell.held)) ≤ 4
    split true = omega arith
    split false = omega (arith, ap (λ (h : Option (Admitted ℕ)). rank_of (Some h)) none)

-- ---- a flush becomes permanent

pub contents_lowered : (number : ℕ) (versions : List (Version ℕ)) → contents (map (lowered number) versions) ≡ contents versions
contents_lowered number [] = refl
contents_lowered number (x ∷ versions) = ap (λ (l : List Content). content x.place ∷ l) (contents_lowered number versions)

empty_lowered : (number : ℕ) (versions : List (Version ℕ)) → AllByRecursion IsLeftEmpty versions → AllByRecursion IsLeftEmpty (map (lowered number) versions)
empty_lowered number [] all = tt
empty_lowered number (x ∷ versions) all = (all.0, empty_lowered number versions all.1)

drop_none : (i : ℕ) → AreRanked (drop i [])
drop_none zero = (tt, tt)
drop_none (suc i) = (tt, tt)

ranked_dropped : (versions : List (Version ℕ)) (i : ℕ) → AreRanked versions → AreRanked (drop i versions)
ranked_dropped [] i is = drop_none i
ranked_dropped (x ∷ versions) zero is = is
ranked_dropped (x ∷ []) (suc i) is = drop_none i
ranked_dropped (x ∷ y ∷ versions) (suc i) is =
    ranked_dropped (y ∷ versions) i (is.0.1, few_tail rank_of same_content content_exact content_itself (content x.place) (content y.place) (contents versions) is.1)

pub ranked_forgot : (number i : ℕ) (versions lower news : List (Version ℕ)) → lower ≡ map (lowered number) versions → news ≡ drop i lower → AreRanked versions → AreRanked news
ranked_forgot number i versions lower news each is ranked =
    let lowered_is : AreRanked (map (lowered number) versions) = (empty_lowered number versions ranked.0, subst (λ (l : List Content). AreFew l) (sym (contents_lowered number versions)) ranked.1) in
    subst (λ (l : List (Version ℕ)). AreRanked l) (sym is) (ranked_dropped lower i (subst (λ (l : List (Version ℕ)). AreRanked l) (sym each) lowered_is))

-- ---- a find gets another slot

abbrev pub renamed_content : ℕ → ℕ → Content → Content
renamed_content old new None = None
renamed_content old new (Some held) = Some (renamed_held old new held)

pub content_renamed : (old new : ℕ) (place : Place ℕ) → cond place.left None (Some (renamed_held old new place.cell.held)) ≡ renamed_content old new (content place)
content_renamed old new place = split place.left
  where
    split : (l : Bool) → cond l None (Some (renamed_held old new place.cell.held)) ≡ renamed_content old new (cond l None (Some place.cell.held))
    split true = refl
    split false = refl

pub contents_renamed : (old new : ℕ) (versions : List (Version ℕ)) → contents (map (renamed old new) versions) ≡ map (renamed_content old new) (contents versions)
contents_renamed old new [] = refl
contents_renamed old new (x ∷ versions) = (λ i. content_renamed old new x.place i ∷ contents_renamed old new versions i)

same_rank : (old new : ℕ) (a : Content) → rank_of (renamed_content old new a) ≡ rank_of a
same_rank old new None = refl
same_rank old new (Some None) = refl
same_rank old new (Some (Some held)) = refl

few_names : (old new : ℕ) (l : List Content) → AreFew l → AreFew (map (renamed_content old new) l)
few_names old new [] few = tt
few_names old new (x ∷ xs) few = few_renamed rank_of same_content content_exact content_itself (renamed_content old new) (same_rank old new) x xs few

empty_renamed : (old new : ℕ) (versions : List (Version ℕ)) → AllByRecursion IsLeftEmpty versions → AllByRecursion IsLeftEmpty (map (renamed old new) versions)
empty_renamed old new [] all = tt
empty_renamed old new (x ∷ versions) all = ((λ is. ap (renamed_held old new) (all.0 is)), empty_renamed old new versions all.1)

pub ranked_renamed : (old new : ℕ) (versions : List (Version ℕ)) → AreRanked versions → AreRanked (map (renamed old new) versions)
ranked_renamed old new versions is =
    (empty_renamed old new versions is.0, subst (λ (l : List Content). AreFew l) (sym (contents_renamed old new versions)) (few_names old new (contents versions) is.1))

-- ---- neighbours that are equal

contents_joined : (i : ℕ) (versions : List (Version ℕ)) → contents (joined i versions) ≡ remove (contents versions) (suc i)
contents_joined zero [] = refl
contents_joined (suc i) [] = refl
contents_joined zero (x ∷ []) = refl
contents_joined zero (x ∷ y ∷ versions) = refl
contents_joined (suc i) (x ∷ versions) = ap (λ (l : List Content). content x.place ∷ l) (contents_joined i versions)

read_content : (i : ℕ) (versions : List (Version ℕ)) (d : Version ℕ) → get_or (contents versions) i (content d.place) ≡ content (get_or versions i d).place
read_content i [] d = refl
read_content zero (x ∷ versions) d = refl
read_content (suc i) (x ∷ versions) d = read_content i versions d

length_contents : (versions : List (Version ℕ)) → length (contents versions) ≡ length versions
length_contents [] = refl
length_contents (x ∷ versions) = ap suc (length_contents versions)

empty_joined : (i : ℕ) (versions : List (Version ℕ)) → AllByRecursion IsLeftEmpty versions → AllByRecursion IsLeftEmpty (joined i versions)
empty_joined zero [] all = all
empty_joined (suc i) [] all = all
empty_joined zero (x ∷ []) all = all
empty_joined zero (x ∷ y ∷ versions) all = (all.0, all.1.1)
empty_joined (suc i) (x ∷ versions) all = (all.0, empty_joined i versions all.1)

pub ranked_joined : (i : ℕ) (versions : List (Version ℕ)) (d : Version ℕ) → i + 1 < length versions → (get_or versions i d).place ≡ (get_or versions (suc i) d).place → AreRanked versions → AreRanked (joined i versions)
ranked_joined i [] d low same is = absurd (omega arith)
ranked_joined i (x ∷ versions) d low same is =
    let equal : get_or (contents (x ∷ versions)) i (content d.place) ≡ get_or (contents versions) i (content d.place) =
    read_content i (x ∷ versions) d ∙ (ap (λ (p : Place ℕ). content p) same ∙ sym (read_content i versions d)) in
    let few : AreFew (remove (contents (x ∷ versions)) (suc i)) =
    few_once rank_of same_content content_exact content_itself i (content x.place) (contents versions) (content d.place) (omega (arith, length_contents versions)) equal is.1 in
    (empty_joined i (x ∷ versions) is.0, subst (λ (l : List Content). AreFew l) (sym (contents_joined i (x ∷ versions))) few)

content_differ : (x y : Version ℕ) → IsLeftEmpty x → IsLeftEmpty y → holds_same x y ≡ false → same_content (content x.place) (content y.place) ≡ false
content_differ x y empty other differ = split x.place.left y.place.left refl refl
  where
    split : (a b : Bool) → x.place.left ≡ a → y.place.left ≡ b → same_content (content x.place) (content y.place) ≡ false
    split true true p q =
        let here : holds_same x y ≡ true = rw (p, q, empty p, other q) refl in
        absurd (false≢true (sym differ ∙ here))
    split true false p q = rw (p, q) refl
    split false true p q = rw (p, q) refl
    split false false p q =
        let held : holds_same x y ≡ same_held x.place.cell.held y.place.cell.held = rw (p, q) refl in
        let now : same_content (content x.place) (content y.place) ≡ same_held x.place.cell.held y.place.cell.held = rw (p, q) refl in
        now ∙ (sym held ∙ differ)

pub all_differ : (versions : List (Version ℕ)) → AllByRecursion IsLeftEmpty versions → AreApart versions (length versions) → DoDiffer (contents versions)
all_differ [] all apart = tt
all_differ (x ∷ []) all apart = refl
all_differ (x ∷ y ∷ versions) all apart =
    let here : same_content (content x.place) (content y.place) ≡ false = content_differ x y all.0 all.1.0 (apart 0 x (omega arith)) in
    let rest : DoDiffer (contents (y ∷ versions)) = all_differ (y ∷ versions) all.1 (λ i d low.
    ap (λ n. holds_same (get_or (y ∷ versions) i d) (get_or (x ∷ y ∷ versions) n d)) (step i) ∙ apart (suc i) d (omega arith)) in
    omega (arith, ap (λ b. cond {A = ℕ} b 0 1) here, rest)
  where
    step : (i : ℕ) → suc (i + 1) ≡ suc i + 1
    step i = omega arith

pub short : (versions : List (Version ℕ)) → AreRanked versions → DoDiffer (contents versions) → length versions ≤ 5
short [] is differ = omega arith
short (x ∷ versions) is differ =
    omega (arith, length_contents versions, few_entries rank_of same_content content_exact content_itself (content x.place) (contents versions) is.1 differ (Some None) only_none)

-- ---- a sweep

abbrev swept_content : ℕ → Content → Content
swept_content t None = None
swept_content t (Some held) = Some (alive_at t held)

contents_swept : (t : ℕ) (versions : List (Version ℕ)) → contents (map (version_swept t) versions) ≡ map (swept_content t) (contents versions)
contents_swept t [] = refl
contents_swept t (x ∷ versions) = (λ i. split x.place.left i ∷ contents_swept t versions i)
  where
    split : (l : Bool) → content (cond l whole (own (alive_at t x.place.cell.held))) ≡ swept_content t (cond l None (Some x.place.cell.held))
    split true = refl
    split false = refl

sweeps : (t : ℕ) (a : Content) → (swept_content t a ≡ Some None) ⊎ ((swept_content t a ≡ a) × (0 < rank_of a))
sweeps t None = inr (refl, omega arith)
sweeps t (Some None) = inl refl
sweeps t (Some (Some held)) = split (is_alive held t) refl
  where
    split : (b : Bool) → is_alive held t ≡ b → (swept_content t (Some (Some held)) ≡ Some None) ⊎ ((swept_content t (Some (Some held)) ≡ Some (Some held)) × (0 < level_of held.rank))
    split true alive = inr (ap (λ b. Some (cond b (Some held) None)) alive, omega (arith, level_some held.rank))
    split false dead = inl (ap (λ b. Some (cond b (Some held) None)) dead)

empty_swept : (t : ℕ) (versions : List (Version ℕ)) → AllByRecursion IsLeftEmpty versions → AllByRecursion IsLeftEmpty (map (version_swept t) versions)
empty_swept t [] all = tt
empty_swept t (x ∷ versions) all = (split x.place.left, empty_swept t versions all.1)
  where
    split : (l : Bool) → (cond l whole (own (alive_at t x.place.cell.held))).left ≡ true → (cond l whole (own (alive_at t x.place.cell.held))).cell.held ≡ None
    split true is = refl
    split false is = absurd (false≢true is)

pub ranked_swept : (t : ℕ) (versions : List (Version ℕ)) → AreRanked versions → AreRanked (map (version_swept t) versions)
ranked_swept t versions is =
    (empty_swept t versions is.0, subst (λ (l : List Content). AreFew l) (sym (contents_swept t versions)) (few_map (swept_content t) (Some None) (sweeps t) (omega arith) (contents versions) is.1))

less_entry : (numbers : List ℕ) (upto : ℕ) (x : Version ℕ) (xs : List (Version ℕ)) → (content (kept_entry numbers upto x xs).place ≡ content x.place) ⊎ (content (kept_entry numbers upto x xs).place ≡ Some None)
less_entry numbers upto x xs = split (is_seen numbers upto x xs)
  where
    split : (b : Bool) → (content (cond b x (emptied x)).place ≡ content x.place) ⊎ (content (cond b x (emptied x)).place ≡ Some None)
    split true = inl refl
    split false = inr refl

less_pruned : (numbers : List ℕ) (upto : ℕ) (xs : List (Version ℕ)) → AreLess rank_of same_content content_exact content_itself (Some None) refl (contents (pruned numbers upto xs)) (contents xs)
less_pruned numbers upto [] = tt
less_pruned numbers upto (x ∷ xs) = (less_entry numbers upto x xs, less_pruned numbers upto xs)

few_pruned : (numbers : List ℕ) (upto : ℕ) (xs : List (Version ℕ)) → DoDiffer (contents xs) → AreFew (contents xs) → AreFew (contents (pruned numbers upto xs))
few_pruned numbers upto [] differ few = tt
few_pruned numbers upto (x ∷ xs) differ few =
    few_less rank_of same_content content_exact content_itself (Some None) refl (content (kept_entry numbers upto x xs).place) (contents (pruned numbers upto xs)) (content x.place) (contents xs) (less_entry numbers upto x xs) (less_pruned numbers upto xs) differ few

empty_pruned : (numbers : List ℕ) (upto : ℕ) (xs : List (Version ℕ)) → AllByRecursion IsLeftEmpty xs → AllByRecursion IsLeftEmpty (pruned numbers upto xs)
empty_pruned numbers upto [] all = tt
empty_pruned numbers upto (x ∷ xs) all = (split (is_seen numbers upto x xs), empty_pruned numbers upto xs all.1)
  where
    split : (b : Bool) → (cond b x (emptied x)).place.left ≡ true → (cond b x (emptied x)).place.cell.held ≡ None
    split true is = all.0 is
    split false is = refl

pub ranked_pruned : (numbers : List ℕ) (upto : ℕ) (xs : List (Version ℕ)) → DoDiffer (contents xs) → AreRanked xs → AreRanked (pruned numbers upto xs)
ranked_pruned numbers upto xs differ is = (empty_pruned numbers upto xs is.0, few_pruned numbers upto xs differ is.1)
