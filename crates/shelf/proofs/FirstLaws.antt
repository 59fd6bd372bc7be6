-- The first of the names at or below a node: how it comes of those at or below its children.
use Rattle.std.proofs.Common.{◌≡◌, ℕ, ◌+◌, ◌*◌, ◌<◌, ◌≤◌, Option, Some, None, List, [], length, refl, sym, ap, ◌∙◌, subst, arith, ◌⊎◌, inl, inr}
use Rattle.std.specs.Prelude.{slice_get, IfSome, IfNone}
use Rattle.std.specs.Option.{option_map_or}
use Rattle.std.proofs.lemmas.List.{get_or_default}
use Rattle.std.proofs.lemmas.Option.{slice_get_past}
use Rattle.dns_name.specs.Labels.{Labels}
use Rattle.cell_store.specs.declared.owner.OwnerCells.{OwnerCells}
use Rattle.winner_tree.specs.Tree.{moment_at, never, IsBelow}
use Rattle.shelf.specs.declared.settling.Settling.{Settling}
use Rattle.shelf.specs.declared.shelf.KeptFlush.{KeptFlush}
use Rattle.shelf.specs.declared.oldest.Candidate.{Candidate}
use Rattle.shelf.specs.First.{life_at, name_at, name_life, AreBounds, Beats, IsAhead, IsBefore, IsCandidate, IsEnough, IsFirst, IsNoLater, IsSoonerOf}
use Rattle.shelf.specs.declared.ends.Ends.{Ends}
use Rattle.shelf.specs.Clean.{zeros_to, AreEnds}
use Rattle.shelf.specs.Lasts.{last_at, winner_at, AreLow, AreVisited, IsNoted}
use Rattle.shelf.proofs.WinnerLaws.{root_leads}
use Rattle.ranked.specs.Oldest.{IsSooner}
use Rattle.ranked.specs.OldestLaws.{sooner_itself, sooner_then}
use Rattle.shelf.proofs.OrderLaws.{below_low, below_root, below_split, sooner_same}

-- ---- one of two candidates

pub sooner_left : (a b r : Option Candidate) → IsSoonerOf a b r → IsNoLater r a
sooner_left None b r is = tt
sooner_left (Some a) None r is = subst (λ (o : Option Candidate). IsNoLater o (Some a)) (sym is) (sooner_itself a.end a.name.now)
sooner_left (Some a) (Some b) r (inl is) = subst (λ (o : Option Candidate). IsNoLater o (Some a)) (sym is.0) (sooner_itself a.end a.name.now)
sooner_left (Some a) (Some b) r (inr is) = subst (λ (o : Option Candidate). IsNoLater o (Some a)) (sym is.0) is.1

pub sooner_right : (a b r : Option Candidate) → IsSoonerOf a b r → IsNoLater r b
sooner_right a None r is = tt
sooner_right None (Some b) r is = subst (λ (o : Option Candidate). IsNoLater o (Some b)) (sym is) (sooner_itself b.end b.name.now)
sooner_right (Some a) (Some b) r (inl is) = subst (λ (o : Option Candidate). IsNoLater o (Some b)) (sym is.0) is.1
sooner_right (Some a) (Some b) r (inr is) = subst (λ (o : Option Candidate). IsNoLater o (Some b)) (sym is.0) (sooner_itself b.end b.name.now)

pub sooner_some : (P : Candidate → Type 0) (a b r : Option Candidate) → IsSoonerOf a b r → IfSome a P → IfSome b P → IfSome r P
sooner_some P None b r is p q = subst (λ (o : Option Candidate). IfSome o P) (sym is) q
sooner_some P (Some a) None r is p q = subst (λ (o : Option Candidate). IfSome o P) (sym is) p
sooner_some P (Some a) (Some b) r (inl is) p q = subst (λ (o : Option Candidate). IfSome o P) (sym is.0) p
sooner_some P (Some a) (Some b) r (inr is) p q = subst (λ (o : Option Candidate). IfSome o P) (sym is.0) q

later_then : (a b c : Option Candidate) → IsNoLater a b → IsNoLater b c → IsNoLater a c
later_then a b None p q = tt
later_then a None (Some c) p q = absurd q
later_then None (Some b) (Some c) p q = absurd p
later_then (Some a) (Some b) (Some c) p q = sooner_then a.end b.end c.end a.name.now b.name.now c.name.now p q

later_itself : (a : Option Candidate) → IsNoLater a a
later_itself None = tt
later_itself (Some a) = sooner_itself a.end a.name.now

module _ (settlings : List Settling) (kept : List KeptFlush) (entries : List (Labels × OwnerCells)) (t : ℕ) where
  abbrev Is : Option Candidate → Type 0
  Is own = IfSome own (IsCandidate settlings kept entries t)

  abbrev life : ℕ → ℕ
  life i = life_at settlings kept entries i

  -- what one beats, another does that is not after it
  beats_then : (a b : Option Candidate) (i : ℕ) → Is a → Is b → IsNoLater a b → Beats settlings kept entries t b i → Beats settlings kept entries t a i
  beats_then None None i p q later beats = beats
  beats_then None (Some b) i p q later beats = absurd later
  beats_then (Some a) None i p q later beats = λ alive. absurd (omega (arith, beats, alive))
  beats_then (Some a) (Some b) i p q later beats = λ alive.
      let first : IsBefore settlings kept entries a.place b.place =
      sooner_same a.end (life a.place) b.end (life b.place) a.name.now (name_at entries a.place) b.name.now (name_at entries b.place) p.end p.name q.end q.name later in
      sooner_then (life a.place) (life b.place) (life i) (name_at entries a.place) (name_at entries b.place) (name_at entries i) first (beats alive)

  -- ---- the name at a node

  own_beats : (node : ℕ) (own : Option Candidate) → IfSome own (λ c. (c.place ≡ node) × IsCandidate settlings kept entries t c) → IfNone own (life_at settlings kept entries node ≤ t) → Beats settlings kept entries t own node
  own_beats node None some none = none
  own_beats node (Some c) some none = λ alive. subst (λ n. IsBefore settlings kept entries n node) (sym some.0) (sooner_itself (life node) (name_at entries node))

  own_is : (node : ℕ) (own : Option Candidate) → IfSome own (λ c. (c.place ≡ node) × IsCandidate settlings kept entries t c) → Is own
  own_is node None some = tt
  own_is node (Some c) some = some.1

  -- ---- no name at or below the node need be asked

  -- there is no such node
  pub past : (node : ℕ) (other : Option Candidate) → length entries ≤ node → Is other → IsFirst settlings kept entries t (IsBelow node) other other
  past node other high is = record {
    candidate = is;
    later = later_itself other;
    beats = λ i below.
        let none : slice_get entries i ≡ None = slice_get_past entries i (omega (arith, below_low node i below, high)) in
        let dead : life_at settlings kept entries i ≡ 0 = ap (λ (o : Option (Labels × OwnerCells)). option_map_or (λ e. name_life settlings kept e.0 e.1) o 0) none in
        split other i dead;
  }
    where
      split : (o : Option Candidate) (i : ℕ) → life_at settlings kept entries i ≡ 0 → Beats settlings kept entries t o i
      split None i dead = omega (arith, dead)
      split (Some c) i dead = λ alive. absurd (omega (arith, dead, alive))

  within_or : (a b : ℕ) → (a < b) ⊎ (b ≤ a)
  within_or a b = grind arith

  -- they end later
  pub ahead : (ends : List ℕ) (node : ℕ) (other : Option Candidate) → AreBounds settlings kept entries ends → IsAhead settlings ends node other → Is other → IsFirst settlings kept entries t (IsBelow node) other other
  ahead ends node None bounds is candidate = absurd is
  ahead ends node (Some c) bounds is candidate = record {
    candidate = candidate;
    later = sooner_itself c.end c.name.now;
    beats = λ i below alive. elim (within_or i (length ends)) [
      | inl there ↦
          let own : c.end < life_at settlings kept entries i = omega (arith, is.1 i below there, (bounds is.0).1 i there) in
          inl (omega (arith, own, candidate.end))
      | inr far ↦
          let none : slice_get entries i ≡ None = slice_get_past entries i (omega (arith, far, (bounds is.0).0)) in
          let dead : life_at settlings kept entries i ≡ 0 = ap (λ (o : Option (Labels × OwnerCells)). option_map_or (λ e. name_life settlings kept e.0 e.1) o 0) none in
          absurd (omega (arith, dead, alive))
    ];
  }

  -- ---- the name at a place

  pub nothing : (other : Option Candidate) → Is other → IsFirst settlings kept entries t (λ i. ⊥) other other
  nothing other is = record { candidate = is; later = later_itself other; beats = λ i no_place. absurd no_place }

  pub fewer : (place : ℕ) (other own : Option Candidate) → IsFirst settlings kept entries t (λ i. i ≡ place) other own → IsFirst settlings kept entries t (λ i. ⊥) other own
  fewer place other own is = record { candidate = is.candidate; later = is.later; beats = λ i no_place. absurd no_place }

  pub met : (place : ℕ) (other own first : Option Candidate) → Is other → IfSome own (λ c. (c.place ≡ place) × IsCandidate settlings kept entries t c) → IfNone own (life_at settlings kept entries place ≤ t)
      → IsSoonerOf other own first → IsFirst settlings kept entries t (λ i. i ≡ place) other first
  met place other own first is some none one =
      let candidate : Is first = sooner_some (IsCandidate settlings kept entries t) other own first one is (own_is place own some) in
      record {
        candidate = candidate;
        later = sooner_left other own first one;
        beats = λ i at.
            subst (λ n. Beats settlings kept entries t first n) (sym at)
            (beats_then first own place candidate (own_is place own some) (sooner_right other own first one) (own_beats place own some none));
      }

  later_bound : (end bound full : ℕ) (n m : Labels) → bound ≤ full → IsSooner end n bound m → IsSooner end n full m
  later_bound end bound full n m low (inl is) = inl (omega (arith, is, low))
  later_bound end bound full n m low (inr is) = elim (split bound full low) [
    | inl less ↦ inl (omega (arith, is.0, less))
    | inr same ↦ inr (is.0 ∙ same, is.1)
  ]
    where
      split : (a b : ℕ) → a ≤ b → (a < b) ⊎ (a ≡ b)
      split a b low = grind arith

  -- it is not before the candidate
  pub enough : (ends : List ℕ) (place : ℕ) (other : Option Candidate) → AreBounds settlings kept entries ends → IsEnough settlings entries ends place other → Is other → IsFirst settlings kept entries t (λ i. i ≡ place) other other
  enough ends place None bounds is candidate = absurd is
  enough ends place (Some c) bounds is candidate = record {
    candidate = candidate;
    later = sooner_itself c.end c.name.now;
    beats = λ i at alive.
        let low : moment_at ends place ≤ life place = (bounds is.0).1 place is.1 in
        let own : IsSooner c.end c.name.now (life place) (name_at entries place) = later_bound c.end (moment_at ends place) (life place) c.name.now (name_at entries place) low is.2 in
        subst (λ n. IsBefore settlings kept entries c.place n) (sym at)
        (sooner_same c.end (life c.place) (life place) (life place) c.name.now (name_at entries c.place) (name_at entries place) (name_at entries place) candidate.end candidate.name refl refl own);
  }

  -- ---- the first by the seconds that the last visits noted

  noted_beats : (ends : Ends) (own : Candidate) → AreEnds kept entries ends → (settlings ≡ [] → ends.left ≡ 0) → AreVisited settlings ends.moments → IsNoted settlings kept entries ends.lasts.ends.items t (winner_at ends.lasts.winners.items 0) own
      → (i : ℕ) → i < length entries → IsBefore settlings kept entries own.place i
  noted_beats ends own is all visited noted i there =
      let lasts = ends.lasts.ends.items in
      let w = winner_at ends.lasts.winners.items 0 in
      let long : i < length ends.moments = omega (arith, there, is.size) in
      let known : AreLow kept entries ends.moments lasts = subst (λ n. AreLow kept entries (zeros_to n ends.moments) lasts) (all visited.0) is.low in
      let some : 0 < moment_at ends.moments i = visited.1 i (below_root i) long in
      let low : last_at lasts i ≤ life_at [] kept entries i = known i (omega (arith, some, get_or_default ends.moments i never 0 long)) in
      let same : life i ≡ life_at [] kept entries i = ap (λ (s : List Settling). life_at s kept entries i) visited.0 in
      let first : IsSooner (last_at lasts w) (name_at entries w) (life i) (name_at entries i) =
      later_bound (last_at lasts w) (last_at lasts i) (life i) (name_at entries w) (name_at entries i) (omega (arith, low, same)) (root_leads entries ends.lasts is.winners i there) in
      let end : last_at lasts w ≡ life own.place = sym noted.2 ∙ noted.1.end in
      let name : name_at entries w ≡ name_at entries own.place = ap (name_at entries) (sym noted.0) in
      sooner_same (last_at lasts w) (life own.place) (life i) (life i) (name_at entries w) (name_at entries own.place) (name_at entries i) (name_at entries i) end name refl refl first

  pub noted_first : (ends : Ends) (place : ℕ) (result : Option Candidate) → AreEnds kept entries ends → (settlings ≡ [] → ends.left ≡ 0) → AreVisited settlings ends.moments → place ≡ winner_at ends.lasts.winners.items 0
      → IfSome result (IsNoted settlings kept entries ends.lasts.ends.items t place) → IfSome result (λ own. IsFirst settlings kept entries t (IsBelow 0) None (Some own))
  noted_first ends place None is all visited at noted = tt
  noted_first ends place (Some own) is all visited at noted = record {
    candidate = noted.1;
    later = tt;
    beats = λ i below alive. elim (within_or i (length entries)) [
      | inl there ↦ noted_beats ends own is all visited (subst (λ p. IsNoted settlings kept entries ends.lasts.ends.items t p own) at noted) i there
      | inr far ↦
          let none : slice_get entries i ≡ None = slice_get_past entries i far in
          let dead : life_at settlings kept entries i ≡ 0 = ap (λ (o : Option (Labels × OwnerCells)). option_map_or (λ e. name_life settlings kept e.0 e.1) o 0) none in
          absurd (omega (arith, dead, alive))
    ];
  }

  -- ---- a node and its children

  pub joined : (node near far : ℕ) (other first second third fourth : Option Candidate) → ((near ≡ 2 * node + 1) × (far ≡ 2 * node + 2)) ⊎ ((near ≡ 2 * node + 2) × (far ≡ 2 * node + 1))
      → IsFirst settlings kept entries t (λ i. ⊥) other first → IsFirst settlings kept entries t (IsBelow near) first second → IsFirst settlings kept entries t (IsBelow far) second third
      → IsFirst settlings kept entries t (λ i. i ≡ node) third fourth → IsFirst settlings kept entries t (IsBelow node) other fourth
  joined node near far other first second third fourth children one two three four = record {
    candidate = four.candidate;
    later = later_then fourth first other (later_then fourth second first by_second two.later) one.later;
    beats = λ i below. elim (below_split node i below) [
      | inl here ↦ four.beats i here
      | inr down ↦ elim children [
        | inl same ↦ elim down [
          | inl left ↦ near_beats i (subst (λ n. IsBelow n i) (sym same.0) left)
          | inr right ↦ far_beats i (subst (λ n. IsBelow n i) (sym same.1) right)
        ]
        | inr turned ↦ elim down [
          | inl left ↦ far_beats i (subst (λ n. IsBelow n i) (sym turned.1) left)
          | inr right ↦ near_beats i (subst (λ n. IsBelow n i) (sym turned.0) right)
        ]
      ]
    ];
  }
    where
      by_second : IsNoLater fourth second
      by_second = later_then fourth third second four.later three.later

      near_beats : (i : ℕ) → IsBelow near i → Beats settlings kept entries t fourth i
      near_beats i below = beats_then fourth second i four.candidate two.candidate by_second (two.beats i below)

      far_beats : (i : ℕ) → IsBelow far i → Beats settlings kept entries t fourth i
      far_beats i below = beats_then fourth third i four.candidate three.candidate four.later (three.beats i below)
