-- What the permanent flushes of the list have left to reach.
use Rattle.std.proofs.Common.{◌≡◌, ℕ, suc, ◌+◌, ◌-◌, ◌<◌, ◌≤◌, min, Bool, true, false, cond, List, [], ◌∷◌, ◌++◌, length, get_or, refl, sym, ap, ◌∙◌, subst, arith, inl, inr}
use Rattle.std.specs.Prelude.{◌==◌}
use Rattle.std.specs.List.{remove}
use Rattle.std.proofs.lemmas.Bool.{eq-eqb, eqb-true}
use Rattle.std.proofs.lemmas.Bool.Decides.{nat_tests}
use Rattle.std.proofs.Math.ListN.{set}
use Rattle.dns_name.specs.Labels.{Labels}
use Rattle.ranked.specs.declared.flush.Reach.{Reach}
use Rattle.ranked.specs.declared.flush.Reach.TheVariants.{OneType, Name, Zone}
use Rattle.shelf.specs.declared.settling.Settling.{Settling}
use Rattle.shelf.specs.Settling.{first_at, joining, most_left, steps_left, with_left, HaveStepped}
use Rattle.shelf.specs.Sweep.{count_ended, EndNear}
use Rattle.shelf.proofs.ListLaws.{lt_or}

-- ---- the most that one of them has left

push_left : (own : Settling) (settlings : List Settling) → own.left ≤ most_left (settlings ++ own ∷ [])
push_left own [] = omega arith
push_left own (x ∷ settlings) = omega (arith, push_left own settlings)

pub pushed_left : (own : Settling) (front now : List Settling) → now ≡ front ++ own ∷ [] → own.left ≤ most_left now
pushed_left own front now at = omega (arith, push_left own front, ap most_left at)

pub joining_left : (reach : Reach) (zone : Labels) (number names : ℕ) → (joining reach zone number names).left ≡ names
joining_left (OneType kind) zone number names = refl
joining_left Name zone number names = refl
joining_left Zone zone number names = refl

-- the first has gone on, or has gone
pub stepped_left : (from left old new : ℕ) (was now : List Settling) (own : Settling) → 0 < length was → own ≡ get_or was 0 own → now ≡ first_at left was → from ≡ own.left → new ≤ old → (old ≤ from → new ≤ left) → old ≤ most_left was → new ≤ most_left now
stepped_left from left old new [] now own some read at here less step few = absurd (omega (arith, some))
stepped_left from left old new (x ∷ later) now own some read at here less step few =
    subst (λ (l : List Settling). new ≤ most_left l) (sym at) (split (left == 0) refl)
  where
    same : x.left ≡ from
    same = sym (here ∙ ap (λ (o : Settling). o.left) read)

    split : (b : Bool) → (left == 0) ≡ b → new ≤ most_left (cond b later (with_left left x ∷ later))
    split true none = let zero : left ≡ 0 = eqb-true left 0 none in elim (lt_or from old) [
      | inl more ↦ omega (arith, more, less, few, same)
      | inr low ↦ omega (arith, step low, zero)
    ]
    split false some = elim (lt_or from old) [
      | inl more ↦ omega (arith, more, less, few, same)
      | inr low ↦ omega (arith, step low)
    ]

-- ---- steps

pub no_first : (left : ℕ) (settlings : List Settling) → length settlings ≡ 0 → settlings ≡ first_at left settlings
no_first left [] none = refl
no_first left (own ∷ later) none = absurd (omega (arith, none))

pub first_gone : (left : ℕ) (settlings : List Settling) → 0 < length settlings → left ≡ 0 → remove settlings 0 ≡ first_at left settlings
first_gone left [] some none = absurd (omega (arith, some))
first_gone left (own ∷ later) some none =
    let at : (left == 0) ≡ true = eq-eqb left 0 none in
    sym (ap (λ b. cond b later (with_left left own ∷ later)) at)

pub first_put : (left : ℕ) (settlings : List Settling) (own : Settling) → 0 < length settlings → own ≡ get_or settlings 0 own → 0 < left → set settlings 0 (with_left left own) ≡ first_at left settlings
first_put left [] own some read off = absurd (omega (arith, some))
first_put left (x ∷ later) own some read off =
    let first : own ≡ x = read in
    let away : (left == 0) ≡ false = grind (arith, nat_tests) in
    ap (λ (o : Settling). with_left left o ∷ later) first
    ∙ sym (ap (λ b. cond b later (with_left left x ∷ later)) away)

pub first_length : (left : ℕ) (settlings now : List Settling) → now ≡ first_at left settlings → length now ≤ length settlings
first_length left [] now at = omega (arith, ap length at)
first_length left (own ∷ later) now at = omega (arith, ap length at, split (left == 0))
  where
    split : (b : Bool) → length (cond b later (with_left left own ∷ later)) ≤ suc (length later)
    split true = omega arith
    split false = omega arith

pub stepped_none : (most : ℕ) (settlings : List Settling) → length settlings ≡ 0 → HaveStepped most settlings settlings
stepped_none most [] none = (omega arith, omega arith)
stepped_none most (own ∷ later) none = absurd (omega (arith, none))

pub near_none : (ends : List ℕ) (n : ℕ) → EndNear ends ends n n
near_none ends n t = (omega arith, omega arith)

pub near_then : (first old new : List ℕ) (from before to : ℕ) → EndNear first old from before → EndNear old new before to → EndNear first new from to
near_then first old new from before to is then t = (omega (arith, (is t).0, (then t).0), omega (arith, (is t).1, (then t).1))

zero_steps : (most left was rest : ℕ) → left ≡ was - most → left ≡ 0 → (rest + min most (was + 1) ≤ (was + 1) + rest) × ((was + 1) + rest ≤ rest + most + 1)
zero_steps most left was rest at none = (omega (arith, at, none), omega (arith, at, none))

some_steps : (most left was rest : ℕ) → left ≡ was - most → 0 < left → (((left + 1) + rest) + min most (was + 1) ≤ (was + 1) + rest) × ((was + 1) + rest ≤ ((left + 1) + rest) + most + 1)
some_steps most left was rest at some = (omega (arith, at, some), omega (arith, at, some))

pub stepped_some : (most left : ℕ) (own : Settling) (was now : List Settling) → 0 < length was → own ≡ get_or was 0 own → now ≡ first_at left was → left ≡ own.left - most → HaveStepped most was now
stepped_some most left own [] now some read at less = absurd (omega (arith, some))
stepped_some most left own (x ∷ later) now some read at less = subst (λ (l : List Settling). HaveStepped most (x ∷ later) l) (sym at) (split (left == 0) refl)
  where
    less' : left ≡ x.left - most
    less' = let first : own ≡ x = read in subst (λ (o : Settling). left ≡ o.left - most) first less

    split : (b : Bool) → (left == 0) ≡ b → HaveStepped most (x ∷ later) (cond b later (with_left left x ∷ later))
    split true none = zero_steps most left x.left (steps_left later) less' (eqb-true left 0 none)
    split false off = some_steps most left x.left (steps_left later) less' (grind (arith, nat_tests))

near_less : (old new from to rest more : ℕ) → (new + to ≤ old + from) × (old + to ≤ new + from) → rest + from ≤ more + to → (new + rest ≤ old + more) × (old + rest ≤ new + more)
near_less old new from to rest more is less = (omega (arith, is.0, less), omega (arith, is.1, less))

pub near_some : (left : ℕ) (own : Settling) (was now : List Settling) (old new : List ℕ) → 0 < length was → own ≡ get_or was 0 own → now ≡ first_at left was → EndNear old new own.left left → EndNear old new (steps_left was) (steps_left now)
near_some left own [] now old new some read at near = absurd (omega (arith, some))
near_some left own (x ∷ later) now old new some read at near = subst (λ (l : List Settling). EndNear old new (steps_left (x ∷ later)) (steps_left l)) (sym at) (split (left == 0))
  where
    near' : EndNear old new x.left left
    near' = let first : own ≡ x = read in subst (λ (o : Settling). EndNear old new o.left left) first near

    split : (b : Bool) → EndNear old new (steps_left (x ∷ later)) (steps_left (cond b later (with_left left x ∷ later)))
    split true t = near_less (count_ended t old) (count_ended t new) x.left left (steps_left later) ((x.left + 1) + steps_left later) (near' t) (omega arith)
    split false t = near_less (count_ended t old) (count_ended t new) x.left left ((left + 1) + steps_left later) ((x.left + 1) + steps_left later) (near' t) (omega arith)

less_steps : (now most first was : ℕ) → 0 < most → 0 < first → now + min most first ≤ was → now < was
less_steps now most first was few some is = omega (arith, few, some, is)

pub fewer_steps : (most : ℕ) (was now : List Settling) → 0 < most → 0 < length was → HaveStepped most was now → steps_left now < steps_left was
fewer_steps most [] now few some is = absurd (omega (arith, some))
fewer_steps most (own ∷ later) now few some is = less_steps (steps_left now) most (own.left + 1) (steps_left (own ∷ later)) few (omega arith) is.0
