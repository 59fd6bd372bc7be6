-- No permanent flush of the list is outdone by a later one.
use Rattle.std.proofs.Common.{◌≡◌, ℕ, Bool, true, false, cond, List, [], ◌∷◌, ◌++◌, refl, sym, subst}
use Rattle.std.specs.Prelude.{◌==◌, not}
use Rattle.std.specs.List.{AllByRecursion}
use Rattle.dns_name.specs.Labels.{Labels}
use Rattle.shelf.specs.declared.settling.Settling.{Settling}
use Rattle.shelf.specs.Settling.{first_at, is_outdone, with_left, without_outdone, AreUseful}
use Rattle.cell_store.specs.TestLaws.{not_true}

all_without : (P : Settling → Type 0) (zone : Labels) (number : ℕ) (settlings : List Settling) → AllByRecursion P settlings → AllByRecursion P (without_outdone zone number settlings)
all_without P zone number [] all = tt
all_without P zone number (own ∷ later) all = split (not (is_outdone zone number own)) (all_without P zone number later all.1)
  where
    split : (b : Bool) → AllByRecursion P (without_outdone zone number later) → AllByRecursion P (cond b (own ∷ without_outdone zone number later) (without_outdone zone number later))
    split true rest = (all.0, rest)
    split false rest = rest

all_push : (P : Settling → Type 0) (settlings : List Settling) (new : Settling) → AllByRecursion P settlings → P new → AllByRecursion P (settlings ++ new ∷ [])
all_push P [] new all here = (here, tt)
all_push P (own ∷ later) new all here = (all.0, all_push P later new all.1 here)

-- a flush joins the list, without those that it outdoes
useful_more : (new : Settling) (settlings : List Settling) → AreUseful settlings → AreUseful (without_outdone new.zone new.number settlings ++ new ∷ [])
useful_more new [] is = (tt, tt)
useful_more new (own ∷ later) is = split (not (is_outdone new.zone new.number own)) refl (useful_more new later is.1)
  where
    split : (b : Bool) → not (is_outdone new.zone new.number own) ≡ b → AreUseful (without_outdone new.zone new.number later ++ new ∷ [])
        → AreUseful (cond b (own ∷ without_outdone new.zone new.number later) (without_outdone new.zone new.number later) ++ new ∷ [])
    split true at rest = (
      all_push (λ other. is_outdone other.zone other.number own ≡ false) (without_outdone new.zone new.number later) new
          (all_without (λ other. is_outdone other.zone other.number own ≡ false) new.zone new.number later is.0) (not_true (is_outdone new.zone new.number own) at),
      rest,
    )
    split false at rest = rest

pub useful_joined : (own : Settling) (was now : List Settling) → now ≡ without_outdone own.zone own.number was ++ own ∷ [] → AreUseful was → AreUseful now
useful_joined own was now at is = subst (λ (l : List Settling). AreUseful l) (sym at) (useful_more own was is)

pub useful_settled : (zone : Labels) (number left : ℕ) (was now : List Settling) → now ≡ without_outdone zone number was ++ record { zone = zone; number = number; left = left } ∷ [] → AreUseful was → AreUseful now
useful_settled zone number left was now at is = subst (λ (l : List Settling). AreUseful l) (sym at) (useful_more (record { zone = zone; number = number; left = left }) was is)

-- the first flush has gone on, or has gone
pub useful_stepped : (left : ℕ) (was now : List Settling) → now ≡ first_at left was → AreUseful was → AreUseful now
useful_stepped left [] now at is = subst (λ (l : List Settling). AreUseful l) (sym at) tt
useful_stepped left (own ∷ later) now at is = subst (λ (l : List Settling). AreUseful l) (sym at) (split (left == 0))
  where
    split : (b : Bool) → AreUseful (cond b later (with_left left own ∷ later))
    split true = is.1
    split false = is
