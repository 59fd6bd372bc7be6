-- The second in which the life of a find ends.
use Rattle.std.proofs.Common.{◌≡◌, ℕ, ◌<◌, Bool, true, false, cond, Option, Some, None, refl, ap, ◌∙◌, arith}
use Rattle.std.specs.Prelude.{◌==◌, if◌then◌else◌}
use Rattle.std.proofs.lemmas.Bool.Decides.{nat_tests}
use Rattle.ranked.specs.declared.cell.Admitted.{Admitted}
use Rattle.ranked.specs.Cell.{end_of, is_alive}
use Rattle.cell_store.specs.Sweep.{alive_at}

-- the second in which the life of a cell's find ends; 0 of no find, and of one that is never alive
abbrev pub life_end : {B : Type 0} → Option (Admitted B) → ℕ
life_end None = 0
life_end (Some held) = if held.ttl == 0 then 0 else end_of held

-- A cell's find is alive at a moment, and its life ends in this second.
pub record IsAliveTo {B : Type 0} (t : ℕ) (cell : Option (Admitted B)) (end : ℕ) : Type 0 where
  pub held : Admitted B
  pub alive : alive_at t cell ≡ Some held
  pub at : end_of held ≡ end

alive_some : {B : Type 0} (t : ℕ) (held : Admitted B) → t < life_end (Some held) → IsAliveTo t (Some held) (life_end (Some held))
alive_some t held before = split (held.ttl == 0) refl before
  where
    split : (b : Bool) → (held.ttl == 0) ≡ b → t < cond b 0 (end_of held) → IsAliveTo t (Some held) (cond b 0 (end_of held))
    split true none low = absurd (omega arith)
    split false some low =
        let alive : is_alive held t ≡ true = grind (arith, nat_tests) in
        record { held = held; alive = ap (λ b. cond b (Some held) None) alive; at = refl }

-- A find is alive before its life ends.
pub alive_before_end : {B : Type 0} (t : ℕ) (cell : Option (Admitted B)) → t < life_end cell → IsAliveTo t cell (life_end cell)
alive_before_end t None before = absurd (omega arith)
alive_before_end t (Some held) before = alive_some t held before

ends_some : {B : Type 0} (t end : ℕ) (held : Admitted B) → IsAliveTo t (Some held) end → (t < end) × (life_end (Some held) ≡ end)
ends_some t end held is = split (is_alive held t) refl is.alive
  where
    split : (b : Bool) → is_alive held t ≡ b → cond b (Some held) None ≡ Some is.held → (t < end) × (life_end (Some held) ≡ end)
    split true alive there =
        let one : held ≡ is.held = cc in
        let at : end_of held ≡ end = ap end_of one ∙ is.at in
        let some : (held.ttl == 0) ≡ false = grind (arith, nat_tests) in
        let low : t < end_of held = grind (arith, nat_tests) in
        (omega (arith, low, at), ap (λ b. cond b 0 (end_of held)) some ∙ at)
    split false dead there = absurd cc

-- And it ends there.
pub ends_later : {B : Type 0} (t end : ℕ) (cell : Option (Admitted B)) → IsAliveTo t cell end → (t < end) × (life_end cell ≡ end)
ends_later t end None is = let none : None ≡ Some is.held = is.alive in absurd cc
ends_later t end (Some held) is = ends_some t end held is
