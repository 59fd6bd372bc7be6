-- Where nothing is cleared, a choice with every change of a table is allowed: lemmas for implementors and users of worlds.
use Rattle.std.proofs.Common.{◌≡◌, ◌≢◌, ◌<◌, ◌∙◌, ◌∷◌, [], ℕ, Bool, true, false, cond, Option, Some, None, List, refl, sym, ap, subst, arith}
use Rattle.std.specs.Prelude.{◌==◌, ◌||◌, is_some, if◌then◌else◌}
use Rattle.std.specs.List.{AllByRecursion}
use Rattle.std.proofs.lemmas.Bool.{false≢true}
use Rattle.change_law.specs.declared.kept.KeptChange.{KeptChange}
use Rattle.change_law.specs.declared.kept.Standing.{Standing}
use Rattle.change_law.specs.declared.kept.Standing.TheVariants.{Done, Undone, Cleared}
use Rattle.change_law.specs.Choice.{AllowsAt, AreLeftOut, IsChoice, IsOneTable}
use Rattle.change_law.specs.Oldest.{AreCurrent}

pub same_number : (n : ℕ) → (n == n) ≡ true
same_number n = grind (arith)

pub other_number : (a b : ℕ) → a ≢ b → (a == b) ≡ false
other_number a b h = grind (arith, h)

no_one : (b : Option ℕ) → IsOneTable None b → ⊥
no_one None one = one
no_one (Some n) one = one

module _ {S : Type 0} (table : S → Option ℕ) where
  -- a choice, with every change of a table
  abbrev pub with_tables : List (KeptChange S) → (ℕ → Bool) → ℕ → Bool
  with_tables [] chosen n = chosen n
  with_tables (k ∷ later) chosen n = if k.ticket == n then is_some (table k.saved) || chosen n else with_tables later chosen n

  -- One choice has what another has, and the change if it is of a table.
  abbrev pub HasAlso : (ℕ → Bool) → (ℕ → Bool) → KeptChange S → Type 0
  HasAlso chosen other k = other k.ticket ≡ (is_some (table k.saved) || chosen k.ticket)

  also_past : (chosen : ℕ → Bool) (k : KeptChange S) (later those : List (KeptChange S)) → AllByRecursion (λ j. k.ticket < j.ticket) those →
      AllByRecursion (HasAlso chosen (with_tables later chosen)) those → AllByRecursion (HasAlso chosen (with_tables (k ∷ later) chosen)) those
  also_past chosen k later [] less all = tt
  also_past chosen k later (j ∷ those) less all =
      let differs : (k.ticket == j.ticket) ≡ false = other_number k.ticket j.ticket (λ same. absurd (omega (arith, same, less.0))) in (
        ap (λ (b : Bool). cond b (is_some (table k.saved) || chosen j.ticket) (with_tables later chosen j.ticket)) differs ∙ all.0,
        also_past chosen k later those less.1 all.1,
      )

  pub has_also : (chosen : ℕ → Bool) (kept : List (KeptChange S)) → AreCurrent kept → AllByRecursion (HasAlso chosen (with_tables kept chosen)) kept
  has_also chosen [] current = tt
  has_also chosen (k ∷ kept) current = (
    ap (λ (b : Bool). cond b (is_some (table k.saved) || chosen k.ticket) (with_tables kept chosen k.ticket)) (same_number k.ticket),
    also_past chosen k kept kept current.1 (has_also chosen kept current.2),
  )

  pub outside : (chosen : ℕ → Bool) (n : ℕ) (kept : List (KeptChange S)) → AllByRecursion (λ k. k.ticket ≢ n) kept → with_tables kept chosen n ≡ chosen n
  outside chosen n [] absent = refl
  outside chosen n (k ∷ kept) absent =
      ap (λ (b : Bool). cond b (is_some (table k.saved) || chosen n) (with_tables kept chosen n)) (other_number k.ticket n absent.0) ∙ outside chosen n kept absent.1

  none_left : (chosen other : ℕ → Bool) (k : KeptChange S) (later : List (KeptChange S)) → HasAlso chosen other k → other k.ticket ≡ false → AreLeftOut table other k.saved later
  none_left chosen other k [] also out = tt
  none_left chosen other k (j ∷ later) also out = (λ one. absurd (by (table k.saved) also one), none_left chosen other k later also out)
    where
      by : (t : Option ℕ) → other k.ticket ≡ (is_some t || chosen k.ticket) → IsOneTable t (table j.saved) → ⊥
      by None also one = no_one (table j.saved) one
      by (Some n) also one = false≢true (sym out ∙ also)

  pub also_choice : (chosen other : ℕ → Bool) (kept : List (KeptChange S)) → AreCurrent kept → AllByRecursion (HasAlso chosen other) kept → IsChoice table kept other
  also_choice chosen other [] current all = tt
  also_choice chosen other (k ∷ kept) current all = (allows k.standing current.0, also_choice chosen other kept current.2 all.1)
    where
      allows : (s : Standing) → s ≢ Cleared → AllowsAt table other s k kept
      allows Done now = none_left chosen other k kept all.0
      allows Undone now = none_left chosen other k kept all.0
      allows Cleared now = absurd (now refl)
