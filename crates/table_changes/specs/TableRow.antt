-- The row of one table. From the table on one side of a change, a saved value gives the table on the other side: `other`.
use Rattle.std.specs.Prelude.{◌≡◌, ◌≢◌, ℕ, Bool, true, false, None, List, [], ◌∷◌}
use Rattle.std.specs.List.{AllByRecursion}
use Rattle.change_law.specs.declared.kept.KeptChange.{KeptChange}
use Rattle.change_law.specs.Face.{Face}
use Rattle.change_law.specs.declared.kept.Standing.{Standing}
use Rattle.change_law.specs.declared.kept.Standing.TheVariants.{Done, Undone}

-- before a change that is in effect and is not chosen
abbrev pub back_over : {S V : Type 0} → (S → V → V) → Bool → Standing → S → V → V
back_over other false Done saved v = other saved v
back_over other _ _ saved v = v

-- after a change that is undone and is chosen
abbrev pub again_over : {S V : Type 0} → (S → V → V) → Bool → Standing → S → V → V
again_over other true Undone saved v = other saved v
again_over other _ _ saved v = v

-- with what is in effect and not chosen taken back, the newest first
abbrev pub taken_back : {S V : Type 0} → (S → V → V) → (ℕ → Bool) → V → List (KeptChange S) → V
taken_back other chosen v [] = v
taken_back other chosen v (k ∷ later) = back_over other (chosen k.ticket) k.standing k.saved (taken_back other chosen v later)

-- with what is undone and chosen made again, the oldest first
abbrev pub made_again : {S V : Type 0} → (S → V → V) → (ℕ → Bool) → V → List (KeptChange S) → V
made_again other chosen v [] = v
made_again other chosen v (k ∷ later) = made_again other chosen (again_over other (chosen k.ticket) k.standing k.saved v) later

-- the table, if only the chosen ones of its changes were in effect
abbrev pub table_by : {S V : Type 0} → (S → V → V) → V → List (KeptChange S) → (ℕ → Bool) → V
table_by other v kept chosen = made_again other chosen (taken_back other chosen v kept) kept

-- Behind an undone change none is in effect.
abbrev pub IsOrdered : {S : Type 0} → List (KeptChange S) → Type 0
IsOrdered [] = Unit {0}
IsOrdered (k ∷ later) = (k.standing ≡ Undone → AllByRecursion (λ e. e.standing ≢ Done) later) × IsOrdered later

-- a choice of no change
abbrev pub nothing : ℕ → Bool
nothing ticket = false

-- Each change that is in effect leads back, the newest first.
abbrev pub LeadBack : {S V : Type 0} → (S → V → V) → (S → V → V → Type 0) → V → List (KeptChange S) → Type 0
LeadBack other Leads v [] = Unit {0}
LeadBack other Leads v (k ∷ later) =
    (k.standing ≡ Done → Leads k.saved (taken_back other nothing v later) (other k.saved (taken_back other nothing v later))) × LeadBack other Leads v later

-- Each change that is undone leads on, the oldest first.
abbrev pub LeadOn : {S V : Type 0} → (S → V → V) → (S → V → V → Type 0) → V → List (KeptChange S) → Type 0
LeadOn other Leads v [] = Unit {0}
LeadOn other Leads v (k ∷ later) = (k.standing ≡ Undone → Leads k.saved v (other k.saved v)) × LeadOn other Leads (again_over other true k.standing k.saved v) later

-- The table keeps these changes.
pub record KeepsRow {S V : Type 0} (other : S → V → V) (Leads : S → V → V → Type 0) (v : V) (kept : List (KeptChange S)) : Type 0 where
  pub ordered : IsOrdered kept
  pub back : LeadBack other Leads v kept
  pub on : LeadOn other Leads v kept

-- a face of a world that has these tables and no cells
abbrev pub face_of : {T : Type 0} → T → Face T
face_of tables = record { tables = tables; cell = λ q. None }
