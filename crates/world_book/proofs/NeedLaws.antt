-- The undo of a command that removed nothing needs no memory.
use Rattle.std.proofs.Common.{◌≡◌, ℕ, ◌+◌, ◌-◌, Bool, true, false, Some, None, ◌⊎◌, inl, inr, List, [], ◌∷◌, ◌++◌, zero, suc, length, drop, refl, sym, ap, ◌∙◌, append_assoc}
use Rattle.std.specs.Prelude.{◌==◌, ◌&&◌, ◌||◌, if◌then◌else◌}
use Rattle.std.proofs.lemmas.Bool.{cases_Bool, eq-eqb, eqb-true, false≢true}
use Rattle.std.proofs.lemmas.List.Folds.{list_any-append}
use Rattle.change_law.specs.declared.kept.KeptChange.{KeptChange}
use Rattle.change_law.specs.declared.kept.Standing.{Standing}
use Rattle.change_law.specs.declared.kept.Standing.TheVariants.{Done, Undone, Cleared}
use Rattle.change_law.specs.declared.world.World.{Ghosts}
use Rattle.change_law.specs.Choice.{is_done}
use Rattle.undo_journal.specs.Journal.{Changes, NeedsNone, in_effect, last_of, turnable}
use Rattle.undo_journal.specs.Needs.{HaveNeeds, IsNeededAfter, TurnNeedsNone, UndoNeedsNone, is_needy, needs_of, undo_needs}
use Rattle.history.specs.declared.event.Command.{Command}
use Rattle.history.specs.declared.event.Event.{Event}
use Rattle.history.specs.declared.event.Event.TheVariants.{Admit, Look, Sweep, Forget, Do, Undo, Redo, UndoOf, RedoOf}
use Rattle.history.specs.declared.tables.Tables.{Tables}
use Rattle.history.specs.History.{Past, past_of, reason_of, tables_of, ticket_unless}
use Rattle.dns_name.specs.ListLaws.{all_weaker}
use Rattle.world_book.specs.Removals.{HasRemoved, IsRemoval, removes}
use Rattle.world_book.specs.Step.{IsFree}
use Rattle.world_book.specs.Tied.{GainsNeeds, IsTied}
use Rattle.world_book.specs.Turned.{turn_event, turn_of_event}
use Rattle.world_book.specs.Versions.{IsFreeWhere}

-- ---- the needs of a list

from_rest : (a b : Bool) → (b ≡ true) → (a || b) ≡ true
from_rest true b e = refl
from_rest false b e = e

one_or_rest : (a b : Bool) → (a || b) ≡ true → (a ≡ true) ⊎ (b ≡ true)
one_or_rest true b e = inl refl
one_or_rest false b e = inr e

neither : (a b : Bool) → (a || b) ≡ false → (a ≡ false) × (b ≡ false)
neither true b e = absurd (false≢true (sym e))
neither false b e = (refl, e)

both_true : (a b : Bool) → (a && b) ≡ true → (a ≡ true) × (b ≡ true)
both_true true b e = (refl, e)
both_true false b e = absurd (false≢true e)

needy_drop : (n : ℕ) (needs : List (ℕ × Bool)) (t : ℕ) → is_needy (drop n needs) t ≡ true → is_needy needs t ≡ true
needy_drop zero needs t h = h
needy_drop (suc n) [] t h = h
needy_drop (suc n) (one ∷ needs) t h = from_rest (one.0 == t && one.1) (is_needy needs t) (needy_drop n needs t h)

-- a new one at the end
needy_push : (needs : List (ℕ × Bool)) (ticket t : ℕ) (need : Bool) → is_needy (needs ++ (ticket, need) ∷ []) t ≡ true → (is_needy needs t ≡ true) ⊎ ((ticket ≡ t) × (need ≡ true))
needy_push needs ticket t need h =
    elim (one_or_rest (is_needy needs t) (is_needy ((ticket, need) ∷ []) t) (sym (list_any-append (λ (one : ℕ × Bool). one.0 == t && one.1) needs ((ticket, need) ∷ [])) ∙ h)) [
      | inl before ↦ inl before
      | inr new ↦ inr (last new)
    ]
  where
    last : is_needy ((ticket, need) ∷ []) t ≡ true → (ticket ≡ t) × (need ≡ true)
    last is =
        elim (one_or_rest (ticket == t && need) false is) [
          | inl here ↦ let parts = both_true (ticket == t) need here in (eqb-true ticket t parts.0, parts.1)
          | inr none ↦ absurd (false≢true none)
        ]

module _ {S : Type 0} (next after : S → Bool) where
  needy_in_effect : (kept : List (KeptChange S)) (t : ℕ) → is_needy (needs_of next after (in_effect kept)) t ≡ true → is_needy (needs_of next after kept) t ≡ true
  needy_in_effect [] t h = h
  needy_in_effect (k ∷ kept) t h =
      let own : Bool = k.ticket == t && undo_needs next after k in
      elim (cases_Bool (is_done k.standing)) [
        | inl done ↦
            let here : (own || is_needy (needs_of next after (in_effect kept)) t) ≡ true
            = sym (ap (λ (b : Bool). is_needy (needs_of next after (if b then k ∷ in_effect kept else in_effect kept)) t) done) ∙ h in
            elim (one_or_rest own (is_needy (needs_of next after (in_effect kept)) t) here) [
              | inl is ↦ ap (λ (b : Bool). b || is_needy (needs_of next after kept) t) is
              | inr rest ↦ from_rest own (is_needy (needs_of next after kept) t) (needy_in_effect kept t rest)
            ]
        | inr out ↦
            from_rest own (is_needy (needs_of next after kept) t)
            (needy_in_effect kept t (sym (ap (λ (b : Bool). is_needy (needs_of next after (if b then k ∷ in_effect kept else in_effect kept)) t) out) ∙ h))
      ]

  -- no need, no memory
  pub no_need : (kept : List (KeptChange S)) (t : ℕ) → is_needy (needs_of next after kept) t ≡ false → UndoNeedsNone next kept t
  no_need [] t h = tt
  no_need (k ∷ kept) t h =
      let parts = neither (k.ticket == t && undo_needs next after k) (is_needy (needs_of next after kept) t) h in
      (λ own done. sym (ap (λ (s : Standing). if is_done s then next k.saved else after k.saved) done) ∙ sym (ap (λ (b : Bool). b && undo_needs next after k) (eq-eqb k.ticket t own)) ∙ parts.0, no_need kept t parts.1)

-- ---- after an event

pub needs_still : {S : Type 0} (next after : S → Bool) (before now : Changes S) → now ≡ before → HaveNeeds next after before now
needs_still {S} next after before now same = ap (λ (x : Changes S). needs_of next after x.kept) same

module _ {W S : Type 0} (by : Ghosts W Tables S Command) where
  pub keeps_needs : (event : Event) (w : W) (before after : Changes S) → HaveNeeds by.needs_memory by.needs_memory_after before after → GainsNeeds by event w before after
  keeps_needs event w before after same = λ bound past tied ticket h. inl (ap (λ (l : List (ℕ × Bool)). is_needy l ticket) (sym same) ∙ h)

  -- a command that was accepted
  pub made_needs : (w : W) (before after : Changes S) (moment : ℕ) (command : Command) (ticket : ℕ) (removed : Tables → Bool) → ((t : Tables) → removed t ≡ removes command t) → ticket ≡ before.tickets + 1 →
      ((bound : ℕ) (past : Past) → IsTied by w before bound past → (reason_of past command ≡ None) × ((by.shown w).tables ≡ tables_of past)) →
      IsNeededAfter by.needs_memory by.needs_memory_after before ticket (removed (by.shown w).tables) after → GainsNeeds by (Do moment command) w before after
  made_needs w before after moment command ticket removed same next shown is = λ bound past tied t h.
      let old = needs_of by.needs_memory by.needs_memory_after (in_effect before.kept) in
      let all = old ++ (ticket, is.need) ∷ [] in
      let there : is_needy all t ≡ true = needy_drop (length all - before.limit) all t (sym (ap (λ (l : List (ℕ × Bool)). is_needy l t) is.all) ∙ h) in
      let here = shown bound past tied in
      elim (needy_push old ticket t is.need there) [
        | inl more ↦ inl (needy_in_effect by.needs_memory by.needs_memory_after before.kept t more)
        | inr new ↦
            let took : ticket_unless past.marks (reason_of past command) ≡ Some t
            = ap (ticket_unless past.marks) here.0 ∙ ap Some (sym (next ∙ ap (λ (n : ℕ). n + 1) tied.tickets) ∙ new.0) in
            inr (took, sym (same (tables_of past)) ∙ ap removed (sym here.1) ∙ removed_is (removed (by.shown w).tables) is.free new.1)
      ]
    where
      removed_is : (b : Bool) → (b ≡ false → is.need ≡ false) → is.need ≡ true → b ≡ true
      removed_is true free need = refl
      removed_is false free need = absurd (false≢true (sym (free refl) ∙ need))

-- ---- by a history

-- what removed something did so in a longer history
pub removed_more : (bound : ℕ) (h : List Event) (event : Event) (t : ℕ) → HasRemoved bound h t → HasRemoved bound (h ++ event ∷ []) t
removed_more bound h event t has = record {
  before = has.before;
  event = has.event;
  after = has.after ++ event ∷ [];
  split = ap (λ (l : List Event). l ++ event ∷ []) has.split ∙ append_assoc has.before (has.event ∷ has.after) (event ∷ []);
  removal = has.removal;
}

pub removed_now : (bound : ℕ) (h : List Event) (event : Event) (t : ℕ) → IsRemoval (past_of bound h) event t → HasRemoved bound (h ++ event ∷ []) t
removed_now bound h event t is = record { before = h; event = event; after = []; split = refl; removal = is }

or_weaker : {A B C : Type 0} → (B → C) → A ⊎ B → A ⊎ C
or_weaker f (inl a) = inl a
or_weaker f (inr b) = inr (f b)

-- an event that needs no memory, by a weaker property of tickets
pub free_weaker : (P Q : ℕ → Type 0) → ((t : ℕ) → P t → Q t) → (past : Past) (event : Event) → IsFreeWhere P past event → IsFreeWhere Q past event
free_weaker P Q f past (Admit m find) h = h
free_weaker P Q f past (Look m ask) h = h
free_weaker P Q f past (Sweep m) h = h
free_weaker P Q f past (Forget m owner) h = h
free_weaker P Q f past (Do m command) h = h
free_weaker P Q f past (Undo m) h = (h.0, h.1, or_weaker (f h.0) h.2)
free_weaker P Q f past (Redo m) h = h
free_weaker P Q f past (UndoOf m t) h = or_weaker (f t) h
free_weaker P Q f past (RedoOf m t) h = h

-- ---- an undo or a redo that wants no memory

module _ {S : Type 0} (needs : S → Bool) where
  turn_needs_none : (from : Standing) (kept : List (KeptChange S)) (t : ℕ) → NeedsNone needs kept t → TurnNeedsNone needs from kept t
  turn_needs_none from kept t none = all_weaker _ _ (λ k free own stands. free own) kept none

  pub turn_is_free : (from : Standing) (changes : Changes S) (moment : ℕ) → IsFree needs changes (turn_event from moment) →
      (ticket : ℕ) × (last_of (turnable from changes) ≡ Some ticket) × TurnNeedsNone needs from changes.kept ticket
  turn_is_free Done changes moment free = free
  turn_is_free Undone changes moment free = (free.0, free.1, turn_needs_none Undone changes.kept free.0 free.2)
  turn_is_free Cleared changes moment free = (free.0, free.1, turn_needs_none Cleared changes.kept free.0 free.2)

  pub turn_of_is_free : (from : Standing) (changes : Changes S) (moment t : ℕ) → IsFree needs changes (turn_of_event from t moment) → TurnNeedsNone needs from changes.kept t
  turn_of_is_free Done changes moment t free = free
  turn_of_is_free Undone changes moment t free = turn_needs_none Undone changes.kept t free
  turn_of_is_free Cleared changes moment t free = turn_needs_none Cleared changes.kept t free
