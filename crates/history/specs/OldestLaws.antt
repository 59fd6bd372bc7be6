-- What is found is the name to forget first, and no other is: lemmas for the books above.
use Rattle.std.proofs.Common.{◌≡◌, ℕ, ◌≤◌, Bool, true, false, cond, Option, List, [], ◌∷◌, ◌++◌, refl, sym, ◌∙◌, ap, ◌⊎◌, inl, inr, arith}
use Rattle.std.specs.Prelude.{fold, max, map, flat_map, ◌==◌, ◌||◌}
use Rattle.std.specs.List.{AllByRecursion}
use Rattle.std.proofs.lemmas.Bool.{cases_Bool, eq-eqb, eqb-true, false≢true}
use Rattle.dns_name.specs.Labels.{Labels}
use Rattle.dns_name.specs.Order.{name_eq, name_eq_itself}
use Rattle.ranked.specs.declared.find.Find.{Find}
use Rattle.ranked.specs.declared.find.Scope.{Scope}
use Rattle.history.specs.declared.event.Entry.{Entry}
use Rattle.history.specs.declared.event.Event.{Event}
use Rattle.history.specs.declared.event.Event.TheVariants.{Admit, Look, Sweep, Forget, Do, Undo, Redo, UndoOf, RedoOf}
use Rattle.history.specs.History.{Past}
use Rattle.history.specs.Journal.{commands_of, is_among, tickets_of}
use Rattle.history.specs.Oldest.{IsOldest}
use Rattle.history.specs.OldestFound.{choices_of, ends_in, ends_of, last_scope_end, later_end, oldest_of, scope_end, settled_of, with_ticket}
use Rattle.history.specs.SoonestLaws.{AreEndings, Ended, fold_low, max_ended, one_oldest, soonest_is}
use Rattle.history.specs.EndingLaws.{IsAmong, IsChoice, IsReplayed, ending_of, found, settled_is_choice, with_ticket_is_choice}

module _ (past : Past) (t : ℕ) where
  -- ---- the ends over the choices

  ended_by : (owner : Labels) (scope : Scope) (chosen : ℕ → Bool) → IsChoice past chosen → Ended past t owner (scope_end past t owner scope chosen)
  ended_by owner scope chosen is = elim (none_or (scope_end past t owner scope chosen)) [
    | inl none ↦ inl none
    | inr some ↦ inr (ending_of past t owner scope chosen is some)
  ]
    where
      none_or : (n : ℕ) → (n ≡ 0) ⊎ (1 ≤ n)
      none_or n = grind arith

  max_all : (owner : Labels) (scope : Scope) (choices : List (ℕ → Bool)) (a : ℕ) → Ended past t owner a → AllByRecursion (λ chosen. IsChoice past chosen) choices
      → Ended past t owner (fold max a (map (scope_end past t owner scope) choices))
  max_all owner scope [] a own all = own
  max_all owner scope (c ∷ choices) a own all =
      max_all owner scope choices (max a (scope_end past t owner scope c)) (max_ended past t owner a (scope_end past t owner scope c) own (ended_by owner scope c all.0)) all.1

  among_first : (x y : ℕ) (ts : List ℕ) → (x == y) ≡ true → is_among (x ∷ ts) y ≡ true
  among_first x y ts same = ap (λ b. b || is_among ts y) same

  among_later : (x y : ℕ) (ts : List ℕ) → is_among ts y ≡ true → is_among (x ∷ ts) y ≡ true
  among_later x y ts is = by_first (x == y)
    where
      by_first : (b : Bool) → (b || is_among ts y) ≡ true
      by_first true = refl
      by_first false = is

  all_choices : (ts : List ℕ) → ((own : ℕ) → is_among ts own ≡ true → is_among (tickets_of (commands_of past)) own ≡ true) → AllByRecursion (λ chosen. IsChoice past chosen) (map (with_ticket past) ts)
  all_choices [] more = tt
  all_choices (x ∷ ts) more = (with_ticket_is_choice past x (more x (among_first x x ts (eq-eqb x x refl))), all_choices ts (λ own is. more own (among_later x own ts is)))

  are_choices : AllByRecursion (λ chosen. IsChoice past chosen) (choices_of past)
  are_choices = (settled_is_choice past, all_choices (tickets_of (commands_of past)) (λ own is. is))

  pub last_scope_ended : (owner : Labels) (scope : Scope) → Ended past t owner (last_scope_end past t owner scope)
  last_scope_ended owner scope = max_all owner scope (choices_of past) 0 (inl refl) are_choices

  max_low : (owner : Labels) (scope : Scope) (choices : List (ℕ → Bool)) (a : ℕ) → a ≤ fold max a (map (scope_end past t owner scope) choices)
  max_low owner scope [] a = omega arith
  max_low owner scope (c ∷ choices) a = omega (arith, max_low owner scope choices (max a (scope_end past t owner scope c)))

  ticket_low : (owner : Labels) (scope : Scope) (own : ℕ) (ts : List ℕ) (a : ℕ) → is_among ts own ≡ true
      → scope_end past t owner scope (with_ticket past own) ≤ fold max a (map (scope_end past t owner scope) (map (with_ticket past) ts))
  ticket_low owner scope own [] a is = absurd (false≢true is)
  ticket_low owner scope own (x ∷ ts) a is = elim (cases_Bool (x == own)) [
    | inl same ↦
        let one : scope_end past t owner scope (with_ticket past x) ≡ scope_end past t owner scope (with_ticket past own) =
        ap (λ n. scope_end past t owner scope (with_ticket past n)) (eqb-true x own same) in
        omega (arith, one, max_low owner scope (map (with_ticket past) ts) (max a (scope_end past t owner scope (with_ticket past x))))
    | inr other ↦
        ticket_low owner scope own ts (max a (scope_end past t owner scope (with_ticket past x))) (sym (ap (λ b. b || is_among ts own) other) ∙ is)
  ]

  -- no choice by which cells are replayed has a later end
  pub replayed_low : (owner : Labels) (scope : Scope) (chosen : ℕ → Bool) → IsReplayed past chosen → scope_end past t owner scope chosen ≤ last_scope_end past t owner scope
  replayed_low owner scope chosen (inl is) =
      let one = ap (λ (c : ℕ → Bool). scope_end past t owner scope c) is in
      omega (arith, one, max_low owner scope (map (with_ticket past) (tickets_of (commands_of past))) (max 0 (scope_end past t owner scope (settled_of past))))
  replayed_low owner scope chosen (inr it) =
      let one = ap (λ (c : ℕ → Bool). scope_end past t owner scope c) it.2 in
      omega (arith, one, ticket_low owner scope it.0 (tickets_of (commands_of past)) (max 0 (scope_end past t owner scope (settled_of past))) it.1)

  -- ---- the pairs of the log

  all_append : (P : Labels × ℕ → Type 0) (xs ys : List (Labels × ℕ)) → AllByRecursion P xs → AllByRecursion P ys → AllByRecursion P (xs ++ ys)
  all_append P [] ys all more = more
  all_append P (x ∷ xs) ys all more = (all.0, all_append P xs ys all.1 more)

  each_ended : (e : Event) → AllByRecursion (λ p. Ended past t p.0 p.1) (ends_in past t e)
  each_ended (Admit given find) = (last_scope_ended find.owner find.scope, tt)
  each_ended (Look m a) = tt
  each_ended (Sweep m) = tt
  each_ended (Forget m name) = tt
  each_ended (Do m command) = tt
  each_ended (Undo m) = tt
  each_ended (Redo m) = tt
  each_ended (UndoOf m named) = tt
  each_ended (RedoOf m named) = tt

  all_ended : (log : List Entry) → AllByRecursion (λ p. Ended past t p.0 p.1) (flat_map (λ entry. ends_in past t entry.event) log)
  all_ended [] = tt
  all_ended (e ∷ log) = all_append (λ p. Ended past t p.0 p.1) (ends_in past t e.event) (flat_map (λ entry. ends_in past t entry.event) log) (each_ended e.event) (all_ended log)

  fold_two : (name : Labels) (xs ys : List (Labels × ℕ)) (a : ℕ) → fold (later_end name) a (xs ++ ys) ≡ fold (later_end name) (fold (later_end name) a xs) ys
  fold_two name [] ys a = refl
  fold_two name (x ∷ xs) ys a = fold_two name xs ys (later_end name a x)

  own_end : (name : Labels) (a : ℕ) (e : Event) (given : ℕ) (find : Find) → e ≡ Admit given find → find.owner ≡ name
      → last_scope_end past t find.owner find.scope ≤ fold (later_end name) a (ends_in past t e)
  own_end name a e given find is owner =
      let here : name_eq find.owner name ≡ true = ap (λ (n : Labels). name_eq find.owner n) (sym owner) ∙ name_eq_itself find.owner in
      let end = last_scope_end past t find.owner find.scope in
      let at : fold (later_end name) a (ends_in past t e) ≡ max a end = ap (λ (x : Event). fold (later_end name) a (ends_in past t x)) is ∙ ap (λ b. cond b (max a end) a) here in
      omega (arith, at)

  within : (name : Labels) (entry : Entry) (given : ℕ) (find : Find) → entry.event ≡ Admit given find → find.owner ≡ name → (log : List Entry) (a : ℕ) → IsAmong entry log
      → last_scope_end past t find.owner find.scope ≤ fold (later_end name) a (flat_map (λ e. ends_in past t e.event) log)
  within name entry given find is owner [] a among = absurd among
  within name entry given find is owner (e ∷ log) a (inl here) =
      let event : e.event ≡ Admit given find = ap (λ (x : Entry). x.event) here ∙ is in
      omega (
        arith,
        own_end name a e.event given find event owner,
        fold_two name (ends_in past t e.event) (flat_map (λ e. ends_in past t e.event) log) a,
        fold_low name (flat_map (λ e. ends_in past t e.event) log) (fold (later_end name) a (ends_in past t e.event)),
      )
  within name entry given find is owner (e ∷ log) a (inr later) =
      omega (
        arith,
        within name entry given find is owner log (fold (later_end name) a (ends_in past t e.event)) later,
        fold_two name (ends_in past t e.event) (flat_map (λ e. ends_in past t e.event) log) a,
      )

  are_endings : AreEndings past t (ends_of past t)
  are_endings = record {
    sound = all_ended past.log;
    whole = λ name end is.
        let it = found past t name end is in
        let low = replayed_low it.find.owner it.find.scope it.chosen it.replayed in
        omega (arith, low, it.at, within name it.entry it.given it.find it.event it.owner past.log 0 it.among);
  }

  -- What is found is the oldest.
  pub oldest_is : IsOldest past t (oldest_of past t)
  unfolding oldest_of
  oldest_is = soonest_is past t (ends_of past t) are_endings

  -- And nothing else is.
  pub oldest_only : (name : Option Labels) → IsOldest past t name → name ≡ oldest_of past t
  oldest_only name is = one_oldest past t name (oldest_of past t) is oldest_is
