-- A replay of what the index names is a replay of the log, and the index goes with the log.
use Rattle.std.proofs.Common.{◌≡◌, ℕ, ◌+◌, Bool, true, false, cond, Option, Some, None, List, [], ◌∷◌, ◌++◌, length, length-append, map, refl, sym, ◌∙◌, ap, subst, inl, inr, arith}
use Rattle.std.specs.Prelude.{fold, ◌==◌, ◌&&◌}
use Rattle.std.specs.List.{cons_option, slice_get}
use Rattle.std.specs.Option.{option_map_or}
use Rattle.std.proofs.lemmas.Bool.{cases_Bool, false≢true}
use Rattle.std.proofs.lemmas.Bool.Decides.{nat_tests}
use Rattle.std.proofs.lemmas.Option.{slice_get-get_or}
use Rattle.std.proofs.lemmas.List.{append_assoc}
use Rattle.std.proofs.Math.Seq.{get_or-append_seam}
use Rattle.dns_name.specs.Labels.{Labels}
use Rattle.dns_name.specs.Order.{name_eq, name_eq_exact}
use Rattle.dns_text.specs.declared.record.Question.{Question}
use Rattle.ranked.specs.declared.find.Find.{Find}
use Rattle.ranked.specs.declared.find.Scope.{Scope}
use Rattle.ranked.specs.declared.find.Scope.TheVariants.{One, Whole}
use Rattle.ranked.specs.declared.cell.Admitted.{Admitted}
use Rattle.ranked.specs.Find.{touches}
use Rattle.history.specs.declared.event.Event.{Event}
use Rattle.history.specs.declared.event.Event.TheVariants.{Admit, Look, Sweep, Forget, Do, Undo, Redo, UndoOf, RedoOf}
use Rattle.history.specs.declared.event.Reply.{Reply}
use Rattle.history.specs.declared.event.Reply.TheVariants.{Undone, Redone}
use Rattle.undo_book.specs.declared.index.Indexed.{Indexed}
use Rattle.undo_book.specs.declared.log.Logged.{Logged}
use Rattle.history.specs.OldestFound.{is_whole, scope_touches}
use Rattle.undo_book.specs.Ends.{scope_after_indexed, scope_after_logged}
use Rattle.undo_book.specs.Index.{tag_of, concerns, index_of_entry, index_from, cell_after_indexed}
use Rattle.undo_book.specs.Plain.{cell_after_logged, with_flag, flags_by}

-- ---- a replay by the index

-- What is under another tag is about other names.
other_name : (owner name : Labels) → (tag_of owner == tag_of name) ≡ false → name_eq owner name ≡ false
other_name owner name apart =
    elim (cases_Bool (name_eq owner name)) [
      | inl same ↦ let tags : tag_of owner ≡ tag_of name = ap tag_of (name_eq_exact owner name same) in absurd (grind (arith, nat_tests))
      | inr other ↦ other
    ]

-- whether an entry may be about a name of this tag
abbrev concerns_event : ℕ → Event → Bool
concerns_event tag (Admit m find) = tag_of find.owner == tag
concerns_event tag (Forget m owner) = tag_of owner == tag
concerns_event tag (Do m command) = true
concerns_event tag event = false

found_at : (before : List Logged) (l : Logged) (log : List Logged) → slice_get (before ++ l ∷ log) (length before) ≡ Some l
found_at before l log =
    slice_get-get_or (before ++ l ∷ log) (length before) l (omega (arith, length-append before (l ∷ log))) ∙ ap Some (get_or-append_seam before l log l)

-- A replay step by step, where no step heeds an entry about names of other tags.
module _ (tag : ℕ) (step : Option (Admitted Find) → Logged → Option (Admitted Find))
    (passes : (cell : Option (Admitted Find)) (event : Event) (moment : ℕ) (ticket : Option ℕ) (struck : Bool) → concerns_event tag event ≡ false
    → step cell (record { entry = record { event = event; moment = moment; ticket = ticket }; struck = struck }) ≡ cell) where
  abbrev pub indexed_step : List Logged → Option (Admitted Find) → Indexed → Option (Admitted Find)
  indexed_step log cell indexed = cond (concerns tag indexed.tag) (option_map_or (λ logged. step cell logged) (slice_get log indexed.at) cell) cell

  by_event : (log : List Logged) (at : ℕ) (event : Event) (moment : ℕ) (ticket : Option ℕ) (struck : Bool) (rest : List Indexed) (cell : Option (Admitted Find))
      → (let logged : Logged = record { entry = record { event = event; moment = moment; ticket = ticket }; struck = struck } in slice_get log at ≡ Some logged
      → fold (indexed_step log) cell (cons_option (index_of_entry at event) rest) ≡ fold (indexed_step log) (step cell logged) rest)
  by_event log at (Admit m find) moment ticket struck rest cell found =
      elim (cases_Bool (tag_of find.owner == tag)) [
        | inl same ↦ rw (same, found) refl
        | inr apart ↦ rw apart (ap (λ (c : Option (Admitted Find)). fold (indexed_step log) c rest) (sym (passes cell (Admit m find) moment ticket struck apart)))
      ]
  by_event log at (Do m command) moment ticket struck rest cell found = rw found refl
  by_event log at (Look m ask) moment ticket struck rest cell found = ap (λ (c : Option (Admitted Find)). fold (indexed_step log) c rest) (sym (passes cell (Look m ask) moment ticket struck refl))
  by_event log at (Sweep m) moment ticket struck rest cell found = ap (λ (c : Option (Admitted Find)). fold (indexed_step log) c rest) (sym (passes cell (Sweep m) moment ticket struck refl))
  by_event log at (Forget m owner) moment ticket struck rest cell found =
      elim (cases_Bool (tag_of owner == tag)) [
        | inl same ↦ rw (same, found) refl
        | inr apart ↦ rw apart (ap (λ (c : Option (Admitted Find)). fold (indexed_step log) c rest) (sym (passes cell (Forget m owner) moment ticket struck apart)))
      ]
  by_event log at (Undo m) moment ticket struck rest cell found = ap (λ (c : Option (Admitted Find)). fold (indexed_step log) c rest) (sym (passes cell (Undo m) moment ticket struck refl))
  by_event log at (Redo m) moment ticket struck rest cell found = ap (λ (c : Option (Admitted Find)). fold (indexed_step log) c rest) (sym (passes cell (Redo m) moment ticket struck refl))
  by_event log at (UndoOf m named) moment ticket struck rest cell found = ap (λ (c : Option (Admitted Find)). fold (indexed_step log) c rest) (sym (passes cell (UndoOf m named) moment ticket struck refl))
  by_event log at (RedoOf m named) moment ticket struck rest cell found = ap (λ (c : Option (Admitted Find)). fold (indexed_step log) c rest) (sym (passes cell (RedoOf m named) moment ticket struck refl))

  pub by_steps : (before log : List Logged) (cell : Option (Admitted Find)) → fold (indexed_step (before ++ log)) cell (index_from (length before) log) ≡ fold step cell log
  by_steps before [] cell = refl
  by_steps before (l ∷ log) cell =
      let next : Option (Admitted Find) = step cell l in
      let size : length (before ++ l ∷ []) ≡ length before + 1 = length-append before (l ∷ []) in
      let there : (before ++ l ∷ []) ++ log ≡ before ++ l ∷ log = append_assoc before (l ∷ []) log in
      by_event (before ++ l ∷ log) (length before) l.entry.event l.entry.moment l.entry.ticket l.struck (index_from (length before + 1) log) cell (found_at before l log)
      ∙ subst (λ (whole : List Logged). fold (indexed_step whole) next (index_from (length before + 1) log) ≡ fold step next log) there
      (subst (λ (at : ℕ). fold (indexed_step ((before ++ l ∷ []) ++ log)) next (index_from at log) ≡ fold step next log) size
      (by_steps (before ++ l ∷ []) log next))

-- ---- the cell of a question

untouched : (find : Find) (question : Question) → (tag_of find.owner == tag_of question.owner) ≡ false → touches find question ≡ false
untouched find question apart = rw (other_name find.owner question.owner apart) refl

question_passes : (question : Question) (cell : Option (Admitted Find)) (event : Event) (moment : ℕ) (ticket : Option ℕ) (struck : Bool) → concerns_event (tag_of question.owner) event ≡ false
    → cell_after_logged question cell (record { entry = record { event = event; moment = moment; ticket = ticket }; struck = struck }) ≡ cell
question_passes question cell (Admit m find) moment ticket struck apart = rw (untouched find question apart) refl
question_passes question cell (Look m ask) moment ticket struck apart = refl
question_passes question cell (Sweep m) moment ticket struck apart = refl
question_passes question cell (Forget m owner) moment ticket struck apart = rw (other_name owner question.owner apart) refl
question_passes question cell (Do m command) moment ticket struck apart = absurd (false≢true (sym apart))
question_passes question cell (Undo m) moment ticket struck apart = refl
question_passes question cell (Redo m) moment ticket struck apart = refl
question_passes question cell (UndoOf m named) moment ticket struck apart = refl
question_passes question cell (RedoOf m named) moment ticket struck apart = refl

pub by_index : (question : Question) (before log : List Logged) (cell : Option (Admitted Find))
    → fold (cell_after_indexed question (before ++ log)) cell (index_from (length before) log) ≡ fold (cell_after_logged question) cell log
by_index question before log cell = by_steps (tag_of question.owner) (cell_after_logged question) (question_passes question) before log cell

-- ---- the cell of a name and a scope

scope_untouched : (owner : Labels) (scope : Scope) (find : Find) → (tag_of find.owner == tag_of owner) ≡ false → scope_touches owner scope find ≡ false
scope_untouched owner (One kind) find apart = rw (other_name find.owner owner apart) refl
scope_untouched owner Whole find apart = rw (other_name find.owner owner apart) (none (is_whole find.scope))
  where
    none : (b : Bool) → (b && false) ≡ false
    none true = refl
    none false = refl

scope_passes : (owner : Labels) (scope : Scope) (journal : List ℕ) (own : Option ℕ) (cell : Option (Admitted Find)) (event : Event) (moment : ℕ) (ticket : Option ℕ) (struck : Bool) → concerns_event (tag_of owner) event ≡ false
    → scope_after_logged owner scope journal own cell (record { entry = record { event = event; moment = moment; ticket = ticket }; struck = struck }) ≡ cell
scope_passes owner scope journal own cell (Admit m find) moment ticket struck apart = rw (scope_untouched owner scope find apart) refl
scope_passes owner scope journal own cell (Look m ask) moment ticket struck apart = refl
scope_passes owner scope journal own cell (Sweep m) moment ticket struck apart = refl
scope_passes owner scope journal own cell (Forget m name) moment ticket struck apart = rw (other_name name owner apart) refl
scope_passes owner scope journal own cell (Do m command) moment ticket struck apart = absurd (false≢true (sym apart))
scope_passes owner scope journal own cell (Undo m) moment ticket struck apart = refl
scope_passes owner scope journal own cell (Redo m) moment ticket struck apart = refl
scope_passes owner scope journal own cell (UndoOf m named) moment ticket struck apart = refl
scope_passes owner scope journal own cell (RedoOf m named) moment ticket struck apart = refl

pub scope_by_index : (owner : Labels) (scope : Scope) (journal : List ℕ) (own : Option ℕ) (before log : List Logged) (cell : Option (Admitted Find))
    → fold (scope_after_indexed owner scope journal own (before ++ log)) cell (index_from (length before) log) ≡ fold (scope_after_logged owner scope journal own) cell log
scope_by_index owner scope journal own before log cell = by_steps (tag_of owner) (scope_after_logged owner scope journal own) (scope_passes owner scope journal own) before log cell

-- ---- the index goes with the log

cons_before : (o : Option Indexed) (xs ys : List Indexed) → cons_option o (xs ++ ys) ≡ cons_option o xs ++ ys
cons_before None xs ys = refl
cons_before (Some x) xs ys = refl

index_push : (at : ℕ) (log : List Logged) (l : Logged) → index_from at (log ++ l ∷ []) ≡ index_from at log ++ cons_option (index_of_entry (at + length log) l.entry.event) []
index_push at [] l = ap (λ (n : ℕ). cons_option (index_of_entry n l.entry.event) []) (omega arith)
index_push at (k ∷ log) l =
    let there : at + 1 + length log ≡ at + length (k ∷ log) = omega arith in
    ap (λ (rest : List Indexed). cons_option (index_of_entry at k.entry.event) rest)
    (index_push (at + 1) log l ∙ ap (λ (n : ℕ). index_from (at + 1) log ++ cons_option (index_of_entry n l.entry.event) []) there)
    ∙ cons_before (index_of_entry at k.entry.event) (index_from (at + 1) log) (cons_option (index_of_entry (at + length (k ∷ log)) l.entry.event) [])

index_flagged : (ticket : ℕ) (flag : Bool) (at : ℕ) (log : List Logged) → index_from at (map (with_flag ticket flag) log) ≡ index_from at log
index_flagged ticket flag at [] = refl
index_flagged ticket flag at (l ∷ log) = ap (λ (rest : List Indexed). cons_option (index_of_entry at l.entry.event) rest) (index_flagged ticket flag (at + 1) log)

index_by : (reply : Reply) (log : List Logged) → index_from 0 (flags_by reply log) ≡ index_from 0 log
index_by (Undone ticket) log = index_flagged ticket true 0 log
index_by (Redone ticket) log = index_flagged ticket false 0 log
index_by reply log = refl

pub index_after : (reply : Reply) (log : List Logged) (l : Logged) → index_from 0 (flags_by reply (log ++ l ∷ [])) ≡ index_from 0 log ++ cons_option (index_of_entry (length log) l.entry.event) []
index_after reply log l =
    index_by reply (log ++ l ∷ []) ∙ index_push 0 log l ∙ ap (λ (n : ℕ). index_from 0 log ++ cons_option (index_of_entry n l.entry.event) []) (omega arith)
