-- A cell forgets what was before the last flush that covers it: of the commands that are chosen that one alone decides it.
use Rattle.std.proofs.Common.{◌≡◌, ℕ, Bool, true, false, cond, Option, Some, None, List, [], ◌∷◌, refl, sym, ◌∙◌, ap, ◌⊎◌, inl, inr}
use Rattle.std.specs.Prelude.{fold, ◌==◌}
use Rattle.std.specs.Option.{option_or}
use Rattle.std.proofs.lemmas.Bool.{cases_Bool, eq-eqb, eqb-true, false≢true}
use Rattle.dns_text.specs.declared.record.Question.{Question}
use Rattle.ranked.specs.declared.find.Find.{Find}
use Rattle.ranked.specs.declared.cell.Admitted.{Admitted}
use Rattle.history.specs.declared.event.Event.{Event}
use Rattle.history.specs.declared.event.Event.TheVariants.{Admit, Look, Sweep, Forget, Do, Undo, Redo, UndoOf, RedoOf}
use Rattle.history.specs.declared.event.Entry.{Entry}
use Rattle.history.specs.Event.{covers}
use Rattle.history.specs.History.{stands_by, standing_with}
use Rattle.history.specs.Cells.{effect, cell_after, cell_by}
use Rattle.history.specs.Flushes.{ticket_covering, last_covering, only}

-- the cell after what is in force by a choice
abbrev after_choice : Question → (ℕ → Bool) → Option (Admitted Find) → List Entry → Option (Admitted Find)
after_choice question chosen cell log = fold (cell_after question) cell (standing_with chosen log)

-- ---- one entry

-- what is in force by a choice is in force by a wider one
wider : (chosen other : ℕ → Bool) → ((t : ℕ) → other t ≡ true → chosen t ≡ true) → (e : Event) (ticket : Option ℕ) → stands_by other e ticket ≡ true → stands_by chosen e ticket ≡ true
wider chosen other more (Admit m f) ticket is = refl
wider chosen other more (Look m a) ticket is = is
wider chosen other more (Sweep m) ticket is = is
wider chosen other more (Forget m n) ticket is = refl
wider chosen other more (Do m c) None is = is
wider chosen other more (Do m c) (Some t) is = more t is
wider chosen other more (Undo m) ticket is = is
wider chosen other more (Redo m) ticket is = is
wider chosen other more (UndoOf m named) ticket is = is
wider chosen other more (RedoOf m named) ticket is = is

no_cover : (covered : Bool) (t : ℕ) (cell : Option (Admitted Find)) → cond covered (Some t) None ≡ None → cond covered None cell ≡ cell
no_cover true t cell is = cc
no_cover false t cell is = refl

-- a command that is left out, and that covers nothing, left the cell
leaves : (question : Question) (chosen other : ℕ → Bool) (cell : Option (Admitted Find)) (moment : ℕ) (e : Event) (ticket : Option ℕ)
    → stands_by chosen e ticket ≡ true → stands_by other e ticket ≡ false → ticket_covering question e ticket ≡ None → effect question cell moment e ≡ cell
leaves question chosen other cell moment (Admit m f) ticket stays out none = absurd (false≢true (sym out))
leaves question chosen other cell moment (Look m a) ticket stays out none = refl
leaves question chosen other cell moment (Sweep m) ticket stays out none = refl
leaves question chosen other cell moment (Forget m n) ticket stays out none = absurd (false≢true (sym out))
leaves question chosen other cell moment (Do m c) None stays out none = absurd (false≢true stays)
leaves question chosen other cell moment (Do m c) (Some t) stays out none = no_cover (covers c question) t cell none
leaves question chosen other cell moment (Undo m) ticket stays out none = refl
leaves question chosen other cell moment (Redo m) ticket stays out none = refl
leaves question chosen other cell moment (UndoOf m named) ticket stays out none = refl
leaves question chosen other cell moment (RedoOf m named) ticket stays out none = refl

-- an entry that is in force by a choice and whose command of this ticket covers the question
record Empties (question : Question) (chosen : ℕ → Bool) (e : Event) (ticket : Option ℕ) (t : ℕ) : Type 0 where
  pub is_chosen : chosen t ≡ true
  pub stands : stands_by (only (Some t)) e ticket ≡ true
  pub empty : (cell : Option (Admitted Find)) (moment : ℕ) → effect question cell moment e ≡ None

covered_by : (chosen : ℕ → Bool) (covered : Bool) (s t : ℕ) → chosen s ≡ true → cond covered (Some s) None ≡ Some t
    → (chosen t ≡ true) × ((t == s) ≡ true) × ((cell : Option (Admitted Find)) → cond covered None cell ≡ None)
covered_by chosen true s t stays is =
    let same : s ≡ t = cc in
    (ap chosen (sym same) ∙ stays, eq-eqb t s (sym same), λ cell. refl)
covered_by chosen false s t stays is = absurd cc

no_ticket : (covered : Bool) (t : ℕ) → cond covered None None ≡ Some t → ⊥
no_ticket true t is = cc
no_ticket false t is = cc

empties : (question : Question) (chosen : ℕ → Bool) (e : Event) (ticket : Option ℕ) (t : ℕ) → stands_by chosen e ticket ≡ true → ticket_covering question e ticket ≡ Some t → Empties question chosen e ticket t
empties question chosen (Admit m f) ticket t stays is = absurd cc
empties question chosen (Look m a) ticket t stays is = absurd cc
empties question chosen (Sweep m) ticket t stays is = absurd cc
empties question chosen (Forget m n) ticket t stays is = absurd cc
empties question chosen (Do m c) None t stays is = absurd (false≢true stays)
empties question chosen (Do m c) (Some s) t stays is =
    let it = covered_by chosen (covers c question) s t stays is in
    record { is_chosen = it.0; stands = it.1; empty = λ cell moment. it.2 cell }
empties question chosen (Undo m) ticket t stays is = absurd cc
empties question chosen (Redo m) ticket t stays is = absurd cc
empties question chosen (UndoOf m named) ticket t stays is = absurd cc
empties question chosen (RedoOf m named) ticket t stays is = absurd cc

-- ---- a log

later_none : (later here : Option ℕ) → option_or later here ≡ None → later ≡ None
later_none None here is = refl
later_none (Some t) here is = is

here_none : (later here : Option ℕ) → option_or later here ≡ None → here ≡ None
here_none None here is = is
here_none (Some t) here is = absurd cc

-- Where no command of a choice covers the question, the cell is that of any narrower choice.
uncovered : (question : Question) (chosen other : ℕ → Bool) → ((t : ℕ) → other t ≡ true → chosen t ≡ true) → (log : List Entry) → last_covering question (standing_with chosen log) ≡ None
    → (cell : Option (Admitted Find)) → after_choice question chosen cell log ≡ after_choice question other cell log
uncovered question chosen other more [] none cell = refl
uncovered question chosen other more (e ∷ log) none cell =
    elim (cases_Bool (stands_by chosen e.event e.ticket)) [
      | inl stays ↦
          let both : option_or (last_covering question (standing_with chosen log)) (ticket_covering question e.event e.ticket) ≡ None =
          sym (ap (λ b. last_covering question (cond b (e ∷ standing_with chosen log) (standing_with chosen log))) stays) ∙ none in
          let rest = uncovered question chosen other more log (later_none _ _ both) in
          elim (cases_Bool (stands_by other e.event e.ticket)) [
            | inl too ↦ rw (stays, too) (rest (cell_after question cell e))
            | inr out ↦
                let left : cell_after question cell e ≡ cell = leaves question chosen other cell e.moment e.event e.ticket stays out (here_none _ _ both) in
                rw (stays, out) (ap (λ (c : Option (Admitted Find)). after_choice question chosen c log) left ∙ rest cell)
          ]
      | inr gone ↦
          let out : stands_by other e.event e.ticket ≡ false = elim (cases_Bool (stands_by other e.event e.ticket)) [
            | inl too ↦ absurd (false≢true (sym gone ∙ wider chosen other more e.event e.ticket too))
            | inr so ↦ so
          ] in
          let none' : last_covering question (standing_with chosen log) ≡ None =
          sym (ap (λ b. last_covering question (cond b (e ∷ standing_with chosen log) (standing_with chosen log))) gone) ∙ none in
          rw (gone, out) (uncovered question chosen other more log none' cell)
    ]

-- the last command that covers is that of the entries behind, or none of those does and it is this entry's
behind : (later here : Option ℕ) (t : ℕ) → option_or later here ≡ Some t → (later ≡ Some t) ⊎ ((later ≡ None) × (here ≡ Some t))
behind None here t is = inr (refl, is)
behind (Some s) here t is = inl is

-- Where the last command that covers has this ticket, the cell is that of its choice alone, whatever was before.
covered : (question : Question) (chosen : ℕ → Bool) (t : ℕ) (log : List Entry) → last_covering question (standing_with chosen log) ≡ Some t
    → (cell other : Option (Admitted Find)) → after_choice question chosen cell log ≡ after_choice question (only (Some t)) other log
covered question chosen t [] is cell other = absurd cc
covered question chosen t (e ∷ log) is cell other =
    elim (cases_Bool (stands_by chosen e.event e.ticket)) [
      | inl stays ↦
          let both : option_or (last_covering question (standing_with chosen log)) (ticket_covering question e.event e.ticket) ≡ Some t =
          sym (ap (λ b. last_covering question (cond b (e ∷ standing_with chosen log) (standing_with chosen log))) stays) ∙ is in
          elim (behind _ _ t both) [
            | inl later ↦
                elim (cases_Bool (stands_by (only (Some t)) e.event e.ticket)) [
                  | inl too ↦ rw (stays, too) (covered question chosen t log later (cell_after question cell e) (cell_after question other e))
                  | inr out ↦ rw (stays, out) (covered question chosen t log later (cell_after question cell e) other)
                ]
            | inr here ↦
                let it = empties question chosen e.event e.ticket t stays here.1 in
                let narrower : (s : ℕ) → only (Some t) s ≡ true → chosen s ≡ true = λ s same. ap chosen (sym (eqb-true t s same)) ∙ it.is_chosen in
                rw (stays, it.stands)
                (ap (λ (c : Option (Admitted Find)). after_choice question chosen c log) (it.empty cell e.moment)
                ∙ uncovered question chosen (only (Some t)) narrower log here.0 None
                ∙ sym (ap (λ (c : Option (Admitted Find)). after_choice question (only (Some t)) c log) (it.empty other e.moment)))
          ]
      | inr gone ↦
          let later : last_covering question (standing_with chosen log) ≡ Some t =
          sym (ap (λ b. last_covering question (cond b (e ∷ standing_with chosen log) (standing_with chosen log))) gone) ∙ is in
          elim (cases_Bool (stands_by (only (Some t)) e.event e.ticket)) [
            | inl too ↦ rw (gone, too) (covered question chosen t log later cell (cell_after question other e))
            | inr out ↦ rw (gone, out) (covered question chosen t log later cell other)
          ]
    ]

by_last : (question : Question) (chosen : ℕ → Bool) (log : List Entry) (last : Option ℕ) → last_covering question (standing_with chosen log) ≡ last
    → cell_by question (standing_with chosen log) ≡ cell_by question (standing_with (only last) log)
by_last question chosen log None is = uncovered question chosen (only None) (λ t chosen_too. absurd (false≢true chosen_too)) log is None
by_last question chosen log (Some t) is = covered question chosen t log is None None

pub last_decides : (question : Question) (chosen : ℕ → Bool) (log : List Entry)
    → cell_by question (standing_with chosen log) ≡ cell_by question (standing_with (only (last_covering question (standing_with chosen log))) log)
last_decides question chosen log = by_last question chosen log (last_covering question (standing_with chosen log)) refl

-- ---- a narrower choice that has the last command that covers

fewer_none : (question : Question) (chosen other : ℕ → Bool) → ((t : ℕ) → other t ≡ true → chosen t ≡ true) → (log : List Entry)
    → last_covering question (standing_with chosen log) ≡ None → last_covering question (standing_with other log) ≡ None
fewer_none question chosen other more [] none = refl
fewer_none question chosen other more (e ∷ log) none =
    elim (cases_Bool (stands_by chosen e.event e.ticket)) [
      | inl stays ↦
          let both : option_or (last_covering question (standing_with chosen log)) (ticket_covering question e.event e.ticket) ≡ None =
          sym (ap (λ b. last_covering question (cond b (e ∷ standing_with chosen log) (standing_with chosen log))) stays) ∙ none in
          let rest = fewer_none question chosen other more log (later_none _ _ both) in
          elim (cases_Bool (stands_by other e.event e.ticket)) [
            | inl too ↦ rw too (ap (λ (o : Option ℕ). option_or o (ticket_covering question e.event e.ticket)) rest ∙ here_none _ _ both)
            | inr out ↦ rw out rest
          ]
      | inr gone ↦
          let out : stands_by other e.event e.ticket ≡ false = elim (cases_Bool (stands_by other e.event e.ticket)) [
            | inl too ↦ absurd (false≢true (sym gone ∙ wider chosen other more e.event e.ticket too))
            | inr so ↦ so
          ] in
          let none' : last_covering question (standing_with chosen log) ≡ None =
          sym (ap (λ b. last_covering question (cond b (e ∷ standing_with chosen log) (standing_with chosen log))) gone) ∙ none in
          rw out (fewer_none question chosen other more log none')
    ]

-- an entry whose command of this ticket covers the question is in force by each choice that has the ticket
stands_with : (question : Question) (other : ℕ → Bool) (e : Event) (ticket : Option ℕ) (t : ℕ) → other t ≡ true → ticket_covering question e ticket ≡ Some t → stands_by other e ticket ≡ true
stands_with question other (Admit m f) ticket t has is = refl
stands_with question other (Look m a) ticket t has is = absurd cc
stands_with question other (Sweep m) ticket t has is = absurd cc
stands_with question other (Forget m n) ticket t has is = refl
stands_with question other (Do m c) None t has is = absurd (no_ticket (covers c question) t is)
stands_with question other (Do m c) (Some s) t has is = of_covers (covers c question) is
  where
    of_covers : (covered : Bool) → cond covered (Some s) None ≡ Some t → other s ≡ true
    of_covers true same = let one : s ≡ t = cc in ap other one ∙ has
    of_covers false same = absurd cc
stands_with question other (Undo m) ticket t has is = absurd cc
stands_with question other (Redo m) ticket t has is = absurd cc
stands_with question other (UndoOf m named) ticket t has is = absurd cc
stands_with question other (RedoOf m named) ticket t has is = absurd cc

fewer_last : (question : Question) (chosen other : ℕ → Bool) → ((t : ℕ) → other t ≡ true → chosen t ≡ true) → (t : ℕ) → other t ≡ true → (log : List Entry)
    → last_covering question (standing_with chosen log) ≡ Some t → last_covering question (standing_with other log) ≡ Some t
fewer_last question chosen other more t has [] is = absurd cc
fewer_last question chosen other more t has (e ∷ log) is =
    elim (cases_Bool (stands_by chosen e.event e.ticket)) [
      | inl stays ↦
          let both : option_or (last_covering question (standing_with chosen log)) (ticket_covering question e.event e.ticket) ≡ Some t =
          sym (ap (λ b. last_covering question (cond b (e ∷ standing_with chosen log) (standing_with chosen log))) stays) ∙ is in
          elim (behind _ _ t both) [
            | inl later ↦
                let rest = fewer_last question chosen other more t has log later in
                elim (cases_Bool (stands_by other e.event e.ticket)) [
                  | inl too ↦ rw too (ap (λ (o : Option ℕ). option_or o (ticket_covering question e.event e.ticket)) rest)
                  | inr out ↦ rw out rest
                ]
            | inr here ↦
                let too : stands_by other e.event e.ticket ≡ true = stands_with question other e.event e.ticket t has here.1 in
                rw too (ap (λ (o : Option ℕ). option_or o (ticket_covering question e.event e.ticket)) (fewer_none question chosen other more log here.0) ∙ here.1)
          ]
      | inr gone ↦
          let out : stands_by other e.event e.ticket ≡ false = elim (cases_Bool (stands_by other e.event e.ticket)) [
            | inl too ↦ absurd (false≢true (sym gone ∙ wider chosen other more e.event e.ticket too))
            | inr so ↦ so
          ] in
          let later : last_covering question (standing_with chosen log) ≡ Some t =
          sym (ap (λ b. last_covering question (cond b (e ∷ standing_with chosen log) (standing_with chosen log))) gone) ∙ is in
          rw out (fewer_last question chosen other more t has log later)
    ]

-- the last command of a choice that covers is chosen
pub last_is_chosen : (question : Question) (chosen : ℕ → Bool) (t : ℕ) (log : List Entry) → last_covering question (standing_with chosen log) ≡ Some t → chosen t ≡ true
last_is_chosen question chosen t [] is = absurd cc
last_is_chosen question chosen t (e ∷ log) is =
    elim (cases_Bool (stands_by chosen e.event e.ticket)) [
      | inl stays ↦
          let both : option_or (last_covering question (standing_with chosen log)) (ticket_covering question e.event e.ticket) ≡ Some t =
          sym (ap (λ b. last_covering question (cond b (e ∷ standing_with chosen log) (standing_with chosen log))) stays) ∙ is in
          elim (behind _ _ t both) [
            | inl later ↦ last_is_chosen question chosen t log later
            | inr here ↦ (empties question chosen e.event e.ticket t stays here.1).is_chosen
          ]
      | inr gone ↦
          last_is_chosen question chosen t log (sym (ap (λ b. last_covering question (cond b (e ∷ standing_with chosen log) (standing_with chosen log))) gone) ∙ is)
    ]

-- A narrower choice gives the same cell, if it has the last command of the wider one that covers it.
pub fewer_decide : (question : Question) (chosen other : ℕ → Bool) → ((t : ℕ) → other t ≡ true → chosen t ≡ true) → (log : List Entry) (last : Option ℕ)
    → last_covering question (standing_with chosen log) ≡ last → ((t : ℕ) → last ≡ Some t → other t ≡ true)
    → cell_by question (standing_with chosen log) ≡ cell_by question (standing_with other log)
fewer_decide question chosen other more log None is has = uncovered question chosen other more log is None
fewer_decide question chosen other more log (Some t) is has =
    covered question chosen t log is None None ∙ sym (covered question other t log (fewer_last question chosen other more t (has t refl) log is) None None)
