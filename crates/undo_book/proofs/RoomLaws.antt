-- A forget of a name that has a find alive by some choice leaves fewer admissions counted.
use Rattle.std.proofs.Common.{◌≡◌, ℕ, ◌+◌, ◌<◌, ◌≤◌, Bool, true, false, cond, Option, Some, None, List, [], ◌∷◌, ◌++◌, refl, sym, ◌∙◌, ap, ◌⊎◌, inl, inr, arith}
use Rattle.std.specs.Prelude.{fold, max, is_some, not, ◌&&◌, ◌||◌}
use Rattle.std.specs.List.{list_any}
use Rattle.std.proofs.lemmas.List.{map-append}
use Rattle.dns_name.specs.Labels.{Labels}
use Rattle.dns_name.specs.Order.{name_eq, name_eq_exact, name_eq_itself}
use Rattle.dns_text.specs.declared.record.Question.{Question}
use Rattle.ranked.specs.declared.cell.Admitted.{Admitted}
use Rattle.ranked.specs.declared.find.Find.{Find}
use Rattle.ranked.specs.Cell.{after_admission}
use Rattle.ranked.specs.Find.{admission_of, has_kind}
use Rattle.history.specs.declared.event.Entry.{Entry}
use Rattle.history.specs.declared.event.Event.{Event}
use Rattle.history.specs.declared.event.Event.TheVariants.{Admit, Look, Sweep, Forget, Do, Undo, Redo, UndoOf, RedoOf}
use Rattle.history.specs.Answers.{SweepsAll}
use Rattle.history.specs.Cells.{cell_after}
use Rattle.history.specs.Counts.{counted_in, counted_of, events_in}
use Rattle.history.specs.Event.{covers, forgets, moment_of}
use Rattle.history.specs.History.{Past, followed_by, standing_with, ticket_for}
use Rattle.history.specs.Oldest.{IsEnding}
use Rattle.undo_book.specs.Stored.{counted_at}
use Rattle.undo_book.proofs.StoredLaws.{counted_forget}
use Rattle.world_book.specs.Versions.{ForgetsOldest}

-- A book that has never anything to sweep has swept all after each event.
pub nothing_swept : (event : Event) → SweepsAll event 0
nothing_swept (Admit moment find) = tt
nothing_swept (Look moment ask) = tt
nothing_swept (Sweep moment) = refl
nothing_swept (Forget moment owner) = tt
nothing_swept (Do moment command) = tt
nothing_swept (Undo moment) = tt
nothing_swept (Redo moment) = tt
nothing_swept (UndoOf moment ticket) = tt
nothing_swept (RedoOf moment ticket) = tt

-- ---- what a cell holds was admitted, and its name was not forgotten since

-- The cell is filled and no later event forgets its name, or an admission of the name is counted.
abbrev IsCounted : Labels → Option (Admitted Find) → List Event → Type 0
IsCounted name cell events = ((is_some cell ≡ true) × (list_any (forgets name) events ≡ false)) ⊎ (1 ≤ counted_at name events)

module _ (name : Labels) (kind : ℕ) (chosen : ℕ → Bool) where
  abbrev question : Question
  question = record { owner = name; kind = kind }

  -- an event that is no admission and no forget of the name adds nothing to what is counted
  passed : (cell : Option (Admitted Find)) (event : Event) (later : List Event) → forgets name event ≡ false → IsCounted name cell later → IsCounted name cell (event ∷ later)
  passed cell event later other (inl left) = inl (left.0, ap (λ b. b || list_any (forgets name) later) other ∙ left.1)
  passed cell event later other (inr counted) = inr (omega (arith, counted))

  -- nor does one that empties the cell now and then
  emptied : (cell : Option (Admitted Find)) (event : Event) (later : List Event) (b : Bool) → (b ≡ false → forgets name event ≡ false) → IsCounted name (cond b None cell) later → IsCounted name cell (event ∷ later)
  emptied cell event later false other is = passed cell event later (other refl) is
  emptied cell event later true other (inl left) = let none : false ≡ true = left.0 in absurd cc
  emptied cell event later true other (inr counted) = inr (omega (arith, counted))

  -- an admission of the name is counted, or a later event forgets it
  admitted : (cell next : Option (Admitted Find)) (moment : ℕ) (find : Find) (later : List Event) (same : Bool) → name_eq find.owner name ≡ same
      → (same ≡ false → next ≡ cell) → IsCounted name next later → IsCounted name cell (Admit moment find ∷ later)
  admitted cell next moment find later same is stays (inr counted) = inr (omega (arith, counted))
  admitted cell next moment find later true is stays (inl left) =
      let own : name_eq name find.owner ≡ true = ap (λ (n : Labels). name_eq name n) (name_eq_exact find.owner name is) ∙ name_eq_itself name in
      let one : ◌≡◌ {A = ℕ} (cond (name_eq name find.owner && not (list_any (forgets name) later)) 1 0) 1 = rw (own, left.1) refl in
      inr (omega (arith, one))
  admitted cell next moment find later false is stays (inl left) =
      inl (sym (ap (λ (c : Option (Admitted Find)). is_some c) (stays refl)) ∙ left.0, left.1)

  counted_held : (log : List Entry) (cell : Option (Admitted Find)) → is_some (fold (cell_after question) cell (standing_with chosen log)) ≡ true → IsCounted name cell (events_in log)
  counted_held [] cell is = inl (is, refl)
  counted_held (e ∷ log) cell is = by e.event e.moment e.ticket (counted_held log) is
    where
      by : (event : Event) (moment : ℕ) (ticket : Option ℕ)
          → ((c : Option (Admitted Find)) → is_some (fold (cell_after question) c (standing_with chosen log)) ≡ true → IsCounted name c (events_in log))
          → is_some (fold (cell_after question) cell (standing_with chosen (record { event = event; moment = moment; ticket = ticket } ∷ log))) ≡ true
          → IsCounted name cell (event ∷ events_in log)
      by (Admit m find) moment ticket more is =
          let next : Option (Admitted Find) = cell_after question cell (record { event = Admit m find; moment = moment; ticket = ticket }) in
          admitted cell next m find (events_in log) (name_eq find.owner name) refl
          (λ apart. ap (λ (b : Bool). cond (b && has_kind find.scope kind) (after_admission cell (admission_of find find moment)) cell) apart) (more next is)
      by (Forget m owner) moment ticket more is = emptied cell (Forget m owner) (events_in log) (name_eq owner name) (λ other. other) (more (cond (name_eq owner name) None cell) is)
      by (Do m command) moment None more is = passed cell (Do m command) (events_in log) refl (more cell is)
      by (Do m command) moment (Some t) more is = given (chosen t) is
        where
          given : (b : Bool) → is_some (fold (cell_after question) cell (cond b (record { event = Do m command; moment = moment; ticket = Some t } ∷ standing_with chosen log) (standing_with chosen log))) ≡ true
              → IsCounted name cell (Do m command ∷ events_in log)
          given true is = emptied cell (Do m command) (events_in log) (covers command question) (λ other. refl) (more (cond (covers command question) None cell) is)
          given false is = passed cell (Do m command) (events_in log) refl (more cell is)
      by (Look m ask) moment ticket more is = passed cell (Look m ask) (events_in log) refl (more cell is)
      by (Sweep m) moment ticket more is = passed cell (Sweep m) (events_in log) refl (more cell is)
      by (Undo m) moment ticket more is = passed cell (Undo m) (events_in log) refl (more cell is)
      by (Redo m) moment ticket more is = passed cell (Redo m) (events_in log) refl (more cell is)
      by (UndoOf m named) moment ticket more is = passed cell (UndoOf m named) (events_in log) refl (more cell is)
      by (RedoOf m named) moment ticket more is = passed cell (RedoOf m named) (events_in log) refl (more cell is)

-- Of a name that has a find alive by some choice, an admission is counted.
ending_counted : (past : Past) (t : ℕ) (name : Labels) (end : ℕ) → IsEnding past t name end → 1 ≤ counted_at name (events_in past.log)
ending_counted past t name end is =
    let filled : is_some (fold (cell_after (record { owner = name; kind = is.kind })) None (standing_with is.chosen past.log)) ≡ true = ap (λ (c : Option (Admitted Find)). is_some c) is.cell in
    elim (counted_held name is.kind is.chosen past.log None filled) [
      | inl left ↦ let none : false ≡ true = left.0 in absurd cc
      | inr counted ↦ counted
    ]

-- ---- room

pushed : (bound : ℕ) (past : Past) (event : Event) → counted_in (followed_by bound past event).log ≡ counted_of (events_in past.log ++ event ∷ [])
pushed bound past event =
    ap counted_of (map-append (λ (entry : Entry). entry.event) past.log (record { event = event; moment = max past.now (moment_of event); ticket = ticket_for past event } ∷ []))

-- A forget of the name to forget first leaves fewer admissions counted.
pub room_made : (bound : ℕ) (past next : Past) (event : Event) → next ≡ followed_by bound past event → ForgetsOldest past event → counted_in next.log < counted_in past.log
room_made bound past next (Forget m owner) is first =
    let counted = ending_counted past (max past.now m) owner first.end first.own.ending in
    let after : counted_in next.log ≡ counted_of (events_in past.log ++ Forget m owner ∷ []) = ap (λ (p : Past). counted_in p.log) is ∙ pushed bound past (Forget m owner) in
    omega (arith, after, counted, counted_forget m owner (events_in past.log))
room_made bound past next (Admit m f) is first = absurd first
room_made bound past next (Look m a) is first = absurd first
room_made bound past next (Sweep m) is first = absurd first
room_made bound past next (Do m c) is first = absurd first
room_made bound past next (Undo m) is first = absurd first
room_made bound past next (Redo m) is first = absurd first
room_made bound past next (UndoOf m named) is first = absurd first
room_made bound past next (RedoOf m named) is first = absurd first
