-- A replay of the deeds of a log shows what the log does.
use Rattle.std.proofs.Common.{ℕ, Bool, true, Option, Some, None, List, [], ◌∷◌, refl, inl, inr}
use Rattle.std.specs.Prelude.{fold}
use Rattle.std.proofs.lemmas.Bool.{cases_Bool}
use Rattle.change_law.specs.Effect.{effect}
use Rattle.change_law.specs.Face.{Face, IsSame, face_with, face_without}
use Rattle.world_book.specs.Course.{face_by}
use Rattle.history.specs.declared.event.Event.{Event}
use Rattle.history.specs.declared.event.Event.TheVariants.{Admit, Look, Sweep, Forget, Do, Undo, Redo, UndoOf, RedoOf}
use Rattle.history.specs.declared.event.Entry.{Entry}
use Rattle.history.specs.declared.tables.Tables.{Tables}
use Rattle.history.specs.Event.{covers}
use Rattle.history.specs.Changes.{tables_after, after_command_on}
use Rattle.history.specs.Cells.{cell_after}
use Rattle.history.specs.History.{standing_with}
use Rattle.world_book.specs.Deeds.{deeds_of, empty_face, face_of}

-- a face after these entries
abbrev face_from : Face Tables → List Entry → Face Tables
face_from f entries = record { tables = fold tables_after f.tables entries; cell = λ q. fold (cell_after q) (f.cell q) entries }

-- the deeds show what is in force, from any face
abbrev AreShown : (ℕ → Bool) → List Entry → Type 0
AreShown chosen log = (f : Face Tables) → IsSame (face_by true chosen f (deeds_of log)) (face_from f (standing_with chosen log))

one_more : (chosen : ℕ → Bool) (event : Event) (moment : ℕ) (ticket : Option ℕ) (log : List Entry) → AreShown chosen log →
    AreShown chosen (record { event = event; moment = moment; ticket = ticket } ∷ log)
one_more chosen (Admit m find) moment ticket log more = λ f. more (face_with true find moment f)
one_more chosen (Forget m owner) moment ticket log more = λ f. more (face_without true owner f)
one_more chosen (Do m c) moment (Some t) log more = λ f.
    elim (cases_Bool (chosen t)) [
      | inl is ↦ rw is (more (effect (after_command_on c) (covers c) f))
      | inr out ↦ rw out (more f)
    ]
one_more chosen (Do m c) moment None log more = more
one_more chosen (Look m a) moment ticket log more = more
one_more chosen (Sweep m) moment ticket log more = more
one_more chosen (Undo m) moment ticket log more = more
one_more chosen (Redo m) moment ticket log more = more
one_more chosen (UndoOf m named) moment ticket log more = more
one_more chosen (RedoOf m named) moment ticket log more = more

all_shown : (chosen : ℕ → Bool) (log : List Entry) → AreShown chosen log
all_shown chosen [] = λ f. record { tables = refl; cell = λ q. refl }
all_shown chosen (e ∷ log) = one_more chosen e.event e.moment e.ticket log (all_shown chosen log)

pub deeds_show : (chosen : ℕ → Bool) (log : List Entry) → IsSame (face_by true chosen empty_face (deeds_of log)) (face_of chosen log)
deeds_show chosen log = all_shown chosen log empty_face
