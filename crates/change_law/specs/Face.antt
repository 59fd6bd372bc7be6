-- The face of a world: its tables, and a cell for every question.
use Rattle.std.specs.Prelude.{◌≡◌, ◌&&◌, ℕ, Bool, Option, Some, None, if◌then◌else◌}
use Rattle.dns_name.specs.Labels.{Labels}
use Rattle.dns_name.specs.Order.{name_eq}
use Rattle.dns_text.specs.declared.record.Question.{Question}
use Rattle.ranked.specs.declared.cell.Admitted.{Admitted}
use Rattle.ranked.specs.declared.cell.Fate.{Fate}
use Rattle.ranked.specs.declared.cell.Fate.TheVariants.{Taken, Outranked}
use Rattle.ranked.specs.declared.find.Find.{Find}
use Rattle.ranked.specs.declared.find.Scope.{Scope}
use Rattle.ranked.specs.declared.find.Scope.TheVariants.{One, Whole}
use Rattle.ranked.specs.Cell.{is_alive, turns_away, after_admission}
use Rattle.ranked.specs.Find.{touches, admission_of}

-- the tables of a world, and the content of the cell of every question
pub record Face (T : Type 0) : Type 0 where
  pub tables : T
  pub cell : Question → Option (Admitted Find)

-- Two faces have the same tables and the same cells.
pub record IsSame {T : Type 0} (a b : Face T) : Type 0 where
  pub tables : a.tables ≡ b.tables
  pub cell : (q : Question) → a.cell q ≡ b.cell q

-- the content of a cell, if it is alive at a moment
abbrev pub alive_at : ℕ → Option (Admitted Find) → Option (Admitted Find)
alive_at t None = None
alive_at t (Some held) = if is_alive held t then Some held else None

-- Two faces have the same tables, and the same content of cells that is alive at a moment.
pub record IsSameAt {T : Type 0} (t : ℕ) (a b : Face T) : Type 0 where
  pub tables : a.tables ≡ b.tables
  pub cell : (q : Question) → alive_at t (a.cell q) ≡ alive_at t (b.cell q)

-- the content of a cell after an admission: a cell that the find is about holds it, unless it is outranked
abbrev pub cell_with : Find → ℕ → Question → Option (Admitted Find) → Option (Admitted Find)
cell_with find moment q held = if touches find q then after_admission held (admission_of find find moment) else held

-- a face after an admission; a world without cells keeps its faces
abbrev pub face_with : {T : Type 0} → Bool → Find → ℕ → Face T → Face T
face_with has_cells find moment face = record {
  tables = face.tables;
  cell = λ q. if has_cells then cell_with find moment q (face.cell q) else face.cell q;
}

-- a face after a name is forgotten: the cells of that owner are empty; a world without cells keeps its faces
abbrev pub face_without : {T : Type 0} → Bool → Labels → Face T → Face T
face_without has_cells owner face = record {
  tables = face.tables;
  cell = λ q. if has_cells && name_eq owner q.owner then None else face.cell q;
}

-- The outcome of an admission. A find about one type is outranked if the content of its cell is alive then and of higher rank. Nothing outranks a find about every type.
abbrev pub fate_in : {T : Type 0} → Face T → Find → ℕ → Scope → Fate
fate_in face find moment (One kind) =
    if turns_away (face.cell (record { owner = find.owner; kind = kind })) (admission_of find find moment) then Outranked else Taken
fate_in face find moment Whole = Taken
