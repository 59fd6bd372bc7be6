-- The effect of a change on a face, and the fault that refuses it.
use Rattle.std.specs.Prelude.{◌≡◌, ℕ, Bool, Option, Some, None, if◌then◌else◌}
use Rattle.dns_text.specs.declared.record.Question.{Question}
use Rattle.change_law.specs.declared.fault.ChangeFault.{ChangeFault}
use Rattle.change_law.specs.declared.fault.ChangeFault.TheVariants.{Refused, NoMemory}
use Rattle.change_law.specs.Face.{Face}

-- a face with changed tables, and with these cells empty
abbrev pub effect : {T : Type 0} → (T → T) → (Question → Bool) → Face T → Face T
effect after empties face = record {
  tables = after face.tables;
  cell = λ q. if empties q then None else face.cell q;
}

-- The fault has the code of the reason if there is one. Else there was no memory.
abbrev pub IsFaultFor : Option ℕ → ChangeFault → Type 0
IsFaultFor (Some code) fault = fault ≡ Refused code
IsFaultFor None fault = fault ≡ NoMemory
