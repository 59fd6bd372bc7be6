-- The way back of a change.
use Rattle.std.specs.Prelude.{◌≡◌, Bool}
use Rattle.named_list.specs.Turn.{other_of, puts_in, takes_out, HasPlace}
use Rattle.stub_table.specs.declared.saved.SavedStubs.{SavedStubs}
use Rattle.stub_table.specs.Stubs.{Stubs, AreStubs}

-- the list on the other side of a change, from the saved value
abbrev pub before_of : SavedStubs → Stubs → Stubs
before_of saved left = other_of saved.turn left

-- whether the step to the other side of a change may need memory: it puts a stub in
abbrev pub needs_memory : SavedStubs → Bool
needs_memory saved = puts_in saved.turn

-- whether the step back from there may
abbrev pub needs_memory_after : SavedStubs → Bool
needs_memory_after saved = takes_out saved.turn

-- After a step to the other side, the next step and the one after it need what they did, the other way round.
abbrev pub IsTurned : SavedStubs → SavedStubs → Type 0
IsTurned saved saved' = (needs_memory saved' ≡ needs_memory_after saved) × (needs_memory_after saved' ≡ needs_memory saved)

-- From the list that a change left, the saved value gives the one before it.
pub record TakesBack (saved : SavedStubs) (left before : Stubs) : Type 0 where
  pub gives : before_of saved left ≡ before
  pub fits : HasPlace (λ s. s.name) saved.turn left
  pub sound : AreStubs before
