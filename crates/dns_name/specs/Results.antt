-- Results of steps that may fail: definitions for every crate, generic in the value and the fault.
use Rattle.std.specs.Prelude.{◌≡◌, ◌≢◌, Option, Some, None, Result, Ok, Err}

-- goes on with the value of a step, unless it failed
infixl 10 ◌>>=◌
abbrev pub ◌>>=◌ : {A B E : Type 0} → Result A E → (A → Result B E) → Result B E
(Ok x) >>= f = f x
(Err fault) >>= f = Err fault

-- what was found, or this fault if nothing was
abbrev pub or_fault : {A E : Type 0} → E → Option A → Result A E
or_fault fault None = Err fault
or_fault fault (Some x) = Ok x

-- the result with a function applied to its value
abbrev pub result_map : {A B E : Type 0} → (A → B) → Result A E → Result B E
result_map f (Ok x) = Ok (f x)
result_map f (Err fault) = Err fault

-- A function returned what a definition says, unless it returned that memory ran out, which no definition says.
abbrev pub GivesBut : {A E : Type 0} → E → Result A E → Result A E → Type 0
GivesBut no_memory (Ok x) said = said ≡ Ok x
GivesBut no_memory (Err fault) said = fault ≢ no_memory → said ≡ Err fault
