-- The end of a want, for contracts inside the crate.
use Rattle.std.specs.Prelude.{◌≡◌, ℕ, List, Option, Result, IfOk, Err}
use Rattle.dns_query.specs.declared.over.Over.{Over}
use Rattle.dns_text.specs.declared.addr.Addr.{Addr}
use Rattle.iterate.specs.declared.search.Hunt.{Hunt}
use Rattle.iterate.specs.declared.want.Want.{Want}
use Rattle.iterate.specs.declared.want.Want.TheVariants.{Send, Finish}
use Rattle.system.specs.declared.device.DeviceFault.TheVariants.{NoMemory}
use Rattle.plain_workers.specs.declared.run.WantOutcome.{WantOutcome}
use Rattle.plain_workers.specs.declared.run.WantOutcome.TheVariants.{Go, Done}
use Rattle.replies.specs.Calls.{Calls}
use Rattle.plain_workers.specs.Leads.{Asks, Met}

-- A call met the want, or the want is an answer.
abbrev pub TakesTurn : {D X : Type 0} → Calls D → Asks X → D → X → Option Hunt → Want → WantOutcome → D → X → Type 0
TakesTurn calls asks d x hunt want (Go next) d' x' = Met calls asks d x hunt want next d' x'
TakesTurn calls asks d x hunt want (Done answer) d' x' = (want ≡ Finish answer) × (d' ≡ d) × (x' ≡ x)

-- So it is if there was memory for the exchange.
abbrev pub TakesTurnIfOk : {D X E : Type 0} → Calls D → Asks X → D → X → Option Hunt → Want → Result WantOutcome E → D → X → Type 0
TakesTurnIfOk calls asks d x hunt want result d' x' = IfOk result (λ outcome. TakesTurn calls asks d x hunt want outcome d' x')

-- The want is a query, and the exchange found no memory.
pub data Lacks {D X : Type 0} (asks : Asks X) : D → X → Option Hunt → Want → D → X → Type 0 where
  lacks : {d : D} {x x' : X} {hunt : Option Hunt} {server : Addr} {over : Over} {bytes : List ℕ}
      → asks x server hunt over bytes (Err NoMemory) x' → Lacks asks d x hunt (Send server over bytes) d x'
