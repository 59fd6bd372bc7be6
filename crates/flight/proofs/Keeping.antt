-- What is kept.
use Rattle.std.proofs.Common.{◌∙◌, ℕ}
use Rattle.flight.specs.Told.{Keeps}

-- What keeps all goes on to keep all.
pub kept_on : {W O : Type 0} {server_port : W → ℕ} {outbox : W → O} {old mid new : W} → Keeps server_port outbox old mid → Keeps server_port outbox mid new → Keeps server_port outbox old new
kept_on before after = record { port = after.port ∙ before.port; silent = after.silent ∙ before.silent }
