use Rattle.std.proofs.Common.{◌≡◌, ◌∙◌, ◌++◌, Bool, true, false, not, if◌then◌else◌, List, ℕ, ap, inr, refl, take, true≢false}
use Rattle.std.proofs.lemmas.List.{take-append-drop}
use Rattle.std.specs.IoError.{error_kind}
use Rattle.std.specs.declared.io.ErrorKind.{ErrorKind}
use Rattle.std.specs.declared.io.ErrorKind.TheVariants.{WouldBlock, Interrupted}
use Rattle.front.proofs.Passing.{serves_written}
use Rattle.front.proofs.tcp.connection.Connection.write_next.Goals as goal

pub returns-in-Ok-clause-serves : goal.returns-in-Ok-clause-serves
returns-in-Ok-clause-serves g c =
    let owed = c.self.inside.owed.octets in
    let out = take c.in-Ok.count owed in
    rw (← c.self.view_is) (serves_written out _ _ c.in-Ok.ensures.written (ap (λ (rest : List ℕ). out ++ rest) c.in-Ok.ensures.left ∙ take-append-drop c.in-Ok.count owed) refl refl refl)

would_wait_of : (kind : ErrorKind) (waits : Bool) → kind ≡ (if waits then WouldBlock else Interrupted) → not waits ≡ false → kind ≡ WouldBlock
would_wait_of kind true is stops = is
would_wait_of kind false is stops = absurd (true≢false stops)

pub returns-in_ok-would_wait-in-Err-clause-flushed : goal.returns-in_ok-would_wait-in-Err-clause-flushed
returns-in_ok-would_wait-in-Err-clause-flushed g c =
    λ stops. inr (c.in-Err.ensures.drained (would_wait_of (error_kind c.in-Err.error) c.in_ok-would_wait-in-Err.field-0 c.in_ok-would_wait-in-Err.ensures.waits stops))
