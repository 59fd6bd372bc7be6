-- Failures of calls that never wait.
use Rattle.std.specs.Prelude.{◌≢◌}
use Rattle.std.specs.IoError.{error_kind}
use Rattle.std.specs.declared.io.Error.{Error}
use Rattle.std.specs.declared.io.ErrorKind.TheVariants.{WouldBlock, Interrupted}

-- The call failed: it would not have waited, and no signal ended it.
abbrev pub IsFailure : Error → Type 0
IsFailure error = (error_kind error ≢ WouldBlock) × (error_kind error ≢ Interrupted)
