-- Errors that mean no file descriptors are left.
use Rattle.std.specs.Prelude.{◌≡◌, ◌⊎◌, Some}
use Rattle.std.specs.declared.io.Error.{Error}
use Rattle.std.specs.IoError.{raw_os_error}
use Rattle.system.specs.declared.descriptors.TheConstants.{EMFILE, ENFILE}

-- The call failed since the process has as many descriptors as it may have (EMFILE), or the system has (ENFILE).
abbrev pub LacksDescriptors : Error → Type 0
LacksDescriptors error = (raw_os_error error ≡ Some EMFILE) ⊎ (raw_os_error error ≡ Some ENFILE)
