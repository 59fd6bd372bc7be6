-- The ends of a run that failed.
use Rattle.std.specs.Prelude.{◌≡◌, ◌++◌, ◌⊎◌, ◌==◌, ◌||◌, ℕ, List, codes, map, nat_lt, if◌then◌else◌}
use Rattle.dns_text.specs.declared.addr.Addr.{Addr}
use Rattle.dns_text.specs.Addr.{addr_text}
use Rattle.resolver_args.specs.declared.fault.ArgsFault.{ArgsFault}
use Rattle.resolver_args.specs.declared.fault.ArgsFault.TheVariants.{NoMemory, Usage, BadArguments, NotLoopback}
use Rattle.operators.specs.declared.fault.CliFault.{CliFault}
use Rattle.streams.specs.Split.{with_end}
use Rattle.streams.specs.Text.{octets_in}

-- The program ends with this status, and writes these words as a line to standard error.
abbrev pub ProgramEnds : CliFault → ℕ → List ℕ → Type 0
ProgramEnds fault status words = (fault.status ≡ status) × (octets_in fault.text ≡ with_end words)

-- An octet as a line shows it: one that would end the line, or move the cursor of a terminal, is a question mark.
abbrev pub shown : ℕ → ℕ
shown octet = if nat_lt octet 32 || octet == 127 then 63 else octet

-- A line that says why.
abbrev pub why_line : List ℕ → List ℕ
why_line why = with_end (codes "resolver: " ++ map shown why)

-- The first line has these words, and the second says why.
abbrev pub HasWhy : List ℕ → List ℕ → Type 0
HasWhy words lines = (why : List ℕ) × (lines ≡ with_end words ++ why_line why)

-- The program ends with this status, and writes these words as a line to standard error, and one that says why.
abbrev pub EndsWhy : CliFault → ℕ → List ℕ → Type 0
EndsWhy fault status words = (fault.status ≡ status) × HasWhy words (octets_in fault.text)

-- Memory ran out at the start.
abbrev pub IsNoMemory : CliFault → Type 0
IsNoMemory fault = ProgramEnds fault 1 (codes "resolver: no memory")

-- An argument is not UTF-8 or no address, or there are too few or too many hints or workers. If there is memory, it says which.
abbrev pub IsBadArguments : CliFault → Type 0
IsBadArguments fault = EndsWhy fault 2 (codes "resolver: bad arguments") ⊎ ProgramEnds fault 2 (codes "resolver: bad arguments")

-- Other machines could reach the control address.
abbrev pub IsNotLoopback : CliFault → Type 0
IsNotLoopback fault = ProgramEnds fault 2 (codes "resolver: control must be loopback")

-- Standard input, or the reply of a service, cannot be read.
abbrev pub IsFailedRead : CliFault → Type 0
IsFailedRead fault = ProgramEnds fault 1 (codes "resolver: read failed")

-- Standard output cannot be written.
abbrev pub IsFailedWrite : CliFault → Type 0
IsFailedWrite fault = ProgramEnds fault 1 (codes "resolver: write failed")

-- The system denied its clock, its random numbers or its limit of descriptors, or no more callers of the book are counted.
abbrev pub CannotStart : CliFault → Type 0
CannotStart fault = ProgramEnds fault 1 (codes "resolver: cannot start")

-- The service cannot listen at this address, and why.
abbrev pub CannotListen : Addr → CliFault → Type 0
CannotListen addr fault = EndsWhy fault 1 (codes "resolver: cannot listen on " ++ addr_text addr)

-- A reason that is about the file of a service's first lines.
abbrev pub file_reason : List ℕ → List ℕ → List ℕ
file_reason path reason = codes "--commands " ++ path ++ codes ": " ++ reason

-- A line of the file was refused, and the second line says which.
abbrev pub IsRefused : List ℕ → List ℕ → CliFault → Type 0
IsRefused path refusal fault =
    (fault.status ≡ 1) × (octets_in fault.text ≡ with_end (codes "resolver: cannot start") ++ why_line (file_reason path refusal))

-- The lines for a file that cannot be read: the second says why.
abbrev pub SayUnread : List ℕ → List ℕ → Type 0
SayUnread path lines = (reason : List ℕ) × (lines ≡ with_end (codes "resolver: read failed") ++ why_line (file_reason path reason))

-- The file cannot be read, and the second line says why.
abbrev pub IsUnread : List ℕ → CliFault → Type 0
IsUnread path fault = (fault.status ≡ 1) × (reason : List ℕ)
    × (octets_in fault.text ≡ with_end (codes "resolver: read failed") ++ why_line (file_reason path reason))

-- The file of this path cannot be read, or a line of it was refused; or memory ran out.
abbrev pub CannotObey : List ℕ → CliFault → Type 0
CannotObey path fault = IsUnread path fault ⊎ ((refusal : List ℕ) × IsRefused path refusal fault) ⊎ IsNoMemory fault

-- No service listens at this address.
abbrev pub HasNoService : Addr → CliFault → Type 0
HasNoService addr fault = ProgramEnds fault 1 (codes "resolver: no service at " ++ addr_text addr)

-- The service at this address did not reply in time.
abbrev pub HasNoReply : Addr → CliFault → Type 0
HasNoReply addr fault = ProgramEnds fault 3 (codes "resolver: no reply from " ++ addr_text addr)

-- Status 2, and the lines that clap writes: what is wrong with the arguments, help, or the version.
abbrev pub IsUsage : List ℕ → CliFault → Type 0
IsUsage lines fault = (fault.status ≡ 2) × (octets_in fault.text ≡ lines)

-- The end of a run whose arguments select no mode.
abbrev pub EndsFor : ArgsFault → CliFault → Type 0
EndsFor NoMemory fault = IsNoMemory fault
EndsFor (Usage lines) fault = IsUsage lines.bytes.items fault
EndsFor (BadArguments _) fault = IsBadArguments fault
EndsFor NotLoopback fault = IsNotLoopback fault
