-- Messages over TCP, each preceded by its length in two octets (RFC 1035, section 4.2.2).
use Rattle.std.specs.Prelude.{◌≡◌, ◌⊎◌, ℕ, ◌+◌, ◌<◌, ◌/◌, ◌%◌, ◌^◌, Option, Some, None, Result, Ok, Err, List, [], ◌∷◌, ◌++◌, length}
use Rattle.std.specs.Io.KnownBytes.{Consumes, IsAtEnd}
use Rattle.replies.specs.declared.fault.StreamFault.{StreamFault}
use Rattle.replies.specs.declared.fault.StreamFault.TheVariants.{Read, Write, Short, NoMemory}

-- the two octets of a length, the high one first
abbrev pub length_octets : ℕ → List ℕ
length_octets n = (n / 256) ∷ (n % 256) ∷ []

-- a message preceded by its length
abbrev pub framed : List ℕ → List ℕ
framed m = length_octets (length m) ++ m

-- It is short enough for a length of two octets.
abbrev pub HasLength : List ℕ → Type 0
HasLength m = length m < 2 ^ 16

-- Fewer octets than a message and its length.
abbrev pub IsPartial : List ℕ → Type 0
IsPartial rest = (length rest < 2) ⊎ ((size : ℕ) × (m : List ℕ) × (size < 2 ^ 16) × (length m < size) × (rest ≡ length_octets size ++ m))

-- The length of the next message was read, or the input was at its end, or the read ended by a fault.
abbrev pub SizeCame : Result (Option ℕ) StreamFault → Option (List ℕ) → Option (List ℕ) → Type 0
SizeCame (Ok (Some n)) old new = (n < 2 ^ 16) × Consumes old new (length_octets n)
SizeCame (Ok None) old new = Consumes old new [] × IsAtEnd new
SizeCame (Err Read) old new = (rest : List ℕ) × (length rest < 2) × Consumes old new rest
SizeCame (Err Short) old new = (rest : List ℕ) × (length rest < 2) × (0 < length rest) × Consumes old new rest × IsAtEnd new
SizeCame (Err _) old new = ⊥

-- A message of so many octets was read, or only a front of it.
abbrev pub BodyCame : Result (List ℕ) StreamFault → ℕ → Option (List ℕ) → Option (List ℕ) → Type 0
BodyCame (Ok m) size old new = (length m ≡ size) × Consumes old new m
BodyCame (Err Read) size old new = (m : List ℕ) × (length m < size) × Consumes old new m
BodyCame (Err Short) size old new = (m : List ℕ) × (length m < size) × Consumes old new m × IsAtEnd new
BodyCame (Err NoMemory) size old new = Consumes old new []
BodyCame (Err Write) size old new = ⊥

-- The next message was read, or the input was at its end. Or a read failed, the input ended inside a message, or there was no memory for one whose length had come.
abbrev pub MessageCame : Result (Option (List ℕ)) StreamFault → Option (List ℕ) → Option (List ℕ) → Type 0
MessageCame (Ok (Some m)) old new = HasLength m × Consumes old new (framed m)
MessageCame (Ok None) old new = Consumes old new [] × IsAtEnd new
MessageCame (Err Read) old new = (rest : List ℕ) × IsPartial rest × Consumes old new rest
MessageCame (Err Short) old new = (rest : List ℕ) × IsPartial rest × (0 < length rest) × Consumes old new rest × IsAtEnd new
MessageCame (Err NoMemory) old new = (size : ℕ) × (size < 2 ^ 16) × Consumes old new (length_octets size)
MessageCame (Err Write) old new = ⊥

-- `Read` counts one failed read more, or none if no read was left. All else counts none.
abbrev pub CountsRead : {A : Type 0} → Result A StreamFault → ℕ → ℕ → ℕ → Type 0
CountsRead (Err Read) left old new = (new ≡ old + 1) ⊎ ((left ≡ 0) × (new ≡ old))
CountsRead _ left old new = new ≡ old

-- `Write` counts one failed write more, and all else none.
abbrev pub CountsWrite : {A : Type 0} → Result A StreamFault → ℕ → ℕ → Type 0
CountsWrite (Err Write) old new = new ≡ old + 1
CountsWrite _ old new = new ≡ old

-- A whole message was taken out of the octets that had come, and none of them are left.
abbrev pub TakesMessage : List ℕ → List ℕ → List ℕ → Type 0
TakesMessage came left message = (came ≡ framed message) × HasLength message × (left ≡ [])
