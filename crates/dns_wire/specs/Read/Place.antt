-- The label, pointer or end of a name at a place of a message (RFC 1035, sections 3.1 and 4.1.4).
use Rattle.std.specs.Prelude.{ℕ, ◌+◌, ◌-◌, ◌*◌, List, take, drop, map, Option, Some, None, slice_get, nat_lt, ◌==◌, if◌then◌else◌}
use Rattle.std.specs.Char.{to_ascii_lowercase}
use Rattle.dns_wire.specs.declared.limits.TheConstants.{LABEL_END, POINTER_MARK}
use Rattle.dns_wire.specs.declared.read.place.Next.{Next}
use Rattle.dns_wire.specs.declared.read.place.Next.TheVariants.{Finish, Label, Pointer, Reserved, Cut}

-- a pointer: its two top bits are 11, and the 14 bits below them are the offset
abbrev pub pointer_by : ℕ → Option ℕ → Next
pointer_by n None = Cut
pointer_by n (Some low) = Pointer ((n - POINTER_MARK) * 256 + low)

-- by the octet at the place: 0 ends a name, top bits 00 begin a label, 11 a pointer, and 01 and 10 are reserved
abbrev pub next_by : List ℕ → ℕ → Option ℕ → Next
next_by m at None = Cut
next_by m at (Some n) =
    if n == 0 then Finish else if nat_lt n LABEL_END then Label n else
    if nat_lt n POINTER_MARK then Reserved else pointer_by n (slice_get m (at + 1))

-- the label, pointer or end of a name at a place
abbrev pub next_at : List ℕ → ℕ → Next
next_at m at = next_by m at (slice_get m at)

-- n octets after the one at a place, in lower case
abbrev pub label_at : List ℕ → ℕ → ℕ → List ℕ
label_at m at n = map to_ascii_lowercase (take n (drop (at + 1) m))
