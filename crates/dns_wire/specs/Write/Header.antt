-- The header as octets (RFC 1035, section 4.1.1).
use Rattle.std.specs.Prelude.{ℕ, ◌+◌, ◌*◌, ◌≤◌, Bool, true, false, List, ◌++◌, length}
use Rattle.dns_wire.specs.declared.limits.TheConstants.{MOST_COUNT}
use Rattle.dns_wire.specs.declared.message.Head.{Head}
use Rattle.dns_wire.specs.Lent.{Records}
use Rattle.dns_wire.specs.Write.Number.{u16_octets}

-- a flag as a bit
abbrev pub bit : Bool → ℕ
bit false = 0
bit true = 1

-- the flags of a header, from the high bit on: QR 1, OPCODE 4, AA 1, TC 1, RD 1, RA 1, Z 3, RCODE 4
abbrev pub flags_of : Head → ℕ
flags_of h = bit h.qr * 32768 + h.opcode * 2048 + bit h.aa * 1024 + bit h.tc * 512 + bit h.rd * 256 + bit h.ra * 128 + h.z * 16 + h.rcode

-- a header: its head, and the number of questions, answers, authority and additional records
unfoldable pub header_octets : Head → ℕ → ℕ → ℕ → ℕ → List ℕ
header_octets h questions answer authority additional =
    u16_octets h.id ++ u16_octets (flags_of h) ++ u16_octets questions ++ u16_octets answer ++ u16_octets authority ++ u16_octets additional

-- the header of a message with this many questions and these records
abbrev pub counted_header : Head → ℕ → Records → List ℕ
counted_header head questions records = header_octets head questions (length records.answer) (length records.authority) (length records.additional)

-- A header can count the records of each section.
pub record AreFew (records : Records) : Type 0 where
  pub answer : length records.answer ≤ MOST_COUNT
  pub authority : length records.authority ≤ MOST_COUNT
  pub additional : length records.additional ≤ MOST_COUNT
