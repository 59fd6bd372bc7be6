-- Numbers as octets, the high octet first (RFC 1035, section 2.3.2).
use Rattle.std.specs.Prelude.{ℕ, List}
use Rattle.std.specs.Int.{w16, w32, to_be_bytes}

-- a number of 16 bits
abbrev pub u16_octets : ℕ → List ℕ
u16_octets n = to_be_bytes w16 n

-- a number of 32 bits
abbrev pub u32_octets : ℕ → List ℕ
u32_octets n = to_be_bytes w32 n
