-- Numbers in a message, the high octet first (RFC 1035, section 2.3.2).
use Rattle.std.specs.Prelude.{ℕ, List, take, drop}
use Rattle.std.specs.Int.{w16, w32, from_be_bytes}

-- the number of the 16 bits at a place
unfoldable pub u16_at : List ℕ → ℕ → ℕ
u16_at m at = from_be_bytes w16 (take 2 (drop at m))

-- the number of the 32 bits at a place
unfoldable pub u32_at : List ℕ → ℕ → ℕ
u32_at m at = from_be_bytes w32 (take 4 (drop at m))
