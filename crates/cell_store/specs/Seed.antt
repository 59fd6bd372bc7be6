-- The hasher of names, which begins each hash with a seed.
use Rattle.std.specs.Prelude.{ℕ}
use Rattle.std.specs.Int.{w128, to_le_bytes}
use Rattle.std.specs.Hash.DefaultHasher.{initial, write}
use Rattle.std.specs.declared.hash.DefaultHasher.{DefaultHasher}

-- SipHash-1-3 after the 16 octets of the seed
abbrev pub seeded : ℕ → DefaultHasher
seeded seed = write initial (to_le_bytes w128 seed)
