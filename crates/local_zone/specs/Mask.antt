-- A set of 64 bits that goes with a name, so that few owners are read that do not lie below a name.
use Rattle.std.specs.Prelude.{ℕ, ◌%◌, ◌/◌, ◌^◌, [], ◌∷◌}
use Rattle.std.specs.Int.Bits.{bit_or}
use Rattle.dns_name.specs.Labels.{Labels}
use Rattle.local_zone.specs.Tag.{tag_of}

-- two of the 64 bits, by a tag
abbrev pub bits_of : ℕ → ℕ
bits_of tag = bit_or (2 ^ (tag % 64)) (2 ^ (tag / 64 % 64))

-- a set of bits with those of a name and of all names above it
abbrev pub mask_with : ℕ → Labels → ℕ
mask_with mask [] = bit_or mask (bits_of (tag_of []))
mask_with mask (label ∷ labels) = mask_with (bit_or mask (bits_of (tag_of (label ∷ labels)))) labels

-- the bits of a name and of all names above it
abbrev pub mask_of : Labels → ℕ
mask_of name = mask_with 0 name
