-- A number that goes with a name, so that two names are seldom compared that differ.
use Rattle.std.specs.Prelude.{ℕ, ◌+◌, ◌*◌, ◌^◌, ◌%◌, fold}
use Rattle.dns_name.specs.Labels.{Labels, octets_of}

-- the tag with one octet more
abbrev pub tag_with : ℕ → ℕ → ℕ
tag_with tag octet = (tag * 31 + octet) % 2 ^ 32

-- the tag of a name
abbrev pub tag_of : Labels → ℕ
tag_of name = fold tag_with 0 (octets_of name)
