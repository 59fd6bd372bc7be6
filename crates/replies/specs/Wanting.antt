-- The octets that a message preceded by its length still lacks (RFC 1035, section 4.2.2).
use Rattle.std.specs.Prelude.{◌≡◌, ℕ, ◌+◌, ◌-◌, ◌*◌, List, [], ◌∷◌, length}
use Rattle.replies.specs.Framing.{framed, HasLength}

-- the number of octets of a message and its length, as far as these octets say
abbrev pub framed_size : List ℕ → ℕ
framed_size [] = 2
framed_size (high ∷ []) = 2
framed_size (high ∷ low ∷ message) = 2 + (high * 256 + low)

-- the number of octets that the message still lacks, if these came
abbrev pub octets_wanting : List ℕ → ℕ
octets_wanting came = framed_size came - length came

-- The octets are a whole message preceded by its length.
abbrev pub IsWholeFrame : List ℕ → Type 0
IsWholeFrame came = (message : List ℕ) × HasLength message × (came ≡ framed message)
