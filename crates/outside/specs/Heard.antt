-- What a call hears of an exchange over UDP.
use Rattle.std.specs.Prelude.{ℕ}
use Rattle.outside.specs.declared.heard.UdpHeard.{UdpHeard}
use Rattle.outside.specs.declared.heard.UdpHeard.TheVariants.{Reply}

-- If it was the reply, this is so of the number of its octets.
abbrev pub IfReply : UdpHeard → (ℕ → Type 0) → Type 0
IfReply (Reply count) fact = fact count
IfReply _ fact = Unit {0}
