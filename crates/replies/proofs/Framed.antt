-- A message that broke off preceded by its length.
use Rattle.std.proofs.Common.{◌<◌, ◌^◌, ℕ, List, ◌++◌, [], refl, inr, arith}
use Rattle.std.specs.Prelude.{Option, Err}
use Rattle.std.specs.Io.KnownBytes.{Consumes}
use Rattle.streams.specs.Laws.{Consumes-then}
use Rattle.replies.specs.declared.fault.StreamFault.{StreamFault}
use Rattle.replies.specs.declared.fault.StreamFault.TheVariants.{Read, Write, Short, NoMemory}
use Rattle.replies.specs.Framing.{length_octets, BodyCame, MessageCame}

-- The fault that ended the message itself ended the message with its length.
pub broken_behind : (size : ℕ) (fault : StreamFault) (u v w : Option (List ℕ)) → size < 2 ^ 16 → Consumes u v (length_octets size) → BodyCame (Err fault) size v w
    → MessageCame (Err fault) u w
broken_behind size Read u v w small head body =
    (length_octets size ++ body.0, inr (size, body.0, small, body.1, refl), Consumes-then u v w (length_octets size) body.0 head body.2)
broken_behind size Short u v w small head body =
    (length_octets size ++ body.0, inr (size, body.0, small, body.1, refl), omega arith, Consumes-then u v w (length_octets size) body.0 head body.2, body.3)
broken_behind size NoMemory u v w small head body = (size, small, Consumes-then u v w (length_octets size) [] head body)
broken_behind size Write u v w small head body = body
