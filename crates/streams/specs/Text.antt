-- The octets of a reply.
use Rattle.std.specs.Prelude.{ℕ, List}
use Rattle.streams.specs.declared.text.Text.{Text}
use Rattle.streams.specs.declared.text.Text.TheVariants.{Fixed, Short, Made}

-- The octets of a reply, whichever way it is kept.
abbrev pub octets_in : Text → List ℕ
octets_in (Fixed octets) = octets.now
octets_in (Short octets) = octets.items
octets_in (Made octets) = octets.items
