-- The octets of a query's question, in each kind of storage.
use Rattle.std.specs.Prelude.{ℕ, List, take}
use Rattle.dns_wire.specs.declared.server.spelling.OctetStorage.{OctetStorage}
use Rattle.dns_wire.specs.declared.server.spelling.OctetStorage.TheVariants.{Short, Long}

-- the octets of a short question, held in the value itself, or of a longer one, held in a block
abbrev pub stored_octets : OctetStorage → List ℕ
stored_octets (Short run) = take run.len run.octets
stored_octets (Long octets) = octets.items
