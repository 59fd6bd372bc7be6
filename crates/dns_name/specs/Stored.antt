-- The octets of a name, in each kind of storage.
use Rattle.std.specs.Prelude.{ℕ, List, drop}
use Rattle.dns_name.specs.declared.octets.Storage.{Storage}
use Rattle.dns_name.specs.declared.octets.Storage.TheVariants.{Short, Middle, Long}

-- the octets of a short name, held in the value itself, or of a longer one, held in a block that may be shared
abbrev pub stored_octets : Storage → List ℕ
stored_octets (Short run) = drop run.start run.octets
stored_octets (Middle run) = drop run.value.start run.value.octets
stored_octets (Long run) = drop run.value.start run.value.octets
