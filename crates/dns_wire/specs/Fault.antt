-- The results of readers of messages, which may run out of memory.
use Rattle.std.specs.Prelude.{Result}
use Rattle.dns_name.specs.Results.{GivesBut}
use Rattle.dns_wire.specs.declared.fault.WireFault.{WireFault}
use Rattle.dns_wire.specs.declared.fault.WireFault.TheVariants.{NoMemory}

-- A function returned what the definition says, unless memory ran out.
abbrev pub Gives : {A : Type 0} → Result A WireFault → Result A WireFault → Type 0
Gives result said = GivesBut NoMemory result said
