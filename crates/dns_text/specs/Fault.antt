-- The results of text readers, which may run out of memory.
use Rattle.std.specs.Prelude.{Result}
use Rattle.dns_name.specs.Results.{GivesBut}
use Rattle.dns_text.specs.declared.fault.TextFault.{TextFault}
use Rattle.dns_text.specs.declared.fault.TextFault.TheVariants.{NoMemory}

-- A function returned what the definition says, unless memory ran out.
abbrev pub Gives : {A : Type 0} → Result A TextFault → Result A TextFault → Type 0
Gives result said = GivesBut NoMemory result said
