-- Results of reading a line.
use Rattle.std.specs.Prelude.{Result}
use Rattle.dns_name.specs.Results.{GivesBut}
use Rattle.command_text.specs.declared.fault.LineFault.{LineFault}
use Rattle.command_text.specs.declared.fault.LineFault.TheVariants.{NoMemory}

-- The result is the one that the definition gives, unless memory runs out.
abbrev pub Gives : {A : Type 0} → Result A LineFault → Result A LineFault → Type 0
Gives result said = GivesBut NoMemory result said
