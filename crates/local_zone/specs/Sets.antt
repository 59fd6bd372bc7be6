-- Records by type.
use Rattle.std.specs.Prelude.{List}
use Rattle.std.specs.List.Sorted.{IsNonDecreasingBy}
use Rattle.dns_text.specs.declared.record.Record.{Record}

-- No record has a lower type than the one before it.
abbrev pub AreInOrder : List Record → Type 0
AreInOrder records = IsNonDecreasingBy (λ r. r.kind) records
