-- The size of a message in octets: a lemma, which proofs here and in the crates above cite. No contract needs it.
use Rattle.std.proofs.Common.{◌≡◌, ℕ, ◌+◌, List, ◌++◌, length, arith, length-append}
use Rattle.dns_wire.specs.declared.message.Message.{Message}
use Rattle.dns_wire.specs.Lent.{records_of}
use Rattle.dns_wire.specs.Write.Header.{header_octets}
use Rattle.dns_wire.specs.Write.Message.{octets_with}
use Rattle.dns_wire.specs.Write.Question.{first_name}
use Rattle.dns_wire.specs.Write.Record.{records_octets}
use Rattle.dns_wire.specs.Write.Size.{records_len}

-- A message has the twelve octets of its header, those of its questions and those of its records.
pub length-octets_with : (questions : List ℕ) (v : Message) → length (octets_with questions v) ≡ 12 + length questions + records_len (first_name v.questions) (records_of v)
unfolding octets_with header_octets
length-octets_with questions v =
    let answer = records_octets (first_name v.questions) v.answer in
    let authority = records_octets (first_name v.questions) v.authority in
    let additional = records_octets (first_name v.questions) v.additional in
    omega (arith, length-append questions (answer ++ authority ++ additional), length-append (answer ++ authority) additional, length-append answer authority)
