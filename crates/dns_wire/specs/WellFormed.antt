-- Messages whose fields are in range (RFC 1035, sections 2.3.4, 3.3 and 4.1; RFC 2181, section 8).
use Rattle.std.specs.Prelude.{◌<◌, ◌^◌}
use Rattle.std.specs.List.{AllByRecursion}
use Rattle.dns_name.specs.Labels.{IsName}
use Rattle.dns_text.specs.declared.record.Data.{Data}
use Rattle.dns_text.specs.declared.record.Data.TheVariants.{A, Aaaa, One, Mx, Soa, Txt, Srv, Opaque}
use Rattle.dns_text.specs.declared.record.Question.{Question}
use Rattle.dns_text.specs.declared.record.Record.{Record}
use Rattle.dns_text.specs.Data.{IsOfForm}
use Rattle.dns_text.specs.String.{AreOctets}
use Rattle.dns_wire.specs.declared.message.Classed.{Classed}
use Rattle.dns_wire.specs.declared.message.Head.{Head}
use Rattle.dns_wire.specs.declared.message.Message.{Message}
use Rattle.dns_wire.specs.Lent.{Records, records_of}
use Rattle.dns_wire.specs.Read.Rdata.{form_in}

-- Each field of a header is in range: an identifier of 16 bits, and so on.
pub record IsHead (h : Head) : Type 0 where
  pub id : h.id < 2 ^ 16
  pub opcode : h.opcode < 2 ^ 4
  pub z : h.z < 2 ^ 3
  pub rcode : h.rcode < 2 ^ 4

-- A question has a valid name, and a type and a class of 16 bits.
pub record IsQuestion (q : Classed Question) : Type 0 where
  pub owner : IsName q.item.owner
  pub kind : q.item.kind < 2 ^ 16
  pub class : q.class < 2 ^ 16

-- The fields of data are in range.
abbrev pub IsData : Data → Type 0
IsData (A octets) = AreOctets octets
IsData (Aaaa octets) = AreOctets octets
IsData (One name) = IsName name
IsData (Mx preference exchange) = (preference < 2 ^ 16) × IsName exchange
IsData (Soa primary mailbox serial refresh retry expire minimum) = IsName primary × IsName mailbox × (serial < 2 ^ 32) × (refresh < 2 ^ 32) × (retry < 2 ^ 32) × (expire < 2 ^ 32) × (minimum < 2 ^ 32)
IsData (Txt strings) = AllByRecursion AreOctets strings
IsData (Srv priority weight port target) = (priority < 2 ^ 16) × (weight < 2 ^ 16) × (port < 2 ^ 16) × IsName target
IsData (Opaque octets) = AreOctets octets

-- The data has the form of its class and type.
abbrev pub HasItsForm : Classed Record → Type 0
HasItsForm r = IsOfForm (form_in r.class r.item.kind) r.item.body

-- A record has a valid owner, each field in range, a TTL below 2^31 and data in the form of its class and type.
pub record IsRecord (r : Classed Record) : Type 0 where
  pub owner : IsName r.item.owner
  pub kind : r.item.kind < 2 ^ 16
  pub class : r.class < 2 ^ 16
  pub ttl : r.item.ttl < 2 ^ 31
  pub form : HasItsForm r
  pub data_fits : IsData r.item.body

-- All records of the three sections are valid.
pub record AreRecords (records : Records) : Type 0 where
  pub answer : AllByRecursion IsRecord records.answer
  pub authority : AllByRecursion IsRecord records.authority
  pub additional : AllByRecursion IsRecord records.additional

-- Each field is in its range, each TTL is below 2^31, and all data has the form of its class and type.
pub record IsWellFormed (v : Message) : Type 0 where
  pub head : IsHead v.head
  pub questions : AllByRecursion IsQuestion v.questions
  pub answer : AllByRecursion IsRecord v.answer
  pub authority : AllByRecursion IsRecord v.authority
  pub additional : AllByRecursion IsRecord v.additional

-- All data of the three sections has the form of its class and type.
pub record AreFormed (records : Records) : Type 0 where
  pub answer : AllByRecursion HasItsForm records.answer
  pub authority : AllByRecursion HasItsForm records.authority
  pub additional : AllByRecursion HasItsForm records.additional

-- All data of a message has the form of its class and type. The Rust types of the fields ensure all other ranges.
abbrev pub HasForms : Message → Type 0
HasForms v = AreFormed (records_of v)
