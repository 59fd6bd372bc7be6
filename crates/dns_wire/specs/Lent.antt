-- Sections that lend their records part by part, and the messages that they make (RFC 1035, section 4.1).
use Rattle.std.specs.Prelude.{ℕ, List, [], ◌∷◌, get_or, map}
use Rattle.std.specs.List.{flat_map}
use Rattle.dns_name.specs.Labels.{Labels}
use Rattle.dns_text.specs.declared.record.Data.{Data}
use Rattle.dns_text.specs.declared.record.Question.{Question}
use Rattle.dns_text.specs.declared.record.Record.{Record}
use Rattle.dns_wire.specs.declared.message.Classed.{Classed}
use Rattle.dns_wire.specs.declared.message.Head.{Head}
use Rattle.dns_wire.specs.declared.message.Message.{Message}
use Rattle.dns_wire.specs.Write.Question.{in_class_in}

-- the records of a section, part by part
abbrev pub Parts : Type 0
Parts = List (List (Classed Record))

-- the records of a part; none if there is no such part
abbrev pub part_at : Parts → ℕ → List (Classed Record)
part_at parts i = get_or parts i []

-- all records, in order
abbrev pub in_order : Parts → List (Classed Record)
in_order parts = flat_map (λ part. part) parts

-- the records of an RRset: one owner, type and TTL (RFC 2181, section 5)
abbrev pub set_records : Labels → ℕ → ℕ → List Data → List (Classed Record)
set_records owner kind ttl bodies = map (λ body. in_class_in (record { owner = owner; kind = kind; ttl = ttl; body = body })) bodies

-- The records of each section.
pub record Records : Type 0 where
  pub answer : List (Classed Record)
  pub authority : List (Classed Record)
  pub additional : List (Classed Record)

-- the records of three lent sections
abbrev pub records_in : Parts → Parts → Parts → Records
records_in answer authority additional = record { answer = in_order answer; authority = in_order authority; additional = in_order additional }

-- the records of each section of a message
abbrev pub records_of : Message → Records
records_of v = record { answer = v.answer; authority = v.authority; additional = v.additional }

-- the reply to a question with this head and these records
abbrev pub reply_of : Head → Question → Records → Message
reply_of head question records = record { head = head; questions = in_class_in question ∷ []; answer = records.answer; authority = records.authority; additional = records.additional }

-- the reply with a lent answer section, a lent authority section and an empty additional section
abbrev pub lent_reply : Head → Question → Parts → Parts → Message
lent_reply head question answer authority = reply_of head question (record { answer = in_order answer; authority = in_order authority; additional = [] })
