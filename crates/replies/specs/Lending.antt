-- The records of an answer, in the sections of a reply.
use Rattle.std.specs.Prelude.{ℕ, min, Option, List, [], ◌∷◌, ◌++◌, map}
use Rattle.std.specs.List.{flat_map}
use Rattle.std.specs.Option.{option_to_list}
use Rattle.dns_text.specs.declared.record.Record.{Record}
use Rattle.dns_text.specs.declared.ttl.TheConstants.{MOST_TTL}
use Rattle.dns_wire.specs.declared.message.Classed.{Classed}
use Rattle.dns_wire.specs.Lent.{Parts, set_records}
use Rattle.dns_wire.specs.Write.Question.{in_class_in}
use Rattle.ranked.specs.Body.{data_of}
use Rattle.ranked.specs.declared.find.Find.{Find}
use Rattle.iterate.specs.declared.answer.Soa.{Soa}
use Rattle.iterate.specs.declared.answer.Soa.TheVariants.{Find as FindSoa, Local as LocalSoa}
use Rattle.iterate.specs.declared.answer.AnswerSet.{AnswerSet}
use Rattle.iterate.specs.declared.answer.AnswerSet.TheVariants.{Find as FoundSet, Local as LocalSet, Passing as PassedSet}
use Rattle.iterate.specs.Told.{kinds_of, soa_in}

-- the TTL of a record on the wire: the longest there is replaces a longer one (RFC 2181, section 8)
abbrev pub seconds_written : ℕ → ℕ
seconds_written ttl = min ttl MOST_TTL

-- the records of a find
abbrev pub records_found : ℕ → Find → List (Classed Record)
records_found ttl find = flat_map (λ kind. set_records find.owner kind (seconds_written ttl) (data_of find.body)) (kinds_of find.scope)

-- the records of a set
abbrev pub records_written : AnswerSet → List (Classed Record)
records_written (FoundSet ttl find) = records_found ttl find
records_written (LocalSet records) = map in_class_in records
records_written (PassedSet set) = set_records set.owner set.kind 0 set.data

-- the answer section: the sets of the aliases in their order, then the last set
abbrev pub answer_parts : List AnswerSet → Option AnswerSet → Parts
answer_parts aliases last = map records_written (aliases ++ option_to_list last)

-- the SOA record of a negative answer (RFC 2308, section 3)
abbrev pub soa_written : Soa → List (Classed Record)
soa_written (FindSoa ttl find) = map (λ (soa : Record). in_class_in (record soa { ttl = seconds_written ttl })) (soa_in find.body)
soa_written (LocalSoa soa) = in_class_in soa ∷ []

-- the authority section: the SOA record of a negative answer, if it has one
abbrev pub authority_parts : Option Soa → Parts
authority_parts authority = map soa_written (option_to_list authority)
