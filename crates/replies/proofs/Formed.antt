-- The records of an answer that is fit for a reply have data of their form.
use Rattle.std.proofs.Common.{ℕ, List, [], ◌∷◌, ◌++◌, map, Option, Some, None}
use Rattle.std.specs.List.{AllByRecursion, flat_map}
use Rattle.std.specs.Option.{option_to_list}
use Rattle.dns_name.specs.Labels.{Labels}
use Rattle.dns_name.specs.ListLaws.{all-append, all_split}
use Rattle.dns_text.specs.Data.{HasForm}
use Rattle.dns_text.specs.declared.record.Data.{Data}
use Rattle.dns_text.specs.declared.record.Record.{Record}
use Rattle.dns_wire.specs.Lent.{set_records}
use Rattle.dns_wire.specs.LentLaws.{set_formed}
use Rattle.dns_wire.specs.WellFormed.{HasItsForm}
use Rattle.dns_wire.specs.Write.Question.{in_class_in}
use Rattle.ranked.specs.Body.{data_of}
use Rattle.iterate.specs.declared.answer.Soa.{Soa}
use Rattle.iterate.specs.declared.answer.Soa.TheVariants.{Find as FindSoa, Local as LocalSoa}
use Rattle.iterate.specs.declared.answer.AnswerSet.{AnswerSet}
use Rattle.iterate.specs.declared.answer.AnswerSet.TheVariants.{Find as FoundSet, Local as LocalSet, Passing as PassedSet}
use Rattle.iterate.specs.Told.{IsFormed, kinds_of, records_of_soa, records_told, soa_in}
use Rattle.replies.specs.Lending.{answer_parts, authority_parts, records_written, seconds_written, soa_written}

-- the data of one owner, type and time to live as records
abbrev records_with : Labels → ℕ → ℕ → List Data → List Record
records_with owner kind ttl bodies = map (λ datum. record { owner = owner; kind = kind; ttl = ttl; body = datum }) bodies

data_formed : (owner : Labels) (kind ttl : ℕ) (bodies : List Data) → AllByRecursion IsFormed (records_with owner kind ttl bodies) → AllByRecursion (HasForm kind) bodies
data_formed owner kind ttl [] all = tt
data_formed owner kind ttl (body ∷ bodies) all = (all.0, data_formed owner kind ttl bodies all.1)

found_formed : (owner : Labels) (ttl seconds : ℕ) (bodies : List Data) (kinds : List ℕ)
    → AllByRecursion IsFormed (flat_map (λ kind. records_with owner kind ttl bodies) kinds) → AllByRecursion HasItsForm (flat_map (λ kind. set_records owner kind seconds bodies) kinds)
found_formed owner ttl seconds bodies [] all = tt
found_formed owner ttl seconds bodies (kind ∷ kinds) all =
    let both = all_split IsFormed (records_with owner kind ttl bodies) (flat_map (λ kind. records_with owner kind ttl bodies) kinds) all in
    all-append HasItsForm (set_records owner kind seconds bodies) (flat_map (λ kind. set_records owner kind seconds bodies) kinds)
    (set_formed owner kind seconds bodies (data_formed owner kind ttl bodies both.0)) (found_formed owner ttl seconds bodies kinds both.1)

records_formed : (records : List Record) → AllByRecursion IsFormed records → AllByRecursion HasItsForm (map in_class_in records)
records_formed [] all = tt
records_formed (r ∷ records) all = (all.0, records_formed records all.1)

told_formed : (told : AnswerSet) → AllByRecursion IsFormed (records_told told) → AllByRecursion HasItsForm (records_written told)
told_formed (FoundSet ttl find) all = found_formed find.owner ttl (seconds_written ttl) (data_of find.body) (kinds_of find.scope) all
told_formed (LocalSet records) all = records_formed records all
told_formed (PassedSet set) all = set_formed set.owner set.kind 0 set.data (data_formed set.owner set.kind 0 set.data all)

sets_formed : (sets : List AnswerSet) → AllByRecursion IsFormed (flat_map records_told sets) → AllByRecursion (AllByRecursion HasItsForm) (map records_written sets)
sets_formed [] all = tt
sets_formed (told ∷ sets) all =
    let both = all_split IsFormed (records_told told) (flat_map records_told sets) all in
    (told_formed told both.0, sets_formed sets both.1)

pub answer_formed : (aliases : List AnswerSet) (last : Option AnswerSet) → AllByRecursion IsFormed (flat_map records_told (aliases ++ option_to_list last)) → AllByRecursion (AllByRecursion HasItsForm) (answer_parts aliases last)
answer_formed aliases last all = sets_formed (aliases ++ option_to_list last) all

soas_formed : (ttl seconds : ℕ) (soas : List Record) → AllByRecursion IsFormed (map (λ (soa : Record). record soa { ttl = ttl }) soas)
    → AllByRecursion HasItsForm (map (λ (soa : Record). in_class_in (record soa { ttl = seconds })) soas)
soas_formed ttl seconds [] all = tt
soas_formed ttl seconds (soa ∷ soas) all = (all.0, soas_formed ttl seconds soas all.1)

soa_formed : (soa : Soa) → AllByRecursion IsFormed (records_of_soa soa) → AllByRecursion HasItsForm (soa_written soa)
soa_formed (FindSoa ttl find) all = soas_formed ttl (seconds_written ttl) (soa_in find.body) all
soa_formed (LocalSoa soa) all = all

pub authority_formed : (authority : Option Soa) → AllByRecursion IsFormed (flat_map records_of_soa (option_to_list authority)) → AllByRecursion (AllByRecursion HasItsForm) (authority_parts authority)
authority_formed None all = tt
authority_formed (Some soa) all = (soa_formed soa (all_split IsFormed (records_of_soa soa) [] all).0, tt)
