-- An answer that resolves can be written: the data of what it tells have their forms.
use Rattle.std.proofs.Common.{ℕ, List, [], ◌∷◌, ◌++◌, map, sym, subst, Option, Some, None, Bool, inl, inr}
use Rattle.std.specs.List.{AllByRecursion, flat_map}
use Rattle.std.specs.Option.{option_map, option_to_list}
use Rattle.std.proofs.lemmas.Grind.{flat_map-append}
use Rattle.std.proofs.lemmas.List.{append-nil}
use Rattle.dns_name.specs.Labels.{Labels}
use Rattle.dns_name.specs.ListLaws.{all-append}
use Rattle.dns_query.specs.Query.{alias_question}
use Rattle.dns_text.specs.Data.{HasForm}
use Rattle.dns_text.specs.declared.record.Data.{Data}
use Rattle.dns_text.specs.declared.record.Question.{Question}
use Rattle.dns_text.specs.declared.record.Record.{Record}
use Rattle.harvest.specs.declared.passing.PassingSet.{PassingSet}
use Rattle.ranked.specs.Body.{HasForms, data_of}
use Rattle.ranked.specs.declared.find.Body.{Body}
use Rattle.ranked.specs.declared.find.Body.TheVariants.{Set, NoData, NoName}
use Rattle.ranked.specs.declared.find.Find.{Find}
use Rattle.ranked.specs.declared.find.Scope.{Scope}
use Rattle.ranked.specs.declared.find.Scope.TheVariants.{One, Whole}
use Rattle.history.specs.declared.event.Seen.{Seen as SeenValue}
use Rattle.iterate.specs.declared.answer.Answer.{Answer}
use Rattle.iterate.specs.declared.answer.Answer.TheVariants.{Reply, Silent}
use Rattle.iterate.specs.declared.answer.Soa.{Soa}
use Rattle.iterate.specs.declared.answer.Soa.TheVariants.{Local as LocalSoa}
use Rattle.iterate.specs.declared.answer.AnswerSet.{AnswerSet}
use Rattle.iterate.specs.declared.answer.AnswerSet.TheVariants.{Local as LocalTold}
use Rattle.iterate.specs.Exchanges.{Exchange}
use Rattle.iterate.specs.Known.{Fact, Had, Listed, Serves, Responds, Known}
use Rattle.iterate.specs.Resolved.{Chain, ResolvedAs, IsResolved}
use Rattle.iterate.specs.Shown.{IsLocalRecord, IsLocalSet, IsSoaFormed, EndsQuestion}
use Rattle.iterate.specs.Told.{IsFormed, IsFit, records_of_find, records_of_passing, records_told, records_of_soa, kinds_of, soa_in, soa_whole, told_of}

-- ---- sets

data_formed : (owner : Labels) (kind ttl : ℕ) (data_in : List Data) → AllByRecursion (HasForm kind) data_in
    → AllByRecursion IsFormed (map (λ datum. record { owner = owner; kind = kind; ttl = ttl; body = datum }) data_in)
data_formed owner kind ttl [] all = tt
data_formed owner kind ttl (datum ∷ data_in) all = (all.0, data_formed owner kind ttl data_in all.1)

body_formed : (owner : Labels) (ttl : ℕ) (scope : Scope) (body : Body) → HasForms scope body
    → AllByRecursion IsFormed (flat_map (λ kind. map (λ datum. record { owner = owner; kind = kind; ttl = ttl; body = datum }) (data_of body)) (kinds_of scope))
body_formed owner ttl (One kind) (Set found) forms =
    subst (λ (records : List Record). AllByRecursion IsFormed records) (sym (append-nil (map (λ datum. record { owner = owner; kind = kind; ttl = ttl; body = datum }) found))) (data_formed owner kind ttl found forms)
body_formed owner ttl (One kind) (NoData soa) forms = tt
body_formed owner ttl (One kind) (NoName soa) forms = tt
body_formed owner ttl Whole body forms = tt

find_formed : (ttl : ℕ) (find : Find) → AllByRecursion IsFormed (records_of_find ttl find)
find_formed ttl find = body_formed find.owner ttl find.scope find.body find.formed

passing_formed : (set : PassingSet) → AllByRecursion IsFormed (records_of_passing set)
passing_formed set = data_formed set.owner set.kind 0 set.data set.formed

local_formed : (question : Question) (records : List Record) → AllByRecursion (IsLocalRecord question) records → AllByRecursion IsFormed records
local_formed question [] all = tt
local_formed question (r ∷ records) all = (all.0.formed, local_formed question records all.1)

local_set_formed : {question : Question} {records : List Record} → IsLocalSet question records → AllByRecursion IsFormed records
local_set_formed {question} {records} is = elim is.are [
  | inl asked ↦ local_formed question records asked
  | inr alias ↦ local_formed (alias_question question.owner) records alias
]

-- ---- what is known, and the chain of aliases

IsFormedFact : Fact → Type 0
IsFormedFact (Had question told) = AllByRecursion IsFormed (records_told told)
IsFormedFact (Listed servers) = Unit {0}
IsFormedFact (Serves zone addr) = Unit {0}
IsFormedFact (Responds zone question v) = Unit {0}

known_formed : {port : ℕ} {log : List Exchange} {fact : Fact} → Known port log fact → IsFormedFact fact
unfolding IsFormedFact
known_formed (Known.kept a known) = known_formed known
known_formed (Known.looked {shown = shown} a is) = find_formed shown.left shown.body
known_formed (Known.local a is) = local_set_formed is
known_formed (Known.named a) = tt
known_formed (Known.referred known refers) = tt
known_formed (Known.addressed known is) = tt
known_formed (Known.found listed misses had at) = tt
known_formed (Known.responded a unknown serves query within response whole) = tt
known_formed (Known.harvested {find = find} known is for) = find_formed find.ttl find
known_formed (Known.passed {set = set} known is for) = passing_formed set

told_formed : {port : ℕ} {log : List Exchange} {question : Question} {told : AnswerSet} → Known port log (Had question told) → AllByRecursion IsFormed (records_told told)
unfolding IsFormedFact
told_formed known = known_formed known

last_formed : (told : AnswerSet) → AllByRecursion IsFormed (records_told told) → AllByRecursion IsFormed (flat_map records_told (told ∷ []))
last_formed told all = subst (λ (records : List Record). AllByRecursion IsFormed records) (sym (append-nil (records_told told))) all

joined_formed : (front back : List AnswerSet) → AllByRecursion IsFormed (flat_map records_told front) → AllByRecursion IsFormed (flat_map records_told back) → AllByRecursion IsFormed (flat_map records_told (front ++ back))
joined_formed front back all more =
    subst (λ (records : List Record). AllByRecursion IsFormed records) (sym (flat_map-append records_told front back)) (all-append IsFormed (flat_map records_told front) (flat_map records_told back) all more)

chain_formed : {port : ℕ} {log : List Exchange} {question : Question} {to : Labels} {sets : List AnswerSet} → Chain port log question sets to → AllByRecursion IsFormed (flat_map records_told sets)
chain_formed Chain.start = tt
chain_formed (Chain.alias {front = front} {told = told} chain unknown known is are) =
    subst (λ (sets : List AnswerSet). AllByRecursion IsFormed (flat_map records_told sets)) (sym are) (joined_formed front (told ∷ []) (chain_formed chain) (last_formed told (told_formed known)))

-- ---- SOA records

soa_formed : (ttl : ℕ) (scope : Scope) (body : Body) → HasForms scope body → AllByRecursion IsFormed (map (λ (soa : Record). record soa { ttl = ttl }) (soa_in body))
soa_formed ttl scope (Set found) forms = tt
soa_formed ttl (One kind) (NoData soa) forms = (subst (λ (k : ℕ). HasForm k soa.body) (sym forms.0) forms.1, tt)
soa_formed ttl Whole (NoData soa) forms = absurd forms
soa_formed ttl Whole (NoName soa) forms = (subst (λ (k : ℕ). HasForm k soa.body) (sym forms.0) forms.1, tt)
soa_formed ttl (One kind) (NoName soa) forms = absurd forms

find_soa_formed : (ttl : ℕ) (find : Find) → AllByRecursion IsFormed (map (λ (soa : Record). record soa { ttl = ttl }) (soa_in find.body) ++ [])
find_soa_formed ttl find = subst (λ (records : List Record). AllByRecursion IsFormed records) (sym (append-nil (map (λ (soa : Record). record soa { ttl = ttl }) (soa_in find.body)))) (soa_formed ttl find.scope find.body find.formed)

local_soa_formed : (soa : Option Record) → IsSoaFormed soa → AllByRecursion IsFormed (flat_map records_of_soa (option_to_list (option_map LocalSoa soa)))
local_soa_formed None formed = tt
local_soa_formed (Some soa) formed = (formed, tt)

negative_formed : (negative : Option Find) → AllByRecursion IsFormed (flat_map records_of_soa (option_to_list (option_map soa_whole negative)))
negative_formed None = tt
negative_formed (Some find) = find_soa_formed find.ttl find

-- ---- how a look ends a question

ends_formed : {question : Question} {seen : SeenValue} {rcode : ℕ} {last : Option AnswerSet} {authority : Option Soa} → EndsQuestion question seen rcode last authority
    → AllByRecursion IsFormed (flat_map records_told (option_to_list last)) × AllByRecursion IsFormed (flat_map records_of_soa (option_to_list authority))
ends_formed (EndsQuestion.held {shown = shown} is) = (last_formed (told_of shown) (find_formed shown.left shown.body), tt)
ends_formed (EndsQuestion.held_no_data {shown = shown} is body) = (tt, find_soa_formed shown.left shown.body)
ends_formed (EndsQuestion.held_no_name {shown = shown} is body) = (tt, find_soa_formed shown.left shown.body)
ends_formed (EndsQuestion.local_set {records = records} is) = (last_formed (LocalTold records) (local_set_formed is), tt)
ends_formed (EndsQuestion.local_no_data {soa = soa} formed) = (tt, local_soa_formed soa formed)
ends_formed (EndsQuestion.local_no_name {soa = soa} formed) = (tt, local_soa_formed soa formed)

resolved_formed : {port : ℕ} {question : Question} {log : List Exchange} {rcode : ℕ} {aa : Bool} {aliases : List AnswerSet} {last : Option AnswerSet} {authority : Option Soa}
    → ResolvedAs port question log rcode aa aliases last authority
    → AllByRecursion IsFormed (flat_map records_told (aliases ++ option_to_list last)) × AllByRecursion IsFormed (flat_map records_of_soa (option_to_list authority))
resolved_formed (ResolvedAs.at_once began ends) = ends_formed ends
resolved_formed (ResolvedAs.looked {front = front} {last = last} began chain few happened ends) =
    let formed = ends_formed ends in (joined_formed front (option_to_list last) (chain_formed chain) formed.0, formed.1)
resolved_formed (ResolvedAs.found {front = front} {told = told} began chain few unknown known) =
    (joined_formed front (told ∷ []) (chain_formed chain) (last_formed told (told_formed known)), tt)
resolved_formed (ResolvedAs.denied {front = front} began chain few is) = (
  joined_formed front [] (chain_formed chain) tt,
  subst (λ (authority : Option Soa). AllByRecursion IsFormed (flat_map records_of_soa (option_to_list authority))) (sym is.soa) (negative_formed is.negative),
)
resolved_formed (ResolvedAs.refused began) = (tt, tt)
resolved_formed (ResolvedAs.failed began chain fails) = (tt, tt)

pub resolved_is_fit : (port : ℕ) (question : Question) (log : List Exchange) (answer : Answer) → IsResolved port question log answer → IsFit answer
resolved_is_fit port question log Silent resolved = tt
resolved_is_fit port question log (Reply rcode aa aliases last authority) resolved = resolved_formed resolved
