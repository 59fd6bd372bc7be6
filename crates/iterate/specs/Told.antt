-- What is told: the sets of an answer, and its SOA record.
use Rattle.std.specs.Prelude.{◌≡◌, ℕ, List, [], ◌∷◌, ◌++◌, map}
use Rattle.std.specs.List.{AllByRecursion, Contains, flat_map}
use Rattle.std.specs.Option.{option_to_list}
use Rattle.dns_name.specs.Labels.{Labels}
use Rattle.dns_text.specs.Data.{HasForm}
use Rattle.dns_text.specs.declared.addr.Addr.{Addr}
use Rattle.dns_text.specs.declared.addr.Ip.TheVariants.{V4}
use Rattle.dns_text.specs.declared.record.Data.{Data}
use Rattle.dns_text.specs.declared.record.Data.TheVariants.{A, One}
use Rattle.dns_text.specs.declared.record.Record.{Record}
use Rattle.harvest.specs.declared.passing.PassingSet.{PassingSet}
use Rattle.ranked.specs.Body.{data_of}
use Rattle.ranked.specs.declared.cell.Shown.{Shown}
use Rattle.ranked.specs.declared.find.Body.{Body}
use Rattle.ranked.specs.declared.find.Body.TheVariants.{Set, NoData, NoName}
use Rattle.ranked.specs.declared.find.Find.{Find}
use Rattle.ranked.specs.declared.find.Scope.{Scope}
use Rattle.ranked.specs.declared.find.Scope.TheVariants.{One as OneType, Whole}
use Rattle.iterate.specs.declared.answer.Answer.{Answer}
use Rattle.iterate.specs.declared.answer.Answer.TheVariants.{Reply, Silent}
use Rattle.iterate.specs.declared.answer.Soa.{Soa}
use Rattle.iterate.specs.declared.answer.Soa.TheVariants.{Find as FindSoa, Local as LocalSoa}
use Rattle.iterate.specs.declared.answer.AnswerSet.{AnswerSet}
use Rattle.iterate.specs.declared.answer.AnswerSet.TheVariants.{Find as FindTold, Local as LocalTold, Passing as PassingTold}

-- a find with the seconds that are left of it
abbrev pub told_of : Shown Find → AnswerSet
told_of shown = FindTold shown.left shown.body

-- a find as a response tells it
abbrev pub told_whole : Find → AnswerSet
told_whole find = FindTold find.ttl find

-- the SOA record of a find as a response tells it
abbrev pub soa_whole : Find → Soa
soa_whole find = FindSoa find.ttl find

-- the data of local records
abbrev pub local_data : List Record → List Data
local_data records = map (λ r. r.body) records

-- the data of a set
abbrev pub data_told : AnswerSet → List Data
data_told (FindTold ttl find) = data_of find.body
data_told (LocalTold records) = local_data records
data_told (PassingTold set) = set.data

-- A name is the first target of a set of CNAME records.
abbrev pub IsFirstTarget : List Data → Labels → Type 0
IsFirstTarget (One name ∷ others) to = to ≡ name
IsFirstTarget others to = ⊥

-- A name is the first target of a set of aliases.
abbrev pub IsTarget : AnswerSet → Labels → Type 0
IsTarget told to = IsFirstTarget (data_told told) to

-- An IPv4 address of a set, with the port at which servers listen.
pub record IsAddressIn (port : ℕ) (told : AnswerSet) (addr : Addr) : Type 0 where
  pub octets : List ℕ
  pub among : Contains (data_told told) (A octets)
  pub is : addr ≡ record { ip = V4 octets; port = port }

-- ---- the records of a reply

-- the type of a set
abbrev pub kinds_of : Scope → List ℕ
kinds_of (OneType kind) = kind ∷ []
kinds_of Whole = []

-- each datum as a record, with the seconds told
abbrev pub records_of_find : ℕ → Find → List Record
records_of_find ttl find = flat_map (λ kind. map (λ datum. record { owner = find.owner; kind = kind; ttl = ttl; body = datum }) (data_of find.body)) (kinds_of find.scope)

-- each datum of a set that is not kept as a record, with no seconds
abbrev pub records_of_passing : PassingSet → List Record
records_of_passing set = map (λ datum. record { owner = set.owner; kind = set.kind; ttl = 0; body = datum }) set.data

-- the records of a set
abbrev pub records_told : AnswerSet → List Record
records_told (FindTold ttl find) = records_of_find ttl find
records_told (LocalTold records) = records
records_told (PassingTold set) = records_of_passing set

-- the record by which a find denies
abbrev pub soa_in : Body → List Record
soa_in (Set found) = []
soa_in (NoData soa) = soa ∷ []
soa_in (NoName soa) = soa ∷ []

-- the SOA record of a negative answer, with the seconds told (RFC 2308, section 5)
abbrev pub records_of_soa : Soa → List Record
records_of_soa (FindSoa ttl find) = map (λ (soa : Record). record soa { ttl = ttl }) (soa_in find.body)
records_of_soa (LocalSoa soa) = soa ∷ []

-- The data have the form of their type, so that they can be written.
abbrev pub IsFormed : Record → Type 0
IsFormed r = HasForm r.kind r.body

-- The answer can be written.
abbrev pub IsFit : Answer → Type 0
IsFit Silent = Unit {0}
IsFit (Reply rcode aa aliases last authority) =
    AllByRecursion IsFormed (flat_map records_told (aliases ++ option_to_list last)) × AllByRecursion IsFormed (flat_map records_of_soa (option_to_list authority))
