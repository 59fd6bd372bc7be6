-- Referrals: responses that only name servers nearer to the question's name (RFC 1034, section 5.3.3, step 4b).
use Rattle.std.specs.Prelude.{◌≡◌, ℕ, ◌==◌, ◌&&◌, ◌||◌, Bool, not, true, false, List, [], ◌++◌, length, map, filter, Option, Some, None, MatchOption, if◌then◌else◌}
use Rattle.std.specs.List.{filter_map, find, flat_map, list_any, list_all}
use Rattle.std.specs.Option.{option_map}
use Rattle.dns_name.specs.Labels.{Labels, IsAtOrBelow}
use Rattle.dns_name.specs.Order.{name_eq}
use Rattle.dns_text.specs.declared.addr.Addr.{Addr}
use Rattle.dns_text.specs.declared.record.Data.{Data}
use Rattle.dns_text.specs.declared.record.Question.{Question}
use Rattle.dns_text.specs.declared.record.Record.{Record}
use Rattle.dns_text.specs.declared.types.TheConstants as types
use Rattle.dns_wire.specs.declared.message.Classed.{Classed}
use Rattle.dns_wire.specs.declared.message.Message.{Message}
use Rattle.dns_wire.specs.declared.message.TheConstants.{CLASS_IN}
use Rattle.ranked.specs.Addrs.{addr_of}
use Rattle.ranked.specs.Body.{data_of}
use Rattle.ranked.specs.Find.{has_kind}
use Rattle.ranked.specs.Set.{each_once}
use Rattle.neg_rule.specs.Alias.{target_of}
use Rattle.neg_rule.specs.Negative.{Said, said_by}
use Rattle.harvest.specs.Harvest.{finds_in, passing_in}
use Rattle.harvest.specs.Learnt.{set_of}
use Rattle.harvest.specs.Sets.{Set}
use Rattle.harvest.specs.declared.harvest_type.Harvest.{Harvest}
use Rattle.dns_query.specs.declared.verdict.Referral.{Referral}

-- ---- the zone

-- whether a record is of class IN; records of other classes are ignored
abbrev pub is_in : Classed Record → Bool
is_in r = r.class == CLASS_IN

-- whether a record is of class IN and this type
abbrev pub is_of : ℕ → Classed Record → Bool
is_of kind r = is_in r && r.item.kind == kind

-- whether a record is no NS record, or an NS record of this name
abbrev pub is_own : Labels → Classed Record → Bool
is_own name r = not (is_of types.NS r) || name_eq r.item.owner name

-- the owner of the first NS record of a section
abbrev pub ns_owner : List (Classed Record) → Option Labels
ns_owner section = option_map (λ r. r.item.owner) (find (is_of types.NS) section)

-- The response is not authoritative, and has no error, no answer and no SOA.
pub record MayRefer (v : Message) : Type 0 where
  pub no_error : v.head.rcode ≡ 0
  pub not_authoritative : v.head.aa ≡ false
  pub no_answer : list_any is_in v.answer ≡ false
  pub no_soa : list_any (is_of types.SOA) v.authority ≡ false

-- The response may refer, and its NS records, one or more, are those of one zone, strictly below the one asked.
pub record RefersTo (asked : Labels) (v : Message) (zone : Labels) : Type 0 where
  pub may_refer : MayRefer v
  pub owner : ns_owner v.authority ≡ Some zone
  pub one_owner : list_all (is_own zone) v.authority ≡ true
  pub below : IsAtOrBelow zone asked
  pub strictly : ¬ (zone ≡ asked)

-- The response refers to no zone.
abbrev pub RefersNowhere : Labels → Message → Type 0
RefersNowhere asked v = (zone : Labels) → ¬ (RefersTo asked v zone)

-- ---- its servers

-- the server that a record names, if it is an NS record
abbrev pub target_in : Classed Record → Option Labels
target_in r = if is_of types.NS r then target_of r.item.body else None

-- the servers that a section names, without duplicates (RFC 2181, section 5)
abbrev pub targets_in : List (Classed Record) → List Labels
targets_in section = each_once name_eq (filter_map target_in section)

-- the data that a find has for a name and a type, whatever its rank
abbrev pub data_found : Labels → ℕ → Said → List Data
data_found name kind said = if name_eq said.owner name && has_kind said.scope kind then data_of said.body else []

-- the data that a passing set has for a name and a type
abbrev pub data_passing : Labels → ℕ → Set → List Data
data_passing name kind set = if name_eq set.key.owner name && set.key.kind == kind then set.data_in else []

-- the addresses in data of one owner: other names have none
abbrev pub addrs_owned : ℕ → Labels → List Data → Labels → List Addr
addrs_owned port owner data_given name = if name_eq owner name then flat_map (addr_of port) data_given else []

-- the addresses of a server from the records of this type in finds
abbrev pub addrs_found : ℕ → List Said → ℕ → Labels → List Addr
addrs_found port finds kind name = flat_map (λ said. flat_map (addr_of port) (data_found name kind said)) finds

-- the addresses of a server from the records of this type in passing sets
abbrev pub addrs_passing : ℕ → List Set → ℕ → Labels → List Addr
addrs_passing port passing kind name = flat_map (λ set. flat_map (addr_of port) (data_passing name kind set)) passing

-- the addresses of a server from its records of this type: those of the finds, then those of the passing sets
abbrev pub addrs_by : ℕ → List Said → List Set → ℕ → Labels → List Addr
addrs_by port finds passing kind name = addrs_found port finds kind name ++ addrs_passing port passing kind name

-- the same of a harvest
abbrev pub addrs_harvested : ℕ → Harvest → ℕ → Labels → List Addr
addrs_harvested port harvest kind name = addrs_by port (map said_by harvest.finds) (map set_of harvest.passing) kind name

-- the addresses of a server: IPv4 first, then IPv6
abbrev pub addrs_of : ℕ → List Said → List Set → Labels → List Addr
addrs_of port finds passing name = addrs_by port finds passing types.A name ++ addrs_by port finds passing types.AAAA name

-- whether a server has no address
abbrev pub has_no_addr : ℕ → List Said → List Set → Labels → Bool
has_no_addr port finds passing name = length (addrs_of port finds passing name) == 0

-- The referral has the addresses of these servers, server by server, and the servers without an address.
pub record AreServers (port : ℕ) (finds : List Said) (passing : List Set) (targets : List Labels) (referral : Referral) : Type 0 where
  pub addrs : referral.addrs ≡ flat_map (addrs_of port finds passing) targets
  pub missing : referral.missing ≡ filter (has_no_addr port finds passing) targets

-- A response from a zone refers to a zone at or above the question's name and to its servers, with the addresses in its own harvest.
pub record IsReferral (port : ℕ) (zone : Labels) (question : Question) (v : Message) (referral : Referral) : Type 0 where
  pub refers : RefersTo zone v referral.zone
  pub above : IsAtOrBelow question.owner referral.zone
  pub servers : AreServers port (finds_in v question zone) (passing_in v question zone) (targets_in v.authority) referral

-- A referral is found if the response is one.
abbrev pub FindsReferral : ℕ → Labels → Question → Message → Option Referral → Type 0
FindsReferral port zone question v found = MatchOption found ((referral : Referral) → ¬ (IsReferral port zone question v referral)) (IsReferral port zone question v)
