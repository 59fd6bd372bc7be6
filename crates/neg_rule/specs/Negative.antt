-- Negative answers in responses (RFC 2308, sections 2 and 5).
use Rattle.std.specs.Prelude.{◌≡◌, ℕ, Bool, ◌&&◌, ◌||◌, ◌==◌, min, Option, Some, None, if◌then◌else◌}
use Rattle.std.specs.List.{find, list_any}
use Rattle.std.specs.Option.{option_map}
use Rattle.dns_name.specs.Labels.{Labels, IsAtOrBelow}
use Rattle.dns_name.specs.Options.{◌>>=◌}
use Rattle.dns_text.specs.declared.record.Data.{Data}
use Rattle.dns_text.specs.declared.record.Data.TheVariants.{Soa}
use Rattle.dns_text.specs.declared.record.Question.{Question}
use Rattle.dns_text.specs.declared.record.Record.{Record}
use Rattle.dns_text.specs.declared.types.TheConstants.{SOA}
use Rattle.dns_wire.specs.declared.message.Classed.{Classed}
use Rattle.dns_wire.specs.declared.message.Message.{Message}
use Rattle.dns_wire.specs.declared.message.TheConstants.{CLASS_IN}
use Rattle.ranked.specs.declared.find.Body.{Body}
use Rattle.ranked.specs.declared.find.Body.TheVariants.{Set, NoData, NoName}
use Rattle.ranked.specs.declared.find.Find.{Find}
use Rattle.ranked.specs.declared.find.Scope.{Scope}
use Rattle.ranked.specs.declared.find.Scope.TheVariants.{One, Whole}
use Rattle.ranked.specs.declared.find.TheConstants.{LONGEST_NEGATIVE_TTL}
use Rattle.ranked.specs.declared.rank.Rank.{Rank}
use Rattle.ranked.specs.declared.rank.Rank.TheVariants.{AuthoritativeAnswer}
use Rattle.neg_rule.specs.Alias.{is_for, last_of}
use Rattle.dns_name.specs.Below.{is_at_or_below}

-- The fields of a find, without the facts that its type keeps.
pub record Said : Type 0 where
  pub owner : Labels
  pub scope : Scope
  pub rank : Rank
  pub ttl : ℕ
  pub body : Body

-- the fields of a find
abbrev pub said_by : Find → Said
said_by find = record { owner = find.owner; scope = find.scope; rank = find.rank; ttl = find.ttl; body = find.body }

-- whether a response is authoritative, with the RCODE for no such name (3) or for no error (0)
abbrev pub may_deny : Message → Bool
may_deny message = message.head.aa && (message.head.rcode == 3 || message.head.rcode == 0)

-- whether a record is an SOA of class IN, owned at or above a name and at or below a zone
abbrev pub denies : Labels → Labels → Classed Record → Bool
denies zone name r = r.class == CLASS_IN && (r.item.kind == SOA && (is_at_or_below name r.item.owner && is_at_or_below r.item.owner zone))

-- the first such SOA record of the authority section
abbrev pub soa_for : Message → Labels → Labels → Option Record
soa_for message zone name = option_map (λ r. r.item) (find (denies zone name) message.authority)

-- whether the answer section has a record of the type asked for at a name
abbrev pub has_answer : Message → Question → Labels → Bool
has_answer message question name = list_any (is_for name question.kind) message.answer

-- the last name of a question and the SOA record that denies it or its data; none if there is an answer
abbrev pub denied_by : Message → Question → Labels → Labels → Option (Labels × Record)
denied_by message question zone last = if has_answer message question last then None else option_map (λ soa. (last, soa)) (soa_for message zone last)

-- the same of a response, if it may deny
abbrev pub denied_in : Message → Question → Labels → Option (Labels × Record)
denied_in message question zone = if may_deny message then last_of message.answer question >>= denied_by message question zone else None

-- the MINIMUM field of an SOA record (RFC 1035, section 3.3.13)
abbrev pub minimum_of : Data → ℕ
minimum_of (Soa primary mailbox serial refresh retry expire minimum) = minimum
minimum_of _ = 0

-- the TTL of a negative answer: the lesser of the SOA record's MINIMUM and its own TTL (RFC 2308, section 5)
abbrev pub denied_for : Record → ℕ
denied_for soa = min (minimum_of soa.body) soa.ttl

-- the negative answer: there is no such name, or it has no data of the type
abbrev pub denial : Message → Question → Labels → Record → Said
denial message question last soa =
    if message.head.rcode == 3
    then record { owner = last; scope = Whole; rank = AuthoritativeAnswer; ttl = min (denied_for soa) LONGEST_NEGATIVE_TTL; body = NoName soa }
    else record { owner = last; scope = One question.kind; rank = AuthoritativeAnswer; ttl = min (denied_for soa) LONGEST_NEGATIVE_TTL; body = NoData soa }

-- the negative answer of a response from a zone to a question; none if its TTL would be 0
abbrev pub negative_in : Message → Question → Labels → Option Said
negative_in message question zone = denied_in message question zone >>= λ found. if denied_for found.1 == 0 then None else Some (denial message question found.0 found.1)

-- The SOA record of a negative answer is owned at or above the name, and at or below the zone.
abbrev pub IsDeniedWithin : Labels → Labels → Body → Type 0
IsDeniedWithin zone name (Set found) = ⊥
IsDeniedWithin zone name (NoData soa) = IsAtOrBelow name soa.owner × IsAtOrBelow soa.owner zone
IsDeniedWithin zone name (NoName soa) = IsAtOrBelow name soa.owner × IsAtOrBelow soa.owner zone

-- The SOA record of each negative answer of a response is owned at or above the name denied, and at or below the zone.
abbrev pub DeniesWithinZone : Type 0
DeniesWithinZone = (message : Message) (question : Question) (zone : Labels) (said : Said) → negative_in message question zone ≡ Some said → IsDeniedWithin zone said.owner said.body
