-- The harvest of a message from a zone that was asked a question (RFC 2181, sections 5.2 and 5.4.1).
use Rattle.std.specs.Prelude.{Bool, not, ◌==◌, List, ◌++◌, map, filter}
use Rattle.std.specs.List.{Contains}
use Rattle.std.specs.Option.{option_to_list}
use Rattle.dns_name.specs.Labels.{Labels, IsAtOrBelow}
use Rattle.dns_text.specs.declared.record.Question.{Question}
use Rattle.dns_wire.specs.declared.message.Message.{Message}
use Rattle.neg_rule.specs.Negative.{Said, negative_in}
use Rattle.harvest.specs.Counted.{ranked_of}
use Rattle.harvest.specs.Learnt.{said_of}
use Rattle.harvest.specs.Sets.{Set, sets_of}

-- the sets of the records that count
abbrev pub sets_in : Message → Question → Labels → List Set
sets_in message question zone = sets_of (ranked_of message question zone)

-- whether a set has a TTL of 0, so that it may be passed on but not cached (RFC 1035, section 3.2.1)
abbrev pub passes : Set → Bool
passes s = s.ttl == 0

-- whether a set may be cached
abbrev pub lives : Set → Bool
lives s = not (passes s)

-- the negative answer of a message, if there is one, as a list
abbrev pub negatives_in : Message → Question → Labels → List Said
negatives_in message question zone = option_to_list (negative_in message question zone)

-- the finds of a message: the sets that may be cached, and the negative answer, if there is one
abbrev pub finds_in : Message → Question → Labels → List Said
finds_in message question zone = map said_of (filter lives (sets_in message question zone)) ++ negatives_in message question zone

-- the sets of a message with a TTL of 0
abbrev pub passing_in : Message → Question → Labels → List Set
passing_in message question zone = filter passes (sets_in message question zone)

-- Each find of a message from a zone is of a name at or below the zone.
abbrev pub FindsWithinZone : Type 0
FindsWithinZone = (message : Message) (question : Question) (zone : Labels) (said : Said) → Contains (finds_in message question zone) said → IsAtOrBelow said.owner zone

-- So is each passing set.
abbrev pub PassingWithinZone : Type 0
PassingWithinZone = (message : Message) (question : Question) (zone : Labels) (set : Set) → Contains (passing_in message question zone) set → IsAtOrBelow set.key.owner zone
