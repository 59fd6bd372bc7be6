-- The records of a message that count, and how far each is trusted (RFC 2181, section 5.4.1).
use Rattle.std.specs.Prelude.{Bool, not, ◌==◌, ◌&&◌, List, ◌++◌, map, filter, if◌then◌else◌}
use Rattle.dns_name.specs.Labels.{Labels}
use Rattle.dns_name.specs.Order.{name_eq}
use Rattle.dns_text.specs.Kind.{is_excluded}
use Rattle.dns_text.specs.declared.record.Question.{Question}
use Rattle.dns_text.specs.declared.record.Record.{Record}
use Rattle.dns_wire.specs.declared.message.Classed.{Classed}
use Rattle.dns_wire.specs.declared.message.Message.{Message}
use Rattle.dns_wire.specs.declared.message.TheConstants.{CLASS_IN}
use Rattle.dns_name.specs.Below.{is_at_or_below}
use Rattle.ranked.specs.declared.rank.Rank.{Rank}
use Rattle.ranked.specs.declared.rank.Rank.TheVariants.{Additional, Answer, Authority, AuthoritativeAnswer}

-- A record with its rank.
pub record Ranked : Type 0 where
  pub rank : Rank
  pub said : Record

-- whether a record counts: it is of class IN and of a type that records may have, and its owner is at or below the zone asked
abbrev pub counts : Labels → Classed Record → Bool
counts zone r = r.class == CLASS_IN && (not (is_excluded r.item.kind) && is_at_or_below r.item.owner zone)

-- the rank of a record of the answer section: the highest for the question's own name in an authoritative response
abbrev pub answer_rank : Bool → Labels → Record → Rank
answer_rank aa asked r = if aa && name_eq r.owner asked then AuthoritativeAnswer else Answer

-- the rank of the records of the authority section
abbrev pub authority_rank : Bool → Rank
authority_rank aa = if aa then Authority else Additional

-- the records of a section that count, each with its rank
abbrev pub ranked_in : Labels → (Record → Rank) → List (Classed Record) → List Ranked
ranked_in zone rank section = map (λ r. record { rank = rank r.item; said = r.item }) (filter (counts zone) section)

-- the records of a message that count: those of the answer section, the authority section, then the additional section
abbrev pub ranked_of : Message → Question → Labels → List Ranked
ranked_of message question zone =
    ranked_in zone (answer_rank message.head.aa question.owner) message.answer
    ++ (ranked_in zone (λ r. authority_rank message.head.aa) message.authority ++ ranked_in zone (λ r. Additional) message.additional)
