-- A flush: the questions whose cells it empties.
use Rattle.std.specs.Prelude.{ℕ, Bool, List, [], ◌∷◌, ◌==◌, ◌&&◌}
use Rattle.std.specs.List.{list_any}
use Rattle.dns_name.specs.Labels.{Labels}
use Rattle.dns_name.specs.Order.{name_eq}
use Rattle.dns_name.specs.Below.{is_at_or_below}
use Rattle.dns_text.specs.declared.record.Question.{Question}
use Rattle.dns_text.specs.declared.types.TheConstants as number
use Rattle.ranked.specs.declared.flush.Reach.{Reach}
use Rattle.ranked.specs.declared.flush.Reach.TheVariants.{OneType, Name, Zone}
use Rattle.ranked.specs.declared.flush.Flush.{Flush}

-- the types whose cells `flush` of a name empties (unbound-control(8))
abbrev pub flushed_types : List ℕ
flushed_types =
    number.A ∷ number.NS ∷ number.SOA ∷ number.CNAME ∷ number.PTR ∷ number.MX ∷ number.AAAA ∷ number.SRV ∷ number.NAPTR ∷ number.DNAME ∷ []

-- whether `flush` of a name empties its cell of this type
abbrev pub is_flushed : ℕ → Bool
is_flushed kind = list_any (λ flushed. flushed == kind) flushed_types

-- whether a flush of a name empties the cell of a question: one type's, those of the types above, or every type's at or below the name
abbrev pub reaches : Reach → Labels → Question → Bool
reaches (OneType kind) name question = name_eq name question.owner && kind == question.kind
reaches Name name question = name_eq name question.owner && is_flushed question.kind
reaches Zone name question = is_at_or_below question.owner name

-- whether a flush empties the cell of a question
abbrev pub covers : Flush → Question → Bool
covers flush question = reaches flush.reach flush.name question
