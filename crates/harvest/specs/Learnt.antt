-- Sets as finds, and sets with a TTL of 0.
use Rattle.neg_rule.specs.Negative.{Said}
use Rattle.ranked.specs.declared.find.Body.TheVariants.{Set as SetOf}
use Rattle.ranked.specs.declared.find.Scope.TheVariants.{One}
use Rattle.harvest.specs.Sets.{Set}
use Rattle.harvest.specs.declared.passing.PassingSet.{PassingSet}

-- the find of a set: it is of the set's own type
abbrev pub said_of : Set → Said
said_of s = record { owner = s.key.owner; scope = One s.key.kind; rank = s.key.rank; ttl = s.ttl; body = SetOf s.data_in }

-- a passing set as a set with a TTL of 0
abbrev pub set_of : PassingSet → Set
set_of p = record { key = record { owner = p.owner; kind = p.kind; rank = p.rank }; ttl = 0; data_in = p.data }
