-- Believed sets are in the harvest: lemmas for the crates above.
use Rattle.std.proofs.Common.{List}
use Rattle.std.specs.List.{Contains}
use Rattle.dns_query.specs.Believed.{IsFirst}

-- the first such element is in the list
pub first_contained : {X : Type 0} (P : X → Type 0) (xs : List X) (x : X) → IsFirst P xs x → Contains xs x
first_contained P xs x h = (h.at, h.within, h.stands)
