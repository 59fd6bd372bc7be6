use Rattle.std.proofs.Common.{◌∙◌}
use Rattle.shelf.proofs.names.no_names.Goals as goal

pub returns-clause-empty : goal.returns-clause-empty
returns-clause-empty c = c.reserve.ensures.entries ∙ c.with_hasher-owners.ensures.empty

pub returns-clause-seed : goal.returns-clause-seed
returns-clause-seed c = c.reserve.ensures.room.1 ∙ c.with_hasher-owners.ensures.hasher
