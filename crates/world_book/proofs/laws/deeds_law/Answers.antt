use Rattle.world_book.proofs.DeedLaws.{deeds_show}
use Rattle.world_book.proofs.laws.deeds_law.Goals as goal

pub returns : goal.returns
returns c = deeds_show
