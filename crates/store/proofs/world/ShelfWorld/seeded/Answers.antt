use Rattle.std.proofs.Common.{List, map, sym, ap}
use Rattle.shelf.specs.declared.shelf.KeptFlush.{KeptFlush}
use Rattle.store.specs.World.{mark}
use Rattle.store.specs.WorldLaws.{empty_faces}
use Rattle.store.proofs.world.ShelfWorld.seeded.Goals as goal

pub returns-clause-untouched : goal.returns-clause-untouched
returns-clause-untouched c = record {
  keeps = record { agree = sym (ap (λ (flushes : List KeptFlush). map mark flushes) c.seeded-shelf.ensures.empty.kept); numbers = tt };
  faces = λ chosen. empty_faces c.seeded-shelf.result c.seeded-shelf.ensures.empty.kept c.seeded-shelf.ensures.empty.cells chosen;
  newest = c.seeded-shelf.ensures.empty.top;
  stored = c.seeded-shelf.ensures.empty.stored;
  limit = c.seeded-shelf.ensures.empty.limit;
  pairs = c.admitted_law.ensures.none c.seeded-shelf.result c.seeded-shelf.ensures.empty.whole c.seeded-shelf.ensures.empty.stored;
}

pub returns-clause-seed : goal.returns-clause-seed
returns-clause-seed c = c.seeded-shelf.ensures.seed
