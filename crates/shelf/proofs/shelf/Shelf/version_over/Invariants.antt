use Rattle.std.proofs.Common.{◌≡◌, ◌≤◌, take, length}
use Rattle.std.specs.Prelude.{map}
use Rattle.shelf.specs.Kept.{turned_over}
use Rattle.shelf.specs.Told.{shown_version}
use Rattle.shelf.proofs.shelf.Shelf.version_over.Given as goal

-- no flush from the place on decides
abbrev pub invariant-loop-place : goal.invariant-loop-place
invariant-loop-place l = record {
  low : l.place ≤ length l.self.kept.items;
  same : shown_version (map (turned_over l.number) l.self.kept.items) (record { owner = l.owner; kind = l.kind })
      ≡ shown_version (map (turned_over l.number) (take l.place l.self.kept.items)) (record { owner = l.owner; kind = l.kind });
}

abbrev pub decreases-loop-place : goal.decreases-loop-place
decreases-loop-place l = l.place
