use Rattle.std.proofs.Common.{◌≡◌, ◌+◌, sym, ◌∙◌, subst, arith}
use Rattle.indexmap.specs.IndexMap.{IndexMap}
use Rattle.dns_name.specs.Labels.{Labels}
use Rattle.cell_store.specs.declared.owner.OwnerCells.{OwnerCells}
use Rattle.cell_store.specs.declared.seed.NameSeed.{NameSeed}
use Rattle.cell_store.specs.Store.{EachCounts}
use Rattle.shelf.specs.Clean.{AreEnds, HaveEnds}
use Rattle.shelf.proofs.DropLaws.{reach_kept}
use Rattle.shelf.proofs.LosingLaws.{lose_none}
use Rattle.shelf.proofs.SettlingLaws.{reach_one, reach_zero, reach_past, reach_then, same_length}
use Rattle.shelf.proofs.SweepLaws.{gain_twice}
use Rattle.shelf.proofs.settling.reach_at.Goals as goal

pub returns-then-place-len-clause-reaching : goal.returns-then-place-len-clause-reaching
returns-then-place-len-clause-reaching c = λ top upto.
    reach_past c.args.zone.now c.args.number top (c.args.place + 1) c.args.place c.args.owners.now upto (omega (arith, c.len.ensures.len, c.if-place-len.true))

pub returns-then-place-len-clause-lost : goal.returns-then-place-len-clause-lost
returns-then-place-len-clause-lost c =
    let owners = c.args.owners.now in
    record {
      places = lose_none owners c.args.stored.now c.requires.tallied.counted;
      ends = λ kept is. c.settle_doubt-then-place-len.ensures.ends kept owners.entries is;
      size = c.settle_doubt-then-place-len.ensures.size owners.entries c.requires.tallied.size;
    }

pub settle_at-requires : goal.settle_at-requires
settle_at-requires c = record { low = omega (arith, c.len.ensures.len, c.if-place-len.false); counted = c.requires.tallied.counted }

pub drop_or_end-requires : goal.drop_or_end-requires
drop_or_end-requires c =
    let was = c.requires.tallied in
    let size = same_length c.args.owners.now.entries c.settle_at.new.owners.entries c.settle_at.ensures.entries.names in
    record {
      low = omega (arith, c.len.ensures.len, c.if-place-len.false, size);
      top = (was.top.0, c.settle_at.ensures.gains.upto was.top.0 was.top.1);
      size = (was.size.0 ∙ sym size, was.size.1, was.size.2 ∙ sym size, was.size.3);
    }

-- the flush does not cover the name
pub returns-then-not-settle_at-clause-reaching : goal.returns-then-not-settle_at-clause-reaching
returns-then-not-settle_at-clause-reaching c = λ top upto.
    reach_one c.args.zone.now c.args.number top c.args.place c.args.owners.now c.settle_at.new.owners c.settle_at.ensures.entries.names (c.settle_at.ensures.gains.upto top upto) (c.settle_at.ensures.cells top upto)

pub returns-then-not-settle_at-clause-lost : goal.returns-then-not-settle_at-clause-lost
returns-then-not-settle_at-clause-lost c =
    let owners = c.args.owners.now in
    let same : c.settle_at.new.owners ≡ c.args.owners.now = (c.settle_at.ensures.covered.1 c.if-not-settle_at.true).0 in
    record {
      places = record {
        gains = c.settle_at.ensures.gains;
        counted = c.settle_at.ensures.counted.0;
        fewer = c.settle_at.ensures.counted.1;
        named = λ each. subst (λ (o : IndexMap Labels OwnerCells NameSeed). EachCounts o.entries) (sym same) each;
      };
      ends = λ kept is. subst (λ (o : IndexMap Labels OwnerCells NameSeed). AreEnds kept o.entries c.settle_doubt-then-not-settle_at.new.ends) (sym same) (c.settle_doubt-then-not-settle_at.ensures.ends kept owners.entries is);
      size = subst (λ (o : IndexMap Labels OwnerCells NameSeed). HaveEnds o.entries c.settle_doubt-then-not-settle_at.new.ends) (sym same) (c.settle_doubt-then-not-settle_at.ensures.size owners.entries c.requires.tallied.size);
    }

pub returns-clause-reaching : goal.returns-clause-reaching
returns-clause-reaching c = λ top upto.
    let olds = c.args.owners.now in
    let middle = c.settle_at.new.owners in
    let news = c.drop_or_end.new.owners in
    let tidied = c.drop_or_end.ensures.tidied in
    let low = c.settle_at.ensures.gains.upto top upto in
    reach_then c.args.zone.now c.args.number top (c.args.place + 1) c.args.place c.args.place olds middle news
    (reach_one c.args.zone.now c.args.number top c.args.place olds middle c.settle_at.ensures.entries.names low (c.settle_at.ensures.cells top upto))
    (reach_kept middle news top (tidied.gains.upto top low) tidied.cells tidied.reached c.args.zone.now c.args.number c.args.place)

pub returns-clause-lost : goal.returns-clause-lost
returns-clause-lost c =
    let olds = c.args.owners.now in
    let tidied = c.drop_or_end.ensures.tidied in
    record {
      places = record {
        gains = gain_twice olds c.settle_at.new.owners c.drop_or_end.new.owners c.settle_at.ensures.gains tidied.gains;
        counted = c.settle_at.ensures.counted.0 ∙ sym tidied.counted;
        fewer = c.settle_at.ensures.counted.1;
        named = λ each. tidied.named olds.entries c.settle_at.ensures.entries each;
      };
      ends = λ kept is. tidied.ends kept olds.entries c.settle_at.ensures.entries is;
      size = tidied.size;
    }

pub returns-clause-ended : goal.returns-clause-ended
returns-clause-ended c = c.drop_or_end.ensures.ended

-- no flush has number 0
pub returns-then-number-eq0-clause-reaching : goal.returns-then-number-eq0-clause-reaching
returns-then-number-eq0-clause-reaching c = λ top upto. reach_zero c.args.zone.now c.args.number top (c.args.place + 1) c.args.place c.args.owners.now (omega (arith, c.if-number-eq0.true)) upto

pub returns-then-number-eq0-clause-lost : goal.returns-then-number-eq0-clause-lost
returns-then-number-eq0-clause-lost c =
    let owners = c.args.owners.now in
    record {
      places = lose_none owners c.args.stored.now c.requires.tallied.counted;
      ends = λ kept is. c.settle_doubt.ensures.ends kept owners.entries is;
      size = c.settle_doubt.ensures.size owners.entries c.requires.tallied.size;
    }
