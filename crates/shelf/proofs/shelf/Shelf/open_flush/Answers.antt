use Rattle.std.proofs.Common.{◌≡◌, ◌≤◌, ℕ, List, length, true, inl, refl, sym, ap, ◌∙◌, subst, arith}
use Rattle.std.specs.List.{AllByRecursion}
use Rattle.std.specs.Prelude.{Result, Ok, Err, OnErr}
use Rattle.dns_text.specs.declared.record.Question.{Question}
use Rattle.cell_store.specs.Count.{KeepPairs}
use Rattle.cell_store.specs.Store.{AreSameCells, StayBut}
use Rattle.cell_store.specs.declared.owner.OwnerCells.{OwnerCells}
use Rattle.dns_name.specs.Labels.{Labels}
use Rattle.shelf.specs.declared.settling.Settling.{Settling}
use Rattle.shelf.specs.declared.shelf.KeptFlush.{KeptFlush}
use Rattle.shelf.specs.declared.shelf.Shelf.{Shelf}
use Rattle.shelf.specs.Settling.{most_left, settled_cell, settled_version, AreUseful, IsSettling}
use Rattle.shelf.specs.Told.{cell_at, chosen_version, is_version, IsAscending, IsSame, CanSettleFlush}
use Rattle.shelf.specs.Clean.{AreEnds}
use Rattle.shelf.proofs.EndLaws.{ends_kept, reset_ends, version_more}
use Rattle.shelf.proofs.AboutLaws.{about_same}
use Rattle.shelf.proofs.ShelfLaws.{flush_told}
use Rattle.shelf.proofs.FaceLaws.{flush_face, all_more, ascending_more, settles_each, upto_greater}
use Rattle.shelf.proofs.SettlingLaws.{kept_settling, newer_settling, nothing_settled}
use Rattle.shelf.proofs.shelf.Shelf.open_flush.Goals as goal

pub reset-requires : goal.reset-requires
reset-requires c = record { size = c.requires.whole.ends.size; flags = c.requires.whole.ends.flags }

pub open_flush-requires : goal.open_flush-requires
open_flush-requires c = record { upto = c.requires.whole.upto }

pub returns-clause-flushed : goal.returns-clause-flushed
returns-clause-flushed c =
    let self = c.args.self.now in
    record {
      cells = λ told is question version there.
          ap (λ (l : List Settling). settled_cell l c.open_flush.new.owners question version) c.reserve_settlings.ensures.items
          ∙ (c.open_flush.ensures.opens.cells question (settled_version self.settlings.items question.owner version)
          ∙ flush_told (cell_at self) self.kept.items self.top told c.args.flush c.args.number (nothing_settled self.owners self.top self.settlings.items c.requires.whole.upto) c.requires.whole.numbers c.requires.newest is question version
          (ap (λ (l : List KeptFlush). is_version l question version) (sym c.in_ok-push.ensures.items) ∙ there));
      kept = c.in_ok-push.ensures.items;
      faces = flush_face (cell_at self) (settled_cell c.reserve_settlings.new.settlings.items c.open_flush.new.owners) self.kept.items c.push.new.self.items (record { flush = c.args.flush; number = c.args.number; shown = true })
          (λ q. nothing_settled self.owners self.top self.settlings.items c.requires.whole.upto q c.args.number c.requires.newest) (λ q v. ap (λ (l : List Settling). settled_cell l c.open_flush.new.owners q v) c.reserve_settlings.ensures.items ∙ c.open_flush.ensures.opens.cells q (settled_version self.settlings.items q.owner v)) c.in_ok-push.ensures.items;
      top = refl;
      pairs = c.open_flush.ensures.opens.pairs;
    }

pub returns-clause-whole : goal.returns-clause-whole
returns-clause-whole c =
    let self = c.args.self.now in
    let own : KeptFlush = record { flush = c.args.flush; number = c.args.number; shown = true } in
    let owners = c.open_flush.new.owners in
    record {
      upto = upto_greater owners self.top c.args.number (omega (arith, c.requires.newest)) c.open_flush.ensures.opens.upto;
      about = about_same self.owners owners c.open_flush.ensures.opens.cells c.requires.whole.about;
      numbers = subst (λ (l : List KeptFlush). AllByRecursion (λ k. k.number ≤ c.args.number) l) (sym c.in_ok-push.ensures.items)
          (all_more (λ k. k.number ≤ self.top) (λ k. k.number ≤ c.args.number) self.kept.items own (λ k low. omega (arith, low, c.requires.newest)) c.requires.whole.numbers (omega arith));
      ascending = subst (λ (l : List KeptFlush). IsAscending l) (sym c.in_ok-push.ensures.items) (ascending_more self.top self.kept.items own c.requires.whole.numbers c.requires.newest c.requires.whole.ascending);
      settles = subst (λ (l : List KeptFlush). AllByRecursion (λ k. CanSettleFlush owners k.number k.flush) l) (sym c.in_ok-push.ensures.items)
          (all_more (λ k. CanSettleFlush owners k.number k.flush) (λ k. CanSettleFlush owners k.number k.flush) self.kept.items own (λ k told. told) (settles_each self.owners owners self.kept.items c.open_flush.ensures.opens.settles c.requires.whole.settles) (c.in_ok-open_flush.ensures.opened c.args.number));
      counted = c.requires.whole.counted ∙ sym c.open_flush.ensures.opens.counted;
      few = c.requires.whole.few;
      small = c.requires.whole.small;
      room = omega (arith, c.in_ok-reserve.ensures.room, c.in_ok-push.ensures.len, c.len.ensures);
      ends = ends_kept self.kept.items c.push.new.self.items (λ q v there. ap (λ (l : List KeptFlush). is_version l q v) c.in_ok-push.ensures.items ∙ version_more self.kept.items own q v there) owners.entries c.reset.new.ends
          (reset_ends self owners c.args.flush c.reset.new.ends c.requires.whole.ends c.open_flush.ensures.entries.others c.open_flush.ensures.entries.size c.reset.ensures);
      settling = subst (λ (l : List Settling). AllByRecursion (IsSettling c.args.number owners) l) (sym c.reserve_settlings.ensures.items)
          (newer_settling self.top c.args.number owners (omega (arith, c.requires.newest)) self.settlings.items
          (kept_settling self.top self.owners owners c.args.flush.name (inl c.open_flush.ensures.entries.names) c.open_flush.ensures.opens.cells self.settlings.items c.requires.whole.settling));
      space = omega (arith, c.in_ok-reserve_settlings.ensures.room, c.in_ok-push.ensures.len, c.len-2.ensures);
      named = c.open_flush.ensures.opens.named c.requires.whole.named;
      useful = subst (λ (l : List Settling). AreUseful l) (sym c.reserve_settlings.ensures.items) c.requires.whole.useful;
      doubt = omega (arith, c.reset.ensures.left, ap most_left c.reserve_settlings.ensures.items, c.requires.whole.doubt);
    }

pub returns-in_err-push-clause-whole : goal.returns-in_err-push-clause-whole
returns-in_err-push-clause-whole c =
    let self = c.args.self.now in
    let whole = c.requires.whole in
    let owners = c.open_flush.new.owners in
    let items = c.in_err-push.ensures.items in
    record {
      upto = c.open_flush.ensures.opens.upto;
      about = about_same self.owners owners c.open_flush.ensures.opens.cells whole.about;
      numbers = subst (λ (l : List KeptFlush). AllByRecursion (λ k. k.number ≤ self.top) l) (sym items) whole.numbers;
      ascending = subst (λ (l : List KeptFlush). IsAscending l) (sym items) whole.ascending;
      settles = subst (λ (l : List KeptFlush). AllByRecursion (λ k. CanSettleFlush owners k.number k.flush) l) (sym items) (settles_each self.owners owners self.kept.items c.open_flush.ensures.opens.settles whole.settles);
      counted = whole.counted ∙ sym c.open_flush.ensures.opens.counted;
      few = whole.few;
      small = whole.small;
      room = omega (arith, ap length items, c.reserve.ensures.more, whole.room);
      ends = subst (λ (l : List KeptFlush). AreEnds l owners.entries c.reset.new.ends) (sym items)
          (reset_ends self owners c.args.flush c.reset.new.ends whole.ends c.open_flush.ensures.entries.others c.open_flush.ensures.entries.size c.reset.ensures);
      settling = subst (λ (l : List Settling). AllByRecursion (IsSettling self.top owners) l) (sym c.reserve_settlings.ensures.items) (kept_settling self.top self.owners owners c.args.flush.name (inl c.open_flush.ensures.entries.names) c.open_flush.ensures.opens.cells self.settlings.items whole.settling);
      space = omega (arith, ap length items, ap length c.reserve_settlings.ensures.items, c.reserve_settlings.ensures.more, whole.space);
      named = c.open_flush.ensures.opens.named whole.named;
      useful = subst (λ (l : List Settling). AreUseful l) (sym c.reserve_settlings.ensures.items) whole.useful;
      doubt = omega (arith, c.reset.ensures.left, ap most_left c.reserve_settlings.ensures.items, whole.doubt);
    }

pub returns-in_err-open_flush-clause-whole : goal.returns-in_err-open_flush-clause-whole
returns-in_err-open_flush-clause-whole c =
    let self = c.args.self.now in
    let whole = c.requires.whole in
    let owners = c.open_flush.new.owners in
    record {
      upto = c.open_flush.ensures.opens.upto;
      about = about_same self.owners owners c.open_flush.ensures.opens.cells whole.about;
      numbers = whole.numbers;
      ascending = whole.ascending;
      settles = settles_each self.owners owners self.kept.items c.open_flush.ensures.opens.settles whole.settles;
      counted = whole.counted ∙ sym c.open_flush.ensures.opens.counted;
      few = whole.few;
      small = whole.small;
      room = omega (arith, c.reserve.ensures.more, whole.room);
      ends = reset_ends self owners c.args.flush c.reset.new.ends whole.ends c.open_flush.ensures.entries.others c.open_flush.ensures.entries.size c.reset.ensures;
      settling = subst (λ (l : List Settling). AllByRecursion (IsSettling self.top owners) l) (sym c.reserve_settlings.ensures.items) (kept_settling self.top self.owners owners c.args.flush.name (inl c.open_flush.ensures.entries.names) c.open_flush.ensures.opens.cells self.settlings.items whole.settling);
      space = omega (arith, ap length c.reserve_settlings.ensures.items, c.reserve_settlings.ensures.more, whole.space);
      named = c.open_flush.ensures.opens.named whole.named;
      useful = subst (λ (l : List Settling). AreUseful l) (sym c.reserve_settlings.ensures.items) whole.useful;
      doubt = omega (arith, c.reset.ensures.left, ap most_left c.reserve_settlings.ensures.items, whole.doubt);
    }

pub returns-in_err-reserve_settlings-clause-whole : goal.returns-in_err-reserve_settlings-clause-whole
returns-in_err-reserve_settlings-clause-whole c =
    let self = c.args.self.now in
    let whole = c.requires.whole in
    record {
      upto = whole.upto;
      about = whole.about;
      numbers = whole.numbers;
      ascending = whole.ascending;
      settles = whole.settles;
      counted = whole.counted;
      few = whole.few;
      small = whole.small;
      room = omega (arith, c.reserve.ensures.more, whole.room);
      ends = whole.ends;
      settling = subst (λ (l : List Settling). AllByRecursion (IsSettling self.top self.owners) l) (sym c.reserve_settlings.ensures.items) whole.settling;
      space = omega (arith, ap length c.reserve_settlings.ensures.items, c.reserve_settlings.ensures.more, whole.space);
      named = whole.named;
      useful = subst (λ (l : List Settling). AreUseful l) (sym c.reserve_settlings.ensures.items) whole.useful;
      doubt = omega (arith, ap most_left c.reserve_settlings.ensures.items, whole.doubt);
    }

-- the same cells and flushes, in a shelf that was refused memory
same_shelf : (old new : Shelf) → new.settlings.items ≡ old.settlings.items → AreSameCells old.owners new.owners → new.kept.items ≡ old.kept.items → new.top ≡ old.top → new.stored ≡ old.stored → KeepPairs old.owners new.owners → IsSame old new
same_shelf old new settlings cells kept top stored pairs = record {
  cells = λ told is q v there. at q v ∙ is q v (ap (λ (l : List KeptFlush). is_version l q v) (sym kept) ∙ there);
  faces = λ chosen q. ap (λ (l : List KeptFlush). cell_at new q (chosen_version l q chosen)) kept ∙ at q (chosen_version old.kept.items q chosen);
  kept = kept;
  top = top;
  stored = stored;
  pairs = pairs;
}
  where
    at : (q : Question) (v : ℕ) → cell_at new q v ≡ cell_at old q v
    at q v = ap (λ (l : List Settling). settled_cell l new.owners q v) settlings ∙ cells q (settled_version old.settlings.items q.owner v)

on_err : {T E : Type 0} (P : Type 0) (r : Result T E) → P → OnErr r P
on_err P (Ok done) is = tt
on_err P (Err fault) is = is

pub returns-in_err-reserve_settlings-clause-same : goal.returns-in_err-reserve_settlings-clause-same
returns-in_err-reserve_settlings-clause-same c = on_err _ _ (same_shelf _ _ c.reserve_settlings.ensures.items (λ q v. refl) refl refl refl (λ pair has. has))

pub returns-in_err-open_flush-clause-same : goal.returns-in_err-open_flush-clause-same
returns-in_err-open_flush-clause-same c = on_err _ _ (same_shelf _ _ c.reserve_settlings.ensures.items c.open_flush.ensures.opens.cells refl refl refl c.open_flush.ensures.opens.pairs)

pub returns-in_err-push-clause-same : goal.returns-in_err-push-clause-same
returns-in_err-push-clause-same c = on_err _ _ (same_shelf _ _ c.reserve_settlings.ensures.items c.open_flush.ensures.opens.cells c.in_err-push.ensures.items refl refl c.open_flush.ensures.opens.pairs)

-- no entry has changed
stay_same : (name : Labels) (entries : List (Labels × OwnerCells)) → StayBut name entries entries
stay_same name entries = record { others = λ i off. refl; size = inl refl; names = inl refl }

pub returns-in_err-reserve-clause-entries : goal.returns-in_err-reserve-clause-entries
returns-in_err-reserve-clause-entries c = stay_same c.args.flush.name c.args.self.now.owners.entries

pub returns-in_err-reserve_settlings-clause-entries : goal.returns-in_err-reserve_settlings-clause-entries
returns-in_err-reserve_settlings-clause-entries c = stay_same c.args.flush.name c.args.self.now.owners.entries
