use Rattle.std.proofs.Common.{◌≡◌, ◌<◌, List, length, get_or, arith, subst, sym, ap, ◌∙◌}
use Rattle.std.specs.Prelude.{not}
use Rattle.dns_text.specs.declared.record.Question.{Question}
use Rattle.shelf.specs.declared.shelf.KeptFlush.{KeptFlush}
use Rattle.shelf.specs.Room.{takes}
use Rattle.shelf.specs.Told.{cell_at}
use Rattle.shelf.proofs.RoomLaws.{taken_at, taken_first}
use Rattle.shelf.proofs.shelf.Shelf.is_taken.Goals as goal

pub returns-then-not-turns_away : goal.returns-then-not-turns_away
returns-then-not-turns_away c =
    let q : Question = record { owner = c.args.find.now.owner; kind = c.args.kind } in
    let taken = ap not (sym c.turns_away.ensures ∙ c.if-not-turns_away.true) in
    sym (taken_first (cell_at c.args.self.now) c.args.find.now c.args.moment q c.args.self.now.kept.items taken)

pub returns-then-not-turns_away-2 : goal.returns-then-not-turns_away-2
returns-then-not-turns_away-2 c =
    let q : Question = record { owner = c.args.find.now.owner; kind = c.args.kind } in
    let cells = cell_at c.args.self.now in
    let kept = c.args.self.now.kept.items in
    let low : c.loop-own.own-index < length kept = omega (arith, c.loop-own-test.true, c.deref-own-items.ensures.len) in
    let covered = sym c.covers.ensures ∙ c.if-covers.true in
    let taken = ap not (sym c.turns_away-then-covers.ensures ∙ c.if-not-turns_away-2.true) in
    sym (taken_at cells c.args.find.now c.args.moment q kept (takes cells c.args.find.now c.args.moment q 0) c.loop-own.own-index c.own-item.result low (subst (λ (l : List KeptFlush). c.own-item.result ≡ get_or l c.loop-own.own-index c.own-item.result) c.deref-own-items.ensures.value c.own-item.is) covered taken)
