use Rattle.std.proofs.Common.{◌≡◌, ◌&&◌, ◌-◌, true, cond, take, sym, ap, ◌∙◌}
use Rattle.std.specs.Prelude.{map}
use Rattle.dns_text.specs.declared.record.Question.{Question}
use Rattle.ranked.specs.Flush.{covers}
use Rattle.shelf.specs.Kept.{turned_over}
use Rattle.shelf.specs.Told.{shown_version}
use Rattle.shelf.proofs.ShownLaws.{last_shown_over}
use Rattle.shelf.proofs.shelf.Shelf.version_over.Goals as goal

pub returns-then-covers : goal.returns-then-covers
returns-then-covers c =
    let q : Question = record { owner = c.args.owner.now; kind = c.args.kind } in
    let f = turned_over c.args.number in
    let kept = c.args.self.now.kept.items in
    let own = c.index-own.result.now in
    let decides : ((f own).shown && covers own.flush q) ≡ true = ap (λ b. b && covers own.flush q) (sym c.is_shown_over.ensures ∙ c.if-is_shown_over.true) ∙ sym c.if-covers.ensures in
    sym (c.loop-place.invariant.same
    ∙ (last_shown_over c.args.number kept q c.loop-place.place own c.loop-place-test.true c.loop-place.invariant.low c.index-own.ensures
    ∙ ap (λ b. cond b own.number (shown_version (map f (take (c.loop-place.place - 1) kept)) q)) decides))
