use Rattle.std.proofs.Common.{◌≡◌, ◌≤◌, ◌+◌, ◌-◌, ℕ, List, length, take, get_or, sym, ap, ◌∙◌, subst, arith}
use Rattle.std.proofs.Math.ListN.{set}
use Rattle.std.proofs.lemmas.List.{get_or_default}
use Rattle.shelf.specs.Lasts.{AreWithin}
use Rattle.shelf.proofs.GapLaws.{swap_right, within_take}
use Rattle.shelf.proofs.lasts.Lasts.swap_remove.Goals as goal

pub mend_gap-requires-clause-within : goal.mend_gap-requires-clause-within
mend_gap-requires-clause-within c =
    let was = c.args.self.now in
    let few : c.len-last.result - 1 ≤ length was.winners.items = omega (arith, c.len-last.ensures, was.ends.ok.0, c.requires.shape.0) in
    subst (λ (l : List ℕ). AreWithin l) (sym c.truncate-2.ensures.items) (within_take was.winners.items (c.len-last.result - 1) few c.requires.shape.1)

pub returns-clause-winners : goal.returns-clause-winners
returns-clause-winners c = λ old d entries is.
    let was = c.args.self.now in
    let ends = was.ends.items in
    let n = c.len-last.result - 1 in
    let at : n + 1 ≡ length ends = omega (arith, c.len-last.ensures, was.ends.ok.0, c.requires.low) in
    let one : n ≡ length ends - 1 = omega (arith, at) in
    let v : c.index.result.now ≡ get_or ends (length ends - 1) 0 = c.index.ensures ∙ (get_or_default ends n c.index.result.now 0 (omega (arith, at)) ∙ ap (λ k. get_or ends k 0) one) in
    swap_right was (record { ends = c.truncate.new.self; winners = c.mend_gap.new.winners }) c.truncate-2.new.self.items c.deref.result.now c.deref.ensures.value c.mend_gap.ensures.size c.mend_gap.ensures.within
    old c.args.owners.now.entries d c.args.place n entries is (sym at)
    (c.truncate.ensures.items ∙ (ap (λ x. take n (set ends c.args.place x)) v ∙ ap (λ k. take k (set ends c.args.place (get_or ends (length ends - 1) 0))) one)) c.truncate-2.ensures.items c.mend_gap.ensures.right

pub returns-clause-shape : goal.returns-clause-shape
returns-clause-shape c =
    let was = c.args.self.now in
    (omega (arith, c.mend_gap.ensures.size, c.truncate.ensures.len, c.truncate-2.ensures.len, c.len-last.ensures, was.ends.ok.0, c.requires.low, c.requires.shape.0), c.mend_gap.ensures.within)
