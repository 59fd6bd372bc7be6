use Rattle.std.proofs.Common.{◌≡◌, ◌++◌, ◌∷◌, [], ℕ, List, length, sym, ap, ◌∙◌, subst, arith}
use Rattle.winner_tree.specs.Tree.{IsBelow}
use Rattle.shelf.specs.Lasts.{AreFirstBut, AreMended, AreWithin}
use Rattle.shelf.proofs.GapLaws.{followed, stayed, within_more}
use Rattle.shelf.proofs.lasts.Lasts.follow.Goals as goal

pub mend-requires-clause-within : goal.mend-requires-clause-within
mend-requires-clause-within c =
    let was = c.args.self.now in
    let at : c.len-place.result ≡ length was.ends.items = omega (arith, c.len-place.ensures, was.ends.ok.0) in
    subst (λ (l : List ℕ). AreWithin l) (sym (c.push_reserved-then-place-len.ensures.items ∙ ap (λ n. was.winners.items ++ n ∷ []) at)) (within_more was.winners.items (length was.ends.items) c.requires.shape.0 c.requires.shape.1)

pub returns-then-place-len-clause-winners : goal.returns-then-place-len-clause-winners
returns-then-place-len-clause-winners c = λ name old stay is.
    let was = c.args.self.now in
    let new = c.args.owners.now.entries in
    let middle = c.push_reserved-then-place-len.new.self.items in
    let seconds = c.deref.result.now in
    let at : c.len-place.result ≡ length was.ends.items = omega (arith, c.len-place.ensures, was.ends.ok.0) in
    followed was (record { ends = c.push_reserved.new.self; winners = c.mend.new.winners }) middle seconds c.deref.ensures.value c.mend.ensures.size c.mend.ensures.within old new name stay is
    (omega (arith, c.if-place-len.true, at, c.len.ensures.len)) c.push_reserved.ensures.items (c.push_reserved-then-place-len.ensures.items ∙ ap (λ n. was.winners.items ++ n ∷ []) at)
    (subst (λ n. AreFirstBut n new seconds middle → AreMended (λ i. IsBelow i n) new seconds middle c.mend.new.winners.items) at c.mend.ensures.right)

pub returns-else-place-len-clause-winners : goal.returns-else-place-len-clause-winners
returns-else-place-len-clause-winners c = λ name old stay is.
    let was = c.args.self.now in
    let at : c.len-place.result ≡ length was.ends.items = omega (arith, c.len-place.ensures, was.ends.ok.0) in
    stayed old c.args.owners.now.entries name was stay is (omega (arith, c.if-place-len.false, at, c.len.ensures.len))
