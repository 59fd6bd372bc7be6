use Rattle.std.proofs.Common.{Option, None, List, sym, subst, ◌∙◌}
use Rattle.winner_tree.specs.Tree.{IsBelow}
use Rattle.shelf.specs.declared.settling.Settling.{Settling}
use Rattle.shelf.specs.declared.shelf.KeptFlush.{KeptFlush}
use Rattle.shelf.specs.declared.oldest.Candidate.{Candidate}
use Rattle.shelf.specs.Clean.{AreEnds}
use Rattle.shelf.specs.First.{AreBounds, IsFirst}
use Rattle.shelf.proofs.BoundLaws.{no_doubt, shelf_bounds}
use Rattle.shelf.proofs.OldestLaws.{none_of, oldest_of}
use Rattle.shelf.proofs.shelf.Shelf.oldest.Goals as goal

pub first_of_all-first-requires-clause-ends : goal.first_of_all-first-requires-clause-ends
first_of_all-first-requires-clause-ends c =
    let self = c.args.self.now in (
      subst (λ (l : List KeptFlush). AreEnds l self.owners.entries self.ends) (sym c.deref-2.ensures.value) c.requires.whole.ends,
      λ none. no_doubt self c.requires.whole (sym c.deref.ensures.value ∙ none),
    )

pub first_of_all-first-requires-clause-bounds : goal.first_of_all-first-requires-clause-bounds
first_of_all-first-requires-clause-bounds c =
    let self = c.args.self.now in
    subst (λ (s : List Settling). AreBounds s c.deref-2.result.now self.owners.entries self.ends.moments) (sym c.deref.ensures.value)
    (subst (λ (l : List KeptFlush). AreBounds self.settlings.items l self.owners.entries self.ends.moments) (sym c.deref-2.ensures.value) (shelf_bounds self c.requires.whole c.len.ensures.unique))

pub returns-in-Some-clause-some : goal.returns-in-Some-clause-some
returns-in-Some-clause-some c =
    let self = c.args.self.now in
    let first = subst (λ (l : List KeptFlush). IsFirst self.settlings.items l self.owners.entries c.args.moment (IsBelow 0) None c.first_of_all-first.result) c.deref-2.ensures.value
    (subst (λ (s : List Settling). IsFirst s c.deref-2.result.now self.owners.entries c.args.moment (IsBelow 0) None c.first_of_all-first.result) c.deref.ensures.value c.first_of_all-first.ensures) in
    oldest_of self c.len.ensures.unique c.args.moment c.in-Some.own (subst (λ (o : Option Candidate). IsFirst self.settlings.items self.kept.items self.owners.entries c.args.moment (IsBelow 0) None o) c.in-Some.is first)

pub returns-in-None-clause-none : goal.returns-in-None-clause-none
returns-in-None-clause-none c =
    let self = c.args.self.now in
    let first = subst (λ (l : List KeptFlush). IsFirst self.settlings.items l self.owners.entries c.args.moment (IsBelow 0) None c.first_of_all-first.result) c.deref-2.ensures.value
    (subst (λ (s : List Settling). IsFirst s c.deref-2.result.now self.owners.entries c.args.moment (IsBelow 0) None c.first_of_all-first.result) c.deref.ensures.value c.first_of_all-first.ensures) in
    none_of self c.len.ensures.unique c.args.moment (subst (λ (o : Option Candidate). IsFirst self.settlings.items self.kept.items self.owners.entries c.args.moment (IsBelow 0) None o) c.in-None.is first)
