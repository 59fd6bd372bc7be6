use Rattle.std.proofs.Common.{Bool, Vec, Global, length, refl, sym, ap, ◌∙◌, subst, arith}
use Rattle.shelf.specs.declared.ends.Ends.{Ends}
use Rattle.shelf.specs.declared.lasts.Lasts.{Lasts}
use Rattle.shelf.specs.Lasts.{IsShaped}
use Rattle.shelf.proofs.EndLaws.{ends_settled, place_settled}
use Rattle.shelf.proofs.EvenLaws.{mixed_even, mixed_length}
use Rattle.shelf.proofs.ends.settle_doubt.Goals as goal

pub returns-clause-ends : goal.returns-clause-ends
returns-clause-ends c = λ kept entries is.
    let was = c.args.ends.now in
    let mid = c.end_if_mixed.new.ends in
    let now : Ends = record { moments = mid.moments; mixed = mid.mixed; left = c.args.place; lasts = mid.lasts } in
    let mixed = c.end_if_mixed.ensures.moments is.flags in
    let same = c.end_if_mixed.ensures.same in
    let size = mixed_length c.args.place was.moments was.mixed.items mid.moments mixed in
    ends_settled kept entries was now size (mixed_even c.args.place was now mixed (ap (λ (v : Vec Bool Global). v.items) same.0)) (omega (arith, size, is.flags, ap (λ (v : Vec Bool Global). length v.items) same.0)) same.2
    (place_settled was now c.args.place (omega arith) refl mixed) is

pub returns-clause-size : goal.returns-clause-size
returns-clause-size c = λ entries is.
    let was = c.args.ends.now in
    let same = c.end_if_mixed.ensures.same in
    let size = mixed_length c.args.place was.moments was.mixed.items c.end_if_mixed.new.ends.moments (c.end_if_mixed.ensures.moments is.1) in (
      size ∙ is.0,
      omega (arith, size, is.1, ap (λ (v : Vec Bool Global). length v.items) same.0),
      ap (λ (l : Lasts). length l.ends.items) same.2 ∙ is.2,
      subst (λ (l : Lasts). IsShaped l) (sym same.2) is.3,
    )

pub returns-clause-ended : goal.returns-clause-ended
returns-clause-ended c = c.end_if_mixed.ensures.near
