use Rattle.std.proofs.Common.{◌≡◌, ◌∙◌, ap, sym, subst, arith, inl, inr}
use Rattle.std.specs.Prelude.{position}
use Rattle.std.specs.Map.{keys_of}
use Rattle.std.proofs.lemmas.Bool.{cases_Bool, false≢true}
use Rattle.change_law.specs.Pairs.{pair_of}
use Rattle.store.proofs.PairLaws.{adds_pair, adds_none, alive_there}
use Rattle.dns_name.specs.Order.{name_eq}
use Rattle.ranked.specs.declared.find.Find.{Find}
use Rattle.change_law.specs.Face.{fate_in}
use Rattle.shelf.specs.declared.fault.StoreFault.TheVariants as store
use Rattle.shelf.specs.Room.{fate_of, needs_place}
use Rattle.store.specs.World.{Shelved, fault_told, shelved, shown_face}
use Rattle.store.specs.WorldLaws.{row_admitted, row_same, same_fate}
use Rattle.store.proofs.world.ShelfWorldWorld.admit.Goals as goal

pub returns-in-Ok-clause-told : goal.returns-in-Ok-clause-told
returns-in-Ok-clause-told c = subst (λ (s : Shelved). c.fate_at-fate.result ≡ fate_in (shown_face s) c.args.find c.args.moment c.args.find.scope) c.self.view_is
    (c.fate_at-fate.ensures ∙ (ap (λ (f : Find). fate_of c.self.inside.shelf f c.args.moment f.scope) c.find-2.ensures
    ∙ same_fate c.self.inside.shelf c.args.find c.args.moment c.args.find.scope))

pub returns-in-Ok-clause-row : goal.returns-in-Ok-clause-row
returns-in-Ok-clause-row c = rw (← c.self.view_is) (λ kept h.
    row_admitted (shelved c.self.inside.shelf) (shelved c.admit_at.new.self) kept c.args.find c.args.moment h c.admit_at.ensures.flushes.0 c.in-Ok.ensures.admitted.faces)

pub returns-in-Err-clause-err : goal.returns-in-Err-clause-err
returns-in-Err-clause-err c = rw (← c.self.view_is) ((
  row_same (shelved c.self.inside.shelf) (shelved c.admit_at.new.self) c.admit_at.ensures.flushes.0 c.in-Err.ensures.same.faces,
  omega (arith, c.admit_at.ensures.flushes.1),
  c.in-Err.ensures.same.stored,
  λ pair has. c.in-Err.ensures.same.pairs pair has,
))

pub returns-in-Ok-clause-counts : goal.returns-in-Ok-clause-counts
returns-in-Ok-clause-counts c = rw (← c.self.view_is) ((
  omega (arith, c.admit_at.ensures.flushes.1),
  c.admit_at.ensures.stored,
  c.admit_at.ensures.flushes.2,
  adds_pair c.args.find c.self.inside.shelf c.admit_at.new.self c.in-Ok.ensures.admitted.pairs,
))

pub returns-in-Err-clause-counts : goal.returns-in-Err-clause-counts
returns-in-Err-clause-counts c = rw (← c.self.view_is) ((
  omega (arith, c.admit_at.ensures.flushes.1),
  c.admit_at.ensures.stored,
  c.admit_at.ensures.flushes.2,
  adds_none c.args.find c.self.inside.shelf c.admit_at.new.self c.in-Err.ensures.same.pairs,
))

pub returns-in-Err-clause-free : goal.returns-in-Err-clause-free
returns-in-Err-clause-free c = rw (← c.self.view_is) (λ kept h alive.
    absurd (false≢true (c.in-Err.ensures.room.alive (alive_there c.self.inside.shelf kept c.args.moment (pair_of c.args.find) alive))))

pub returns-in-Err-clause-at_limit : goal.returns-in-Err-clause-at_limit
returns-in-Err-clause-at_limit c = rw (← c.self.view_is) (λ full.
    elim (cases_Bool (needs_place c.self.inside.shelf c.args.find c.args.moment)) [
      | inl needed ↦
          let is : c.in-Err.fault ≡ store.Full c.self.inside.shelf.stored = cc (c.in-Err.ensures.room.full (full, needed)) in
          c.fault_told.ensures ∙ ap fault_told is
      | inr unneeded ↦ absurd (false≢true (c.in-Err.ensures.room.unneeded unneeded))
    ])

pub fate_at-fate-requires : goal.fate_at-fate-requires
fate_at-fate-requires c =
    let test = λ (f : Find). position (name_eq f.owner) (keys_of c.self.inside.shelf.owners.entries) in
    c.place_of-place.ensures ∙ (ap test c.find.ensures ∙ sym (ap test c.find-2.ensures))
