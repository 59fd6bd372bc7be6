use Rattle.std.proofs.Common.{◌≡◌, refl, ℕ, List, ap, sym, subst, ◌∙◌}
use Rattle.local_zone.specs.Gaps.{at_gaps, rest_of}
use Rattle.local_zone.specs.Together.{LieTogether}
use Rattle.local_zone.proofs.GapLaws.{goes_out}
use Rattle.local_zone.proofs.records.take_again.Goals as goal

pub returns-in-Ok-clause-turns : goal.returns-in-Ok-clause-turns
returns-in-Ok-clause-turns c =
    let other : c.take_out.new.records ≡ rest_of c.args.gaps.items c.args.records.now = c.in-Ok.ensures.ok ∙ ap (λ (g : List ℕ). rest_of g c.args.records.now) c.as_slice.ensures.value in
    let back = goes_out c.args.gaps.items c.args.records.now c.take_out.new.records c.in-Ok.removed c.requires.0 c.requires.1 other (c.in-Ok.ensures.removed ∙ ap (λ (g : List ℕ). at_gaps g c.args.records.now) c.as_slice.ensures.value) in
    record {
      other = other;
      goes = back.0;
      gives = back.1;
      turned = record { need = refl; need_after = refl; brings = refl; takes = refl };
    }

pub returns-in-Ok-clause-zoned : goal.returns-in-Ok-clause-zoned
returns-in-Ok-clause-zoned c it h = c.in-Ok.ensures.zoned (subst (λ (g : List ℕ). LieTogether c.args.zones.now (at_gaps g c.args.records.now)) (sym c.as_slice.ensures.value) it) h

pub returns-in-Err-clause-zoned : goal.returns-in-Err-clause-zoned
returns-in-Err-clause-zoned c it h = c.in-Err.ensures.zoned (subst (λ (g : List ℕ). LieTogether c.args.zones.now (at_gaps g c.args.records.now)) (sym c.as_slice.ensures.value) it) h
