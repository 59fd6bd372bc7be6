use Rattle.std.proofs.Common.{◌≡◌, ◌+◌, ◌-◌, ◌<◌, ℕ, List, ◌∷◌, take, drop, length, get_or, ap, sym, subst, arith, length-drop}
use Rattle.std.proofs.lemmas.List.{at_drop_all, drop_more, take_all}
use Rattle.dns_name.specs.Labels.{Labels}
use Rattle.dns_text.specs.declared.record.Record.{Record}
use Rattle.local_zone.specs.CountsBelow.{count_below, counted}
use Rattle.local_zone.specs.Gaps.{rest_of, AreWithin}
use Rattle.local_zone.proofs.CountsAtLaws.{behind_at, drop_none, rest_step, within_next}
use Rattle.local_zone.proofs.record_list.counts_between.Goals as goal

pub loop-gap-init : goal.loop-gap-init
loop-gap-init c =
    let gaps : List ℕ = c.args.gaps.now in
    let list : List Record = c.args.list.now in
    let within : AreWithin (drop 0 gaps) (drop 0 list)
    = subst (λ (g : List ℕ). AreWithin g (drop 0 list)) (sym (drop_none gaps)) (subst (λ (rs : List Record). AreWithin gaps rs) (sym (drop_none list)) c.requires) in
    record {
      place = omega arith;
      next = λ some. within_next gaps 0 0 list within some;
      within = within;
      all = λ name.
          let none : counted name c.new-counts.result ≡ 0 = ap {B = ℕ} (λ (cs : List (List ℕ × ℕ)). counted name cs) c.new-counts.ensures in
          omega (arith, none, ap {B = ℕ} (λ (g : List ℕ). count_below name (rest_of g (drop 0 list))) (drop_none gaps), ap {B = ℕ} (λ (rs : List Record). count_below name (rest_of gaps rs)) (drop_none list));
    }

pub loop-gap-preserved : goal.loop-gap-preserved
loop-gap-preserved c =
    let gaps : List ℕ = c.args.gaps.now in
    let list : List Record = c.args.list.now in
    let i = c.loop-gap.gap-index in
    let place = c.loop-gap.place in
    let gap = get_or gaps i 0 in
    let rest : List Record = drop place list in
    let some : i < length gaps = omega arith in
    let here : place + gap < length list = c.loop-gap.invariant.next some in
    let next : drop i gaps ≡ gap ∷ drop (i + 1) gaps = drop_more gaps i 0 some in
    let later = behind_at list place gap in
    let many : place + gap - place ≡ gap = omega arith in
    let both : AreWithin (gap ∷ drop (i + 1) gaps) rest = subst (λ (g : List ℕ). AreWithin g rest) next c.loop-gap.invariant.within in
    let within : AreWithin (drop (i + 1) gaps) (drop (place + gap + 1) list) = subst (λ (rs : List Record). AreWithin (drop (i + 1) gaps) rs) later both.1 in
    record {
      place = omega (arith, here);
      next = λ more. within_next gaps (i + 1) (place + gap + 1) list within more;
      within = within;
      all = λ name. omega (
        arith,
        c.in_ok-count_each.ensures name,
        ap {B = ℕ} (λ (n : ℕ). count_below name (take n rest)) many,
        rest_step (drop i gaps) (drop (i + 1) gaps) gap rest (drop (place + gap + 1) list) next later name,
        c.loop-gap.invariant.all name,
      );
    }

pub returns : goal.returns
returns c name =
    let rest : List Record = drop c.loop-gap.place c.args.list.now in
    omega (
      arith,
      c.in_ok-count_each-2.ensures name,
      c.loop-gap.invariant.all name,
      at_drop_all {Y = ℕ} (λ (g : List ℕ). count_below name (rest_of g rest)) c.args.gaps.now c.loop-gap.gap-index (omega arith),
      ap {B = ℕ} (count_below name) (take_all (length c.args.list.now - c.loop-gap.place) rest (omega (arith, length-drop c.loop-gap.place c.args.list.now))),
    )
