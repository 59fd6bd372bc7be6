use Rattle.std.proofs.Common.{◌≡◌, ◌-◌, ◌<◌, length, take, drop, ap, arith, length-drop}
use Rattle.std.proofs.lemmas.Bool.{false≢true}
use Rattle.std.proofs.lemmas.List.{take_all}
use Rattle.dns_name.proofs.ComingLaws.{ends, over}
use Rattle.dns_name.proofs.name.pop_label.Goals as goal

pub returns-in_err-pop : goal.returns-in_err-pop
returns-in_err-pop c =
    let some : 0 < length c.args.starts.now.items → ⊥ = λ h. false≢true (c.in_err-pop.ensures.variant.1 h) in
    rw c.from_residual.ensures (over _ _ _ c.requires c.in_err-pop.ensures.items (omega (arith, some)))

pub split_at-requires : goal.split_at-requires
split_at-requires c = omega (arith, (ends _ _ _ _ _ c.requires c.in_ok-pop.ensures.items c.from-start.ensures).within)

pub slice_bounds-result-count : goal.slice_bounds-result-count
slice_bounds-result-count c =
    omega (arith, (ends _ _ _ _ _ c.requires c.in_ok-pop.ensures.items c.from-start.ensures).within, ap length c.split_at.ensures.back, length-drop c.from-start.result c.args.octets.now)

pub slice_bounds-result-start : goal.slice_bounds-result-start
slice_bounds-result-start c =
    omega (arith, (ends _ _ _ _ _ c.requires c.in_ok-pop.ensures.items c.from-start.ensures).within, ap length c.split_at.ensures.back, length-drop c.from-start.result c.args.octets.now)

pub returns : goal.returns
returns c =
    let label : take (length c.split_at.result.1.now - 1) (drop 1 c.split_at.result.1.now) ≡ drop 1 c.split_at.result.1.now = take_all _ _ (omega (arith, length-drop 1 c.split_at.result.1.now)) in
    rw (label, c.split_at.ensures.front, c.split_at.ensures.back) (ends _ _ _ _ _ c.requires c.in_ok-pop.ensures.items c.from-start.ensures).parts
