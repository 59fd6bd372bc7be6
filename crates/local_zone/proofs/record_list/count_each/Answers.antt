use Rattle.std.proofs.Common.{◌≡◌, ◌+◌, ℕ, List, [], ◌∷◌, ◌++◌, cond, take, refl, ap, sym, ◌∙◌, arith}
use Rattle.std.proofs.lemmas.List.{take_all, take_more}
use Rattle.dns_name.specs.Labels.{Labels}
use Rattle.dns_text.specs.declared.record.Record.{Record}
use Rattle.local_zone.specs.CountsBelow.{count_below, is_below, lies_below}
use Rattle.local_zone.proofs.CountsBelowLaws.{count_push}
use Rattle.local_zone.proofs.record_list.count_each.Goals as goal

none_yet : (name : Labels) (records : List Record) → count_below name (take 0 records) ≡ 0
none_yet name [] = refl
none_yet name (r ∷ records) = refl

pub loop-r-init : goal.loop-r-init
loop-r-init c name = omega (arith, none_yet name c.args.records.now)

pub loop-r-preserved : goal.loop-r-preserved
loop-r-preserved c name =
    let xs : List Record = c.args.records.now in
    let i = c.loop-r.r-index in
    let r : Record = c.r-item.result in
    let next : take (i + 1) xs ≡ take i xs ++ r ∷ [] = take_more xs i r c.loop-r-test.true ∙ ap (λ (y : Record). take i xs ++ y ∷ []) (sym c.r-item.is) in
    omega (
      arith,
      c.in_ok-add.ensures.ok name,
      c.loop-r.invariant name,
      ap {B = ℕ} (λ (o : Labels). cond (is_below o name) 1 0) c.owner.ensures,
      ap {B = ℕ} (count_below name) next,
      count_push (lies_below name) (take i xs) r,
    )

pub returns : goal.returns
returns c name = omega (arith, c.loop-r.invariant name, ap {B = ℕ} (count_below name) (take_all c.loop-r.r-index c.args.records.now (omega arith)))
