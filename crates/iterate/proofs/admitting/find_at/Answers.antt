use Rattle.std.proofs.Common.{suc, ◌≡◌, ◌<◌, List, ◌∷◌, length, drop, slice_index_or, sym, ap, ◌∙◌, subst, arith}
use Rattle.std.proofs.Math.Seq.{drop-cons}
use Rattle.ranked.specs.declared.find.Find.{Find}
use Rattle.iterate.proofs.admitting.find_at.Goals as goal

pub returns-then-next-finds : goal.returns-then-next-finds
returns-then-next-finds c =
    let finds = c.args.heard.now.harvest.chosen in
    let next = c.args.next in
    let found = c.index-finds-next.result in
    let same : c.as_slice-finds.result.now ≡ finds = c.as_slice-finds.ensures in
    let within : next < length finds = omega (arith, ap (λ (xs : List Find). length xs) same) in
    let is : slice_index_or finds next found ≡ found = subst (λ (xs : List Find). slice_index_or xs next found ≡ found) same (sym c.index-finds-next.is) in
    record {
      within = omega arith;
      early = omega arith;
      rest = drop (suc next) finds;
      at = drop-cons finds next found within ∙ ap (λ (f : Find). f ∷ drop (suc next) finds) (is ∙ sym c.in_ok-share.ensures);
    }
