use Rattle.std.proofs.Common.{◌≡◌, ◌<◌, ◌+◌, ◌-◌, ◌/◌, ◌⊎◌, ℕ, List, length, suc, refl, sym, ap, ◌∙◌, subst, arith, inl}
use Rattle.std.proofs.Math.ListN.{set, length-set}
use Rattle.std.proofs.lemmas.List.{get_or-set_other}
use Rattle.winner_tree.specs.Tree.{up, IsBelow}
use Rattle.shelf.specs.Lasts.{winner_at, AreFirstBut, IsNodeOrWinner, IsReady, IsWinner, Leads}
use Rattle.shelf.proofs.OrderLaws.{up_last}
use Rattle.shelf.proofs.WinnerLaws.{right_next, up_none, within_set}
use Rattle.shelf.proofs.AgainLaws.{come_first, come_set, leads_itself, next_parent, one_under, one_within, ready_for}
use Rattle.shelf.proofs.lasts.mend.Goals as goal

pub loop-node-init : goal.loop-node-init
loop-node-init c = record {
  low = omega (arith, c.requires.low);
  size = refl;
  within = c.requires.within;
  above = (0, refl);
  same = λ i low. refl;
  come = come_first c.args.winners.now.items;
  next = λ more. inl (omega arith);
  leads = λ first. leads_itself c.args.owners.now.entries c.args.lasts.now c.args.place;
  right = λ first i low off was. was (λ below. off below.0 below.1);
}

pub loop-node-preserved : goal.loop-node-preserved
loop-node-preserved c =
    let was = c.loop-node.invariant in
    let node = c.loop-node.node in
    let here : (node - 1) + 1 ≡ node = omega (arith, c.loop-node-test.true) in
    let entries = c.args.owners.now.entries in
    let lasts = c.args.lasts.now in
    let place = c.args.place in
    let old = c.args.winners.now.items in
    let winners = c.loop-node.winners.items in
    let v = c.winner_again-first.result in
    let low : node - 1 < length winners = omega (arith, was.low, c.loop-node-test.true) in
    let there : node - 1 < length old = omega (arith, low, was.size) in
    let below : IsBelow (node - 1) place = (was.above.0, was.above.1 ∙ sym here) in
    let one : IsNodeOrWinner winners (node - 1) v ⊎ ((v ≡ place) ⊎ (v ≡ winner_at winners (node - 1))) =
    subst (λ (l : List ℕ). IsNodeOrWinner l (node - 1) v ⊎ ((v ≡ place) ⊎ (v ≡ winner_at l (node - 1)))) c.deref.ensures.value c.winner_again-first.ensures.one in
    let is : IsReady entries lasts winners (node - 1) place c.loop-node.first → IsWinner entries lasts winners (node - 1) v × Leads entries lasts v place =
    subst (λ (l : List ℕ). IsReady entries lasts l (node - 1) place c.loop-node.first → IsWinner entries lasts l (node - 1) v × Leads entries lasts v place) c.deref.ensures.value c.winner_again-first.ensures.right in
    let mended : AreFirstBut place entries lasts old → IsWinner entries lasts winners (node - 1) v × Leads entries lasts v place =
    λ first. is (ready_for old winners was.size was.come (node - 1) there entries lasts place c.loop-node.first first below (was.same (node - 1) (omega (arith, here))) (was.next (omega (arith, c.loop-node-test.true))) (was.leads first)) in
    record {
      low = omega (arith, was.low, length-set winners (node - 1) v);
      size = length-set winners (node - 1) v ∙ was.size;
      within = within_set entries lasts winners (node - 1) v low (one_within winners (node - 1) place v low was.within below one) was.within;
      above = (suc was.above.0, up_last was.above.0 (place + 1) ∙ ap (λ n. n / 2) was.above.1);
      same = λ i less. get_or-set_other winners (node - 1) i v 0 (λ at. omega (arith, less, at, c.loop-node-test.true)) ∙ was.same i (omega (arith, less));
      come = come_set old winners was.size was.come (node - 1) there v (one_under old winners was.size was.come (node - 1) there place v (omega (arith, c.requires.low)) below one);
      next = λ more. subst (λ n. IsNodeOrWinner (set winners (node - 1) v) (n / 2 - 1) v) here (next_parent winners (node - 1) v low (subst (λ n. 0 < n / 2) (sym here) more));
      leads = λ first. (mended first).1;
      right = λ first i on off right. right_next entries lasts winners (node - 1) v low node i here (mended first).0 was.within (omega (arith, on, was.size)) off (λ before. was.right first i on before right);
    }

pub returns : goal.returns
returns c =
    let is = c.loop-node.invariant in
    let none : c.loop-node.node ≡ 0 = omega (arith, c.loop-node-test.false) in
    record {
      size = is.size;
      within = is.within;
      right = λ first i low right. is.right first i low (λ k at. omega (arith, at, ap (up k) none, up_none k)) right;
    }
