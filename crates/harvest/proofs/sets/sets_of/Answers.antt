use Rattle.std.proofs.Common.{◌≡◌, ◌<◌, List, [], ◌∷◌, ◌++◌, map, length, drop, get_or, sym, ◌∙◌, ap, subst, arith}
use Rattle.std.proofs.lemmas.List.{length-map, take_at, with_items_is}
use Rattle.harvest.specs.Counted.{Ranked}
use Rattle.harvest.specs.Indexed.{IsIndex}
use Rattle.harvest.specs.Sets.{Set, begun, joined, has_set}
use Rattle.harvest.proofs.IndexedLaws.{has_stays, index_joined}
use Rattle.harvest.proofs.LoopLaws.{join_step, begin_step}
use Rattle.harvest.proofs.sets.sets_of.Goals as goal
use Rattle.harvest.proofs.sets.sets_of.Goals.{then-not-branch+in_ok-begin_set, else-not-branch}

pub begin_set-requires-clause-places : goal.begin_set-requires-clause-places
begin_set-requires-clause-places c =
    let sets = c.loop-r.sets.items in
    let all : c.join_sets.new.sets ≡ map (joined c.r-item.result) sets = c.in_ok-join_sets.ensures.sets ∙ ap (λ (ss : List Set). map (joined c.r-item.result) ss) c.deref_mut.ensures.value in
    let as_many : length c.join_sets.new.sets ≡ c.loop-r.sets.len = ap (λ (ss : List Set). length ss) c.in_ok-join_sets.ensures.sets ∙ length-map c.deref_mut.result.now (joined c.r-item.result) ∙ c.deref_mut.ensures.len in
    let back = take_at c.join_sets.new.sets (drop (length c.join_sets.new.sets) sets) c.loop-r.sets.len as_many in
    subst (λ (ss : List Set). IsIndex c.loop-r.places ss) (sym (back ∙ all)) (index_joined c.loop-r.places sets c.r-item.result c.loop-r.invariant.places)

pub begin_set-requires-clause-begins : goal.begin_set-requires-clause-begins
begin_set-requires-clause-begins c =
    let sets = c.loop-r.sets.items in
    let all : c.join_sets.new.sets ≡ map (joined c.r-item.result) sets = c.in_ok-join_sets.ensures.sets ∙ ap (λ (ss : List Set). map (joined c.r-item.result) ss) c.deref_mut.ensures.value in
    let as_many : length c.join_sets.new.sets ≡ c.loop-r.sets.len = ap (λ (ss : List Set). length ss) c.in_ok-join_sets.ensures.sets ∙ length-map c.deref_mut.result.now (joined c.r-item.result) ∙ c.deref_mut.ensures.len in
    let back = take_at c.join_sets.new.sets (drop (length c.join_sets.new.sets) sets) c.loop-r.sets.len as_many in
    let told = sym (c.in_ok-join_sets.ensures.told ∙ ap (λ (ss : List Set). has_set ss c.r-item.result) c.deref_mut.ensures.value) in
    ap (λ (ss : List Set). has_set ss c.r-item.result) (back ∙ all) ∙ has_stays c.r-item.result sets ∙ told ∙ c.if-not-branch.true

pub loop-r-preserved : goal.loop-r-preserved
loop-r-preserved c =
    let sets = c.loop-r.sets.items in
    let within : c.loop-r.r-index < length c.args.records.now.items = omega (arith, c.loop-r-test.true, c.deref-r-items.ensures.len) in
    let is = c.r-item.is ∙ ap (λ (rs : List Ranked). get_or rs c.loop-r.r-index c.r-item.result) c.deref-r-items.ensures.value in
    let told = sym (c.in_ok-join_sets.ensures.told ∙ ap (λ (ss : List Set). has_set ss c.r-item.result) c.deref_mut.ensures.value) in
    let all : c.join_sets.new.sets ≡ map (joined c.r-item.result) sets = c.in_ok-join_sets.ensures.sets ∙ ap (λ (ss : List Set). map (joined c.r-item.result) ss) c.deref_mut.ensures.value in
    let as_many : length c.join_sets.new.sets ≡ c.loop-r.sets.len = ap (λ (ss : List Set). length ss) c.in_ok-join_sets.ensures.sets ∙ length-map c.deref_mut.result.now (joined c.r-item.result) ∙ c.deref_mut.ensures.len in
    elim c.if-not-branch.branch [
      | then-not-branch+in_ok-begin_set w ↦
          let back = take_at c.join_sets.new.sets (drop (length c.join_sets.new.sets) sets) c.loop-r.sets.len as_many in
          let more = w.in_ok-begin_set.ensures.sets ∙ ap (λ (ss : List Set). ss ++ begun c.r-item.result ∷ []) (back ∙ all) in
          record {
            sets = rw w.sets-is (begin_step c.args.records.now.items c.loop-r.r-index c.r-item.result sets _ within is c.loop-r.invariant.sets (told ∙ w.if-not-branch.true) more);
            places = rw (w.places-is, w.sets-is) w.in_ok-begin_set.ensures.places;
          }
      | else-not-branch w ↦
          let kept = with_items_is c.loop-r.sets c.join_sets.new.sets as_many ∙ all in
          record {
            sets = rw w.sets-is (join_step c.args.records.now.items c.loop-r.r-index c.r-item.result sets _ within is c.loop-r.invariant.sets (told ∙ w.if-not-branch.false) kept);
            places = rw (w.places-is, w.sets-is) (subst (λ (ss : List Set). IsIndex c.loop-r.places ss) (sym kept) (index_joined c.loop-r.places sets c.r-item.result c.loop-r.invariant.places));
          }
    ]
