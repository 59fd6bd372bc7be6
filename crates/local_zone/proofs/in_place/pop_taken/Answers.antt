use Rattle.std.proofs.Common.{◌≡◌, ℕ, ◌+◌, ◌-◌, ◌<◌, List, [], ◌∷◌, ◌++◌, length, take, drop, get_or, reverse, ap, sym, ◌∙◌, append_assoc, arith, length-append, length-drop}
use Rattle.std.specs.Vec.{vec_len, vec_capacity}
use Rattle.std.proofs.lemmas.List.{drop_more, length-reverse}
use Rattle.dns_text.specs.declared.record.Record.{Record}
use Rattle.local_zone.specs.declared.taken.Taken.{Taken}
use Rattle.local_zone.specs.InPlace.{paired}
use Rattle.local_zone.proofs.InPlaceLaws.{popped}
use Rattle.local_zone.proofs.in_place.pop_taken.Goals as goal
use Rattle.local_zone.proofs.in_place.pop_taken.Goals.{in-Some, in_default}

pub loop-gap-preserved : goal.loop-gap-preserved
loop-gap-preserved c =
    let gaps : List ℕ = c.args.gaps.now in
    let all : List Record = c.args.list.now.items in
    let stay = vec_len c.args.list.now - length gaps in
    let out : List Record = drop stay all in
    let i = c.loop-gap.gap-index in
    let here : i < length out = omega (arith, length-drop stay all, c.args.list.now.ok.0) in
    elim c.match-pop.branch [
      | in-Some w ↦
          let r : Record = w.in-Some.item in
          let t : Taken = record { gap = get_or gaps i 0; item = r } in
          let step = popped (take stay all) out i c.loop-gap.list.items c.pop.new.self.items r here c.loop-gap.invariant.list w.in-Some.ensures.items in
          let next : drop i gaps ≡ get_or gaps i 0 ∷ drop (i + 1) gaps = drop_more gaps i 0 (omega arith) in
          let pushed : c.match-pop.taken.items ≡ c.loop-gap.taken.items ++ t ∷ [] = ap (λ v. v.items) w.taken-is ∙ w.push_reserved.ensures.items in
          record {
            list = step.0;
            taken =
                ap (λ (x : List Taken). x ++ paired (drop (i + 1) gaps) (drop (i + 1) out)) pushed
                ∙ append_assoc c.loop-gap.taken.items (t ∷ []) (paired (drop (i + 1) gaps) (drop (i + 1) out))
                ∙ (λ j. c.loop-gap.taken.items ++ paired (sym next j) (sym step.1 j))
                ∙ c.loop-gap.invariant.taken;
            room = omega (arith, ap (λ v. vec_len v) w.taken-is, w.push_reserved.ensures.len, c.loop-gap.invariant.room);
            capacity = ap (λ v. vec_capacity v) w.taken-is ∙ w.push_reserved.ensures.capacity ∙ c.loop-gap.invariant.capacity;
          }
      | in_default w ↦
          absurd (omega (arith, w.in_default.ensures.cases.0, c.loop-gap.list.ok.0, ap length c.loop-gap.invariant.list, length-append (take stay all) (reverse (drop i out)), length-reverse (drop i out), length-drop i out, here))
    ]
