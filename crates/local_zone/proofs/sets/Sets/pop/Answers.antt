use Rattle.std.proofs.Common.{◌≡◌, ◌<◌, ◌≤◌, ◌-◌, List, length, sym, subst, ◌∙◌, arith}
use Rattle.std.specs.List.{AllWithin}
use Rattle.dns_text.specs.declared.record.Record.{Record}
use Rattle.local_zone.specs.Sets.{AreInOrder}
use Rattle.local_zone.proofs.HeldLaws.{same_left}
use Rattle.local_zone.proofs.OrderLaws.{all_lower, not_popped, popped, remove_in_order}
use Rattle.local_zone.proofs.sets.Sets.pop.Goals as goal
use Rattle.local_zone.proofs.sets.Sets.pop.Goals.{else-end-gt0-via-then-end-gt0+else-kind, else-end-gt0-via-else-end-gt0}

pub invariant_of-self : goal.invariant_of-self
invariant_of-self c =
    let items : List Record = c.self.inside.records.items in
    let e = c.count_up_to-end.result in
    let within : e ≤ length items = subst (λ (l : List Record). e ≤ length l) c.deref.ensures.value c.count_up_to-end.ensures.within in
    subst AreInOrder (sym c.remove.ensures.items) (remove_in_order (λ r. r.kind) items (e - 1) (omega (arith, within, c.if-end-gt0.true)) c.self.invariant)

pub returns-then-kind : goal.returns-then-kind
returns-then-kind c front last same h =
    let items : List Record = c.self.inside.records.items in
    let kind = c.args.kind in
    let e = c.count_up_to-end.result in
    let one : c.deref.result.now ≡ items = c.deref.ensures.value in
    let within : e ≤ length items = subst (λ (l : List Record). e ≤ length l) one c.count_up_to-end.ensures.within in
    let over : AllWithin (λ r. kind < r.kind) items e (length items) = subst (λ (l : List Record). AllWithin (λ r. kind < r.kind) l e (length l)) one c.count_up_to-end.ensures.others in
    same_left c.remove.ensures.items (popped kind e items front c.index.result.now last c.if-end-gt0.true within c.index.ensures (sym c.kind.ensures ∙ c.if-kind.true) over same (same_left c.self.view_is h))

pub returns-else-end-gt0 : goal.returns-else-end-gt0
returns-else-end-gt0 c front last same h =
    let items : List Record = c.self.inside.records.items in
    let kind = c.args.kind in
    let e = c.count_up_to-end.result in
    let one : c.deref.result.now ≡ items = c.deref.ensures.value in
    let within : e ≤ length items = subst (λ (l : List Record). e ≤ length l) one c.count_up_to-end.ensures.within in
    let up : AllWithin (λ r. r.kind ≤ kind) items 0 e = subst (λ (l : List Record). AllWithin (λ r. r.kind ≤ kind) l 0 e) one c.count_up_to-end.ensures.up_to in
    let over : AllWithin (λ r. kind < r.kind) items e (length items) = subst (λ (l : List Record). AllWithin (λ r. kind < r.kind) l e (length l)) one c.count_up_to-end.ensures.others in
    let lower : AllWithin (λ r. r.kind < kind) items 0 e =
    elim c.else-end-gt0.branch [
      | else-end-gt0-via-then-end-gt0+else-kind w ↦
          all_lower kind e items w.index.result.now c.self.invariant w.if-end-gt0.true within w.index.ensures (λ is. w.if-kind.false (w.kind.ensures ∙ is)) up
      | else-end-gt0-via-else-end-gt0 w ↦ λ k d low high. absurd (omega (arith, high, w.if-end-gt0.false))
    ] in
    absurd (not_popped kind e items front last within lower over same (same_left c.self.view_is h))
