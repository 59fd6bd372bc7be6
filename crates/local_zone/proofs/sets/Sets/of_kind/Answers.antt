use Rattle.std.proofs.Common.{◌≡◌, ◌<◌, ◌≤◌, ◌-◌, List, length, take, drop, ap, sym, subst, ◌∙◌, arith, length-drop}
use Rattle.std.specs.List.{AllWithin}
use Rattle.std.proofs.lemmas.List.{take_all}
use Rattle.dns_text.specs.declared.record.Record.{Record}
use Rattle.local_zone.specs.Index.{of_kind}
use Rattle.local_zone.proofs.OrderLaws.{run_of}
use Rattle.local_zone.proofs.sets.Sets.of_kind.Goals as goal

pub returns : goal.returns
returns c =
    let items : List Record = c.self.inside.records.items in
    let kind = c.args.kind in
    let first = c.count_lower-first.result in
    let n = c.count_up_to.result in
    let one : c.deref.result.now ≡ items = c.deref.ensures.value in
    let two : c.deref-2.result.now ≡ items = c.deref-2.ensures.value in
    let from : take (length c.deref-2.result.now - first) (drop first c.deref-2.result.now) ≡ drop first items =
    take_all (length c.deref-2.result.now - first) (drop first c.deref-2.result.now) (omega (arith, length-drop first c.deref-2.result.now)) ∙ ap (λ (l : List Record). drop first l) two in
    let within : first ≤ length items = subst (λ (l : List Record). first ≤ length l) one c.count_lower-first.ensures.within in
    let lower : AllWithin (λ r. r.kind < kind) items 0 first = subst (λ (l : List Record). AllWithin (λ r. r.kind < kind) l 0 first) one c.count_lower-first.ensures.lower in
    let others : AllWithin (λ r. kind ≤ r.kind) items first (length items) = subst (λ (l : List Record). AllWithin (λ r. kind ≤ r.kind) l first (length l)) one c.count_lower-first.ensures.others in
    let few : n ≤ length (drop first items) = subst (λ (l : List Record). n ≤ length l) from c.count_up_to.ensures.within in
    let up : AllWithin (λ r. r.kind ≤ kind) (drop first items) 0 n = subst (λ (l : List Record). AllWithin (λ r. r.kind ≤ kind) l 0 n) from c.count_up_to.ensures.up_to in
    let over : AllWithin (λ r. kind < r.kind) (drop first items) n (length (drop first items)) = subst (λ (l : List Record). AllWithin (λ r. kind < r.kind) l n (length l)) from c.count_up_to.ensures.others in
    ap (λ (l : List Record). take n l) from ∙ sym (run_of kind first n items within lower others few up over) ∙ ap (of_kind kind) c.self.view_is
