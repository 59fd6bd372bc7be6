use Rattle.std.proofs.Common.{◌≡◌, ℕ, List, ◌++◌, cond, Some, ap, ◌∙◌, nat_eq}
use Rattle.std.specs.Cmp.Lexicographic.{pointwise}
use Rattle.local_zone.specs.Index.{under}
use Rattle.local_zone.proofs.CountsBelowLaws.{changed}
use Rattle.local_zone.proofs.Keyed.{spelled}
use Rattle.local_zone.proofs.counts_below.start.Goals as goal

pub returns-clause-ok : goal.returns-clause-ok
returns-clause-ok c other =
    let es = c.args.counts.now.entries in
    let key : c.extend_from_slice.new.self.items ≡ c.args.octets.now = c.in_ok-extend_from_slice.ensures.items ∙ ap (λ (xs : List ℕ). xs ++ c.args.octets.now) c.new-key.ensures.items in
    let updates = c.in_ok-insert.ensures.updates in
    changed spelled c.extend_from_slice.new.self.items es c.insert.new.self.entries (Some c.args.count) updates.1 updates.3 other
    ∙ ap (λ (s : List ℕ). cond (pointwise nat_eq s other) (Some c.args.count) (under spelled other es)) key
