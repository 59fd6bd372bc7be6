use Rattle.std.proofs.Common.{◌≡◌, Some, ap, sym, is_some}
use Rattle.local_zone.specs.Index.{under}
use Rattle.local_zone.proofs.CountsBelowLaws.{changed, left_above, others}
use Rattle.local_zone.proofs.Keyed.{spelled}
use Rattle.local_zone.proofs.counts_below.lower_count.Goals as goal

pub returns-in-Some-clause-others : goal.returns-in-Some-clause-others
returns-in-Some-clause-others c other e =
    let es = c.args.counts.now.entries in
    let o = c.args.octets.now in
    let w = c.saturating_sub.result in
    let found : under spelled o es ≡ Some c.in-Some.count.now = sym c.in-Some.ensures.value in
    let updates = (c.get_mut.follows.holds w).3 (ap is_some found) in
    others spelled o es (c.get_mut.follows.lender w).entries updates.3 other e

pub returns-in-Some-clause-above_zero : goal.returns-in-Some-clause-above_zero
returns-in-Some-clause-above_zero c left =
    let es = c.args.counts.now.entries in
    let o = c.args.octets.now in
    let w = c.saturating_sub.result in
    let found : under spelled o es ≡ Some c.in-Some.count.now = sym c.in-Some.ensures.value in
    let updates = (c.get_mut.follows.holds w).3 (ap is_some found) in
    left_above spelled o es (c.get_mut.follows.lender w).entries w (changed spelled o es (c.get_mut.follows.lender w).entries (Some w) updates.1 updates.3) left
