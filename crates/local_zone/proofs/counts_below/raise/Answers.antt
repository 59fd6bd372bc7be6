use Rattle.std.proofs.Common.{◌≡◌, ◌+◌, ◌<◌, ◌^◌, Some, ap, sym, subst, ◌∙◌, arith, is_some}
use Rattle.std.specs.Prelude.{unwrap_or}
use Rattle.std.specs.Option.{SomeIff}
use Rattle.local_zone.specs.Index.{under}
use Rattle.local_zone.proofs.CountsBelowLaws.{changed, on_err, raised, same_count, written_above}
use Rattle.local_zone.proofs.Keyed.{spelled}
use Rattle.local_zone.proofs.counts_below.raise.Goals as goal

pub returns-in_err-count-in-Some-clause-err : goal.returns-in_err-count-in-Some-clause-err
returns-in_err-count-in-Some-clause-err c =
    let es = c.args.counts.now.entries in
    let o = c.args.octets.now in
    let w = c.in-Some.count.now in
    let found : under spelled o es ≡ Some w = sym c.in-Some.ensures.value in
    let updates = (c.get_mut.follows.holds w).3 (ap is_some found) in
    on_err c.from_residual.result
    (same_count spelled o es (c.get_mut.follows.lender w).entries w (changed spelled o es (c.get_mut.follows.lender w).entries (Some w) updates.1 updates.3) (sym (ap (λ v. unwrap_or v 0) found)))

pub returns-in_err-count-in-Some-clause-above_zero :
    goal.returns-in_err-count-in-Some-clause-above_zero
returns-in_err-count-in-Some-clause-above_zero c h =
    let es = c.args.counts.now.entries in
    let o = c.args.octets.now in
    let w = c.in-Some.count.now in
    let found : under spelled o es ≡ Some w = sym c.in-Some.ensures.value in
    let updates = (c.get_mut.follows.holds w).3 (ap is_some found) in
    written_above spelled o es (c.get_mut.follows.lender w).entries w (changed spelled o es (c.get_mut.follows.lender w).entries (Some w) updates.1 updates.3) (h o w found) h

-- src/counts_below.rt:27:1
pub returns-in_ok-count-in-Some-clause-ok : goal.returns-in_ok-count-in-Some-clause-ok
returns-in_ok-count-in-Some-clause-ok c =
    let es = c.args.counts.now.entries in
    let o = c.args.octets.now in
    let w = c.in_ok-count-in-Some.field-0 in
    let found : under spelled o es ≡ Some c.in-Some.count.now = sym c.in-Some.ensures.value in
    let updates = (c.get_mut.follows.holds w).3 (ap is_some found) in
    let more : w ≡ c.in-Some.count.now + c.args.more = (subst (λ r. SomeIff r (c.in-Some.count.now + c.args.more < 2 ^ 64) (c.in-Some.count.now + c.args.more)) c.in_ok-count-in-Some.ensures.ok_part c.checked_add.ensures).1 in
    raised spelled o es (c.get_mut.follows.lender w).entries w (changed spelled o es (c.get_mut.follows.lender w).entries (Some w) updates.1 updates.3) c.args.more
    (more ∙ ap (λ n. n + c.args.more) (sym (ap (λ v. unwrap_or v 0) found)))

pub returns-in_ok-count-in-Some-clause-above_zero : goal.returns-in_ok-count-in-Some-clause-above_zero
returns-in_ok-count-in-Some-clause-above_zero c =
    let es = c.args.counts.now.entries in
    let o = c.args.octets.now in
    let w = c.in_ok-count-in-Some.field-0 in
    let found : under spelled o es ≡ Some c.in-Some.count.now = sym c.in-Some.ensures.value in
    let updates = (c.get_mut.follows.holds w).3 (ap is_some found) in
    let more : w ≡ c.in-Some.count.now + c.args.more = (subst (λ r. SomeIff r (c.in-Some.count.now + c.args.more < 2 ^ 64) (c.in-Some.count.now + c.args.more)) c.in_ok-count-in-Some.ensures.ok_part c.checked_add.ensures).1 in
    written_above spelled o es (c.get_mut.follows.lender w).entries w (changed spelled o es (c.get_mut.follows.lender w).entries (Some w) updates.1 updates.3) (omega (arith, more, c.requires))
