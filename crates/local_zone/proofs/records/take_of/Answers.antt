use Rattle.std.proofs.Common.{◌≡◌, List, [], ap, ◌∙◌}
use Rattle.std.proofs.lemmas.Bool.{false≢true}
use Rattle.dns_text.specs.declared.record.Record.{Record}
use Rattle.local_zone.specs.Gaps.{gaps_where}
use Rattle.local_zone.proofs.GapLaws.{within_of, apart_of, rest_of_test, no_gaps}
use Rattle.dns_name.specs.Order.{name_eq}
use Rattle.local_zone.proofs.TogetherLaws.{gaps_of_owner}
use Rattle.local_zone.proofs.records.take_of.Goals as goal

pub take_gaps-requires-clause-within : goal.take_gaps-requires-clause-within
take_gaps-requires-clause-within c =
    let are : c.as_slice-2.result.now ≡ gaps_where (λ r. name_eq r.owner c.args.owner.now) 0 c.args.records.now = c.as_slice-2.ensures.value ∙ c.in_ok-gaps.ensures.ok ∙ ap (λ (rs : List Record). gaps_where (λ r. name_eq r.owner c.args.owner.now) 0 rs) c.as_slice.ensures in
    within_of (λ o. name_eq o c.args.owner.now) c.args.records.now c.as_slice-2.result.now are

pub take_gaps-requires-clause-apart : goal.take_gaps-requires-clause-apart
take_gaps-requires-clause-apart c =
    let are : c.as_slice-2.result.now ≡ gaps_where (λ r. name_eq r.owner c.args.owner.now) 0 c.args.records.now = c.as_slice-2.ensures.value ∙ c.in_ok-gaps.ensures.ok ∙ ap (λ (rs : List Record). gaps_where (λ r. name_eq r.owner c.args.owner.now) 0 rs) c.as_slice.ensures in
    apart_of (λ o. name_eq o c.args.owner.now) c.args.records.now c.as_slice-2.result.now are

pub returns-clause-ok : goal.returns-clause-ok
returns-clause-ok c =
    let are : c.as_slice-2.result.now ≡ gaps_where (λ r. name_eq r.owner c.args.owner.now) 0 c.args.records.now = c.as_slice-2.ensures.value ∙ c.in_ok-gaps.ensures.ok ∙ ap (λ (rs : List Record). gaps_where (λ r. name_eq r.owner c.args.owner.now) 0 rs) c.as_slice.ensures in
    c.in_ok-turn.ensures.ok ∙ rest_of_test (λ o. name_eq o c.args.owner.now) c.args.records.now c.as_slice-2.result.now are

pub returns-in_err-turn-clause-free : goal.returns-in_err-turn-clause-free
returns-in_err-turn-clause-free c none =
    let are : c.as_slice-2.result.now ≡ [] = c.as_slice-2.ensures.value ∙ c.in_ok-gaps.ensures.ok ∙ ap (λ (rs : List Record). gaps_where (λ r. name_eq r.owner c.args.owner.now) 0 rs) c.as_slice.ensures ∙ no_gaps (λ r. name_eq r.owner c.args.owner.now) 0 c.args.records.now none in
    absurd (false≢true (c.in_err-turn.ensures.free are))

pub returns-clause-frees : goal.returns-clause-frees
returns-clause-frees c none =
    let are : c.as_slice-2.result.now ≡ [] = c.as_slice-2.ensures.value ∙ c.in_ok-gaps.ensures.ok ∙ ap (λ (rs : List Record). gaps_where (λ r. name_eq r.owner c.args.owner.now) 0 rs) c.as_slice.ensures ∙ no_gaps (λ r. name_eq r.owner c.args.owner.now) 0 c.args.records.now none in
    c.in_ok-turn.ensures.frees are

pub returns-clause-zoned : goal.returns-clause-zoned
returns-clause-zoned c h =
    let are : c.as_slice-2.result.now ≡ gaps_where (λ r. name_eq r.owner c.args.owner.now) 0 c.args.records.now = c.as_slice-2.ensures.value ∙ c.in_ok-gaps.ensures.ok ∙ ap (λ (rs : List Record). gaps_where (λ r. name_eq r.owner c.args.owner.now) 0 rs) c.as_slice.ensures in
    c.in_ok-turn.ensures.zoned (gaps_of_owner c.args.zones.now c.args.owner.now c.args.records.now c.as_slice-2.result.now are) h

pub returns-in_err-turn-clause-zoned : goal.returns-in_err-turn-clause-zoned
returns-in_err-turn-clause-zoned c h =
    let are : c.as_slice-2.result.now ≡ gaps_where (λ r. name_eq r.owner c.args.owner.now) 0 c.args.records.now = c.as_slice-2.ensures.value ∙ c.in_ok-gaps.ensures.ok ∙ ap (λ (rs : List Record). gaps_where (λ r. name_eq r.owner c.args.owner.now) 0 rs) c.as_slice.ensures in
    c.in_err-turn.ensures.zoned (gaps_of_owner c.args.zones.now c.args.owner.now c.args.records.now c.as_slice-2.result.now are) h
