use Rattle.std.proofs.Common.{◌≢◌, sym, ◌∙◌, subst}
use Rattle.dns_text.specs.declared.record.Record.{Record}
use Rattle.ranked.specs.Body.{IsSoa}
use Rattle.neg_rule.specs.Negative.{denied_for}
use Rattle.neg_rule.proofs.NegativeLaws.{denied_is_soa}
use Rattle.neg_rule.proofs.negative.negative_of.Goals as goal

pub no_name-requires : goal.no_name-requires
no_name-requires c =
    let some : denied_for c.in-Some.soa.now ≢ 0 = λ none. c.if-ttl-eq0.false (c.denied_for-ttl.ensures ∙ none) in
    subst (λ (x : Record). IsSoa x) (sym c.in_ok-record.ensures) (denied_is_soa c.args.message.now c.args.question.now c.args.zone.now (c.in-Some.last.now, c.in-Some.soa.now) (sym c.in-Some.ensures) some)

pub no_data-requires : goal.no_data-requires
no_data-requires c =
    let some : denied_for c.in-Some.soa.now ≢ 0 = λ none. c.if-ttl-eq0.false (c.denied_for-ttl.ensures ∙ none) in
    subst (λ (x : Record). IsSoa x) (sym c.in_ok-record.ensures) (denied_is_soa c.args.message.now c.args.question.now c.args.zone.now (c.in-Some.last.now, c.in-Some.soa.now) (sym c.in-Some.ensures) some)
