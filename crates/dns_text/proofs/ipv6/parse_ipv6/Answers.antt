use Rattle.std.proofs.Common.{ℕ, List, Some, ap, sym, ◌∙◌}
use Rattle.dns_text.specs.Ipv6.{address_of}
use Rattle.dns_text.proofs.Ipv6Head.{front_gap, no_head, head_and}
use Rattle.dns_text.proofs.ipv6.parse_ipv6.Goals as goal

pub returns-in-Some : goal.returns-in-Some
returns-in-Some c = c.address_of.ensures ∙ ap (λ (x : List ℕ). address_of x (Some c.in-Some.back.now)) c.new.ensures ∙ sym (front_gap c.args.text.now c.in-Some.back.now c.in-Some.ensures)

pub returns-in_err-head-in-None : goal.returns-in_err-head-in-None
returns-in_err-head-in-None c = c.from_residual.ensures ∙ no_head c.args.text.now c.in-None.ensures c.in_err-head-in-None.ensures

pub returns-in_ok-head-in-None : goal.returns-in_ok-head-in-None
returns-in_ok-head-in-None c = c.address_of-in-None.ensures ∙ head_and c.args.text.now _ _ c.in-None.ensures c.in_ok-head-in-None.ensures
