use Rattle.std.proofs.Common.{◌++◌, List, ℕ, ap, ◌∙◌, arith}
use Rattle.dns_text.specs.Kind.{type_in, type_text}
use Rattle.dns_text.proofs.KindLaws.{type_in-type_text}
use Rattle.dns_text.proofs.kind.write_type.Goals as goal

pub returns-clause-again : goal.returns-clause-again
returns-clause-again c = λ fit.
    ap type_in (c.in_ok-push_type.ensures ∙ ap (λ (x : List ℕ). x ++ type_text c.args.kind) c.new-out.ensures.items) ∙ type_in-type_text c.args.kind (omega arith) fit
