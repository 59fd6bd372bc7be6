use Rattle.std.proofs.Common.{sym, ap, ◌∙◌}
use Rattle.std.specs.Ordering.{is_le}
use Rattle.dns_name.specs.Order.{not_after_back}
use Rattle.shelf.proofs.lasts.is_not_after.Goals as goal

pub returns-clause-no : goal.returns-clause-no
returns-clause-no c = λ no. not_after_back c.args.name.now c.args.other.now (sym (ap is_le c.cmp.ensures) ∙ (sym c.is_le.ensures ∙ no))
