use Rattle.std.proofs.Common.{◌≡◌, true, sym, ◌∙◌}
use Rattle.dns_name.specs.Order.{name_eq, name_eq_exact, name_eq_itself}
use Rattle.iterate.proofs.lookup_reply.is_name.Goals as goal

pub returns : goal.returns
returns c = (
  λ told. name_eq_exact c.args.name.now c.args.other.now (sym c.eq.ensures ∙ told),
  λ same. let itself : name_eq c.args.name.now c.args.other.now ≡ true = rw same (name_eq_itself c.args.other.now) in c.eq.ensures ∙ itself,
)
