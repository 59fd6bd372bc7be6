use Rattle.std.proofs.lemmas.Bool.Decides.{Decides-eqb}
use Rattle.std.proofs.lemmas.Slice.Eq.{starts_is}
use Rattle.dns_name.proofs.name.begins.Goals as goal

pub returns-then-may_begin-clause-yes : goal.returns-then-may_begin-clause-yes
returns-then-may_begin-clause-yes c = (starts_is Decides-eqb c.args.octets.now c.args.front.now c.starts_with.result c.starts_with.ensures.value).0

pub returns-then-may_begin-clause-no : goal.returns-then-may_begin-clause-no
returns-then-may_begin-clause-no c = (starts_is Decides-eqb c.args.octets.now c.args.front.now c.starts_with.result c.starts_with.ensures.value).1
