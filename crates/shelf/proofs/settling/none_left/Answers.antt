use Rattle.std.proofs.Common.{length, sym, ◌∙◌}
use Rattle.std.proofs.lemmas.Bool.{eqb-true}
use Rattle.shelf.proofs.SettlingLaws.{nil_of}
use Rattle.shelf.proofs.settling.none_left.Goals as goal

pub returns : goal.returns
returns c = λ yes. nil_of c.args.settlings.now (eqb-true (length c.args.settlings.now) 0 (sym c.is_empty.ensures ∙ yes))
