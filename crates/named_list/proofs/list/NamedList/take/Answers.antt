use Rattle.std.proofs.Common.{sym, subst}
use Rattle.std.specs.Map.{values_of}
use Rattle.named_list.specs.Named.{AreNamed}
use Rattle.named_list.specs.NamedLaws.{names_without}
use Rattle.named_list.specs.Keyed.{AreAsLong}
use Rattle.named_list.proofs.LongLaws.{long_without}
use Rattle.named_list.proofs.list.NamedList.take.Goals as goal

pub invariant_of-self : goal.invariant_of-self
invariant_of-self g c =
    let name_of = g.T.Named.named in (
      subst (λ things. AreNamed name_of things) (sym c.take.ensures.value) (names_without name_of c.args.name.now (values_of c.self.inside.things.entries) c.self.invariant.0),
      c.take.ensures.keyed,
      subst (λ things. AreAsLong name_of c.self.inside.least things) (sym c.take.ensures.value) (long_without name_of c.self.inside.least (values_of c.self.inside.things.entries) c.args.name.now c.self.invariant.2),
    )
