use Rattle.std.proofs.Common.{sym, subst}
use Rattle.named_list.specs.Named.{AreNamed}
use Rattle.std.specs.Map.{values_of}
use Rattle.named_list.specs.Keyed.{AreAsLong}
use Rattle.named_list.specs.Turn.{other_of, HasPlace}
use Rattle.named_list.proofs.LongLaws.{long_out}
use Rattle.named_list.proofs.list.NamedList.turn_out.Goals as goal

pub invariant_of-self : goal.invariant_of-self
invariant_of-self g c =
    let name_of = g.T.Named.named in (
      subst (λ things. AreNamed name_of things) (sym c.turn_out.ensures.list)
          (subst (λ things. AreNamed name_of (other_of c.args.turn.now things)) (sym c.self.view_is) c.requires.sound),
      c.turn_out.ensures.keyed,
      subst (λ things. AreAsLong name_of c.self.inside.least things) (sym c.turn_out.ensures.list)
          (long_out name_of c.self.inside.least (values_of c.self.inside.things.entries) c.args.turn.now c.requires.puts (subst (λ things. HasPlace name_of c.args.turn.now things) (sym c.self.view_is) c.requires.fits) c.self.invariant.2),
    )
