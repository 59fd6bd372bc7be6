use Rattle.std.proofs.Common.{sym, subst, ap, ◌∙◌, length}
use Rattle.std.specs.Map.{values_of}
use Rattle.named_list.specs.Named.{AreNamed}
use Rattle.named_list.specs.NamedLaws.{names_with}
use Rattle.dns_name.specs.Labels.{Labels, octets_of}
use Rattle.named_list.specs.Keyed.{AreAsLong}
use Rattle.named_list.proofs.LongLaws.{long_less, long_with, min_first, min_second}
use Rattle.named_list.proofs.KeyedLaws.{either}
use Rattle.named_list.proofs.list.NamedList.put.Goals as goal

pub invariant_of-self : goal.invariant_of-self
invariant_of-self g c =
    let name_of = g.T.Named.named in
    let before = values_of c.self.inside.things.entries in
    let less = long_less name_of c.self.inside.least c.min-self-inside.result before (min_first c.self.inside.least _ c.min-self-inside.result c.min-self-inside.ensures) c.self.invariant.2 in
    let same = ap length c.octets.ensures.value ∙ ap (λ (n : Labels). length (octets_of n)) (c.name.ensures ∙ ap name_of c.get.ensures) in
    let low = min_second c.self.inside.least (length c.octets.result.now) c.min-self-inside.result (length (octets_of (name_of c.args.new))) c.min-self-inside.ensures same in (
      either c.put.result c.put.ensures.ok c.put.ensures.err
          (λ is. subst (λ things. AreNamed name_of things) (sym is) (names_with name_of c.args.new before c.self.invariant.0))
          (λ is. subst (λ things. AreNamed name_of things) (sym is) c.self.invariant.0),
      c.put.ensures.keyed,
      either c.put.result c.put.ensures.ok c.put.ensures.err
          (λ is. subst (λ things. AreAsLong name_of c.min-self-inside.result things) (sym is) (long_with name_of c.min-self-inside.result before c.args.new low less))
          (λ is. subst (λ things. AreAsLong name_of c.min-self-inside.result things) (sym is) less),
    )
