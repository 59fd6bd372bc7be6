use Rattle.std.proofs.Common.{sym, subst, length}
use Rattle.std.specs.Map.{values_of}
use Rattle.named_list.specs.Named.{AreNamed}
use Rattle.named_list.specs.Turn.{other_of}
use Rattle.dns_name.specs.Labels.{octets_of}
use Rattle.named_list.specs.Keyed.{AreAsLong}
use Rattle.named_list.proofs.LongLaws.{long_in, long_less, min_first, min_second}
use Rattle.named_list.proofs.KeyedLaws.{either}
use Rattle.named_list.proofs.list.NamedList.put_in.Goals as goal

pub invariant_of-self : goal.invariant_of-self
invariant_of-self g c =
    let name_of = g.T.Named.named in
    let before = values_of c.self.inside.things.entries in
    let less = long_less name_of c.self.inside.least c.min-self-inside.result before (min_first c.self.inside.least c.octets_in.result c.min-self-inside.result c.min-self-inside.ensures) c.self.invariant.2 in (
      either c.put_in.result c.put_in.ensures.ok c.put_in.ensures.err
          (λ is. subst (λ things. AreNamed name_of things) (sym is) (subst (λ things. AreNamed name_of (other_of c.args.turn.now things)) (sym c.self.view_is) c.requires.sound))
          (λ is. subst (λ things. AreNamed name_of things) (sym is.0) c.self.invariant.0),
      c.put_in.ensures.keyed,
      either c.put_in.result c.put_in.ensures.ok c.put_in.ensures.err
          (λ is. subst (λ things. AreAsLong name_of c.min-self-inside.result things) (sym is) (long_in name_of c.min-self-inside.result before c.args.turn.now c.requires.puts (λ place thing is. min_second c.self.inside.least c.octets_in.result c.min-self-inside.result (length (octets_of (name_of thing))) c.min-self-inside.ensures (c.octets_in.ensures place thing is)) less))
          (λ is. subst (λ things. AreAsLong name_of c.min-self-inside.result things) (sym is.0) less),
    )
