use Rattle.std.proofs.Common.{ℕ, List, ap, sym, ◌∙◌}
use Rattle.std.specs.Prelude.{is_some}
use Rattle.std.specs.Map.{values_of}
use Rattle.dns_name.specs.Labels.{Labels, octets_of}
use Rattle.named_list.specs.ClosestLaws.{has_named-found}
use Rattle.named_list.proofs.KeyedLaws.{lookup-named}
use Rattle.named_list.proofs.entry.has.Goals as goal

abbrev items : Labels → List ℕ
items k = octets_of k

pub returns : goal.returns
returns g c =
    let name_of = g.T.Named.named in
    c.contains_key.ensures ∙ ap is_some (lookup-named items name_of c.args.things.now.entries c.args.name.now c.requires)
    ∙ sym (has_named-found name_of (values_of c.args.things.now.entries) c.args.name.now)
