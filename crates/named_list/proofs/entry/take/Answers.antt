use Rattle.std.proofs.Common.{ℕ, List, ap, sym, ◌∙◌}
use Rattle.std.specs.Prelude.{is_some}
use Rattle.std.specs.Map.{values_of}
use Rattle.dns_name.specs.Labels.{Labels, octets_of}
use Rattle.named_list.specs.ClosestLaws.{name_of_find}
use Rattle.named_list.proofs.KeyedLaws.{lookup-named, none_from, without_absent, keyed-at, keyed-remove, values-remove, value-at, remove-without, taken-within, taken-back}
use Rattle.named_list.proofs.entry.take.Goals as goal

abbrev items : Labels → List ℕ
items k = octets_of k

pub returns-in_default-clause-value : goal.returns-in_default-clause-value
returns-in_default-clause-value g c =
    let name_of = g.T.Named.named in
    let es = c.args.things.now.entries in
    let found = lookup-named items name_of es c.args.name.now c.requires.keyed in
    let absent = none_from _ (ap is_some (sym found) ∙ sym c.get_index_of.ensures.found ∙ ap is_some c.in_default.is) in
    sym (without_absent name_of (values_of es) c.args.name.now absent)

pub invariant_of-result : goal.invariant_of-result
invariant_of-result g c =
    keyed-at items g.T.Named.named c.args.things.now.entries c.in-Some.place c.unwrap-key.result.0 c.unwrap-key.result.1 c.requires.keyed (sym c.shift_remove_index.ensures.entry ∙ c.unwrap-key.ensures)

pub returns-clause-value : goal.returns-clause-value
returns-clause-value g c =
    let name_of = g.T.Named.named in
    let es = c.args.things.now.entries in
    let at = value-at es c.in-Some.place c.unwrap-key.result.0 c.unwrap-key.result.1 (sym c.shift_remove_index.ensures.entry ∙ c.unwrap-key.ensures) in
    let found = lookup-named items name_of es c.args.name.now c.requires.keyed in
    let same = name_of_find name_of (values_of es) c.args.name.now c.unwrap-key.result.1 (sym found ∙ sym c.in-Some.ensures.value ∙ at) in
    ap (λ x. values_of x) c.shift_remove_index.ensures.entries ∙ values-remove es c.in-Some.place
    ∙ remove-without name_of (values_of es) c.in-Some.place c.unwrap-key.result.1 c.args.name.now at same c.requires.sound

pub returns-clause-keyed : goal.returns-clause-keyed
returns-clause-keyed g c = rw c.shift_remove_index.ensures.entries (keyed-remove items g.T.Named.named c.args.things.now.entries c.in-Some.place c.requires.keyed)

pub returns-clause-saved : goal.returns-clause-saved
returns-clause-saved g c =
    let es = c.args.things.now.entries in
    let at = sym c.shift_remove_index.ensures.entry ∙ c.unwrap-key.ensures in
    rw c.shift_remove_index.ensures.entries
    (taken-within es c.in-Some.place c.unwrap-key.result.0 c.unwrap-key.result.1 at, taken-back es c.in-Some.place c.unwrap-key.result.0 c.unwrap-key.result.1 at)
