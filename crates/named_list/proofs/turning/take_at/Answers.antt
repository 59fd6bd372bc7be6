use Rattle.std.proofs.Common.{ℕ, List, ap, sym, ◌∙◌}
use Rattle.std.specs.Map.{values_of}
use Rattle.dns_name.specs.Labels.{Labels, octets_of}
use Rattle.named_list.proofs.KeyedLaws.{keyed-remove, values-remove, taken-within, taken-back}
use Rattle.named_list.proofs.turning.take_at.Goals as goal

abbrev items : Labels → List ℕ
items k = octets_of k

pub returns-clause-list : goal.returns-clause-list
returns-clause-list g c = ap (λ x. values_of x) c.shift_remove_index.ensures.entries ∙ values-remove c.args.things.now.entries c.args.place

pub returns-clause-again : goal.returns-clause-again
returns-clause-again g c =
    let es = c.args.things.now.entries in
    let at = sym c.shift_remove_index.ensures.entry ∙ c.unwrap-key.ensures in
    rw c.shift_remove_index.ensures.entries
    (taken-within es c.args.place c.unwrap-key.result.0 c.unwrap-key.result.1 at, taken-back es c.args.place c.unwrap-key.result.0 c.unwrap-key.result.1 at)

pub returns-clause-keyed : goal.returns-clause-keyed
returns-clause-keyed g c = rw c.shift_remove_index.ensures.entries (keyed-remove items g.T.Named.named c.args.things.now.entries c.args.place c.requires.keyed)
