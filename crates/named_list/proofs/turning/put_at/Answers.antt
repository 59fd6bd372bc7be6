use Rattle.std.proofs.Common.{ℕ, List, ap, sym, ◌∙◌, arith, insert, true≢false}
use Rattle.std.specs.Prelude.{is_some}
use Rattle.std.specs.Map.{values_of}
use Rattle.std.proofs.lemmas.List.{length-map}
use Rattle.dns_name.specs.Labels.{octets_of, Labels}
use Rattle.named_list.proofs.KeyedLaws.{lookup-of, absent_before, inserted_at, values-insert, keyed-insert}
use Rattle.named_list.proofs.turning.put_at.Goals as goal

abbrev items : Labels → List ℕ
items k = octets_of k

pub shift_insert-requires-clause-below_len : goal.shift_insert-requires-clause-below_len
shift_insert-requires-clause-below_len g c there =
    let name_of = g.T.Named.named in
    let es = c.args.things.now.entries in
    let none = lookup-of items name_of es (name_of c.args.thing) (octets_of c.thing.inside.key) (c.thing.invariant ∙ ap (λ x. octets_of (name_of x)) c.thing.view_is) c.requires.keyed ∙ absent_before name_of (values_of es) c.args.place c.args.thing c.requires.sound in
    absurd (true≢false (sym there ∙ ap is_some none))

pub returns-in-Ok-clause-ok : goal.returns-in-Ok-clause-ok
returns-in-Ok-clause-ok g c =
    let name_of = g.T.Named.named in
    let es = c.args.things.now.entries in
    let none = lookup-of items name_of es (name_of c.args.thing) (octets_of c.thing.inside.key) (c.thing.invariant ∙ ap (λ x. octets_of (name_of x)) c.thing.view_is) c.requires.keyed ∙ absent_before name_of (values_of es) c.args.place c.args.thing c.requires.sound in
    let entries = c.in-Ok.ensures.entries ∙ inserted_at _ c.args.things.now c.thing.inside.key c.thing.inside.thing c.args.place none (omega (arith, c.requires.fits, length-map es (λ e. e.1))) in
    ap (λ x. values_of x) entries ∙ values-insert es c.args.place c.thing.inside.key c.thing.inside.thing ∙ ap (λ x. insert (values_of es) c.args.place x) c.thing.view_is

pub returns-in-Ok-clause-keyed : goal.returns-in-Ok-clause-keyed
returns-in-Ok-clause-keyed g c =
    let name_of = g.T.Named.named in
    let es = c.args.things.now.entries in
    let none = lookup-of items name_of es (name_of c.args.thing) (octets_of c.thing.inside.key) (c.thing.invariant ∙ ap (λ x. octets_of (name_of x)) c.thing.view_is) c.requires.keyed ∙ absent_before name_of (values_of es) c.args.place c.args.thing c.requires.sound in
    let entries = c.in-Ok.ensures.entries ∙ inserted_at _ c.args.things.now c.thing.inside.key c.thing.inside.thing c.args.place none (omega (arith, c.requires.fits, length-map es (λ e. e.1))) in
    rw entries (keyed-insert items name_of es c.args.place c.thing.inside.key c.thing.inside.thing c.requires.keyed c.thing.invariant)
