use Rattle.std.proofs.Common.{ℕ, List, ap, sym, subst, ◌∙◌}
use Rattle.std.specs.Map.{values_of}
use Rattle.dns_name.specs.Labels.{Labels, octets_of}
use Rattle.named_list.specs.Turn.{other_of, HasPlace}
use Rattle.named_list.specs.declared.turn.Turn.{Turn}
use Rattle.named_list.specs.declared.turn.Turn.TheVariants.{Other}
use Rattle.named_list.proofs.KeyedLaws.{put-within, put-back, put-names, values-set, keyed-set, names_at}
use Rattle.named_list.proofs.turning.turn_out.Goals as goal

abbrev items : Labels → List ℕ
items k = octets_of k

pub returns-in-Other-clause-list : goal.returns-in-Other-clause-list
returns-in-Other-clause-list g c =
    let es = c.args.things.now.entries in
    rw c.replace-other.ensures.after (values-set es c.in-Other.place c.in-Other.thing ∙ ap (λ (turn : Turn _). other_of turn (values_of es)) c.in-Other.ensures.value)

pub returns-in-Other-clause-again : goal.returns-in-Other-clause-again
returns-in-Other-clause-again g c =
    let name_of = g.T.Named.named in
    let es = c.args.things.now.entries in
    let old = c.index_mut.result.now in
    let at = c.index_mut.ensures.value in
    let fits : HasPlace name_of (Other c.in-Other.place c.in-Other.thing) (values_of es) = subst (λ (turn : Turn _). HasPlace name_of turn (values_of es)) (sym c.in-Other.ensures.value) c.requires.fits in
    let same = names_at name_of (values_of es) c.in-Other.place old c.in-Other.thing at fits.1 in
    rw (c.replace-other.ensures.after, c.replace-other.ensures.value)
    ((put-within es c.in-Other.place old c.in-Other.thing at, put-names name_of es c.in-Other.place old c.in-Other.thing at same), put-back es c.in-Other.place old c.in-Other.thing at)

pub returns-in-Other-clause-keyed : goal.returns-in-Other-clause-keyed
returns-in-Other-clause-keyed g c =
    let name_of = g.T.Named.named in
    let es = c.args.things.now.entries in
    let old = c.index_mut.result.now in
    let fits : HasPlace name_of (Other c.in-Other.place c.in-Other.thing) (values_of es) = subst (λ (turn : Turn _). HasPlace name_of turn (values_of es)) (sym c.in-Other.ensures.value) c.requires.fits in
    let same = names_at name_of (values_of es) c.in-Other.place old c.in-Other.thing c.index_mut.ensures.value fits.1 in
    rw c.replace-other.ensures.after (keyed-set items name_of es c.in-Other.place c.in-Other.thing old c.requires.keyed c.index_mut.ensures.value same)
