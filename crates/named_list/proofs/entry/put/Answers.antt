use Rattle.std.proofs.Common.{◌≡◌, ℕ, List, [], ◌∷◌, ◌++◌, length, ap, sym, ◌∙◌, arith, length-append}
use Rattle.std.specs.Prelude.{is_some}
use Rattle.std.specs.Map.{values_of}
use Rattle.std.proofs.lemmas.Bool.{false≢true}
use Rattle.std.proofs.lemmas.List.{length-map}
use Rattle.dns_name.specs.Labels.{octets_of, Labels}
use Rattle.named_list.specs.ClosestLaws.{has_named-found, name_of_find}
use Rattle.indexmap.proofs.CallerLemmas.{insert_entry-new}
use Rattle.named_list.proofs.KeyedLaws.{lookup-of, none_from, keyed-set, keyed-push, put-over, put-within, put-back, put-names, push-with, values-push, remove-last}
use Rattle.named_list.proofs.entry.put.Goals as goal

abbrev items : Labels → List ℕ
items k = octets_of k

pub returns-in-Some-clause-ok : goal.returns-in-Some-clause-ok
returns-in-Some-clause-ok g c =
    let name_of = g.T.Named.named in
    let es = c.args.things.now.entries in
    let old = c.index_mut.result.now in
    let spelled = ap octets_of (c.name.ensures ∙ ap name_of c.get.ensures) in
    let found = sym (lookup-of items name_of es (name_of c.args.new) (octets_of c.name.result.now) spelled c.requires.keyed) ∙ sym c.in-Some.ensures.value ∙ c.index_mut.ensures.value in
    rw c.replace-thing.ensures.after (put-over name_of es c.in-Some.place old c.args.new c.index_mut.ensures.value found c.requires.sound)

pub returns-in-Some-clause-keyed : goal.returns-in-Some-clause-keyed
returns-in-Some-clause-keyed g c =
    let name_of = g.T.Named.named in
    let es = c.args.things.now.entries in
    let old = c.index_mut.result.now in
    let spelled = ap octets_of (c.name.ensures ∙ ap name_of c.get.ensures) in
    let found = sym (lookup-of items name_of es (name_of c.args.new) (octets_of c.name.result.now) spelled c.requires.keyed) ∙ sym c.in-Some.ensures.value ∙ c.index_mut.ensures.value in
    rw c.replace-thing.ensures.after (keyed-set items name_of es c.in-Some.place c.args.new old c.requires.keyed c.index_mut.ensures.value (sym (name_of_find name_of (values_of es) (name_of c.args.new) old found)))

pub returns-in-Some-clause-saved : goal.returns-in-Some-clause-saved
returns-in-Some-clause-saved g c =
    let name_of = g.T.Named.named in
    let es = c.args.things.now.entries in
    let old = c.index_mut.result.now in
    let at = c.index_mut.ensures.value in
    let spelled = ap octets_of (c.name.ensures ∙ ap name_of c.get.ensures) in
    let found = sym (lookup-of items name_of es (name_of c.args.new) (octets_of c.name.result.now) spelled c.requires.keyed) ∙ sym c.in-Some.ensures.value ∙ at in
    let same = name_of_find name_of (values_of es) (name_of c.args.new) old found in
    rw (c.replace-thing.ensures.after, c.replace-thing.ensures.value)
    ((put-within es c.in-Some.place old c.args.new at, put-names name_of es c.in-Some.place old c.args.new at (sym same)), put-back es c.in-Some.place old c.args.new at)

pub returns-clause-ok : goal.returns-clause-ok
returns-clause-ok g c =
    let name_of = g.T.Named.named in
    let es = c.args.things.now.entries in
    let spelled = ap octets_of (c.name.ensures ∙ ap name_of c.get.ensures) in
    let key_is = ap octets_of (c.in_ok-key.ensures ∙ c.name-2.ensures ∙ ap name_of c.get-2.ensures) in
    let found = lookup-of items name_of es (name_of c.args.new) (octets_of c.name.result.now) spelled c.requires.keyed in
    let absent = none_from _ (ap is_some (sym found) ∙ sym c.get_index_of.ensures.found ∙ ap is_some c.in_default.is) in
    let entries = c.in_ok-insert.ensures.entries ∙ insert_entry-new _ c.args.things.now c.in_ok-key.key c.args.new (lookup-of items name_of es (name_of c.args.new) (octets_of c.in_ok-key.key) key_is c.requires.keyed ∙ absent) in
    ap (λ x. values_of x) entries ∙ values-push es c.in_ok-key.key c.args.new ∙ push-with name_of (values_of es) c.args.new absent

pub returns-clause-keyed : goal.returns-clause-keyed
returns-clause-keyed g c =
    let name_of = g.T.Named.named in
    let es = c.args.things.now.entries in
    let spelled = ap octets_of (c.name.ensures ∙ ap name_of c.get.ensures) in
    let key_is = ap octets_of (c.in_ok-key.ensures ∙ c.name-2.ensures ∙ ap name_of c.get-2.ensures) in
    let found = lookup-of items name_of es (name_of c.args.new) (octets_of c.name.result.now) spelled c.requires.keyed in
    let absent = none_from _ (ap is_some (sym found) ∙ sym c.get_index_of.ensures.found ∙ ap is_some c.in_default.is) in
    let entries = c.in_ok-insert.ensures.entries ∙ insert_entry-new _ c.args.things.now c.in_ok-key.key c.args.new (lookup-of items name_of es (name_of c.args.new) (octets_of c.in_ok-key.key) key_is c.requires.keyed ∙ absent) in
    rw entries (keyed-push items name_of es c.in_ok-key.key c.args.new c.requires.keyed key_is)

pub returns-clause-saved : goal.returns-clause-saved
returns-clause-saved g c =
    let name_of = g.T.Named.named in
    let es = c.args.things.now.entries in
    let spelled = ap octets_of (c.name.ensures ∙ ap name_of c.get.ensures) in
    let key_is = ap octets_of (c.in_ok-key.ensures ∙ c.name-2.ensures ∙ ap name_of c.get-2.ensures) in
    let found = lookup-of items name_of es (name_of c.args.new) (octets_of c.name.result.now) spelled c.requires.keyed in
    let absent = none_from _ (ap is_some (sym found) ∙ sym c.get_index_of.ensures.found ∙ ap is_some c.in_default.is) in
    let entries = c.in_ok-insert.ensures.entries ∙ insert_entry-new _ c.args.things.now c.in_ok-key.key c.args.new (lookup-of items name_of es (name_of c.args.new) (octets_of c.in_ok-key.key) key_is c.requires.keyed ∙ absent) in
    let is : values_of c.insert.new.self.entries ≡ values_of es ++ c.args.new ∷ [] = ap (λ x. values_of x) entries ∙ values-push es c.in_ok-key.key c.args.new in
    let place : c.len-place.result ≡ length (values_of es) = c.len-place.ensures.len ∙ sym (length-map es (λ e. e.1)) in
    rw (is, place) (omega (arith, length-append (values_of es) (c.args.new ∷ [])), remove-last (values_of es) c.args.new)

pub returns-in_err-key-clause-free : goal.returns-in_err-key-clause-free
returns-in_err-key-clause-free g c has =
    let name_of = g.T.Named.named in
    let es = c.args.things.now.entries in
    let spelled = ap octets_of (c.name.ensures ∙ ap name_of c.get.ensures) in
    let found = lookup-of items name_of es (name_of c.args.new) (octets_of c.name.result.now) spelled c.requires.keyed in
    let absent = none_from _ (ap is_some (sym found) ∙ sym c.get_index_of.ensures.found ∙ ap is_some c.in_default.is) in
    absurd (false≢true (sym (has_named-found name_of (values_of es) (name_of c.args.new) ∙ ap is_some absent) ∙ has))

pub returns-in_err-insert-clause-free : goal.returns-in_err-insert-clause-free
returns-in_err-insert-clause-free g c has =
    let name_of = g.T.Named.named in
    let es = c.args.things.now.entries in
    let spelled = ap octets_of (c.name.ensures ∙ ap name_of c.get.ensures) in
    let found = lookup-of items name_of es (name_of c.args.new) (octets_of c.name.result.now) spelled c.requires.keyed in
    let absent = none_from _ (ap is_some (sym found) ∙ sym c.get_index_of.ensures.found ∙ ap is_some c.in_default.is) in
    absurd (false≢true (sym (has_named-found name_of (values_of es) (name_of c.args.new) ∙ ap is_some absent) ∙ has))
