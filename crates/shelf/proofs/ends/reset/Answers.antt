use Rattle.std.proofs.Common.{◌≡◌, ◌∙◌, None, length, refl, sym, arith}
use Rattle.std.proofs.lemmas.Grind.{common_steps}
use Rattle.std.proofs.lemmas.Map.Entries.{length-keys_of}
use Rattle.std.specs.Map.{keys_of}
use Rattle.cell_store.specs.Store.{name_place}
use Rattle.shelf.proofs.EvenLaws.{by_none, by_zero}
use Rattle.shelf.proofs.ends.reset.Goals as goal

pub returns-in-Some : goal.returns-in-Some
returns-in-Some c =
    let entries = c.args.owners.now.entries in
    let p = name_place c.args.owner.now entries in
    let n = length (keys_of entries) in
    let size : length c.args.ends.now.moments ≡ n = c.requires.size ∙ sym (length-keys_of entries) in
    by_zero c.args.ends.now (record { moments = c.set.new.self; mixed = c.args.ends.now.mixed; left = c.args.ends.now.left; lasts = c.args.ends.now.lasts }) p n size c.requires.flags (refl, refl) refl c.in-Some.place c.in-Some.ensures.index c.set.ensures refl

pub returns-in_default : goal.returns-in_default
returns-in_default c =
    let entries = c.args.owners.now.entries in
    let p = name_place c.args.owner.now entries in
    let n = length (keys_of entries) in
    let size : length c.args.ends.now.moments ≡ n = c.requires.size ∙ sym (length-keys_of entries) in
    let none : None ≡ c.get_index_of.result = grind (arith, common_steps) in
    by_none c.args.ends.now c.args.ends.now p n size c.requires.flags (refl, refl) refl (none ∙ c.get_index_of.ensures.index) refl refl
