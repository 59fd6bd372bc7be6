use Rattle.std.proofs.Common.{◌≡◌, ℕ, ◌≤◌, List, length, sym, subst, insert}
use Rattle.std.specs.Map.{values_of}
use Rattle.dns_name.specs.Labels.{Labels}
use Rattle.named_list.specs.Turn.{HasPlace, IsWayBack}
use Rattle.named_list.specs.declared.turn.Turn.{Turn}
use Rattle.named_list.specs.declared.turn.Turn.TheVariants.{With, Without}
use Rattle.named_list.proofs.KeyedLaws.{on_ok, remove-back, length-insert}
use Rattle.named_list.proofs.turning.put_in.Goals as goal

back_again : {T : Type 0} (name_of : T → Labels) (things left : List T) (turn : Turn T) (place : ℕ) (thing : T) → place ≤ length things → left ≡ insert things place thing → turn ≡ Without place → IsWayBack name_of turn left things
back_again name_of things left turn place thing fits is way = rw (way, is) (length-insert things place thing fits, remove-back things place thing fits)

pub returns-in-With-clause-again : goal.returns-in-With-clause-again
returns-in-With-clause-again g c =
    let name_of = g.T.Named.named in
    let things = values_of c.args.things.now.entries in
    let fits : HasPlace name_of (With c.in-With.place c.in-With.thing) things = subst (λ (turn : Turn _). HasPlace name_of turn things) (sym c.in-With.ensures.value) c.requires.leads.0 in
    on_ok c.put_at.result c.put_at.ensures.ok c.put_at.ensures.again (λ ok again. back_again name_of things _ c.put_at.new.turn c.in-With.place c.in-With.thing fits ok again)
