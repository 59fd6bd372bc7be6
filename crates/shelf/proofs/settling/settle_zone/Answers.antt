use Rattle.std.proofs.Common.{List, [], ◌∷◌, ◌++◌, ap, ◌∙◌, arith}
use Rattle.shelf.specs.declared.settling.Settling.{Settling}
use Rattle.shelf.specs.Settling.{without_outdone}
use Rattle.shelf.proofs.SettlingLaws.{moved_zone}
use Rattle.shelf.proofs.settling.settle_zone.Goals as goal

pub returns-clause-moved : goal.returns-clause-moved
returns-clause-moved c = λ top older upto all.
    let own : Settling = record { zone = c.args.zone; number = c.args.number; left = c.len.result } in
    moved_zone top c.args.zone c.args.number c.len.result c.args.settlings.now.items c.push_reserved.new.self.items c.args.owners.now older upto all c.len.ensures.len
    (c.push_reserved.ensures.items ∙ ap (λ (l : List Settling). l ++ own ∷ []) c.drop_outdone.ensures.items)

pub returns-clause-room : goal.returns-clause-room
returns-clause-room c = (omega (arith, c.push_reserved.ensures.len, c.drop_outdone.ensures.room.0), c.push_reserved.ensures.capacity ∙ c.drop_outdone.ensures.room.1)

pub returns-clause-items : goal.returns-clause-items
returns-clause-items c =
    let own : Settling = record { zone = c.args.zone; number = c.args.number; left = c.len.result } in
    c.push_reserved.ensures.items
    ∙ (ap (λ (l : List Settling). l ++ own ∷ []) c.drop_outdone.ensures.items
    ∙ ap (λ n. without_outdone c.args.zone c.args.number c.args.settlings.now.items ++ record { zone = c.args.zone; number = c.args.number; left = n } ∷ []) c.len.ensures.len)
