use Rattle.std.proofs.Common.{◌++◌, ◌∷◌, [], ◌∙◌, Bool, List, false, refl, ap}
use Rattle.shelf.proofs.EvenLaws.{by_more, by_touched}
use Rattle.shelf.proofs.ends.touch.Goals as goal

pub returns-in-Some-clause-ok : goal.returns-in-Some-clause-ok
returns-in-Some-clause-ok c =
    by_touched c.args.ends.now (record { moments = c.set.new.self; mixed = c.args.ends.now.mixed; left = c.args.ends.now.left; lasts = c.args.ends.now.lasts }) c.requires.flags (refl, refl) refl c.in-Some.place c.args.place c.in-Some.is c.set.ensures refl

pub returns-in_ok-push-in-None-clause-ok : goal.returns-in_ok-push-in-None-clause-ok
returns-in_ok-push-in-None-clause-ok c =
    by_more c.args.ends.now (record { moments = c.push.new.self; mixed = c.push_reserved.new.self; left = c.args.ends.now.left; lasts = c.reserve-in-None.new.self }) c.requires.flags c.reserve-in-None.ensures.same refl c.args.place c.in-None.is c.in_ok-push-in-None.ensures.ok
    (c.push_reserved.ensures.items ∙ ap (λ (l : List Bool). l ++ false ∷ []) c.reserve.ensures.items)
