use Rattle.std.proofs.Common.{◌≡◌, ◌<◌, ◌∷◌, [], get_or, length, sym, ap, ◌∙◌, arith}
use Rattle.cell_store.specs.declared.finds.Places.{Places}
use Rattle.cell_store.specs.Finds.{finds_in}
use Rattle.cell_store.proofs.finds.Places.get.Goals as goal

pub returns-in_default-slot-3 : goal.returns-in_default-slot-3
returns-in_default-slot-3 c =
    let five = c.in-Five in
    let low : c.args.slot < 5 = omega (arith, c.requires, ap (λ (p : Places). length (finds_in p)) five.is) in
    let at : c.args.slot ≡ 4 = omega (arith, low, c.in_default-slot-3) in
    sym (ap (λ (p : Places). get_or (finds_in p) c.args.slot five.e) five.is ∙ ap (λ k. get_or (five.a ∷ five.b ∷ five.c ∷ five.d ∷ five.e ∷ []) k five.e) at)

pub returns-in_default-slot-4 : goal.returns-in_default-slot-4
returns-in_default-slot-4 c =
    let six = c.in-Six in
    let low : c.args.slot < 6 = omega (arith, c.requires, ap (λ (p : Places). length (finds_in p)) six.is) in
    let at : c.args.slot ≡ 5 = omega (arith, low, c.in_default-slot-4) in
    sym (ap (λ (p : Places). get_or (finds_in p) c.args.slot six.f) six.is ∙ ap (λ k. get_or (six.a ∷ six.b ∷ six.c ∷ six.d ∷ six.e ∷ six.f ∷ []) k six.f) at)
