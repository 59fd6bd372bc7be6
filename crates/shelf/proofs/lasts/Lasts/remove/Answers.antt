use Rattle.std.proofs.Common.{◌≡◌, Some, sym, ◌∙◌}
use Rattle.std.specs.Prelude.{position}
use Rattle.std.specs.Map.{keys_of}
use Rattle.dns_name.specs.Order.{name_eq}
use Rattle.shelf.proofs.GapLaws.{removed_some}
use Rattle.shelf.proofs.lasts.Lasts.remove.Goals as goal

pub returns-in-Some-clause-winners : goal.returns-in-Some-clause-winners
returns-in-Some-clause-winners c = λ old name at entries is.
    let there : Some c.in-Some.place ≡ position (name_eq name) (keys_of old) = sym c.in-Some.is ∙ at in
    let gone = removed_some (name_eq name) old c.in-Some.place there in
    c.swap_remove.ensures.winners old gone.0 (entries ∙ gone.1) is
