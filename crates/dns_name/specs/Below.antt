-- The test `is_at_or_below`: whether a name is a zone's own or below it.
use Rattle.std.specs.Prelude.{Bool, ◌||◌, [], ◌∷◌}
use Rattle.dns_name.specs.Labels.{Labels}
use Rattle.dns_name.specs.Order.{name_eq}

-- whether a name is the zone's own name or below it
abbrev pub is_at_or_below : Labels → Labels → Bool
is_at_or_below [] zone = name_eq [] zone
is_at_or_below (label ∷ labels) zone = name_eq (label ∷ labels) zone || is_at_or_below labels zone
