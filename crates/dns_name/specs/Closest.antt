-- The closest enclosing entry: what a name has itself, or what its nearest ancestor has.
use Rattle.std.specs.Prelude.{[], ◌∷◌, Option}
use Rattle.std.specs.Option.{option_or}
use Rattle.dns_name.specs.Labels.{Labels}

-- What this name has, or if it has nothing, what its nearest ancestor has. The root is the last to be asked.
abbrev pub closest_with : {A : Type 0} → (Labels → Option A) → Labels → Option A
closest_with has [] = has []
closest_with has (label ∷ labels) = option_or (has (label ∷ labels)) (closest_with has labels)
