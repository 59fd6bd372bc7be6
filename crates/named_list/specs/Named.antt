-- Lists of named things, each found by its name. `named` gives the name of a thing.
use Rattle.std.specs.Prelude.{Bool, not, List, [], ◌∷◌, ◌++◌, map, filter, if◌then◌else◌}
use Rattle.std.specs.List.{IsDistinct, list_any}
use Rattle.dns_name.specs.Labels.{Labels}
use Rattle.dns_name.specs.Order.{name_eq}

-- the names of the things, in order
abbrev pub names_of : {T : Type 0} → (T → Labels) → List T → List Labels
names_of named things = map (λ x. named x) things

-- No two have the same name.
abbrev pub AreNamed : {T : Type 0} → (T → Labels) → List T → Type 0
AreNamed named things = IsDistinct name_eq (map (λ x. named x) things)

-- whether a thing has this name
abbrev pub has_named : {T : Type 0} → (T → Labels) → List T → Labels → Bool
has_named named things name = list_any (λ x. name_eq (named x) name) things

-- a thing in the place of the one of its name
abbrev pub put_over : {T : Type 0} → (T → Labels) → T → T → T
put_over named new x = if name_eq (named x) (named new) then new else x

-- The new thing takes the place of the thing of its name. If there is none, it goes last.
abbrev pub list_with : {T : Type 0} → (T → Labels) → T → List T → List T
list_with named new things = if has_named named things (named new) then map (put_over named new) things else things ++ new ∷ []

-- the list without the thing of this name
abbrev pub list_without : {T : Type 0} → (T → Labels) → Labels → List T → List T
list_without named name things = filter (λ x. not (name_eq (named x) name)) things
