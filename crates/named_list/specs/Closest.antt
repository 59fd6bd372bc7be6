-- The thing that is closest to a name: the one with the longest name at or above it.
use Rattle.std.specs.Prelude.{◌≡◌, ℕ, List, Option, if◌then◌else◌}
use Rattle.std.specs.Borrow.{Bor}
use Rattle.std.specs.List.{find, Contains}
use Rattle.std.specs.Option.{option_map}
use Rattle.dns_name.specs.Labels.{Labels, IsAtOrBelow, octets_of}
use Rattle.dns_name.specs.Order.{name_eq}
use Rattle.dns_name.specs.Closest.{closest_with}

-- the thing of this very name
abbrev pub find_named : {T : Type 0} → (T → Labels) → List T → Labels → Option T
find_named named things name = find (λ x. name_eq (named x) name) things

-- the thing of this very name, else the one that is closest to its parent
abbrev pub closest_of : {T : Type 0} → (T → Labels) → List T → Labels → Option T
closest_of named things name = closest_with (find_named named things) name

-- what has a name, if another thing, or none, has one name
abbrev pub found_over : {T : Type 0} → (T → Labels) → List T → Labels → Option T → Labels → Option T
found_over named things other instead name = if name_eq name other then instead else find_named named things name

-- the thing that was found, if one was
abbrev pub found_now : {T : Type 0} → Option (Bor T) → Option T
found_now found = option_map (λ x. x.now) found

-- The octets of a name find what has it, if another thing, or none, has one name.
abbrev pub FindsOver : {T : Type 0} → (T → Labels) → List T → Labels → Option (Bor T) → List ℕ → Option (Bor T) → Type 0
FindsOver named things other instead octets found =
    (name : Labels) → octets ≡ octets_of name → found_now found ≡ found_over named things other (found_now instead) name

-- A thing of the list is at or above the name, and at or below each other one that is.
pub record IsClosestOf {T : Type 0} (named : T → Labels) (things : List T) (name : Labels) (thing : T) : Type 0 where
  pub there : Contains things thing
  pub above : IsAtOrBelow name (named thing)
  pub longest : (other : T) → Contains things other → IsAtOrBelow name (named other) → IsAtOrBelow (named thing) (named other)
