-- Things under the octets of their names.
use Rattle.std.specs.Prelude.{◌≡◌, ◌≤◌, ℕ, List, length}
use Rattle.std.specs.List.{AllByRecursion}
use Rattle.dns_name.specs.Labels.{Labels, octets_of}
use Rattle.named_list.specs.Named.{names_of}

-- Each thing is under the octets of its name.
abbrev pub AreKeyed : {K T : Type 0} → (T → Labels) → (K → List ℕ) → List (K × T) → Type 0
AreKeyed named octets entries = AllByRecursion (λ e. octets e.0 ≡ octets_of (named e.1)) entries

-- No thing has a name of fewer octets.
abbrev pub AreAsLong : {T : Type 0} → (T → Labels) → ℕ → List T → Type 0
AreAsLong named least things = AllByRecursion (λ name. least ≤ length (octets_of name)) (names_of named things)
