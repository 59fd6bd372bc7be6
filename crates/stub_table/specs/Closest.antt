-- The stub that covers a name: the longest one at or above it.
use Rattle.std.specs.Prelude.{Option}
use Rattle.std.specs.List.{find, Contains}
use Rattle.dns_name.specs.Labels.{Labels, IsAtOrBelow}
use Rattle.dns_name.specs.Order.{name_eq}
use Rattle.dns_name.specs.Closest.{closest_with}
use Rattle.stub_table.specs.declared.stub.Stub.{Stub}
use Rattle.named_list.specs.Closest.{IsClosestOf}
use Rattle.stub_table.specs.Stubs.{Stubs}

-- the stub of this very name
abbrev pub stub_named : Stubs → Labels → Option Stub
stub_named stubs name = find (λ stub. name_eq stub.name name) stubs

-- the stub of this very name, else the one that is closest to its parent
abbrev pub closest_stub : Stubs → Labels → Option Stub
closest_stub stubs name = closest_with (stub_named stubs) name

-- A stub of the list is at or above the name, and at or below each other one that is.
abbrev pub IsClosest : Stubs → Labels → Stub → Type 0
IsClosest stubs name stub = IsClosestOf (λ s. s.name) stubs name stub

-- No stub of the list is at or above the name.
abbrev pub NoneCovers : Stubs → Labels → Type 0
NoneCovers stubs name = (stub : Stub) → Contains stubs stub → ¬ IsAtOrBelow name stub.name
