-- Names as octets (RFC 1035, sections 3.1 and 4.1.4). An owner that is the first question's name is a pointer to that name,
-- which is right after the header; every other name is whole.
use Rattle.std.specs.Prelude.{ℕ, List, [], ◌∷◌, ◌++◌, Option, Some, None, if◌then◌else◌}
use Rattle.dns_name.specs.Labels.{Labels, spelled}
use Rattle.dns_name.specs.Order.{name_eq}
use Rattle.dns_wire.specs.declared.limits.TheConstants.{POINTER_MARK, QUESTION_PLACE}

-- a whole name: its labels, each preceded by its length, and a zero octet
abbrev pub name_octets : Labels → List ℕ
name_octets labels = spelled labels ++ 0 ∷ []

-- an owner in a message whose first question, if there is one, has this name: the pointer is to offset 12
abbrev pub owner_octets : Option Labels → Labels → List ℕ
owner_octets None owner = name_octets owner
owner_octets (Some first) owner = if name_eq first owner then POINTER_MARK ∷ QUESTION_PLACE ∷ [] else name_octets owner
