-- The step of a list to the other side of a change, and back.
use Rattle.std.specs.Prelude.{◌≡◌, ◌<◌, ◌≤◌, ℕ, Bool, true, false, List, Option, Some, None, length, map, insert, remove, slice_set, ⊤}
use Rattle.dns_name.specs.Labels.{Labels}
use Rattle.named_list.specs.Named.{AreNamed}
use Rattle.named_list.specs.declared.turn.Turn.{Turn}
use Rattle.named_list.specs.declared.turn.Turn.TheVariants.{Nothing, Other, Without, With}

-- the list on the other side of a change
abbrev pub other_of : {T : Type 0} → Turn T → List T → List T
other_of Nothing things = things
other_of (Other place thing) things = slice_set things place thing
other_of (Without place) things = remove things place
other_of (With place thing) things = insert things place thing

-- The place is in the list, and another thing there has the same name.
abbrev pub HasPlace : {T : Type 0} → (T → Labels) → Turn T → List T → Type 0
HasPlace named Nothing things = ⊤
HasPlace named (Other place thing) things = (place < length things) × (map (λ x. named x) (slice_set things place thing) ≡ map (λ x. named x) things)
HasPlace named (Without place) things = place < length things
HasPlace named (With place thing) things = place ≤ length things

-- The list can go to the other side of the change, and no two things have the same name there.
abbrev pub LeadsOn : {T : Type 0} → (T → Labels) → Turn T → List T → Type 0
LeadsOn named turn things = HasPlace named turn things × AreNamed named (other_of turn things)

-- The way leads from the list that is left to the one before.
abbrev pub IsWayBack : {T : Type 0} → (T → Labels) → Turn T → List T → List T → Type 0
IsWayBack named turn left before = HasPlace named turn left × (other_of turn left ≡ before)

-- whether the step to the other side puts a thing in
abbrev pub puts_in : {T : Type 0} → Turn T → Bool
puts_in (With place thing) = true
puts_in _ = false

-- whether the step to the other side takes a thing out
abbrev pub takes_out : {T : Type 0} → Turn T → Bool
takes_out (Without place) = true
takes_out _ = false

-- the way back of a thing that is taken out
abbrev pub with_at : {T : Type 0} → ℕ → Option T → Turn T
with_at place None = Nothing
with_at place (Some thing) = With place thing

-- the name of the thing that the step to the other side puts in, if it puts one in
abbrev pub name_in : {T : Type 0} → (T → Labels) → Turn T → Option Labels
name_in named (With place thing) = Some (named thing)
name_in named _ = None

-- A step to the other side puts a thing in, and the way back takes it out.
abbrev pub TurnsRound : {T : Type 0} → Turn T → Turn T → Type 0
TurnsRound {T} turn back = (place : ℕ) × ((thing : T) × ((turn ≡ With place thing) × (back ≡ Without place)))
