-- The finds of a harvest that are handed to a cache: none that takes much memory, and few of one message.
use Rattle.std.specs.Prelude.{◌≡◌, ◌≤◌, ℕ, ◌-◌, ◌*◌, Bool, ◌||◌, List, [], ◌∷◌, length, take, filter, nat_le, nat_lt, if◌then◌else◌}
use Rattle.std.specs.List.{Contains, filter_map, flat_map, sum_by}
use Rattle.dns_name.specs.Labels.{Labels}
use Rattle.dns_name.specs.Order.{name_eq}
use Rattle.dns_text.specs.declared.record.Question.{Question}
use Rattle.dns_text.specs.declared.types.TheConstants.{NS}
use Rattle.dns_wire.specs.declared.message.Message.{Message}
use Rattle.ranked.specs.Body.{data_of}
use Rattle.ranked.specs.Find.{has_kind}
use Rattle.ranked.specs.Memory.{body_memory}
use Rattle.ranked.specs.Rank.{level_of}
use Rattle.ranked.specs.Set.{is_among, IsInOrder}
use Rattle.neg_rule.specs.Alias.{target_of}
use Rattle.neg_rule.specs.Negative.{Said}
use Rattle.harvest.specs.Harvest.{finds_in}
use Rattle.harvest.specs.declared.choosing.TheConstants.{MOST_CHOSEN, MOST_MEMORY, MOST_SERVERS}

-- whether the data of a find take no more memory than those of a cached one may
abbrev pub is_small : Said → Bool
is_small said = nat_le (body_memory said.body) MOST_MEMORY

-- the servers that a find names: the targets of an NS set (RFC 1035, section 3.3.11)
abbrev pub servers_of : Said → List Labels
servers_of said = if has_kind said.scope NS then filter_map target_of (data_of said.body) else []

-- the servers that finds name, the first ones
abbrev pub servers_in : List Said → List Labels
servers_in finds = take MOST_SERVERS (flat_map servers_of finds)

-- whether a find comes first: it is more than additional data, names servers, or is of one of their names (glue)
abbrev pub is_first : List Labels → Said → Bool
is_first servers said = nat_lt 1 (level_of said.rank) || (has_kind said.scope NS || is_among name_eq servers said.owner)

-- the list with so many of the elements at which the test gives false, the first ones
abbrev pub with_few : {X : Type 0} → (X → Bool) → ℕ → List X → List X
with_few first places [] = []
with_few first places (x ∷ xs) =
    if first x then x ∷ with_few first places xs else if nat_lt 0 places then x ∷ with_few first (places - 1) xs else with_few first places xs

-- those of a list that are chosen, in its order: the elements that come first, and others in the places that these leave
abbrev pub chosen_by : {X : Type 0} → (X → Bool) → List X → List X
chosen_by first xs = take MOST_CHOSEN (with_few first (MOST_CHOSEN - length (filter first xs)) xs)

-- the finds that are handed to a cache: those that are small, and of them at most 64
abbrev pub chosen_of : List Said → List Said
chosen_of finds = chosen_by (is_first (servers_in finds)) (filter is_small finds)

-- the finds of a message from a zone that was asked a question that are handed to a cache
abbrev pub chosen_in : Message → Question → Labels → List Said
chosen_in message question zone = chosen_of (finds_in message question zone)

-- The chosen finds are among the finds, in the same order.
abbrev pub ChosenInOrder : Type 0
ChosenInOrder = (finds : List Said) → IsInOrder (chosen_of finds) finds

-- The chosen finds are few.
abbrev pub ChosenAreFew : Type 0
ChosenAreFew = (finds : List Said) → length (chosen_of finds) ≤ MOST_CHOSEN

-- The data of each chosen find take little memory.
abbrev pub ChosenAreSmall : Type 0
ChosenAreSmall = (finds : List Said) (said : Said) → Contains (chosen_of finds) said → body_memory said.body ≤ MOST_MEMORY

-- So do the data of all of them.
abbrev pub ChosenTakeLittle : Type 0
ChosenTakeLittle = (finds : List Said) → sum_by (λ said. body_memory said.body) (chosen_of finds) ≤ MOST_CHOSEN * MOST_MEMORY

-- If the small finds are few, all of them are chosen.
abbrev pub FewAreChosen : Type 0
FewAreChosen = (finds : List Said) → length (filter is_small finds) ≤ MOST_CHOSEN → chosen_of finds ≡ filter is_small finds

-- If those that come first are few, all of them are chosen, whatever else the message has.
abbrev pub FirstAreChosen : Type 0
FirstAreChosen = (finds : List Said)
    → length (filter (is_first (servers_in finds)) (filter is_small finds)) ≤ MOST_CHOSEN
    → filter (is_first (servers_in finds)) (chosen_of finds) ≡ filter (is_first (servers_in finds)) (filter is_small finds)
