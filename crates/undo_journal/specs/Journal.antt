-- The journal: its changes, and how an undo, a redo and a new change alter them.
use Rattle.std.specs.Prelude.{◌≡◌, ℕ, ◌+◌, ◌-◌, ◌<◌, ◌≤◌, ◌==◌, ◌&&◌, ◌||◌, nat_lt, Bool, true, false, not, Option, Some, None, List, [], ◌∷◌, ◌++◌, length, map, filter, take, drop, slice_get, option_map, refl, if◌then◌else◌}
use Rattle.std.specs.List.{AllByRecursion, list_any}
use Rattle.std.specs.Coded.{Coded, code_by, coded×, coded_list, coded_ℕ}
use Rattle.change_law.specs.declared.kept.KeptChange.{KeptChange}
use Rattle.change_law.specs.declared.kept.Standing.{Standing}
use Rattle.change_law.specs.declared.kept.Standing.TheVariants.{Done, Undone}
use Rattle.change_law.specs.Choice.{IsChoice, IsClear, IsOneTable, IsUncovered, is_done, passed, turned}
use Rattle.change_law.specs.Row.{kept_as}
use Rattle.undo_journal.specs.declared.outcome.Outcome.{Outcome}
use Rattle.undo_journal.specs.declared.outcome.Outcome.TheVariants.{Moved, NotKept, Buried}
use Rattle.undo_journal.specs.declared.outcome.TicketReach.{TicketReach}
use Rattle.undo_journal.specs.declared.outcome.TicketReach.TheVariants as reach

-- the kept changes, the oldest first, the tickets of the undone ones, the one that was undone last at the end, the greatest ticket so far, and the most changes that are kept
pub record Changes (S : Type 0) : Type 0 where
  pub kept : List (KeptChange S)
  pub undone : List ℕ
  pub tickets : ℕ
  pub limit : ℕ

-- ---- tickets

-- the ticket of the change at a place, if there is one
abbrev pub ticket_at : {S : Type 0} → List (KeptChange S) → ℕ → Option ℕ
ticket_at kept place = option_map (λ k. k.ticket) (slice_get kept place)

-- whether a ticket is one of these
abbrev pub is_among : List ℕ → ℕ → Bool
is_among tickets ticket = list_any (λ t. t == ticket) tickets

-- these tickets, with one left out
abbrev pub without : ℕ → List ℕ → List ℕ
without ticket tickets = filter (λ t. not (t == ticket)) tickets

-- the first ticket
abbrev pub first_of : List ℕ → Option ℕ
first_of tickets = slice_get tickets 0

-- the last ticket
abbrev pub last_of : List ℕ → Option ℕ
last_of tickets = slice_get tickets (length tickets - 1)

-- whether a ticket comes before another in a list
abbrev pub is_before : List ℕ → ℕ → ℕ → Bool
is_before [] a b = false
is_before (t ∷ tickets) a b = (t == a && is_among tickets b) || is_before tickets a b

-- Each ticket is less than the later ones.
abbrev pub AreAscending : List ℕ → Type 0
AreAscending [] = Unit {0}
AreAscending (ticket ∷ tickets) = AllByRecursion (λ t. ticket < t) tickets × AreAscending tickets

-- No ticket is there twice.
abbrev pub AreDifferent : List ℕ → Type 0
AreDifferent [] = Unit {0}
AreDifferent (ticket ∷ tickets) = (is_among tickets ticket ≡ false) × AreDifferent tickets

-- the last items of a list, at most `n`
abbrev pub newest : {X : Type 0} → ℕ → List X → List X
newest n xs = drop (length xs - n) xs

-- ---- kept changes

-- the tickets of some changes
abbrev pub tickets_of : {S : Type 0} → List (KeptChange S) → List ℕ
tickets_of kept = map (λ k. k.ticket) kept

-- whether some changes are in effect, each with its ticket
abbrev pub standings_of : {S : Type 0} → List (KeptChange S) → List (ℕ × Standing)
standings_of kept = map (λ k. (k.ticket, k.standing)) kept

-- the same, when that of one ticket has changed
abbrev pub standings_with : ℕ → Standing → List (ℕ × Standing) → List (ℕ × Standing)
standings_with ticket standing standings = map (λ one. (one.0, if one.0 == ticket then standing else one.1)) standings

-- the descriptions of the kept changes, or their tables, each with its ticket
abbrev pub told_of : {S D : Type 0} → (S → D) → List (KeptChange S) → List (ℕ × D)
told_of told kept = map (λ k. (k.ticket, told k.saved)) kept

-- the changes in effect
abbrev pub in_effect : {S : Type 0} → List (KeptChange S) → List (KeptChange S)
in_effect kept = filter (λ k. is_done k.standing) kept

-- the changes that are not in effect
abbrev pub out_of_effect : {S : Type 0} → List (KeptChange S) → List (KeptChange S)
out_of_effect kept = filter (λ k. not (is_done k.standing)) kept

-- the tickets of the changes that can be undone, in order
abbrev pub done_of : {S : Type 0} → Changes S → List ℕ
done_of changes = tickets_of (in_effect changes.kept)

-- the standing of a kept change, by the tickets of the undone ones
abbrev pub standing_in : List ℕ → ℕ → Standing
standing_in undone ticket = if is_among undone ticket then Undone else Done

-- ---- tables

-- whether two changes have the same table
abbrev pub is_one_table : Option ℕ → Option ℕ → Bool
is_one_table (Some a) (Some b) = a == b
is_one_table _ _ = false

-- the table of the kept change of a ticket
abbrev pub table_at : {S : Type 0} → (S → Option ℕ) → List (KeptChange S) → ℕ → Option ℕ
table_at table [] ticket = None
table_at table (k ∷ kept) ticket = if k.ticket == ticket then table k.saved else table_at table kept ticket

-- ---- turns: an undo turns a change that is in effect, a redo one that is undone

-- whether a change stands as those that are turned from here
abbrev pub is_from : Standing → Standing → Bool
is_from Done standing = is_done standing
is_from _ standing = not (is_done standing)

-- the tickets of the changes that can be turned from here: those in effect in their order, the undone in the order of their undos
abbrev pub turnable : {S : Type 0} → Standing → Changes S → List ℕ
turnable Done changes = done_of changes
turnable _ changes = changes.undone

-- the tickets of the undone after a turn
abbrev pub undone_with : Standing → ℕ → List ℕ → List ℕ
undone_with Done ticket undone = undone ++ ticket ∷ []
undone_with _ ticket undone = without ticket undone

-- whether the turn of one ticket goes past another
abbrev pub is_passed : Standing → ℕ → ℕ → Bool
is_passed Done ticket other = nat_lt ticket other
is_passed _ ticket other = nat_lt other ticket

-- the farthest of the tickets in the way, by the farthest so far
abbrev pub farther : Standing → Option ℕ → ℕ → Option ℕ
farther Done found ticket = Some ticket
farther _ None ticket = Some ticket
farther _ (Some first) ticket = Some first

-- the farthest of the tickets in the way
abbrev pub farthest : Standing → List ℕ → Option ℕ
farthest Done tickets = last_of tickets
farthest _ tickets = first_of tickets

-- whether a change of this table is in the way of the turn of a ticket
abbrev pub lies_in_way : {S : Type 0} → (S → Option ℕ) → Standing → ℕ → Option ℕ → KeptChange S → Bool
lies_in_way table from ticket own k = is_from from k.standing && (is_passed from ticket k.ticket && is_one_table own (table k.saved))

-- the farthest ticket of its table in the way: that change must be turned first
abbrev pub in_way : {S : Type 0} → (S → Option ℕ) → Standing → List (KeptChange S) → ℕ → Option ℕ
in_way table from kept ticket = farthest from (tickets_of (filter (lies_in_way table from ticket (table_at table kept ticket)) kept))

-- ---- the journal

-- If a change is undone, no later one of its table is in effect.
abbrev pub IsClosed : {S : Type 0} → (S → Option ℕ) → List (KeptChange S) → Type 0
IsClosed table [] = Unit {0}
IsClosed table (k ∷ later) = (k.standing ≡ Undone → IsUncovered table k.saved later) × IsClosed table later

-- Of two undone changes of one table, the later one was undone first.
abbrev pub AreInTurn : {S : Type 0} → (S → Option ℕ) → List ℕ → List (KeptChange S) → Type 0
AreInTurn table undone [] = Unit {0}
AreInTurn table undone (k ∷ later) =
    AllByRecursion (λ other. IsOneTable (table k.saved) (table other.saved) → k.standing ≡ Undone → other.standing ≡ Undone → is_before undone other.ticket k.ticket ≡ true) later
    × AreInTurn table undone later

-- The kept changes are in the order of tickets, and no ticket is greater than the greatest so far. Each is in effect, or is undone and is once among the undone.
pub record AreChanges {S : Type 0} (table : S → Option ℕ) (changes : Changes S) : Type 0 where
  pub ascending : AreAscending (tickets_of changes.kept)
  pub given : AllByRecursion (λ k. k.ticket ≤ changes.tickets) changes.kept
  pub standings : AllByRecursion (λ k. k.standing ≡ standing_in changes.undone k.ticket) changes.kept
  pub known : AllByRecursion (λ t. is_among (tickets_of changes.kept) t ≡ true) changes.undone
  pub once : AreDifferent changes.undone
  pub closed : IsClosed table changes.kept
  pub in_turn : AreInTurn table changes.undone changes.kept
  pub few : length changes.kept ≤ changes.limit
  pub fits : length changes.undone ≤ length (out_of_effect changes.kept)
  pub room : 1 ≤ changes.limit

-- The change of a ticket is turned: it was in effect and is the one that was undone last, or it was undone and is in effect again, at its place.
pub record HasTurned {S : Type 0} (from : Standing) (before : Changes S) (ticket : ℕ) (after : Changes S) : Type 0 where
  pub reached : is_among (turnable from before) ticket ≡ true
  pub standings : standings_of after.kept ≡ standings_with ticket (turned from) (standings_of before.kept)
  pub undone : after.undone ≡ undone_with from ticket before.undone
  pub tickets : after.tickets ≡ before.tickets
  pub limit : after.limit ≡ before.limit

-- The last change that can be turned is turned. If there was none, nothing changes.
abbrev pub IsTurn : {S : Type 0} → Standing → Changes S → Option ℕ → Changes S → Type 0
IsTurn from before None after = (turnable from before ≡ []) × (after ≡ before)
IsTurn from before (Some ticket) after = (last_of (turnable from before) ≡ Some ticket) × HasTurned from before ticket after

-- The last change in effect is undone. If there was none, nothing changes.
abbrev pub IsUndo : {S : Type 0} → Changes S → Option ℕ → Changes S → Type 0
IsUndo before ticket after = IsTurn Done before ticket after

-- The change that was undone last is in effect again. If there was none, nothing changes.
abbrev pub IsRedo : {S : Type 0} → Changes S → Option ℕ → Changes S → Type 0
IsRedo before ticket after = IsTurn Undone before ticket after

-- The change of a ticket is turned. If it does not stand so, or another one of its table is in the way, nothing changes.
abbrev pub IsTurnOf : {S : Type 0} → (S → Option ℕ) → Standing → Changes S → ℕ → Outcome → Changes S → Type 0
IsTurnOf table from before ticket Moved after = (in_way table from before.kept ticket ≡ None) × HasTurned from before ticket after
IsTurnOf table from before ticket NotKept after = (is_among (turnable from before) ticket ≡ false) × (after ≡ before)
IsTurnOf table from before ticket (Buried other) after =
    (is_among (turnable from before) ticket ≡ true) × (in_way table from before.kept ticket ≡ Some other) × (after ≡ before)

-- The change of a ticket is undone. If it is not in effect, or a later one of its table is, nothing changes.
abbrev pub IsUndoOf : {S : Type 0} → (S → Option ℕ) → Changes S → ℕ → Outcome → Changes S → Type 0
IsUndoOf table before ticket outcome after = IsTurnOf table Done before ticket outcome after

-- The change of a ticket is in effect again. If it is not undone, or an earlier one of its table is undone, nothing changes.
abbrev pub IsRedoOf : {S : Type 0} → (S → Option ℕ) → Changes S → ℕ → Outcome → Changes S → Type 0
IsRedoOf table before ticket outcome after = IsTurnOf table Undone before ticket outcome after

-- To undo or redo the change of a ticket needs no memory.
abbrev pub NeedsNone : {S : Type 0} → (S → Bool) → List (KeptChange S) → ℕ → Type 0
NeedsNone needs_memory kept ticket = AllByRecursion (λ k. k.ticket ≡ ticket → needs_memory k.saved ≡ false) kept

-- An accepted change takes the next ticket and is the last in effect. The journal keeps the newest that fit, and nothing can be redone.
pub record IsChange {S : Type 0} (before : Changes S) (ticket : ℕ) (after : Changes S) : Type 0 where
  pub next : ticket ≡ before.tickets + 1
  pub tickets : after.tickets ≡ ticket
  pub limit : after.limit ≡ before.limit
  pub done : done_of after ≡ newest before.limit (done_of before ++ ticket ∷ [])
  pub present : AllByRecursion (λ k. k.standing ≡ Done) after.kept
  pub undone : after.undone ≡ []

-- The new change has this description or table, and the others have theirs.
abbrev pub IsToldAfter : {S D : Type 0} → (S → D) → Changes S → ℕ → D → Changes S → Type 0
IsToldAfter told before ticket said after =
    told_of told after.kept ≡ newest before.limit (told_of told (in_effect before.kept) ++ (ticket, said) ∷ [])

-- Each choice of the changes kept now was a choice of those kept before.
abbrev pub AreChoicesBefore : {S : Type 0} → (S → Option ℕ) → ((ℕ → Bool) → Type 0) → Changes S → Changes S → Type 0
AreChoicesBefore table P before after = (chosen : ℕ → Bool) → P chosen → IsChoice table after.kept chosen → IsChoice table before.kept chosen

-- the changes that an accepted one settles: the undone ones, and the oldest if the journal is full
abbrev pub settled_by : {S : Type 0} → Changes S → List (KeptChange S)
settled_by before = take (length (in_effect before.kept) + 1 - before.limit) (in_effect before.kept) ++ out_of_effect before.kept

-- All changes are in effect. If the journal was full, the oldest is not kept any more.
pub record IsForgotten {S : Type 0} (before after : Changes S) : Type 0 where
  pub kept : after.kept ≡ drop (length before.kept + 1 - before.limit) before.kept
  pub undone : after.undone ≡ []
  pub room : length after.kept < after.limit
  pub tickets : after.tickets ≡ before.tickets
  pub limit : after.limit ≡ before.limit

-- ---- places

-- The kept change of a ticket is at this place.
pub record IsPlaceOf {S : Type 0} (table : S → Option ℕ) (kept : List (KeptChange S)) (ticket place : ℕ) : Type 0 where
  pub here : KeptChange S
  pub there : slice_get kept place ≡ Some here
  pub own : here.ticket ≡ ticket
  pub looked : table_at table kept ticket ≡ table here.saved

-- The change at this place stands so, and no other one of its table that its turn goes past does.
pub record CanBeTurned {S : Type 0} (table : S → Option ℕ) (from : Standing) (kept : List (KeptChange S)) (place : ℕ) : Type 0 where
  pub here : KeptChange S
  pub there : slice_get kept place ≡ Some here
  pub stands : here.standing ≡ from
  pub clear : IsClear table from here.saved (passed from (take place kept) (drop (place + 1) kept))

-- What a turn of a ticket would do. The change of the ticket is at the place, and can be turned.
abbrev pub IsReachFrom : {S : Type 0} → (S → Option ℕ) → Standing → Changes S → ℕ → TicketReach → Type 0
IsReachFrom table from changes ticket (reach.At place) =
    (is_among (turnable from changes) ticket ≡ true) × (in_way table from changes.kept ticket ≡ None) × IsPlaceOf table changes.kept ticket place × CanBeTurned table from changes.kept place
IsReachFrom table from changes ticket reach.NotKept = is_among (turnable from changes) ticket ≡ false
IsReachFrom table from changes ticket (reach.Buried other) = (is_among (turnable from changes) ticket ≡ true) × (in_way table from changes.kept ticket ≡ Some other)

-- What an undo of a ticket would do. The change of the ticket is at the place, is in effect, and no later one of its table is.
abbrev pub IsReach : {S : Type 0} → (S → Option ℕ) → Changes S → ℕ → TicketReach → Type 0
IsReach table changes ticket what = IsReachFrom table Done changes ticket what

-- At this place is the last change that can be turned.
abbrev pub IsNextTurn : {S : Type 0} → (S → Option ℕ) → Standing → Changes S → ℕ → Type 0
IsNextTurn table from changes place = CanBeTurned table from changes.kept place × (ticket_at changes.kept place ≡ last_of (turnable from changes))

-- At this place is the change that an undo takes back: the newest one in effect.
abbrev pub IsNextUndo : {S : Type 0} → (S → Option ℕ) → Changes S → ℕ → Type 0
IsNextUndo table changes place = IsNextTurn table Done changes place

-- At this place is the change that a redo puts back: the one that was undone last.
abbrev pub IsNextRedo : {S : Type 0} → (S → Option ℕ) → Changes S → ℕ → Type 0
IsNextRedo table changes place = IsNextTurn table Undone changes place

-- the journal with one more change, which is in effect
abbrev pub with_done : {S : Type 0} → ℕ → S → Changes S → Changes S
with_done ticket saved before = record {
  kept = before.kept ++ kept_as Done ticket saved ∷ [];
  undone = [];
  tickets = ticket;
  limit = before.limit;
}

-- the code of a journal's changes, as that of a tuple
abbrev pub changes_code : {S : Type 0} → Coded (KeptChange S) → Coded (Changes S)
changes_code {S} k =
    code_by (List (KeptChange S) × (List ℕ × (ℕ × ℕ))) (coded× (coded_list k) (coded× (coded_list coded_ℕ) (coded× coded_ℕ coded_ℕ)))
    (λ c. (c.kept, (c.undone, (c.tickets, c.limit))))
    (λ p. record { kept = p.0; undone = p.1.0; tickets = p.1.1.0; limit = p.1.1.1 })
    (λ _. refl)
