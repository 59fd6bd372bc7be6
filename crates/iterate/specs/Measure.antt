-- How much is left of a task: digits, the weightiest first. With each step one falls; those before it stay, and those after it may be any.
use Rattle.std.specs.Prelude.{ℕ, ◌+◌, ◌-◌, ◌*◌, ◌^◌, ◌<◌, ◌≡◌, List, [], ◌∷◌, length}
use Rattle.iterate.specs.declared.limits.TheConstants.{MOST_ALIASES, MOST_BEGUN, MOST_FINDS, MOST_SENDS}
use Rattle.iterate.specs.declared.path.Path.{Path}
use Rattle.iterate.specs.declared.phase.Attempt.{Attempt}
use Rattle.iterate.specs.declared.phase.Attempt.TheVariants as attempt
use Rattle.iterate.specs.declared.phase.Phase.{Phase}
use Rattle.iterate.specs.declared.phase.Phase.TheVariants.{Fresh, First, Aliasing, Looking, Following, Listing, Seeking, Sent, Admitting, Ended, Broken}
use Rattle.iterate.specs.declared.phase.Stage.{Stage}
use Rattle.iterate.specs.declared.phase.Stage.TheVariants.{Address, Alias, Servers}
use Rattle.iterate.specs.declared.search.Nested.{Nested}
use Rattle.iterate.specs.declared.search.Hunt.{Hunt}
use Rattle.iterate.specs.declared.search.Search.{Search}

-- above every digit
abbrev pub top : ℕ
top = 2 ^ 68

-- the number that digits make
abbrev pub weight : List ℕ → ℕ
weight [] = 0
weight (d ∷ ds) = d * (top + 1) ^ length ds + weight ds

-- One digit falls, and those before it stay.
pub data Falls : List ℕ → List ℕ → Type 0 where
  here : {x y : ℕ} {xs ys : List ℕ} → x < y → length xs ≡ length ys → Falls (x ∷ xs) (y ∷ ys)
  there : {x : ℕ} {xs ys : List ℕ} → Falls xs ys → Falls (x ∷ xs) (x ∷ ys)

-- of the servers without an address those that were not yet looked for
abbrev pub missing_left : Hunt → ℕ
missing_left hunt = length hunt.servers.missing - hunt.sought

-- the nested questions, and their servers without an address that were not yet looked for
abbrev pub frames_left : List Nested → ℕ
frames_left [] = 0
frames_left (frame ∷ frames) = missing_left frame.hunt + 1 + frames_left frames

-- how many servers without an address are left, and questions open
abbrev pub hunts_left : Search → ℕ
hunts_left search = missing_left search.base + frames_left search.frames.items

-- questions for addresses that may yet be begun, queries left, aliases left, what may yet come of what is open, servers left, and looks left
abbrev pub digits_of_path : Path → ℕ → ℕ → ℕ → ℕ → List ℕ
digits_of_path path sending coming hunts looks = (MOST_BEGUN - path.begun) ∷ (MOST_SENDS - (path.sent + sending)) ∷ (MOST_ALIASES + 1 - length path.sets.items) ∷ coming ∷ hunts ∷ looks ∷ []

-- a search that is about to go on
abbrev pub digits_of_search : Search → ℕ → List ℕ
digits_of_search search looks = digits_of_path search.path 0 0 (hunts_left search) looks

-- a search for the address of a server
abbrev pub digits_of_seek : Search → Stage → List ℕ
digits_of_seek search Address = digits_of_search search 3
digits_of_seek search Alias = digits_of_path search.path 0 2 0 0
digits_of_seek search Servers = digits_of_path search.path 0 1 0 0

-- the attempts for a find, this one among them
abbrev pub attempts_of : Attempt → ℕ
attempts_of attempt.Admit = 6
attempts_of attempt.Sweep = 5
attempts_of attempt.Again = 4
attempts_of attempt.Oldest = 3
attempts_of attempt.Forget = 2
attempts_of attempt.Last = 1

-- the attempts for the find at this place, and those for the finds behind it that may be handed over
abbrev pub attempts_left : ℕ → Attempt → ℕ
attempts_left next tried = 6 * (MOST_FINDS - (next + 1)) + attempts_of tried

-- what is left in each phase, as digits
abbrev pub digits_in : Phase → List ℕ
digits_in Fresh = 66 ∷ 0 ∷ 0 ∷ 0 ∷ 0 ∷ 0 ∷ []
digits_in First = 65 ∷ 0 ∷ 0 ∷ 0 ∷ 0 ∷ 0 ∷ []
digits_in (Following path harvest) = digits_of_path path 0 0 top 4
digits_in (Looking path) = digits_of_path path 0 0 top 3
digits_in (Aliasing path) = digits_of_path path 0 0 top 2
digits_in (Listing path) = digits_of_path path 0 0 top 1
digits_in (Seeking search target stage) = digits_of_seek search.value stage
digits_in (Sent search server id over) = digits_of_path search.value.path 1 2 0 0
digits_in (Admitting handing tried) = digits_of_path handing.search.value.path 0 1 0 (attempts_left handing.next tried)
digits_in Ended = 0 ∷ 0 ∷ 0 ∷ 0 ∷ 0 ∷ 0 ∷ []
digits_in Broken = 0 ∷ 0 ∷ 0 ∷ 0 ∷ 0 ∷ 0 ∷ []

-- how much is left
abbrev pub left_in : Phase → ℕ
left_in phase = weight (digits_in phase)

-- how much is left where a path is about to be looked at
abbrev pub left_of_path : Path → ℕ → ℕ
left_of_path path looks = weight (digits_of_path path 0 0 top looks)

-- how much is left where a search is about to go on
abbrev pub left_of_search : Search → ℕ → ℕ
left_of_search search looks = weight (digits_of_search search looks)

-- how much is left where a server without an address is looked for
abbrev pub left_of_seek : Search → Stage → ℕ
left_of_seek search stage = weight (digits_of_seek search stage)

-- how much is left where a query of this path is out
abbrev pub left_of_sending : Path → ℕ
left_of_sending path = weight (digits_of_path path 1 2 0 0)

-- how much is left where a response is heard, for whose finds a book may be asked so often
abbrev pub left_of_hearing : Path → ℕ → ℕ
left_of_hearing path attempts = weight (digits_of_path path 0 1 0 attempts)

-- how much is left where the find at this place is being handed over
abbrev pub left_of_finds : Path → ℕ → Attempt → ℕ
left_of_finds path next tried = left_of_hearing path (attempts_left next tried)
