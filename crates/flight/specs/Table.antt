-- The table of questions that wait, for contracts inside the crate.
use Rattle.std.specs.Prelude.{◌≡◌, ◌⊎◌, ◌<◌, ◌≤◌, ◌+◌, ℕ, Bool, Option, Some, None, List, cond, slice_index_or}
use Rattle.slab.specs.Slab.{HasRoomFor, Slab, Updates, slab_len}
use Rattle.flight.specs.declared.table.TheConstants.{LAST_BEGINNING}
use Rattle.flight.specs.Bounds.{kept_by}
use Rattle.flight.specs.Origin.{Origin}
use Rattle.flight.specs.Waiting.{UnderWay, count_for, is_for, since_in}

-- Each exchange began soon enough after its question.
abbrev pub AreInTime : List (Option UnderWay) → Type 0
AreInTime exchanges = (key : ℕ) (exchange : UnderWay) → slice_index_or exchanges key None ≡ Some exchange → exchange.since ≤ exchange.origin.began + LAST_BEGINNING

-- Each exchange is of a question that began less than so many milliseconds ago.
abbrev pub AreTimely : ℕ → ℕ → List (Option UnderWay) → Type 0
AreTimely most now exchanges = (key : ℕ) (exchange : UnderWay) → slice_index_or exchanges key None ≡ Some exchange → now < exchange.origin.began + most

-- So many milliseconds are left until the time of the first exchange is up, or none.
abbrev pub HaveLeft : ℕ → ℕ → List (Option UnderWay) → ℕ → Type 0
HaveLeft patience now exchanges left = (left ≡ 0) ⊎ ((key since : ℕ) → since_in exchanges key ≡ Some since → now + left ≤ since + patience)

-- One exchange more: it adds one to the questions that pass a test, if its own does.
abbrev pub CountsOneMore : Slab UnderWay → Slab UnderWay → UnderWay → Type 0
CountsOneMore old new exchange = (test : Origin → Bool) → count_for test new.slots ≡ count_for test old.slots + cond (is_for test (Some exchange)) 1 0

-- One question more waits, under this key, for this exchange.
pub record OneMore (old new : Slab UnderWay) (key : ℕ) (exchange : UnderWay) : Type 0 where
  pub updates : Updates old new key (Some exchange)
  pub len : slab_len new ≡ slab_len old + 1
  pub counts : CountsOneMore old new exchange
  pub kept : kept_by new.slots ≡ kept_by old.slots + exchange.kept

-- One question less waits. Its key is the next that a question gets, and there is room for one.
pub record FreesKey (old new : Slab UnderWay) (key : ℕ) (exchange : UnderWay) : Type 0 where
  pub len : slab_len new + 1 ≡ slab_len old
  pub room : HasRoomFor new 1
  pub key_is_next : new.vacant_key ≡ key
  pub counts : CountsOneMore new old exchange
  pub kept : kept_by old.slots ≡ kept_by new.slots + exchange.kept
