-- What a caller holds.
use Rattle.std.specs.Prelude.{◌≡◌, ℕ, ◌+◌, ◌/◌, ◌<◌, ◌≤◌, ◌^◌, max, List, map, sum}

-- a pass: its caller, the latest call that it knows of, and the calls made with it
pub record PassState : Type 0 where
  pub caller : ℕ
  pub seen : ℕ  -- the number of the latest call that it knows of
  pub made : ℕ  -- how many calls were made with it
  pub parts : ℕ  -- into how many passes it can still be split

-- the first caller's, before any call
abbrev pub first_pass : ℕ → PassState
first_pass parts = record { caller = 0; seen = 0; made = 0; parts = parts }

-- one call more, of this number
abbrev pub after_call : PassState → ℕ → PassState
after_call pass number = record { caller = pass.caller; seen = number; made = pass.made + 1; parts = pass.parts }

-- A pass gives half of its parts to a new one, which has seen as much, and with which no call was made yet.
pub record IsSplit (pass new pass' : PassState) : Type 0 where
  pub seen : new.seen ≡ pass.seen
  pub made : new.made ≡ 0
  pub half : new.parts ≡ pass.parts / 2
  pub whole : pass'.parts + new.parts ≡ pass.parts
  pub same_seen : pass'.seen ≡ pass.seen
  pub same_made : pass'.made ≡ pass.made
  pub same_caller : pass'.caller ≡ pass.caller

-- Two passes of a ledger of so many parts are one, under the first one's number. It has seen what either had, and counts the calls of both.
pub record IsJoined (all : ℕ) (first second joined : PassState) : Type 0 where
  pub caller : joined.caller ≡ first.caller
  pub seen : joined.seen ≡ max first.seen second.seen
  pub made : joined.made ≡ first.made + second.made
  pub parts : first.parts + second.parts < 2 ^ 64 → joined.parts ≡ first.parts + second.parts
  pub within : first.parts + second.parts ≤ all

-- what a split found that counts no caller more
pub record SplitState : Type 0 where
  pub parts : ℕ  -- the parts of the pass
  pub callers : ℕ  -- how many callers were numbered

-- how many calls the passes count
abbrev pub calls_of : List PassState → ℕ
calls_of passes = sum (map (λ pass. pass.made) passes)

-- into how many passes they can be split
abbrev pub parts_of : List PassState → ℕ
parts_of passes = sum (map (λ pass. pass.parts) passes)
