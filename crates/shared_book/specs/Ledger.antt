-- A ledger of calls by which no book counts yet.
use Rattle.std.specs.Prelude.{ℕ}

-- a ledger before any call: its name, and among how many callers it can be split
pub record LedgerState : Type 0 where
  pub name : ℕ
  pub parts : ℕ  -- among how many callers it can be split
