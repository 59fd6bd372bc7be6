use Rattle.std.proofs.Common.{◌≡◌, ◌<◌, ℕ}
use Rattle.std.specs.Prelude.{IsSomeAnd, slice_index_or}
use Rattle.indexmap.specs.IndexMap.{get}
use Rattle.dns_text.specs.declared.addr.Addr.{Addr}
use Rattle.outside.specs.Pauses.{server_at, server_eq}
use Rattle.outside.specs.Silences.{IsAnswering}
use Rattle.outside.proofs.servers.any_answers.Given as goal

-- none has answered so far
abbrev pub invariant-loop-addr : goal.invariant-loop-addr
invariant-loop-addr l = (k : ℕ) → k < l.addr-index → (addr : Addr) → slice_index_or l.addrs k addr ≡ addr
    → IsSomeAnd (get server_eq l.servers (server_at addr l.over)) IsAnswering → ⊥
