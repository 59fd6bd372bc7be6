-- Failures are counted.
use Rattle.std.proofs.Common.{◌≡◌, ◌≤◌, ◌+◌, ◌-◌, ◌^◌, ℕ, refl, inl, inr, arith}
use Rattle.std.specs.Prelude.{Result, Ok, Err, IsErrOf, ◌⊎◌}
use Rattle.streams.specs.declared.engine.TheConstants.{MOST_READS}
use Rattle.system.specs.Counts.{Rises}
use Rattle.replies.specs.declared.fault.StreamFault.{StreamFault}
use Rattle.replies.specs.declared.fault.StreamFault.TheVariants.{Read, Write, Short, NoMemory}
use Rattle.plain_workers.specs.TcpWorking.{IsExcused}
use Rattle.plain_workers.specs.Working.{HasFailed}

-- One failure more is counted.
pub raised : (n base old new : ℕ) → HasFailed n base old → Rises old new → HasFailed (n + 1) base new
raised n base old new before rises = elim before [
  | inl a ↦ elim rises [ inl more ↦ inl (omega arith) | inr last ↦ inr (omega arith) ]
  | inr a ↦ elim rises [ inl more ↦ inr (omega arith) | inr last ↦ inr (omega arith) ]
]

-- No failure more is counted.
pub kept : (n base old new : ℕ) → HasFailed n base old → new ≡ old → HasFailed n base new
kept n base old new before same = elim before [ inl a ↦ inl (omega arith) | inr a ↦ inr (omega arith) ]

-- Failures before a success count no more.
pub forgotten : (n base old mid new : ℕ) → HasFailed n base old → mid ≡ old → mid ≤ new → HasFailed 0 base new
forgotten n base old mid new before same more = elim before [ inl a ↦ inl (omega arith) | inr a ↦ inr (omega arith) ]

-- A stream that was given up was so for a reason.
pub excused : {S W : Type 0} (calls reads_failed : S → ℕ) (writes_failed : W → ℕ) (result : Result (Unit {0}) StreamFault) (s s' : S) (w w' : W)
    → (IsErrOf result Read → (reads_failed s' ≡ reads_failed s + 1) ⊎ (calls s' + 1 ≡ calls s + MOST_READS)) → (IsErrOf result Write → writes_failed w' ≡ writes_failed w + 1)
    → IsExcused calls reads_failed writes_failed result s s' w w'
excused calls reads_failed writes_failed (Ok _) s s' w w' read write = tt
excused calls reads_failed writes_failed (Err Read) s s' w w' read write = read refl
excused calls reads_failed writes_failed (Err Write) s s' w w' read write = write refl
excused calls reads_failed writes_failed (Err Short) s s' w w' read write = tt
excused calls reads_failed writes_failed (Err NoMemory) s s' w w' read write = tt
