-- How what happens to clients and exchanges adds up.
use Rattle.std.proofs.Common.{◌+◌, ℕ, inl, inr, arith}
use Rattle.flight.specs.declared.counts.Counts.{Counts}
use Rattle.flight.specs.Counted.{NeverFall, IsFull}
use Rattle.flight.specs.Waiting.{IsAccounted}

-- A count that has its last value keeps it.
still_full : (old new : Counts) → IsFull old → NeverFall old new → IsFull new
still_full old new full never =
    elim full [
      | inl settled ↦ inl (omega (arith, never.settled))
      | inr more ↦ elim more [ inl opened ↦ inr (inl (omega (arith, never.opened))) | inr ended ↦ inr (inr (omega (arith, never.ended))) ]
    ]

never_fall_then : (old between new : Counts) → NeverFall old between → NeverFall between new → NeverFall old new
never_fall_then old between new first second = record { settled = omega arith; opened = omega arith; ended = omega arith; listened = omega arith; expired = omega arith }

-- One thing happened after another.
pub accounted_then : (more more' waiting middle waiting' : ℕ) (old between new : Counts) → IsAccounted more waiting old middle between → IsAccounted more' middle between waiting' new → IsAccounted (more + more') waiting old waiting' new
accounted_then more more' waiting middle waiting' old between new first second =
    record {
      never_fall = never_fall_then old between new first.never_fall second.never_fall;
      add_up = elim second.add_up [
        | inl after ↦ elim first.add_up [
          | inl before ↦ inl (record { clients = omega (arith, before.clients, after.clients); exchanges = omega (arith, before.exchanges, after.exchanges) })
          | inr full ↦ inr (still_full between new full second.never_fall)
        ]
        | inr full ↦ inr full
      ];
    }
