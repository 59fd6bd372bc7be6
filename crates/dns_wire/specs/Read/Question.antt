-- A question (RFC 1035, section 4.1.2): a name, then type and class of 16 bits each.
use Rattle.std.specs.Prelude.{◌≡◌, ℕ, ◌+◌, ◌<◌, ◌≤◌, List, length, Result, Ok, Err, nat_lt, if◌then◌else◌}
use Rattle.dns_name.specs.Labels.{Labels}
use Rattle.dns_wire.specs.declared.fault.WireFault.{WireFault}
use Rattle.dns_wire.specs.declared.fault.WireFault.TheVariants.{Short}
use Rattle.dns_text.specs.declared.record.Question.{Question}
use Rattle.dns_wire.specs.declared.message.Classed.{Classed}
use Rattle.dns_wire.specs.Read.Name.{SpelledName, UnspelledName, name_read}
use Rattle.dns_wire.specs.Read.Number.{u16_at}
use Rattle.dns_name.specs.Results.{◌>>=◌}

-- At a place is this question, and `after` is the place after it.
pub record QuestionAt (m : List ℕ) (at : ℕ) (q : Classed Question) (after : ℕ) : Type 0 where
  pub fixed : ℕ
  pub owner : SpelledName m at fixed q.item.owner
  pub kind : q.item.kind ≡ u16_at m fixed
  pub class : q.class ≡ u16_at m (fixed + 2)
  pub ends : after ≡ fixed + 4
  pub within : after ≤ length m

-- At a place is no question: this is the first fault.
pub data QuestionFails (m : List ℕ) (at : ℕ) : WireFault → Type 0 where
  bad_owner : {fault : WireFault} → UnspelledName m at fault → QuestionFails m at fault
  short : {fixed : ℕ} {name : Labels} → SpelledName m at fixed name → length m < fixed + 4 → QuestionFails m at Short

-- the question behind a name, and the place after it
abbrev pub question_behind : List ℕ → Labels × ℕ → Result (Classed Question × ℕ) WireFault
question_behind m owner =
    if nat_lt (length m) (owner.1 + 4) then Err Short else
    Ok (record { item = record { owner = owner.0; kind = u16_at m owner.1 }; class = u16_at m (owner.1 + 2) }, owner.1 + 4)

-- the question at a place, and the place after it
unfoldable pub question_read : List ℕ → ℕ → Result (Classed Question × ℕ) WireFault
question_read m at = name_read m at >>= question_behind m
