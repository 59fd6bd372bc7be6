-- The results of decoding, which the octets determine unless memory runs out.
use Rattle.std.specs.Prelude.{◌≡◌, ℕ, ◌<◌, ◌⊎◌, List, length, take, Option, Result, MatchOption, MatchResult}
use Rattle.dns_name.specs.Labels.{Labels}
use Rattle.dns_wire.specs.declared.fault.WireFault.{WireFault}
use Rattle.dns_wire.specs.declared.fault.WireFault.TheVariants.{NoMemory}
use Rattle.dns_wire.specs.declared.message.Message.{Message}
use Rattle.dns_wire.specs.Read.Message.{MessageAt, SpelledMessage, MessageFails}
use Rattle.dns_wire.specs.Read.Name.{NameAt, SpelledIn, UnspelledIn}

-- The octets spell no message.
abbrev pub IsUnspelled : List ℕ → Type 0
IsUnspelled m = (v : Message) → ¬ (SpelledMessage m v)

-- The octets spell a message, and more octets follow it.
pub record HasTrailing (m : List ℕ) : Type 0 where
  pub message : Message
  pub after : ℕ
  pub stands : MessageAt m message after
  pub more : after < length m

-- Memory ran out, or this holds.
abbrev pub UnlessMemory : WireFault → Type 0 → Type 0
UnlessMemory fault p = (fault ≡ NoMemory) ⊎ p

-- A name is followed from a place on, its own octets up to a limit, or there is its first fault. Past the limit the fault is `ending`.
abbrev pub FollowsName : List ℕ → ℕ → WireFault → ℕ → Result (Labels × ℕ) WireFault → Type 0
FollowsName m limit ending start result =
    MatchResult result (λ r. NameAt m (take limit m) start start r.1 r.0) (λ e. UnlessMemory e (UnspelledIn m (take limit m) ending start e))

-- The place after such a name is found, or there is no such name.
abbrev pub FollowsEnd : List ℕ → ℕ → ℕ → Option ℕ → Type 0
FollowsEnd m limit start found =
    MatchOption found ((ending : WireFault) → (fault : WireFault) × UnspelledIn m (take limit m) ending start fault) (λ after. (labels : Labels) × SpelledIn m (take limit m) start after labels)

-- Octets spell a message, or there is a fault in them.
abbrev pub SpelledOrFails : Type 0
SpelledOrFails = (m : List ℕ) → ((v : Message) × SpelledMessage m v) ⊎ ((fault : WireFault) × MessageFails m fault)

-- Octets with a fault spell no message.
abbrev pub NeverBoth : Type 0
NeverBoth = (m : List ℕ) (fault : WireFault) → MessageFails m fault → IsUnspelled m

-- Octets spell one message at most.
abbrev pub SpelledOnce : Type 0
SpelledOnce = (m : List ℕ) (v w : Message) → SpelledMessage m v → SpelledMessage m w → v ≡ w

-- Octets have one first fault at most.
abbrev pub FailsOnce : Type 0
FailsOnce = (m : List ℕ) (fault other : WireFault) → MessageFails m fault → MessageFails m other → fault ≡ other
