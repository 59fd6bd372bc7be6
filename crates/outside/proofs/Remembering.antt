-- How the notes of a worker are made of their steps.
use Rattle.std.specs.Prelude.{◌↔◌, ◌⊎◌, ◌<◌, ◌≤◌, IsTrue, Bool, false, Result, Ok, Err, OnOk, OnErr, Option, Some, None, is_some, if◌then◌else◌, IfSome, length, slice_get, unwrap_or}
use Rattle.std.proofs.Common.{◌≡◌, ◌∙◌, ◌+◌, ℕ, subst, sym, arith, inl, inr}
use Rattle.indexmap.specs.IndexMap.{IndexMap, get, Updates}
use Rattle.dns_name.specs.Labels.{Labels}
use Rattle.outside.specs.declared.server.Server.{Server}
use Rattle.outside.specs.declared.servers.TheConstants.{MOST_SERVERS}
use Rattle.outside.specs.declared.silence.Silence.{Silence}
use Rattle.outside.specs.Kept.{Adds, IsFree, MakesRoom, Remembers}
use Rattle.outside.specs.Kept.MakesRoom.{gone}
use Rattle.outside.specs.Kept.Remembers.{known, added}
use Rattle.outside.specs.Silences.{matters_until, unknown, Misses}
use Rattle.outside.specs.Pauses.{server_eq, MissesAt, Silences}

-- a test that is false refutes what it decides
pub refuted : {P : Type 0} {b : Bool} → IsTrue b ↔ P → b ≡ false → ¬ P
refuted decides is p = let yes = decides.1 p in cc

-- a call came to something, or it did not
pub either_way : {T E A B : Type 0} (r : Result T E) → OnOk r A → OnErr r B → A ⊎ B
either_way (Ok x) a b = inl a
either_way (Err e) a b = inr b

-- a note that matters no more goes from a full table
pub freed : {K V S : Type 0} (eq : K → K → Bool) (until : V → ℕ) (most now : ℕ) (old new : IndexMap K V S) (place : ℕ) (removed : Option (K × V))
    → most ≤ length old.entries → IsFree eq until now old place → removed ≡ slice_get old.entries place
    → IfSome removed (λ p. Updates eq old new p.0 None) → MakesRoom eq until most now old new
freed {K} {V} eq until most now old new place removed full free is updates =
    gone full free.held free.ended (subst (λ (o : Option (K × V)). IfSome o (λ p. Updates eq old new p.0 None)) (is ∙ free.here) updates)

-- then there is room for one more
pub freed_len : {A : Type 0} (removed there : Option A) (one : A) (left had most : ℕ) → removed ≡ there → there ≡ Some one
    → left + (if is_some removed then 1 else 0) ≡ had → had ≤ most → left < most
freed_len {A} removed there one left had most is some len low =
    let less : left + 1 ≡ had = subst (λ (o : Option A). left + (if is_some o then 1 else 0) ≡ had) (is ∙ some) len in
    omega arith

-- a note under a new key
pub remembered_new : {K V S : Type 0} (eq : K → K → Bool) (until : V → ℕ) (most now : ℕ) (key : K) (note : V) (old before new : IndexMap K V S)
    → before ≡ old → get eq old key ≡ None → Adds eq until most now key note before new → Remembers eq until most now key note old new
remembered_new {K} {V} {S} eq until most now key note old before new same none adds =
    added none (subst (λ (m : IndexMap K V S). Adds eq until most now key note m new) same adds)

-- a query that goes unanswered at a server that is known
pub missed_known : (now : ℕ) (server : Server) (name : Labels) (old new : Silences) (last silence : Silence)
    → get server_eq old server ≡ Some last → Misses name now last silence → Updates server_eq old new server (Some silence) → MissesAt now server name old new
missed_known now server name old new last silence held misses updates = record {
  silence = silence;
  misses = subst (λ (o : Option Silence). Misses name now (unwrap_or o unknown) silence) (sym held) misses;
  remembers = known held updates;
}

-- a query that goes unanswered at a server that is new
pub missed_new : (now : ℕ) (server : Server) (name : Labels) (old before new : Silences) (silence : Silence)
    → before ≡ old → get server_eq old server ≡ None → Misses name now unknown silence
    → Adds server_eq matters_until MOST_SERVERS now server silence before new → MissesAt now server name old new
missed_new now server name old before new silence same none misses adds = record {
  silence = silence;
  misses = subst (λ (o : Option Silence). Misses name now (unwrap_or o unknown) silence) (sym none) misses;
  remembers = remembered_new server_eq matters_until MOST_SERVERS now server silence old before new same none adds;
}
