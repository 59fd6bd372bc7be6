-- Pauses, and the silence of a name server: since when, and to how many names, it has not answered. Times are in milliseconds.
use Rattle.std.specs.Prelude.{◌≡◌, ◌<◌, ◌≤◌, ◌⊎◌, ℕ, ◌+◌, ◌-◌, ◌*◌, ◌^◌, ◌==◌, ◌||◌, min, max, nat_lt, if◌then◌else◌, Option, Some, None, IsSome, IsSomeAnd}
use Rattle.dns_name.specs.Labels.{Labels}
use Rattle.dns_name.specs.Order.{name_eq}
use Rattle.flight.specs.declared.table.TheConstants.{PATIENCE}
use Rattle.outside.specs.declared.pause.Pause.{Pause}
use Rattle.outside.specs.declared.pause.TheConstants.{FIRST_PAUSE, LONGEST_PAUSE}
use Rattle.outside.specs.declared.missed.Missed.{Missed}
use Rattle.outside.specs.declared.missed.Missed.TheVariants.{Zero, One, Two, Many}
use Rattle.outside.specs.declared.silence.Silence.{Silence}
use Rattle.outside.specs.declared.silence.TheConstants.{SILENT, CLOSED_PAUSE}

-- the pause of what was never passed over
abbrev pub no_pause : Pause
no_pause = record { millis = 0; until = 0 }

-- how long the pause after a last one is: twice as long, within the bounds of a pause
abbrev pub next_millis : ℕ → ℕ
next_millis last = max (min (2 * last) LONGEST_PAUSE) FIRST_PAUSE

-- a pause from now on, which follows a last one; its end is at 2^64 - 1 at the latest
abbrev pub next_pause : Pause → ℕ → Pause
next_pause last now = record { millis = next_millis last.millis; until = min (now + next_millis last.millis) (2 ^ 64 - 1) }

-- the pause once a query has gone unanswered: the next one, or still the last one if that is not over
abbrev pub pause_after : Pause → ℕ → Pause
pause_after last now = if nat_lt now last.until then last else next_pause last now

-- the pause once datagrams came to an exchange that cannot be its reply: the next one, or still the last one if it lasts for longer than a trial does
abbrev pub pause_struck : Pause → ℕ → Pause
pause_struck last now = if nat_lt PATIENCE (last.until - now) then last else next_pause last now

-- the pause while a query tries, after a last one, whether there are answers again: as long as the query may take
abbrev pub trial_pause : Pause → ℕ → Pause
trial_pause last now = if last.millis == 0 then last else record { millis = last.millis; until = min (now + PATIENCE) (2 ^ 64 - 1) }

-- the same, with the moment first
abbrev pub trial_at : ℕ → Pause → Pause
trial_at now last = trial_pause last now

-- the names that went unanswered, and one more if it is not among them
abbrev pub missed_with : Missed → Labels → Missed
missed_with Zero name = One name
missed_with (One first) name = if name_eq first name then One first else Two first name
missed_with (Two first second) name = if name_eq first name || name_eq second name then Two first second else Many
missed_with Many name = Many

-- since when a server is silent, once one more query goes unanswered: since this moment if it is the first one after an answer
abbrev pub since_with : Missed → Option ℕ → ℕ → Option ℕ
since_with Zero since now = Some now
since_with _ since now = since

-- the silence of a server that was never asked
abbrev pub unknown : Silence
unknown = record { since = None; missed = Zero; pause = no_pause; rest = no_pause }

-- that of a server that answers at this moment: an answer ends all pauses, and forgets what went unanswered
abbrev pub answered_at : ℕ → Silence
answered_at now = record { since = Some now; missed = Zero; pause = no_pause; rest = no_pause }

-- that of a server whose port is closed at this moment: it is passed over for a second at least, and that is no strike
abbrev pub closed_at : ℕ → Silence → Silence
closed_at now last = record last { pause = record { millis = last.pause.millis; until = max last.pause.until (min (now + CLOSED_PAUSE) (2 ^ 64 - 1)) } }

-- that of a server to which a query begins: after a pause it is a trial
abbrev pub tried_at : ℕ → Silence → Silence
tried_at now last = record last { pause = trial_pause last.pause now; rest = trial_pause last.rest now }

-- the moment until which it matters: its pause or its rest lasts
abbrev pub matters_until : Silence → ℕ
matters_until silence = max silence.pause.until silence.rest.until

-- The server answers: it did, and has left no query unanswered since.
abbrev pub IsAnswering : Silence → Type 0
IsAnswering silence = (silence.missed ≡ Zero) × IsSome silence.since

-- The server answered a query that waited beside one that goes unanswered now.
abbrev pub HasAnsweredLately : ℕ → Silence → Type 0
HasAnsweredLately now silence = (silence.missed ≡ Zero) × IsSomeAnd silence.since (λ answered. now ≤ answered + PATIENCE)

-- A query that goes unanswered now says nothing new of its server: the server is paused by now, or answered another query meanwhile.
abbrev pub IsExcused : ℕ → Silence → Type 0
IsExcused now silence = ((0 < silence.pause.millis) × (now < silence.pause.until)) ⊎ HasAnsweredLately now silence

-- Three names or more went unanswered, the first as long ago as a server may be silent, and nothing was answered since.
abbrev pub IsSilent : ℕ → Silence → Type 0
IsSilent now silence = (silence.missed ≡ Many) × IsSomeAnd silence.since (λ since. since + SILENT ≤ now)

-- A query for a name goes unanswered, and counts. Its server rests from now on. If it is silent by then, the server is paused for every question.
pub record Counts (name : Labels) (now : ℕ) (old new : Silence) : Type 0 where
  pub since : new.since ≡ since_with old.missed old.since now
  pub missed : new.missed ≡ missed_with old.missed name
  pub rests : new.rest ≡ pause_after old.rest now
  pub paused : IsSilent now new → new.pause ≡ next_pause old.pause now
  pub unpaused : ¬ (IsSilent now new) → new.pause ≡ old.pause

-- A query for a name goes unanswered. It counts, unless it says nothing new of its server.
pub record Misses (name : Labels) (now : ℕ) (old new : Silence) : Type 0 where
  pub excused : IsExcused now old → new ≡ old
  pub counted : ¬ (IsExcused now old) → Counts name now old new
