-- Whatever leaves, a worker asks name servers as before.
use Rattle.std.proofs.Common.{◌≡◌, ◌∙◌, ℕ, List, [], ◌∷◌, Option, Some, None, ap}
use Rattle.flight.specs.declared.counts.Counts.{Counts}
use Rattle.flight.specs.Leaving.{AllLeave, End, Ends, Leaves}
use Rattle.flight.specs.Waiting.{FlightState}
use Rattle.front_workers.specs.Accounts.{QuestionsGoOn}
use Rattle.front_workers.specs.Asking.{AskingState, PostsBy, SocketsState, sockets_as}

-- The same outbox, and the same way to ask.
pub as_one : {O : Type 0} (outbox outbox' : O) (asking asking' : AskingState) → outbox' ≡ outbox → asking' ≡ asking → sockets_as outbox' asking' ≡ sockets_as outbox asking
as_one outbox outbox' asking asking' same as_before = ap (λ (o : _). sockets_as o asking') same ∙ ap (λ (a : AskingState). sockets_as outbox a) as_before

-- Questions go on to equal counters and to an equal outbox.
pub goes_as : {O K : Type 0} {sent : K → List ℕ → Type 0} {posts : O → K → List ℕ → O → Type 0} (flight flight' : FlightState) (counts counts' counts'' : Counts) (old mid new : O) → counts'' ≡ counts' → new ≡ mid
    → QuestionsGoOn sent posts flight counts old flight' counts' mid → QuestionsGoOn sent posts flight counts old flight' counts'' new
goes_as flight flight' counts counts' counts'' old mid new same same' on = record { accounted = rw same on.accounted; ends = rw same' on.ends; no_more = on.no_more; bounded = on.bounded; limit = on.limit }

-- The reply of one client leaves, or none does.
pub leaves_by : {O K : Type 0} (posts : O → K → List ℕ → O → Type 0) (client : K) (reply : Option (List ℕ)) (old new : SocketsState O) → Leaves (PostsBy posts) client reply old new
    → Leaves posts client reply old.outbox new.outbox × (new.asking ≡ old.asking)
leaves_by {O = O} posts client None old new same = (ap (λ (state : SocketsState O). state.outbox) same, ap (λ (state : SocketsState O). state.asking) same)
leaves_by posts client (Some reply) old new left = (left.left, left.asking)

-- The same of clients, one after another.
pub all_leave_by : {O K : Type 0} {sent : K → List ℕ → Type 0} (posts : O → K → List ℕ → O → Type 0) (ends : List (End sent)) (old new : SocketsState O) → AllLeave (PostsBy posts) ends old new
    → AllLeave posts ends old.outbox new.outbox × (new.asking ≡ old.asking)
all_leave_by {O = O} posts [] old new same = (ap (λ (state : SocketsState O). state.outbox) same, ap (λ (state : SocketsState O). state.asking) same)
all_leave_by posts (end ∷ ends) old new left =
    let first = leaves_by posts end.client end.reply old left.0 left.1 in
    let rest = all_leave_by posts ends left.0 new left.2 in
    ((left.0.outbox, first.0, rest.0), rest.1 ∙ first.1)

module _ {O K : Type 0} {sent : K → List ℕ → Type 0} {posts : O → K → List ℕ → O → Type 0} where
  -- The waits of the same clients end.
  abbrev pub ends_of : {more waiting waiting' : ℕ} {old new : SocketsState O} → Ends sent (PostsBy posts) more waiting old waiting' new → Ends sent posts more waiting old.outbox waiting' new.outbox
  ends_of {old = old} {new = new} ends = let left = all_leave_by posts ends.ends old new ends.left in record { ends = ends.ends; left = left.0; count = ends.count }

  pub asking_kept : {more waiting waiting' : ℕ} {old new : SocketsState O} → Ends sent (PostsBy posts) more waiting old waiting' new → new.asking ≡ old.asking
  asking_kept {old = old} {new = new} ends = let left = all_leave_by posts ends.ends old new ends.left in left.1
