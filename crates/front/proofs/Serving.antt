-- The connections of a worker, as they begin, go on and end.
use Rattle.std.proofs.Common.{◌≡◌, ◌≢◌, ◌∙◌, ◌<◌, ◌+◌, ◌++◌, ℕ, List, [], ◌∷◌, Option, Some, false, true, ap, refl, subst, sym, true≢false}
use Rattle.std.specs.Prelude.{None, IfNone, OnOk, Result, Ok, Err}
use Rattle.std.specs.Result.{is_ok, is_err}
use Rattle.slab.specs.Slab.{Slab, get, Updates}
use Rattle.replies.specs.Framing.{HasLength}
use Rattle.front.specs.Connections.{Becomes, BeginsOne, ConnectionState, ConnectionsState, EndsOne, IsFlushed, Owes, Serves, ServesOne, Tends, begins, connection_at, ended, ends, fresh, gone, owed, serves, stays}
use Rattle.front.specs.Passages.{Passes}
use Rattle.front.proofs.Passing.{serves_then}

-- What holds on success holds, for the call succeeded.
pub of_ok : {A B P : Type 0} (result : Result A B) → true ≡ is_ok result → OnOk result P → P
of_ok (Ok value) is fact = fact
of_ok (Err fault) is fact = absurd (true≢false is)

-- The same, where it did not fail.
pub of_not_err : {A B P : Type 0} (result : Result A B) → false ≡ is_err result → OnOk result P → P
of_not_err (Ok value) is fact = fact
of_not_err (Err fault) is fact = absurd (true≢false (sym is))

-- The connection under a key became one, and then another.
becomes_then : {S : Type 0} (key : ℕ) (slot slot' : Option (ConnectionState S)) (old mid new : ConnectionsState S) → Becomes key slot old mid → Becomes key slot' mid new → Becomes key slot' old new
becomes_then key slot slot' old mid new first second = record { changed = second.changed; others = λ other differs. second.others other differs ∙ first.others other differs }

-- A connection was taken out, and ended.
pub ends_out : {S : Type 0} (key : ℕ) {before : ConnectionState S} (old new : ConnectionsState S) → connection_at old key ≡ Some before → Becomes key None old new → new.next ≡ old.next → EndsOne key before.serial old new
ends_out key {before = before} old new was out next = record { before = before; was = was; number = refl; becomes = out; next = next }

module _ {S : Type 0} {reads writes : Passes S} where
  -- A connection was taken out, served, and put back.
  pub serves_back : (key serial : ℕ) {messages replies : List (List ℕ)} {before after : ConnectionState S} (old mid new : ConnectionsState S) → connection_at old key ≡ Some before → before.serial ≡ serial
      → Becomes key None old mid → mid.next ≡ old.next → Serves reads writes messages replies before after → Becomes key (Some after) mid new → new.next ≡ mid.next
      → ServesOne reads writes key serial messages replies old new
  serves_back key serial {before = before} {after = after} old mid new was number out next passed back next' =
      record { before = before; after = after; was = was; number = number; serves = passed; becomes = becomes_then key None (Some after) old mid new out back; next = next' ∙ next }

  -- One step is a run.
  pub tends_one : {old new : ConnectionsState S} (key serial : ℕ) → ServesOne reads writes key serial [] [] old new → Tends reads writes old new
  tends_one key serial one = serves stays one

  pub tends_end : {old new : ConnectionsState S} (key serial : ℕ) → EndsOne key serial old new → Tends reads writes old new
  tends_end key serial one = ends stays one

  -- Nothing happens.
  pub tends_none : {old new : ConnectionsState S} → new ≡ old → Tends reads writes old new
  tends_none {old = old} same = subst (λ (state : ConnectionsState S). Tends reads writes old state) (sym same) stays

  -- A run after a run.
  pub tends_then : {old mid new : ConnectionsState S} → Tends reads writes old mid → Tends reads writes mid new → Tends reads writes old new
  tends_then first stays = first
  tends_then first (serves second one) = serves (tends_then first second) one
  tends_then first (ends second one) = ends (tends_then first second) one
  tends_then first (begins second one) = begins (tends_then first second) one

-- the connections of a slab, and the number of the next one
abbrev pub kept_in : {S : Type 0} → Slab (ConnectionState S) → ℕ → ConnectionsState S
kept_in slab next = record { slots = slab.slots; next = next }

becomes_as : {S : Type 0} (key next next' : ℕ) (slot : Option (ConnectionState S)) (old new : Slab (ConnectionState S)) → Updates old new key slot → Becomes key slot (kept_in old next) (kept_in new next')
becomes_as key next next' slot old new updates = record { changed = updates.changed; others = updates.others }

module _ {S : Type 0} {reads writes : Passes S} where
  -- A connection was taken out of a slab, served, and put back.
  pub serves_kept : (key serial : ℕ) {messages replies : List (List ℕ)} (before after : ConnectionState S) (old mid new : Slab (ConnectionState S)) (next mid_next new_next : ℕ)
      → Some before ≡ get old key → before.serial ≡ serial → Updates old mid key None → mid.vacant_key ≡ key → mid_next ≡ next → Serves reads writes messages replies before after
      → Updates mid new mid.vacant_key (Some after) → new_next ≡ mid_next → ServesOne reads writes key serial messages replies (kept_in old next) (kept_in new new_next)
  serves_kept key serial before after old mid new next mid_next new_next was number out vacant next_is passed back next_is' =
      serves_back key serial (kept_in old next) (kept_in mid mid_next) (kept_in new new_next) (sym was) number (becomes_as key next mid_next None old mid out) next_is passed
      (becomes_as key mid_next new_next (Some after) mid new (subst (λ (at : ℕ). Updates mid new at (Some after)) vacant back)) next_is'

  -- A connection was taken out of a slab, and ended.
  pub tends_ended : (key : ℕ) (before : ConnectionState S) (old new : Slab (ConnectionState S)) (next new_next : ℕ) → Some before ≡ get old key → Updates old new key None → new_next ≡ next
      → Tends reads writes (kept_in old next) (kept_in new new_next)
  tends_ended key before old new next new_next was out next_is =
      tends_end key before.serial (ends_out key (kept_in old next) (kept_in new new_next) (sym was) (becomes_as key next new_next None old new out) next_is)

  -- The slab is as it was.
  pub tends_kept : (old new : Slab (ConnectionState S)) (next new_next : ℕ) → new ≡ old → new_next ≡ next → Tends reads writes (kept_in old next) (kept_in new new_next)
  tends_kept old new next new_next same next_is =
      subst (λ (slab : Slab (ConnectionState S)). Tends reads writes (kept_in old next) (kept_in slab new_next)) (sym same)
      (subst (λ (n : ℕ). Tends reads writes (kept_in old next) (kept_in old n)) (sym next_is) stays)

  -- What was under a key was taken out of a slab, and ended.
  pub tends_taken : (key : ℕ) (taken : Option (ConnectionState S)) (old new : Slab (ConnectionState S)) (next new_next : ℕ) → taken ≡ get old key → Updates old new key None → IfNone taken (new ≡ old)
      → new_next ≡ next → Tends reads writes (kept_in old next) (kept_in new new_next)
  tends_taken key None old new next new_next was out none next_is = tends_kept old new next new_next none next_is
  tends_taken key (Some before) old new next new_next was out none next_is = tends_ended key before old new next new_next was out next_is

  -- A connection began under the free key of a slab.
  pub tends_begun : (stream : S) (network : ℕ) (old new : Slab (ConnectionState S)) (next new_next : ℕ) → get old old.vacant_key ≡ None → Updates old new old.vacant_key (Some (fresh stream next network)) → new_next ≡ next + 1
      → Tends reads writes (kept_in old next) (kept_in new new_next)
  tends_begun stream network old new next new_next free updates next_is =
      begins {key = old.vacant_key} {network = network} {stream = stream} stays
      (record { free = free; becomes = becomes_as old.vacant_key next new_next (Some (fresh stream next network)) old new updates; next = next_is })

  -- The same, after room was made for it.
  pub tends_begun_after : (stream : S) (network serial : ℕ) (connection : ConnectionState S) (first old new : Slab (ConnectionState S)) (first_next next new_next : ℕ) → old.slots ≡ first.slots → next ≡ first_next
      → get old old.vacant_key ≡ None → Updates old new old.vacant_key (Some connection) → connection ≡ fresh stream serial network → serial ≡ first_next → new_next ≡ next + 1
      → Tends reads writes (kept_in first first_next) (kept_in new new_next)
  tends_begun_after stream network serial connection first old new first_next next new_next slots next_is free updates is number new_is =
      let as_fresh : connection ≡ fresh stream next network = is ∙ ap (λ (n : ℕ). fresh stream n network) (number ∙ sym next_is) in
      let begun = tends_begun stream network old new next new_next free (subst (λ (c : ConnectionState S). Updates old new old.vacant_key (Some c)) as_fresh updates) new_is in
      subst (λ (n : ℕ). Tends reads writes (record { slots = first.slots; next = n }) (kept_in new new_next)) next_is
      (subst (λ (s : List (Option (ConnectionState S))). Tends reads writes (record { slots = s; next = next }) (kept_in new new_next)) slots begun)

  -- A message came by a connection of a slab, which was taken out and put back.
  pub takes_message : (key serial network : ℕ) (message : List ℕ) (before after : ConnectionState S) (old mid new : Slab (ConnectionState S)) (next mid_next new_next : ℕ)
      → Some before ≡ get old key → before.serial ≡ serial → before.network ≡ network → Updates old mid key None → mid.vacant_key ≡ key → mid_next ≡ next → HasLength message
      → Serves reads writes (message ∷ []) [] before after → Updates mid new mid.vacant_key (Some after) → new_next ≡ mid_next
      → HasLength message × ((one : ServesOne reads writes key serial (message ∷ []) [] (kept_in old next) (kept_in new new_next)) × (one.before.network ≡ network))
  unfolding serves_kept serves_back
  takes_message key serial network message before after old mid new next mid_next new_next was number of_network out vacant next_is long passed back next_is' =
      (long, (serves_kept key serial before after old mid new next mid_next new_next was number out vacant next_is passed back next_is', of_network))

  -- A connection was taken out of a slab, and ended in place of a reply.
  pub owes_ended : (drained : Type 0) (key serial : ℕ) (reply : List ℕ) (before : ConnectionState S) (old new : Slab (ConnectionState S)) (next new_next : ℕ) → Some before ≡ get old key → before.serial ≡ serial
      → Updates old new key None → new_next ≡ next → Owes reads writes drained key serial reply (kept_in old next) (kept_in new new_next)
  owes_ended drained key serial reply before old new next new_next was number out next_is =
      ended (subst (λ (n : ℕ). EndsOne key n (kept_in old next) (kept_in new new_next)) number (ends_out key (kept_in old next) (kept_in new new_next) (sym was) (becomes_as key next new_next None old new out) next_is))

  -- A connection was taken out of a slab, came to owe a reply, wrote, and was put back.
  pub owes_kept : (drained : Type 0) (key serial : ℕ) (reply : List ℕ) (before owing after : ConnectionState S) (old mid new : Slab (ConnectionState S)) (next mid_next new_next : ℕ) → Some before ≡ get old key
      → before.serial ≡ serial → Updates old mid key None → mid.vacant_key ≡ key → mid_next ≡ next → Serves reads writes [] (reply ∷ []) before owing → Serves reads writes [] [] owing after
      → IsFlushed drained after → Updates mid new mid.vacant_key (Some after) → new_next ≡ mid_next → Owes reads writes drained key serial reply (kept_in old next) (kept_in new new_next)
  unfolding serves_kept serves_back
  owes_kept drained key serial reply before owing after old mid new next mid_next new_next was number out vacant next_is owes writes flushed back next_is' =
      owed (serves_kept key serial before after old mid new next mid_next new_next was number out vacant next_is (serves_then owes writes) back next_is') flushed
