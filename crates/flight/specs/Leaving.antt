-- What leaves for clients.
use Rattle.std.specs.Prelude.{◌≡◌, ℕ, ◌+◌, Option, Some, None, List, [], ◌∷◌, length}

-- the end of a client's wait: the octets that it sent, and those of its reply, or None if it is owed none
pub record End {K : Type 0} (sent : K → List ℕ → Type 0) : Type 0 where
  pub client : K
  pub octets : List ℕ
  pub own : sent client octets
  pub reply : Option (List ℕ)

-- A client's reply leaves, and nothing else does. If it is owed none, nothing leaves.
abbrev pub Leaves : {O K : Type 0} → (O → K → List ℕ → O → Type 0) → K → Option (List ℕ) → O → O → Type 0
Leaves posts client None old new = new ≡ old
Leaves posts client (Some reply) old new = posts old client reply new

-- The waits of clients end, one after another: the reply of each leaves, and nothing else does.
abbrev pub AllLeave : {O K : Type 0} {sent : K → List ℕ → Type 0} → (O → K → List ℕ → O → Type 0) → List (End sent) → O → O → Type 0
AllLeave posts [] old new = new ≡ old
AllLeave {O} posts (end ∷ ends) old new = (mid : O) × Leaves posts end.client end.reply old mid × AllLeave posts ends mid new

-- The waits of these clients end, and nothing else leaves. So many clients waited, so many more came, and so many wait now.
pub record Ends {O K : Type 0} (sent : K → List ℕ → Type 0) (posts : O → K → List ℕ → O → Type 0) (more waiting : ℕ) (old : O) (waiting' : ℕ) (new : O) : Type 0 where
  pub ends : List (End sent)
  pub left : AllLeave posts ends old new
  pub count : waiting' + length ends ≡ waiting + more
