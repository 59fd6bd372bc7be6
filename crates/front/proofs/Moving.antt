-- What a socket took and sent, one call after another.
use Rattle.std.proofs.Common.{◌≡◌, ◌++◌, List, [], ◌∷◌, map, ap, refl, subst}
use Rattle.front.specs.Moves.{AllDone, AllMoved, Datagram, Move, Moves, sent, sent_in, taken_in, took}

-- Those that were taken in two lists, in order,
pub taken_then : (first second : List Move) → taken_in (first ++ second) ≡ taken_in first ++ taken_in second
taken_then [] second = refl
taken_then (took one ∷ first) second = ap (λ (rest : List Datagram). one ∷ rest) (taken_then first second)
taken_then (sent one ∷ first) second = taken_then first second

-- and those that were sent.
pub sent_then : (first second : List Move) → sent_in (first ++ second) ≡ sent_in first ++ sent_in second
sent_then [] second = refl
sent_then (took one ∷ first) second = sent_then first second
sent_then (sent one ∷ first) second = ap (λ (rest : List Datagram). one ∷ rest) (sent_then first second)

-- Where each was sent, none was taken,
pub none_taken : (list : List Datagram) → taken_in (map sent list) ≡ []
none_taken [] = refl
none_taken (one ∷ list) = none_taken list

pub each_sent : (list : List Datagram) → sent_in (map sent list) ≡ list
each_sent [] = refl
each_sent (one ∷ list) = ap (λ (rest : List Datagram). one ∷ rest) (each_sent list)

-- and where each was taken, none was sent.
pub none_sent : (list : List Datagram) → sent_in (map took list) ≡ []
none_sent [] = refl
none_sent (one ∷ list) = none_sent list

pub each_taken : (list : List Datagram) → taken_in (map took list) ≡ list
each_taken [] = refl
each_taken (one ∷ list) = ap (λ (rest : List Datagram). one ∷ rest) (each_taken list)

module _ {S : Type 0} (moves : Moves S) where
  -- What was moved after what was moved.
  pub all_moved_then : (first second : List Datagram) (old mid new : S) → AllMoved moves first old mid → AllMoved moves second mid new → AllMoved moves (first ++ second) old new
  all_moved_then [] second old mid new same rest = subst (λ (socket : S). AllMoved moves second socket new) same rest
  all_moved_then (one ∷ first) second old mid new went rest = (went.0, went.1, all_moved_then first second went.0 mid new went.2 rest)

module _ {S : Type 0} (takes sends : Moves S) where
  -- What was done after what was done.
  pub all_done_then : (first second : List Move) (old mid new : S) → AllDone takes sends first old mid → AllDone takes sends second mid new → AllDone takes sends (first ++ second) old new
  all_done_then [] second old mid new same rest = subst (λ (socket : S). AllDone takes sends second socket new) same rest
  all_done_then (took one ∷ first) second old mid new went rest = (went.0, went.1, all_done_then first second went.0 mid new went.2 rest)
  all_done_then (sent one ∷ first) second old mid new went rest = (went.0, went.1, all_done_then first second went.0 mid new went.2 rest)

  -- Where datagrams were sent, and nothing else was done,
  pub only_sent : (list : List Datagram) (old new : S) → AllMoved sends list old new → AllDone takes sends (map sent list) old new
  only_sent [] old new same = same
  only_sent (one ∷ list) old new went = (went.0, went.1, only_sent list went.0 new went.2)

  -- or taken.
  pub only_taken : (list : List Datagram) (old new : S) → AllMoved takes list old new → AllDone takes sends (map took list) old new
  only_taken [] old new same = same
  only_taken (one ∷ list) old new went = (went.0, went.1, only_taken list went.0 new went.2)
