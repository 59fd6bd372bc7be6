-- The ends of datagrams, and what leaves for them.
use Rattle.std.proofs.Common.{◌≡◌, ◌+◌, ◌++◌, ℕ, List, [], ◌∷◌, length, ap, sym, refl, subst, inl, inr, arith}
use Rattle.std.specs.Prelude.{Option, Some, None}
use Rattle.std.specs.declared.net.SocketAddr.{SocketAddr}
use Rattle.replies.specs.Reply.{fault_octets}
use Rattle.flight.specs.Leaving.{AllLeave, End, Ends, Leaves}
use Rattle.front.specs.declared.client.UdpClient.{UdpClient}
use Rattle.front_workers.specs.Endings.{Ending, settled, refused, Endings, IsTooLong, Refuses, clients_in, leaving_for, settled_all, with_reply}
use Rattle.front.specs.Moves.{Datagram, Moves, datagram_to}
use Rattle.front.specs.Outgoing.{IsSentBy, OutboxState, Posts, PostsTo}
use Rattle.front.proofs.Sending.{posts_none, posts_then}

with_reply_then : {S : Type 0} (client : UdpClient S) (reply : Option (List ℕ)) (first second all : List Datagram) → all ≡ first ++ second
    → with_reply client reply all ≡ with_reply client reply first ++ second
with_reply_then client None first second all is = is
with_reply_then client (Some reply) first second all is = ap (λ (rest : List Datagram). datagram_to client.came.peer reply ∷ rest) is

-- What leaves for two lists of ends, in order.
pub leaving_then : {S : Type 0} {takes : Moves S} (first second : List (Ending takes)) → leaving_for (first ++ second) ≡ leaving_for first ++ leaving_for second
leaving_then [] second = refl
leaving_then (settled end ∷ first) second = with_reply_then end.client end.reply (leaving_for first) (leaving_for second) (leaving_for (first ++ second)) (leaving_then first second)
leaving_then (refused peer front long ∷ first) second = ap (λ (rest : List Datagram). datagram_to peer (fault_octets front 1) ∷ rest) (leaving_then first second)

pub clients_then : {S : Type 0} {takes : Moves S} (first second : List (Ending takes)) → clients_in (first ++ second) ≡ clients_in first + clients_in second
clients_then [] second = omega arith
clients_then (settled end ∷ first) second = omega (arith, clients_then first second)
clients_then (refused peer front long ∷ first) second = clients_then first second

clients_of : {S : Type 0} (takes : Moves S) (ends : List (End (IsSentBy takes))) → clients_in (settled_all takes ends) ≡ length ends
clients_of takes [] = refl
clients_of takes (end ∷ ends) = omega (arith, clients_of takes ends)

module _ {S : Type 0} {takes sends : Moves S} where
  -- The reply of one client, if it gets one, and what follows.
  posts_to_then : (client : UdpClient S) (reply : Option (List ℕ)) (more : List Datagram) (old mid new : OutboxState S)
      → Leaves (PostsTo takes sends) client reply old mid → Posts takes sends [] more mid new → Posts takes sends [] (with_reply client reply more) old new
  posts_to_then client None more old mid new same after = subst (λ (out : OutboxState S). Posts takes sends [] more out new) same after
  posts_to_then client (Some reply) more old mid new left after = posts_then left after

  -- The replies of clients.
  posts_all : (ends : List (End (IsSentBy takes))) (old new : OutboxState S) → AllLeave (PostsTo takes sends) ends old new → Posts takes sends [] (leaving_for (settled_all takes ends)) old new
  posts_all [] old new same = posts_none same
  posts_all (end ∷ ends) old new left = posts_to_then end.client end.reply _ old left.0 new left.1 (posts_all ends left.0 new left.2)

module _ {S : Type 0} {takes sends : Moves S} where
  -- The waits of clients end.
  pub endings_of : {more waiting waiting' : ℕ} {old new : OutboxState S} → Ends (IsSentBy takes) (PostsTo takes sends) more waiting old waiting' new → Endings takes sends more waiting old waiting' new
  endings_of {old = old} {new = new} ends = record { ends = settled_all takes ends.ends; left = posts_all ends.ends old new ends.left; count = omega (arith, ends.count, clients_of takes ends.ends) }

  -- Nothing ends, and what waits may leave.
  pub endings_none : {waiting waiting' : ℕ} {old new : OutboxState S} → Posts takes sends [] [] old new → waiting' ≡ waiting → Endings takes sends 0 waiting old waiting' new
  endings_none left same = record { ends = []; left = left; count = omega (arith, same) }

  -- A datagram is refused.
  pub endings_refused : {peer : SocketAddr} {front : List ℕ} {waiting : ℕ} {old new : OutboxState S} → ∥ IsTooLong takes peer front ∥₁ → Refuses takes sends peer front old new
      → Endings takes sends 0 waiting old waiting new
  endings_refused {peer = peer} {front = front} long refuses = elim refuses [
    | inl none ↦ record { ends = []; left = posts_none none.1; count = omega arith }
    | inr one ↦ record { ends = refused peer front long ∷ []; left = one.1; count = omega arith }
  ]

  -- Ends follow ends.
  pub endings_then : {more more' waiting between waiting' : ℕ} {old mid new : OutboxState S} → Endings takes sends more waiting old between mid → Endings takes sends more' between mid waiting' new
      → Endings takes sends (more + more') waiting old waiting' new
  endings_then {old = old} {new = new} first second =
      record {
        ends = first.ends ++ second.ends;
        left = subst (λ (list : List Datagram). Posts takes sends [] list old new) (sym (leaving_then first.ends second.ends)) (posts_then first.left second.left);
        count = omega (arith, clients_then first.ends second.ends, first.count, second.count);
      }

  -- Where nothing leaves before or after.
  pub endings_within : {more waiting waiting' : ℕ} {old before after new : OutboxState S} → before ≡ old → new ≡ after → Endings takes sends more waiting before waiting' after → Endings takes sends more waiting old waiting' new
  endings_within {more = more} {waiting = waiting} {waiting' = waiting'} {old = old} {after = after} front back ends =
      subst (λ (out : OutboxState S). Endings takes sends more waiting old waiting' out) (sym back) (subst (λ (out : OutboxState S). Endings takes sends more waiting out waiting' after) front ends)
