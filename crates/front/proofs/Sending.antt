-- What leaves by the socket of the service, one call after another.
use Rattle.std.proofs.Common.{◌≡◌, ◌∙◌, ◌<◌, ◌+◌, ◌++◌, ℕ, List, [], ◌∷◌, get_or, length, map, take, ap, sym, refl, subst, append_assoc}
use Rattle.std.proofs.lemmas.List.{append-nil, map_more}
use Rattle.std.specs.declared.net.SocketAddr.{SocketAddr}
use Rattle.flight.specs.Told.{octets_of}
use Rattle.front.specs.declared.outgoing.Outgoing.{Outgoing}
use Rattle.front.specs.Moves.{AllMoved, Datagram, Moves, datagram_to, sent, sent_in, taken_in, took}
use Rattle.front.specs.Outgoing.{OutboxState, Posts, datagram_of}
use Rattle.front.proofs.Moving.{all_done_then, all_moved_then, each_sent, each_taken, none_sent, none_taken, only_sent, only_taken, sent_then, taken_then}

-- None waits where none waits in the same outbox.
pub none_waits : {S : Type 0} {old new : OutboxState S} → old ≡ new → new.waiting ≡ [] → old.waiting ≡ []
none_waits {S = S} same none = ap (λ (out : OutboxState S). out.waiting) same ∙ none

module _ {S : Type 0} (sends : Moves S) where
  -- The next of those that wait was sent.
  pub sent_on : (waiting : List Outgoing) (i : ℕ) (out : Outgoing) (old mid new : S) → i < length waiting → out ≡ get_or waiting i out
      → AllMoved sends (map datagram_of (take i waiting)) old mid → sends mid out.peer (octets_of out.reply) new → AllMoved sends (map datagram_of (take (i + 1) waiting)) old new
  sent_on waiting i out old mid new within is before went =
      let next = map_more datagram_of waiting i out within ∙ ap (λ (o : Outgoing). map datagram_of (take i waiting) ++ datagram_of o ∷ []) (sym is) in
      subst (λ (list : List Datagram). AllMoved sends list old new) (sym next) (all_moved_then sends (map datagram_of (take i waiting)) (datagram_of out ∷ []) old mid new before (new, went, refl))

module _ {S : Type 0} {takes sends : Moves S} where
  -- Nothing leaves.
  pub posts_none : {old new : OutboxState S} → new ≡ old → Posts takes sends [] [] old new
  posts_none same =
      record { moves = []; went = ap (λ (out : OutboxState S). out.socket) same; took = refl; order = ap (λ (out : OutboxState S). out.waiting) same ∙ sym (append-nil _) }

  -- Datagrams are taken, and nothing leaves.
  pub posts_taken : {old new : OutboxState S} (list : List Datagram) → AllMoved takes list old.socket new.socket → new.waiting ≡ old.waiting → Posts takes sends list [] old new
  posts_taken {old = old} {new = new} list went waiting =
      record {
        moves = map took list;
        went = only_taken takes sends list old.socket new.socket went;
        took = each_taken list;
        order = ap (λ (front : List Datagram). front ++ new.waiting) (none_sent list) ∙ waiting ∙ sym (append-nil _);
      }

  -- What leaves leaves in order.
  pub posts_then : {taken taken' more more' : List Datagram} {old mid new : OutboxState S} → Posts takes sends taken more old mid → Posts takes sends taken' more' mid new
      → Posts takes sends (taken ++ taken') (more ++ more') old new
  posts_then {taken = taken} {taken' = taken'} {more = more} {more' = more'} {old = old} {mid = mid} {new = new} first second =
      record {
        moves = first.moves ++ second.moves;
        went = all_done_then takes sends first.moves second.moves old.socket mid.socket new.socket first.went second.went;
        took = taken_then first.moves second.moves ∙ ap (λ (front : List Datagram). front ++ taken_in second.moves) first.took ∙ ap (λ (rest : List Datagram). taken ++ rest) second.took;
        order = ap (λ (front : List Datagram). front ++ new.waiting) (sent_then first.moves second.moves)
            ∙ append_assoc (sent_in first.moves) (sent_in second.moves) new.waiting ∙ ap (λ (rest : List Datagram). sent_in first.moves ++ rest) second.order
            ∙ sym (append_assoc (sent_in first.moves) mid.waiting more') ∙ ap (λ (rest : List Datagram). rest ++ more') first.order ∙ append_assoc old.waiting more more';
      }

  -- All that waited was sent.
  pub flushed : (old new : OutboxState S) → new.waiting ≡ [] → AllMoved sends old.waiting old.socket new.socket → Posts takes sends [] [] old new
  flushed old new none went =
      record {
        moves = map sent old.waiting;
        went = only_sent takes sends old.waiting old.socket new.socket went;
        took = none_taken old.waiting;
        order = ap (λ (front : List Datagram). front ++ new.waiting) (each_sent old.waiting) ∙ ap (λ (rest : List Datagram). old.waiting ++ rest) none;
      }

  -- The same where the same datagrams waited.
  pub with_waiting : {more waiting waiting' : List Datagram} {socket : S} {new : OutboxState S} → waiting' ≡ waiting
      → Posts takes sends [] more (record { socket = socket; waiting = waiting' }) new → Posts takes sends [] more (record { socket = socket; waiting = waiting }) new
  with_waiting {more = more} {socket = socket} {new = new} same posts = subst (λ (list : List Datagram). Posts takes sends [] more (record { socket = socket; waiting = list }) new) same posts

  -- One was sent where none waits.
  pub sent_at_once : {old mid new : OutboxState S} {peer : SocketAddr} {octets : List ℕ} → Posts takes sends [] [] old mid → mid.waiting ≡ [] → new.waiting ≡ [] → sends mid.socket peer octets new.socket
      → Posts takes sends [] (datagram_to peer octets ∷ []) old new
  sent_at_once {old = old} {mid = mid} {new = new} {peer = peer} {octets = octets} before none none' went =
      let one = datagram_to peer octets in
      let after : Posts takes sends [] (one ∷ []) mid new = record {
        moves = sent one ∷ [];
        went = (new.socket, went, refl);
        took = refl;
        order = ap (λ (rest : List Datagram). one ∷ rest) none' ∙ ap (λ (front : List Datagram). front ++ one ∷ []) (sym none);
      } in
      posts_then before after
