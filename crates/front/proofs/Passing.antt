-- The octets that passed by a connection, one call after another.
use Rattle.std.proofs.Common.{◌≡◌, ◌∙◌, ◌++◌, ℕ, List, [], ◌∷◌, ap, refl, subst, sym, append_assoc, flat_map}
use Rattle.std.proofs.lemmas.List.{append-nil}
use Rattle.std.proofs.lemmas.Grind.{flat_map-append}
use Rattle.replies.specs.Framing.{framed}
use Rattle.front.specs.Connections.{ConnectionState, Serves}
use Rattle.front.specs.Passages.{AllPassed, Passage, Passes, read, read_in, written, written_in}

read_then : (first second : List Passage) → read_in (first ++ second) ≡ read_in first ++ read_in second
read_then [] second = refl
read_then (read octets ∷ first) second = ap (λ (rest : List ℕ). octets ++ rest) (read_then first second) ∙ sym (append_assoc octets (read_in first) (read_in second))
read_then (written octets ∷ first) second = read_then first second

written_then : (first second : List Passage) → written_in (first ++ second) ≡ written_in first ++ written_in second
written_then [] second = refl
written_then (read octets ∷ first) second = written_then first second
written_then (written octets ∷ first) second = ap (λ (rest : List ℕ). octets ++ rest) (written_then first second) ∙ sym (append_assoc octets (written_in first) (written_in second))

module _ {S : Type 0} (reads writes : Passes S) where
  all_passed_then : (first second : List Passage) (old mid new : S) → AllPassed reads writes first old mid → AllPassed reads writes second mid new → AllPassed reads writes (first ++ second) old new
  all_passed_then [] second old mid new same rest = subst (λ (stream : S). AllPassed reads writes second stream new) same rest
  all_passed_then (read octets ∷ first) second old mid new went rest = (went.0, went.1, all_passed_then first second went.0 mid new went.2 rest)
  all_passed_then (written octets ∷ first) second old mid new went rest = (went.0, went.1, all_passed_then first second went.0 mid new went.2 rest)

-- What came, or left, in two parts: each part begins with what the one before it left open.
joined : (begun first second done done' mid new : List ℕ) → begun ++ first ≡ done ++ mid → mid ++ second ≡ done' ++ new → begun ++ (first ++ second) ≡ (done ++ done') ++ new
joined begun first second done done' mid new one two =
    sym (append_assoc begun first second) ∙ ap (λ (front : List ℕ). front ++ second) one ∙ append_assoc done mid second ∙ ap (λ (rest : List ℕ). done ++ rest) two ∙ sym (append_assoc done done' new)

-- The same the other way round.
parted : (first second owed owed' more more' new : List ℕ) → first ++ owed' ≡ owed ++ more → second ++ new ≡ owed' ++ more' → (first ++ second) ++ new ≡ owed ++ (more ++ more')
parted first second owed owed' more more' new one two =
    append_assoc first second new ∙ ap (λ (rest : List ℕ). first ++ rest) two ∙ sym (append_assoc first owed' more') ∙ ap (λ (front : List ℕ). front ++ more') one ∙ append_assoc owed more more'

module _ {S : Type 0} {reads writes : Passes S} where
  -- Nothing passed.
  pub serves_none : (old new : ConnectionState S) → new ≡ old → Serves reads writes [] [] old new
  serves_none old new same =
      subst (λ (state : ConnectionState S). Serves reads writes [] [] old state) (sym same)
      (record { passages = []; went = refl; came = append-nil old.begun; left = sym (append-nil old.owed); serial = refl; network = refl })

  -- Octets were read. The messages that are whole by then came, and nothing else happened.
  pub serves_read : (messages : List (List ℕ)) (octets : List ℕ) (old new : ConnectionState S) → reads old.stream octets new.stream → old.begun ++ octets ≡ flat_map framed messages ++ new.begun
      → new.owed ≡ old.owed → new.serial ≡ old.serial → new.network ≡ old.network → Serves reads writes messages [] old new
  serves_read messages octets old new went came owed serial network =
      record {
        passages = read octets ∷ [];
        went = (new.stream, went, refl);
        came = ap (λ (rest : List ℕ). old.begun ++ rest) (append-nil octets) ∙ came;
        left = owed ∙ sym (append-nil old.owed);
        serial = serial;
        network = network;
      }

  -- The first of what is owed was written.
  pub serves_written : (octets : List ℕ) (old new : ConnectionState S) → writes old.stream octets new.stream → octets ++ new.owed ≡ old.owed
      → new.begun ≡ old.begun → new.serial ≡ old.serial → new.network ≡ old.network → Serves reads writes [] [] old new
  serves_written octets old new went left begun serial network =
      record {
        passages = written octets ∷ [];
        went = (new.stream, went, refl);
        came = append-nil old.begun ∙ sym begun;
        left = ap (λ (front : List ℕ). front ++ new.owed) (append-nil octets) ∙ left ∙ sym (append-nil old.owed);
        serial = serial;
        network = network;
      }

  -- A reply came to be owed.
  pub serves_owed : (reply : List ℕ) (old new : ConnectionState S) → new.stream ≡ old.stream → new.owed ≡ old.owed ++ framed reply
      → new.begun ≡ old.begun → new.serial ≡ old.serial → new.network ≡ old.network → Serves reads writes [] (reply ∷ []) old new
  serves_owed reply old new went owed begun serial network =
      record {
        passages = [];
        went = went;
        came = append-nil old.begun ∙ sym begun;
        left = owed ∙ ap (λ (rest : List ℕ). old.owed ++ rest) (sym (append-nil (framed reply)));
        serial = serial;
        network = network;
      }

  -- What passed after what passed.
  pub serves_then : {messages messages' replies replies' : List (List ℕ)} {old mid new : ConnectionState S} → Serves reads writes messages replies old mid → Serves reads writes messages' replies' mid new
      → Serves reads writes (messages ++ messages') (replies ++ replies') old new
  serves_then {messages = messages} {messages' = messages'} {replies = replies} {replies' = replies'} {old = old} {mid = mid} {new = new} first second =
      record {
        passages = first.passages ++ second.passages;
        went = all_passed_then reads writes first.passages second.passages old.stream mid.stream new.stream first.went second.went;
        came = ap (λ (rest : List ℕ). old.begun ++ rest) (read_then first.passages second.passages)
            ∙ joined old.begun (read_in first.passages) (read_in second.passages) (flat_map framed messages) (flat_map framed messages') mid.begun new.begun first.came second.came
            ∙ ap (λ (front : List ℕ). front ++ new.begun) (sym (flat_map-append framed messages messages'));
        left = ap (λ (front : List ℕ). front ++ new.owed) (written_then first.passages second.passages)
            ∙ parted (written_in first.passages) (written_in second.passages) old.owed mid.owed (flat_map framed replies) (flat_map framed replies') new.owed first.left second.left
            ∙ ap (λ (rest : List ℕ). old.owed ++ rest) (sym (flat_map-append framed replies replies'));
        serial = second.serial ∙ first.serial;
        network = second.network ∙ first.network;
      }
