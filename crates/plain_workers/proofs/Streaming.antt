-- A stream goes on by one message.
use Rattle.std.proofs.Common.{◌≡◌, ◌<◌, ◌^◌, ℕ, Bool, false, List, [], ◌∷◌, ◌++◌, length, take, Option, refl, inl, inr, arith, ap, sym, subst, ◌∙◌, append_assoc}
use Rattle.std.proofs.lemmas.Grind.{flat_map-append}
use Rattle.std.proofs.lemmas.List.{append-nil}
use Rattle.std.specs.Prelude.{Result, Ok, Err, IsErrAnd, flat_map}
use Rattle.std.specs.Io.KnownBytes.{Consumes, Appends}
use Rattle.streams.specs.Laws.{Consumes-then, Appends-then}
use Rattle.streams.specs.Transcript.{Obeying, Transcript}
use Rattle.replies.specs.declared.fault.StreamFault.{StreamFault}
use Rattle.replies.specs.declared.fault.StreamFault.TheVariants.{Read, Write, Short, NoMemory}
use Rattle.replies.specs.Framing.{framed, length_octets, HasLength, MessageCame}
use Rattle.dns_query.specs.declared.over.Over.TheVariants.{Tcp}
use Rattle.clock.specs.Ticks.{Ticks}
use Rattle.replies.specs.Calls.{Calls, Lent}
use Rattle.plain_workers.specs.Leads.{Asks}
use Rattle.plain_workers.specs.Stream.{Serving, Lacking, Served, ServedOne, Streams, serving, lacking, unread, unserved, untold}

-- One message more is read.
pub read_one : (u v w : Option (List ℕ)) (messages : List (List ℕ)) (m : List ℕ) → Consumes u v (flat_map framed messages) → Consumes v w (framed m) → Consumes u w (flat_map framed (messages ++ m ∷ []))
read_one u v w messages m before one =
    let e : flat_map framed (messages ++ m ∷ []) ≡ flat_map framed messages ++ framed m = flat_map-append framed messages (m ∷ []) ∙ ap (λ (l : List ℕ). flat_map framed messages ++ l) (append-nil (framed m)) in
    subst (λ (l : List ℕ). Consumes u w l) (sym e) (Consumes-then u v w (flat_map framed messages) (framed m) before one)

-- One message more is served, and its reply written.
pub tell_one : (O : Type 0) (obeys : Obeying O) (o mid next : O) (messages : List (List ℕ)) (m out text : List ℕ)
    → Transcript obeys o messages out mid → obeys mid m text false next → Transcript obeys o (messages ++ m ∷ []) (out ++ text) next
tell_one O obeys o mid next [] m out text before one =
    subst (λ (u : List ℕ). Transcript obeys o (m ∷ []) (u ++ text) next) (sym before.0)
    (subst (λ (p : O). Transcript obeys p (m ∷ []) text next) before.1 (text, next, [], one, (refl, refl), sym (append-nil text)))
tell_one O obeys o mid next (x ∷ xs) m out text before one =
    (before.0, before.1, before.2 ++ text, before.3, tell_one O obeys before.1 mid next xs m before.2 text before.4 one, ap (λ (u : List ℕ). u ++ text) before.5 ∙ append_assoc before.0 before.2 text)

-- A message that came is the last, by a fault.
pub stopped : {O : Type 0} (serves : Serving O) (lacks : Lacking O) (fault : StreamFault) (o mid next : O) (u v w held part held' : Option (List ℕ)) (messages : List (List ℕ)) (m out : List ℕ)
    → Consumes u v (flat_map framed messages) → Served serves o messages out mid → Appends held part out
    → HasLength m → Consumes v w (framed m) → ServedOne {A = Unit {0}} serves lacks (Err fault) m mid next part held'
    → Streams {A = Unit {0}} serves lacks (Err fault) o next u w held held'
stopped serves lacks Write o mid next u v w held part held' messages m out before served wrote short came one =
    (messages, m, out, mid, one.0, one.2, read_one u v w messages m before came, served, short, one.1, Appends-then held part held' out (take one.2 (framed one.0)) wrote one.3)
stopped {O = O} serves lacks NoMemory o mid next u v w held part held' messages m out before served wrote short came one = (
  messages,
  framed m,
  out,
  mid,
  Consumes-then u v w (flat_map framed messages) (framed m) before came,
  served,
  elim one.0 [ inl lack ↦ unserved short refl lack | inr reply ↦ untold short refl reply.1 ],
  subst (λ (l : List ℕ). Appends held held' l) (append-nil out) (Appends-then held part held' out [] wrote one.1),
)
stopped serves lacks Read o mid next u v w held part held' messages m out before served wrote short came one = absurd one
stopped serves lacks Short o mid next u v w held part held' messages m out before served wrote short came one = absurd one

-- No message came, by a fault.
pub broken : {O : Type 0} (serves : Serving O) (lacks : Lacking O) (fault : StreamFault) (o next : O) (u v w held held' : Option (List ℕ)) (messages : List (List ℕ)) (out : List ℕ)
    → Consumes u v (flat_map framed messages) → Served serves o messages out next → Appends held held' out → MessageCame (Err fault) v w
    → Streams {A = Unit {0}} serves lacks (Err fault) o next u w held held'
broken serves lacks Read o next u v w held held' messages out before served wrote came =
    (messages, came.0, out, Consumes-then u v w (flat_map framed messages) came.0 before came.2, came.1, served, wrote)
broken serves lacks Short o next u v w held held' messages out before served wrote came =
    (messages, came.0, out, Consumes-then u v w (flat_map framed messages) came.0 before came.3, came.1, came.2, came.4, served, wrote)
broken serves lacks NoMemory o next u v w held held' messages out before served wrote came =
    (messages, length_octets came.0, out, next, Consumes-then u v w (flat_map framed messages) (length_octets came.0) before came.2, served, unread came.1 refl refl, wrote)
broken serves lacks Write o next u v w held held' messages out before served wrote came = absurd came

-- The fault that breaks the stream off is what `?` hands on.
pub handed_on : {O : Type 0} (serves : Serving O) (lacks : Lacking O) (fault : StreamFault) (o next : O) (u v held held' : Option (List ℕ)) (result : Result (Unit {0}) StreamFault)
    → IsErrAnd result (λ e. e ≡ fault) → Streams {A = Unit {0}} serves lacks (Err fault) o next u v held held' → Streams {A = Unit {0}} serves lacks result o next u v held held'
handed_on serves lacks fault o next u v held held' (Ok _) is streams = absurd is
handed_on serves lacks fault o next u v held held' (Err e) is streams = subst (λ (f : StreamFault). Streams {A = Unit {0}} serves lacks (Err f) o next u v held held') (sym is) streams

-- One message is served at the same port of name servers.
pub at_port : {D X C : Type 0} (calls : Calls D) (asks : Asks X) (ticks : Ticks C) (fault : StreamFault) (here there : ℕ) (m : List ℕ) (o next : D × X × Lent C) (old new : Option (List ℕ)) → here ≡ there
    → ServedOne {A = Unit {0}} (serving calls asks ticks here Tcp) (lacking calls asks ticks here) (Err fault) m o next old new
    → ServedOne {A = Unit {0}} (serving calls asks ticks there Tcp) (lacking calls asks ticks there) (Err fault) m o next old new
at_port calls asks ticks fault here there m o next old new e one =
    subst (λ (n : ℕ). ServedOne {A = Unit {0}} (serving calls asks ticks n Tcp) (lacking calls asks ticks n) (Err fault) m o next old new) e one
