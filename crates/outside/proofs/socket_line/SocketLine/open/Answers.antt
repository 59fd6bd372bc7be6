use Rattle.std.proofs.Common.{◌≡◌, ◌∙◌, ◌<◌, ℕ, List, inl, inr, length, subst}
use Rattle.std.specs.Prelude.{Result, Ok, Err, OnErr}
use Rattle.outside.specs.declared.framed_query.TheConstants.{MOST_QUERY}
use Rattle.replies.specs.Framing.{framed}
use Rattle.outside.proofs.socket_line.SocketLine.open.Goals as goal
use Rattle.outside.proofs.socket_line.SocketLine.open.Goals.{in-Udp+in_ok-begin-in-Udp, in-Tcp+in_ok-begin-in-Tcp}

-- A fact holds if the result is an error.
on_err : {A E : Type 0} {fact : Type 0} (result : Result A E) → fact → OnErr result fact
on_err (Ok _) is = tt
on_err (Err _) is = is

pub invariant_of-result : goal.invariant_of-result
invariant_of-result g c = elim c.match-over.branch [
  | in-Udp+in_ok-begin-in-Udp w ↦
      let same : c.as_slice-octets.result.now ≡ c.args.query = c.as_slice-octets.ensures ∙ c.get.ensures in
      rw w.way'-is (record {
        over = w.in-Udp.is;
        place = c.place_of-place.result;
        is_place = c.place_of-place.ensures;
        at = w.in_ok-begin-in-Udp.ensures.opened;
        reported_as = w.in_ok-begin-in-Udp.ensures.reported;
        asks = subst (λ octets. g.R.Datagrams.ReadySocket.sent w.in_ok-begin-in-Udp.field-0.socket octets) same w.in_ok-begin-in-Udp.ensures.sent;
      })
  | in-Tcp+in_ok-begin-in-Tcp w ↦
      let same : c.as_slice-octets.result.now ≡ c.args.query = c.as_slice-octets.ensures ∙ c.get.ensures in
      rw w.way'-is (record {
        over = w.in-Tcp.is;
        place = c.place_of-place.result;
        is_place = c.place_of-place.ensures;
        fresh = w.in_ok-begin-in-Tcp.field-0.stream;
        at = w.in_ok-begin-in-Tcp.ensures.connected;
        reported_as = w.in_ok-begin-in-Tcp.ensures.reported;
        asks = subst (λ octets. w.in_ok-begin-in-Tcp.field-0.asks ≡ framed octets) same w.in_ok-begin-in-Tcp.ensures.asks;
        went = w.in_ok-begin-in-Tcp.ensures.went;
      })
]

pub returns-clause-may_ask : goal.returns-clause-may_ask
returns-clause-may_ask g c = elim c.match-over.branch [
  | in-Udp+in_ok-begin-in-Udp w ↦ rw w.in-Udp.is (c.place_of-place.result, c.place_of-place.ensures, (w.in_ok-begin-in-Udp.field-0.socket, w.in_ok-begin-in-Udp.ensures.opened, w.in_ok-begin-in-Udp.ensures.may_ask))
  | in-Tcp+in_ok-begin-in-Tcp w ↦ rw w.in-Tcp.is (c.place_of-place.result, c.place_of-place.ensures, (w.in_ok-begin-in-Tcp.field-0.stream, w.in_ok-begin-in-Tcp.ensures.connected, w.in_ok-begin-in-Tcp.ensures.may_ask))
]

pub returns-in_err-begin-in-Udp-clause-failed : goal.returns-in_err-begin-in-Udp-clause-failed
returns-in_err-begin-in-Udp-clause-failed g c =
    on_err c.from_residual.result
    (record {
      udp = λ over. (c.place_of-place.result, c.place_of-place.ensures, c.in_err-begin-in-Udp.ensures.failed);
      tcp = λ over. absurd (cc (c.in-Udp.is, over));
    })

pub returns-in_err-begin-in-Tcp-clause-failed : goal.returns-in_err-begin-in-Tcp-clause-failed
returns-in_err-begin-in-Tcp-clause-failed g c =
    let same : c.as_slice-octets.result.now ≡ c.args.query = c.as_slice-octets.ensures ∙ c.get.ensures in
    on_err c.from_residual-in_err-begin-in-Tcp.result
    (record {
      udp = λ over. absurd (cc (c.in-Tcp.is, over));
      tcp = λ over. elim c.in_err-begin-in-Tcp.ensures.failed [
        | inl long ↦ inl (subst (λ (query : List ℕ). MOST_QUERY < length query) same long)
        | inr none ↦ inr (c.place_of-place.result, c.place_of-place.ensures, none)
      ];
    })
