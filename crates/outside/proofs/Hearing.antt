-- What is heard of an exchange over a connection.
use Rattle.std.proofs.Common.{◌≡◌, ◌⊎◌, inl, inr, ℕ, Bool, true, List, take, Option, sym, ◌∙◌, subst, arith}
use Rattle.std.proofs.lemmas.List.{take_all}
use Rattle.std.specs.Io.KnownBytes.{Appends, Consumes}
use Rattle.std.specs.declared.net.SocketAddr.{SocketAddr}
use Rattle.mio.specs.declared.token.Token.{Token}
use Rattle.dns_query.specs.declared.over.Over.{Over}
use Rattle.dns_query.specs.declared.over.Over.TheVariants.{Udp as OverUdp, Tcp as OverTcp}
use Rattle.outside.specs.Asked.{ByStream, IsAskedAt}
use Rattle.replies.specs.Framing.{framed}
use Rattle.outside.specs.Line.{LineState, WentOn}
use Rattle.flight.specs.declared.sockets.Listened.{Listened}
use Rattle.flight.specs.declared.sockets.Listened.TheVariants.{Anew, Nothing, Came, Broken, NoMemory}
use Rattle.flight.specs.Told.{IsHeard}
use Rattle.outside.specs.declared.transport.Transport.{Transport}
use Rattle.outside.specs.declared.transport.Transport.TheVariants.{Udp, Tcp, Waiting, Closed}
use Rattle.outside.specs.Exchanges.{ExchangeState, AsksOn, HasMisfit, HasNoneYet, IsBroken, IsCutOff, IsDearReply, IsQuiet, IsStruck, IsUnderWay, OnUnbroken}
use Rattle.outside.specs.Exchanges.IsBroken.{cut_off, had_ended, too_dear}
use Rattle.outside.specs.Replies.{IfCame, IsReply, IsWholeReply, MayCome}

-- The whole query has left and a message came after it, which may be its reply: so it is.
pub heard_on : {S C : Type 0} (opened : S → SocketAddr → Type 0) (sent came : S → List ℕ → Type 0) (connected : C → SocketAddr → Type 0) (reported : C → Token → Type 0) (contents remaining : C → Option (List ℕ))
    (exchange : ExchangeState) (query : List ℕ) (old new : LineState C) (heard : Listened)
    → exchange.asked.query ≡ query → AsksOn connected reported contents remaining exchange old → new.asks ≡ old.asks
    → OnUnbroken heard (WentOn contents remaining old new) → IfCame (IsWholeReply query new) heard
    → IsHeard (MayCome opened sent came connected contents remaining exchange.asked) heard
heard_on opened sent came connected reported contents remaining exchange query old new Nothing is line asks went heard = tt
heard_on opened sent came connected reported contents remaining exchange query old new Broken is line asks went heard = tt
heard_on opened sent came connected reported contents remaining exchange query old new NoMemory is line asks went heard = tt
heard_on opened sent came connected reported contents remaining exchange query old new Anew is line asks went heard = tt
heard_on opened sent came connected reported contents remaining exchange query old new (Came octets) is line asks went heard =
    let now = went line.fresh line.went in
    let all : take new.left new.asks ≡ framed exchange.asked.query = take_all _ _ (omega (arith, heard.1)) ∙ asks ∙ line.asks in
    let way : ByStream connected contents remaining line.place exchange.asked.query octets = record {
      fresh = line.fresh;
      written = now.written;
      read = new.stream;
      at = line.at;
      asked = subst (Appends (contents line.fresh) (contents now.written)) all now.asked;
      told = subst (Consumes (remaining now.written) (remaining new.stream)) heard.2 now.told;
    } in (
      subst (λ (q : List ℕ). IsReply q octets) (sym is) heard.0,
      (line.place, line.is_place, subst (λ (over : Over). IsAskedAt opened sent came connected contents remaining over line.place exchange.asked.query octets) (sym line.over) way),
    )

-- An exchange whose way has none yet is quiet.
pub quiet : {S C : Type 0} (opened : S → SocketAddr → Type 0) (reported : S → Token → Type 0) (sent : S → List ℕ → Type 0) (connected : C → SocketAddr → Type 0) (reported' : C → Token → Type 0)
    (contents remaining : C → Option (List ℕ)) (drained : S → Type 0) (again : S → Token → Type 0) (exchange : ExchangeState) (way : Transport S C)
    → IsUnderWay opened reported sent connected reported' contents remaining exchange way → HasNoneYet drained again exchange.token way → IsQuiet sent drained again exchange
quiet opened reported sent connected reported' contents remaining drained again exchange (Udp line) under none over = (line.socket, under.asks, none)
quiet opened reported sent connected reported' contents remaining drained again exchange (Tcp line) under none over =
    let other : OverUdp ≡ OverTcp = sym over ∙ under.over in absurd cc
quiet opened reported sent connected reported' contents remaining drained again exchange Waiting under none over = absurd none
quiet opened reported sent connected reported' contents remaining drained again exchange Closed under none over = absurd none

-- Whether an exchange has ended changes nothing of its way.
pub under_as : {S C : Type 0} (opened : S → SocketAddr → Type 0) (reported : S → Token → Type 0) (sent : S → List ℕ → Type 0) (connected : C → SocketAddr → Type 0) (reported' : C → Token → Type 0)
    (contents remaining : C → Option (List ℕ)) (exchange : ExchangeState) (ended : Bool) (way : Transport S C)
    → IsUnderWay opened reported sent connected reported' contents remaining exchange way
    → IsUnderWay opened reported sent connected reported' contents remaining (record exchange { ended = ended }) way
under_as opened reported sent connected reported' contents remaining exchange ended (Udp line) under =
    record { over = under.over; place = under.place; is_place = under.is_place; at = under.at; reported_as = under.reported_as; asks = under.asks }
under_as opened reported sent connected reported' contents remaining exchange ended (Tcp line) under =
    record { over = under.over; place = under.place; is_place = under.is_place; fresh = under.fresh; at = under.at; reported_as = under.reported_as; asks = under.asks; went = under.went }
under_as opened reported sent connected reported' contents remaining exchange ended Waiting under = under
under_as opened reported sent connected reported' contents remaining exchange ended Closed under = tt

-- No exchange over TCP is over UDP.
pub cut_off_tcp : {S C : Type 0} (sent : S → List ℕ → Type 0) (failed : S → Type 0) {connected : C → SocketAddr → Type 0} {reported : C → Token → Type 0} {contents remaining : C → Option (List ℕ)}
    (exchange : ExchangeState) (line : LineState C) → AsksOn connected reported contents remaining exchange line → IsCutOff sent failed exchange
cut_off_tcp sent failed exchange line asks over = let other : OverUdp ≡ OverTcp = sym over ∙ asks.over in absurd cc

-- An exchange that had ended, or whose socket failed, is broken.
pub broken : {S : Type 0} (may : Option (List ℕ) → Type 0) (sent came : S → List ℕ → Type 0) (failed : S → Type 0) (exchange : ExchangeState)
    → (exchange.ended ≡ true) ⊎ IsCutOff sent failed exchange → IsBroken may sent came failed exchange
broken may sent came failed exchange (inl ended) = had_ended ended
broken may sent came failed exchange (inr fault) = cut_off fault

-- So is one whose reply is dear.
pub dear : {S : Type 0} (may : Option (List ℕ) → Type 0) (sent came : S → List ℕ → Type 0) (failed : S → Type 0) (exchange : ExchangeState) (heard : Listened)
    → IsHeard may heard → IsDearReply heard → IsBroken may sent came failed exchange
dear may sent came failed exchange (Came octets) is long = too_dear octets is long
dear may sent came failed exchange Nothing is long = absurd long
dear may sent came failed exchange Broken is long = absurd long
dear may sent came failed exchange NoMemory is long = absurd long
dear may sent came failed exchange Anew is long = absurd long

-- An exchange to whose socket a datagram came that does not fit is struck.
pub struck : {S C : Type 0} (opened : S → SocketAddr → Type 0) (reported : S → Token → Type 0) (sent came : S → List ℕ → Type 0) (connected : C → SocketAddr → Type 0) (reported' : C → Token → Type 0)
    (contents remaining : C → Option (List ℕ)) (exchange : ExchangeState) (way : Transport S C)
    → IsUnderWay opened reported sent connected reported' contents remaining exchange way → HasMisfit came exchange.asked.query way → IsStruck sent came exchange
struck opened reported sent came connected reported' contents remaining exchange (Udp line) under misfit = (line.socket, misfit.0, under.asks, misfit.1, misfit.2)
struck opened reported sent came connected reported' contents remaining exchange (Tcp line) under misfit = absurd misfit
struck opened reported sent came connected reported' contents remaining exchange Waiting under misfit = absurd misfit
struck opened reported sent came connected reported' contents remaining exchange Closed under misfit = absurd misfit
