-- A datagram that was taken and does not fit.
use Rattle.std.proofs.Common.{◌≡◌, ◌≤◌, ◌+◌, ℕ, List, Result, Ok, Err, IfOk, sym, ◌∙◌, ap, subst, arith}
use Rattle.std.specs.declared.io.Error.{Error}
use Rattle.mio.specs.declared.token.Token.{Token}
use Rattle.outside.specs.declared.heard.UdpHeard.{UdpHeard}
use Rattle.outside.specs.declared.heard.UdpHeard.TheVariants.{Nothing, Reply, Misfits}
use Rattle.outside.specs.Datagrams.{CountsMisfit, EndsByMisfit, HearsNothing, UdpState}
use Rattle.outside.specs.Datagrams.HearsNothing.{struck}
use Rattle.outside.specs.Fits.{Fits}

module _ {S : Type 0} (came : S → List ℕ → Type 0) (takes : S → List ℕ → S → Type 0) (again : S → Token → Type 0) (token : Token) (query octets : List ℕ) (old mid new : UdpState S) where
  -- If it is one too many, it ends the exchange.
  pub ends_by : (result : Result UdpHeard Error) → came old.socket octets → takes old.socket octets mid.socket → ¬ (Fits query octets) → mid.misfits ≡ old.misfits → new.socket ≡ mid.socket
      → IfOk result (λ heard. CountsMisfit again token heard mid new) → IfOk result (λ heard. heard ≡ Misfits → EndsByMisfit came takes query old new)
  ends_by (Err error) is took misfit count kept heard = tt
  ends_by (Ok Nothing) is took misfit count kept heard = λ other. absurd cc
  ends_by (Ok (Reply size)) is took misfit count kept heard = absurd heard
  ends_by (Ok Misfits) is took misfit count kept heard =
      λ same. ((octets, is, subst (λ (socket : S). takes old.socket octets socket) (sym kept) took, misfit), omega (arith, heard, count))

  -- Else it is counted, and nothing is heard.
  pub counted : (drained interrupted : S → Type 0) (result : Result UdpHeard Error) → came old.socket octets → takes old.socket octets mid.socket → ¬ (Fits query octets) → mid.misfits ≡ old.misfits → new.socket ≡ mid.socket
      → IfOk result (λ heard. CountsMisfit again token heard mid new) → IfOk result (λ heard. heard ≡ Nothing → HearsNothing came takes drained interrupted again token query old new)
  counted drained interrupted (Err error) is took misfit count kept heard = tt
  counted drained interrupted (Ok Misfits) is took misfit count kept heard = λ other. absurd cc
  counted drained interrupted (Ok (Reply size)) is took misfit count kept heard = absurd heard
  counted drained interrupted (Ok Nothing) is took misfit count kept heard =
      λ same. struck (octets, is, subst (λ (socket : S). takes old.socket octets socket) (sym kept) took, misfit)
      (subst (λ (socket : S). again socket token) (sym kept) heard.1) (heard.0 ∙ ap (λ (n : ℕ). n + 1) count)
