use Rattle.std.proofs.Common.{◌≡◌, ◌∙◌, ℕ, Bool, false, List, Option, Some, None, OnSome, inl, inr, refl, rules, subst, sym}
use Rattle.std.specs.Prelude.{◌⊎◌, IfNone, IfSome}
use Rattle.dns_query.specs.declared.over.Over.{Over}
use Rattle.dns_text.specs.declared.addr.Addr.{Addr}
use Rattle.history.specs.declared.servers.Servers.{Servers}
use Rattle.outside.specs.declared.pauses.Pauses.{Pauses}
use Rattle.outside.specs.Pauses.{IsPassedOver}
use Rattle.outside.specs.Pauses.HeedsPause.{passed_over}
use Rattle.outside.specs.Refusals.{LooksUpList}
use Rattle.system.specs.Counts.{Rises}
use Rattle.outside.proofs.Remembering.{refuted}
use Rattle.front_workers.proofs.worker_sockets.WorkerSocketsSocketsSocketLine.open.Goals as goal

-- The same of equal addresses and of an equal query.
passed_by : (addr : Addr) (others others' : List Addr) (over : Over) (octets query : List ℕ) (now : ℕ) (pauses : Pauses) → others ≡ others' → octets ≡ query
    → IsPassedOver addr others over octets now pauses → IsPassedOver addr others' over query now pauses
passed_by addr others others' over octets query now pauses is same passed =
    subst (λ (o : List Addr). IsPassedOver addr o over query now pauses) is (subst (λ (q : List ℕ). IsPassedOver addr others over q now pauses) same passed)

-- What holds of each exchange holds of the one that began, if one did.
of_line : {L : Type 0} (result : Option L) (waits : L → Bool) (A B M : Type 0) → A → B → OnSome result M → IfSome result (λ line. A × B × (waits line ≡ false → M))
of_line None waits A B M a b m = tt
of_line (Some line) waits A B M a b m = (a, b, λ sent. m)

-- One of three reasons is the last, if there is no exchange.
of_none : {L : Type 0} (result : Option L) (A B N : Type 0) → IfNone result N → IfNone result (A ⊎ (B ⊎ N))
of_none None A B N none = inr (inr none)
of_none (Some line) A B N none = tt

pub returns-then-not-lets_through-clause-failed : goal.returns-then-not-lets_through-clause-failed
returns-then-not-lets_through-clause-failed g c =
    let same = c.as_slice-octets.ensures ∙ c.get.ensures in
    let passed = c.lets_through.ensures.passed_over c.if-not-lets_through.true in
    inr (inl (passed_by c.args.server.now _ _ c.args.over _ _ c.args.self.now.moment c.args.self.now.pauses c.others_of.ensures same passed.0))

pub returns-then-not-lets_through-clause-pauses : goal.returns-then-not-lets_through-clause-pauses
returns-then-not-lets_through-clause-pauses g c =
    let same = c.as_slice-octets.ensures ∙ c.get.ensures in
    let passed = c.lets_through.ensures.passed_over c.if-not-lets_through.true in
    let once = subst (λ (asked : ℕ). Rises c.args.self.now.permits.asked asked) (sym c.end.ensures) c.ask.ensures.asked in
    (refl, inr once, passed_over (passed_by c.args.server.now _ _ c.args.over _ _ c.args.self.now.moment c.args.self.now.pauses c.others_of.ensures same passed.0) (search rules) passed.1)

pub returns-clause-watched : goal.returns-clause-watched
returns-clause-watched g c = subst (λ (key : ℕ). IfSome c.begin.result (λ line. line.token.0 ≡ key)) c.in-Ok.ensures.key c.begin.ensures.watched

pub returns-clause-failed : goal.returns-clause-failed
returns-clause-failed g c = of_none c.begin.result _ _ _ c.begin.ensures.asks.1

pub returns-clause-may_ask : goal.returns-clause-may_ask
returns-clause-may_ask g c =
    let free = subst (λ (list : Option Servers). LooksUpList c.args.server.now c.args.over list c.args.self.now.moment c.args.self.now.refusals) c.list_of_strangers-list.ensures
    (c.has_list.ensures.free c.if-has_list.false)
    in
    of_line c.begin.result (λ line. line.waits) _ _ _ (refuted c.is_withheld.ensures c.if-is_withheld.false) free c.begin.ensures.asks.0
