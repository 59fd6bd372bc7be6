use Rattle.std.proofs.Common.{[], subst}
use Rattle.history.specs.declared.event.Ask.TheVariants.{Answer as Asked}
use Rattle.history.specs.declared.event.Event.TheVariants.{Look}
use Rattle.iterate.specs.declared.lookup_reply.Looked.{Looked}
use Rattle.iterate.specs.declared.want.Input.{Input}
use Rattle.iterate.specs.declared.want.Want.TheVariants.{Book}
use Rattle.iterate.specs.Exchanges.{exchange, Adds}
use Rattle.iterate.specs.Looked.{seen_of, IsReplied}
use Rattle.iterate.proofs.first_lookup.answer_seen.Goals as goal

pub returns-in-Unknown : goal.returns-in-Unknown
returns-in-Unknown c = λ port m question input log replied adds.
    let here = subst (λ (w : Looked). IsReplied question input (seen_of w)) c.in-Unknown.is replied in here.replied

pub returns-in_ok-answer_held-in-Held : goal.returns-in_ok-answer_held-in-Held
returns-in_ok-answer_held-in-Held c = λ port m question input log replied adds.
    let here = subst (λ (w : Looked). IsReplied question input (seen_of w)) c.in-Held.is replied in
    c.in_ok-answer_held-in-Held.ensures port m question log here.lawful
    (subst (λ (i : Input). Adds [] (exchange (Book (Look m (Asked question))) i) log) here.replied adds)

pub returns-in_ok-answer_local-in-Local : goal.returns-in_ok-answer_local-in-Local
returns-in_ok-answer_local-in-Local c = λ port m question input log replied adds.
    let here = subst (λ (w : Looked). IsReplied question input (seen_of w)) c.in-Local.is replied in
    c.in_ok-answer_local-in-Local.ensures port m question log here.lawful
    (subst (λ (i : Input). Adds [] (exchange (Book (Look m (Asked question))) i) log) here.replied adds)
