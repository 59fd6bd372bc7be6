use Rattle.std.proofs.Common.{subst}
use Rattle.history.specs.declared.event.Ask.TheVariants.{Answer as Asked}
use Rattle.history.specs.declared.event.Event.TheVariants.{Look}
use Rattle.history.specs.declared.event.Seen.TheVariants.{Held}
use Rattle.iterate.specs.declared.lookup_reply.Looked.{Looked}
use Rattle.iterate.specs.declared.want.Input.{Input}
use Rattle.iterate.specs.declared.want.Want.TheVariants.{Book}
use Rattle.iterate.specs.Exchanges.{exchange, Adds}
use Rattle.iterate.specs.Looked.{seen_of, IsReplied}
use Rattle.iterate.proofs.Arriving.{unasked_looked}
use Rattle.iterate.proofs.PathTurns.{turned, seeing, path_some}
use Rattle.iterate.proofs.path.seen_on.Goals as goal

pub returns-in-Unknown : goal.returns-in-Unknown
returns-in-Unknown c = λ port m id question input before log b replied adds.
    let here = subst (λ (w : Looked). IsReplied c.args.path.last input (seen_of w)) c.in-Unknown.is replied in
    let none = subst (λ (i : Input). Adds before (exchange (Book (Look m (Asked c.args.path.last))) i) log) here.replied adds in
    c.alias.ensures port id question log (unasked_looked b none)

pub returns-in_ok-held_ending-in-Held : goal.returns-in_ok-held_ending-in-Held
returns-in_ok-held_ending-in-Held c = λ port m id question input before log b replied adds.
    let here = subst (λ (w : Looked). IsReplied c.args.path.last input (seen_of w)) c.in-Held.is replied in
    let shows = subst (λ (i : Input). Adds before (exchange (Book (Look m (Asked c.args.path.last))) i) log) here.replied adds in
    turned c.ended.ensures.phase c.ended.ensures.want
    (seeing c.args.path (Held c.in-Held.shown.now) (path_some 3 b.is_path) b.is_path shows (c.in_ok-held_ending-in-Held.ensures c.args.path.last here.lawful))

pub returns-in-Local : goal.returns-in-Local
returns-in-Local c = λ port m id question input before log b replied adds.
    let here = subst (λ (w : Looked). IsReplied c.args.path.last input (seen_of w)) c.in-Local.is replied in
    c.local_on.ensures port m _ id question before log b here.lawful
    (subst (λ (i : Input). Adds before (exchange (Book (Look m (Asked c.args.path.last))) i) log) here.replied adds)
