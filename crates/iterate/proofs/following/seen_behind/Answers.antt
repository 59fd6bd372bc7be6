use Rattle.std.proofs.Common.{subst, arith}
use Rattle.std.proofs.lemmas.Result.{IfOk-weaker}
use Rattle.history.specs.declared.event.Ask.TheVariants.{Answer as Asked}
use Rattle.history.specs.declared.event.Event.TheVariants.{Look}
use Rattle.iterate.specs.declared.lookup_reply.Looked.{Looked}
use Rattle.iterate.specs.declared.want.Input.{Input}
use Rattle.iterate.specs.declared.want.Want.TheVariants.{Book}
use Rattle.iterate.specs.Exchanges.{exchange, Adds}
use Rattle.iterate.specs.Looked.{seen_of, IsReplied}
use Rattle.iterate.proofs.Falling.{few_is}
use Rattle.iterate.proofs.FollowTurns.{harvest_more}
use Rattle.iterate.proofs.Arriving.{unasked_looked}
use Rattle.iterate.proofs.PathTurns.{less_left, looks_less}
use Rattle.iterate.proofs.following.seen_behind.Goals as goal

pub returns-in-Unknown : goal.returns-in-Unknown
returns-in-Unknown c = λ port m id question input before log f replied adds.
    let here = subst (λ (w : Looked). IsReplied c.args.path.last input (seen_of w)) c.in-Unknown.is replied in
    let none = subst (λ (i : Input). Adds before (exchange (Book (Look m (Asked c.args.path.last))) i) log) here.replied adds in
    c.follow_in.ensures.goes port id question log (harvest_more f.1 adds) (unasked_looked f.0 none)

pub returns-in_default : goal.returns-in_default
returns-in_default c = λ port m id question input before log f replied adds.
    let less = looks_less c.args.path 3 4 (omega arith) (omega arith) in
    IfOk-weaker c.seen_on.result _ _ (λ t g. less_left (few_is less) g) (c.seen_on.ensures port m id question input before log f.0 replied adds)
