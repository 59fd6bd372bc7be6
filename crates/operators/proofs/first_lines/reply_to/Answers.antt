use Rattle.std.proofs.Common.{◌≡◌, false}
use Rattle.operators.proofs.Accepting.{replied}
use Rattle.operators.proofs.first_lines.reply_to.Goals as goal

pub returns : goal.returns
returns g c =
    let goes_on : c.obey_said-reply.result.stops ≡ false = cc in
    replied _ _ _ _ _ _ _ _ c.obey_said-reply.result.stops c.read_control-said.result c.read_control-said.ensures c.obey_said-reply.ensures goes_on
