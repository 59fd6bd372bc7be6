use Rattle.std.proofs.lemmas.List.{take-replicate}
use Rattle.dns_text.proofs.ipv6.zeros.Goals as goal

pub returns : goal.returns
returns c = take-replicate c.args.n 16 0 c.requires
