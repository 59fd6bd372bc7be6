use Rattle.std.proofs.Common.{◌≤◌, ℕ, List, length, true, sym, subst}
use Rattle.replies.proofs.Sizes.{alone_short, cut_written}
use Rattle.replies.proofs.reply.write_cut.Goals as goal

pub returns-in-Ok-clause-short : goal.returns-in-Ok-clause-short
returns-in-Ok-clause-short c =
    subst (λ (out : List ℕ). length out ≤ 512) (sym c.in-Ok.ensures.encoded.octets) (alone_short c.args.query.now (record c.args.head.now { tc = true }) c.wire_len-len.ensures.name)

pub returns-in-Ok-clause-written : goal.returns-in-Ok-clause-written
returns-in-Ok-clause-written c =
    λ m answer authority must.
    cut_written c.written_is_read.ensures.replies c.args.query.now c.args.head.now m _ answer authority c.requires c.wire_len-len.ensures.name must c.in-Ok.ensures.encoded.octets
