use Rattle.replies.proofs.reply.is_cut.Goals as goal

pub returns-in-Udp : goal.returns-in-Udp
returns-in-Udp c = λ yes. (c.in-Udp.is, c.must_be_cut.ensures yes)
