use Rattle.replies.proofs.Asked.{good_header}
use Rattle.replies.proofs.Formed.{answer_formed, authority_formed}
use Rattle.replies.proofs.reply.write_answer.Goals as goal

pub write_reply-requires-clause-header : goal.write_reply-requires-clause-header
write_reply-requires-clause-header c = good_header c.requires.asks

pub write_reply-requires-clause-answer : goal.write_reply-requires-clause-answer
write_reply-requires-clause-answer c =
    let fit = rw c.in-Reply.is at c.requires.fit in
    answer_formed c.in-Reply.aliases c.in-Reply.last fit.0

pub write_reply-requires-clause-authority : goal.write_reply-requires-clause-authority
write_reply-requires-clause-authority c =
    let fit = rw c.in-Reply.is at c.requires.fit in
    authority_formed c.in-Reply.authority fit.1
