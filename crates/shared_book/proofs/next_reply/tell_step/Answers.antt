use Rattle.std.proofs.Common.{sym, subst}
use Rattle.history.specs.declared.event.Reply.{Reply}
use Rattle.shared_book.specs.Ahead.{ShowsNothing}
use Rattle.shared_book.proofs.next_reply.tell_step.Goals as goal

pub told_alike-kept-requires : goal.told_alike-kept-requires
told_alike-kept-requires g c =
    let some = c.requires.some in
    let answers = c.in-Ok.ensures.answers some.0 some.1 in
    subst (λ (r : Reply). ShowsNothing r) (sym answers.1) some.2
