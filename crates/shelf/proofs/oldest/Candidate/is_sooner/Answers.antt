use Rattle.std.proofs.Common.{◌≡◌, inr, arith}
use Rattle.std.proofs.lemmas.Bool.Decides.{nat_tests}
use Rattle.shelf.proofs.oldest.Candidate.is_sooner.Goals as goal

pub returns-then-self-other-clause-no : goal.returns-then-self-other-clause-no
returns-then-self-other-clause-no c = λ no.
    let own = c.args.self.now in
    let other = c.args.other.now in
    let same : other.end ≡ own.end = grind (arith, nat_tests) in
    inr (same, c.is_not_after.ensures.no no)
