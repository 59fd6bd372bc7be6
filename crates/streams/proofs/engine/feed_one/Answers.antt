use Rattle.std.proofs.Common.{◌≡◌, ℕ, List, [], ◌∷◌, ◌++◌, nat_eq, true, ap, ◌∙◌}
use Rattle.streams.specs.Split.{held_of}
use Rattle.streams.specs.Transcript.{paired}
use Rattle.streams.proofs.Held.{heard-trimmed, held-again}
use Rattle.streams.proofs.Telling.{tells-nothing}
use Rattle.streams.proofs.Transcripts.{no-end}
use Rattle.streams.proofs.engine.feed_one.Goals as goal

pub returns-then-octet-ne10-clause-told : goal.returns-then-octet-ne10-clause-told
returns-then-octet-ne10-clause-told g c = λ begun is. rw (no-end c.args.octet c.if-octet-ne10.true) (tells-nothing _ (paired g.O.Obeyer.obeys) _ _)

pub returns-then-octet-ne10-clause-held : goal.returns-then-octet-ne10-clause-held
returns-then-octet-ne10-clause-held g c = λ begun is.
    rw (no-end c.args.octet c.if-octet-ne10.true) (c.push.ensures ∙ ap (λ (l : List ℕ). held_of (l ++ c.args.octet ∷ [])) is ∙ held-again begun c.args.octet)

pub returns-clause-told : goal.returns-clause-told
returns-clause-told g c = λ begun is.
    let end : nat_eq c.args.octet 10 ≡ true = ap (λ (n : ℕ). nat_eq n 10) c.if-octet-ne10.false in
    rw end (c.tell-flow.ensures.told _ (heard-trimmed _ _ begun c.trimmed.ensures is))
