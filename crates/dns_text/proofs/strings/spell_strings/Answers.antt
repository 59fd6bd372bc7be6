use Rattle.std.proofs.Common.{◌≡◌, length, refl, arith}
use Rattle.std.proofs.lemmas.Bool.{false≢true}
use Rattle.dns_text.proofs.SpelledLaws.{cut_off, spell_none, spell_rest}
use Rattle.dns_text.proofs.strings.spell_strings.Goals as goal

pub returns-then-behind-n : goal.returns-then-behind-n
returns-then-behind-n c =
    (λ bad. absurd (false≢true bad), λ holds. absurd (cut_off _ _ _ _ c.in-Some.ensures.cases.0 (omega arith) c.loop-first.invariant holds))

pub loop-first-preserved : goal.loop-first-preserved
loop-first-preserved c = spell_rest _ _ _ _ _ c.in-Some.ensures.cases.0 c.split_at.ensures.back (omega arith) c.loop-first.invariant

pub returns : goal.returns
returns c =
    let none : length c.loop-first.rest.now ≡ 0 = rw c.in_default.is at c.split_first.ensures.cases in
    (λ _. c.loop-first.invariant.0 (spell_none _ none), λ _. refl)
