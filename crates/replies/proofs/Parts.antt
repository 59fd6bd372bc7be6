-- There is no part without a set.
use Rattle.std.proofs.Common.{◌≡◌, ℕ, zero, suc, refl, List, [], ◌∷◌, map, None, slice_get}
use Rattle.dns_wire.specs.Lent.{part_at}
use Rattle.iterate.specs.declared.answer.AnswerSet.{AnswerSet}
use Rattle.replies.specs.Lending.{records_written}

pub part_none : (sets : List AnswerSet) (i : ℕ) → slice_get sets i ≡ None → part_at (map records_written sets) i ≡ []
part_none [] i missing = refl
part_none (told ∷ sets) zero missing = cc
part_none (told ∷ sets) (suc i) missing = part_none sets i missing
