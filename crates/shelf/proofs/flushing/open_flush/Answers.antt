use Rattle.std.proofs.Common.{inl, refl}
use Rattle.shelf.proofs.flushing.open_flush.Goals as goal

pub returns-in-Zone-clause-opens : goal.returns-in-Zone-clause-opens
returns-in-Zone-clause-opens c = record { cells = λ q v. refl; upto = c.requires.upto; settles = λ number kind name is. is; counted = refl; pairs = λ pair has. has; named = λ each. each }

pub returns-in-Zone-clause-entries : goal.returns-in-Zone-clause-entries
returns-in-Zone-clause-entries c = record { others = record { others = λ i off. refl; size = inl refl; names = inl refl }; size = refl; names = refl }
