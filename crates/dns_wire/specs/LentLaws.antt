-- The form of the records of a lent RRset: a lemma, which proofs in the crates above cite. No contract needs it.
use Rattle.std.specs.Prelude.{ℕ, List, [], ◌∷◌}
use Rattle.std.specs.List.{AllByRecursion}
use Rattle.dns_name.specs.Labels.{Labels}
use Rattle.dns_text.specs.declared.record.Data.{Data}
use Rattle.dns_text.specs.Data.{HasForm}
use Rattle.dns_wire.specs.Lent.{set_records}
use Rattle.dns_wire.specs.WellFormed.{HasItsForm}

-- Data that has the form of a type makes records of that type that have their form.
pub set_formed : (owner : Labels) (kind ttl : ℕ) (bodies : List Data) → AllByRecursion (HasForm kind) bodies → AllByRecursion HasItsForm (set_records owner kind ttl bodies)
set_formed owner kind ttl [] h = tt
set_formed owner kind ttl (body ∷ bodies) h = (h.0, set_formed owner kind ttl bodies h.1)
