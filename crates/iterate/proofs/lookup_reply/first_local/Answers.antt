use Rattle.std.proofs.Common.{◌≡◌, [], ◌∷◌, List, Some, map}
use Rattle.std.specs.List.{slice_get}
use Rattle.dns_text.specs.declared.record.Data.{Data}
use Rattle.dns_text.specs.declared.record.Record.{Record}
use Rattle.iterate.proofs.lookup_reply.first_local.Goals as goal

first_body : (records : List Record) (r : Record) → Some r ≡ slice_get records 0 → (rest : List Data) × (map (λ r. r.body) records ≡ r.body ∷ rest)
first_body [] r is = let e : ⊥ = cc in absurd e
first_body (x ∷ records) r is = let same : x ≡ r = cc in (map (λ r. r.body) records, rw same)

pub returns-in-Some : goal.returns-in-Some
returns-in-Some c =
    let first = first_body c.args.records.now c.in-Some.record.now c.in-Some.ensures.value in
    (first.0, rw c.body.ensures first.1)
