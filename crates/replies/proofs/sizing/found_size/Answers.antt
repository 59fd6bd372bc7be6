use Rattle.std.proofs.Common.{ℕ}
use Rattle.replies.specs.Lending.{records_found}
use Rattle.replies.specs.Sizing.{records_size}
use Rattle.replies.proofs.Sizes.{counted_as, found_counted}
use Rattle.replies.proofs.sizing.found_size.Goals as goal

pub returns-in-One-Set : goal.returns-in-One-Set
returns-in-One-Set c = λ (ttl : ℕ).
    let first = c.args.first.now in
    let find = c.args.find.now in
    let counted = found_counted first find c.in-One-Set.field-0-0 ttl c.in-One-Set.data c.in-One-Set.is-0 c.in-One-Set.is-1 in
    counted_as first find.owner c.owner_size.result c.bodies_size.result (records_size first (records_found ttl find)) c.as_slice.result.now c.in-One-Set.data c.bodies_size.ensures c.owner_size.ensures.exact c.as_slice.ensures counted
