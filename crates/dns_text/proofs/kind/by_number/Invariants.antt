use Rattle.std.proofs.Common.{◌≡◌, drop, map}
use Rattle.dns_text.specs.Kind.{by_number, types}
use Rattle.dns_text.proofs.kind.by_number.Given as goal

abbrev pub invariant-loop-t : goal.invariant-loop-t
invariant-loop-t l = by_number l.kind (map (λ t. (t.number, t.name.now, t.form)) (drop l.t-index l.t-items)) ≡ by_number l.kind types
