use Rattle.std.proofs.Common.{◌≡◌, drop, map}
use Rattle.dns_text.specs.Kind.{by_name, types}
use Rattle.dns_text.proofs.kind.by_name.Given as goal

abbrev pub invariant-loop-t : goal.invariant-loop-t
invariant-loop-t l = by_name l.word (map (λ t. (t.number, t.name.now, t.form)) (drop l.t-index l.t-items)) ≡ by_name l.word types
