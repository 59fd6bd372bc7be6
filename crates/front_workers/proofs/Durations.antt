-- The shorter of two times.
use Rattle.std.proofs.Common.{◌≡◌, min, arith}
use Rattle.std.proofs.lemmas.Bool.Decides.{nat_tests}
use Rattle.std.specs.Ordering.{ord_min, nat_cmp, ordering_then}
use Rattle.std.specs.Duration.{as_nanos}
use Rattle.std.specs.declared.time.Duration.{Duration}

pub shorter_nanos : (a b : Duration) → as_nanos (ord_min (λ (x y : Duration). ordering_then (nat_cmp x.secs y.secs) (nat_cmp x.nanos y.nanos)) a b) ≡ min (as_nanos a) (as_nanos b)
shorter_nanos a b = grind (arith, nat_tests)
