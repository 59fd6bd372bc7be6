-- A fact that holds also holds of an error.
use Rattle.std.proofs.Common.{Result, Ok, Err, OnErr}

pub failing : {A E : Type 0} (r : Result A E) (P : Type 0) → P → OnErr r P
failing (Ok x) P p = tt
failing (Err e) P p = p
