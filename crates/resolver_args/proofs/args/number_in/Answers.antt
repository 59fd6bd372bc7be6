use Rattle.std.proofs.Common.{Ok, Err, ℕ, List, Result, inr}
use Rattle.std.specs.Str.Parse.{ParsesUnsigned, ExplainsUnsignedError, HasUnsignedDigitsIfOk}
use Rattle.std.specs.declared.num.ParseIntError.{ParseIntError}
use Rattle.resolver_args.proofs.Giving.{tried}
use Rattle.resolver_args.proofs.args.number_in.Goals as goal

abbrev parses : List ℕ → Result ℕ ParseIntError → Type 0
parses bs r = ParsesUnsigned 32 10 bs r × ExplainsUnsignedError 10 bs r × HasUnsignedDigitsIfOk bs r

pub returns-in-Ok-clause-given : goal.returns-in-Ok-clause-given
returns-in-Ok-clause-given c =
    tried ParseIntError parses c.args.found.now c.args.name.now (Ok c.in-Ok.number) (λ u x g. g.0) c.in-Ok.ensures.none c.in-Ok.ensures.value

pub returns-in-Err-clause-fault : goal.returns-in-Err-clause-fault
returns-in-Err-clause-fault c =
    inr (c.unfit.ensures, tried ParseIntError parses c.args.found.now c.args.name.now (Err c.in-Err.field-0) (λ u x g. g.0) c.in-Err.ensures.none c.in-Err.ensures.value)
