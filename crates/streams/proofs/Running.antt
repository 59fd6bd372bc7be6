-- What is read and told of an input.
use Rattle.std.proofs.Common.{ℕ, List, [], ◌++◌, Option}
use Rattle.std.specs.Io.KnownBytes.{Appends, Consumes}
use Rattle.streams.specs.declared.fault.Flow.{Flow}
use Rattle.streams.specs.declared.fault.Flow.TheVariants.{On}
use Rattle.streams.specs.Laws.{Consumes-then}
use Rattle.streams.specs.Split.{ended_lines, begun_line, last_line, lines_of}
use Rattle.streams.specs.Transcript.{Obeying}
use Rattle.streams.specs.Flow.{ToldOf, Tells}
use Rattle.streams.proofs.Telling.{Stops, feeds-then, tells-then, tells-before}

-- The input is read, from here to there, and its lines are told.
abbrev pub Runs : {O : Type 0} → Flow → Obeying O → O → O → Option (List ℕ) → Option (List ℕ) → Option (List ℕ) → Option (List ℕ) → Type 0
Runs flow obeys o next before after old new = (input : List ℕ) × (text : List ℕ) × Consumes before after input × ToldOf flow obeys o (lines_of input) text next × Appends old new text

-- No more lines are obeyed than those to one in the last piece.
pub runs-stop : (flow : Flow) (O : Type 0) (obeys : Obeying O) (o mid next : O) (input ys : List ℕ) (r s t u v w : Option (List ℕ)) → Stops flow
    → Consumes r s input → Tells On obeys o (ended_lines [] input) mid u v → Consumes s t ys → Tells flow obeys mid (ended_lines (begun_line [] input) ys) next v w
    → Runs flow obeys o next r t u w
runs-stop flow O obeys o mid next input ys r s t u v w stops a told b more =
    let fed = feeds-then flow O obeys o mid next [] input ys u v w told more in
    let all = tells-before flow O obeys o next (ended_lines [] (input ++ ys)) (last_line (begun_line [] (input ++ ys))) u w stops fed in
    (input ++ ys, all.0, Consumes-then r s t input ys a b, all.1, all.2)

-- The input ends, and what has come of the last line is told.
pub runs-end : (flow : Flow) (O : Type 0) (obeys : Obeying O) (o mid next : O) (input : List ℕ) (r t u v w : Option (List ℕ))
    → Consumes r t input → Tells On obeys o (ended_lines [] input) mid u v → Tells flow obeys mid (last_line (begun_line [] input)) next v w
    → Runs flow obeys o next r t u w
runs-end flow O obeys o mid next input r t u v w a told more =
    let all = tells-then flow O obeys o mid next (ended_lines [] input) (last_line (begun_line [] input)) u v w told more in
    (input, all.0, a, all.1, all.2)
