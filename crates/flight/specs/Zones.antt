-- The zone of a name among the octets of the name, for contracts inside the crate.
use Rattle.std.specs.Prelude.{ℕ, ◌+◌, List, [], ◌∷◌}

-- where the first label of a run of labels ends, each of which has its length before it
abbrev pub label_end : List ℕ → ℕ
label_end [] = 0
label_end (count ∷ octets) = count + 1
