-- The rest of a buffered reader after it handed out octets that it held.
use Rattle.std.proofs.Common.{◌≡◌, ℕ, Bool, true, false, List, ◌++◌, ◌==◌, take, drop, Option, Some, None, if◌then◌else◌, ap, sym, subst, ◌∙◌, append_assoc}
use Rattle.std.proofs.lemmas.List.{take-append-drop}
use Rattle.std.specs.declared.io.BufReader.{BufReader}
use Rattle.std.specs.Io.Buffered.{reader_buffer, reader_capacity, reader_inner, reader_remaining}
use Rattle.std.specs.Io.KnownBytes.{Consumes, Keeps, prepend_known}

held_out : (none : Bool) (held rest : List ℕ) (inner : Option (List ℕ)) (count : ℕ) → rest ≡ drop count held
    → Consumes (if none then None else prepend_known held inner) (if none then None else prepend_known rest inner) (take count held)
held_out true held rest inner count is = tt
held_out false held rest None count is = tt
held_out false held rest (Some xs) count is =
    let whole : take count held ++ rest ≡ held = ap (λ (l : List ℕ). take count held ++ l) is ∙ take-append-drop count held in
    ap (λ (l : List ℕ). l ++ xs) (sym whole) ∙ append_assoc (take count held) rest xs

-- It has what it had, without those octets.
pub handed_out : {S A : Type 0} (remaining : S → Option (List ℕ)) (old new : BufReader S A) (count : ℕ)
    → reader_buffer new ≡ drop count (reader_buffer old) → reader_inner new ≡ reader_inner old → reader_capacity new ≡ reader_capacity old
    → Consumes (reader_remaining remaining old) (reader_remaining remaining new) (take count (reader_buffer old))
handed_out {S} remaining old new count held inner capacity =
    let one = held_out (reader_capacity old == 0) (reader_buffer old) (reader_buffer new) (remaining (reader_inner old)) count held in
    subst (λ (n : ℕ). Consumes (reader_remaining remaining old) (if n == 0 then None else prepend_known (reader_buffer new) (remaining (reader_inner new))) (take count (reader_buffer old))) (sym capacity)
    (subst (λ (s : S). Consumes (reader_remaining remaining old) (if reader_capacity old == 0 then None else prepend_known (reader_buffer new) (remaining s)) (take count (reader_buffer old))) (sym inner) one)

-- The same, if it waited before.
pub kept_then : (u v w : Option (List ℕ)) (a : List ℕ) → Keeps u v → Consumes v w a → Consumes u w a
kept_then None v w a same read = tt
kept_then (Some xs) None w a same read = absurd same
kept_then (Some xs) (Some ys) None a same read = absurd read
kept_then (Some xs) (Some ys) (Some zs) a same read = sym same ∙ read
