-- The counts of the records at gaps, or of the others, made in one pass.
use Rattle.std.proofs.Common.{◌≡◌, ℕ, ◌+◌, ◌<◌, cond, List, [], ◌∷◌, ◌++◌, length, take, drop, get_or, refl, ap, sym, subst, ◌∙◌, arith}
use Rattle.std.proofs.lemmas.List.{drop-drop, drop_more, length-drop}
use Rattle.dns_name.specs.Labels.{Labels}
use Rattle.dns_text.specs.declared.record.Record.{Record}
use Rattle.local_zone.specs.CountsBelow.{count_below, is_below, lies_below}
use Rattle.local_zone.specs.Gaps.{at_gaps, first_at, records_of, rest_of, AreWithin}
use Rattle.local_zone.proofs.CountsBelowLaws.{count_both, count_one}

at_more : (gap : ℕ) (more : List ℕ) (records : List Record) (r : Record) (later : List Record) → drop gap records ≡ r ∷ later → records_of (at_gaps (gap ∷ more) records) ≡ r ∷ records_of (at_gaps more later)
at_more gap more records r later e = ap (λ (rest : List Record). records_of (first_at gap rest ++ at_gaps more (drop 1 rest))) e

pub within_here : (gaps more : List ℕ) (gap : ℕ) (rest : List Record) → gaps ≡ gap ∷ more → AreWithin gaps rest → gap < length rest
within_here gaps more gap rest next h =
    let both : AreWithin (gap ∷ more) rest = subst (λ (g : List ℕ). AreWithin g rest) next h in both.0

pub within_step : (gaps more : List ℕ) (gap : ℕ) (rest : List Record) (first : Record) (later : List Record) → gaps ≡ gap ∷ more → drop gap rest ≡ first ∷ later → AreWithin gaps rest → AreWithin more later
within_step gaps more gap rest first later next is h =
    let both : AreWithin (gap ∷ more) rest = subst (λ (g : List ℕ). AreWithin g rest) next h in
    subst (λ (rs : List Record). AreWithin more (drop 1 rs)) is both.1

pub counts_step : (gaps more : List ℕ) (gap : ℕ) (rest : List Record) (first : Record) (later : List Record) → gaps ≡ gap ∷ more → drop gap rest ≡ first ∷ later → (name : Labels)
    → count_below name (records_of (at_gaps gaps rest)) ≡ cond (is_below first.owner name) 1 0 + count_below name (records_of (at_gaps more later))
counts_step gaps more gap rest first later next is name =
    ap (λ (g : List ℕ). count_below name (records_of (at_gaps g rest))) next ∙ ap (count_below name) (at_more gap more rest first later is) ∙ count_one (lies_below name) first (records_of (at_gaps more later))

-- those before the next gap, and the others behind it
pub rest_step : (gaps more : List ℕ) (gap : ℕ) (rest later : List Record) → gaps ≡ gap ∷ more → drop 1 (drop gap rest) ≡ later → (name : Labels)
    → count_below name (rest_of gaps rest) ≡ count_below name (take gap rest) + count_below name (rest_of more later)
rest_step gaps more gap rest later next is name =
    ap (λ (g : List ℕ). count_below name (rest_of g rest)) next ∙ count_both (lies_below name) (take gap rest) (rest_of more (drop 1 (drop gap rest)))
    ∙ ap (λ (rs : List Record). count_below name (take gap rest) + count_below name (rest_of more rs)) is

-- what is behind the record at a place
pub behind_at : (list : List Record) (place gap : ℕ) → drop 1 (drop gap (drop place list)) ≡ drop (place + gap + 1) list
behind_at list place gap = ap (λ (rs : List Record). drop 1 rs) (drop-drop gap place list) ∙ drop-drop 1 (place + gap) list

pub drop_none : {X : Type 0} (xs : List X) → drop 0 xs ≡ xs
drop_none [] = refl
drop_none (x ∷ xs) = refl

-- behind the next gap there is a record
pub within_next : (gaps : List ℕ) (i place : ℕ) (list : List Record) → AreWithin (drop i gaps) (drop place list) → i < length gaps → place + get_or gaps i 0 < length list
within_next gaps i place list h some =
    let here = within_here (drop i gaps) (drop (i + 1) gaps) (get_or gaps i 0) (drop place list) (drop_more gaps i 0 some) h in
    omega (arith, here, length-drop place list)

-- the record behind a gap, by its place in the list
pub record_at : (list : List Record) (place gap : ℕ) (first : Record) → gap < length (drop place list) → first ≡ get_or list (place + gap) first
    → drop gap (drop place list) ≡ first ∷ drop (place + gap + 1) list
record_at list place gap first within e =
    drop-drop gap place list
    ∙ drop_more list (place + gap) first (omega (arith, within, length-drop place list))
    ∙ ap (λ (r : Record). r ∷ drop (place + gap + 1) list) (sym e)
