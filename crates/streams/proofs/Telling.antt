-- Lines that are told, one list of them after another.
use Rattle.std.proofs.Common.{◌≡◌, ◌≢◌, ◌<◌, ◌+◌, ℕ, suc, Bool, true, false, List, [], ◌∷◌, ◌++◌, length, take, drop, get_or, Option, refl, sym, ap, ◌∙◌, subst, arith}
use Rattle.std.proofs.Math.Seq.{take-suc}
use Rattle.std.proofs.lemmas.List.{take-append-drop}
use Rattle.std.specs.Io.KnownBytes.{Appends}
use Rattle.streams.specs.declared.fault.Flow.{Flow}
use Rattle.streams.specs.declared.fault.Flow.TheVariants.{On, Stopped, Failed}
use Rattle.streams.specs.Laws.{Appends-same, Appends-then}
use Rattle.streams.specs.Split.{ended_lines, begun_line, last_line, held_of}
use Rattle.streams.specs.Transcript.{Obeying, Transcript, IsFront, IsLast}
use Rattle.streams.specs.Flow.{ToldOf, Tells}
use Rattle.streams.proofs.Transcripts.{Transcript-append, Transcript-one, Partly-after, Partly-before, Partly-one, ended_lines-append, begun_line-append}

-- no more are obeyed
abbrev pub Stops : Flow → Type 0
Stops On = ⊥
Stops _ = Unit {0}

pub stops : (flow : Flow) → flow ≢ On → Stops flow
stops On n = n refl
stops Stopped n = tt
stops Failed n = tt

pub tells-nothing : (O : Type 0) (obeys : Obeying O) (o : O) (u : Option (List ℕ)) → Tells On obeys o [] o u u
tells-nothing O obeys o u = ([], (refl, refl), Appends-same u)

-- one line, which isn't the last
pub tells-one : (O : Type 0) (obeys : Obeying O) (o next : O) (line text : List ℕ) (u w : Option (List ℕ))
    → obeys o line text false next → Appends u w text → Tells On obeys o (line ∷ []) next u w
tells-one O obeys o next line text u w p a = (text, Transcript-one O obeys o next line text p, a)

-- the last line
pub tells-last : (O : Type 0) (obeys : Obeying O) (o next : O) (line text : List ℕ) (u w : Option (List ℕ))
    → obeys o line text true next → Appends u w text → Tells Stopped obeys o (line ∷ []) next u w
tells-last O obeys o next line text u w p a = (text, Partly-one O obeys IsLast o next line text true text p (refl, refl), a)

-- a line of whose text a front is written
pub tells-front : (O : Type 0) (obeys : Obeying O) (o next : O) (line text : List ℕ) (ends : Bool) (n : ℕ) (u w : Option (List ℕ))
    → obeys o line text ends next → Appends u w (take n text) → Tells Failed obeys o (line ∷ []) next u w
tells-front O obeys o next line text ends n u w p a = (take n text, Partly-one O obeys IsFront o next line text ends (take n text) p (n, refl), a)

told-then : (flow : Flow) (O : Type 0) (obeys : Obeying O) (o mid next : O) (xs ys : List (List ℕ)) (s t : List ℕ)
    → Transcript obeys o xs s mid → ToldOf flow obeys mid ys t next → ToldOf flow obeys o (xs ++ ys) (s ++ t) next
told-then On O obeys o mid next xs ys s t a b = Transcript-append O obeys o mid next xs ys s t a b
told-then Stopped O obeys o mid next xs ys s t a b = Partly-after O obeys IsLast o mid next xs ys s t a b
told-then Failed O obeys o mid next xs ys s t a b = Partly-after O obeys IsFront o mid next xs ys s t a b

-- Lines are told, and then others.
pub tells-then : (flow : Flow) (O : Type 0) (obeys : Obeying O) (o mid next : O) (xs ys : List (List ℕ)) (u v w : Option (List ℕ))
    → Tells On obeys o xs mid u v → Tells flow obeys mid ys next v w → Tells flow obeys o (xs ++ ys) next u w
tells-then flow O obeys o mid next xs ys u v w a b =
    (a.0 ++ b.0, told-then flow O obeys o mid next xs ys a.0 b.0 a.1 b.1, Appends-then u v w a.0 b.0 a.2 b.2)

told-before : (flow : Flow) (O : Type 0) (obeys : Obeying O) (o next : O) (xs ys : List (List ℕ)) (t : List ℕ)
    → Stops flow → ToldOf flow obeys o xs t next → ToldOf flow obeys o (xs ++ ys) t next
told-before On O obeys o next xs ys t n a = absurd n
told-before Stopped O obeys o next xs ys t n a = Partly-before O obeys IsLast o next xs ys t a
told-before Failed O obeys o next xs ys t n a = Partly-before O obeys IsFront o next xs ys t a

-- Where no more are obeyed, others may follow.
pub tells-before : (flow : Flow) (O : Type 0) (obeys : Obeying O) (o next : O) (xs ys : List (List ℕ)) (u w : Option (List ℕ))
    → Stops flow → Tells flow obeys o xs next u w → Tells flow obeys o (xs ++ ys) next u w
tells-before flow O obeys o next xs ys u w n a = (a.0, told-before flow O obeys o next xs ys a.0 n a.1, a.2)

-- Octets are fed, and then others.
pub feeds-then : (flow : Flow) (O : Type 0) (obeys : Obeying O) (o mid next : O) (begun xs ys : List ℕ) (u v w : Option (List ℕ))
    → Tells On obeys o (ended_lines begun xs) mid u v → Tells flow obeys mid (ended_lines (begun_line begun xs) ys) next v w
    → Tells flow obeys o (ended_lines begun (xs ++ ys)) next u w
feeds-then flow O obeys o mid next begun xs ys u v w a b =
    subst (λ (ls : List (List ℕ)). Tells flow obeys o ls next u w) (sym (ended_lines-append begun xs ys))
    (tells-then flow O obeys o mid next (ended_lines begun xs) (ended_lines (begun_line begun xs) ys) u v w a b)

-- Where no more are obeyed, other octets may come behind.
pub feeds-before : (flow : Flow) (O : Type 0) (obeys : Obeying O) (o next : O) (begun xs ys : List ℕ) (u w : Option (List ℕ))
    → Stops flow → Tells flow obeys o (ended_lines begun xs) next u w → Tells flow obeys o (ended_lines begun (xs ++ ys)) next u w
feeds-before flow O obeys o next begun xs ys u w n a =
    subst (λ (ls : List (List ℕ)). Tells flow obeys o ls next u w) (sym (ended_lines-append begun xs ys))
    (tells-before flow O obeys o next (ended_lines begun xs) (ended_lines (begun_line begun xs) ys) u w n a)

-- one octet more of a piece
pub take-next : (i : ℕ) (octets : List ℕ) → i < length octets → take (i + 1) octets ≡ take i octets ++ get_or octets i 0 ∷ []
take-next i octets below = let next : i + 1 ≡ suc i = omega arith in ap (λ (n : ℕ). take n octets) next ∙ take-suc octets i 0 below

pub feeds-next : (flow : Flow) (O : Type 0) (obeys : Obeying O) (o mid next : O) (begun octets : List ℕ) (i : ℕ) (u v w : Option (List ℕ)) → i < length octets
    → Tells On obeys o (ended_lines begun (take i octets)) mid u v → Tells flow obeys mid (ended_lines (begun_line begun (take i octets)) (get_or octets i 0 ∷ [])) next v w
    → Tells flow obeys o (ended_lines begun (take (i + 1) octets)) next u w
feeds-next flow O obeys o mid next begun octets i u v w below a b =
    subst (λ (ys : List ℕ). Tells flow obeys o (ended_lines begun ys) next u w) (sym (take-next i octets below))
    (feeds-then flow O obeys o mid next begun (take i octets) (get_or octets i 0 ∷ []) u v w a b)

pub held-next : (held begun octets : List ℕ) (i : ℕ) → i < length octets → held ≡ held_of (begun_line (begun_line begun (take i octets)) (get_or octets i 0 ∷ []))
    → held ≡ held_of (begun_line begun (take (i + 1) octets))
held-next held begun octets i below is =
    is ∙ ap (λ (l : List ℕ). held_of l) (sym (begun_line-append begun (take i octets) (get_or octets i 0 ∷ [])))
    ∙ ap (λ (ys : List ℕ). held_of (begun_line begun ys)) (sym (take-next i octets below))

-- Where no more are obeyed, the rest of a piece may come behind.
pub feeds-front : (flow : Flow) (O : Type 0) (obeys : Obeying O) (o next : O) (begun octets : List ℕ) (n : ℕ) (u w : Option (List ℕ))
    → Stops flow → Tells flow obeys o (ended_lines begun (take n octets)) next u w → Tells flow obeys o (ended_lines begun octets) next u w
feeds-front flow O obeys o next begun octets n u w stops a =
    subst (λ (ys : List ℕ). Tells flow obeys o (ended_lines begun ys) next u w) (take-append-drop n octets)
    (feeds-before flow O obeys o next begun (take n octets) (drop n octets) u w stops a)

-- What is held at the end is a line, if it is anything.
pub last-some : (held begun : List ℕ) → held ≡ held_of begun → length held ≢ 0 → last_line begun ≡ begun ∷ []
last-some held [] is some = absurd (some (ap (λ (l : List ℕ). length l) is))
last-some held (x ∷ xs) is some = refl
