-- The replies to lines, in order.
use Rattle.std.specs.Prelude.{◌≡◌, ℕ, Bool, true, false, Option, List, [], ◌∷◌, ◌++◌, take}
use Rattle.std.specs.Io.KnownBytes.{IsAtEnd}
use Rattle.streams.specs.declared.fault.Ended.{Ended}
use Rattle.streams.specs.declared.fault.Ended.TheVariants.{EndOfInput, Stop}

-- How one line is obeyed: the state before, the line, its reply, whether it is the last, the state after.
abbrev pub Obeying : Type 0 → Type 1
Obeying O = O → List ℕ → List ℕ → Bool → O → Type 0

-- The time and the desk as one state.
abbrev pub paired : {O : Type 0} {D : Type 0} → (O → D → List ℕ → List ℕ → Bool → O → D → Type 0) → Obeying (O × D)
paired obeys old line text ends new = obeys old.0 old.1 line text ends new.0 new.1

-- The lines are obeyed in order, none of them stops, and the text is their replies.
abbrev pub Transcript : {O : Type 0} → Obeying O → O → List (List ℕ) → List ℕ → O → Type 0
Transcript obeys o [] text next = (text ≡ []) × (next ≡ o)
Transcript {O = O} obeys o (line ∷ lines) text next =
    (first : List ℕ) × (mid : O) × (others : List ℕ) × obeys o line first false mid × Transcript obeys mid lines others next × (text ≡ first ++ others)

-- The lines up to one are obeyed, and of the reply to that one a part is written, which `shows` says.
pub record Partly {O : Type 0} (obeys : Obeying O) (shows : List ℕ → Bool → List ℕ → Type 0)
    (o : O) (lines : List (List ℕ)) (text : List ℕ) (next : O) : Type 0 where
  pub before : List (List ℕ)
  pub line : List ℕ
  pub behind : List (List ℕ)
  pub are : lines ≡ before ++ line ∷ behind
  pub told : List ℕ
  pub mid : O
  pub whole : List ℕ
  pub ends : Bool
  pub front : List ℕ
  pub first : Transcript obeys o before told mid
  pub last : obeys mid line whole ends next
  pub shown : shows whole ends front
  pub all : text ≡ told ++ front

-- A front of the reply, since a write failed.
abbrev pub IsFront : List ℕ → Bool → List ℕ → Type 0
IsFront whole ends front = (n : ℕ) × (front ≡ take n whole)

-- All of the reply, and the line is the last.
abbrev pub IsLast : List ℕ → Bool → List ℕ → Type 0
IsLast whole ends front = (ends ≡ true) × (front ≡ whole)

-- Why a run ended: the input did, and all lines were obeyed; or a line was the last, and no line after it was obeyed.
abbrev pub EndsBy : {O : Type 0} → Ended → Obeying O → O → List (List ℕ) → List ℕ → O → Option (List ℕ) → Type 0
EndsBy EndOfInput obeys o lines text next left = Transcript obeys o lines text next × IsAtEnd left
EndsBy Stop obeys o lines text next left = Partly obeys IsLast o lines text next
