-- From the lines that are obeyed at a book to a transcript of its history.
use Rattle.std.proofs.Common.{◌≡◌, ℕ, true, false, Result, Ok, Err, List, [], ◌∷◌, Option, refl, sym, ap, subst, ◌∙◌}
use Rattle.std.specs.Io.KnownBytes.{IsAtEnd}
use Rattle.streams.specs.declared.fault.Ended.{Ended}
use Rattle.streams.specs.declared.fault.Ended.TheVariants.{EndOfInput, Stop}
use Rattle.streams.specs.declared.fault.ScriptFault.{ScriptFault}
use Rattle.streams.specs.declared.fault.ScriptFault.TheVariants.{Read, Write}
use Rattle.streams.specs.Laws.{IsRuled, Transcript-ruled, Partly-ruled}
use Rattle.streams.specs.Split.{ended_lines, lines_of}
use Rattle.streams.specs.Engine.{RunsLines}
use Rattle.streams.specs.Transcript.{Transcript, Partly, IsFront, EndsBy, paired}
use Rattle.history.specs.declared.event.Settings.{Settings}
use Rattle.history.specs.declared.event.Event.{Event}
use Rattle.command_text.specs.Obeying.{Place, Obeys}
use Rattle.command_text.specs.Script.{obeying, to_the_end, Scripted}

-- no line of a script is the last
ended-only : (B : Type 0) (stands : B → List Event → Type 0) (settings : B → Settings) (ended : Ended) (o next : ℕ × B) (lines : List (List ℕ)) (text : List ℕ) (left : Option (List ℕ))
    → EndsBy ended (paired (Scripted stands settings)) o lines text next left → Transcript (paired (Scripted stands settings)) o lines text next × IsAtEnd left
ended-only B stands settings EndOfInput o next lines text left t = t
ended-only B stands settings Stop o next lines text left t = let never : true ≡ false = sym t.shown.0 ∙ t.last.2 in absurd cc

settings-kept : (B : Type 0) (stands : B → List Event → Type 0) (settings : B → Settings) (o next : ℕ × B) (lines : List (List ℕ)) (text : List ℕ)
    → Transcript (paired (Scripted stands settings)) o lines text next → settings next.1 ≡ settings o.1
settings-kept B stands settings o next [] text t = ap (λ (n : ℕ × B). settings n.1) t.1
settings-kept B stands settings o next (line ∷ lines) text t = settings-kept B stands settings t.1 next lines t.2 t.4 ∙ t.3.1

settings-partly : (B : Type 0) (stands : B → List Event → Type 0) (settings : B → Settings) (o next : ℕ × B) (lines : List (List ℕ)) (text : List ℕ)
    → Partly (paired (Scripted stands settings)) IsFront o lines text next → settings next.1 ≡ settings o.1
settings-partly B stands settings o next lines text t = t.last.1 ∙ settings-kept B stands settings o t.mid t.before t.told t.first

-- a place that the book represents, whose settings are these
abbrev StandsAt : {B : Type 0} → (B → List Event → Type 0) → (B → Settings) → Settings → ℕ × B → Place → Type 0
StandsAt stands settings kept o place = stands o.1 place.history × (place.moment ≡ o.0) × (settings o.1 ≡ kept)

script_is_ruled : (B : Type 0) (stands : B → List Event → Type 0) (settings : B → Settings) (kept : Settings) → IsRuled (paired (Scripted stands settings)) (obeying kept) (StandsAt stands settings kept)
script_is_ruled B stands settings kept o next line text ends p t s =
    let one = t.0 p s.0 s.1 in
    (one.0, subst (λ (k : Settings). Obeys k p line text one.0) s.2 one.1, (one.2, one.3, t.1 ∙ s.2))

transcript-of : (B : Type 0) (stands : B → List Event → Type 0) (settings : B → Settings) (o next : ℕ × B) (lines : List (List ℕ)) (text : List ℕ)
    → Transcript (paired (Scripted stands settings)) o lines text next
    → (p : Place) → stands o.1 p.history → p.moment ≡ o.0
    → (place : Place) × Transcript (obeying (settings o.1)) p lines text place × stands next.1 place.history × (place.moment ≡ next.0)
transcript-of B stands settings o next lines text t p s e =
    let kept = settings o.1 in
    let all = Transcript-ruled (ℕ × B) Place (paired (Scripted stands settings)) (obeying kept) (StandsAt stands settings kept) (script_is_ruled B stands settings kept) o next lines text p t (s, e, refl) in
    (all.0, all.1, all.2.0, all.2.1)

partly-of : (B : Type 0) (stands : B → List Event → Type 0) (settings : B → Settings) (o next : ℕ × B) (lines : List (List ℕ)) (text : List ℕ)
    → Partly (paired (Scripted stands settings)) IsFront o lines text next
    → (p : Place) → stands o.1 p.history → p.moment ≡ o.0
    → (place : Place) × Partly (obeying (settings o.1)) IsFront p lines text place × stands next.1 place.history × (place.moment ≡ next.0)
partly-of B stands settings o next lines text t p s e =
    let kept = settings o.1 in
    let all = Partly-ruled (ℕ × B) Place (paired (Scripted stands settings)) (obeying kept) (StandsAt stands settings kept) (script_is_ruled B stands settings kept) IsFront o next lines text p t (s, e, refl) in
    (all.0, all.1, all.2.0, all.2.1)

-- The settings stay, however a run ends.
pub settings-run : (B : Type 0) (stands : B → List Event → Type 0) (settings : B → Settings) (result : Result Ended ScriptFault) (o next : ℕ × B) (r s u v : Option (List ℕ))
    → RunsLines result (paired (Scripted stands settings)) o next r s u v → settings next.1 ≡ settings o.1
settings-run B stands settings (Ok ended) o next r s u v run =
    settings-kept B stands settings o next (lines_of run.input) run.text (ended-only B stands settings ended o next (lines_of run.input) run.text s run.obeyed).0
settings-run B stands settings (Err Read) o next r s u v run = settings-kept B stands settings o next (ended_lines [] run.input) run.text run.obeyed
settings-run B stands settings (Err Write) o next r s u v run = settings-partly B stands settings o next (lines_of run.input) run.text run.obeyed

-- A run over the lines of a script at a book is one at its history.
pub run-of : (B : Type 0) (stands : B → List Event → Type 0) (settings : B → Settings) (result : Result Ended ScriptFault) (o next : ℕ × B) (r s u v : Option (List ℕ))
    → RunsLines result (paired (Scripted stands settings)) o next r s u v
    → (p : Place) → stands o.1 p.history → p.moment ≡ o.0
    → (place : Place) × RunsLines (to_the_end result) (obeying (settings o.1)) p place r s u v × stands next.1 place.history
run-of B stands settings (Ok ended) o next r s u v run p start at =
    let told = ended-only B stands settings ended o next (lines_of run.input) run.text s run.obeyed in
    let all = transcript-of B stands settings o next (lines_of run.input) run.text told.0 p start at in
    (all.0, record { input = run.input; text = run.text; reads = run.reads; obeyed = (all.1, told.1); writes = run.writes }, all.2)
run-of B stands settings (Err Read) o next r s u v run p start at =
    let all = transcript-of B stands settings o next (ended_lines [] run.input) run.text run.obeyed p start at in
    (all.0, record { input = run.input; text = run.text; reads = run.reads; obeyed = all.1; writes = run.writes }, all.2)
run-of B stands settings (Err Write) o next r s u v run p start at =
    let all = partly-of B stands settings o next (lines_of run.input) run.text run.obeyed p start at in
    (all.0, record { input = run.input; text = run.text; reads = run.reads; obeyed = all.1; writes = run.writes }, all.2)
