-- How many servers are left of a search.
use Rattle.std.proofs.Common.{ℕ, ◌+◌, ◌*◌, ◌^◌, ◌<◌, ◌≤◌, List, [], ◌∷◌, length, arith}
use Rattle.dns_name.specs.Labels.{Labels}
use Rattle.dns_text.specs.declared.record.Question.{Question}
use Rattle.iterate.specs.declared.search.Nested.{Nested}
use Rattle.iterate.specs.declared.search.Hunt.{Hunt}
use Rattle.iterate.specs.declared.search.Search.{Search}
use Rattle.iterate.specs.Exchanges.{Exchange}
use Rattle.iterate.specs.Measure.{top, missing_left, frames_left, hunts_left, digits_of_search}
use Rattle.iterate.specs.Searching.{IsHunt, AreFrames, IsSearch}
use Rattle.iterate.proofs.Falling.{Digits, few_is, path_digits}

missing_few : {port : ℕ} {log : List Exchange} {name : Labels} (hunt : Hunt) → IsHunt port log name hunt → missing_left hunt + 1 ≤ 2 ^ 64
missing_few hunt h = omega (arith, h.countable)

frames_few : (port : ℕ) (log since : List Exchange) (base : Hunt) (fs : List Nested) → AreFrames port log since base fs → frames_left fs ≤ length fs * 2 ^ 64
frames_few port log since base [] all = omega arith
frames_few port log since base (f ∷ fs) all =
    let here = missing_few f.hunt all.0.hunt in
    let more = frames_few port log since base fs all.1 in
    omega (arith, here, more)

pub hunts_few : {port : ℕ} {question : Question} {log : List Exchange} (search : Search) → IsSearch port question log search → hunts_left search < top
hunts_few {port} {question} {log} search s =
    let here = missing_few search.base s.base.is_hunt in
    let more = frames_few port log s.since search.base search.frames.items s.frames in
    let deep = s.deep in
    omega (arith, here, more, deep)

pub search_digits : {port : ℕ} {question : Question} {log : List Exchange} (search : Search) (looks : ℕ) → looks ≤ 4 → IsSearch port question log search → Digits (digits_of_search search looks)
search_digits {port} {question} {log} search looks few s = path_digits search.path 0 0 (hunts_left search) looks (omega arith) (few_is (hunts_few search s)) (omega (arith, few))
