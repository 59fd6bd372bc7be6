-- Reading a name gives the name that is there, and the first fault where none does.
use Rattle.std.proofs.Common.{◌≡◌, ℕ, zero, suc, ◌+◌, ◌-◌, ◌*◌, ◌<◌, ◌≤◌, List, ◌∷◌, length, take, drop, Option, Some, None, Result, Ok, Err, refl, inl, inr, eqb, ltb, arith, length-append}
use Rattle.std.specs.Prelude.{slice_get, MatchResult, MatchOption, IfOk, IfSome}
use Rattle.std.proofs.lemmas.Option.{slice_get_within}
use Rattle.std.proofs.lemmas.Bool.{cases_Bool}
use Rattle.std.specs.Char.{to_ascii_lowercase}
use Rattle.std.proofs.lemmas.Bool.{le-ltb, lt-ltb, ltb-true, ltb-false}
use Rattle.std.proofs.lemmas.List.{length-map, length-take, length-drop}
use Rattle.std.proofs.Math.Nat.{mul-le-mul_right}
use Rattle.dns_name.specs.declared.limits.TheConstants.{MAX_NAME_OCTETS}
use Rattle.dns_name.specs.Labels.{Labels, spelled, wire_len, with_length, IsName}
use Rattle.dns_wire.specs.declared.read.place.Next.{Next}
use Rattle.dns_wire.specs.declared.read.place.Next.TheVariants.{Finish, Label, Pointer, Reserved, Cut}
use Rattle.dns_wire.specs.declared.fault.WireFault.{WireFault}
use Rattle.dns_wire.specs.declared.fault.WireFault.TheVariants.{Short}
use Rattle.dns_wire.specs.Read.Chains.{IsFirstName}
use Rattle.dns_wire.specs.Read.Place.{next_at, next_by, pointer_by, label_at}
use Rattle.dns_wire.specs.Read.Name.{NameAt, finish, label, pointer, SpelledIn, SpelledName, NameFails, UnspelledIn, UnspelledName, cut, reserved, long, cut_label, not_before, after_label, after_pointer, name_by, name_in, name_read_in, name_read, name_end, steps_left}
use Rattle.dns_wire.specs.Fault.{Gives}
use Rattle.dns_wire.specs.Read.Decoding.{UnlessMemory}
use Rattle.dns_name.specs.ResultLaws.{then_match, match_weaker}

-- a pointer to before the run leaves fewer steps
pub fewer : (size run at to : ℕ) → to < run → run ≤ at → at ≤ size → to * (size + 1) + (size - to) < run * (size + 1) + (size - at)
fewer size run at to before behind within = omega (arith, mul-le-mul_right (size + 1) before)

pub length_label_at : (m : List ℕ) (at n : ℕ) → at + 1 + n ≤ length m → length (label_at m at n) ≡ n
length_label_at m at n within = omega (arith, length-map (take n (drop (at + 1) m)) to_ascii_lowercase, length-take n (drop (at + 1) m), length-drop (at + 1) m)

pub name_in-found : (more : ℕ) {m front : List ℕ} {at run after : ℕ} {labels : Labels} (ending : WireFault) (start used : ℕ) → NameAt m front at run after labels → steps_left m at run < more → run ≤ at → at ≤ length front → length front ≤ length m → used + wire_len labels ≤ MAX_NAME_OCTETS → name_in more m front ending start used at run ≡ Ok (labels, after)
unfolding name_in
name_in-found zero ending start used h enough behind within part short = absurd (omega arith)
name_in-found (suc more) ending start used (finish here is) enough behind within part short = rw (here, is) refl
name_in-found (suc more) {m} {front} {at} {run} {after} ending start used (label {n = n} {labels = labels} here inside rest) enough behind within part short =
    let len = length_label_at front at n inside in
    let total : used + (n + 1 + wire_len labels) ≤ MAX_NAME_OCTETS = omega (arith, length-append (with_length (label_at front at n)) (spelled labels)) in
    let go = name_in-found more ending start (used + n + 1) rest (omega arith) (omega arith) inside part (omega arith) in
    rw (here, le-ltb MAX_NAME_OCTETS (used + n + 2) (omega arith), le-ltb (length front) (at + 1 + n) inside, go) refl
name_in-found (suc more) {m} {front} {at} {run} {after} ending start used (pointer {to = to} {labels = labels} here before is rest) enough behind within part short =
    let jump = name_in-found more Short start used rest (omega (arith, fewer (length m) run at to before behind (omega arith))) (omega arith) (omega arith) (omega arith) short in
    rw (here, lt-ltb to run before, jump, is) refl

pub name_in-fails : (more : ℕ) {m : List ℕ} {start : ℕ} {front : List ℕ} {ending : WireFault} {used at run : ℕ} {fault : WireFault} → NameFails m start front ending used at run fault → steps_left m at run < more → run ≤ at → at ≤ length front → length front ≤ length m → name_in more m front ending start used at run ≡ Err fault
unfolding name_in
name_in-fails zero h enough behind within part = absurd (omega arith)
name_in-fails (suc more) (cut here is) enough behind within part = rw (here, is) refl
name_in-fails (suc more) (reserved here) enough behind within part = rw here refl
name_in-fails (suc more) {used = used} (long {n = n} here much) enough behind within part = rw (here, lt-ltb MAX_NAME_OCTETS (used + n + 2) (omega arith)) refl
name_in-fails (suc more) {front = front} {used = used} {at = at} (cut_label {n = n} here few beyond is) enough behind within part =
    rw (here, le-ltb MAX_NAME_OCTETS (used + n + 2) (omega arith), lt-ltb (length front) (at + 1 + n) beyond, is) refl
name_in-fails (suc more) {run = run} (not_before {to = to} here not) enough behind within part = rw (here, le-ltb to run not) refl
name_in-fails (suc more) {front = front} {used = used} {at = at} (after_label {n = n} here few inside rest) enough behind within part =
    let go = name_in-fails more rest (omega arith) (omega arith) inside part in
    rw (here, le-ltb MAX_NAME_OCTETS (used + n + 2) (omega arith), le-ltb (length front) (at + 1 + n) inside, go) refl
name_in-fails (suc more) {m} {at = at} {run = run} (after_pointer {to = to} here before rest) enough behind within part =
    let jump = name_in-fails more rest (omega (arith, fewer (length m) run at to before behind (omega arith))) (omega arith) (omega arith) (omega arith) in
    rw (here, lt-ltb to run before, jump) refl

-- ---- what was found is what reading gives

some_low : (n to : ℕ) (o : Option ℕ) → pointer_by n o ≡ Pointer to → (low : ℕ) × (o ≡ Some low)
some_low n to None h = absurd cc
some_low n to (Some low) h = (low, refl)

pointer_within : (m : List ℕ) (at n to : ℕ) → next_by m at (Some n) ≡ Pointer to → at + 1 < length m
pointer_within m at n to h =
    elim (cases_Bool (eqb n 0)) [
      | inl zero' ↦ absurd (let f : Finish ≡ Pointer to = (rw zero' at h) in cc)
      | inr some ↦ elim (cases_Bool (ltb n 64)) [
        | inl small ↦ absurd (let f : Label n ≡ Pointer to = (rw (some, small) at h) in cc)
        | inr large ↦ elim (cases_Bool (ltb n 192)) [
          | inl middle ↦ absurd (let f : Reserved ≡ Pointer to = (rw (some, large, middle) at h) in cc)
          | inr high ↦ let low = some_low n to (slice_get m (at + 1)) (rw (some, large, high) at h) in slice_get_within m (at + 1) low.0 low.1
        ]
      ]
    ]

next_within : (m : List ℕ) (at : ℕ) (o : Option ℕ) → slice_get m at ≡ o → (next_by m at o ≡ Finish → at < length m) × ((to : ℕ) → next_by m at o ≡ Pointer to → at + 1 < length m)
next_within m at None e = ((λ h. absurd cc), λ to h. absurd cc)
next_within m at (Some n) e = ((λ h. slice_get_within m at n e), λ to h. pointer_within m at n to h)

pub after_within : {m front : List ℕ} {at run after : ℕ} {labels : Labels} → NameAt m front at run after labels → after ≤ length front
after_within {front = front} {at = at} (finish here is) = omega (arith, (next_within front at (slice_get front at) refl).0 here)
after_within (label here inside rest) = after_within rest
after_within {front = front} {at = at} (pointer {to = to} here before is rest) = omega (arith, (next_within front at (slice_get front at) refl).1 to here)

-- ---- reading gives what is there, and the first fault where nothing does

pub record Stands (m front : List ℕ) (used at run : ℕ) (x : Labels × ℕ) : Type 0 where
  pub stands : NameAt m front at run x.1 x.0
  pub short : used + wire_len x.0 ≤ MAX_NAME_OCTETS

-- what reading from a place of a front gives
abbrev pub Matches : List ℕ → List ℕ → WireFault → ℕ → ℕ → ℕ → ℕ → Result (Labels × ℕ) WireFault → Type 0
Matches m front ending start used at run r = MatchResult r (λ x. Stands m front used at run x) (λ e. NameFails m start front ending used at run e)

-- what is known of reading on in fewer steps
abbrev pub Goes : List ℕ → List ℕ → WireFault → ℕ → ℕ → (ℕ → ℕ → ℕ → Result (Labels × ℕ) WireFault) → Type 0
Goes m front ending start steps go = (u a r : ℕ) → u < MAX_NAME_OCTETS → r ≤ a → a ≤ length front → steps_left m a r < steps → Matches m front ending start u a r (go u a r)

-- what is known of reading on after a pointer
abbrev pub Jumps : List ℕ → ℕ → ℕ → (ℕ → ℕ → Result (Labels × ℕ) WireFault) → Type 0
Jumps m start steps jump = (u to : ℕ) → u < MAX_NAME_OCTETS → to ≤ length m → steps_left m to to < steps → Matches m m Short start u to to (jump u to)

module _ (m front : List ℕ) (ending : WireFault) (start used at run : ℕ) (go : ℕ → ℕ → ℕ → Result (Labels × ℕ) WireFault) (jump : ℕ → ℕ → Result (Labels × ℕ) WireFault) where
  label_match : (n : ℕ) → run ≤ at → length front ≤ length m → Goes m front ending start (steps_left m at run) go → next_at front at ≡ Label n → Matches m front ending start used at run (name_by front ending start used at run go jump (Label n))
  label_match n behind part goes here =
      elim (cases_Bool (ltb MAX_NAME_OCTETS (used + n + 2))) [
        | inl much ↦ rw much (long {used = used} here (omega (arith, ltb-true MAX_NAME_OCTETS (used + n + 2) much)))
        | inr few ↦
            let room : used + n + 2 ≤ MAX_NAME_OCTETS = omega (arith, ltb-false MAX_NAME_OCTETS (used + n + 2) few) in
            elim (cases_Bool (ltb (length front) (at + 1 + n))) [
              | inl beyond ↦ rw (few, beyond) (cut_label {used = used} here room (ltb-true (length front) (at + 1 + n) beyond) refl)
              | inr fits ↦
                  let inside : at + 1 + n ≤ length front = omega (arith, ltb-false (length front) (at + 1 + n) fits) in
                  let rest = goes (used + n + 1) (at + 1 + n) run (omega arith) (omega arith) inside (omega arith) in
                  rw (few, fits) (then_match (go (used + n + 1) (at + 1 + n) run) (λ (x : Labels × ℕ). (label_at front at n ∷ x.0, x.1)) _ _ _ _ rest
                  (λ x h. record { stands = label here inside h.stands; short = omega (arith, h.short, length_label_at front at n inside, length-append (with_length (label_at front at n)) (spelled x.0)) })
                  (λ e h. after_label here room inside h))
            ]
      ]

  pointer_match : (to : ℕ) → used < MAX_NAME_OCTETS → run ≤ at → at ≤ length m → Jumps m start (steps_left m at run) jump → next_at front at ≡ Pointer to → Matches m front ending start used at run (name_by front ending start used at run go jump (Pointer to))
  pointer_match to room behind within jumps here =
      elim (cases_Bool (ltb to run)) [
        | inl is_before ↦
            let before : to < run = ltb-true to run is_before in
            let rest = jumps used to room (omega arith) (fewer (length m) run at to before behind within) in
            rw is_before (then_match (jump used to) (λ (x : Labels × ℕ). (x.0, at + 2)) _ _ _ _ rest
            (λ x h. record { stands = pointer here before refl h.stands; short = h.short })
            (λ e h. after_pointer here before h))
        | inr not ↦ rw not (not_before here (ltb-false to run not))
      ]

  name_by-match : used < MAX_NAME_OCTETS → run ≤ at → at ≤ length front → length front ≤ length m → Goes m front ending start (steps_left m at run) go → Jumps m start (steps_left m at run) jump → (next : Next) → next_at front at ≡ next → Matches m front ending start used at run (name_by front ending start used at run go jump next)
  name_by-match room behind within part goes jumps Finish here = record { stands = finish here refl; short = omega arith }
  name_by-match room behind within part goes jumps (Label n) here = label_match n behind part goes here
  name_by-match room behind within part goes jumps (Pointer to) here = pointer_match to room behind (omega arith) jumps here
  name_by-match room behind within part goes jumps Reserved here = reserved here
  name_by-match room behind within part goes jumps Cut here = cut here refl

name_in-match : (more : ℕ) (m front : List ℕ) (ending : WireFault) (start used at run : ℕ) → used < MAX_NAME_OCTETS → run ≤ at → at ≤ length front → length front ≤ length m → steps_left m at run < more → Matches m front ending start used at run (name_in more m front ending start used at run)
unfolding name_in
name_in-match zero m front ending start used at run room behind within part enough = absurd (omega arith)
name_in-match (suc more) m front ending start used at run room behind within part enough =
    name_by-match m front ending start used at run (λ u a r. name_in more m front ending start u a r) (λ u to. name_in more m m Short start u to to) room behind within part
    (λ u a r room' behind' within' less. name_in-match more m front ending start u a r room' behind' within' part (omega arith))
    (λ u to room' within' less. name_in-match more m m Short start u to to room' (omega arith) within' (omega arith) (omega arith)) (next_at front at) refl

-- ---- names in a front

pub name_read_in-match : (m front : List ℕ) (ending : WireFault) (at : ℕ) → at ≤ length front → length front ≤ length m → MatchResult (name_read_in m front ending at) (λ x. SpelledIn m front at x.1 x.0) (λ e. UnspelledIn m front ending at e)
unfolding name_read_in
name_read_in-match m front ending at within part =
    match_weaker (name_in (suc (steps_left m at at)) m front ending at 0 at at) _ _ _ _ (name_in-match (suc (steps_left m at at)) m front ending at 0 at at (omega arith) (omega arith) within part (omega arith))
    (λ x h. record { stands = h.stands; short = omega (arith, h.short) })
    (λ e h. h)

-- what is there is read
pub name_read_in-spelled : (m front : List ℕ) (ending : WireFault) (at after : ℕ) (labels : Labels) → at ≤ length front → length front ≤ length m → SpelledIn m front at after labels → name_read_in m front ending at ≡ Ok (labels, after)
unfolding name_read_in
name_read_in-spelled m front ending at after labels within part h = name_in-found (suc (steps_left m at at)) ending at 0 h.stands (omega arith) (omega arith) within part (omega (arith, h.short))

-- the first fault is told
pub name_read_in-unspelled : (m front : List ℕ) (ending : WireFault) (at : ℕ) (fault : WireFault) → at ≤ length front → length front ≤ length m → UnspelledIn m front ending at fault → name_read_in m front ending at ≡ Err fault
unfolding name_read_in
name_read_in-unspelled m front ending at fault within part h = name_in-fails (suc (steps_left m at at)) h (omega arith) (omega arith) within part

pub spelled_within : {m front : List ℕ} {at after : ℕ} {labels : Labels} → SpelledIn m front at after labels → after ≤ length front
spelled_within h = after_within h.stands

-- ---- names in a message

pub name_read-match : (m : List ℕ) (at : ℕ) → at ≤ length m → MatchResult (name_read m at) (λ x. SpelledName m at x.1 x.0) (λ e. UnspelledName m at e)
name_read-match m at within = name_read_in-match m m Short at within (omega arith)

pub name_read-spelled : (m : List ℕ) (at after : ℕ) (labels : Labels) → at ≤ length m → SpelledName m at after labels → name_read m at ≡ Ok (labels, after)
name_read-spelled m at after labels within h = name_read_in-spelled m m Short at after labels within (omega arith) h

pub name_read-unspelled : (m : List ℕ) (at : ℕ) (fault : WireFault) → at ≤ length m → UnspelledName m at fault → name_read m at ≡ Err fault
name_read-unspelled m at fault within h = name_read_in-unspelled m m Short at fault within (omega arith) h

-- A place with a pointer to the name of the first question, which is before it, has that name.
pub first_pointed : {m front : List ℕ} {at to : ℕ} {name : Labels} → IsFirstName m name → next_at front at ≡ Pointer to → to ≡ 12 → to < at → SpelledIn m front at (at + 2) name
first_pointed h here is before = record { stands = pointer {end = h.after} here before refl (rw is h.spelled.stands); short = h.spelled.short }

-- ---- what the loops find is what reading gives

pub found_within : (m : List ℕ) (limit : ℕ) (ending : WireFault) (at : ℕ) (r : Result (Labels × ℕ) WireFault) → MatchResult r (λ x. NameAt m (take limit m) at at x.1 x.0) (λ e. UnlessMemory e (UnspelledIn m (take limit m) ending at e)) → IfOk r (λ x. x.1 ≤ limit)
found_within m limit ending at (Ok x) h = omega (arith, after_within h, length-take limit m)
found_within m limit ending at (Err e) h = tt

pub found_gives : (m front : List ℕ) (ending : WireFault) (at : ℕ) → at ≤ length front → length front ≤ length m → (r : Result (Labels × ℕ) WireFault) → MatchResult r (λ x. NameAt m front at at x.1 x.0) (λ e. UnlessMemory e (UnspelledIn m front ending at e)) → IfOk r (λ x. IsName x.0) → Gives r (name_read_in m front ending at)
found_gives m front ending at within part (Ok x) h name = name_read_in-spelled m front ending at x.1 x.0 within part (record { stands = h; short = omega (arith, name.short) })
found_gives m front ending at within part (Err e) (inl memory) name = λ other. absurd (other memory)
found_gives m front ending at within part (Err e) (inr h) name = λ _. name_read_in-unspelled m front ending at e within part h

-- the place after a name, or that for each ending there is a fault
abbrev pub EndFound : List ℕ → List ℕ → ℕ → Option ℕ → Type 0
EndFound m front at o = MatchOption o ((ending : WireFault) → (fault : WireFault) × UnspelledIn m front ending at fault) (λ after. (labels : Labels) × SpelledIn m front at after labels)

pub end_within : (m : List ℕ) (limit at : ℕ) (o : Option ℕ) → EndFound m (take limit m) at o → IfSome o (λ after. after ≤ limit)
end_within m limit at None h = tt
end_within m limit at (Some after) h = omega (arith, spelled_within h.1, length-take limit m)

pub end_found : (m front : List ℕ) (ending : WireFault) (at : ℕ) → at ≤ length front → length front ≤ length m → (o : Option ℕ) → EndFound m front at o → o ≡ name_end m front ending at
end_found m front ending at within part None h =
    let none = h ending in
    rw (name_read_in-unspelled m front ending at none.0 within part none.1) refl
end_found m front ending at within part (Some after) h = rw (name_read_in-spelled m front ending at after h.0 within part h.1) refl
