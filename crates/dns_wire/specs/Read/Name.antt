-- Names in a message (RFC 1035, sections 3.1 and 4.1.4).
use Rattle.std.specs.Prelude.{◌≡◌, ℕ, zero, suc, ◌+◌, ◌-◌, ◌*◌, ◌<◌, ◌≤◌, List, [], ◌∷◌, length, Option, Some, None, Result, Ok, Err, nat_lt, if◌then◌else◌}
use Rattle.dns_name.specs.declared.limits.TheConstants.{MAX_NAME_OCTETS}
use Rattle.dns_name.specs.Labels.{Labels, wire_len}
use Rattle.dns_wire.specs.declared.read.place.Next.{Next}
use Rattle.dns_wire.specs.declared.read.place.Next.TheVariants.{Finish, Label, Pointer, Reserved, Cut}
use Rattle.dns_wire.specs.declared.fault.WireFault.{WireFault}
use Rattle.dns_wire.specs.declared.fault.WireFault.TheVariants.{Short, BadName, BadPointer}
use Rattle.dns_name.specs.Results.{◌>>=◌}
use Rattle.dns_wire.specs.Read.Place.{next_at, label_at}

-- ---- the name at a place

-- At a place of a front of a message these labels begin, in a run of labels that began at `run`, and `after` is the place
-- after them. Either a zero octet ends the name; or a label is there, and more labels of the same run follow it; or a
-- pointer is there, to a place before the run, and the labels at that place of the message follow.
pub data NameAt (m : List ℕ) : List ℕ → ℕ → ℕ → ℕ → Labels → Type 0 where
  finish : {front : List ℕ} {at run after : ℕ} → next_at front at ≡ Finish → after ≡ at + 1 → NameAt m front at run after []
  label : {front : List ℕ} {at run after n : ℕ} {labels : Labels} → next_at front at ≡ Label n → at + 1 + n ≤ length front
      → NameAt m front (at + 1 + n) run after labels → NameAt m front at run after (label_at front at n ∷ labels)
  pointer : {front : List ℕ} {at run after to end : ℕ} {labels : Labels} → next_at front at ≡ Pointer to → to < run → after ≡ at + 2
      → NameAt m m to to end labels → NameAt m front at run after labels

-- At a place of a front of a message is a name of at most `MAX_NAME_OCTETS`, its zero octet counted, and `after` is the
-- place after it. The name's own octets, up to its zero octet or the end of its first pointer, are within the front.
pub record SpelledIn (m front : List ℕ) (at after : ℕ) (labels : Labels) : Type 0 where
  pub stands : NameAt m front at at after labels
  pub short : wire_len labels ≤ MAX_NAME_OCTETS

-- At a place of a message is such a name.
abbrev pub SpelledName : List ℕ → ℕ → ℕ → Labels → Type 0
SpelledName m at after labels = SpelledIn m m at after labels

-- ---- the first fault of a name at a place

-- A name that began at `start` and has taken `used` octets can't go on at a place of a front, in a run of labels that began
-- at `run`: this is its first fault. Reading past the front gives the fault `ending`; after a pointer the whole message is
-- the front, and reading past it gives `Short`. A label of n octets takes one more for its length, and leaves one for the
-- zero octet. A label too long for the name is `BadName` even if its octets are missing too.
pub data NameFails (m : List ℕ) (start : ℕ) : List ℕ → WireFault → ℕ → ℕ → ℕ → WireFault → Type 0 where
  cut : {front : List ℕ} {ending fault : WireFault} {used at run : ℕ} → next_at front at ≡ Cut → fault ≡ ending
      → NameFails m start front ending used at run fault
  reserved : {front : List ℕ} {ending : WireFault} {used at run : ℕ} → next_at front at ≡ Reserved
      → NameFails m start front ending used at run (BadName start)
  long : {front : List ℕ} {ending : WireFault} {used at run n : ℕ} → next_at front at ≡ Label n → MAX_NAME_OCTETS < used + n + 2
      → NameFails m start front ending used at run (BadName start)
  cut_label : {front : List ℕ} {ending fault : WireFault} {used at run n : ℕ} → next_at front at ≡ Label n → used + n + 2 ≤ MAX_NAME_OCTETS
      → length front < at + 1 + n → fault ≡ ending → NameFails m start front ending used at run fault
  not_before : {front : List ℕ} {ending : WireFault} {used at run to : ℕ} → next_at front at ≡ Pointer to → run ≤ to
      → NameFails m start front ending used at run (BadPointer at)
  after_label : {front : List ℕ} {ending fault : WireFault} {used at run n : ℕ} → next_at front at ≡ Label n → used + n + 2 ≤ MAX_NAME_OCTETS
      → at + 1 + n ≤ length front → NameFails m start front ending (used + n + 1) (at + 1 + n) run fault
      → NameFails m start front ending used at run fault
  after_pointer : {front : List ℕ} {ending fault : WireFault} {used at run to : ℕ} → next_at front at ≡ Pointer to → to < run
      → NameFails m start m Short used to to fault → NameFails m start front ending used at run fault

-- The octets from a place of a front on spell no name: this is the first fault. Reading past the front gives `ending`.
abbrev pub UnspelledIn : List ℕ → List ℕ → WireFault → ℕ → WireFault → Type 0
UnspelledIn m front ending at fault = NameFails m at front ending 0 at at fault

-- The octets from a place of a message on spell no name: this is the first fault.
abbrev pub UnspelledName : List ℕ → ℕ → WireFault → Type 0
UnspelledName m at fault = UnspelledIn m m Short at fault

-- ---- reading

-- the labels from a place on and the place after the name, by what is at the place. `go` reads on with this many octets
-- used, at this place, in this run; `jump` reads on at the place that a pointer points to.
abbrev pub name_by : List ℕ → WireFault → ℕ → ℕ → ℕ → ℕ → (ℕ → ℕ → ℕ → Result (Labels × ℕ) WireFault) → (ℕ → ℕ → Result (Labels × ℕ) WireFault) → Next
    → Result (Labels × ℕ) WireFault
name_by front ending start used at run go jump Finish = Ok ([], at + 1)
name_by front ending start used at run go jump (Label n) =
    if nat_lt MAX_NAME_OCTETS (used + n + 2) then Err (BadName start) else if nat_lt (length front) (at + 1 + n) then Err ending else
    (go (used + n + 1) (at + 1 + n) run >>= λ x. Ok (label_at front at n ∷ x.0, x.1))
name_by front ending start used at run go jump (Pointer to) =
    if nat_lt to run then (jump used to >>= λ x. Ok (x.0, at + 2)) else Err (BadPointer at)
name_by front ending start used at run go jump Reserved = Err (BadName start)
name_by front ending start used at run go jump Cut = Err ending

-- the same, in a number of steps that is always enough
unfoldable pub name_in : ℕ → List ℕ → List ℕ → WireFault → ℕ → ℕ → ℕ → ℕ → Result (Labels × ℕ) WireFault
name_in zero m front ending start used at run = Err Short
name_in (suc more) m front ending start used at run =
    name_by front ending start used at run (λ u a r. name_in more m front ending start u a r) (λ u to. name_in more m m Short start u to to) (next_at front at)

-- a number of steps after which no name can go on from a place
abbrev pub steps_left : List ℕ → ℕ → ℕ → ℕ
steps_left m at run = run * (length m + 1) + (length m - at)

-- the name at a place of a front, and the place after it
unfoldable pub name_read_in : List ℕ → List ℕ → WireFault → ℕ → Result (Labels × ℕ) WireFault
name_read_in m front ending at = name_in (suc (steps_left m at at)) m front ending at 0 at at

-- the name at a place of a message, and the place after it
abbrev pub name_read : List ℕ → ℕ → Result (Labels × ℕ) WireFault
name_read m at = name_read_in m m Short at

-- the place after what was read
abbrev pub place_after : {A : Type 0} → Result (A × ℕ) WireFault → Option ℕ
place_after (Ok x) = Some x.1
place_after (Err fault) = None

-- the place after the name at a place of a front
abbrev pub name_end : List ℕ → List ℕ → WireFault → ℕ → Option ℕ
name_end m front ending at = place_after (name_read_in m front ending at)
