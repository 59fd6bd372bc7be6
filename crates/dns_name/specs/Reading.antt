-- Reading a name from text (RFC 1035 section 5.1), octet by octet from the left, up to the first fault.
use Rattle.std.specs.Prelude.{◌≡◌, ℕ, zero, suc, ◌+◌, ◌-◌, ◌↔◌, List, [], ◌∷◌, ◌++◌, length, map, Option, Some, None, Result, Ok, Err, nat_lt, ◌==◌, if◌then◌else◌}
use Rattle.std.specs.Char.{to_ascii_lowercase, is_ascii_digit, is_ascii_graphic}
use Rattle.std.specs.Str.{bytes_eq}
use Rattle.dns_name.specs.declared.text.Atom.{Atom}
use Rattle.dns_name.specs.declared.text.Atom.TheVariants.{Dot, Octet}
use Rattle.dns_name.specs.declared.fault.NameFault.{NameFault}
use Rattle.dns_name.specs.declared.fault.NameFault.TheVariants.{EmptyLabel, LongLabel, LongName, BadEscape}
use Rattle.dns_name.specs.declared.limits.TheConstants.{MAX_LABEL_OCTETS, MAX_NAME_OCTETS}
use Rattle.dns_name.specs.Labels.{Labels, wire_len_with}
use Rattle.dns_name.specs.Results.{◌>>=◌, or_fault}
use Rattle.dns_name.specs.Text.{decimal, IsNameText, IsFirstFault}

-- the octet that three digits are the number of, and the four octets that its escape takes; x is the first digit
abbrev pub decimal_in : ℕ → List ℕ → Option (ℕ × ℕ)
decimal_in x [] = None
decimal_in x (y ∷ []) = None
decimal_in x (y ∷ z ∷ text) =
    if is_ascii_digit y then (if is_ascii_digit z then (if nat_lt (decimal x y z) 256 then Some (decimal x y z, 4) else None) else None) else None

-- the octet that an escape stands for, from the text after its backslash; and how many octets the escape takes
abbrev pub escape_in : List ℕ → Option (ℕ × ℕ)
escape_in [] = None
escape_in (x ∷ text) = if is_ascii_digit x then decimal_in x text else if is_ascii_graphic x then Some (x, 2) else None

-- an escaped octet as a part of a label
abbrev pub octet_of : Option (ℕ × ℕ) → Option (Atom × ℕ)
octet_of None = None
octet_of (Some found) = Some (Octet found.0, found.1)

-- the dot or octet of a label at the front of a text, and how many octets of text it takes; none if neither is there
abbrev pub atom_at : List ℕ → Option (Atom × ℕ)
atom_at [] = None
atom_at (c ∷ text) = if c == 46 then Some (Dot, 1) else if c == 92 then octet_of (escape_in text) else if is_ascii_graphic c then Some (Octet c, 1) else None

-- the complete labels, and the octets of the label being read, after one more dot or octet
abbrev pub after_atom : Labels → List ℕ → Atom → Result (Labels × List ℕ) NameFault
after_atom before part Dot = if length part == 0 then Err EmptyLabel else Ok (before ++ map to_ascii_lowercase part ∷ [], [])
after_atom before part (Octet b) =
    if length part == MAX_LABEL_OCTETS then Err LongLabel else if nat_lt MAX_NAME_OCTETS (wire_len_with before (length part + 1)) then Err LongName else Ok (before, part ++ b ∷ [])

-- the labels at the end of the text; the last dot may be left out
abbrev pub labels_at_end : Labels → List ℕ → Result Labels NameFault
labels_at_end before (b ∷ part) = Ok (before ++ map to_ascii_lowercase (b ∷ part) ∷ [])
labels_at_end (label ∷ before) [] = Ok (label ∷ before)
labels_at_end [] [] = Err EmptyLabel

-- the labels of the rest of a text, after `before` and `part`; `skip` octets of its front belong to the atom before it
unfoldable pub read : Labels → List ℕ → ℕ → List ℕ → Result Labels NameFault
read before part skip [] = labels_at_end before part
read before part (suc skip) (c ∷ text) = read before part skip text
read before part zero (c ∷ text) = do
  atom ← or_fault BadEscape (atom_at (c ∷ text))
  next ← after_atom before part atom.0
  read next.0 next.1 (atom.1 - 1) text

-- the name that a text stands for, or its first fault from the left; `.` is the root
unfoldable pub name_in : List ℕ → Result Labels NameFault
name_in text = if bytes_eq text (46 ∷ []) then Ok [] else read [] [] 0 text

-- A name is read from a text exactly if the text stands for it.
abbrev pub ReadsWhatStands : Type 0
ReadsWhatStands = (text : List ℕ) (labels : Labels) → (name_in text ≡ Ok labels) ↔ IsNameText text labels

-- A fault is returned exactly if it is the first from the left.
abbrev pub TellsTheFirstFault : Type 0
TellsTheFirstFault = (text : List ℕ) (fault : NameFault) → (name_in text ≡ Err fault) ↔ IsFirstFault text fault
