-- The table of record types: their numbers, their names and the forms of their data.
use Rattle.std.specs.Prelude.{ℕ, Bool, ◌||◌, ◌&&◌, List, [], ◌∷◌, ◌++◌, Option, Some, None, ◌==◌, nat_le, if◌then◌else◌, codes, decimal}
use Rattle.std.specs.Str.{str_eq_ignore_ascii_case}
use Rattle.dns_text.specs.declared.kind.Form.{Form}
use Rattle.dns_text.specs.declared.kind.Form.TheVariants.{A, Aaaa, Name, Mx, Soa, Txt, Srv, Opaque}
use Rattle.dns_text.specs.declared.number.TheConstants.{MOST_16}
use Rattle.dns_text.specs.declared.types.TheConstants as number
use Rattle.dns_text.specs.Number.{short_number_in}
use Rattle.dns_name.specs.Options.{◌>>=◌}

-- a row of the table: number, name and form
abbrev pub KindRow : Type 0
KindRow = ℕ × List ℕ × Form

-- the types that have a name
abbrev pub types : List KindRow
types =
    (number.A, codes "A", A) ∷ (number.NS, codes "NS", Name) ∷ (number.CNAME, codes "CNAME", Name) ∷ (number.SOA, codes "SOA", Soa) ∷ (number.PTR, codes "PTR", Name) ∷ (number.MX, codes "MX", Mx)
    ∷ (number.TXT, codes "TXT", Txt) ∷ (number.AAAA, codes "AAAA", Aaaa) ∷ (number.SRV, codes "SRV", Srv) ∷ (number.NAPTR, codes "NAPTR", Opaque) ∷ (number.DNAME, codes "DNAME", Opaque) ∷ []

-- the row of a number
unfoldable pub by_number : ℕ → List KindRow → Option KindRow
by_number kind [] = None
by_number kind (t ∷ table) = if t.0 == kind then Some t else by_number kind table

-- the row of a name, without regard to case
unfoldable pub by_name : List ℕ → List KindRow → Option KindRow
by_name word [] = None
by_name word (t ∷ table) = if str_eq_ignore_ascii_case t.1 word then Some t else by_name word table

-- the form of a row; opaque if the type has none
abbrev pub form_or_opaque : Option KindRow → Form
form_or_opaque None = Opaque
form_or_opaque (Some t) = t.2

-- the form of a type's data
abbrev pub form_of : ℕ → Form
form_of kind = form_or_opaque (by_number kind types)

-- the number n of `TYPEn`
abbrev pub type_number : List ℕ → Option ℕ
type_number [] = None
type_number (t ∷ []) = None
type_number (t ∷ y ∷ []) = None
type_number (t ∷ y ∷ p ∷ []) = None
type_number (t ∷ y ∷ p ∷ e ∷ digits) = if str_eq_ignore_ascii_case (codes "TYPE") (t ∷ y ∷ p ∷ e ∷ []) then short_number_in MOST_16 digits else None

-- whether a type is one that no record has: an obsolete type of mail, a type of questions alone, or OPT
abbrev pub is_excluded : ℕ → Bool
is_excluded n =
    n == number.MD || n == number.MF || n == number.MB || n == number.MG || n == number.MR || n == number.MINFO || n == number.OPT || (nat_le number.IXFR n && nat_le n number.ANY)

-- the number of a row, or another if there is no row
abbrev pub number_or : Option ℕ → Option KindRow → Option ℕ
number_or other None = other
number_or other (Some t) = Some t.0

-- the type, if records may have it
abbrev pub unless_excluded : ℕ → Option ℕ
unless_excluded kind = if is_excluded kind then None else Some kind

-- the type that a word names
unfoldable pub type_in : List ℕ → Option ℕ
type_in word = number_or (type_number word) (by_name word types) >>= unless_excluded

-- the name of a row, or `TYPE` and the number if there is no row
abbrev pub name_or_number : ℕ → Option KindRow → List ℕ
name_or_number kind None = codes "TYPE" ++ decimal kind
name_or_number kind (Some t) = t.1

-- a type as text: its name, or `TYPE` and its number if it has no name
abbrev pub type_text : ℕ → List ℕ
type_text kind = name_or_number kind (by_number kind types)
