-- The places after each part of a message, found without keeping the parts, for contracts inside the crate.
use Rattle.std.specs.Prelude.{ℕ, ◌+◌, Bool, false, List, length, Option, Some, None, ◌==◌, nat_lt, if◌then◌else◌, option_and_then}
use Rattle.dns_wire.specs.Read.Header.{answer_count, authority_count, additional_count}
use Rattle.dns_wire.specs.Read.Message.{records_read}
use Rattle.dns_wire.specs.Read.Name.{name_read, place_after}
use Rattle.dns_wire.specs.Read.Rdata.{data_name_read}

-- the place after a name
abbrev pub name_place : List ℕ → ℕ → Option ℕ
name_place m at = place_after (name_read m at)

-- the place after so many records
abbrev pub records_place : List ℕ → ℕ → ℕ → Option ℕ
records_place m count at = place_after (records_read m count at)

-- the place after all records, if the answer section begins at this place
unfoldable pub sections_place : List ℕ → ℕ → Option ℕ
sections_place m at =
    option_and_then (λ authority. option_and_then (λ additional. records_place m (additional_count m) additional) (records_place m (authority_count m) authority)) (records_place m (answer_count m) at)

-- whether a place is the end
abbrev pub is_end : List ℕ → Option ℕ → Bool
is_end front None = false
is_end front (Some at) = at == length front

-- the place after a name at a place of RDATA, which begins at `at` and ends with the front
abbrev pub data_name_place : List ℕ → List ℕ → ℕ → ℕ → Option ℕ
data_name_place m front at place = place_after (data_name_read m front at place)

-- whether a name begins at a place of RDATA and ends with it
abbrev pub ends_with_name : List ℕ → List ℕ → ℕ → ℕ → Bool
ends_with_name m front at place = if nat_lt (length front) place then false else is_end front (data_name_place m front at place)

-- whether five numbers of 32 bits begin at a place and end with the RDATA
abbrev pub ends_with_numbers : List ℕ → Option ℕ → Bool
ends_with_numbers front None = false
ends_with_numbers front (Some numbers) = numbers + 20 == length front

-- whether a second name and five numbers of 32 bits follow the first name and end with the RDATA
abbrev pub soa_behind : List ℕ → List ℕ → ℕ → Option ℕ → Bool
soa_behind m front at None = false
soa_behind m front at (Some second) = ends_with_numbers front (data_name_place m front at second)

-- whether the RDATA is two names and five numbers of 32 bits
abbrev pub is_soa : List ℕ → List ℕ → ℕ → Bool
is_soa m front at = soa_behind m front at (data_name_place m front at at)
