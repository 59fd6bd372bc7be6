-- Written texts as words of a line, which are read back anywhere in the line.
use Rattle.std.specs.Prelude.{◌≡◌, ◌<◌, ◌^◌, ℕ, false, List, [], ◌∷◌, ◌++◌, length, get_or, Some, Ok, decimal}
use Rattle.dns_name.specs.Labels.{Labels, IsName}
use Rattle.dns_name.specs.Text.{text_of}
use Rattle.dns_text.specs.declared.addr.Ip.{Ip}
use Rattle.dns_text.specs.declared.addr.Ip.TheVariants.{V4, V6}
use Rattle.dns_text.specs.declared.addr.Addr.{Addr}
use Rattle.dns_text.specs.declared.record.Record.{Record}
use Rattle.dns_text.specs.Word.{next_word}
use Rattle.dns_text.specs.Kind.{is_excluded, type_in, type_text}
use Rattle.dns_text.specs.Field.{named}
use Rattle.dns_text.specs.Addr.{addr_in, addr_text}
use Rattle.dns_text.specs.Data.{data_in, data_text}
use Rattle.dns_text.specs.Record.{record_in, record_text}

-- The text is one word, both at the end of a line and before a blank.
pub record StandsAsWord (text : List ℕ) : Type 0 where
  pub last : next_word text ≡ Some (text, [])
  pub first : (rest : List ℕ) → next_word (text ++ 32 ∷ rest) ≡ Some (text, 32 ∷ rest)

-- The text of a name is one word, which is read back as the name.
abbrev pub WritesNames : Type 0
WritesNames = (name : Labels) → IsName name → StandsAsWord (text_of name) × (named (text_of name) ≡ Some name)

-- The digits of a number are one word.
abbrev pub WritesNumbers : Type 0
WritesNumbers = (n : ℕ) → n < 2 ^ 64 → StandsAsWord (decimal n)

-- The text of a type is one word, which is read back as the type if records may have it.
abbrev pub WritesTypes : Type 0
WritesTypes = (kind : ℕ) → kind < 2 ^ 16 → StandsAsWord (type_text kind) × (is_excluded kind ≡ false → type_in (type_text kind) ≡ Some kind)

-- The address has 4 or 16 octets.
abbrev pub IsIp : Ip → Type 0
IsIp (V4 octets) = (length octets ≡ 4) × ((i : ℕ) → get_or octets i 0 < 256)
IsIp (V6 octets) = (length octets ≡ 16) × ((i : ℕ) → get_or octets i 0 < 256)

-- The text of a server's address is one word, which is read back as the address.
abbrev pub WritesAddrs : Type 0
WritesAddrs = (addr : Addr) → IsIp addr.ip → 0 < addr.port → addr.port < 2 ^ 16 → StandsAsWord (addr_text addr) × (addr_in (addr_text addr) ≡ Some addr)

-- If the data of a record is read back, so is the record, for each type that records may have.
abbrev pub WritesRecords : Type 0
WritesRecords =
    (r : Record) → IsName r.owner → r.kind < 2 ^ 16 → is_excluded r.kind ≡ false → r.ttl < 2 ^ 31 → data_in r.kind (data_text r.body) ≡ Some r.body → record_in (record_text r) ≡ Ok r
