-- Values of options and arguments: those that the words give, or else the defaults.
use Rattle.std.specs.Prelude.{◌≡◌, ◌<◌, ◌^◌, ℕ, List, [], Option, Some, None, map, option_map, unwrap_or}
use Rattle.std.specs.List.{join_with_byte}
use Rattle.std.specs.Str.Parse.{IsNumeral, digits_value, without_leading_plus}
use Rattle.clap.specs.Matches.{found_of}
use Rattle.clap.specs.Walk.{Row, Text, all_of, first_of, one_of, rows_of}
use Rattle.clap.specs.declared.parser.matches.ArgMatches.{ArgMatches}
use Rattle.dns_text.specs.declared.addr.Addr.{Addr}
use Rattle.dns_text.specs.Addr.{addr_in}

-- Decimal digits that write this number.
abbrev pub WritesNumber : Text → ℕ → Type 0
WritesNumber text n = IsNumeral 10 (without_leading_plus text) × (digits_value 10 (without_leading_plus text) ≡ n)

-- The values of a parse, without those of its subcommand.
abbrev pub rows_in : ArgMatches → List Row
rows_in found = rows_of (found_of found)

-- The option has this number.
abbrev pub GivesNumber : List Row → Text → ℕ → Type 0
GivesNumber rows name n = (text : Text) × (one_of name rows ≡ Some text) × WritesNumber text n

-- The option has this number of 32 bits, or is absent.
abbrev pub MayGive : List Row → Text → Option ℕ → Type 0
MayGive rows name None = one_of name rows ≡ None
MayGive rows name (Some n) = GivesNumber rows name n × (n < 2 ^ 32)

-- The option has no number of so many bits.
abbrev pub LacksNumber : ℕ → List Row → Text → Type 0
LacksNumber bits rows name = (n : ℕ) → n < 2 ^ bits → GivesNumber rows name n → ⊥

-- The option is there, but has no number of 32 bits.
abbrev pub LacksOption : List Row → Text → Type 0
LacksOption rows name = (n : Option ℕ) → MayGive rows name n → ⊥

-- The option has this address.
abbrev pub GivesAddr : List Row → Text → Addr → Type 0
GivesAddr rows name addr = (text : Text) × (first_of name rows ≡ Some text) × (addr_in text ≡ Some addr)

-- The option has no address.
abbrev pub LacksAddr : List Row → Text → Type 0
LacksAddr rows name = (addr : Addr) → GivesAddr rows name addr → ⊥

-- These texts write these values, as they are read here.
abbrev pub AreRead : {X : Type 0} → (Text → Option X) → List Text → List X → Type 0
AreRead read texts values = map read texts ≡ map Some values

-- The option or argument has these values.
abbrev pub GivesEach : {X : Type 0} → (Text → Option X) → List Row → Text → List X → Type 0
GivesEach read rows name values = AreRead read (unwrap_or (all_of name rows) []) values

-- A word of the option or argument writes no value.
abbrev pub LacksEach : {X : Type 0} → (Text → Option X) → List Row → Text → Type 0
LacksEach {X} read rows name = (values : List X) → GivesEach read rows name values → ⊥

-- These texts write these addresses.
abbrev pub AreAddrs : List Text → List Addr → Type 0
AreAddrs texts addrs = AreRead addr_in texts addrs

-- The argument has these addresses.
abbrev pub GivesAddrs : List Row → Text → List Addr → Type 0
GivesAddrs rows name addrs = GivesEach addr_in rows name addrs

-- A word of the argument is no address.
abbrev pub LacksAddrs : List Row → Text → Type 0
LacksAddrs rows name = LacksEach addr_in rows name

-- The option has this text, or is absent.
abbrev pub GivesText : List Row → Text → Option Text → Type 0
GivesText rows name text = text ≡ first_of name rows

-- The argument has these words, with a blank between two, or is absent.
abbrev pub GivesLine : List Row → Text → Option Text → Type 0
GivesLine rows name line = line ≡ option_map (join_with_byte 32) (all_of name rows)
