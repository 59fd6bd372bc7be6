-- The words of the command `admit`.
use Rattle.std.specs.Prelude.{ℕ, Option, Result, Ok, List}
use Rattle.dns_name.specs.Options.{◌>>=◌ as ◌>>=?◌}
use Rattle.dns_name.specs.Results.{◌>>=◌, or_fault}
use Rattle.dns_text.specs.declared.record.Data.{Data}
use Rattle.dns_text.specs.Number.{number_in, unless_zero}
use Rattle.dns_text.specs.declared.ttl.TheConstants.{MOST_TTL}
use Rattle.dns_text.specs.Kind.{type_in}
use Rattle.dns_text.specs.Data.{data_in}
use Rattle.dns_text.specs.Field.{named}
use Rattle.ranked.specs.declared.rank.Rank.{Rank}
use Rattle.ranked.specs.Rank.{rank_at}
use Rattle.command_text.specs.declared.admission_words.AdmitWords.{AdmitWords as LentWords}
use Rattle.command_text.specs.declared.fault.LineFault.{LineFault}
use Rattle.command_text.specs.declared.fault.LineFault.TheVariants.{BadName, BadType, BadData}
use Rattle.command_text.specs.Bar.{pieces}
use Rattle.command_text.specs.Parts.{word_in, each_in}
use Rattle.command_text.specs.Admission.{Given}

-- The words RANK NAME TTL TYPE, and the text from DATA on.
pub record AdmitWords : Type 0 where
  pub rank : List ℕ
  pub name : List ℕ
  pub ttl : List ℕ
  pub kind : List ℕ
  pub body : List ℕ

-- Borrowed words as the octets that they hold.
abbrev pub words_now : LentWords → AdmitWords
words_now words = record { rank = words.rank.now; name = words.name.now; ttl = words.ttl.now; kind = words.kind.now; body = words.body.now }

-- Takes the words of `admit` from the text after the command.
unfoldable pub admit_words : List ℕ → Result AdmitWords LineFault
admit_words text = do
  rank ← word_in text
  name ← word_in rank.1
  ttl ← word_in name.1
  kind ← word_in ttl.1
  datum ← word_in kind.1
  Ok (record { rank = rank.0; name = name.0; ttl = ttl.0; kind = kind.0; body = kind.1 })

-- RANK: a number from 1 to 4.
abbrev pub rank_in : List ℕ → Option Rank
rank_in word = number_in 4 word >>=? rank_at

-- TTL: a number from 1 to 2^31 - 1, in seconds (RFC 2181, section 8).
abbrev pub ttl_in : List ℕ → Option ℕ
ttl_in word = number_in MOST_TTL word >>=? unless_zero

-- The data that are written between the bars.
abbrev pub data_of : ℕ → List (List ℕ) → Option (List Data)
data_of kind pieces = each_in (data_in kind) pieces

-- The values of the words of `admit`, or the first fault from the left.
unfoldable pub given_of : AdmitWords → Result Given LineFault
given_of words = do
  rank ← or_fault BadData (rank_in words.rank)
  owner ← or_fault BadName (named words.name)
  ttl ← or_fault BadData (ttl_in words.ttl)
  kind ← or_fault BadType (type_in words.kind)
  body ← or_fault BadData (data_of kind (pieces words.body))
  Ok (record { rank = rank; owner = owner; ttl = ttl; kind = kind; body = body })
