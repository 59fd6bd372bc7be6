-- The words of the commands `nodata` and `noname`.
use Rattle.std.specs.Prelude.{ℕ, Result, Ok, List}
use Rattle.dns_name.specs.Results.{◌>>=◌, or_fault}
use Rattle.dns_text.specs.declared.record.Record.{Record}
use Rattle.dns_text.specs.declared.types.TheConstants.{SOA}
use Rattle.dns_text.specs.Kind.{type_in}
use Rattle.dns_text.specs.Data.{data_in}
use Rattle.dns_text.specs.Field.{named}
use Rattle.ranked.specs.declared.find.Scope.TheVariants.{One, Whole}
use Rattle.command_text.specs.declared.denial_words.SoaWords.{SoaWords as LentSoaWords}
use Rattle.command_text.specs.declared.denial_words.NoDataWords.{NoDataWords as LentNoDataWords}
use Rattle.command_text.specs.declared.denial_words.NoNameWords.{NoNameWords as LentNoNameWords}
use Rattle.command_text.specs.declared.fault.LineFault.{LineFault}
use Rattle.command_text.specs.declared.fault.LineFault.TheVariants.{BadName, BadType, BadData}
use Rattle.command_text.specs.Parts.{word_in}
use Rattle.command_text.specs.Admit.{ttl_in}
use Rattle.command_text.specs.Denial.{Denied}

-- ---- the words

-- The word OWNER, and the text from SOA-DATA on.
pub record SoaWords : Type 0 where
  pub owner : List ℕ
  pub body : List ℕ

-- The words NAME TTL TYPE, and those of the SOA record.
pub record NoDataWords : Type 0 where
  pub name : List ℕ
  pub ttl : List ℕ
  pub kind : List ℕ
  pub soa : SoaWords

-- The words NAME TTL, and those of the SOA record.
pub record NoNameWords : Type 0 where
  pub name : List ℕ
  pub ttl : List ℕ
  pub soa : SoaWords

-- Borrowed words of an SOA record as the octets that they hold.
abbrev pub soa_now : LentSoaWords → SoaWords
soa_now words = record { owner = words.owner.now; body = words.body.now }

-- Borrowed words of `nodata` as the octets that they hold.
abbrev pub no_data_now : LentNoDataWords → NoDataWords
no_data_now words = record { name = words.name.now; ttl = words.ttl.now; kind = words.kind.now; soa = soa_now words.soa }

-- Borrowed words of `noname` as the octets that they hold.
abbrev pub no_name_now : LentNoNameWords → NoNameWords
no_name_now words = record { name = words.name.now; ttl = words.ttl.now; soa = soa_now words.soa }

-- Takes the words of the SOA record from a text.
unfoldable pub soa_words : List ℕ → Result SoaWords LineFault
soa_words text = do
  owner ← word_in text
  datum ← word_in owner.1
  Ok (record { owner = owner.0; body = owner.1 })

-- Takes the words of `nodata` from the text after the command.
unfoldable pub no_data_words : List ℕ → Result NoDataWords LineFault
no_data_words text = do
  name ← word_in text
  ttl ← word_in name.1
  kind ← word_in ttl.1
  soa ← soa_words kind.1
  Ok (record { name = name.0; ttl = ttl.0; kind = kind.0; soa = soa })

-- Takes the words of `noname` from the text after the command.
unfoldable pub no_name_words : List ℕ → Result NoNameWords LineFault
no_name_words text = do
  name ← word_in text
  ttl ← word_in name.1
  soa ← soa_words ttl.1
  Ok (record { name = name.0; ttl = ttl.0; soa = soa })

-- ---- what they say

-- The SOA record, with the TTL of the negative answer.
unfoldable pub soa_of : ℕ → SoaWords → Result Record LineFault
soa_of ttl words = do
  owner ← or_fault BadName (named words.owner)
  body ← or_fault BadData (data_in SOA words.body)
  Ok (record { owner = owner; kind = SOA; ttl = ttl; body = body })

-- The values of the words of `nodata`, or the first fault from the left.
unfoldable pub no_data_of : NoDataWords → Result Denied LineFault
no_data_of words = do
  owner ← or_fault BadName (named words.name)
  ttl ← or_fault BadData (ttl_in words.ttl)
  kind ← or_fault BadType (type_in words.kind)
  soa ← soa_of ttl words.soa
  Ok (record { owner = owner; scope = One kind; ttl = ttl; soa = soa })

-- The values of the words of `noname`, or the first fault from the left.
unfoldable pub no_name_of : NoNameWords → Result Denied LineFault
no_name_of words = do
  owner ← or_fault BadName (named words.name)
  ttl ← or_fault BadData (ttl_in words.ttl)
  soa ← soa_of ttl words.soa
  Ok (record { owner = owner; scope = Whole; ttl = ttl; soa = soa })
