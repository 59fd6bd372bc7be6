-- The negative answer that a `nodata` or `noname` line admits.
use Rattle.std.specs.Prelude.{◌≡◌, ℕ, ◌≤◌, min}
use Rattle.dns_name.specs.Labels.{Labels}
use Rattle.dns_text.specs.declared.record.Record.{Record}
use Rattle.ranked.specs.declared.rank.Rank.TheVariants.{AuthoritativeAnswer}
use Rattle.ranked.specs.declared.find.Find.{Find}
use Rattle.ranked.specs.declared.find.Scope.{Scope}
use Rattle.ranked.specs.declared.find.Scope.TheVariants.{One, Whole}
use Rattle.ranked.specs.declared.find.Body.{Body}
use Rattle.ranked.specs.declared.find.Body.TheVariants.{NoData, NoName}
use Rattle.ranked.specs.declared.find.TheConstants.{LONGEST_NEGATIVE_TTL}
use Rattle.ranked.specs.Body.{IsSoa}

-- The words of such a line, as values.
pub record Denied : Type 0 where
  pub owner : Labels
  pub scope : Scope
  pub ttl : ℕ
  pub soa : Record

-- Its TTL is not 0, and its record is an SOA record.
pub record IsSound (denied : Denied) : Type 0 where
  pub lives : 1 ≤ denied.ttl
  pub soa : IsSoa denied.soa

-- The negative answer: for one type of the name, or for the whole name.
abbrev pub denying : Scope → Record → Body
denying (One kind) soa = NoData soa
denying Whole soa = NoName soa

-- The find that it admits: of the highest rank, and with a TTL of an hour at most.
pub record IsDenialOf (denied : Denied) (find : Find) : Type 0 where
  pub owner : find.owner ≡ denied.owner
  pub scope : find.scope ≡ denied.scope
  pub rank : find.rank ≡ AuthoritativeAnswer
  pub ttl : find.ttl ≡ min denied.ttl LONGEST_NEGATIVE_TTL
  pub body : find.body ≡ denying denied.scope denied.soa
