-- The find that an `admit` line admits.
use Rattle.std.specs.Prelude.{◌≡◌, ℕ, ◌≤◌, List, length, min}
use Rattle.std.specs.List.{AllByRecursion}
use Rattle.dns_name.specs.Labels.{Labels}
use Rattle.dns_text.specs.declared.record.Data.{Data}
use Rattle.dns_text.specs.Data.{HasForm}
use Rattle.dns_text.specs.Equal.{data_eq}
use Rattle.ranked.specs.declared.rank.Rank.{Rank}
use Rattle.ranked.specs.declared.find.Find.{Find}
use Rattle.ranked.specs.declared.find.Scope.TheVariants.{One}
use Rattle.ranked.specs.declared.find.Body.TheVariants.{Set}
use Rattle.ranked.specs.declared.find.TheConstants.{LONGEST_TTL}
use Rattle.ranked.specs.Set.{each_once}

-- The words of an `admit` line, as values.
pub record Given : Type 0 where
  pub rank : Rank
  pub owner : Labels
  pub ttl : ℕ
  pub kind : ℕ
  pub body : List Data

-- Its TTL is not 0, it has a datum, and each datum has the form of its type.
pub record IsSound (given : Given) : Type 0 where
  pub lives : 1 ≤ given.ttl
  pub some : 1 ≤ length given.body
  pub formed : AllByRecursion (HasForm given.kind) given.body

-- The find that it admits: each datum once, and a TTL of a day at most.
pub record IsFindOf (given : Given) (find : Find) : Type 0 where
  pub owner : find.owner ≡ given.owner
  pub scope : find.scope ≡ One given.kind
  pub rank : find.rank ≡ given.rank
  pub ttl : find.ttl ≡ min given.ttl LONGEST_TTL
  pub body : find.body ≡ Set (each_once data_eq given.body)
