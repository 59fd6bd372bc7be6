-- The sets of a harvest that may be used as answers: those of rank 2 or more (RFC 2181, section 5.4.1).
use Rattle.std.specs.Prelude.{◌≡◌, ℕ, ◌≤◌, ◌<◌, false, List, length, map, take, slice_index_or, Option, MatchOption}
use Rattle.std.specs.Borrow.{Bor}
use Rattle.std.specs.List.{AllByRecursion, Contains}
use Rattle.dns_name.specs.Labels.{Labels}
use Rattle.dns_text.specs.declared.record.Question.{Question}
use Rattle.dns_wire.specs.declared.message.Message.{Message}
use Rattle.ranked.specs.Body.{is_negative}
use Rattle.ranked.specs.Rank.{level_of}
use Rattle.ranked.specs.declared.find.Find.{Find as CachedFind}
use Rattle.ranked.specs.declared.find.Scope.TheVariants.{One}
use Rattle.neg_rule.specs.Negative.{Said, said_by}
use Rattle.harvest.specs.Harvest.{finds_in, passing_in}
use Rattle.harvest.specs.Learnt.{set_of}
use Rattle.harvest.specs.Sets.{Set}
use Rattle.harvest.specs.declared.harvest_type.Harvest.{Harvest}
use Rattle.harvest.specs.declared.passing.PassingSet.{PassingSet}
use Rattle.dns_query.specs.declared.sets.Believed.{Believed}
use Rattle.dns_query.specs.declared.sets.Believed.TheVariants.{Find, Passing}

-- The find is a set of the question's name and type, trusted enough to be an answer.
pub record IsFoundFor (question : Question) (said : Said) : Type 0 where
  pub owner : said.owner ≡ question.owner
  pub kind : said.scope ≡ One question.kind
  pub trusted : 2 ≤ level_of said.rank
  pub has_data : is_negative said.body ≡ false

-- The passing set is of the question's name and type, and trusted enough to be an answer.
pub record IsPassingFor (question : Question) (set : Set) : Type 0 where
  pub owner : set.key.owner ≡ question.owner
  pub kind : set.key.kind ≡ question.kind
  pub trusted : 2 ≤ level_of set.key.rank

-- One of the finds or passing sets may be used as the answer to this question.
pub data HasSetAmong (finds : List Said) (passing : List Set) (question : Question) : Type 0 where
  found : (said : Said) → Contains finds said → IsFoundFor question said → HasSetAmong finds passing question
  passes : (set : Set) → Contains passing set → IsPassingFor question set → HasSetAmong finds passing question

-- A harvest has a set that may be used as the answer to this question.
abbrev pub HarvestHasSet : Harvest → Question → Type 0
HarvestHasSet harvest question = HasSetAmong (map said_by harvest.finds) (map set_of harvest.passing) question

-- The harvest of a response, from a zone that was asked a question, has such a set for another question.
abbrev pub HasSet : Message → Question → Labels → Question → Type 0
HasSet v asked zone question = HasSetAmong (finds_in v asked zone) (passing_in v asked zone) question

-- The element is the first of the list of which P holds.
pub record IsFirst {X : Type 0} (P : X → Type 0) (xs : List X) (x : X) : Type 0 where
  pub at : ℕ
  pub within : at < length xs
  pub stands : slice_index_or xs at x ≡ x
  pub holds : P x
  pub none_before : AllByRecursion (λ y. ¬ (P y)) (take at xs)

-- It is the first find that may be the answer to this question, or if there is none, the first such passing set.
abbrev pub IsBelieved : List Said → List Set → Question → Believed → Type 0
IsBelieved finds passing question (Find find) = IsFirst (IsFoundFor question) finds (said_by find.now)
IsBelieved finds passing question (Passing set) = AllByRecursion (λ said. ¬ (IsFoundFor question said)) finds × IsFirst (IsPassingFor question) passing (set_of set.now)

-- The first of these finds that may be the answer to this question is found, if there is one.
abbrev pub FindsFirstFind : Question → List CachedFind → Option (Bor CachedFind) → Type 0
FindsFirstFind question finds told =
    MatchOption told (AllByRecursion (λ said. ¬ (IsFoundFor question said)) (map said_by finds)) (λ find. IsFirst (IsFoundFor question) (map said_by finds) (said_by find.now))

-- The first of these passing sets that may be the answer to this question is found, if there is one.
abbrev pub FindsFirstPassing : Question → List PassingSet → Option (Bor PassingSet) → Type 0
FindsFirstPassing question passing told =
    MatchOption told (AllByRecursion (λ set. ¬ (IsPassingFor question set)) (map set_of passing)) (λ set. IsFirst (IsPassingFor question) (map set_of passing) (set_of set.now))

-- The set of a harvest that is believed for this question is found, if the harvest has one.
abbrev pub FindsBelieved : Harvest → Question → Option Believed → Type 0
FindsBelieved harvest question told =
    MatchOption told (¬ (HarvestHasSet harvest question)) (IsBelieved (map said_by harvest.finds) (map set_of harvest.passing) question)
