-- How far a response leads.
use Rattle.std.specs.Prelude.{◌≡◌, ◌<◌, ◌⊎◌, ℕ, false, List, length, Option, Some, None, IfSome, MatchOption, map}
use Rattle.std.specs.Option.{option_map}
use Rattle.dns_name.specs.Labels.{Labels}
use Rattle.dns_text.specs.declared.record.Question.{Question}
use Rattle.dns_wire.specs.declared.message.Message.{Message}
use Rattle.dns_query.specs.declared.sets.Believed.{Believed}
use Rattle.dns_query.specs.declared.sets.Believed.TheVariants.{Find, Passing}
use Rattle.dns_query.specs.Believed.{IsBelieved, HarvestHasSet}
use Rattle.dns_query.specs.Query.{alias_question}
use Rattle.harvest.specs.declared.harvest_type.Harvest.{Harvest}
use Rattle.harvest.specs.Harvest.{finds_in, passing_in}
use Rattle.harvest.specs.Learnt.{set_of}
use Rattle.neg_rule.specs.Negative.{said_by}
use Rattle.ranked.specs.declared.find.Find.{Find as Denial}
use Rattle.iterate.specs.declared.answer.AnswerSet.{AnswerSet}
use Rattle.iterate.specs.declared.answer.AnswerSet.TheVariants.{Passing as PassingTold}
use Rattle.iterate.specs.declared.following.Hop.{Hop}
use Rattle.iterate.specs.declared.following.Hop.TheVariants.{Set, Alias, Nowhere}
use Rattle.history.specs.declared.event.Ask.TheVariants.{Answer as Asked}
use Rattle.history.specs.declared.event.Event.TheVariants.{Look}
use Rattle.iterate.specs.declared.answer.Answer.TheVariants.{Reply as Replies}
use Rattle.iterate.specs.declared.limits.TheConstants.{MOST_ALIASES}
use Rattle.iterate.specs.declared.path.Path.{Path}
use Rattle.iterate.specs.declared.want.Want.{Want}
use Rattle.iterate.specs.declared.want.Want.TheVariants.{Book, Finish}
use Rattle.iterate.specs.Come.{GaveAlias}
use Rattle.iterate.specs.Exchanges.{Exchange}
use Rattle.iterate.specs.Known.{Known, Had, Responds}
use Rattle.iterate.specs.Told.{IsTarget, soa_whole, told_whole}

-- The harvest is that of a response.
pub record IsHarvestOf (port : ℕ) (log : List Exchange) (harvest : Harvest) : Type 0 where
  pub zone : Labels
  pub asked : Question
  pub message : Message
  pub responds : Known port log (Responds zone asked message)
  pub finds : map said_by harvest.finds ≡ finds_in message asked zone
  pub passing : map set_of harvest.passing ≡ passing_in message asked zone

-- a set of a harvest, as an answer tells it
abbrev pub told_by : Believed → AnswerSet
told_by (Find find) = told_whole find.now
told_by (Passing set) = PassingTold set.now

-- The set, if any, answers the question.
abbrev pub IsHadIfSome : ℕ → List Exchange → Question → Option AnswerSet → Type 0
IsHadIfSome port log question found = IfSome found (λ told. Known port log (Had question told))

-- This set of a harvest may answer the question, and is the one that is believed.
pub record IsToldBy (harvest : Harvest) (question : Question) (told : AnswerSet) : Type 0 where
  pub set : Believed
  pub believed : IsBelieved (map said_by harvest.finds) (map set_of harvest.passing) question set
  pub is : told ≡ told_by set

-- The set of a harvest that answers the question is found, if it has one.
abbrev pub HasTold : Harvest → Question → Option AnswerSet → Type 0
HasTold harvest question found = MatchOption found (¬ (HarvestHasSet harvest question)) (IsToldBy harvest question)

-- A harvest leads along the alias of a name, if it has one.
abbrev pub IsAliasHop : Harvest → Labels → Hop → Type 0
IsAliasHop harvest name (Set told) = ⊥
IsAliasHop harvest name (Alias told to) = IsToldBy harvest (alias_question name) told × IsTarget told to
IsAliasHop harvest name Nowhere = ¬ (HarvestHasSet harvest (alias_question name))

-- A harvest leads to the set of a question, if it has one, else along the alias of its name.
abbrev pub IsHop : Harvest → Question → Hop → Type 0
IsHop harvest question (Set told) = IsToldBy harvest question told
IsHop harvest question hop = (¬ (HarvestHasSet harvest question)) × IsAliasHop harvest question.owner hop

-- ---- a step inside a harvest

-- The question is answered, with the set of the harvest.
abbrev pub TellsSet : Harvest → Path → Want → Type 0
TellsSet harvest path want = (told : AnswerSet) × IsToldBy harvest path.last told × (want ≡ Finish (Replies 0 false path.sets.items (Some told) None))

-- The question is denied, as a response denies it.
abbrev pub TellsDenial : Path → ℕ → Option Denial → Want → Type 0
TellsDenial path rcode negative want = want ≡ Finish (Replies rcode false path.sets.items None (option_map soa_whole negative))

-- The question behind the alias of the harvest is looked up.
abbrev pub LooksBehind : Harvest → Path → ℕ → Want → Type 0
LooksBehind harvest path moment want =
    (told : AnswerSet) × (to : Labels) × IsToldBy harvest (alias_question path.last.owner) told × IsTarget told to
    × (want ≡ Book (Look moment (Asked (record { owner = to; kind = path.last.kind }))))

-- A step follows the harvest: to the set of the last question, if it has one, else along the alias, if it has one and not too many were followed.
pub record FollowsHarvest (harvest : Harvest) (path : Path) (moment : ℕ) (want : Want) : Type 0 where
  pub tells : HarvestHasSet harvest path.last → TellsSet harvest path want
  pub looks : ¬ (HarvestHasSet harvest path.last) → HarvestHasSet harvest (alias_question path.last.owner) → length path.sets.items < MOST_ALIASES
      → LooksBehind harvest path moment want

-- The harvest is that of the response to the last query, which asked this question, and it has the set or an alias.
pub record IsAnswering (port : ℕ) (log : List Exchange) (question : Question) (harvest : Harvest) : Type 0 where
  pub heard : IsHarvestOf port log harvest
  pub answers : HarvestHasSet harvest question ⊎ HarvestHasSet harvest (alias_question question.owner)
  pub gives : (told : AnswerSet) → IsToldBy harvest (alias_question question.owner) told → GaveAlias log question told
