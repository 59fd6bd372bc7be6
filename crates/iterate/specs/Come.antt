-- How a task comes to a name: along aliases, and before it sends a query for it.
use Rattle.std.specs.Prelude.{ℕ, List}
use Rattle.std.specs.List.{Contains}
use Rattle.dns_name.specs.Labels.{Labels}
use Rattle.dns_text.specs.declared.record.Question.{Question}
use Rattle.dns_wire.specs.declared.message.Message.{Message}
use Rattle.dns_query.specs.declared.over.Over.{Over}
use Rattle.dns_text.specs.declared.addr.Addr.{Addr}
use Rattle.dns_query.specs.Believed.{IsFoundFor, IsPassingFor}
use Rattle.dns_query.specs.Query.{IsQuery, alias_question}
use Rattle.dns_query.specs.Response.{IsResponse}
use Rattle.harvest.specs.Harvest.{finds_in, passing_in}
use Rattle.harvest.specs.Learnt.{set_of}
use Rattle.harvest.specs.declared.passing.PassingSet.{PassingSet}
use Rattle.neg_rule.specs.Negative.{said_by}
use Rattle.ranked.specs.declared.find.Find.{Find}
use Rattle.iterate.specs.declared.answer.AnswerSet.{AnswerSet}
use Rattle.iterate.specs.declared.answer.AnswerSet.TheVariants.{Passing as PassingTold}
use Rattle.iterate.specs.declared.want.Allowance.{Allowance}
use Rattle.iterate.specs.declared.want.Input.TheVariants.{Came}
use Rattle.iterate.specs.declared.want.Want.TheVariants.{Send}
use Rattle.iterate.specs.Exchanges.{Exchange, exchange, AreQuiet, Happened}
use Rattle.iterate.specs.Known.{Known, Had}
use Rattle.iterate.specs.Resolved.{question_at}
use Rattle.iterate.specs.Told.{IsTarget, told_whole}

-- The harvest of a response to a question has this set for another.
pub data IsGiven (zone : Labels) (asked : Question) (v : Message) (question : Question) : AnswerSet → Type 0 where
  find : {find : Find} → Contains (finds_in v asked zone) (said_by find) → IsFoundFor question (said_by find) → IsGiven zone asked v question (told_whole find)
  passing : {set : PassingSet} → Contains (passing_in v asked zone) (set_of set) → IsPassingFor question (set_of set) → IsGiven zone asked v question (PassingTold set)

-- The response to a query of this question came with this allowance of finds for the book.
pub record WasAllowed (log : List Exchange) (question : Question) (message : Message) (allowance : Allowance) : Type 0 where
  pub server : Addr
  pub over : Over
  pub bytes : List ℕ
  pub id : ℕ
  pub octets : List ℕ
  pub came : Happened log (exchange (Send server over bytes) (Came octets allowance))
  pub query : IsQuery bytes id question
  pub response : IsResponse id question octets message

-- The last query asked this, and its response gives this set of aliases of the name.
pub record GaveAlias (log : List Exchange) (question : Question) (told : AnswerSet) : Type 0 where
  pub zone : Labels
  pub message : Message
  pub allowance : Allowance
  pub was_allowed : WasAllowed log question message allowance
  pub quiet : AreQuiet was_allowed.came.after
  pub given : IsGiven zone question message (alias_question question.owner) told

-- A task came to this name, and sent no query since. It begins at the name asked. An alias that is known leads on where no query was sent
-- for its name; else only one in the response to the last query, which asked for its name.
pub data HasCome (port : ℕ) (question : Question) : List Exchange → Labels → Type 0 where
  begun : {log : List Exchange} → AreQuiet log → HasCome port question log question.owner
  along : {log : List Exchange} {mid to : Labels} {told : AnswerSet}
      → HasCome port question log mid → Known port log (Had (alias_question mid) told) → IsTarget told to → HasCome port question log to
  answered : {log : List Exchange} {mid to : Labels} {told : AnswerSet}
      → GaveAlias log (question_at question mid) told → IsTarget told to → HasCome port question log to
