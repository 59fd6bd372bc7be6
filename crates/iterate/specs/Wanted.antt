-- What a task may want.
use Rattle.std.specs.Prelude.{◌≡◌, ℕ, ◌%◌, ◌^◌, List, min, take}
use Rattle.iterate.specs.declared.want.Allowance.{Allowance}
use Rattle.iterate.specs.declared.want.Input.{Input}
use Rattle.std.specs.List.{Contains}
use Rattle.dns_name.specs.Labels.{Labels, IsAtOrBelow}
use Rattle.dns_text.specs.declared.addr.Addr.{Addr}
use Rattle.dns_text.specs.declared.record.Question.{Question}
use Rattle.dns_wire.specs.declared.message.Message.{Message}
use Rattle.dns_query.specs.declared.over.Over.{Over}
use Rattle.dns_query.specs.declared.over.Over.TheVariants.{Udp, Tcp}
use Rattle.dns_query.specs.Query.{IsQuery, address_question}
use Rattle.dns_query.specs.Verdict.{IsSaid, IsTruncated}
use Rattle.dns_query.specs.declared.verdict.Says.{Says}
use Rattle.harvest.specs.Chosen.{chosen_in}
use Rattle.neg_rule.specs.Negative.{said_by}
use Rattle.rand_core.specs.Stream.{Stream, next_u32}
use Rattle.ranked.specs.declared.find.Find.{Find}
use Rattle.history.specs.declared.event.Ask.TheVariants.{Answer as Asked, Oldest, Servers as ServersFor}
use Rattle.history.specs.declared.event.Event.{Event}
use Rattle.history.specs.declared.event.Event.TheVariants.{Admit, Forget, Look, Sweep}
use Rattle.history.specs.declared.servers.Servers.{Servers}
use Rattle.iterate.specs.declared.answer.AnswerSet.{AnswerSet}
use Rattle.iterate.specs.declared.limits.TheConstants.{MOST_FINDS, MOST_TARGETS}
use Rattle.iterate.specs.declared.want.Input.TheVariants.{Came}
use Rattle.iterate.specs.declared.want.Want.{Want}
use Rattle.iterate.specs.declared.want.Want.TheVariants.{Book, Send, Finish}
use Rattle.iterate.specs.Exchanges.{Exchange, exchange, Happened}
use Rattle.iterate.specs.Come.{HasCome, WasAllowed}
use Rattle.iterate.specs.Known.{Known, Listed, Serves, Responds, WasUnknown, IsUnknownYet}
use Rattle.iterate.specs.Resolved.{IsResolved, Chain, IsOneOf, ReachedFor, question_at}
use Rattle.iterate.specs.Room.{IsFull, IsFullAgain, IsNamed, MayHand, allowed_for}
use Rattle.iterate.specs.Served.{served_name}

-- A find is one of those chosen from the harvest of a response, and of the first of them: as many may be handed to a book, by what the response says.
pub record IsHarvested (port : ℕ) (log : List Exchange) (find : Find) : Type 0 where
  pub zone : Labels
  pub question : Question
  pub message : Message
  pub responds : Known port log (Responds zone question message)
  pub says : Says
  pub said : IsSaid port zone question message says
  pub allowance : Allowance
  pub was_allowed : WasAllowed log question message allowance
  pub among : Contains (take (min MOST_FINDS (allowed_for says allowance)) (chosen_in message question zone)) (said_by find)

-- The server was asked the question over UDP, and its response was truncated.
pub record WasTruncated (log : List Exchange) (server : Addr) (question : Question) : Type 0 where
  pub bytes : List ℕ
  pub id : ℕ
  pub octets : List ℕ
  pub allowance : Allowance
  pub came : Happened log (exchange (Send server Udp bytes) (Came octets allowance))
  pub query : IsQuery bytes id question
  pub truncated : IsTruncated Udp id question octets

-- A server is asked over TCP after a response that was truncated, else over UDP (RFC 2181, section 9).
abbrev pub MayGo : List Exchange → Addr → Question → Over → Type 0
MayGo log server question Udp = Unit {0}
MayGo log server question Tcp = WasTruncated log server question

-- What servers may be asked for a question: the type asked, of its name or of one to which aliases lead, or the address of a server that has none.
-- Of each list of servers that is so for the first of those without an address alone.
pub data IsAskedFor (port : ℕ) (log : List Exchange) (question : Question) : Question → Type 0 where
  of_name : {name : Labels} {front : List AnswerSet} → Chain port log question front name → IsAskedFor port log question (question_at question name)
  of_server : {servers : Servers} {target : Labels} → Known port log (Listed servers) → Contains (take MOST_TARGETS servers.missing) target
      → IsAskedFor port log question (address_question target)

-- The server is one of those that were reached for the question. Since then it was not asked this over this transport.
pub record IsFirstAsk (port : ℕ) (log : List Exchange) (question : Question) (server : Addr) (over : Over) : Type 0 where
  pub servers : Servers
  pub since : List Exchange
  pub reached : ReachedFor port log question servers since
  pub among : IsOneOf port log servers server
  pub first : (bytes : List ℕ) (id : ℕ) (input : Input) → Happened since (exchange (Send server over bytes) input) → ¬ (IsQuery bytes id question)

-- A query with this identifier asks a server of a zone in which its name lies. An earlier look at its question found nothing:
-- what is cached, blocked or set by the operator is never asked for, neither as the question itself nor behind an alias.
-- No two queries are alike since a list of servers was reached, and a list is looked for before the first of them alone (`IsListedFor`).
pub record AsksZone (port : ℕ) (whole : Question) (log : List Exchange) (id : ℕ) (server : Addr) (over : Over) (bytes : List ℕ) : Type 0 where
  pub question : Question
  pub asked : IsAskedFor port log whole question
  pub zone : Labels
  pub query : IsQuery bytes id question
  pub unknown : WasUnknown log question
  pub serves : Known port log (Serves zone server)
  pub within : IsAtOrBelow question.owner zone
  pub goes : MayGo log server question over
  pub once : IsFirstAsk port log question server over

-- ---- the numbers that are drawn

-- the stream of numbers after a want: a query takes a word of it
abbrev pub stream_behind : Want → Stream → Stream
stream_behind (Send server over bytes) stream = (next_u32 stream).1
stream_behind want stream = stream

-- the identifier that is drawn: the low 16 bits of a word
abbrev pub id_drawn : Stream → ℕ
id_drawn stream = (next_u32 stream).0 % 2 ^ 16

-- A look for servers is for those that are asked about a question that may be asked, before the first query for it: since a task came to the
-- name, or since the look for the address of the server, no query was sent. So no list is reached anew to ask the same servers again.
pub data IsListedFor (port : ℕ) (log : List Exchange) (whole : Question) : Labels → Type 0 where
  of_name : {name : Labels} {front : List AnswerSet} → Chain port log whole front name → HasCome port whole log name
      → IsListedFor port log whole (served_name (question_at whole name))
  of_server : {servers : Servers} {target : Labels} → Known port log (Listed servers) → Contains (take MOST_TARGETS servers.missing) target
      → IsUnknownYet log (address_question target) → IsListedFor port log whole (served_name (address_question target))

-- An event with the moment that was handed in: a look at a question or for servers, or an admission of what was harvested.
-- The look for the name to forget first has moment 0, so it is at the clock of the book.
-- A book is swept only if it was full for a find, is asked for the name to forget first only if it was full for it after that,
-- and forgets only the name that it then gave.
abbrev pub MayCall : ℕ → Question → List Exchange → ℕ → Event → Type 0
MayCall port whole log moment (Look m (Asked question)) = m ≡ moment
MayCall port whole log moment (Look m (ServersFor name)) = (m ≡ moment) × IsListedFor port log whole name
MayCall port whole log moment (Look m Oldest) = (m ≡ 0) × ((find : Find) × IsFullAgain find log)
MayCall port whole log moment (Admit m find) = (m ≡ moment) × IsHarvested port log find × MayHand find log
MayCall port whole log moment (Sweep m) = (m ≡ moment) × ((find : Find) × IsFull find log)
MayCall port whole log moment (Forget m owner) = (m ≡ moment) × ((find : Find) × IsNamed find owner log)
MayCall port whole log moment event = ⊥

-- What may be wanted after these exchanges, at this moment, by a task that draws this identifier.
abbrev pub MayWant : ℕ → Question → List Exchange → ℕ → ℕ → Want → Type 0
MayWant port question log moment id (Book event) = MayCall port question log moment event
MayWant port question log moment id (Send server over bytes) = AsksZone port question log id server over bytes
MayWant port question log moment id (Finish answer) = IsResolved port question log answer
