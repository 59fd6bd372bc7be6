-- Where a task is: what is remembered in each phase, and what a step has to bring.
use Rattle.std.specs.Prelude.{◌≡◌, ℕ, ◌<◌, ◌≤◌, List, [], ◌∷◌, length, map}
use Rattle.dns_name.specs.Labels.{Labels}
use Rattle.dns_text.specs.declared.addr.Addr.{Addr}
use Rattle.dns_text.specs.declared.record.Question.{Question}
use Rattle.dns_wire.specs.declared.message.Message.{Message}
use Rattle.dns_query.specs.declared.over.Over.{Over}
use Rattle.dns_query.specs.declared.verdict.Heard.{Heard}
use Rattle.dns_query.specs.Query.{IsQuery, address_question, alias_question}
use Rattle.dns_query.specs.Verdict.{IsSaid}
use Rattle.harvest.specs.Chosen.{chosen_in}
use Rattle.harvest.specs.Harvest.{finds_in, passing_in}
use Rattle.harvest.specs.Learnt.{set_of}
use Rattle.neg_rule.specs.Negative.{said_by}
use Rattle.rand_core.specs.Stream.{Stream}
use Rattle.history.specs.declared.event.Ask.{Ask}
use Rattle.history.specs.declared.event.Ask.TheVariants.{Answer as Asked, Servers as ServersFor}
use Rattle.history.specs.declared.event.Event.TheVariants.{Look}
use Rattle.iterate.specs.declared.answer.Answer.{Answer}
use Rattle.iterate.specs.declared.limits.TheConstants.{MOST_DEPTH, MOST_SENDS, MOST_TARGETS}
use Rattle.iterate.specs.declared.path.Path.{Path}
use Rattle.iterate.specs.declared.phase.Advance.{Advance}
use Rattle.iterate.specs.declared.phase.Attempt.{Attempt}
use Rattle.iterate.specs.declared.phase.Phase.{Phase}
use Rattle.iterate.specs.declared.phase.Phase.TheVariants.{Fresh, First, Aliasing, Looking, Following, Listing, Seeking, Sent, Admitting, Ended, Broken}
use Rattle.iterate.specs.declared.phase.Stage.{Stage}
use Rattle.iterate.specs.declared.phase.Stage.TheVariants.{Address, Alias, Servers}
use Rattle.iterate.specs.declared.search.Search.{Search}
use Rattle.iterate.specs.declared.want.Allowance.{Allowance}
use Rattle.iterate.specs.declared.want.Input.{Input}
use Rattle.iterate.specs.declared.want.Input.TheVariants.{Begin, Reply, Refused, Came, Failed}
use Rattle.iterate.specs.declared.want.Step.{Step}
use Rattle.iterate.specs.declared.want.Want.{Want}
use Rattle.iterate.specs.declared.want.Want.TheVariants.{Book, Send, Finish}
use Rattle.iterate.specs.Come.{WasAllowed}
use Rattle.iterate.specs.Exchanges.{Exchange, exchange, Adds, AreQuiet, last_behind, count_sends}
use Rattle.iterate.specs.Following.{IsHarvestOf}
use Rattle.iterate.specs.Known.{Known, Responds, IsUnknownYet}
use Rattle.iterate.specs.Measure.{left_in}
use Rattle.iterate.specs.Room.{IsHanding, allowed_for}
use Rattle.iterate.specs.Searching.{IsAskable, IsUnasked, IsBehind, IsSearch, IsNext, IsNextServer, Turn, IsOrderly, IsOther, hunt_of, question_of, turn_of}
use Rattle.iterate.specs.Served.{served_name}
use Rattle.iterate.specs.Wanted.{MayWant, id_drawn, stream_behind}

-- ---- what comes next

-- What may come of a want.
abbrev pub Suits : Want → Input → Type 0
Suits (Book event) (Reply reply) = Unit {0}
Suits (Book event) (Refused fault) = Unit {0}
Suits (Send server over bytes) (Came octets allowance) = Unit {0}
Suits (Send server over bytes) Failed = Unit {0}
Suits want input = ⊥

-- What may come after these steps: the beginning first, and nothing after the answer.
abbrev pub IsDue : List Step → Input → Type 0
IsDue [] Begin = Unit {0}
IsDue [] input = ⊥
IsDue (step ∷ steps) input = Suits (last_behind step.want steps) input

-- ---- what a phase remembers

-- A look is open.
pub record IsLook (want : Want) (ask : Ask) : Type 0 where
  pub moment : ℕ
  pub wanted : want ≡ Book (Look moment ask)

-- what is asked of a book about a server without an address
abbrev pub ask_at : Stage → Labels → Ask
ask_at Address target = Asked (address_question target)
ask_at Alias target = Asked (alias_question target)
ask_at Servers target = ServersFor target

-- Behind the look for the address of the next server, that look found nothing, and no query was sent since.
abbrev pub IsUnknownAt : Stage → List Exchange → Labels → Type 0
IsUnknownAt Address since target = Unit {0}
IsUnknownAt stage since target = IsUnknownYet since (address_question target)

-- Behind that look, a server is looked for further only if it is among the first of its list.
abbrev pub IsEarlyAt : Stage → ℕ → Type 0
IsEarlyAt Address sought = Unit {0}
IsEarlyAt stage sought = sought < MOST_TARGETS

-- A server without an address is being looked for.
pub record IsSeeking (port : ℕ) (question : Question) (log : List Exchange) (search : Search) (target : Labels) (stage : Stage) : Type 0 where
  pub is_search : IsSearch port question log search
  pub shallow : length search.frames.items < MOST_DEPTH
  pub next : IsNext (hunt_of search) target
  pub unknown : IsUnknownAt stage is_search.since target
  pub early : IsEarlyAt stage (hunt_of search).sought
  pub orderly : IsOrderly port log search Turn.unasked
  pub other : IsOther (address_question target) search.frames.items search.path.last

-- The next server is being asked.
pub record IsWaiting (port : ℕ) (question : Question) (log : List Exchange) (want : Want) (search : Search) (server : Addr) (id : ℕ) (over : Over) : Type 0 where
  pub is_search : IsSearch port question log search
  pub some : search.path.sent < MOST_SENDS
  pub rest : List Addr
  pub next : IsNextServer search server rest
  pub bytes : List ℕ
  pub wanted : want ≡ Send server over bytes
  pub query : IsQuery bytes id (question_of search)
  pub orderly : IsOrderly port log search (turn_of over)

-- A response was heard: it came of a query of the innermost question, and this is what it says. So many of its finds may be handed over.
pub record IsHearing (port : ℕ) (question : Question) (log : List Exchange) (search : Search) (heard : Heard) (allowed : ℕ) : Type 0 where
  pub is_search : IsSearch port question log search
  pub message : Message
  pub allowance : Allowance
  pub was_allowed : WasAllowed log (question_of search) message allowance
  pub is_allowed : allowed ≡ allowed_for heard.says allowance
  pub upto : List Exchange
  pub came : Adds was_allowed.came.before (exchange (Send was_allowed.server was_allowed.over was_allowed.bytes) (Came was_allowed.octets allowance)) upto
  pub responds : Known port upto (Responds (hunt_of search).servers.zone (question_of search) message)
  pub finds : map said_by heard.harvest.finds ≡ finds_in message (question_of search) (hunt_of search).servers.zone
  pub chosen : map said_by heard.harvest.chosen ≡ chosen_in message (question_of search) (hunt_of search).servers.zone
  pub passing : map set_of heard.harvest.passing ≡ passing_in message (question_of search) (hunt_of search).servers.zone
  pub says : IsSaid port (hunt_of search).servers.zone (question_of search) message heard.says
  pub orderly : IsOrderly port log search Turn.heard
  pub quiet : AreQuiet was_allowed.came.after

-- A response was heard, its find at this place was being handed over in this attempt, and this came of it.
pub record IsTold (port : ℕ) (question : Question) (log : List Exchange) (search : Search) (heard : Heard) (allowed next : ℕ) (tried : Attempt) (input : Input) : Type 0 where
  pub before : List Exchange
  pub want : Want
  pub hearing : IsHearing port question before search heard allowed
  pub handing : IsHanding heard.harvest.chosen allowed next tried before want
  pub suits : Suits want input
  pub adds : Adds before (exchange want input) log

-- what is remembered where this is open
abbrev pub Remembers : ℕ → Question → List Exchange → Want → Phase → Type 0
Remembers port question log want Fresh = ⊥
Remembers port question log want First = (log ≡ []) × IsLook want (Asked question)
Remembers port question log want (Aliasing path) = IsUnasked port question log path × IsLook want (Asked (alias_question path.last.owner))
Remembers port question log want (Looking path) = IsBehind port question log path × IsLook want (Asked path.last)
Remembers port question log want (Following path harvest) = IsBehind port question log path × IsHarvestOf port log harvest.value × IsLook want (Asked path.last)
Remembers port question log want (Listing path) = IsAskable port question log path × IsLook want (ServersFor (served_name path.last))
Remembers port question log want (Seeking search target stage) = IsSeeking port question log search.value target stage × IsLook want (ask_at stage target)
Remembers port question log want (Sent search server id over) = IsWaiting port question log want search.value server id over
Remembers port question log want (Admitting handing tried) =
    IsHearing port question log handing.search.value handing.heard.value handing.allowed × IsHanding handing.heard.value.harvest.chosen handing.allowed handing.next tried log want
Remembers port question log want Ended = (answer : Answer) × (want ≡ Finish answer) × (count_sends log ≤ MOST_SENDS)
Remembers port question log want Broken = ⊥

-- the stream of numbers as a step finds it, and as it leaves it
pub record Drawing : Type 0 where
  pub before : Stream
  pub after : Stream

-- both, as one
abbrev pub drawing : Stream → Stream → Drawing
drawing before after = record { before = before; after = after }

-- none is drawn
abbrev pub idle : Stream → Drawing
idle stream = drawing stream stream

-- A step is well made, by the exchanges so far, and less is left than was.
pub record Goes (port : ℕ) (question : Question) (log : List Exchange) (moment : ℕ) (ids : Drawing) (left : ℕ) (phase : Phase) (want : Want) : Type 0 where
  pub wants : MayWant port question log moment (id_drawn ids.before) want
  pub drawn : ids.after ≡ stream_behind want ids.before
  pub fits : Remembers port question log want phase
  pub falls : left_in phase < left

-- So does what a step hands over.
abbrev pub Advances : ℕ → Question → List Exchange → ℕ → Drawing → ℕ → Advance → Type 0
Advances port question log moment ids left next = Goes port question log moment ids left next.phase next.want

-- The question of this name is looked up next, of the type that the path asks for.
abbrev pub LooksAt : Path → Labels → ℕ → Advance → Type 0
LooksAt path to moment next = next.want ≡ Book (Look moment (Asked (record { owner = to; kind = path.last.kind })))
