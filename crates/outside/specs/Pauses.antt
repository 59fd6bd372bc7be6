-- The name servers that a worker passes over: for one question, or for every question. Times are in milliseconds.
use Rattle.std.specs.Prelude.{◌≡◌, ◌<◌, ◌⊎◌, ◌+◌, ℕ, Any, drop, [], Bool, Option, None, Some, IsNone, IfSome, IsSomeAnd, MatchOption, List, unwrap_or}
use Rattle.cell_store.specs.declared.seed.NameSeed.{NameSeed}
use Rattle.indexmap.specs.IndexMap.{IndexMap, get, IsUnchanged, Updates}
use Rattle.dns_name.specs.Labels.{Labels}
use Rattle.dns_text.specs.declared.addr.Addr.{Addr}
use Rattle.dns_query.specs.declared.over.Over.{Over}
use Rattle.dns_query.specs.declared.over.Over.TheVariants.{Udp, Tcp}
use Rattle.iterate.specs.declared.search.Hunt.{Hunt}
use Rattle.flight.specs.declared.sockets.Listened.{Listened}
use Rattle.flight.specs.declared.sockets.Listened.TheVariants.{Anew, Nothing, Came, Broken, NoMemory}
use Rattle.outside.specs.contracts.server.ServerPartialEq.TheImpl as server_impl
use Rattle.outside.specs.contracts.server.QuestionAtPartialEq.TheImpl as question_at_impl
use Rattle.outside.specs.declared.flaw.Flaw.{Flaw}
use Rattle.outside.specs.declared.flaw.Flaw.TheVariants.{Dear, Misfits}
use Rattle.outside.specs.declared.questions.TheConstants.{MOST_QUESTIONS}
use Rattle.outside.specs.declared.pause.Pause.{Pause}
use Rattle.outside.specs.declared.pauses.Pauses.{Pauses}
use Rattle.outside.specs.declared.server.QuestionAt.{QuestionAt}
use Rattle.outside.specs.declared.server.Server.{Server}
use Rattle.outside.specs.declared.servers.TheConstants.{MOST_SERVERS}
use Rattle.outside.specs.declared.silence.Silence.{Silence}
use Rattle.outside.specs.Kept.{Changes, Remembers}
use Rattle.outside.specs.Servers.{IsQuestionAt}
use Rattle.outside.specs.Silences.{no_pause, pause_after, pause_struck, trial_at, unknown, answered_at, closed_at, matters_until, tried_at, IsAnswering, Misses}

-- whether `==` calls two servers equal
abbrev pub server_eq : Server → Server → Bool
server_eq = server_impl.ghosts.eq

-- whether `==` calls two questions to servers equal
abbrev pub question_at_eq : QuestionAt → QuestionAt → Bool
question_at_eq = question_at_impl.ghosts.eq

-- the server at an address, over a transport
abbrev pub server_at : Addr → Over → Server
server_at addr over = record { addr = addr; over = over }

-- the silences of servers
abbrev pub Silences : Type 0
Silences = IndexMap Server Silence NameSeed

-- the pauses of questions to servers
abbrev pub QuestionPauses : Type 0
QuestionPauses = IndexMap QuestionAt Pause NameSeed

-- what is known of the silence of a server
abbrev pub known_silence : Silences → Server → Silence
known_silence servers server = unwrap_or (get server_eq servers server) unknown

-- what is known of the pause of a question to a server
abbrev pub known_pause : QuestionPauses → QuestionAt → Pause
known_pause questions question = unwrap_or (get question_at_eq questions question) no_pause

-- A server is passed over for every question.
abbrev pub IsServerPaused : Server → ℕ → Silences → Type 0
IsServerPaused server now servers = IsSomeAnd (get server_eq servers server) (λ silence. now < silence.pause.until)

-- A server rests, and another of these addresses answers.
pub record GivesWay (server : Server) (others : List Addr) (now : ℕ) (servers : Silences) : Type 0 where
  pub rests : IsSomeAnd (get server_eq servers server) (λ silence. now < silence.rest.until)
  pub answers : Any (λ addr. IsSomeAnd (get server_eq servers (server_at addr server.over)) IsAnswering) others

-- the addresses of a task's list that come after the one that is to be asked now
abbrev pub others_in : Option Hunt → List Addr
others_in None = []
others_in (Some hunt) = drop (hunt.asked + 1) hunt.addrs.items

-- A server is passed over for one question.
abbrev pub IsQuestionPaused : QuestionAt → ℕ → QuestionPauses → Type 0
IsQuestionPaused question now questions = IsSomeAnd (get question_at_eq questions question) (λ pause. now < pause.until)

-- The silence of a server is this one from now on.
abbrev pub RemembersServer : ℕ → Server → Silence → Silences → Silences → Type 0
RemembersServer now = Remembers server_eq matters_until MOST_SERVERS now

-- The pause of a question to a server is this one from now on.
abbrev pub RemembersQuestion : ℕ → QuestionAt → Pause → QuestionPauses → QuestionPauses → Type 0
RemembersQuestion now = Remembers question_at_eq (λ (pause : Pause). pause.until) MOST_QUESTIONS now

-- A server left a query for a name unanswered.
pub record MissesAt (now : ℕ) (server : Server) (name : Labels) (old new : Silences) : Type 0 where
  pub silence : Silence
  pub misses : Misses name now (known_silence old server) silence
  pub remembers : RemembersServer now server silence old new

-- Nothing is remembered.
pub record IsBlank (pauses : Pauses) : Type 0 where
  pub servers : pauses.servers.entries ≡ []
  pub questions : pauses.questions.entries ≡ []

-- A query is not sent: its server is passed over for every question, or for the question of the query, or gives way to another of the list.
abbrev pub IsPassedOver : Addr → List Addr → Over → List ℕ → ℕ → Pauses → Type 0
IsPassedOver addr others over query now pauses =
    IsServerPaused (server_at addr over) now pauses.servers
    ⊎ (GivesWay (server_at addr over) others now pauses.servers
    ⊎ ((question : QuestionAt) × IsQuestionAt (server_at addr over) query question × IsQuestionPaused question now pauses.questions))

-- A query is sent: neither its server nor its question is passed over, nor does the server give way. If a pause of either is over, the query is the trial after it. A question is not looked up if there is no memory to read it.
pub record LetsThrough (addr : Addr) (others : List Addr) (over : Over) (query : List ℕ) (now : ℕ) (old new : Pauses) : Type 0 where
  pub question : Option QuestionAt
  pub asked : IfSome question (IsQuestionAt (server_at addr over) query)
  pub server_free : ¬ (IsServerPaused (server_at addr over) now old.servers)
  pub goes_first : ¬ (GivesWay (server_at addr over) others now old.servers)
  pub question_free : IfSome question (λ question. ¬ (IsQuestionPaused question now old.questions))
  pub server_tried : Changes server_eq (tried_at now) (server_at addr over) old.servers new.servers
  pub question_tried : MatchOption question (IsUnchanged old.questions new.questions) (λ question. Changes question_at_eq (trial_at now) question old.questions new.questions)

-- A server answered a query. That ends its pause, and the pause of the question.
pub record Answers (addr : Addr) (over : Over) (query : List ℕ) (now : ℕ) (old new : Pauses) : Type 0 where
  pub question : Option QuestionAt
  pub asked : IfSome question (IsQuestionAt (server_at addr over) query)
  pub server : RemembersServer now (server_at addr over) (answered_at now) old.servers new.servers
  pub ended : MatchOption question (IsUnchanged old.questions new.questions) (λ question. Updates question_at_eq old.questions new.questions question None)

-- A query with this question went unanswered: its server is passed over for the question, and for every question if it is silent by now.
pub record LosesQuestion (now : ℕ) (old new : Pauses) (question : QuestionAt) : Type 0 where
  pub server : MissesAt now question.server question.owner old.servers new.servers
  pub paused : RemembersQuestion now question (pause_after (known_pause old.questions question) now) old.questions new.questions

-- A server left a query unanswered. If there is no memory to read its question, that is not remembered.
pub record Loses (addr : Addr) (over : Over) (query : List ℕ) (now : ℕ) (old new : Pauses) : Type 0 where
  pub question : Option QuestionAt
  pub asked : IfSome question (IsQuestionAt (server_at addr over) query)
  pub loses : MatchOption question (new ≡ old) (LosesQuestion now old new)

-- The port of a server is closed: the server is passed over for a second, for every question.
pub record Closes (addr : Addr) (over : Over) (now : ℕ) (old new : Pauses) : Type 0 where
  pub server : RemembersServer now (server_at addr over) (closed_at now (known_silence old.servers (server_at addr over))) old.servers new.servers
  pub questions : IsUnchanged old.questions new.questions

-- An exchange with a server was wanted. If the server is passed over, or withheld for another reason, none begins, and nothing changes. Nor does anything change if it waits, and nothing is sent.
pub data HeedsPause {L : Type 0} (reason unsent : Type 0) (result : Option L) (addr : Addr) (others : List Addr) (over : Over) (query : List ℕ) (now : ℕ) (old new : Pauses) : Type 0 where
  withheld : reason → IsNone result → new ≡ old → HeedsPause reason unsent result addr others over query now old new
  put_off : unsent → new ≡ old → HeedsPause reason unsent result addr others over query now old new
  passed_over : IsPassedOver addr others over query now old → IsNone result → new ≡ old → HeedsPause reason unsent result addr others over query now old new
  let_through : LetsThrough addr others over query now old new → HeedsPause reason unsent result addr others over query now old new

-- An exchange broke. Over UDP the server's port is closed, and over TCP that says nothing.
abbrev pub NotesBroken : Over → Addr → ℕ → Pauses → Pauses → Type 0
NotesBroken Udp addr now old new = Closes addr Udp now old new
NotesBroken Tcp addr now old new = new ≡ old

-- Datagrams came that cannot be the reply. The server is passed over for the question from now on, and is not blamed. If there is no memory to read the question, that is not remembered.
pub record Mistrusts (addr : Addr) (over : Over) (query : List ℕ) (now : ℕ) (old new : Pauses) : Type 0 where
  pub question : Option QuestionAt
  pub asked : IfSome question (IsQuestionAt (server_at addr over) query)
  pub servers : IsUnchanged old.servers new.servers
  pub paused : MatchOption question (IsUnchanged old.questions new.questions)
      (λ question. RemembersQuestion now question (pause_struck (known_pause old.questions question) now) old.questions new.questions)

-- An exchange ended before its time. If its reply is too dear to read, the server answered. If what came cannot be the reply, the question is not asked again for a while. Else the exchange broke.
abbrev pub EndsEarly : Option Flaw → Addr → Over → List ℕ → ℕ → Pauses → Pauses → Type 0
EndsEarly None addr over query now old new = NotesBroken over addr now old new
EndsEarly (Some Dear) addr over query now old new = Answers addr over query now old new
EndsEarly (Some Misfits) addr over query now old new = Mistrusts addr over query now old new

-- An exchange with a server was listened to, and something may be wrong with what came. If a reply came, the server answered.
abbrev pub NotesHeard : Listened → Option Flaw → Addr → Over → List ℕ → ℕ → Pauses → Pauses → Type 0
NotesHeard (Came octets) flaw addr over query now old new = Answers addr over query now old new
NotesHeard NoMemory flaw addr over query now old new = Answers addr over query now old new
NotesHeard Broken flaw addr over query now old new = EndsEarly flaw addr over query now old new
NotesHeard Nothing flaw addr over query now old new = new ≡ old
NotesHeard Anew flaw addr over query now old new = new ≡ old
