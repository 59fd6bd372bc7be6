-- What a task remembers, and why it holds of the exchanges so far.
use Rattle.std.specs.Prelude.{◌≡◌, ℕ, ◌+◌, ◌^◌, ◌<◌, ◌≤◌, ◌⊎◌, List, [], ◌∷◌, ◌++◌, length, take, drop}
use Rattle.std.specs.List.{AllByRecursion, Contains}
use Rattle.dns_name.specs.Labels.{Labels, IsAtOrBelow}
use Rattle.dns_text.specs.declared.addr.Addr.{Addr}
use Rattle.dns_text.specs.declared.record.Question.{Question}
use Rattle.dns_query.specs.declared.over.Over.{Over}
use Rattle.dns_query.specs.declared.over.Over.TheVariants.{Udp, Tcp}
use Rattle.dns_query.specs.Query.{IsQuery, address_question}
use Rattle.iterate.specs.declared.answer.AnswerSet.{AnswerSet}
use Rattle.iterate.specs.declared.limits.TheConstants.{MOST_ALIASES, MOST_DEPTH, MOST_SENDS, MOST_TARGETS}
use Rattle.iterate.specs.declared.path.Path.{Path}
use Rattle.iterate.specs.declared.search.Nested.{Nested}
use Rattle.iterate.specs.declared.search.Hunt.{Hunt}
use Rattle.iterate.specs.declared.search.Search.{Search}
use Rattle.iterate.specs.declared.want.Input.{Input}
use Rattle.iterate.specs.declared.want.Want.TheVariants.{Send}
use Rattle.iterate.specs.Come.{HasCome}
use Rattle.iterate.specs.Exchanges.{Exchange, exchange, Happened, count_sends}
use Rattle.iterate.specs.Known.{WasUnknown, Known, Listed, Serves}
use Rattle.iterate.specs.Resolved.{BeganUnanswered, Chain, IsOneOf, ReachedFor, Struck, MaySeek, Sought}

-- The aliases so far, and the question to which they lead, after a first look that was no answer.
pub record IsPath (port : ℕ) (question : Question) (log : List Exchange) (path : Path) : Type 0 where
  pub began : BeganUnanswered question log
  pub chain : Chain port log question path.sets.items path.last.owner
  pub kind : path.last.kind ≡ question.kind
  pub short : length path.sets.items ≤ MOST_ALIASES
  pub counted : path.sent ≡ count_sends log
  pub few : path.sent ≤ MOST_SENDS

-- A path whose last question was looked up, and nothing was found: servers may be asked about it.
pub record IsAskable (port : ℕ) (question : Question) (log : List Exchange) (path : Path) : Type 0 where
  pub is_path : IsPath port question log path
  pub unknown : WasUnknown log path.last

-- A path whose last question may be asked, and for which no query was sent since it came to the name.
pub record IsUnasked (port : ℕ) (question : Question) (log : List Exchange) (path : Path) : Type 0 where
  pub askable : IsAskable port question log path
  pub come : HasCome port question log path.last.owner

-- A path that came along an alias to the name that is looked up now.
pub record IsBehind (port : ℕ) (question : Question) (log : List Exchange) (path : Path) : Type 0 where
  pub is_path : IsPath port question log path
  pub some : 1 ≤ length path.sets.items
  pub come : HasCome port question log path.last.owner

-- A path with one alias more, which leads to this name.
pub record IsLonger (path : Path) (told : AnswerSet) (to : Labels) (next : Path) : Type 0 where
  pub sets : next.sets.items ≡ path.sets.items ++ told ∷ []
  pub last : next.last ≡ record { owner = to; kind = path.last.kind }
  pub sent : next.sent ≡ path.sent
  pub begun : next.begun ≡ path.begun
  pub short : length next.sets.items ≤ MOST_ALIASES

-- Servers that are asked about a name.
pub record IsHunt (port : ℕ) (log : List Exchange) (name : Labels) (hunt : Hunt) : Type 0 where
  pub listed : Known port log (Listed hunt.servers)
  pub zone : IsAtOrBelow name hunt.servers.zone
  pub serve : AllByRecursion (λ addr. Known port log (Serves hunt.servers.zone addr)) hunt.addrs.items
  pub asked : hunt.asked ≤ length hunt.addrs.items
  pub sought : hunt.sought ≤ length hunt.servers.missing
  pub countable : length hunt.servers.missing < 2 ^ 64

-- A server without an address is the next one to be looked for.
pub record IsNext (hunt : Hunt) (target : Labels) : Type 0 where
  pub rest : List Labels
  pub next : drop hunt.sought hunt.servers.missing ≡ target ∷ rest

-- The servers that are asked for the last question, which a look did not find, since they were reached: so many of them in vain. Of those without an address so many were looked for, and each address that was seen is among those to ask.
pub record IsBase (port : ℕ) (log : List Exchange) (question : Question) (since : List Exchange) (hunt : Hunt) : Type 0 where
  pub unknown : WasUnknown log question
  pub is_hunt : IsHunt port log question.owner hunt
  pub reached : ReachedFor port log question hunt.servers since
  pub all : (addr : Addr) → Contains hunt.servers.addrs addr → Contains hunt.addrs.items addr
  pub vain : (addr : Addr) → Contains (take hunt.asked hunt.addrs.items) addr → Struck port since hunt.servers.zone question addr
  pub sought : (target : Labels) → Contains (take hunt.sought hunt.servers.missing) target → MaySeek question hunt.servers target → Sought port since target (Contains hunt.addrs.items)

-- the servers of the question behind these
abbrev pub hunt_behind : List Nested → Hunt → Hunt
hunt_behind [] base = base
hunt_behind (frame ∷ frames) base = frame.hunt

-- A question inside another asks for the address of the next server that the one after it lacks, which is among the first of its list. A look did not find it.
pub record IsFrame (port : ℕ) (log : List Exchange) (since : List Exchange) (behind : Hunt) (frame : Nested) : Type 0 where
  pub next : IsNext behind frame.target
  pub early : behind.sought < MOST_TARGETS
  pub unknown : WasUnknown since (address_question frame.target)
  pub hunt : IsHunt port log frame.target frame.hunt

-- each of the nested questions, the innermost first
abbrev pub AreFrames : ℕ → List Exchange → List Exchange → Hunt → List Nested → Type 0
AreFrames port log since base [] = Unit {0}
AreFrames port log since base (frame ∷ frames) = IsFrame port log since (hunt_behind frames base) frame × AreFrames port log since base frames

-- the servers that are asked about the innermost question
abbrev pub hunt_of : Search → Hunt
hunt_of search = hunt_behind search.frames.items search.base

-- the question behind these: the outermost of them all is the last one of the path
abbrev pub question_behind : List Nested → Question → Question
question_behind [] last = last
question_behind (frame ∷ frames) last = address_question frame.target

-- the innermost question
abbrev pub question_of : Search → Question
question_of search = question_behind search.frames.items search.path.last

-- This server is the next one that the innermost question asks, and these come after it.
abbrev pub IsNextServer : Search → Addr → List Addr → Type 0
IsNextServer search server rest = drop (hunt_of search).asked (hunt_of search).addrs.items ≡ server ∷ rest

-- What a search remembers: the path, the servers asked for its last question, and the questions inside it, at most eight deep.
pub record IsSearch (port : ℕ) (question : Question) (log : List Exchange) (search : Search) : Type 0 where
  pub path : IsPath port question log search.path
  pub since : List Exchange
  pub base : IsBase port log search.path.last since search.base
  pub frames : AreFrames port log since search.base search.frames.items
  pub deep : length search.frames.items ≤ MOST_DEPTH

-- ---- no two queries alike

-- Each address stands once.
abbrev pub AreDistinct : List Addr → Type 0
AreDistinct [] = Unit {0}
AreDistinct (addr ∷ addrs) = (¬ (Contains addrs addr)) × AreDistinct addrs

-- how far the next server was asked
pub data Turn : Type 0 where
  unasked : Turn  -- not yet
  cut : Turn  -- over UDP, and its response was truncated
  heard : Turn  -- over UDP or TCP, and it is done with

-- The next server was asked over this transport.
abbrev pub WasAsked : Turn → Over → Type 0
WasAsked unasked over = ⊥
WasAsked cut Udp = Unit {0}
WasAsked cut Tcp = ⊥
WasAsked heard over = Unit {0}

-- how far a server was asked that is asked over this transport
abbrev pub turn_of : Over → Turn
turn_of Udp = unasked
turn_of Tcp = cut

-- Since these servers were reached for the question, queries for it went to those alone that were asked in vain, and to the next one. Each of them stands once.
pub record AsksOnce (port : ℕ) (log : List Exchange) (question : Question) (hunt : Hunt) (turn : Turn) : Type 0 where
  pub since : List Exchange
  pub reached : ReachedFor port log question hunt.servers since
  pub distinct : AreDistinct hunt.addrs.items
  pub members : (addr : Addr) → Contains hunt.addrs.items addr → IsOneOf port log hunt.servers addr
  pub asked : (server : Addr) (over : Over) (bytes : List ℕ) (id : ℕ) (input : Input) → Happened since (exchange (Send server over bytes) input) → IsQuery bytes id question
      → Contains (take hunt.asked hunt.addrs.items) server ⊎ (Contains (take (hunt.asked + 1) hunt.addrs.items) server × WasAsked turn over)

-- A question is another one than those that are open.
abbrev pub IsOther : Question → List Nested → Question → Type 0
IsOther question [] last = ¬ (question ≡ last)
IsOther question (frame ∷ frames) last = (¬ (question ≡ address_question frame.target)) × IsOther question frames last

-- So it is with each open question. The innermost one has asked its next server so far, and those behind it have not.
abbrev pub AllAskOnce : ℕ → List Exchange → Hunt → Question → Turn → List Nested → Type 0
AllAskOnce port log base last turn [] = AsksOnce port log last base turn
AllAskOnce port log base last turn (frame ∷ frames) =
    AsksOnce port log (address_question frame.target) frame.hunt turn × IsOther (address_question frame.target) frames last × AllAskOnce port log base last unasked frames

-- No query of a search was sent twice since its list of servers was reached.
abbrev pub IsOrderly : ℕ → List Exchange → Search → Turn → Type 0
IsOrderly port log search turn = AllAskOnce port log search.base search.path.last turn search.frames.items
