-- What becomes of the servers that are asked: they are reached, asked in turn, and given the addresses that were found.
use Rattle.std.specs.Prelude.{Bool, true, false, ◌≡◌, ℕ, ◌+◌, ◌^◌, ◌<◌, ◌≤◌, ◌⊎◌, List, [], ◌∷◌, length, take, drop}
use Rattle.iterate.specs.Room.{IsHanded, allowed_in}
use Rattle.ranked.specs.declared.find.Find.{Find}
use Rattle.std.specs.List.{AllByRecursion, Contains, flat_map}
use Rattle.dns_name.specs.Labels.{Labels}
use Rattle.dns_text.specs.declared.addr.Addr.{Addr}
use Rattle.dns_text.specs.declared.addr.Ip.TheVariants.{V4}
use Rattle.dns_text.specs.declared.record.Data.{Data}
use Rattle.dns_text.specs.declared.record.Data.TheVariants.{A}
use Rattle.dns_text.specs.declared.record.Question.{Question}
use Rattle.history.specs.declared.servers.Servers.{Servers}
use Rattle.iterate.specs.declared.search.Nested.{Nested}
use Rattle.iterate.specs.declared.search.Hunt.{Hunt}
use Rattle.iterate.specs.declared.search.NextMove.{NextMove}
use Rattle.iterate.specs.declared.search.NextMove.TheVariants.{Ask, Seek, Pass, Close}
use Rattle.iterate.specs.declared.search.Search.{Search}
use Rattle.iterate.specs.Exchanges.{Exchange, AreQuiet}
use Rattle.iterate.specs.Known.{Known, Listed}
use Rattle.iterate.specs.Measure.{left_of_search}
use Rattle.iterate.specs.Resolved.{IsOneOf, MaySeek, ReachedFor, Sought}
use Rattle.iterate.specs.Searching.{IsSearch, IsNext, IsNextServer, Turn, IsOrderly, IsOther, AreDistinct, hunt_of, question_of}
use Rattle.dns_name.specs.Labels.{IsAtOrBelow}
use Rattle.dns_query.specs.Believed.{HarvestHasSet}
use Rattle.harvest.specs.declared.harvest_type.Harvest.{Harvest}
use Rattle.iterate.specs.Following.{IsToldBy}
use Rattle.iterate.specs.Judged.{IsJudged}
use Rattle.local_zone.specs.declared.local_answer.Local.TheVariants.{Data as LocalData}
use Rattle.ranked.specs.declared.find.Body.{Body}
use Rattle.ranked.specs.declared.find.Body.TheVariants.{Set}
use Rattle.history.specs.declared.event.Ask.TheVariants.{Servers as ServersFor}
use Rattle.history.specs.declared.event.Event.TheVariants.{Look, Admit}
use Rattle.history.specs.declared.event.Reply.TheVariants.{Seen}
use Rattle.history.specs.declared.event.Seen.{Seen as SeenValue}
use Rattle.history.specs.declared.event.Seen.TheVariants.{Held, Local as LocalSeen, Servers as SeenServers}
use Rattle.iterate.specs.declared.want.Input.{Input}
use Rattle.iterate.specs.declared.want.Input.TheVariants.{Reply}
use Rattle.iterate.specs.declared.want.Want.{Want}
use Rattle.iterate.specs.declared.want.Want.TheVariants.{Book, Send}
use Rattle.dns_query.specs.declared.over.Over.{Over}
use Rattle.dns_query.specs.declared.over.Over.TheVariants.{Udp, Tcp}
use Rattle.dns_query.specs.declared.verdict.Says.{Says}
use Rattle.dns_query.specs.declared.verdict.Verdict.{Verdict}
use Rattle.dns_query.specs.declared.verdict.Verdict.TheVariants.{Struck, Cut, Heard}
use Rattle.dns_query.specs.Query.{address_question}
use Rattle.iterate.specs.Phase.{Suits}
use Rattle.iterate.specs.Shown.{IsMisanswered}
use Rattle.iterate.specs.Looked.{IsSetSeen}
use Rattle.iterate.specs.Told.{IsAddressIn}
use Rattle.ranked.specs.Body.{data_of}
use Rattle.iterate.specs.declared.answer.AnswerSet.{AnswerSet}
use Rattle.iterate.specs.declared.answer.AnswerSet.TheVariants.{Find as FindTold, Local as LocalTold, Passing as PassingTold}
use Rattle.iterate.specs.declared.limits.TheConstants.{MOST_DEPTH}

-- the address that a datum has, with this port, if it is one of IPv4
abbrev pub v4_of : ℕ → Data → List Addr
v4_of port (A octets) = (record { ip = V4 octets; port = port }) ∷ []
v4_of port datum = []

-- the IPv4 addresses among data
abbrev pub v4_in : ℕ → List Data → List Addr
v4_in port data_given = flat_map (v4_of port) data_given

-- the IPv4 addresses of a set
abbrev pub v4_told : ℕ → AnswerSet → List Addr
v4_told port (FindTold ttl find) = v4_in port (data_of find.body)
v4_told port (LocalTold records) = flat_map (λ r. v4_of port r.body) records
v4_told port (PassingTold set) = v4_in port set.data

-- These addresses are of these servers.
abbrev pub AllServe : ℕ → List Exchange → Servers → List Addr → Type 0
AllServe port log servers addrs = AllByRecursion (IsOneOf port log servers) addrs

-- These servers were reached for a question, with these exchanges since, and their zone is at or above its name. No query was sent since.
pub record IsReached (port : ℕ) (log : List Exchange) (question : Question) (since : List Exchange) (servers : Servers) : Type 0 where
  pub listed : Known port log (Listed servers)
  pub reached : ReachedFor port log question servers since
  pub above : IsAtOrBelow question.owner servers.zone
  pub quiet : AreQuiet since

-- Of these servers none was asked.
pub record IsFresh (list : Servers) (hunt : Hunt) : Type 0 where
  pub servers : hunt.servers ≡ list
  pub asked : hunt.asked ≡ 0
  pub sought : hunt.sought ≡ 0
  pub all : (addr : Addr) → Contains list.addrs addr → Contains hunt.addrs.items addr
  pub only : (addr : Addr) → Contains hunt.addrs.items addr → Contains list.addrs addr
  pub distinct : AreDistinct hunt.addrs.items
  pub countable : length list.missing < 2 ^ 64

-- The next server without an address is done with, and these addresses were found.
pub record IsSupplied (before : Hunt) (found : List Addr) (after : Hunt) : Type 0 where
  pub servers : after.servers ≡ before.servers
  pub asked : after.asked ≡ before.asked
  pub sought : before.sought < length before.servers.missing → after.sought ≡ before.sought + 1
  pub forward : before.sought ≤ after.sought
  pub first : take (length before.addrs.items) after.addrs.items ≡ before.addrs.items
  pub all : (addr : Addr) → Contains found addr → Contains after.addrs.items addr
  pub only : (addr : Addr) → Contains after.addrs.items addr → Contains before.addrs.items addr ⊎ Contains found addr
  pub distinct : AreDistinct before.addrs.items → AreDistinct after.addrs.items

-- The innermost question, which is nested, goes on with these servers, of which none was asked. All else stays.
abbrev pub AreReferred : List Nested → Servers → List Nested → Type 0
AreReferred (frame ∷ frames) list (f ∷ fs) = (f.target ≡ frame.target) × IsFresh list f.hunt × (fs ≡ frames)
AreReferred frames list fs = ⊥

-- A question for the address of this server is opened, among these servers, of which none was asked. All else stays.
abbrev pub AreOpened : List Nested → Labels → Servers → List Nested → Type 0
AreOpened frames target list (f ∷ fs) = (f.target ≡ target) × IsFresh list f.hunt × (fs ≡ frames)
AreOpened frames target list [] = ⊥

-- So it is with the innermost question.
abbrev pub AreSupplied : List Nested → Hunt → List Addr → List Nested → Hunt → Type 0
AreSupplied [] base found [] next = IsSupplied base found next
AreSupplied (frame ∷ frames) base found (f ∷ fs) next = (f.target ≡ frame.target) × IsSupplied frame.hunt found f.hunt × (fs ≡ frames) × (next ≡ base)
AreSupplied frames base found fs next = ⊥

-- The next server that the innermost question lacks was looked for, and these addresses were seen, or it may not be looked for.
pub record IsTried (port : ℕ) (question : Question) (log : List Exchange) (search : Search) (target : Labels) (found : List Addr) : Type 0 where
  pub is_search : IsSearch port question log search
  pub next : IsNext (hunt_of search) target
  pub orderly : IsOrderly port log search Turn.unasked
  pub tried : search.frames.items ≡ [] → MaySeek search.path.last search.base.servers target → Sought port is_search.since target (Contains found)

-- A search of which less than this is left.
pub record IsSmaller (port : ℕ) (question : Question) (log : List Exchange) (left : ℕ) (search : Search) : Type 0 where
  pub is_search : IsSearch port question log search
  pub orderly : IsOrderly port log search Turn.unasked
  pub falls : left_of_search search 4 < left

-- The addresses are among these of the set by which a harvest answers the question, if it has one.
abbrev pub Supplies : ℕ → Harvest → Question → List Addr → Type 0
Supplies port harvest question addrs =
    HarvestHasSet harvest question → (told : AnswerSet) × IsToldBy harvest question told × ((addr : Addr) → IsAddressIn port told addr → Contains addrs addr)

-- An item is at a place.
abbrev pub IsAt : {X : Type 0} → List X → ℕ → X → Type 0
IsAt {X} xs place x = (rest : List X) × (drop place xs ≡ x ∷ rest)

-- The server is asked over this transport.
abbrev pub AsksOver : Addr → Over → Want → Type 0
AsksOver server over want = (bytes : List ℕ) × (want ≡ Send server over bytes)

-- If there are addresses, one of them is asked over UDP.
abbrev pub AsksOneOf : List Addr → Want → Type 0
AsksOneOf [] want = Unit {0}
AsksOneOf (addr ∷ addrs) want = (server : Addr) × Contains (addr ∷ addrs) server × AsksOver server Udp want

-- the servers, one more of them asked in vain
abbrev pub one_vain : Hunt → Hunt
one_vain hunt = record hunt { asked = hunt.asked + 1 }

-- A server without an address may be looked for now: not too many questions are open, it does not lie in the zone, and no open question is for its address.
pub record MayBeSought (search : Search) (target : Labels) : Type 0 where
  pub shallow : length search.frames.items < MOST_DEPTH
  pub outside : ¬ (IsAtOrBelow target (hunt_of search).servers.zone)
  pub other : IsOther (address_question target) search.frames.items search.path.last

-- Each address was asked.
abbrev pub AreAllAsked : Hunt → Type 0
AreAllAsked hunt = length hunt.addrs.items ≤ hunt.asked

-- What comes next for the innermost question.
abbrev pub IsNextStep : Search → NextMove → Type 0
IsNextStep search (Ask server) = (rest : List Addr) × (drop (hunt_of search).asked (hunt_of search).addrs.items ≡ server ∷ rest)
IsNextStep search (Seek target) = IsNext (hunt_of search) target × MayBeSought search target × AreAllAsked (hunt_of search)
IsNextStep search Pass = (target : Labels) × IsNext (hunt_of search) target × (¬ (MayBeSought search target)) × AreAllAsked (hunt_of search)
IsNextStep search Close = AreAllAsked (hunt_of search) × (length (hunt_of search).servers.missing ≤ (hunt_of search).sought)

-- ---- what a book said of servers

-- What came is no list of servers.
abbrev pub IsUnlisted : Input → Type 0
IsUnlisted (Reply (Seen (SeenServers list))) = ⊥
IsUnlisted input = Unit {0}

-- What came of a look names no servers of a zone at or above the name.
abbrev pub IsUnnamed : Labels → Input → Type 0
IsUnnamed name input = (moment : ℕ) → Suits (Book (Look moment (ServersFor name))) input → IsMisanswered (Look moment (ServersFor name)) input

-- The book named these servers, of a zone at or above the name.
pub record Names (name : Labels) (input : Input) (list : Servers) : Type 0 where
  pub replied : input ≡ Reply (Seen (SeenServers list))
  pub zone : IsAtOrBelow name list.zone

-- whether a find is a set
abbrev pub is_set_of : Body → Bool
is_set_of (Set found) = true
is_set_of body = false

-- whether a look saw a set
abbrev pub is_set_seen : SeenValue → Bool
is_set_seen (Held shown) = is_set_of shown.body.body
is_set_seen (LocalSeen (LocalData records)) = true
is_set_seen seen = false

-- An address is in the set that a look saw.
pub record IsAddressSeen (port : ℕ) (seen : SeenValue) (addr : Addr) : Type 0 where
  pub told : AnswerSet
  pub is_set : IsSetSeen seen told
  pub among : IsAddressIn port told addr

-- Each address was asked, and stands once.
pub record AreSpent (hunt : Hunt) : Type 0 where
  pub asked : hunt.asked ≡ length hunt.addrs.items
  pub distinct : AreDistinct hunt.addrs.items

-- An address that a look saw is asked over UDP.
abbrev pub AsksSeen : ℕ → SeenValue → Want → Type 0
AsksSeen port seen want = (server : Addr) × IsAddressSeen port seen server × AsksOver server Udp want

-- ---- what came of a query

-- After a useless response the next server is asked over UDP, and after a truncated one the same server over TCP. Of a response that is
-- heard the first find is handed to the book, if any may be.
abbrev pub FitsVerdict : Search → Addr → (Says → ℕ) → Verdict → Want → Type 0
FitsVerdict search server allowed Struck want = (other : Addr) (rest : List Addr) → IsNextServer search server (other ∷ rest) → AsksOver other Udp want
FitsVerdict search server allowed Cut want = AsksOver server Tcp want
FitsVerdict search server allowed (Heard heard) want = (find : Find) → IsHanded heard.harvest.chosen (allowed heard.says) 0 find → (moment : ℕ) × (want ≡ Book (Admit moment find))

-- A verdict on what came is acted on.
pub record ActsOn (port : ℕ) (search : Search) (server : Addr) (id : ℕ) (over : Over) (input : Input) (want : Want) : Type 0 where
  pub verdict : Verdict
  pub judged : IsJudged port over (hunt_of search).servers.zone id (question_of search) input verdict
  pub fits : FitsVerdict search server (allowed_in input) verdict want
