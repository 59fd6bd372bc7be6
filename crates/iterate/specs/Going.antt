-- What the functions of a step promise: it is well made, and less is left.
use Rattle.std.specs.Prelude.{◌≡◌, ℕ, ◌+◌, ◌<◌, ◌≤◌, Bool, false, ◌↔◌, List, [], drop, length, Option, Result, IfOk, Vec}
use Rattle.std.specs.List.{AllByRecursion, Contains}
use Rattle.dns_name.specs.Labels.{Labels}
use Rattle.dns_text.specs.declared.addr.Addr.{Addr}
use Rattle.dns_text.specs.declared.record.Question.{Question}
use Rattle.dns_text.specs.declared.record.Record.{Record}
use Rattle.dns_query.specs.declared.over.Over.{Over}
use Rattle.dns_query.specs.declared.over.Over.TheVariants.{Udp}
use Rattle.dns_query.specs.declared.verdict.Referral.{Referral}
use Rattle.dns_query.specs.declared.verdict.Heard.{Heard}
use Rattle.dns_query.specs.declared.verdict.Says.TheVariants.{Answers, Denies, Refers}
use Rattle.dns_query.specs.declared.verdict.Verdict.{Verdict}
use Rattle.dns_query.specs.Query.{address_question, alias_question}
use Rattle.harvest.specs.declared.harvest_type.Harvest.{Harvest}
use Rattle.local_zone.specs.declared.local_answer.Local.{Local}
use Rattle.rand_core.specs.Stream.{Stream}
use Rattle.ranked.specs.declared.find.Find.{Find}
use Rattle.history.specs.declared.event.Ask.TheVariants.{Answer as Asked, Servers as ServersFor}
use Rattle.history.specs.declared.event.Event.TheVariants.{Look}
use Rattle.history.specs.declared.event.Reply.TheVariants.{Seen as SeenReply}
use Rattle.history.specs.declared.event.Seen.{Seen}
use Rattle.history.specs.declared.event.Seen.TheVariants.{Local as LocalSeen}
use Rattle.history.specs.declared.servers.Servers.{Servers}
use Rattle.iterate.specs.declared.answer.AnswerSet.{AnswerSet}
use Rattle.iterate.specs.declared.answer.Soa.{Soa}
use Rattle.iterate.specs.declared.following.Hop.{Hop}
use Rattle.iterate.specs.declared.limits.TheConstants.{MOST_ALIASES, MOST_BEGUN, MOST_SENDS, MOST_TARGETS}
use Rattle.iterate.specs.declared.path.Path.{Path}
use Rattle.iterate.specs.declared.phase.Advance.{Advance}
use Rattle.iterate.specs.declared.phase.Phase.{Phase}
use Rattle.iterate.specs.declared.phase.Phase.TheVariants.{Ended, Fresh}
use Rattle.iterate.specs.declared.phase.Stage.{Stage}
use Rattle.iterate.specs.declared.phase.Stage.TheVariants.{Address, Alias, Servers as ServersStage}
use Rattle.iterate.specs.declared.search.Nested.{Nested}
use Rattle.iterate.specs.declared.search.Hunt.{Hunt}
use Rattle.iterate.specs.declared.search.Search.{Search}
use Rattle.iterate.specs.declared.want.Input.{Input}
use Rattle.iterate.specs.declared.want.Input.TheVariants.{Reply}
use Rattle.iterate.specs.declared.want.Want.{Want}
use Rattle.iterate.specs.declared.want.Want.TheVariants.{Book, Send}
use Rattle.iterate.specs.Come.{HasCome}
use Rattle.iterate.specs.Exchanges.{Exchange, exchange, Adds, AddsLook}
use Rattle.iterate.specs.Following.{IsAliasHop, IsAnswering, IsHarvestOf, IsToldBy, TellsDenial}
use Rattle.iterate.specs.Hunting.{ActsOn, AllServe, AreReferred, AreSpent, AsksOneOf, AsksOver, AsksSeen, IsAddressSeen, IsAt, IsReached, IsSmaller, IsTried, Names, Supplies, is_set_seen}
use Rattle.iterate.specs.Judged.{IsAddressOf, IsJudged}
use Rattle.iterate.specs.Known.{Known, Had, servers_referred}
use Rattle.iterate.specs.Looked.{IsReplied, IsSetSeen}
use Rattle.iterate.specs.Measure.{left_in, left_of_hearing, left_of_path, left_of_search, left_of_seek, left_of_sending}
use Rattle.iterate.specs.Phase.{Advances, Drawing, IsHearing, IsSeeking, IsWaiting, LooksAt, Remembers, Suits, ask_at, idle}
use Rattle.iterate.specs.Resolved.{IsDenied, Struck}
use Rattle.iterate.specs.Searching.{IsAskable, IsBehind, IsNextServer, IsOrderly, IsOther, IsPath, IsSearch, IsUnasked, Turn, hunt_behind, hunt_of, question_of, turn_of}
use Rattle.iterate.specs.Served.{served_name}
use Rattle.iterate.specs.Shown.{IsLocalFor, IsLookReply}
use Rattle.iterate.specs.Told.{IsTarget}
use Rattle.iterate.specs.Wanted.{MayGo, WasTruncated}

-- ---- from any phase

-- By what came of the want that is open.
abbrev pub StepsFrom : {E : Type 0} → ℕ → Question → Phase → ℕ → Input → Drawing → Result Advance E → Type 0
StepsFrom port question phase moment input ids result =
    (before log : List Exchange) (want : Want) → Remembers port question before want phase → Suits want input → Adds before (exchange want input) log
    → IfOk result (Advances port question log moment ids (left_in phase))

-- A task that has not begun begins.
abbrev pub BeginsIfFresh : {E : Type 0} → ℕ → Question → Phase → ℕ → Drawing → Result Advance E → Type 0
BeginsIfFresh port question phase moment ids result = phase ≡ Fresh → IfOk result (Advances port question [] moment ids (left_in phase))

-- ---- along a path: so many looks may follow, and no number is drawn

-- From a path that stands like this.
abbrev pub GoesOnFrom : {E : Type 0} → (ℕ → Question → List Exchange → Path → Type 0) → Path → ℕ → ℕ → Result Advance E → Type 0
GoesOnFrom Stands path moment looks result =
    (port : ℕ) (ids : Stream) (question : Question) (log : List Exchange) → Stands port question log path
    → IfOk result (Advances port question log moment (idle ids) (left_of_path path looks))

-- Behind a lookup of this question, from a path that stood like this before.
abbrev pub GoesOnBehind : {E : Type 0} → (ℕ → Question → List Exchange → Path → Type 0) → Path → Question → Input → ℕ → ℕ → Result Advance E → Type 0
GoesOnBehind Stands path asked input moment looks result =
    (port m : ℕ) (ids : Stream) (question : Question) (before log : List Exchange) → Stands port question before path
    → AddsLook before m (Asked asked) input log → Suits (Book (Look m (Asked asked))) input
    → IfOk result (Advances port question log moment (idle ids) (left_of_path path looks))

-- Behind a lookup of this question that found this, from a path that stood like this before.
abbrev pub GoesOnSeeing : {E : Type 0} → (ℕ → Question → List Exchange → Path → Type 0) → Path → Question → Seen → ℕ → ℕ → Result Advance E → Type 0
GoesOnSeeing Stands path asked seen moment looks result =
    (port m : ℕ) (ids : Stream) (question : Question) (input : Input) (before log : List Exchange) → Stands port question before path
    → IsReplied asked input seen → AddsLook before m (Asked asked) input log
    → IfOk result (Advances port question log moment (idle ids) (left_of_path path looks))

-- The path came along an alias of this harvest, whose response is followed further if the lookup finds nothing.
abbrev pub IsFollowing : Harvest → ℕ → Question → List Exchange → Path → Type 0
IsFollowing harvest port question log path = IsBehind port question log path × IsHarvestOf port log harvest

-- From a path that stands like this, by this harvest.
abbrev pub GoesOnByHarvest : {E : Type 0} → (ℕ → Question → List Exchange → Path → Type 0) → Path → Harvest → ℕ → ℕ → Result Advance E → Type 0
GoesOnByHarvest Stands path harvest moment looks result =
    (port : ℕ) (ids : Stream) (question : Question) (log : List Exchange) → IsHarvestOf port log harvest → Stands port question log path
    → IfOk result (Advances port question log moment (idle ids) (left_of_path path looks))

-- From a path whose last name is an alias by this set.
abbrev pub GoesOnByAlias : {E : Type 0} → Path → AnswerSet → ℕ → Result Advance E → Type 0
GoesOnByAlias path told moment result =
    (port : ℕ) (ids : Stream) (question : Question) (log : List Exchange) → IsUnasked port question log path
    → Known port log (Had (alias_question path.last.owner) told) → IfOk result (Advances port question log moment (idle ids) (left_of_path path 2))

-- The same, to the target of the set.
abbrev pub GoesOnToTarget : {E : Type 0} → Path → AnswerSet → Labels → ℕ → Result Advance E → Type 0
GoesOnToTarget path told to moment result =
    (port : ℕ) (ids : Stream) (question : Question) (log : List Exchange) → IsUnasked port question log path
    → Known port log (Had (alias_question path.last.owner) told) → IsTarget told to
    → IfOk result (Advances port question log moment (idle ids) (left_of_path path 2))

-- The target of the aliases that a lookup saw is looked up, unless too many were followed.
abbrev pub LooksAtTargetSeen : {E : Type 0} → Path → Seen → ℕ → Result Advance E → Type 0
LooksAtTargetSeen path seen moment result =
    (told : AnswerSet) (to : Labels) → IsSetSeen seen told → IsTarget told to → length path.sets.items < MOST_ALIASES → IfOk result (LooksAt path to moment)

-- Behind a lookup of its last question that local zones answered.
abbrev pub GoesOnByLocal : {E : Type 0} → Path → Local (List Record) Record → Result Advance E → Type 0
GoesOnByLocal path answer result =
    (port m moment : ℕ) (ids : Stream) (question : Question) (before log : List Exchange) → IsBehind port question before path → IsLocalFor path.last answer
    → AddsLook before m (Asked path.last) (Reply (SeenReply (LocalSeen answer))) log
    → IfOk result (Advances port question log moment (idle ids) (left_of_path path 3))

-- A set of aliases leads where a harvest leads that has it.
abbrev pub HopsBy : {E : Type 0} → AnswerSet → Result Hop E → Type 0
HopsBy told result = (harvest : Harvest) (name : Labels) → IsToldBy harvest (alias_question name) told → IfOk result (IsAliasHop harvest name)

-- From a path that may be asked about, along the alias of this harvest to its target.
abbrev pub GoesAlongAlias : {E : Type 0} → Harvest → Path → AnswerSet → Labels → ℕ → Result Advance E → Type 0
GoesAlongAlias harvest path told to moment result =
    (port : ℕ) (ids : Stream) (left : ℕ) (question : Question) (log : List Exchange) → left_of_path path 4 ≤ left
    → IsHarvestOf port log harvest → IsAskable port question log path
    → IsToldBy harvest (alias_question path.last.owner) told → IsTarget told to → HasCome port question log to
    → IfOk result (Advances port question log moment (idle ids) left)

-- From a path whose last query this harvest answers.
abbrev pub GoesOnByAnswer : {E : Type 0} → Harvest → Path → ℕ → Result Advance E → Type 0
GoesOnByAnswer harvest path moment result =
    (port : ℕ) (ids : Stream) (question : Question) (log : List Exchange) → IsAnswering port log path.last harvest
    → IsAskable port question log path → IfOk result (Advances port question log moment (idle ids) (left_of_hearing path 1))

-- The path ends with a set that answers its last question.
abbrev pub EndsWithSet : Path → AnswerSet → Advance → Type 0
EndsWithSet path told next =
    (port moment : ℕ) (ids : Stream) (left : ℕ) (question : Question) (log : List Exchange) → left_in Ended < left
    → IsAskable port question log path → Known port log (Had path.last told) → Advances port question log moment (idle ids) left next

-- The path ends where a response denies its last question.
abbrev pub EndsWithDenial : Path → ℕ → Option Soa → Advance → Type 0
EndsWithDenial path rcode authority next =
    (port moment : ℕ) (ids : Stream) (left : ℕ) (question : Question) (log : List Exchange) → left_in Ended < left
    → IsPath port question log path → IsDenied port log path.last rcode authority → Advances port question log moment (idle ids) left next

-- Behind the lookup of the servers that are asked about its last question.
abbrev pub GoesOnToServers : {E : Type 0} → Path → Input → ℕ → Drawing → Result Advance E → Type 0
GoesOnToServers path input moment ids result =
    (port m : ℕ) (question : Question) (before log : List Exchange) → IsAskable port question before path
    → AddsLook before m (ServersFor (served_name path.last)) input log → Suits (Book (Look m (ServersFor (served_name path.last)))) input
    → IfOk result (Advances port question log moment ids (left_of_path path 1))

-- ---- for a server without an address

-- Behind the lookup of this stage.
abbrev pub SeeksOn : {E : Type 0} → Search → Labels → Stage → ℕ → Input → ℕ → Drawing → Result Advance E → Type 0
SeeksOn search target stage port input moment ids result =
    (m : ℕ) (question : Question) (before log : List Exchange) → IsSeeking port question before search target stage
    → AddsLook before m (ask_at stage target) input log → Suits (Book (Look m (ask_at stage target))) input
    → IfOk result (Advances port question log moment ids (left_of_seek search stage))

-- The same at any port.
abbrev pub SeeksOnAtAnyPort : {E : Type 0} → Search → Labels → Stage → Input → ℕ → Drawing → Result Advance E → Type 0
SeeksOnAtAnyPort search target stage input moment ids result = (port : ℕ) → SeeksOn search target stage port input moment ids result

-- The lookup of this stage is begun.
abbrev pub BeginsSeeking : {E : Type 0} → Search → Labels → Stage → ℕ → Result Advance E → Type 0
BeginsSeeking search target stage moment result =
    (port : ℕ) (ids : Stream) (left : ℕ) (question : Question) (log : List Exchange) → IsSeeking port question log search target stage
    → left_of_seek search stage < left → IfOk result (Advances port question log moment (idle ids) left)

-- An alias of the server is looked up if a question for its address may be begun.
abbrev pub LooksForAlias : {E : Type 0} → Search → Labels → ℕ → Result Advance E → Type 0
LooksForAlias search target moment result =
    search.path.begun < MOST_BEGUN → (hunt_of search).sought < MOST_TARGETS
    → IfOk result (λ next. next.want ≡ Book (Look moment (Asked (alias_question target))))

-- Behind the lookup of its address, which found nothing.
abbrev pub SeeksFurther : {E : Type 0} → Search → Labels → ℕ → Drawing → Result Advance E → Type 0
SeeksFurther search target moment ids result =
    (port : ℕ) (question : Question) (log : List Exchange) → IsTried port question log search target []
    → ((hunt_of search).sought < MOST_TARGETS → IsSeeking port question log search target Alias)
    → IfOk result (Advances port question log moment ids (left_of_search search 3))

-- If a lookup saw a new address and all others were asked, an address that it saw is asked.
abbrev pub AsksNewAddress : {E : Type 0} → ℕ → Search → Seen → Result Advance E → Type 0
AsksNewAddress port search seen result =
    (addr : Addr) → IsAddressSeen port seen addr → ¬ (Contains (hunt_of search).addrs.items addr) → AreSpent (hunt_of search)
    → search.path.sent < MOST_SENDS → IfOk result (λ next. AsksSeen port seen next.want)

-- Behind the lookup of its address, which saw this.
abbrev pub SeeksOnSeeing : {E : Type 0} → Search → Labels → ℕ → Seen → ℕ → Drawing → Result Advance E → Type 0
SeeksOnSeeing search target port seen moment ids result =
    (m : ℕ) (question : Question) (before log : List Exchange) → IsSeeking port question before search target Address
    → AddsLook before m (Asked (address_question target)) (Reply (SeenReply seen)) log
    → IsLookReply (Asked (address_question target)) (SeenReply seen)
    → IfOk result (Advances port question log moment ids (left_of_search search 3))

-- If the lookup of its alias saw no set, the servers that are asked about it are looked up.
abbrev pub LooksForServers : {E : Type 0} → Labels → Input → ℕ → Result Advance E → Type 0
LooksForServers target input moment result =
    (seen : Seen) → input ≡ Reply (SeenReply seen) → IsLookReply (Asked (alias_question target)) (SeenReply seen) → is_set_seen seen ≡ false
    → IfOk result (λ next. next.want ≡ Book (Look moment (ServersFor target)))

-- If the book named the servers that are asked about it, one of them is asked, unless too many queries were sent.
abbrev pub AsksNamed : {E : Type 0} → Search → Labels → Input → Result Advance E → Type 0
AsksNamed search target input result =
    (list : Servers) → Names target input list → search.path.sent < MOST_SENDS → IfOk result (λ next. AsksOneOf list.addrs next.want)

-- The servers of this question are reached from what stands like this: the search is well made, and less is left.
abbrev pub ReachesServers : {E X : Type 0} → (ℕ → Question → List Exchange → X → Type 0) → X → Question → Servers → ℕ → Result Search E → Type 0
ReachesServers Stands x asked servers left result =
    (port : ℕ) (question : Question) (log since : List Exchange) → Stands port question log x → IsReached port log asked since servers
    → IfOk result (IsSmaller port question log left)

-- A question for the address of this server is opened among the servers reached for it.
abbrev pub OpensQuestion : {E : Type 0} → Search → Labels → Servers → Result Search E → Type 0
OpensQuestion search target servers result =
    ReachesServers (λ port question log s. IsSeeking port question log s target ServersStage) search (address_question target) servers (left_of_seek search ServersStage) result

-- ---- a search

-- Whether one of these questions is for the address of this server, if the last one is not.
abbrev pub SaysIfOpen : List Nested → Labels → Bool → Type 0
SaysIfOpen frames target is_open = (last : Question) → ¬ (address_question target ≡ last) → (is_open ≡ false) ↔ IsOther (address_question target) frames last

-- Each server without an address was looked for.
abbrev pub IsNoneMissing : Hunt → Type 0
IsNoneMissing hunt = length hunt.servers.missing ≤ hunt.sought

-- The server is the next one without an address.
abbrev pub IsNextMissing : Hunt → Labels → Type 0
IsNextMissing hunt name = IsAt hunt.servers.missing hunt.sought name

-- An address was not asked yet.
abbrev pub HasUnasked : Hunt → Type 0
HasUnasked hunt = hunt.asked < length hunt.addrs.items

-- Once a response referred it to these servers, less is left.
abbrev pub SmallerOnceReferred : {E : Type 0} → Search → Servers → Result Search E → Type 0
SmallerOnceReferred search servers result =
    (port : ℕ) (question : Question) (log since : List Exchange) (turn : Turn) → IsSearch port question log search
    → IsOrderly port log search turn → IsReached port log (question_of search) since servers
    → IfOk result (IsSmaller port question log (left_of_hearing search.path 1))

-- Once these addresses were found for the next server without one, less is left.
abbrev pub SmallerOnceSupplied : {E : Type 0} → Search → List Addr → Result Search E → Type 0
SmallerOnceSupplied search found result =
    (port : ℕ) (question : Question) (log : List Exchange) (target : Labels) → IsTried port question log search target found
    → AllServe port log (hunt_of search).servers found → IfOk result (IsSmaller port question log (left_of_search search 0))

-- Once its innermost question is closed, for which these addresses were found, less is left.
abbrev pub SmallerOnceClosed : {E : Type 0} → Search → List Addr → Result Search E → Type 0
SmallerOnceClosed search found result =
    (port : ℕ) (question : Question) (log : List Exchange) (turn : Turn) → IsSearch port question log search → IsOrderly port log search turn
    → AllServe port log (hunt_behind (drop 1 search.frames.items) search.base).servers found
    → IfOk result (IsSmaller port question log (left_of_search search 0))

-- Once its next server was struck, it is a search still.
abbrev pub IsSearchOnceStruck : {E : Type 0} → Search → Result Search E → Type 0
IsSearchOnceStruck search result =
    (port : ℕ) (question : Question) (log : List Exchange) (server : Addr) (rest : List Addr) → (s : IsSearch port question log search)
    → IsNextServer search server rest → Struck port s.since (hunt_of search).servers.zone (question_of search) server
    → IfOk result (IsSearch port question log)

-- Then the server behind that one was not asked yet.
abbrev pub IsOrderlyOnceStruck : {E : Type 0} → Search → Result Search E → Type 0
IsOrderlyOnceStruck search result =
    (port : ℕ) (log : List Exchange) (server : Addr) (rest : List Addr) → IsNextServer search server rest
    → IsOrderly port log search Turn.heard → IfOk result (λ after. IsOrderly port log after Turn.unasked)

-- It goes on with its next server, which was not asked yet.
abbrev pub GoesOnSearching : {E : Type 0} → Search → ℕ → Drawing → Result Advance E → Type 0
GoesOnSearching search moment ids result =
    (port : ℕ) (question : Question) (log : List Exchange) → IsSearch port question log search → IsOrderly port log search Turn.unasked
    → IfOk result (Advances port question log moment ids (left_of_search search 4))

-- ---- a query

-- The next server, if there is one, is asked over UDP, unless too many queries were sent.
abbrev pub SendsToNext : {E : Type 0} → Search → Result Advance E → Type 0
SendsToNext search result =
    (server : Addr) (rest : List Addr) → IsNextServer search server rest → search.path.sent < MOST_SENDS → IfOk result (λ next. AsksOver server Udp next.want)

-- This server is asked over this transport, if it is next and may be asked so.
abbrev pub SendsTo : {E : Type 0} → Search → Addr → Over → Drawing → Result Advance E → Type 0
SendsTo search server over ids result =
    (port moment left : ℕ) (question : Question) (log : List Exchange) (rest : List Addr) → IsSearch port question log search
    → search.path.sent < MOST_SENDS → IsNextServer search server rest
    → IsOrderly port log search (turn_of over) → MayGo log server (question_of search) over → left_of_sending search.path < left
    → IfOk result (Advances port question log moment ids left)

-- This server is asked for the first time, if it is next.
abbrev pub AsksFirst : {E : Type 0} → Search → Addr → Drawing → Result Advance E → Type 0
AsksFirst search server ids result =
    (port moment : ℕ) (question : Question) (log : List Exchange) (rest : List Addr) → IsSearch port question log search
    → IsNextServer search server rest → IsOrderly port log search Turn.unasked
    → IfOk result (Advances port question log moment ids (left_of_search search 4))

-- This server is asked again over TCP, if its response was truncated.
abbrev pub AsksAgain : {E : Type 0} → Search → Addr → Drawing → Result Advance E → Type 0
AsksAgain search server ids result =
    (port moment left : ℕ) (question : Question) (log : List Exchange) (rest : List Addr) → IsSearch port question log search
    → IsNextServer search server rest → IsOrderly port log search Turn.cut → WasTruncated log server (question_of search)
    → (search.path.sent < MOST_SENDS → left_of_sending search.path < left) → left_in Ended < left
    → IfOk result (Advances port question log moment ids left)

-- What came of a query is judged rightly.
abbrev pub JudgesOutcome : {E : Type 0} → ℕ → Over → Labels → ℕ → Question → Input → Result Verdict E → Type 0
JudgesOutcome port over zone id question input result =
    (server : Addr) (bytes : List ℕ) → Suits (Send server over bytes) input → IfOk result (IsJudged port over zone id question input)

-- The verdict on it is acted on, unless too many queries were sent.
abbrev pub ActsOnOutcome : {E : Type 0} → ℕ → Search → Addr → ℕ → Over → Input → Result Advance E → Type 0
ActsOnOutcome port search server id over input result =
    (bytes : List ℕ) → Suits (Send server over bytes) input → search.path.sent + 1 < MOST_SENDS
    → IfOk result (λ next. ActsOn port search server id over input next.want)

-- Behind the query to this server.
abbrev pub GoesOnByOutcome : {E : Type 0} → ℕ → Search → Addr → ℕ → Over → Input → ℕ → Drawing → Result Advance E → Type 0
GoesOnByOutcome port search server id over input moment ids result =
    (question : Question) (before log : List Exchange) (want : Want) → IsWaiting port question before want search server id over
    → Suits want input → Adds before (exchange want input) log
    → IfOk result (Advances port question log moment ids (left_of_sending search.path))

-- ---- by a response

-- Where it was heard.
abbrev pub Concludes : {E : Type 0} → Search → Heard → ℕ → ℕ → Drawing → Result Advance E → Type 0
Concludes search heard port moment ids result =
    (question : Question) (log : List Exchange) (allowed : ℕ) → IsHearing port question log search heard allowed
    → IfOk result (Advances port question log moment ids (left_of_hearing search.path 1))

-- A referral is followed to one of its servers, unless as many queries were sent as may be.
abbrev pub FollowsReferral : {E : Type 0} → Search → Heard → Result Advance E → Type 0
FollowsReferral search heard result =
    (referral : Referral) → heard.says ≡ Refers referral → search.path.sent < MOST_SENDS → IfOk result (λ next. AsksOneOf referral.addrs next.want)

-- A denial is told, with its RCODE and SOA record.
abbrev pub FollowsDenial : {E : Type 0} → Search → Heard → Result Advance E → Type 0
FollowsDenial search heard result =
    (rcode : ℕ) (negative : Option Find) → heard.says ≡ Denies rcode negative → IfOk result (λ next. TellsDenial search.path rcode negative next.want)

-- The addresses that a harvest gives for a server are its own.
abbrev pub TellsAddresses : {A E : Type 0} → ℕ → Harvest → Labels → Result (Vec Addr A) E → Type 0
TellsAddresses port harvest target result =
    (log : List Exchange) → IsHarvestOf port log harvest → IfOk result (λ addrs. AllByRecursion (IsAddressOf port log target) addrs.items)

-- An answer gives the addresses of a server to the search behind it.
abbrev pub TakesAnswer : {E : Type 0} → ℕ → Search → Heard → Result Search E → Type 0
TakesAnswer port search heard result =
    heard.says ≡ Answers → IfOk result (λ after. Supplies port heard.harvest (question_of search) (hunt_of after).addrs.items)

-- A referral gives the innermost question its servers.
abbrev pub TakesReferral : {E : Type 0} → Search → Heard → Result Search E → Type 0
TakesReferral search heard result =
    (referral : Referral) → heard.says ≡ Refers referral
    → IfOk result (λ after. AreReferred search.frames.items (servers_referred referral) after.frames.items)

-- Once the response was heard, less is left.
abbrev pub SmallerOnceHeard : {E : Type 0} → ℕ → Search → Heard → Result Search E → Type 0
SmallerOnceHeard port search heard result =
    (question : Question) (log : List Exchange) (allowed : ℕ) → IsHearing port question log search heard allowed
    → IfOk result (IsSmaller port question log (left_of_hearing search.path 1))
