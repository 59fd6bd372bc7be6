-- Servers without an address are looked for, and servers are named.
use Rattle.std.proofs.Common.{◌≡◌, ◌∙◌, ℕ, ◌<◌, List, [], ◌∷◌, ◌++◌, length, drop, inl, inr, true, false, Option, Some, None, ◌==◌, if◌then◌else◌, unwrap_or, sym, ap, subst, refl}
use Rattle.std.specs.List.{AllByRecursion, Contains}
use Rattle.std.proofs.lemmas.List.{take-append-drop}
use Rattle.std.proofs.lemmas.List.Elements.{Contains-append_cases}
use Rattle.dns_name.specs.Labels.{Labels, IsAtOrBelow, parent_of}
use Rattle.dns_text.specs.declared.addr.Addr.{Addr}
use Rattle.dns_text.specs.declared.record.Question.{Question}
use Rattle.dns_query.specs.Query.{address_question}
use Rattle.local_zone.specs.declared.local_answer.Local.TheVariants as local
use Rattle.rand_core.specs.Stream.{Stream}
use Rattle.history.specs.declared.event.Ask.{Ask}
use Rattle.history.specs.declared.event.Ask.TheVariants.{Answer as Asked, Servers as ServersFor}
use Rattle.history.specs.declared.event.Event.{Event}
use Rattle.history.specs.declared.event.Event.TheVariants.{Look}
use Rattle.history.specs.declared.event.Reply.TheVariants.{Seen}
use Rattle.history.specs.declared.event.Seen.{Seen as SeenValue}
use Rattle.history.specs.declared.event.Seen.TheVariants.{Unknown, Held, Local as LocalSeen, Zones, Records, Stubs, Commands, Buried as BuriedSeen, Servers as SeenServers, Oldest as SeenOldest, Command as SeenCommand, Refused as SeenRefused}
use Rattle.history.specs.declared.servers.Servers.{Servers}
use Rattle.iterate.specs.declared.answer.Answer.TheVariants.{Reply as Replies}
use Rattle.iterate.specs.declared.answer.AnswerSet.{AnswerSet}
use Rattle.iterate.specs.declared.path.Path.{Path}
use Rattle.iterate.specs.declared.phase.Phase.TheVariants.{Ended}
use Rattle.iterate.specs.declared.phase.Stage.{Stage}
use Rattle.iterate.specs.declared.phase.Stage.TheVariants as stage
use Rattle.iterate.specs.declared.search.Hunt.{Hunt}
use Rattle.iterate.specs.declared.search.Nested.{Nested}
use Rattle.iterate.specs.declared.search.Search.{Search}
use Rattle.iterate.specs.declared.want.Input.{Input}
use Rattle.iterate.specs.declared.want.Input.TheVariants.{Reply}
use Rattle.iterate.specs.declared.want.Want.TheVariants.{Book, Finish}
use Rattle.iterate.specs.Exchanges.{Exchange, exchange, Adds}
use Rattle.iterate.specs.Hunting.{AllServe, AreSpent, AreSupplied, IsReached, IsSupplied, IsTried, IsAddressSeen, Names}
use Rattle.iterate.specs.Known.{Known, Had, Listed, WasUnknown, IsUnknownYet}
use Rattle.iterate.specs.Looked.{IsSetSeen}
use Rattle.iterate.specs.Measure.{top, left_of_path, left_of_seek}
use Rattle.iterate.specs.Phase.{Goes, IsSeeking, Suits, ask_at, idle}
use Rattle.iterate.specs.Resolved.{Fails, IsOneOf, IsShown, ReachedFor, Sought}
use Rattle.iterate.specs.Served.{served_name}
use Rattle.iterate.specs.declared.served.TheConstants.{DS}
use Rattle.iterate.specs.Searching.{IsPath, IsAskable, IsSearch, Turn, hunt_behind, hunt_of}
use Rattle.iterate.specs.Shown.{IsLookReply, IsMisanswered, EndsQuestion}
use Rattle.iterate.specs.declared.answer.Soa.{Soa}
use Rattle.iterate.proofs.Growing.{happened_last, path_more, askable_more, base_more, frames_more, search_looked, since_more, sought_more}
use Rattle.iterate.proofs.Arriving.{yet_now, yet_more}
use Rattle.iterate.proofs.Falling.{ended_falls}
use Rattle.iterate.proofs.Asking.{failing, ended_seek, innermost_hunt}
use Rattle.iterate.proofs.Lists.{first_of, next_among, next_new}
use Rattle.iterate.proofs.Once.{all_looked, nothing_sent}

-- ---- servers are named

below_above : (name zone : Labels) → IsAtOrBelow (unwrap_or (parent_of name) name) zone → IsAtOrBelow name zone
below_above [] zone at = at
below_above (label ∷ labels) zone at = (label ∷ at.0, ap (λ (n : Labels). label ∷ n) at.1)

pub path_named : (port : ℕ) (question : Question) (before log : List Exchange) (m : ℕ) (path : Path) (list : Servers) → IsAskable port question before path
    → Adds before (exchange (Book (Look m (ServersFor (served_name path.last)))) (Reply (Seen (SeenServers list)))) log → IsAskable port question log path
path_named port question before log m path list p a = askable_more p a refl

pub reached_named : (port : ℕ) (before log : List Exchange) (m : ℕ) (question : Question) (list : Servers)
    → Adds before (exchange (Book (Look m (ServersFor (served_name question)))) (Reply (Seen (SeenServers list)))) log → ReachedFor port log question list []
reached_named port before log m question list a = ReachedFor.by_book before m a.adds

-- A zone at or above the name whose servers are asked is at or above that of the question.
pub below_served : (question : Question) (zone : Labels) → IsAtOrBelow (served_name question) zone → IsAtOrBelow question.owner zone
below_served question zone below = elim (question.kind == DS) as (λ b. IsAtOrBelow (if b then unwrap_or (parent_of question.owner) question.owner else question.owner) zone → IsAtOrBelow question.owner zone) [
  | true ↦ below_above question.owner zone
  | false ↦ λ at. at
] below

-- These servers were reached for a question.
pub named_reached : (port : ℕ) (before log : List Exchange) (m : ℕ) (question : Question) (list : Servers) → IsAtOrBelow (served_name question) list.zone
    → Adds before (exchange (Book (Look m (ServersFor (served_name question)))) (Reply (Seen (SeenServers list)))) log → IsReached port log question [] list
named_reached port before log m question list below a = record {
  listed = Known.named a;
  reached = reached_named port before log m question list a;
  above = below_served question list.zone below;
  quiet = nothing_sent;
}

-- what is named, if anything is
abbrev listed_in : Servers → Input → Servers
listed_in other (Reply (Seen (SeenServers list))) = list
listed_in other input = other

pub named_same : {name : Labels} {input : Input} {list other : Servers} → Names name input list → Names name input other → list ≡ other
named_same {list = list} n m = ap (λ (i : Input). listed_in list i) (sym n.replied ∙ m.replied)

pub listed_named : (port : ℕ) (before log : List Exchange) (m : ℕ) (name : Labels) (list : Servers)
    → Adds before (exchange (Book (Look m (ServersFor name))) (Reply (Seen (SeenServers list)))) log → Known port log (Listed list)
listed_named port before log m name list a = Known.named a

pub failing_listing : (port m : ℕ) (question : Question) (before log : List Exchange) (moment : ℕ) (id : Stream) (path : Path) (input : Input) → IsPath port question before path
    → Adds before (exchange (Book (Look m (ServersFor (served_name path.last)))) input) log → IsMisanswered (Look m (ServersFor (served_name path.last))) input
    → Goes port question log moment (idle id) (left_of_path path 1) Ended (Finish (Replies 2 false [] None None))
failing_listing port m question before log moment id path input p a bad =
    failing port question log moment id (left_of_path path 1) path (ended_falls path 0 0 top 1 p.short) (path_more p a refl) (Fails.misanswered (happened_last a) bad)

-- ---- a look for a server without an address

pub failing_seeking : (port m : ℕ) (question : Question) (before log : List Exchange) (moment : ℕ) (id : Stream) (sought : Stage) (search : Search) (ask : Ask) (input : Input) → IsSearch port question before search
    → Adds before (exchange (Book (Look m ask)) input) log → IsMisanswered (Look m ask) input
    → Goes port question log moment (idle id) (left_of_seek search sought) Ended (Finish (Replies 2 false [] None None))
failing_seeking port m question before log moment id sought search ask input s a bad =
    let after = search_looked s a refl in
    failing port question log moment id (left_of_seek search sought) search.path (ended_seek search sought after) after.path (Fails.misanswered (happened_last a) bad)

-- a search behind a look
abbrev after_look : {port : ℕ} {question : Question} {before log : List Exchange} (m : ℕ) (ask : Ask) (input : Input) (search : Search) → IsSearch port question before search
    → Adds before (exchange (Book (Look m ask)) input) log → IsSearch port question log search
after_look {port} m ask input search s a = record {
  path = path_more s.path a refl;
  since = s.since ++ exchange (Book (Look m ask)) input ∷ [];
  base = base_more s.base a;
  frames = frames_more port s.since search.base search.frames.items a s.frames;
  deep = s.deep;
}

-- What ends a question was seen.
ends_seen : {question : Question} {seen : SeenValue} {rcode : ℕ} {last : Option AnswerSet} {authority : Option Soa} → EndsQuestion question seen rcode last authority → seen ≡ Unknown → ⊥
ends_seen (EndsQuestion.held is) none = let e : ⊥ = cc in absurd e
ends_seen (EndsQuestion.held_no_data is body) none = let e : ⊥ = cc in absurd e
ends_seen (EndsQuestion.held_no_name is body) none = let e : ⊥ = cc in absurd e
ends_seen (EndsQuestion.local_set is) none = let e : ⊥ = cc in absurd e
ends_seen (EndsQuestion.local_no_data formed) none = let e : ⊥ = cc in absurd e
ends_seen (EndsQuestion.local_no_name formed) none = let e : ⊥ = cc in absurd e

-- what was seen, if anything was
abbrev seen_in : Input → SeenValue
seen_in (Reply (Seen seen)) = seen
seen_in input = Unknown

-- Replies to a look are the same where what was seen is.
pub seen_same : {seen other : SeenValue} → Reply (Seen seen) ≡ Reply (Seen other) → seen ≡ other
seen_same e = ap seen_in e

-- A reply may come of a call of the book.
pub suited : (event : Event) {input : Input} {seen : SeenValue} → input ≡ Reply (Seen seen) → Suits (Book event) input
suited event same = subst (λ (i : Input). Suits (Book event) i) (sym same) tt

-- A look that found nothing saw no address.
pub none_shown : {port : ℕ} {target : Labels} {input : Input} {addr : Addr} → IsShown port target input addr → input ≡ Reply (Seen Unknown) → ⊥
none_shown s none = ends_seen s.ends (sym (ap seen_in s.replied) ∙ ap seen_in none)

-- The set by which a look ends a question is what it saw.
ends_set : {question : Question} {seen : SeenValue} {rcode : ℕ} {last : Option AnswerSet} {authority : Option Soa} {told : AnswerSet} → EndsQuestion question seen rcode last authority → last ≡ Some told → IsSetSeen seen told
ends_set {told = told} (EndsQuestion.held is) some = (is.has_data, let e : told ≡ _ = cc in e)
ends_set (EndsQuestion.held_no_data is body) some = let e : ⊥ = cc in absurd e
ends_set (EndsQuestion.held_no_name is body) some = let e : ⊥ = cc in absurd e
ends_set {told = told} (EndsQuestion.local_set is) some = let e : told ≡ _ = cc in e
ends_set (EndsQuestion.local_no_data formed) some = let e : ⊥ = cc in absurd e
ends_set (EndsQuestion.local_no_name formed) some = let e : ⊥ = cc in absurd e

-- An address that a look shows was seen.
pub shown_seen : {port : ℕ} {target : Labels} {addr : Addr} (seen : SeenValue) → IsShown port target (Reply (Seen seen)) addr → IsAddressSeen port seen addr
shown_seen {port} {target} {addr} seen s =
    let same : seen ≡ s.seen = ap seen_in s.replied in
    subst (λ (v : SeenValue). IsAddressSeen port v addr) (sym same) record { told = s.told; is_set = ends_set s.ends refl; among = s.among }

-- what a look did not find was looked for
pub was_sought : {port : ℕ} {log : List Exchange} {target : Labels} {P : Addr → Type 0} → WasUnknown log (address_question target) → Sought port log target P
was_sought u = record { moment = u.moment; input = Reply (Seen Unknown); looked = u.looked; became = λ addr shown. absurd (none_shown shown refl) }

-- The server was looked for just now, and each address that was seen is among these.
pub tried_address : (port m : ℕ) (question : Question) (before log : List Exchange) (search : Search) (target : Labels) (input : Input) (found : List Addr) → IsSeeking port question before search target stage.Address
    → Adds before (exchange (Book (Look m (Asked (address_question target)))) input) log → ((addr : Addr) → IsShown port target input addr → Contains found addr) → IsTried port question log search target found
tried_address port m question before log search target input found k a shown = record {
  is_search = after_look m (Asked (address_question target)) input search k.is_search a;
  next = k.next;
  orderly = all_looked port search.base search.path.last Turn.unasked search.frames.items a refl k.orderly;
  tried = λ none may. record { moment = m; input = input; looked = happened_last (since_more k.is_search.since _); became = shown };
}

-- The server was looked for before, and nothing was seen.
pub tried_more : (port m : ℕ) (question : Question) (before log : List Exchange) (search : Search) (target : Labels) (stage : Stage) (input : Input) (k : IsSeeking port question before search target stage)
    → WasUnknown k.is_search.since (address_question target) → Adds before (exchange (Book (Look m (ask_at stage target))) input) log → IsTried port question log search target []
tried_more port m question before log search target stage input k u a = record {
  is_search = after_look m (ask_at stage target) input search k.is_search a;
  next = k.next;
  orderly = all_looked port search.base search.path.last Turn.unasked search.frames.items a refl k.orderly;
  tried = λ none may. sought_more (was_sought u) (since_more k.is_search.since _);
}

-- Its address was not found: it is looked for further, if it is among the first of its list.
pub seeking_unknown : (port m : ℕ) (question : Question) (before log : List Exchange) (search : Search) (target : Labels) (seen : SeenValue) → seen ≡ Unknown → IsSeeking port question before search target stage.Address
    → Adds before (exchange (Book (Look m (Asked (address_question target)))) (Reply (Seen seen))) log → (hunt_of search).sought < 5 → IsSeeking port question log search target stage.Alias
seeking_unknown port m question before log search target seen none k a early = record {
  is_search = after_look m (Asked (address_question target)) (Reply (Seen seen)) search k.is_search a;
  shallow = k.shallow;
  next = k.next;
  unknown = yet_now {m = m} {before = k.is_search.since}
      (subst (λ (v : SeenValue). Adds k.is_search.since (exchange (Book (Look m (Asked (address_question target)))) (Reply (Seen v))) (k.is_search.since ++ exchange (Book (Look m (Asked (address_question target)))) (Reply (Seen seen)) ∷ [])) none
      (since_more k.is_search.since _));
  early = early;
  orderly = all_looked port search.base search.path.last Turn.unasked search.frames.items a refl k.orderly;
  other = k.other;
}

-- It is looked for further still.
pub seeking_more : (port m : ℕ) (question : Question) (before log : List Exchange) (search : Search) (target : Labels) (first : Stage) (input : Input) → (k : IsSeeking port question before search target first)
    → IsUnknownYet k.is_search.since (address_question target) → (hunt_of search).sought < 5 → Adds before (exchange (Book (Look m (ask_at first target))) input) log → IsSeeking port question log search target stage.Servers
seeking_more port m question before log search target first input k u early a = record {
  is_search = after_look m (ask_at first target) input search k.is_search a;
  shallow = k.shallow;
  next = k.next;
  unknown = yet_more u (since_more k.is_search.since _) refl;
  early = early;
  orderly = all_looked port search.base search.path.last Turn.unasked search.frames.items a refl k.orderly;
  other = k.other;
}

-- One question more is begun.
abbrev begun_path : {port : ℕ} {question : Question} {log : List Exchange} (path : Path) (n : ℕ) → IsPath port question log path → IsPath port question log (record path { begun = n })
begun_path path n p = record { began = p.began; chain = p.chain; kind = p.kind; short = p.short; counted = p.counted; few = p.few }

abbrev begun_search : {port : ℕ} {question : Question} {log : List Exchange} (search : Search) (n : ℕ) → IsSearch port question log search
    → IsSearch port question log (record search { path = record search.path { begun = n } })
begun_search search n s = record { path = begun_path search.path n s.path; since = s.since; base = s.base; frames = s.frames; deep = s.deep }

pub begun_seeking : (port : ℕ) (question : Question) (log : List Exchange) (search : Search) (target : Labels) (stage : Stage) (n : ℕ) → IsSeeking port question log search target stage
    → IsSeeking port question log (record search { path = record search.path { begun = n } }) target stage
begun_seeking port question log search target stage n k = record { is_search = begun_search search n k.is_search; shallow = k.shallow; next = k.next; unknown = k.unknown; early = k.early; orderly = k.orderly; other = k.other }

-- ---- its addresses

-- A set that a look saw is known.
had_seen : (port m : ℕ) (before log : List Exchange) (question : Question) (seen : SeenValue) (told : AnswerSet) → Adds before (exchange (Book (Look m (Asked question))) (Reply (Seen seen))) log
    → IsLookReply (Asked question) (Seen seen) → IsSetSeen seen told → Known port log (Had question told)
had_seen port m before log question (Held shown) told a lawful is = subst (λ (t : AnswerSet). Known port log (Had question t)) (sym is.1) (Known.looked a record { shown_for = lawful; has_data = is.0 })
had_seen port m before log question (LocalSeen (local.Data records)) told a lawful is = subst (λ (t : AnswerSet). Known port log (Had question t)) (sym is) (Known.local a lawful)
had_seen port m before log question (LocalSeen (local.NoData soa)) told a lawful is = absurd is
had_seen port m before log question (LocalSeen (local.NoName soa)) told a lawful is = absurd is
had_seen port m before log question (LocalSeen local.Refuse) told a lawful is = absurd is
had_seen port m before log question (LocalSeen local.Drop) told a lawful is = absurd is
had_seen port m before log question (LocalSeen local.Pass) told a lawful is = absurd is
had_seen port m before log question Unknown told a lawful is = absurd is
had_seen port m before log question (Zones zones) told a lawful is = absurd is
had_seen port m before log question (Records records) told a lawful is = absurd is
had_seen port m before log question (Stubs stubs) told a lawful is = absurd is
had_seen port m before log question (Commands commands) told a lawful is = absurd is
had_seen port m before log question (BuriedSeen buried) told a lawful is = absurd is
had_seen port m before log question (SeenServers servers) told a lawful is = absurd is
had_seen port m before log question (SeenOldest name) told a lawful is = absurd is
had_seen port m before log question (SeenCommand held) told a lawful is = absurd is
had_seen port m before log question (SeenRefused why) told a lawful is = absurd is

each_serves : (port m : ℕ) (before log : List Exchange) (servers : Servers) (target : Labels) (seen : SeenValue) (found : List Addr) → Adds before (exchange (Book (Look m (Asked (address_question target)))) (Reply (Seen seen))) log
    → IsLookReply (Asked (address_question target)) (Seen seen) → Known port log (Listed servers) → Contains servers.missing target → AllByRecursion (IsAddressSeen port seen) found
    → AllServe port log servers found
each_serves port m before log servers target seen [] a lawful known among all = tt
each_serves port m before log servers target seen (addr ∷ found) a lawful known among all =
    (IsOneOf.found among (had_seen port m before log (address_question target) seen all.0.told a lawful all.0.is_set) all.0.among, each_serves port m before log servers target seen found a lawful known among all.1)

-- The addresses that a look saw are those of a server of the zone.
pub serving : (port m : ℕ) (question : Question) (before log : List Exchange) (search : Search) (target : Labels) (seen : SeenValue) (found : List Addr) → IsSeeking port question before search target stage.Address
    → Adds before (exchange (Book (Look m (Asked (address_question target)))) (Reply (Seen seen))) log → IsLookReply (Asked (address_question target)) (Seen seen) → AllByRecursion (IsAddressSeen port seen) found
    → AllServe port log (hunt_of search).servers found
serving port m question before log search target seen found k a lawful all =
    let hunt = innermost_hunt search (search_looked k.is_search a refl) in
    each_serves port m before log (hunt_of search).servers target seen found a lawful hunt.listed (next_among (hunt_of search).sought (hunt_of search).servers.missing target k.next.rest k.next.next) all

-- ---- one of them is asked

pub supplied_inner : (fs gs : List Nested) (base next : Hunt) (found : List Addr) → AreSupplied fs base found gs next → IsSupplied (hunt_behind fs base) found (hunt_behind gs next)
supplied_inner [] [] base next found i = i
supplied_inner [] (g ∷ gs) base next found i = absurd i
supplied_inner (f ∷ fs) [] base next found i = absurd i
supplied_inner (f ∷ fs) (g ∷ gs) base next found i = i.1

-- Where each address was asked, the next one is a new one.
pub spent_next : (before after : Hunt) (found : List Addr) → IsSupplied before found after → AreSpent before → (addr : Addr) → Contains found addr → ¬ (Contains before.addrs.items addr)
    → (server : Addr) × (rest : List Addr) × (drop after.asked after.addrs.items ≡ server ∷ rest) × Contains found server
spent_next before after found i spent addr is new =
    let long = length before.addrs.items in
    let split : after.addrs.items ≡ before.addrs.items ++ drop long after.addrs.items = sym (take-append-drop long after.addrs.items) ∙ ap (λ (xs : List Addr). xs ++ drop long after.addrs.items) i.first in
    let among : Contains (before.addrs.items ++ drop long after.addrs.items) addr = subst (λ (xs : List Addr). Contains xs addr) split (i.all addr is) in
    let later : Contains (drop long after.addrs.items) addr = elim (Contains-append_cases before.addrs.items (drop long after.addrs.items) addr among) [
      | inl old ↦ absurd (new old)
      | inr later ↦ later
    ] in
    let first = first_of (drop long after.addrs.items) addr later in
    let asked : drop after.asked after.addrs.items ≡ first.0 ∷ first.1 = ap (λ (n : ℕ). drop n after.addrs.items) (i.asked ∙ spent.asked) ∙ first.2 in (
      first.0,
      first.1,
      asked,
      elim (i.only first.0 (next_among long after.addrs.items first.0 first.1 first.2)) [
        | inl old ↦ absurd (next_new long after.addrs.items first.0 first.1 (i.distinct spent.distinct) first.2 (subst (λ (xs : List Addr). Contains xs first.0) (sym i.first) old))
        | inr found ↦ found
      ],
    )
