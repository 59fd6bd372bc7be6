-- Turns of a search that are well made.
use Rattle.std.proofs.Common.{suc, ◌≡◌, ℕ, ◌+◌, ◌<◌, ◌≤◌, List, [], ◌∷◌, length, take, drop, get_or, false, None, Result, Ok, Err, IfOk, sym, ap, ◌∙◌, subst, refl, add-zero, arith}
use Rattle.std.specs.Global.{Box}
use Rattle.std.specs.List.{Contains}
use Rattle.std.proofs.lemmas.List.{take_all, length-drop, length-take, get_or-drop, get_or-take}
use Rattle.std.proofs.lemmas.List.Elements.{All-from_recursion, All-drop, All-same, All-head}
use Rattle.std.proofs.lemmas.Result.{IfOk-weaker}
use Rattle.dns_name.specs.Labels.{Labels}
use Rattle.dns_text.specs.declared.addr.Addr.{Addr}
use Rattle.dns_text.specs.declared.record.Question.{Question}
use Rattle.dns_query.specs.declared.over.Over.{Over}
use Rattle.dns_query.specs.declared.over.Over.TheVariants.{Udp}
use Rattle.dns_query.specs.Query.{IsQuery}
use Rattle.rand_core.specs.Stream.{Stream, next_u32}
use Rattle.history.specs.declared.event.Event.TheVariants.{Look}
use Rattle.history.specs.declared.servers.Servers.{Servers}
use Rattle.iterate.specs.declared.answer.Answer.TheVariants.{Reply as Replies}
use Rattle.iterate.specs.declared.path.Path.{Path}
use Rattle.iterate.specs.declared.phase.Phase.{Phase}
use Rattle.iterate.specs.declared.phase.Phase.TheVariants.{Seeking, Sent, Ended}
use Rattle.iterate.specs.declared.phase.Stage.{Stage}
use Rattle.iterate.specs.declared.phase.Stage.TheVariants as stage
use Rattle.iterate.specs.declared.phase.Advance.{Advance}
use Rattle.iterate.specs.declared.search.Nested.{Nested}
use Rattle.iterate.specs.declared.search.Hunt.{Hunt}
use Rattle.iterate.specs.declared.search.Search.{Search}
use Rattle.iterate.specs.declared.want.Want.{Want}
use Rattle.iterate.specs.declared.want.Want.TheVariants.{Book, Send, Finish}
use Rattle.iterate.specs.Exchanges.{Exchange}
use Rattle.iterate.specs.Hunting.{AreReferred, AsksOver, AsksOneOf, IsFresh, IsSmaller}
use Rattle.iterate.specs.Known.{Known, Serves, WasUnknown}
use Rattle.iterate.specs.Measure.{hunts_left, left_in, left_of_search, left_of_seek, left_of_sending}
use Rattle.iterate.specs.Phase.{Goes, IsSeeking, IsWaiting, ask_at, Drawing, idle}
use Rattle.iterate.specs.Resolved.{ResolvedAs, Fails, Exhausted}
use Rattle.iterate.specs.Searching.{IsPath, IsHunt, IsBase, AreFrames, IsSearch, IsNextServer, IsOrderly, Turn, turn_of, hunt_behind, hunt_of, question_behind, question_of}
use Rattle.iterate.specs.Wanted.{IsAskedFor, IsListedFor, MayCall, MayGo, id_drawn}
use Rattle.iterate.proofs.Falling.{few_is, less_than, less_twice, begun_falls, sending_falls, coming_falls, looks_fall, ended_falls, path_digits}
use Rattle.iterate.proofs.Growing.{last_asked, unknown_since, sought_as}
use Rattle.iterate.proofs.Once.{first_asked}
use Rattle.iterate.proofs.Arriving.{yet_since}
use Rattle.iterate.proofs.Hunts.{search_digits}
use Rattle.iterate.proofs.Lists.{none_within}
use Rattle.iterate.proofs.PathTurns.{less_left}

pub at_most : (n : ℕ) → n ≤ n
at_most n = omega arith

-- ---- it fails

-- A question behind a path fails.
pub failing : (port : ℕ) (question : Question) (log : List Exchange) (moment : ℕ) (id : Stream) (left : ℕ) (path : Path) → left_in Ended < left → IsPath port question log path → Fails port log path.last (length path.sets.items)
    → Goes port question log moment (idle id) left Ended (Finish (Replies 2 false [] None None))
failing port question log moment id left path some p fails =
    let there : Fails port log (record { owner = path.last.owner; kind = question.kind }) (length path.sets.items) =
    subst (λ (k : ℕ). Fails port log (record { owner = path.last.owner; kind = k }) (length path.sets.items)) p.kind fails in
    record {
      wants = ResolvedAs.failed {name = path.last.owner} {front = path.sets.items} p.began p.chain there;
      drawn = refl;
      fits = (_, refl, omega (arith, p.counted, p.few));
      falls = some;
    }

pub ended_search : {port : ℕ} {question : Question} {log : List Exchange} (search : Search) (looks : ℕ) → IsSearch port question log search → left_in Ended < left_of_search search looks
ended_search search looks s = ended_falls search.path 0 0 (hunts_left search) looks s.path.short

pub ended_seek : {port : ℕ} {question : Question} {log : List Exchange} (search : Search) (then : Stage) → IsSearch port question log search → left_in Ended < left_of_seek search then
ended_seek search stage.Address s = ended_search search 3 s
ended_seek search stage.Alias s = ended_falls search.path 0 2 0 0 s.path.short
ended_seek search stage.Servers s = ended_falls search.path 0 1 0 0 s.path.short

-- The search fails.
pub failing_search : (port : ℕ) (question : Question) (log : List Exchange) (moment : ℕ) (id : Stream) (looks : ℕ) (search : Search) → IsSearch port question log search → Fails port log search.path.last (length search.path.sets.items)
    → Goes port question log moment (idle id) (left_of_search search looks) Ended (Finish (Replies 2 false [] None None))
failing_search port question log moment id looks search s fails = failing port question log moment id (left_of_search search looks) search.path (ended_search search looks s) s.path fails

-- Enough queries were sent.
pub spent : (port : ℕ) (question : Question) (log : List Exchange) (moment : ℕ) (id : Stream) (looks : ℕ) (search : Search) → IsSearch port question log search → 64 ≤ search.path.sent
    → Goes port question log moment (idle id) (left_of_search search looks) Ended (Finish (Replies 2 false [] None None))
spent port question log moment id looks search s enough =
    failing_search port question log moment id looks search s (Fails.spent (omega (arith, s.path.counted, s.path.few)))

-- No server is left.
pub exhausted : {port : ℕ} {question : Question} {log : List Exchange} (search : Search) → IsSearch port question log search → search.frames.items ≡ []
    → length (hunt_of search).addrs.items ≤ (hunt_of search).asked → length (hunt_of search).servers.missing ≤ (hunt_of search).sought → Exhausted port log search.path.last
exhausted {port} {question} {log} search s none asked sought =
    let base : hunt_of search ≡ search.base = ap (λ (fs : List Nested). hunt_behind fs search.base) none in
    let all_asked : length search.base.addrs.items ≤ search.base.asked = subst (λ (h : Hunt). length h.addrs.items ≤ h.asked) base asked in
    let all_sought : length search.base.servers.missing ≤ search.base.sought = subst (λ (h : Hunt). length h.servers.missing ≤ h.sought) base sought in
    record {
      unknown = s.base.unknown;
      servers = search.base.servers;
      since = s.since;
      reached = s.base.reached;
      vain = λ server is. s.base.vain server (subst (λ (xs : List Addr). Contains xs server) (sym (take_all search.base.asked search.base.addrs.items all_asked)) (s.base.all server is));
      sought = λ target may. sought_as (λ addr is. s.base.vain addr (subst (λ (xs : List Addr). Contains xs addr) (sym (take_all search.base.asked search.base.addrs.items all_asked)) is))
          (s.base.sought target (subst (λ (xs : List Labels). Contains xs target) (sym (take_all search.base.sought search.base.servers.missing all_sought)) may.among) may);
    }

pub giving_up : (port : ℕ) (question : Question) (log : List Exchange) (moment : ℕ) (id : Stream) (looks : ℕ) (search : Search) → IsSearch port question log search → search.frames.items ≡ []
    → length (hunt_of search).addrs.items ≤ (hunt_of search).asked → length (hunt_of search).servers.missing ≤ (hunt_of search).sought
    → Goes port question log moment (idle id) (left_of_search search looks) Ended (Finish (Replies 2 false [] None None))
giving_up port question log moment id looks search s none asked sought =
    failing_search port question log moment id looks search s (Fails.exhausted (exhausted search s none asked sought))

-- as much is left
pub left_same : {E : Type 0} (port : ℕ) (question : Question) (log : List Exchange) (moment : ℕ) (id : Drawing) {left more : ℕ} (r : Result Advance E) → left ≡ more
    → IfOk r (λ t. Goes port question log moment id left t.phase t.want) → IfOk r (λ t. Goes port question log moment id more t.phase t.want)
left_same port question log moment id r same g = subst (λ (n : ℕ). IfOk r (λ t. Goes port question log moment id n t.phase t.want)) same g

-- ---- a server is asked

hunt_known : (port : ℕ) (log since : List Exchange) (fs : List Nested) (base : Hunt) (last : Question) → IsHunt port log last.owner base → AreFrames port log since base fs
    → IsHunt port log (question_behind fs last).owner (hunt_behind fs base)
hunt_known port log since [] base last h all = h
hunt_known port log since (f ∷ fs) base last h all = all.0.hunt

-- what is known of the innermost question
pub innermost_hunt : {port : ℕ} {question : Question} {log : List Exchange} (search : Search) → IsSearch port question log search → IsHunt port log (question_of search).owner (hunt_of search)
innermost_hunt {port} {question} {log} search s = hunt_known port log s.since search.frames.items search.base search.path.last s.base.is_hunt s.frames

unknown_behind : (port : ℕ) (log since : List Exchange) (fs : List Nested) (base : Hunt) (last : Question) → IsBase port log last since base → AreFrames port log since base fs → WasUnknown log (question_behind fs last)
unknown_behind port log since [] base last b all = b.unknown
unknown_behind port log since (f ∷ fs) base last b all = unknown_since b.reached all.0.unknown

-- ---- what is asked

-- The next server is among the first of its list.
early_within : (n : ℕ) (xs : List Labels) (x : Labels) (rest : List Labels) → drop n xs ≡ x ∷ rest → n < 5 → Contains (take 5 xs) x
early_within n xs x rest next early =
    let left : length (drop n xs) ≡ suc (length rest) = ap (λ (ys : List Labels). length ys) next in
    let within : n < length xs = omega (arith, left, length-drop n xs) in
    let short : n < length (take 5 xs) = omega (arith, length-take 5 xs, within, early) in
    let first : get_or (drop n xs) 0 x ≡ x = ap (λ (ys : List Labels). get_or ys 0 x) next in
    let at : get_or xs n x ≡ x = ap (λ (i : ℕ). get_or xs i x) (sym (add-zero n)) ∙ sym (get_or-drop n xs 0 x) ∙ first in
    (n, short, get_or-take 5 xs n x early ∙ at)

asked_behind : (port : ℕ) (question : Question) (log since : List Exchange) (fs : List Nested) (base : Hunt) (path : Path) → IsPath port question log path → IsHunt port log path.last.owner base
    → AreFrames port log since base fs → IsAskedFor port log question (question_behind fs path.last)
asked_behind port question log since [] base path p h all = last_asked p
asked_behind port question log since (f ∷ fs) base path p h all =
    let behind = hunt_known port log since fs base path.last h all.1 in
    IsAskedFor.of_server behind.listed (early_within (hunt_behind fs base).sought (hunt_behind fs base).servers.missing f.target all.0.next.rest all.0.next.next all.0.early)

-- The innermost question may be asked.
asked_innermost : {port : ℕ} {question : Question} {log : List Exchange} (search : Search) → IsSearch port question log search → IsAskedFor port log question (question_of search)
asked_innermost {port} {question} {log} search s = asked_behind port question log s.since search.frames.items search.base search.path s.path s.base.is_hunt s.frames

-- A look did not find the innermost question.
pub unknown_innermost : {port : ℕ} {question : Question} {log : List Exchange} (search : Search) → IsSearch port question log search → WasUnknown log (question_of search)
unknown_innermost {port} {question} {log} search s = unknown_behind port log s.since search.frames.items search.base search.path.last s.base s.frames

pub sending : (port : ℕ) (question : Question) (log : List Exchange) (moment : ℕ) (id : Drawing) (left : ℕ) (search : Search) (server : Addr) (over : Over) (bytes : List ℕ) (rest : List Addr)
    → IsSearch port question log search → search.path.sent < 64 → drop (hunt_of search).asked (hunt_of search).addrs.items ≡ server ∷ rest → MayGo log server (question_of search) over → left_of_sending search.path < left
    → IsOrderly port log search (turn_of over) → (drawn : ℕ) → id_drawn id.before ≡ drawn → id.after ≡ (next_u32 id.before).1 → IsQuery bytes drawn (question_of search)
    → (kept : Box Search) → kept.value ≡ search → Goes port question log moment id left (Sent kept server drawn over) (Send server over bytes)
sending port question log moment id left search server over bytes rest s few next goes less orderly drawn same behind query kept is =
    let hunt = innermost_hunt search s in
    let P : Addr → Type 0 = λ addr. Known port log (Serves (hunt_of search).servers.zone addr) in
    let all = All-drop P (hunt_of search).asked (hunt_of search).addrs.items (All-from_recursion P (hunt_of search).addrs.items hunt.serve) in
    record {
      wants = record {
        question = question_of search;
        asked = asked_innermost search s;
        zone = (hunt_of search).servers.zone;
        query = subst (λ (n : ℕ). IsQuery bytes n (question_of search)) (sym same) query;
        unknown = unknown_innermost search s;
        serves = All-head P server rest (All-same P (server ∷ rest) (drop (hunt_of search).asked (hunt_of search).addrs.items) (sym next) all);
        within = hunt.zone;
        goes = goes;
        once = first_asked search.base search.path.last search.frames.items server rest over next orderly;
      };
      drawn = behind;
      fits = subst (λ (x : Search). IsWaiting port question log (Send server over bytes) x server drawn over) (sym is)
          (record { is_search = s; some = few; rest = rest; next = next; bytes = bytes; wanted = refl; query = query; orderly = orderly });
      falls = subst (λ (x : Search). left_of_sending x.path < left) (sym is) less;
    }

-- less is left where a query is out than where a search goes on
pub sending_less : {port : ℕ} {question : Question} {log : List Exchange} (search : Search) (looks : ℕ) → IsSearch port question log search → search.path.sent < 64 → left_of_sending search.path < left_of_search search looks
sending_less search looks s few =
    sending_falls search.path search.path 1 0 2 0 0 (hunts_left search) 0 looks refl (omega (arith, few)) (path_digits search.path 1 2 0 0 (omega arith) (omega arith) (omega arith))

-- ---- a server is looked for

-- Each of these looks may be wanted.
may_look : (port : ℕ) (question : Question) (log : List Exchange) (moment : ℕ) (search : Search) (target : Labels) (then : Stage) → IsSeeking port question log search target then
    → MayCall port question log moment (Look moment (ask_at then target))
may_look port question log moment search target stage.Address s = refl
may_look port question log moment search target stage.Alias s = refl
may_look port question log moment search target stage.Servers s = (
  refl,
  IsListedFor.of_server (innermost_hunt search s.is_search).listed (early_within (hunt_of search).sought (hunt_of search).servers.missing target s.next.rest s.next.next s.early)
      (yet_since s.is_search.base.reached s.unknown),
)

pub seeking : (port : ℕ) (question : Question) (log : List Exchange) (moment : ℕ) (id : Stream) (left : ℕ) (search : Search) (target : Labels) (then : Stage) → IsSeeking port question log search target then
    → left_of_seek search then < left → (kept : Box Search) → kept.value ≡ search → Goes port question log moment (idle id) left (Seeking kept target then) (Book (Look moment (ask_at then target)))
seeking port question log moment id left search target then s less kept is = record {
  wants = may_look port question log moment search target then s;
  drawn = refl;
  fits = (subst (λ (x : Search). IsSeeking port question log x target then) (sym is) s, record { moment = moment; wanted = refl });
  falls = subst (λ (x : Search). left_of_seek x then < left) (sym is) less;
}

-- ---- a search goes on

pub from_more_ok : {E : Type 0} (port : ℕ) (question : Question) (log : List Exchange) (moment : ℕ) {ids id : Drawing} {left more : ℕ} (r : Result Advance E) → ids ≡ id → left ≤ more
    → IfOk r (λ t. Goes port question log moment ids left t.phase t.want) → IfOk r (λ t. Goes port question log moment id more t.phase t.want)
from_more_ok {E} port question log moment {ids} {id} {left} {more} (Ok t) same h g = subst (λ (d : Drawing). Goes port question log moment d more t.phase t.want) same (less_left h g)
from_more_ok port question log moment (Err e) same h g = tt

-- one look less is left
pub looks_less : {port : ℕ} {question : Question} {log : List Exchange} (search : Search) (few many : ℕ) → few ≤ 4 → few < many → IsSearch port question log search → left_of_search search few < left_of_search search many
looks_less search few many small less s = looks_fall search.path search.path 0 0 0 (hunts_left search) few many refl refl refl less (search_digits search few small s)

pub address_less : {port : ℕ} {question : Question} {log : List Exchange} (search : Search) (more : ℕ) → IsSearch port question log search → left_of_search search 4 ≤ more → left_of_search search 3 < more
address_less search more s h = less_than (looks_less search 3 4 (omega arith) (omega arith) s) h

pub smaller_stays : {port : ℕ} {question : Question} {log : List Exchange} (before after : Search) (more : ℕ) → IsSearch port question log before → IsSmaller port question log (left_of_search before 0) after
    → left_of_search before 4 ≤ more → IsSearch port question log after × (left_of_search after 4 ≤ more) × IsOrderly port log after Turn.unasked
smaller_stays before after more s k h = (k.is_search, few_is (less_than (less_than k.falls (few_is (looks_less before 0 4 (omega arith) (omega arith) s))) h), k.orderly)

pub smaller_goes : {port : ℕ} {question : Question} {log : List Exchange} (before after : Search) (looks : ℕ) → 0 < looks → IsSearch port question log before → IsSmaller port question log (left_of_search before 0) after
    → left_of_search after 4 ≤ left_of_search before looks
smaller_goes before after looks some s k = less_twice k.falls (looks_less before 0 looks (omega arith) some s)

-- ---- a question for the address of a server is begun

-- less is left where one was begun
pub begun_less : {port : ℕ} {question : Question} {log : List Exchange} (before after : Search) → before.path.begun < 64 → after ≡ record before { path = record before.path { begun = before.path.begun + 1 } }
    → IsSearch port question log before → left_of_seek after stage.Alias < left_of_search before 3
begun_less before after some same s =
    let one : after.path.begun ≡ before.path.begun + 1 = ap (λ (x : Search). x.path.begun) same in
    begun_falls after.path before.path 0 0 2 0 0 (hunts_left before) 0 3 (omega (arith, one, some)) (path_digits after.path 0 2 0 0 (omega arith) (omega arith) (omega arith))

-- its servers are looked for behind an alias of its name
pub servers_less : {port : ℕ} {question : Question} {log : List Exchange} (search : Search) → IsSearch port question log search → left_of_seek search stage.Servers < left_of_seek search stage.Alias
servers_less search s = coming_falls search.path search.path 0 0 1 2 0 0 0 0 refl refl refl (omega arith) (path_digits search.path 0 1 0 0 (omega arith) (omega arith) (omega arith))

-- it is given up
pub alias_goes : {port : ℕ} {question : Question} {log : List Exchange} (before after : Search) → IsSearch port question log before → IsSmaller port question log (left_of_search before 0) after
    → left_of_search after 4 ≤ left_of_seek before stage.Alias
alias_goes before after s k = less_twice k.falls (coming_falls before.path before.path 0 0 0 2 (hunts_left before) 0 0 0 refl refl refl (omega arith) (search_digits before 0 (omega arith) s))

pub goes_on : {port : ℕ} {question : Question} {log : List Exchange} (after : Search) (more : ℕ) → IsSmaller port question log more after → left_of_search after 4 ≤ more
goes_on after more k = few_is k.falls

-- ---- the server that is asked

pub same_first : {server other : Addr} {rest others : List Addr} → server ∷ rest ≡ other ∷ others → server ≡ other
same_first {server} e = ap (λ (xs : List Addr). get_or xs 0 server) e

-- The server that is asked is this one.
pub asks_same : {E : Type 0} {server other : Addr} (over : Over) (r : Result Advance E) → server ≡ other → IfOk r (λ t. AsksOver server over t.want) → IfOk r (λ t. AsksOver other over t.want)
asks_same over r same h = subst (λ (a : Addr). IfOk r (λ t. AsksOver a over t.want)) same h

-- One of the servers that were just reached is asked.
one_asked : {E : Type 0} (given xs : List Addr) (r : Result Advance E) → ((addr : Addr) → Contains given addr → Contains xs addr) → ((addr : Addr) → Contains xs addr → Contains given addr)
    → ((server : Addr) (rest : List Addr) → xs ≡ server ∷ rest → IfOk r (λ t. AsksOver server Udp t.want)) → IfOk r (λ t. AsksOneOf given t.want)
one_asked [] xs (Ok t) all only asks = tt
one_asked [] xs (Err e) all only asks = tt
one_asked (addr ∷ addrs) [] r all only asks = absurd (none_within [] addr refl (all addr (0, omega arith, refl)))
one_asked (addr ∷ addrs) (x ∷ xs) r all only asks = IfOk-weaker r _ _ (λ t asked. (x, only x (0, omega arith, refl), asked)) (asks x xs refl)

pub asks_fresh : {E : Type 0} (list : Servers) (search : Search) (r : Result Advance E) → IsFresh list (hunt_of search)
    → ((server : Addr) (rest : List Addr) → IsNextServer search server rest → IfOk r (λ t. AsksOver server Udp t.want)) → IfOk r (λ t. AsksOneOf list.addrs t.want)
asks_fresh list search r f asks =
    one_asked list.addrs (hunt_of search).addrs.items r f.all f.only
    (λ server rest is. asks server rest (ap (λ (n : ℕ). drop n (hunt_of search).addrs.items) f.asked ∙ is))

pub referred_hunt : (fs gs : List Nested) (list : Servers) (base : Hunt) → AreReferred fs list gs → IsFresh list (hunt_behind gs base)
referred_hunt [] gs list base r = absurd r
referred_hunt (f ∷ fs) [] list base r = absurd r
referred_hunt (f ∷ fs) (g ∷ gs) list base r = r.1
