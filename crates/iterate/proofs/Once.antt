-- No two queries of a search are alike since its servers were reached.
use Rattle.std.proofs.Common.{suc, ◌≡◌, ℕ, ◌+◌, ◌≤◌, ◌⊎◌, true, false, List, [], ◌∷◌, ◌++◌, length, take, drop, sym, ap, ◌∙◌, subst, refl, inl, inr, arith}
use Rattle.std.specs.List.{Contains}
use Rattle.std.proofs.lemmas.List.{take-append-drop}
use Rattle.std.proofs.lemmas.List.Elements.{Contains-append_left, Contains-append_right, Contains-push, Contains-push_cases}
use Rattle.std.proofs.Math.Seq.{drop-cons}
use Rattle.dns_name.specs.Labels.{Labels}
use Rattle.dns_text.specs.declared.addr.Addr.{Addr}
use Rattle.dns_text.specs.declared.record.Question.{Question}
use Rattle.dns_wire.specs.declared.message.Classed.{Classed}
use Rattle.dns_wire.specs.declared.message.Message.{Message}
use Rattle.dns_wire.specs.Read.Decoding.{SpelledOnce}
use Rattle.dns_query.specs.declared.over.Over.{Over}
use Rattle.dns_query.specs.declared.over.Over.TheVariants.{Udp, Tcp}
use Rattle.dns_query.specs.Query.{IsQuery, query_message, address_question}
use Rattle.history.specs.declared.servers.Servers.{Servers}
use Rattle.iterate.specs.declared.search.Nested.{Nested}
use Rattle.iterate.specs.declared.search.Hunt.{Hunt}
use Rattle.iterate.specs.declared.want.Input.{Input}
use Rattle.iterate.specs.declared.want.Want.{Want}
use Rattle.iterate.specs.declared.want.Want.TheVariants.{Book, Send, Finish}
use Rattle.iterate.specs.Exchanges.{Exchange, exchange, Adds, Happened, is_send}
use Rattle.iterate.specs.Hunting.{AllServe, IsReached, IsFresh, IsSupplied, AreSupplied, one_vain}
use Rattle.iterate.specs.Known.{Known}
use Rattle.iterate.specs.Resolved.{IsOneOf, ReachedFor}
use Rattle.iterate.specs.Searching.{Turn, WasAsked, turn_of, AsksOnce, IsOther, AllAskOnce, hunt_behind, question_behind}
use Rattle.iterate.specs.Wanted.{IsFirstAsk}
use Rattle.iterate.proofs.Growing.{reached_more}
use Rattle.iterate.proofs.Lists.{of_all, take_first, take_next, next_among, next_new}

-- ---- what happened

happened_among : {log : List Exchange} {x : Exchange} → Happened log x → Contains log x
happened_among {log} {x} h = subst (λ (l : List Exchange). Contains l x) (sym h.split) (Contains-append_right h.before (x ∷ h.after) x (0, omega arith, refl))

among_happened : {log : List Exchange} {x : Exchange} → Contains log x → Happened log x
among_happened {log} {x} c = record {
  before = take c.0 log;
  after = drop (suc c.0) log;
  split = sym (take-append-drop c.0 log) ∙ ap (λ (xs : List Exchange). take c.0 log ++ xs) (drop-cons log c.0 x c.1 ∙ ap (λ (y : Exchange). y ∷ drop (suc c.0) log) c.2);
}

happened_cases : (since : List Exchange) (y x : Exchange) → Happened (since ++ y ∷ []) x → Happened since x ⊎ (y ≡ x)
happened_cases since y x h = elim (Contains-push_cases since y x (happened_among h)) [
  | inl earlier ↦ inl (among_happened earlier)
  | inr this ↦ inr this
]

-- Nothing happened before anything did.
pub nothing_sent : (x : Exchange) → Happened [] x → is_send x ≡ false
nothing_sent x h = let c = happened_among h in absurd (omega (arith, c.1))

pub quiet_more : (since : List Exchange) (y : Exchange) → ((x : Exchange) → Happened since x → is_send x ≡ false) → is_send y ≡ false
    → (x : Exchange) → Happened (since ++ y ∷ []) x → is_send x ≡ false
quiet_more since y quiet is x h = elim (happened_cases since y x h) [
  | inl earlier ↦ quiet x earlier
  | inr this ↦ subst (λ (z : Exchange). is_send z ≡ false) this is
]

-- ---- what a query asks

abbrev asked_in : Question → List (Classed Question) → Question
asked_in question [] = question
asked_in question (q ∷ questions) = q.item

-- Octets are the query for one question.
same_question : SpelledOnce → (bytes : List ℕ) (id other : ℕ) (question asked : Question) → IsQuery bytes id question → IsQuery bytes other asked → question ≡ asked
same_question once bytes id other question asked h k =
    ap (λ (m : Message). asked_in question m.questions) (once bytes (query_message id question) (query_message other asked) h k)

-- the parts of a query
abbrev bytes_of : Want → List ℕ
bytes_of (Send server over bytes) = bytes
bytes_of (Book event) = []
bytes_of (Finish answer) = []

abbrev server_of : Addr → Want → Addr
server_of other (Send server over bytes) = server
server_of other (Book event) = other
server_of other (Finish answer) = other

abbrev over_of : Over → Want → Over
over_of other (Send server over bytes) = over
over_of other (Book event) = other
over_of other (Finish answer) = other

-- ---- one exchange more

one_more : {port : ℕ} {log after : List Exchange} {y : Exchange} {servers : Servers} {addr : Addr} → Adds log y after → IsOneOf port log servers addr → IsOneOf port after servers addr
one_more a (IsOneOf.given is) = IsOneOf.given is
one_more a (IsOneOf.found among had told) = IsOneOf.found among (Known.kept a had) told

-- The exchange is no query for the question, or one to the next server.
abbrev IsHere : Exchange → Question → Hunt → Turn → Type 0
IsHere y question hunt next = (server : Addr) (over : Over) (bytes : List ℕ) (id : ℕ) (input : Input) → y ≡ exchange (Send server over bytes) input → IsQuery bytes id question
    → Contains (take (hunt.asked + 1) hunt.addrs.items) server × WasAsked next over

once_more : {port : ℕ} {log after : List Exchange} {y : Exchange} {question : Question} {hunt : Hunt} {turn : Turn} (next : Turn) → Adds log y after → ((over : Over) → WasAsked turn over → WasAsked next over)
    → IsHere y question hunt next → AsksOnce port log question hunt turn → AsksOnce port after question hunt next
once_more {y = y} next a grows here o = record {
  since = o.since ++ y ∷ [];
  reached = reached_more o.reached a;
  distinct = o.distinct;
  members = λ addr is. one_more a (o.members addr is);
  asked = λ server over bytes id input h query. elim (happened_cases o.since y (exchange (Send server over bytes) input) h) [
    | inl earlier ↦ elim (o.asked server over bytes id input earlier query) [
      | inl vain ↦ inl vain
      | inr now ↦ inr (now.0, grows over now.1)
    ]
    | inr this ↦ inr (here server over bytes id input this query)
  ];
}

never_sent : {y : Exchange} (question : Question) (hunt : Hunt) (next : Turn) → is_send y ≡ false → IsHere y question hunt next
never_sent {y} question hunt next is = λ server over bytes id input this query.
    let sent : is_send y ≡ true = ap is_send this in
    let e : ⊥ = cc in absurd e

-- With an exchange that is no query.
pub all_looked : (port : ℕ) {log after : List Exchange} {y : Exchange} (base : Hunt) (last : Question) (turn : Turn) (frames : List Nested) → Adds log y after → is_send y ≡ false
    → AllAskOnce port log base last turn frames → AllAskOnce port after base last turn frames
all_looked port base last turn [] a is all = once_more turn a (λ over w. w) (never_sent last base turn is) all
all_looked port base last turn (f ∷ fs) a is all =
    (once_more turn a (λ over w. w) (never_sent (address_question f.target) f.hunt turn is) all.0, all.1, all_looked port base last Turn.unasked fs a is all.2)

-- With a query for another question.
other_sent : SpelledOnce → (server : Addr) (over : Over) (bytes : List ℕ) (id : ℕ) (input : Input) (asked question : Question) (hunt : Hunt) (next : Turn) → IsQuery bytes id asked → (asked ≡ question → ⊥)
    → IsHere (exchange (Send server over bytes) input) question hunt next
other_sent once server over bytes id input asked question hunt next query other = λ s o b i n this k.
    let same : bytes ≡ b = ap (λ (x : Exchange). bytes_of x.want) this in
    absurd (other (same_question once b id i asked question (subst (λ (xs : List ℕ). IsQuery xs id asked) same query) k))

others_sent : SpelledOnce → (port : ℕ) {log after : List Exchange} (server : Addr) (over : Over) (bytes : List ℕ) (id : ℕ) (input : Input) (asked : Question) (base : Hunt) (last : Question) (frames : List Nested)
    → Adds log (exchange (Send server over bytes) input) after → IsQuery bytes id asked → IsOther asked frames last
    → AllAskOnce port log base last Turn.unasked frames → AllAskOnce port after base last Turn.unasked frames
others_sent once port server over bytes id input asked base last [] a query other all =
    once_more Turn.unasked a (λ o w. w) (other_sent once server over bytes id input asked last base Turn.unasked query other) all
others_sent once port server over bytes id input asked base last (f ∷ fs) a query other all = (
  once_more Turn.unasked a (λ o w. w) (other_sent once server over bytes id input asked (address_question f.target) f.hunt Turn.unasked query other.0) all.0,
  all.1,
  others_sent once port server over bytes id input asked base last fs a query other.1 all.2,
)

-- With a query to the next server.
next_sent : (server : Addr) (over : Over) (bytes : List ℕ) (input : Input) (question : Question) (hunt : Hunt) (rest : List Addr) (next : Turn) → drop hunt.asked hunt.addrs.items ≡ server ∷ rest → WasAsked next over
    → IsHere (exchange (Send server over bytes) input) question hunt next
next_sent server over bytes input question hunt rest next is was = λ s o b i n this k.
    let to : server ≡ s = ap (λ (x : Exchange). server_of server x.want) this in
    let by : over ≡ o = ap (λ (x : Exchange). over_of over x.want) this in
    let taken = take_next hunt.asked hunt.addrs.items server rest is in (
      subst (λ (a : Addr). Contains (take (hunt.asked + 1) hunt.addrs.items) a) to (subst (λ (xs : List Addr). Contains xs server) (sym taken) (Contains-push (take hunt.asked hunt.addrs.items) server)),
      subst (λ (t : Over). WasAsked next t) by was,
    )

-- The innermost question asks its next server.
pub all_sent : SpelledOnce → (port : ℕ) {log after : List Exchange} (server : Addr) (over : Over) (bytes : List ℕ) (id : ℕ) (input : Input) (rest : List Addr) (turn next : Turn) (base : Hunt) (last : Question) (frames : List Nested)
    → Adds log (exchange (Send server over bytes) input) after → IsQuery bytes id (question_behind frames last) → drop (hunt_behind frames base).asked (hunt_behind frames base).addrs.items ≡ server ∷ rest
    → ((o : Over) → WasAsked turn o → WasAsked next o) → WasAsked next over → AllAskOnce port log base last turn frames → AllAskOnce port after base last next frames
all_sent once port server over bytes id input rest turn next base last [] a query is grows was all =
    once_more next a grows (next_sent server over bytes input last base rest next is was) all
all_sent once port server over bytes id input rest turn next base last (f ∷ fs) a query is grows was all = (
  once_more next a grows (next_sent server over bytes input (address_question f.target) f.hunt rest next is was) all.0,
  all.1,
  others_sent once port server over bytes id input (address_question f.target) base last fs a query all.1 all.2,
)

-- ---- a server is done with

once_struck : {port : ℕ} {log : List Exchange} {question : Question} {server : Addr} {rest : List Addr} (hunt : Hunt) → drop hunt.asked hunt.addrs.items ≡ server ∷ rest → AsksOnce port log question hunt Turn.heard
    → AsksOnce port log question (one_vain hunt) Turn.unasked
once_struck {server = server} {rest = rest} hunt next o = record {
  since = o.since;
  reached = o.reached;
  distinct = o.distinct;
  members = o.members;
  asked = λ s over bytes id input h query. elim (o.asked s over bytes id input h query) [
    | inl vain ↦ inl (subst (λ (xs : List Addr). Contains xs s) (sym (take_next hunt.asked hunt.addrs.items server rest next)) (Contains-append_left (take hunt.asked hunt.addrs.items) (server ∷ []) s vain))
    | inr now ↦ inl now.0
  ];
}

-- where the last question itself is asked
pub struck_last : (port : ℕ) (log : List Exchange) (last : Question) {server : Addr} {rest : List Addr} (frames : List Nested) (base hunt : Hunt) → frames ≡ []
    → hunt ≡ one_vain base → drop (hunt_behind frames base).asked (hunt_behind frames base).addrs.items ≡ server ∷ rest
    → AllAskOnce port log base last Turn.heard frames → AllAskOnce port log hunt last Turn.unasked frames
struck_last port log last [] base hunt none same next all = subst (λ (h : Hunt). AsksOnce port log last h Turn.unasked) (sym same) (once_struck base next all)
struck_last port log last (f ∷ fs) base hunt none same next all = let e : ⊥ = cc in absurd e

-- where a question inside it is asked
pub struck_first : (port : ℕ) (log : List Exchange) (last : Question) {server : Addr} {rest : List Addr} (base : Hunt) (frame : Nested) (frames : List Nested)
    → drop frame.hunt.asked frame.hunt.addrs.items ≡ server ∷ rest → AllAskOnce port log base last Turn.heard (frame ∷ frames)
    → AllAskOnce port log base last Turn.unasked (record frame { hunt = one_vain frame.hunt } ∷ frames)
struck_first port log last base frame frames next all = (once_struck frame.hunt next all.0, all.1, all.2)

-- ---- servers are reached

pub once_fresh : {port : ℕ} {log since : List Exchange} {question : Question} {list : Servers} (hunt : Hunt) → IsReached port log question since list → IsFresh list hunt → AsksOnce port log question hunt Turn.unasked
once_fresh {port} {log} {since} {question} {list} hunt r f = record {
  since = since;
  reached = subst (λ (s : Servers). ReachedFor port log question s since) (sym f.servers) r.reached;
  distinct = f.distinct;
  members = λ addr is. subst (λ (s : Servers). IsOneOf port log s addr) (sym f.servers) (IsOneOf.given (f.only addr is));
  asked = λ server over bytes id input h query. let sent : is_send (exchange (Send server over bytes) input) ≡ false = r.quiet _ h in let e : ⊥ = cc in absurd e;
}

-- ---- addresses are joined

once_supplied : (port : ℕ) (log : List Exchange) (question : Question) (before : Hunt) (found : List Addr) (after : Hunt) → before.asked ≤ length before.addrs.items → AllServe port log before.servers found
    → IsSupplied before found after → AsksOnce port log question before Turn.unasked → AsksOnce port log question after Turn.unasked
once_supplied port log question before found after some serve i o =
    let same = sym i.servers in
    let taken : take after.asked after.addrs.items ≡ take before.asked before.addrs.items =
    ap (λ (k : ℕ). take k after.addrs.items) i.asked ∙ take_first before.asked (length before.addrs.items) after.addrs.items before.addrs.items i.first some some in
    record {
      since = o.since;
      reached = subst (λ (s : Servers). ReachedFor port log question s o.since) same o.reached;
      distinct = i.distinct o.distinct;
      members = λ addr is. subst (λ (s : Servers). IsOneOf port log s addr) same (elim (i.only addr is) [
        | inl old ↦ o.members addr old
        | inr new ↦ of_all (IsOneOf port log before.servers) found addr serve new
      ]);
      asked = λ server over bytes id input h query. elim (o.asked server over bytes id input h query) [
        | inl vain ↦ inl (subst (λ (xs : List Addr). Contains xs server) (sym taken) vain)
        | inr now ↦ absurd now.1
      ];
    }

pub all_supplied : (port : ℕ) (log : List Exchange) (last : Question) (fs gs : List Nested) (base next : Hunt) (found : List Addr) → (hunt_behind fs base).asked ≤ length (hunt_behind fs base).addrs.items
    → AllServe port log (hunt_behind fs base).servers found → AreSupplied fs base found gs next → AllAskOnce port log base last Turn.unasked fs → AllAskOnce port log next last Turn.unasked gs
all_supplied port log last [] [] base next found some serve i all = once_supplied port log last base found next some serve i all
all_supplied port log last [] (g ∷ gs) base next found some serve i all = absurd i
all_supplied port log last (f ∷ fs) [] base next found some serve i all = absurd i
all_supplied port log last (f ∷ fs) (g ∷ gs) base next found some serve i all =
    let frame = once_supplied port log (address_question f.target) f.hunt found g.hunt some serve i.1 all.0 in
    let target : (t : Labels) → t ≡ f.target → AsksOnce port log (address_question t) g.hunt Turn.unasked × IsOther (address_question t) fs last =
    λ t is. subst (λ (n : Labels). AsksOnce port log (address_question n) g.hunt Turn.unasked × IsOther (address_question n) fs last) (sym is) (frame, all.1) in
    let here = target g.target i.0 in
    subst (λ (h : Hunt). AllAskOnce port log h last Turn.unasked (g ∷ gs)) (sym i.3)
    (subst (λ (xs : List Nested). AllAskOnce port log base last Turn.unasked (g ∷ xs)) (sym i.2) (here.0, here.1, all.2))

-- ---- a server is asked

innermost_once : (port : ℕ) (log : List Exchange) (base : Hunt) (last : Question) (turn : Turn) (frames : List Nested) → AllAskOnce port log base last turn frames
    → AsksOnce port log (question_behind frames last) (hunt_behind frames base) turn
innermost_once port log base last turn [] all = all
innermost_once port log base last turn (f ∷ fs) all = all.0

not_yet : (over : Over) → WasAsked (turn_of over) over → ⊥
not_yet Udp was = was
not_yet Tcp was = was

-- The next server was not asked this over this transport.
pub first_asked : {port : ℕ} {log : List Exchange} (base : Hunt) (last : Question) (frames : List Nested) (server : Addr) (rest : List Addr) (over : Over)
    → drop (hunt_behind frames base).asked (hunt_behind frames base).addrs.items ≡ server ∷ rest → AllAskOnce port log base last (turn_of over) frames
    → IsFirstAsk port log (question_behind frames last) server over
first_asked {port} {log} base last frames server rest over next all =
    let hunt = hunt_behind frames base in
    let o = innermost_once port log base last (turn_of over) frames all in
    record {
      servers = hunt.servers;
      since = o.since;
      reached = o.reached;
      among = o.members server (next_among hunt.asked hunt.addrs.items server rest next);
      first = λ bytes id input h query. elim (o.asked server over bytes id input h query) [
        | inl vain ↦ next_new hunt.asked hunt.addrs.items server rest o.distinct next vain
        | inr now ↦ not_yet over now.1
      ];
    }
