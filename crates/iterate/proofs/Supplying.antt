-- Servers are reached, and servers without an address are done with.
use Rattle.std.proofs.Common.{◌≡◌, ℕ, ◌+◌, ◌-◌, ◌^◌, ◌<◌, ◌≤◌, ◌⊎◌, List, [], ◌∷◌, ◌++◌, length, take, drop, get_or, sym, ap, ◌∙◌, subst, refl, inl, inr, arith}
use Rattle.std.specs.List.{Contains}
use Rattle.std.proofs.lemmas.List.{length-take, take_all}
use Rattle.std.proofs.lemmas.List.Elements.{Contains-append_left, Contains-push, Contains-push_cases}
use Rattle.dns_name.specs.Labels.{Labels, IsAtOrBelow}
use Rattle.dns_text.specs.declared.addr.Addr.{Addr}
use Rattle.dns_text.specs.declared.record.Question.{Question}
use Rattle.history.specs.declared.servers.Servers.{Servers}
use Rattle.dns_text.specs.declared.types.TheConstants as number
use Rattle.dns_query.specs.Query.{address_question}
use Rattle.iterate.specs.declared.path.Path.{Path}
use Rattle.iterate.specs.declared.phase.Stage.TheVariants as stage
use Rattle.iterate.specs.declared.search.Nested.{Nested}
use Rattle.iterate.specs.declared.search.Hunt.{Hunt}
use Rattle.iterate.specs.declared.search.Search.{Search}
use Rattle.iterate.specs.Exchanges.{Exchange}
use Rattle.iterate.specs.Joining.{Joins}
use Rattle.iterate.specs.Hunting.{AllServe, AreReferred, IsReached, IsFresh, IsSupplied, AreSupplied, IsTried, IsSmaller}
use Rattle.iterate.specs.Known.{Known, Listed, Serves, WasUnknown}
use Rattle.iterate.specs.Measure.{top, missing_left, frames_left, hunts_left, left_of_path, left_of_search, left_of_seek, left_of_hearing}
use Rattle.iterate.specs.Resolved.{IsOneOf, ReachedFor, Struck, MaySeek, Sought}
use Rattle.iterate.specs.Searching.{AreDistinct, IsPath, IsAskable, IsHunt, IsNext, IsBase, IsFrame, AreFrames, IsSearch, IsOrderly, IsOther, Turn, AsksOnce, AllAskOnce, hunt_behind, hunt_of, question_behind, question_of}
use Rattle.iterate.proofs.Falling.{coming_falls, servers_fall}
use Rattle.iterate.proofs.Finding.{was_sought}
use Rattle.iterate.proofs.Growing.{sought_as}
use Rattle.iterate.proofs.Hunts.{hunts_few, search_digits}
use Rattle.iterate.proofs.Lists.{all_of, of_all, take_first, take_next, contains_first, next_within, none_taken}
use Rattle.iterate.proofs.Once.{once_fresh, all_supplied}

pub address_is : (question : Question) (target : Labels) → question.owner ≡ target → question.kind ≡ number.A → address_question target ≡ question
address_is question target owner kind =
    subst (λ (n : Labels). address_question n ≡ question) owner (subst (λ (k : ℕ). record { owner = question.owner; kind = k } ≡ question) kind refl)

-- the first of some questions
pub first_frame : (fs : List Nested) → 0 < length fs → (g : Nested) × (gs : List Nested) × (fs ≡ g ∷ gs)
first_frame [] some = absurd (omega (arith, some))
first_frame (g ∷ gs) some = (g, gs, refl)

pub removed_first : (fs : List Nested) (g : Nested) (gs : List Nested) (f : Nested) → fs ≡ g ∷ gs → f ≡ get_or fs 0 f → f ≡ g
removed_first fs g gs f are is = is ∙ ap (λ (xs : List Nested). get_or xs 0 f) are

-- one address more is joined
pub join_more : (known before after others : List Addr) (i : ℕ) (addr : Addr) → take (i + 1) others ≡ take i others ++ addr ∷ [] → Joins known (take i others) before
    → take (length before) after ≡ before → Contains after addr → ((a : Addr) → Contains after a → Contains before a ⊎ (addr ≡ a)) → (AreDistinct before → AreDistinct after)
    → Joins known (take (i + 1) others) after
join_more known before after others i addr next so_far kept has either distinct =
    let short : length known ≤ length before = omega (arith, ap (λ (xs : List Addr). length xs) so_far.first, length-take (length known) before) in
    record {
      first = take_first (length known) (length before) after before kept short short ∙ so_far.first;
      all = λ a is. elim (Contains-push_cases (take i others) addr a (subst (λ (xs : List Addr). Contains xs a) next is)) [
        | inl earlier ↦ contains_first (length before) after before a kept (so_far.all a earlier)
        | inr this ↦ subst (λ (x : Addr). Contains after x) this has
      ];
      only = λ a is. elim (either a is) [
        | inl earlier ↦ elim (so_far.only a earlier) [
          | inl old ↦ inl old
          | inr new ↦ inr (subst (λ (xs : List Addr). Contains xs a) (sym next) (Contains-append_left (take i others) (addr ∷ []) a new))
        ]
        | inr this ↦ inr (subst (λ (xs : List Addr). Contains xs a) (sym next) (subst (λ (x : Addr). Contains (take i others ++ addr ∷ []) x) this (Contains-push (take i others) addr)))
      ];
      distinct = λ d. distinct (so_far.distinct d);
    }

-- Once all are gone through, they are joined.
pub joined_all : (known others joined : List Addr) (i : ℕ) → length others ≤ i → Joins known (take i others) joined → Joins known others joined
joined_all known others joined i past so_far = subst (λ (xs : List Addr). Joins known xs joined) (take_all i others past) so_far

-- ---- servers are reached

pub fresh_hunt : (port : ℕ) (log : List Exchange) (name : Labels) (list : Servers) (hunt : Hunt) → Known port log (Listed list) → IsAtOrBelow name list.zone → IsFresh list hunt → IsHunt port log name hunt
fresh_hunt port log name list hunt known zone f =
    let same = sym f.servers in
    record {
      listed = subst (λ (s : Servers). Known port log (Listed s)) same known;
      zone = subst (λ (s : Servers). IsAtOrBelow name s.zone) same zone;
      serve = all_of (λ (addr : Addr). Known port log (Serves hunt.servers.zone addr)) hunt.addrs.items
          (λ addr is. subst (λ (s : Servers). Known port log (Serves s.zone addr)) same (Known.addressed known (f.only addr is)));
      asked = omega (arith, f.asked);
      sought = omega (arith, f.sought);
      countable = subst (λ (s : Servers). length s.missing < 2 ^ 64) same f.countable;
    }

fresh_base : (port : ℕ) (log since : List Exchange) (question : Question) (list : Servers) (hunt : Hunt) → WasUnknown log question → IsReached port log question since list → IsFresh list hunt
    → IsBase port log question since hunt
fresh_base port log since question list hunt unknown r f = record {
  unknown = unknown;
  is_hunt = fresh_hunt port log question.owner list hunt r.listed r.above f;
  reached = subst (λ (s : Servers). ReachedFor port log question s since) (sym f.servers) r.reached;
  all = λ addr is. f.all addr (subst (λ (s : Servers). Contains s.addrs addr) f.servers is);
  vain = λ addr is. absurd (none_taken hunt.asked hunt.addrs.items addr f.asked is);
  sought = λ target is may. absurd (none_taken hunt.sought hunt.servers.missing target f.sought is);
}

-- Searches differ in nothing but their parts.
rebuilt : (port : ℕ) (question : Question) (log since : List Exchange) (after : Search) → IsPath port question log after.path → IsBase port log after.path.last since after.base
    → AreFrames port log since after.base after.frames.items → length after.frames.items ≤ 8 → IsSearch port question log after
rebuilt port question log since after p b fs deep = record { path = p; since = since; base = b; frames = fs; deep = deep }

reached_search : (port : ℕ) (question : Question) (log since : List Exchange) (path : Path) (list : Servers) (after : Search) → after.path ≡ path → after.frames.items ≡ [] → IsFresh list after.base
    → IsAskable port question log path → IsReached port log path.last since list → IsSearch port question log after
reached_search port question log since path list after same none f p r =
    rebuilt port question log since after (subst (λ (q : Path). IsPath port question log q) (sym same) p.is_path)
    (subst (λ (q : Path). IsBase port log q.last since after.base) (sym same) (fresh_base port log since path.last list after.base p.unknown r f))
    (subst (λ (fs : List Nested). AreFrames port log since after.base fs) (sym none) tt)
    (omega (arith, ap (λ (fs : List Nested). length fs) none))

pub reaching : (port : ℕ) (question : Question) (log since : List Exchange) (path : Path) (list : Servers) (after : Search) → after.path ≡ path → after.frames.items ≡ [] → IsFresh list after.base
    → IsAskable port question log path → IsReached port log path.last since list → IsSmaller port question log (left_of_path path 1) after
reaching port question log since path list after same none f p r =
    let s = reached_search port question log since path list after same none f p r in
    let once : AsksOnce port log after.path.last after.base Turn.unasked =
    subst (λ (q : Path). AsksOnce port log q.last after.base Turn.unasked) (sym same) (once_fresh after.base r f) in
    record {
      is_search = s;
      orderly = subst (λ (fs : List Nested). AllAskOnce port log after.base after.path.last Turn.unasked fs) (sym none) once;
      falls = servers_fall after.path path 0 0 0 (hunts_left after) top 4 1 (ap (λ (q : Path). q.begun) same) (ap (λ (q : Path). 64 - (q.sent + 0)) same) (ap (λ (q : Path). length q.sets.items) same) (hunts_few after s)
          (search_digits after 4 (omega arith) s);
    }

-- less is left of a search than of a response
pub below_hearing : {port : ℕ} {question : Question} {log : List Exchange} (path : Path) (after : Search) → after.path ≡ path → IsSearch port question log after → left_of_search after 4 < left_of_hearing path 1
below_hearing path after same s =
    coming_falls after.path path 0 0 0 1 (hunts_left after) 0 4 1 (ap (λ (q : Path). q.begun) same) (ap (λ (q : Path). 64 - (q.sent + 0)) same) (ap (λ (q : Path). length q.sets.items) same) (omega arith)
    (search_digits after 4 (omega arith) s)

-- Each question asks each of its servers once, in a search that has these parts.
orderly_as : (port : ℕ) (log : List Exchange) (turn : Turn) {frames : List Nested} (search after : Search) → after.path ≡ search.path → after.base ≡ search.base → after.frames.items ≡ frames
    → AllAskOnce port log search.base search.path.last turn frames → IsOrderly port log after turn
orderly_as port log turn {frames} search after path base are all =
    subst (λ (q : Path). AllAskOnce port log after.base q.last turn after.frames.items) (sym path)
    (subst (λ (h : Hunt). AllAskOnce port log h search.path.last turn after.frames.items) (sym base)
    (subst (λ (fs : List Nested). AllAskOnce port log search.base search.path.last turn fs) (sym are) all))

-- the innermost question is asked of other servers
referred_frames : (port : ℕ) (log since : List Exchange) (base : Hunt) (fs : List Nested) (last : Question) (list : Servers) (target : Labels) (hunt : Hunt) (g : Nested) (gs : List Nested)
    → fs ≡ g ∷ gs → target ≡ g.target → AreFrames port log since base fs → Known port log (Listed list) → IsAtOrBelow (question_behind fs last).owner list.zone → IsFresh list hunt
    → AreFrames port log since base (record { target = target; hunt = hunt } ∷ gs)
referred_frames port log since base fs last list target hunt g gs are same all known zone f =
    let inner : AreFrames port log since base (g ∷ gs) = subst (λ (xs : List Nested). AreFrames port log since base xs) are all in
    let at : IsAtOrBelow target list.zone = subst (λ (n : Labels). IsAtOrBelow n list.zone) (sym same) (subst (λ (xs : List Nested). IsAtOrBelow (question_behind xs last).owner list.zone) are zone) in (
      record {
        next = subst (λ (n : Labels). IsNext (hunt_behind gs base) n) (sym same) inner.0.next;
        early = inner.0.early;
        unknown = subst (λ (n : Labels). WasUnknown since (address_question n)) (sym same) inner.0.unknown;
        hunt = fresh_hunt port log target list hunt known at f;
      },
      inner.1,
    )

-- The innermost question goes on with these servers.
pub referred_first : (fs gs : List Nested) (g : Nested) (rest : List Nested) (target : Labels) (hunt : Hunt) (list : Servers) → fs ≡ g ∷ rest → target ≡ g.target
    → gs ≡ record { target = target; hunt = hunt } ∷ rest → IsFresh list hunt → AreReferred fs list gs
referred_first fs gs g rest target hunt list are same back f =
    subst (λ (xs : List Nested). AreReferred xs list gs) (sym are) (subst (λ (xs : List Nested). AreReferred (g ∷ rest) list xs) (sym back) (same, f, refl))

pub referring : (port : ℕ) (question : Question) (log : List Exchange) (search after : Search) (list : Servers) (target : Labels) (hunt : Hunt) (g : Nested) (gs : List Nested) → after.path ≡ search.path → after.base ≡ search.base
    → search.frames.items ≡ g ∷ gs → target ≡ g.target → after.frames.items ≡ record { target = target; hunt = hunt } ∷ gs → IsFresh list hunt → IsSearch port question log search
    → (since : List Exchange) (turn : Turn) → IsOrderly port log search turn → IsReached port log (question_of search) since list → IsSmaller port question log (left_of_hearing search.path 1) after
referring port question log search after list target hunt g gs path base are same frames f s since turn orderly r =
    let known = r.listed in
    let zone = r.above in
    let all_once : AllAskOnce port log search.base search.path.last turn (g ∷ gs) = subst (λ (xs : List Nested). AllAskOnce port log search.base search.path.last turn xs) are orderly in
    let reached : IsReached port log (address_question g.target) since list = subst (λ (xs : List Nested). IsReached port log (question_behind xs search.path.last) since list) are r in
    let once : AllAskOnce port log search.base search.path.last Turn.unasked (record { target = g.target; hunt = hunt } ∷ gs) = (once_fresh hunt reached f, all_once.1, all_once.2) in
    let once_here : AllAskOnce port log search.base search.path.last Turn.unasked (record { target = target; hunt = hunt } ∷ gs) =
    subst (λ (n : Labels). AllAskOnce port log search.base search.path.last Turn.unasked (record { target = n; hunt = hunt } ∷ gs)) (sym same) once in
    let all = referred_frames port log s.since search.base search.frames.items search.path.last list target hunt g gs are same s.frames known zone f in
    let deep : length (g ∷ gs) ≤ 8 = subst (λ (xs : List Nested). length xs ≤ 8) are s.deep in
    let t = rebuilt port question log s.since after (subst (λ (q : Path). IsPath port question log q) (sym path) s.path)
    (subst (λ (q : Path). IsBase port log q.last s.since after.base) (sym path) (subst (λ (h : Hunt). IsBase port log search.path.last s.since h) (sym base) s.base))
    (subst (λ (xs : List Nested). AreFrames port log s.since after.base xs) (sym frames) (subst (λ (h : Hunt). AreFrames port log s.since h (record { target = target; hunt = hunt } ∷ gs)) (sym base) all))
    (subst (λ (xs : List Nested). length xs ≤ 8) (sym frames) deep) in
    record { is_search = t; orderly = orderly_as port log Turn.unasked search after path base frames once_here; falls = below_hearing search.path after path t }

-- ---- a server without an address is done with

-- No server is next where each was asked.
pub asked_not : (hunt : Hunt) (server : Addr) (rest : List Addr) → drop hunt.asked hunt.addrs.items ≡ server ∷ rest → length hunt.addrs.items ≤ hunt.asked → ⊥
asked_not hunt server rest next all = let within = next_within hunt.asked hunt.addrs.items server rest next in absurd (omega (arith, within, all))

next_less : (hunt : Hunt) (target : Labels) → IsNext hunt target → hunt.sought < length hunt.servers.missing
next_less hunt target n = next_within hunt.sought hunt.servers.missing target n.rest n.next

-- so less is left
supplied_less : (before : Hunt) (found : List Addr) (after : Hunt) → before.sought < length before.servers.missing → IsSupplied before found after → missing_left after < missing_left before
supplied_less before found after within i =
    let one = i.sought within in
    let same : length after.servers.missing ≡ length before.servers.missing = ap (λ (s : Servers). length s.missing) i.servers in
    omega (arith, one, same, within)

-- One of the servers serves their zone.
one_serves : {port : ℕ} {log : List Exchange} {servers : Servers} {addr : Addr} → Known port log (Listed servers) → IsOneOf port log servers addr → Known port log (Serves servers.zone addr)
one_serves listed (IsOneOf.given is) = Known.addressed listed is
one_serves listed (IsOneOf.found among had told) = Known.found listed among had told

supplied_hunt : (port : ℕ) (log : List Exchange) (name target : Labels) (before : Hunt) (found : List Addr) (after : Hunt) → IsHunt port log name before → IsNext before target
    → AllServe port log before.servers found → IsSupplied before found after → IsHunt port log name after
supplied_hunt port log name target before found after h n serve i =
    let same = sym i.servers in
    let within = next_less before target n in
    let one = i.sought within in
    let long : length before.addrs.items ≤ length after.addrs.items = omega (arith, ap (λ (xs : List Addr). length xs) i.first, length-take (length before.addrs.items) after.addrs.items) in
    let many : length after.servers.missing ≡ length before.servers.missing = ap (λ (s : Servers). length s.missing) i.servers in
    record {
      listed = subst (λ (s : Servers). Known port log (Listed s)) same h.listed;
      zone = subst (λ (s : Servers). IsAtOrBelow name s.zone) same h.zone;
      serve = all_of (λ (addr : Addr). Known port log (Serves after.servers.zone addr)) after.addrs.items (λ addr is.
          subst (λ (s : Servers). Known port log (Serves s.zone addr)) same (elim (i.only addr is) [
            | inl old ↦ of_all (λ (a : Addr). Known port log (Serves before.servers.zone a)) before.addrs.items addr h.serve old
            | inr new ↦ one_serves h.listed (of_all (IsOneOf port log before.servers) found addr serve new)
          ]));
      asked = omega (arith, h.asked, i.asked, long);
      sought = omega (arith, one, many, within);
      countable = omega (arith, many, h.countable);
    }

supplied_base : (port : ℕ) (log since : List Exchange) (last : Question) (target : Labels) (before : Hunt) (found : List Addr) (after : Hunt) → IsBase port log last since before → IsNext before target
    → (MaySeek last before.servers target → Sought port since target (Contains found)) → AllServe port log before.servers found → IsSupplied before found after → IsBase port log last since after
supplied_base port log since last target before found after b n tried serve i =
    let same = sym i.servers in
    let one = i.sought (next_less before target n) in
    let asked_taken : take after.asked after.addrs.items ≡ take before.asked before.addrs.items =
    ap (λ (k : ℕ). take k after.addrs.items) i.asked ∙ take_first before.asked (length before.addrs.items) after.addrs.items before.addrs.items i.first b.is_hunt.asked b.is_hunt.asked in
    let sought_taken : take after.sought after.servers.missing ≡ take before.sought before.servers.missing ++ target ∷ [] =
    ap (λ (k : ℕ). take k after.servers.missing) one ∙ ap (λ (s : Servers). take (before.sought + 1) s.missing) i.servers ∙ take_next before.sought before.servers.missing target n.rest n.next in
    record {
      unknown = b.unknown;
      is_hunt = supplied_hunt port log last.owner target before found after b.is_hunt n serve i;
      reached = subst (λ (s : Servers). ReachedFor port log last s since) same b.reached;
      all = λ addr is. contains_first (length before.addrs.items) after.addrs.items before.addrs.items addr i.first (b.all addr (subst (λ (s : Servers). Contains s.addrs addr) i.servers is));
      vain = λ addr is. subst (λ (s : Servers). Struck port since s.zone last addr) same (b.vain addr (subst (λ (xs : List Addr). Contains xs addr) asked_taken is));
      sought = λ name is may.
          let may_before : MaySeek last before.servers name = subst (λ (s : Servers). MaySeek last s name) i.servers may in
          elim (Contains-push_cases (take before.sought before.servers.missing) target name (subst (λ (xs : List Labels). Contains xs name) sought_taken is)) [
            | inl earlier ↦ sought_as (λ addr old. contains_first (length before.addrs.items) after.addrs.items before.addrs.items addr i.first old) (b.sought name earlier may_before)
            | inr this ↦ subst (λ (m : Labels). Sought port since m (Contains after.addrs.items)) this (sought_as i.all (tried (subst (λ (m : Labels). MaySeek last before.servers m) (sym this) may_before)))
          ];
    }

-- what a search remembers of its servers
record IsStack (port : ℕ) (log since : List Exchange) (last : Question) (base : Hunt) (fs : List Nested) : Type 0 where
  base_known : IsBase port log last since base
  frames_known : AreFrames port log since base fs
  deep : length fs ≤ 8

supplied_stack : (port : ℕ) (log since : List Exchange) (last : Question) (target : Labels) (fs gs : List Nested) (base next : Hunt) (found : List Addr) → IsBase port log last since base → AreFrames port log since base fs
    → length fs ≤ 8 → IsNext (hunt_behind fs base) target → (fs ≡ [] → MaySeek last base.servers target → Sought port since target (Contains found)) → AllServe port log (hunt_behind fs base).servers found
    → AreSupplied fs base found gs next → IsStack port log since last next gs
supplied_stack port log since last target [] [] base next found b all deep n tried serve i =
    record { base_known = supplied_base port log since last target base found next b n (tried refl) serve i; frames_known = tt; deep = omega arith }
supplied_stack port log since last target [] (g ∷ gs) base next found b all deep n tried serve i = absurd i
supplied_stack port log since last target (f ∷ fs) [] base next found b all deep n tried serve i = absurd i
supplied_stack port log since last target (f ∷ fs) (g ∷ gs) base next found b all deep n tried serve i =
    let same = sym i.0 in
    let frame : IsFrame port log since (hunt_behind fs base) g = record {
      next = subst (λ (m : Labels). IsNext (hunt_behind fs base) m) same all.0.next;
      early = all.0.early;
      unknown = subst (λ (m : Labels). WasUnknown since (address_question m)) same all.0.unknown;
      hunt = subst (λ (m : Labels). IsHunt port log m g.hunt) same (supplied_hunt port log f.target target f.hunt found g.hunt all.0.hunt n serve i.1);
    } in
    subst (λ (h : Hunt). IsStack port log since last h (g ∷ gs)) (sym i.3)
    (subst (λ (xs : List Nested). IsStack port log since last base (g ∷ xs)) (sym i.2) record { base_known = b; frames_known = (frame, all.1); deep = deep })

-- as many were asked as there are at most
asked_behind : (port : ℕ) (log since : List Exchange) (last : Question) (fs : List Nested) (base : Hunt) → IsBase port log last since base → AreFrames port log since base fs
    → (hunt_behind fs base).asked ≤ length (hunt_behind fs base).addrs.items
asked_behind port log since last [] base b all = b.is_hunt.asked
asked_behind port log since last (f ∷ fs) base b all = all.0.hunt.asked

-- Each address that was found is among those to ask.
pub supplied_all : (fs gs : List Nested) (base next : Hunt) (found : List Addr) → AreSupplied fs base found gs next → (addr : Addr) → Contains found addr → Contains (hunt_behind gs next).addrs.items addr
supplied_all [] [] base next found i addr is = i.all addr is
supplied_all [] (g ∷ gs) base next found i addr is = absurd i
supplied_all (f ∷ fs) [] base next found i addr is = absurd i
supplied_all (f ∷ fs) (g ∷ gs) base next found i addr is = i.1.all addr is

-- ---- how many are left, whatever is known

pub hunts_fall : (fs gs : List Nested) (base next : Hunt) (found : List Addr) → (hunt_behind fs base).sought < length (hunt_behind fs base).servers.missing → AreSupplied fs base found gs next
    → missing_left next + frames_left gs < missing_left base + frames_left fs
hunts_fall [] [] base next found within i = let less = supplied_less base found next within i in omega (arith, less)
hunts_fall [] (g ∷ gs) base next found within i = absurd i
hunts_fall (f ∷ fs) [] base next found within i = absurd i
hunts_fall (f ∷ fs) (g ∷ gs) base next found within i =
    let less = supplied_less f.hunt found g.hunt within i.1 in
    let same : frames_left gs ≡ frames_left fs = ap frames_left i.2 in
    let base_same : missing_left next ≡ missing_left base = ap missing_left i.3 in
    omega (arith, less, same, base_same)

not_more : (before : Hunt) (found : List Addr) (after : Hunt) → IsSupplied before found after → missing_left after ≤ missing_left before
not_more before found after i =
    let same : length after.servers.missing ≡ length before.servers.missing = ap (λ (s : Servers). length s.missing) i.servers in
    omega (arith, same, i.forward)

hunts_stay : (fs gs : List Nested) (base next : Hunt) (found : List Addr) → AreSupplied fs base found gs next
    → missing_left next + frames_left gs ≤ missing_left base + frames_left fs
hunts_stay [] [] base next found i = let less = not_more base found next i in omega (arith, less)
hunts_stay [] (g ∷ gs) base next found i = absurd i
hunts_stay (f ∷ fs) [] base next found i = absurd i
hunts_stay (f ∷ fs) (g ∷ gs) base next found i =
    let less = not_more f.hunt found g.hunt i.1 in
    let same : frames_left gs ≡ frames_left fs = ap frames_left i.2 in
    let base_same : missing_left next ≡ missing_left base = ap missing_left i.3 in
    omega (arith, less, same, base_same)

pub hunts_close : (xs gs : List Nested) (base next : Hunt) (found : List Addr) → 0 < length xs → AreSupplied (drop 1 xs) base found gs next
    → missing_left next + frames_left gs < missing_left base + frames_left xs
hunts_close [] gs base next found some i = absurd (omega (arith, some))
hunts_close (f ∷ fs) gs base next found some i = let less = hunts_stay fs gs base next found i in omega (arith, less)

-- ---- a search with less left

-- Less servers are left of it.
smaller : (port : ℕ) (question : Question) (log since : List Exchange) (search after : Search) → after.path ≡ search.path → IsPath port question log search.path
    → IsStack port log since search.path.last after.base after.frames.items → AllAskOnce port log after.base search.path.last Turn.unasked after.frames.items → hunts_left after < hunts_left search
    → IsSmaller port question log (left_of_search search 0) after
smaller port question log since search after same p k once less =
    let s = rebuilt port question log since after (subst (λ (q : Path). IsPath port question log q) (sym same) p)
    (subst (λ (q : Path). IsBase port log q.last since after.base) (sym same) k.base_known) k.frames_known k.deep in
    record {
      is_search = s;
      orderly = subst (λ (q : Path). AllAskOnce port log after.base q.last Turn.unasked after.frames.items) (sym same) once;
      falls = servers_fall after.path search.path 0 0 0 (hunts_left after) (hunts_left search) 4 0 (ap (λ (q : Path). q.begun) same) (ap (λ (q : Path). 64 - (q.sent + 0)) same) (ap (λ (q : Path). length q.sets.items) same) less (search_digits after 4 (omega arith) s);
    }

-- The next server without an address is done with.
pub supplying : (port : ℕ) (question : Question) (log : List Exchange) (target : Labels) (search after : Search) (found : List Addr) → after.path ≡ search.path
    → AreSupplied search.frames.items search.base found after.frames.items after.base → IsTried port question log search target found → AllServe port log (hunt_of search).servers found
    → IsSmaller port question log (left_of_search search 0) after
supplying port question log target search after found same i t serve =
    let s = t.is_search in
    smaller port question log s.since search after same s.path
    (supplied_stack port log s.since search.path.last target search.frames.items after.frames.items search.base after.base found s.base s.frames s.deep t.next t.tried serve i)
    (all_supplied port log search.path.last search.frames.items after.frames.items search.base after.base found (asked_behind port log s.since search.path.last search.frames.items search.base s.base s.frames) serve i t.orderly)
    (hunts_fall search.frames.items after.frames.items search.base after.base found (next_less (hunt_of search) target t.next) i)

closed_stack : (port : ℕ) (log since : List Exchange) (last : Question) (xs gs : List Nested) (base next : Hunt) (found : List Addr) → 0 < length xs → IsBase port log last since base → AreFrames port log since base xs → length xs ≤ 8
    → AllServe port log (hunt_behind (drop 1 xs) base).servers found → AreSupplied (drop 1 xs) base found gs next
    → IsStack port log since last next gs
closed_stack port log since last [] gs base next found some b all deep serve i = absurd (omega (arith, some))
closed_stack port log since last (f ∷ fs) gs base next found some b all deep serve i =
    supplied_stack port log since last f.target fs gs base next found b all.1 (omega (arith, deep)) all.0.next (λ none may. was_sought all.0.unknown) serve i

closed_once : (port : ℕ) (log since : List Exchange) (last : Question) (xs gs : List Nested) (base next : Hunt) (found : List Addr) (turn : Turn) → 0 < length xs → IsBase port log last since base → AreFrames port log since base xs
    → AllAskOnce port log base last turn xs → AllServe port log (hunt_behind (drop 1 xs) base).servers found → AreSupplied (drop 1 xs) base found gs next → AllAskOnce port log next last Turn.unasked gs
closed_once port log since last [] gs base next found turn some b all once serve i = absurd (omega (arith, some))
closed_once port log since last (f ∷ fs) gs base next found turn some b all once serve i =
    all_supplied port log last fs gs base next found (asked_behind port log since last fs base b all.1) serve i once.2

-- The innermost question is closed.
pub closing : (port : ℕ) (question : Question) (log : List Exchange) (search after : Search) (found : List Addr) → 0 < length search.frames.items → after.path ≡ search.path
    → AreSupplied (drop 1 search.frames.items) search.base found after.frames.items after.base → IsSearch port question log search → (turn : Turn) → IsOrderly port log search turn
    → AllServe port log (hunt_behind (drop 1 search.frames.items) search.base).servers found → IsSmaller port question log (left_of_search search 0) after
closing port question log search after found some same i s turn orderly serve =
    let k = closed_stack port log s.since search.path.last search.frames.items after.frames.items search.base after.base found some s.base s.frames s.deep serve i in
    let once = closed_once port log s.since search.path.last search.frames.items after.frames.items search.base after.base found turn some s.base s.frames orderly serve i in
    smaller port question log s.since search after same s.path k once (hunts_close search.frames.items after.frames.items search.base after.base found some i)

-- ---- a question is opened

pub opening : (port : ℕ) (question : Question) (log : List Exchange) (search after : Search) (list : Servers) (target : Labels) (hunt : Hunt) → after.path ≡ search.path → after.base ≡ search.base
    → after.frames.items ≡ record { target = target; hunt = hunt } ∷ search.frames.items → IsFresh list hunt → (s : IsSearch port question log search) → length search.frames.items < 8
    → IsNext (hunt_of search) target → (hunt_of search).sought < 5 → WasUnknown s.since (address_question target) → IsOrderly port log search Turn.unasked → IsOther (address_question target) search.frames.items search.path.last
    → (since : List Exchange) → IsReached port log (address_question target) since list → IsSmaller port question log (left_of_seek search stage.Servers) after
opening port question log search after list target hunt path base frames f s shallow n early unknown orderly other since r =
    let known = r.listed in
    let zone = r.above in
    let once : AllAskOnce port log search.base search.path.last Turn.unasked (record { target = target; hunt = hunt } ∷ search.frames.items) = (once_fresh hunt r f, other, orderly) in
    let h = fresh_hunt port log target list hunt known zone f in
    let stack : IsStack port log s.since search.path.last search.base (record { target = target; hunt = hunt } ∷ search.frames.items) = record {
      base_known = s.base;
      frames_known = (record { next = n; early = early; unknown = unknown; hunt = h }, s.frames);
      deep = omega (arith, shallow);
    } in
    let t = rebuilt port question log s.since after (subst (λ (q : Path). IsPath port question log q) (sym path) s.path)
    (subst (λ (q : Path). IsBase port log q.last s.since after.base) (sym path) (subst (λ (b : Hunt). IsBase port log search.path.last s.since b) (sym base) stack.base_known))
    (subst (λ (xs : List Nested). AreFrames port log s.since after.base xs) (sym frames) (subst (λ (b : Hunt). AreFrames port log s.since b (record { target = target; hunt = hunt } ∷ search.frames.items)) (sym base) stack.frames_known))
    (subst (λ (xs : List Nested). length xs ≤ 8) (sym frames) stack.deep) in
    record {
      is_search = t;
      orderly = orderly_as port log Turn.unasked search after path base frames once;
      falls = coming_falls after.path search.path 0 0 0 1 (hunts_left after) 0 4 0 (ap (λ (q : Path). q.begun) path) (ap (λ (q : Path). 64 - (q.sent + 0)) path) (ap (λ (q : Path). length q.sets.items) path) (omega arith)
          (search_digits after 4 (omega arith) t);
    }
