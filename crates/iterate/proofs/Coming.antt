-- What came of a query.
use Rattle.std.proofs.Common.{◌≡◌, ℕ, ◌+◌, ◌<◌, ◌≤◌, inl, inr, List, [], ◌∷◌, ◌++◌, length, take, drop, get_or, slice_index_or, Result, Ok, Err, IfOk, sym, ap, ◌∙◌, subst, refl, arith}
use Rattle.iterate.specs.Room.{IsHanded, allowed_for, allowed_in}
use Rattle.ranked.specs.declared.find.Find.{Find}
use Rattle.history.specs.declared.event.Event.TheVariants.{Admit}
use Rattle.std.specs.List.{Contains, remove, insert}
use Rattle.std.proofs.lemmas.List.{length-drop, take_more, get_or-drop}
use Rattle.std.proofs.lemmas.List.Elements.{Contains-push_cases, All-from_recursion, All-drop, All-same, All-head}
use Rattle.dns_name.specs.Labels.{Labels}
use Rattle.dns_text.specs.declared.addr.Addr.{Addr}
use Rattle.dns_text.specs.declared.record.Question.{Question}
use Rattle.dns_query.specs.Verdict.{IsSaid, Tells, IsTruncated}
use Rattle.dns_wire.specs.declared.message.Message.{Message}
use Rattle.dns_query.specs.declared.over.Over.{Over}
use Rattle.dns_query.specs.declared.verdict.Heard.{Heard}
use Rattle.dns_query.specs.declared.verdict.Says.{Says}
use Rattle.dns_query.specs.declared.verdict.Says.TheVariants.{Answers, Denies, Refers}
use Rattle.dns_query.specs.declared.verdict.Verdict.{Verdict}
use Rattle.dns_query.specs.declared.verdict.Verdict.TheVariants.{Struck as StruckVerdict, Cut, Heard as HeardVerdict}
use Rattle.iterate.specs.declared.path.Path.{Path}
use Rattle.iterate.specs.declared.phase.Phase.{Phase}
use Rattle.iterate.specs.declared.phase.Phase.TheVariants.{Ended}
use Rattle.iterate.specs.declared.search.Nested.{Nested}
use Rattle.iterate.specs.declared.search.Hunt.{Hunt}
use Rattle.iterate.specs.declared.search.Search.{Search}
use Rattle.iterate.specs.declared.want.Input.{Input}
use Rattle.iterate.specs.declared.want.Input.TheVariants.{Begin, Reply, Refused, Came, Failed}
use Rattle.iterate.specs.declared.want.Want.{Want}
use Rattle.iterate.specs.declared.want.Want.TheVariants.{Send, Book}
use Rattle.iterate.specs.Exchanges.{Exchange, exchange, Adds}
use Rattle.iterate.specs.Judged.{IsJudged}
use Rattle.iterate.specs.Known.{Known, Serves}
use Rattle.iterate.specs.Measure.{top, hunts_left, left_in, left_of_search, left_of_sending, left_of_hearing}
use Rattle.iterate.specs.Phase.{Goes, IsWaiting, IsHearing, Drawing}
use Rattle.iterate.specs.Resolved.{CameUseless, Struck}
use Rattle.iterate.specs.Searching.{IsPath, IsHunt, IsBase, AreFrames, IsSearch, IsNextServer, IsOrderly, AllAskOnce, Turn, WasAsked, turn_of, hunt_behind, hunt_of, question_behind, question_of}
use Rattle.iterate.specs.Wanted.{WasTruncated}
use Rattle.iterate.proofs.Falling.{coming_falls, sending_falls, ended_falls, path_digits}
use Rattle.iterate.proofs.Hunts.{search_digits}
use Rattle.iterate.proofs.Asking.{innermost_hunt, unknown_innermost}
use Rattle.iterate.proofs.PathTurns.{less_left}
use Rattle.iterate.proofs.Growing.{path_sent, base_more, frames_more, happened_last, search_sent}
use Rattle.iterate.proofs.Once.{nothing_sent, all_sent, struck_first}
use Rattle.dns_wire.specs.Read.Decoding.{SpelledOnce}
use Rattle.dns_query.specs.declared.over.Over.TheVariants.{Udp, Tcp}
use Rattle.iterate.specs.declared.phase.Advance.{Advance}
use Rattle.iterate.specs.Hunting.{ActsOn, AsksOver, one_vain}
use Rattle.iterate.proofs.Lists.{drop_next}

-- what is less is no more
pub below : (a b : ℕ) → a < b → a ≤ b
below a b h = omega (arith, h)

pub from_less : {port : ℕ} {question : Question} {log : List Exchange} {moment : ℕ} {id : Drawing} {left more : ℕ} {phase : Phase} {want : Want}
    → left < more → Goes port question log moment id left phase want → Goes port question log moment id more phase want
from_less {left = left} {more = more} h g = less_left (below left more h) g

-- One query more was sent.
abbrev pub counted : Search → Search
counted search = record search { path = record search.path { sent = search.path.sent + 1 } }

-- what was asked, in the log
pub here_sent : {port : ℕ} {question : Question} {before log : List Exchange} {want : Want} {searching : Search} {server : Addr} {id : ℕ} {over : Over} {input : Input}
    → (w : IsWaiting port question before want searching server id over) → Adds before (exchange want input) log → Adds before (exchange (Send server over w.bytes) input) log
here_sent {before = before} {log = log} {input = input} w adds = subst (λ (v : Want). Adds before (exchange v input) log) w.wanted adds

-- The search goes on where it was.
pub asked_once : {port : ℕ} {question : Question} {before log : List Exchange} {want : Want} {searching : Search} {server : Addr} {id : ℕ} {over : Over} {input : Input}
    → (after : Search) → after ≡ counted searching → IsWaiting port question before want searching server id over → Adds before (exchange want input) log → IsSearch port question log after
asked_once {port} {question} {log = log} after same w adds = subst (λ (s : Search). IsSearch port question log s) (sym same) (search_sent w.is_search (here_sent w adds) refl w.some)

-- The next server was asked, over this transport too.
pub orderly_once : {port : ℕ} {question : Question} {before log : List Exchange} {want : Want} {searching : Search} {server : Addr} {id : ℕ} {over : Over} {input : Input}
    → SpelledOnce → (next : Turn) → ((o : Over) → WasAsked (turn_of over) o → WasAsked next o) → WasAsked next over
    → (after : Search) → after ≡ counted searching → IsWaiting port question before want searching server id over → Adds before (exchange want input) log → IsOrderly port log after next
orderly_once {port} {log = log} {searching = searching} {server} {id} {over} {input} once next grows was after same w adds =
    subst (λ (s : Search). IsOrderly port log s next) (sym same)
    (all_sent once port server over w.bytes id input w.rest (turn_of over) next searching.base searching.path.last searching.frames.items (here_sent w adds) w.query w.next grows was w.orderly)

-- It is done with.
pub orderly_heard : {port : ℕ} {question : Question} {before log : List Exchange} {want : Want} {searching : Search} {server : Addr} {id : ℕ} {over : Over} {input : Input}
    → SpelledOnce → (after : Search) → after ≡ counted searching → IsWaiting port question before want searching server id over → Adds before (exchange want input) log → IsOrderly port log after Turn.heard
orderly_heard once after same w adds = orderly_once once Turn.heard (λ o was. tt) tt after same w adds

-- Its response over UDP was truncated.
pub orderly_cut : {port : ℕ} {question : Question} {before log : List Exchange} {want : Want} {searching : Search} {server : Addr} {id : ℕ} {over : Over} {input : Input}
    → SpelledOnce → over ≡ Udp → (after : Search) → after ≡ counted searching → IsWaiting port question before want searching server id over → Adds before (exchange want input) log → IsOrderly port log after Turn.cut
orderly_cut {over = over} once udp after same w adds =
    orderly_once once Turn.cut (λ o was. absurd (subst (λ (t : Over). WasAsked (turn_of t) o) udp was)) (subst (λ (t : Over). WasAsked Turn.cut t) (sym udp) tt) after same w adds

-- only over UDP
pub cut_udp : (port : ℕ) (over : Over) (zone : Labels) (id : ℕ) (question : Question) (input : Input) → IsJudged port over zone id question input Cut → over ≡ Udp
cut_udp port over zone id question (Came octets allowance) t = t.cut.udp
cut_udp port over zone id question Failed t = let e : ⊥ = cc in absurd e
cut_udp port over zone id question Begin t = absurd t
cut_udp port over zone id question (Reply reply) t = absurd t
cut_udp port over zone id question (Refused fault) t = absurd t

pub same_next : {port : ℕ} {question : Question} {before : List Exchange} {want : Want} {searching : Search} {server : Addr} {id : ℕ} {over : Over}
    → (after : Search) → after ≡ counted searching → (w : IsWaiting port question before want searching server id over) → drop (hunt_of after).asked (hunt_of after).addrs.items ≡ server ∷ w.rest
same_next {server = server} after same w = subst (λ (s : Search). drop (hunt_of s).asked (hunt_of s).addrs.items ≡ server ∷ w.rest) (sym same) w.next

-- ---- in vain

-- The server that was asked last was asked in vain.
pub record IsVain (port : ℕ) (question : Question) (log : List Exchange) (server : Addr) (searching : Search) : Type 0 where
  pub is_search : IsSearch port question log searching
  pub struck : Struck port is_search.since (hunt_of searching).servers.zone (question_of searching) server

-- a verdict on what was asked of the zone
pub meant : (port : ℕ) (over : Over) (id : ℕ) (input : Input) (verdict : Verdict) {zone zone' : Labels} {question question' : Question} → zone ≡ zone' → question ≡ question'
    → IsJudged port over zone id question input verdict → IsJudged port over zone' id question' input verdict
meant port over id input verdict {zone} {zone'} {question} {question'} z q judged =
    subst (λ (l : Labels). IsJudged port over l id question' input verdict) z (subst (λ (k : Question). IsJudged port over zone id k input verdict) q judged)

pub useless : (port : ℕ) (over : Over) (zone : Labels) (id : ℕ) (question : Question) (input : Input) → IsJudged port over zone id question input StruckVerdict → CameUseless port over zone id question input
useless port over zone id question (Came octets allowance) judged = judged
useless port over zone id question Failed judged = tt
useless port over zone id question Begin judged = absurd judged
useless port over zone id question (Reply reply) judged = absurd judged
useless port over zone id question (Refused fault) judged = absurd judged

pub vain : {port : ℕ} {question : Question} {before log : List Exchange} {want : Want} {searching : Search} {server : Addr} {id : ℕ} {over : Over} {input : Input}
    → (after : Search) → after ≡ counted searching → IsWaiting port question before want searching server id over → Adds before (exchange want input) log
    → CameUseless port over (hunt_of searching).servers.zone id (question_of searching) input → IsVain port question log server after
vain {port} {question} {before} {log} {want} {searching} {server} {id} {over} {input} after same w adds no_use =
    let here = here_sent w adds in
    let s = w.is_search in
    let x = exchange (Send server over w.bytes) input in
    let last : Adds s.since x (s.since ++ x ∷ []) = record { adds = refl } in
    subst (λ (a : Search). IsVain port question log server a) (sym same) (record {
      is_search = record {
        path = path_sent s.path here refl w.some;
        since = s.since ++ x ∷ [];
        base = base_more s.base here;
        frames = frames_more port s.since searching.base searching.frames.items here s.frames;
        deep = s.deep;
      };
      struck = record { over = over; bytes = w.bytes; id = id; input = input; asked = happened_last last; query = w.query; useless = no_use };
    })

-- ---- truncated

-- The server's response was truncated.
pub was_truncated : {question : Question} {before log : List Exchange} {want : Want} {searching : Search} {server : Addr} {id : ℕ} {over : Over} (port : ℕ) (zone : Labels) (input : Input)
    → (after : Search) → after ≡ counted searching → IsWaiting port question before want searching server id over → Adds before (exchange want input) log
    → IsJudged port over zone id (question_of searching) input Cut → WasTruncated log server (question_of after)
was_truncated {before = before} {log = log} {searching = searching} {server = server} {id = id} port zone (Came octets allowance) after same w adds t =
    let sent = subst (λ (o : Over). Adds before (exchange (Send server o w.bytes) (Came octets allowance)) log) t.cut.udp (here_sent w adds) in
    subst (λ (a : Search). WasTruncated log server (question_of a)) (sym same) (record {
      bytes = w.bytes;
      id = id;
      octets = octets;
      allowance = allowance;
      came = happened_last sent;
      query = w.query;
      truncated = subst (λ (o : Over). IsTruncated o id (question_of searching) octets) t.cut.udp t;
    })
was_truncated port zone Failed after same w adds t = let e : ⊥ = cc in absurd e
was_truncated port zone Begin after same w adds t = absurd t
was_truncated port zone (Reply reply) after same w adds t = absurd t
was_truncated port zone (Refused fault) after same w adds t = absurd t

-- ---- one server less is left

pub some_asked : (hunt : Hunt) (server : Addr) (rest : List Addr) → drop hunt.asked hunt.addrs.items ≡ server ∷ rest → hunt.asked < length hunt.addrs.items
some_asked hunt server rest next = omega (arith, ap (λ (xs : List Addr). length xs) next, length-drop hunt.asked hunt.addrs.items)

take_next : (i : ℕ) (xs : List Addr) (server : Addr) (rest : List Addr) → drop i xs ≡ server ∷ rest → take (i + 1) xs ≡ take i xs ++ server ∷ []
take_next i xs server rest next =
    let some : i < length xs = omega (arith, ap (λ (ys : List Addr). length ys) next, length-drop i xs) in
    let zero_more : i + 0 ≡ i = omega arith in
    let at : get_or xs i server ≡ server =
    sym (ap (λ (n : ℕ). get_or xs n server) zero_more) ∙ sym (get_or-drop i xs 0 server) ∙ ap (λ (ys : List Addr). get_or ys 0 server) next in
    take_more xs i server some ∙ ap (λ (a : Addr). take i xs ++ a ∷ []) at

struck_known : {port : ℕ} {log : List Exchange} {name : Labels} {server : Addr} {rest : List Addr} (hunt : Hunt) → IsHunt port log name hunt → drop hunt.asked hunt.addrs.items ≡ server ∷ rest
    → IsHunt port log name (one_vain hunt)
struck_known {server = server} {rest = rest} hunt h next = record {
  listed = h.listed;
  zone = h.zone;
  serve = h.serve;
  asked = omega (arith, some_asked hunt server rest next);
  sought = h.sought;
  countable = h.countable;
}

-- where the last question itself is asked
pub struck_base : {port : ℕ} {question : Question} {log : List Exchange} {server : Addr} {rest : List Addr} (searching : Search) (hunt : Hunt) → searching.frames.items ≡ []
    → (searching.base.asked < length searching.base.addrs.items → hunt ≡ one_vain searching.base) → (s : IsSearch port question log searching)
    → drop (hunt_of searching).asked (hunt_of searching).addrs.items ≡ server ∷ rest → Struck port s.since (hunt_of searching).servers.zone (question_of searching) server
    → IsSearch port question log (record searching { base = hunt })
struck_base {port} {question} {log} {server} {rest} searching hunt none becomes s next struck =
    let base : hunt_of searching ≡ searching.base = ap (λ (fs : List Nested). hunt_behind fs searching.base) none in
    let asked : question_of searching ≡ searching.path.last = ap (λ (fs : List Nested). question_behind fs searching.path.last) none in
    let first : drop searching.base.asked searching.base.addrs.items ≡ server ∷ rest = subst (λ (h : Hunt). drop h.asked h.addrs.items ≡ server ∷ rest) base next in
    let in_vain : Struck port s.since searching.base.servers.zone searching.path.last server =
    subst (λ (q : Question). Struck port s.since searching.base.servers.zone q server) asked (subst (λ (h : Hunt). Struck port s.since h.servers.zone (question_of searching) server) base struck) in
    let more = take_next searching.base.asked searching.base.addrs.items server rest first in
    let same : hunt ≡ one_vain searching.base = becomes (some_asked searching.base server rest first) in
    subst (λ (h : Hunt). IsSearch port question log (record searching { base = h })) (sym same) (record {
      path = s.path;
      since = s.since;
      base = record {
        unknown = s.base.unknown;
        is_hunt = struck_known searching.base s.base.is_hunt first;
        reached = s.base.reached;
        all = s.base.all;
        vain = λ addr among. elim (Contains-push_cases (take searching.base.asked searching.base.addrs.items) server addr (subst (λ (xs : List Addr). Contains xs addr) more among)) [
          | inl earlier ↦ s.base.vain addr earlier
          | inr this ↦ subst (λ (a : Addr). Struck port s.since searching.base.servers.zone searching.path.last a) this in_vain
        ];
        sought = s.base.sought;
      };
      frames = subst (λ (fs : List Nested). AreFrames port log s.since (one_vain searching.base) fs) (sym none) tt;
      deep = s.deep;
    })

abbrev pub struck_frame_of : Nested → Nested
struck_frame_of frame = record frame { hunt = one_vain frame.hunt }

-- where a question inside it is asked
pub struck_frame : {port : ℕ} {question : Question} {log : List Exchange} {server : Addr} {rest : List Addr} (searching after : Search) (frame : Nested) (frames : List Nested)
    → searching.frames.items ≡ frame ∷ frames → after.frames.items ≡ struck_frame_of frame ∷ frames → after.path ≡ searching.path → after.base ≡ searching.base
    → IsSearch port question log searching → drop (hunt_of searching).asked (hunt_of searching).addrs.items ≡ server ∷ rest → IsSearch port question log after
struck_frame {port} {question} {log} {server} {rest} searching after frame frames some struck path base s next =
    let inner : hunt_of searching ≡ frame.hunt = ap (λ (fs : List Nested). hunt_behind fs searching.base) some in
    let first : drop frame.hunt.asked frame.hunt.addrs.items ≡ server ∷ rest = subst (λ (h : Hunt). drop h.asked h.addrs.items ≡ server ∷ rest) inner next in
    let known : AreFrames port log s.since searching.base (frame ∷ frames) = subst (λ (fs : List Nested). AreFrames port log s.since searching.base fs) some s.frames in
    let after_known : AreFrames port log s.since searching.base (struck_frame_of frame ∷ frames) =
    (record { next = known.0.next; early = known.0.early; unknown = known.0.unknown; hunt = struck_known frame.hunt known.0.hunt first }, known.1) in
    let deep : length (frame ∷ frames) ≤ 8 = subst (λ (fs : List Nested). length fs ≤ 8) some s.deep in
    record {
      path = subst (λ (p : Path). IsPath port question log p) (sym path) s.path;
      since = s.since;
      base = subst (λ (p : Path). IsBase port log p.last s.since after.base) (sym path) (subst (λ (b : Hunt). IsBase port log searching.path.last s.since b) (sym base) s.base);
      frames = subst (λ (b : Hunt). AreFrames port log s.since b after.frames.items) (sym base) (subst (λ (fs : List Nested). AreFrames port log s.since searching.base fs) (sym struck) after_known);
      deep = subst (λ (fs : List Nested). length fs ≤ 8) (sym struck) (omega (arith, deep));
    }

empty : (fs : List Nested) → length fs ≡ 0 → fs ≡ []
empty [] none = refl
empty (f ∷ fs) none = absurd (omega (arith, none))

pub no_frames : (searching : Search) → length searching.frames.items ≡ 0 → searching.frames.items ≡ []
no_frames searching none = empty searching.frames.items none

-- the innermost question, and those after it
pub record Inner (fs : List Nested) : Type 0 where
  pub first : Nested
  pub rest : List Nested
  pub are : fs ≡ first ∷ rest

pub inner : (fs : List Nested) → 0 < length fs → Inner fs
inner [] some = absurd (omega (arith, some))
inner (f ∷ fs) some = record { first = f; rest = fs; are = refl }

-- the innermost question taken out, and put back as the server that it asked is struck
pub struck_inner : {port : ℕ} {question : Question} {log : List Exchange} {server : Addr} {rest : List Addr} (searching after : Search) (removed : Nested) (hunt : Hunt) → 0 < length searching.frames.items
    → removed ≡ slice_index_or searching.frames.items 0 removed → after.frames.items ≡ insert (remove searching.frames.items 0) 0 (record { target = removed.target; hunt = hunt })
    → (removed.hunt.asked < length removed.hunt.addrs.items → hunt ≡ one_vain removed.hunt) → after.path ≡ searching.path → after.base ≡ searching.base
    → IsSearch port question log searching → drop (hunt_of searching).asked (hunt_of searching).addrs.items ≡ server ∷ rest → IsSearch port question log after
struck_inner {port} {question} {log} {server} {rest} searching after removed hunt some is are becomes path base s next =
    let i = inner searching.frames.items some in
    let first : removed ≡ i.first = subst (λ (fs : List Nested). removed ≡ slice_index_or fs 0 removed) i.are is in
    let at : drop removed.hunt.asked removed.hunt.addrs.items ≡ server ∷ rest =
    subst (λ (f : Nested). drop f.hunt.asked f.hunt.addrs.items ≡ server ∷ rest) (sym first) (subst (λ (fs : List Nested). drop (hunt_behind fs searching.base).asked (hunt_behind fs searching.base).addrs.items ≡ server ∷ rest) i.are next) in
    let same : hunt ≡ one_vain removed.hunt = becomes (some_asked removed.hunt server rest at) in
    let back : after.frames.items ≡ record { target = removed.target; hunt = hunt } ∷ i.rest =
    subst (λ (fs : List Nested). after.frames.items ≡ insert (remove fs 0) 0 (record { target = removed.target; hunt = hunt })) i.are are in
    let frames : after.frames.items ≡ struck_frame_of i.first ∷ i.rest =
    back ∙ ap (λ (h : Hunt). record { target = removed.target; hunt = h } ∷ i.rest) same ∙ ap (λ (f : Nested). struck_frame_of f ∷ i.rest) first in
    struck_frame searching after i.first i.rest i.are frames path base s next

-- So each question still asks each of its servers once.
pub orderly_inner : (port : ℕ) (log : List Exchange) {server : Addr} {rest : List Addr} (searching after : Search) (removed : Nested) (hunt : Hunt) → 0 < length searching.frames.items
    → removed ≡ slice_index_or searching.frames.items 0 removed → after.frames.items ≡ insert (remove searching.frames.items 0) 0 (record { target = removed.target; hunt = hunt })
    → (removed.hunt.asked < length removed.hunt.addrs.items → hunt ≡ one_vain removed.hunt) → after.path ≡ searching.path → after.base ≡ searching.base
    → drop (hunt_of searching).asked (hunt_of searching).addrs.items ≡ server ∷ rest → IsOrderly port log searching Turn.heard → IsOrderly port log after Turn.unasked
orderly_inner port log {server} {rest} searching after removed hunt some is are becomes path base next orderly =
    let i = inner searching.frames.items some in
    let first : removed ≡ i.first = subst (λ (fs : List Nested). removed ≡ slice_index_or fs 0 removed) i.are is in
    let there : drop i.first.hunt.asked i.first.hunt.addrs.items ≡ server ∷ rest =
    subst (λ (fs : List Nested). drop (hunt_behind fs searching.base).asked (hunt_behind fs searching.base).addrs.items ≡ server ∷ rest) i.are next in
    let at : drop removed.hunt.asked removed.hunt.addrs.items ≡ server ∷ rest = subst (λ (f : Nested). drop f.hunt.asked f.hunt.addrs.items ≡ server ∷ rest) (sym first) there in
    let same : hunt ≡ one_vain removed.hunt = becomes (some_asked removed.hunt server rest at) in
    let back : after.frames.items ≡ record { target = removed.target; hunt = hunt } ∷ i.rest =
    subst (λ (fs : List Nested). after.frames.items ≡ insert (remove fs 0) 0 (record { target = removed.target; hunt = hunt })) i.are are in
    let frames : after.frames.items ≡ struck_frame_of i.first ∷ i.rest =
    back ∙ ap (λ (h : Hunt). record { target = removed.target; hunt = h } ∷ i.rest) same ∙ ap (λ (f : Nested). struck_frame_of f ∷ i.rest) first in
    let all : AllAskOnce port log searching.base searching.path.last Turn.heard (i.first ∷ i.rest) =
    subst (λ (fs : List Nested). AllAskOnce port log searching.base searching.path.last Turn.heard fs) i.are orderly in
    subst (λ (p : Path). AllAskOnce port log after.base p.last Turn.unasked after.frames.items) (sym path)
    (subst (λ (b : Hunt). AllAskOnce port log b searching.path.last Turn.unasked after.frames.items) (sym base)
    (subst (λ (fs : List Nested). AllAskOnce port log searching.base searching.path.last Turn.unasked fs) (sym frames) (struck_first port log searching.path.last searching.base i.first i.rest there all)))

-- ---- less is left

pub going_less : {port : ℕ} {question : Question} {log : List Exchange} (path : Path) (after : Search) → after.path ≡ record path { sent = path.sent + 1 } → IsSearch port question log after
    → left_of_search after 4 < left_of_sending path
going_less path after same s =
    coming_falls after.path path 0 1 0 2 (hunts_left after) 0 4 0 (ap (λ (p : Path). p.begun) same) (omega (arith, ap (λ (p : Path). p.sent) same)) (ap (λ (p : Path). length p.sets.items) same) (omega arith)
    (search_digits after 4 (omega arith) s)

pub again_less : (path after : Path) → after ≡ record path { sent = path.sent + 1 } → after.sent < 64 → left_of_sending after < left_of_sending path
again_less path after same few =
    sending_falls after path 1 1 2 2 0 0 0 0 (ap (λ (p : Path). p.begun) same) (omega (arith, ap (λ (p : Path). p.sent) same)) (path_digits after 1 2 0 0 (omega arith) (omega arith) (omega arith))

pub ended_less : {port : ℕ} {question : Question} {log : List Exchange} (path : Path) → IsPath port question log path → left_in Ended < left_of_sending path
ended_less path p = ended_falls path 1 2 0 0 p.short

pub hearing_less : (path after : Path) (finds : ℕ) → after ≡ record path { sent = path.sent + 1 } → finds ≤ top → left_of_hearing after finds < left_of_sending path
hearing_less path after finds same few =
    coming_falls after path 0 1 1 2 0 0 finds 0 (ap (λ (p : Path). p.begun) same) (omega (arith, ap (λ (p : Path). p.sent) same)) (ap (λ (p : Path). length p.sets.items) same) (omega arith)
    (path_digits after 0 1 0 finds (omega arith) (omega arith) few)

-- ---- a response is heard

next_serves : {port : ℕ} {question : Question} {log : List Exchange} {server : Addr} {rest : List Addr} (searching : Search) → IsSearch port question log searching
    → drop (hunt_of searching).asked (hunt_of searching).addrs.items ≡ server ∷ rest → Known port log (Serves (hunt_of searching).servers.zone server)
next_serves {port} {question} {log} {server} {rest} searching s next =
    let P : Addr → Type 0 = λ addr. Known port log (Serves (hunt_of searching).servers.zone addr) in
    let all = All-drop P (hunt_of searching).asked (hunt_of searching).addrs.items (All-from_recursion P (hunt_of searching).addrs.items (innermost_hunt searching s).serve) in
    All-head P server rest (All-same P (server ∷ rest) (drop (hunt_of searching).asked (hunt_of searching).addrs.items) (sym next) all)

-- What it says tells something of the question.
tells : {port : ℕ} {zone : Labels} {question : Question} {message : Message} (says : Says) → IsSaid port zone question message says
    → Tells port zone question message
tells Answers said = inl said
tells (Denies rcode negative) said = inr (inl said.0.authoritative)
tells (Refers referral) said = inr (inr (referral, said))

pub hearing : (port : ℕ) (question : Question) (before log : List Exchange) (want : Want) (searching : Search) (server : Addr) (id : ℕ) (over : Over) (input : Input) (after : Search) (heard : Heard)
    → after ≡ counted searching → IsWaiting port question before want searching server id over → Adds before (exchange want input) log
    → IsJudged port over (hunt_of searching).servers.zone id (question_of searching) input (HeardVerdict heard) → SpelledOnce → IsHearing port question log after heard (allowed_in input heard.says)
hearing port question before log want searching server id over (Came octets allowance) after heard same w adds h once =
    let here = here_sent w adds in
    subst (λ (a : Search). IsHearing port question log a heard (allowed_for heard.says allowance)) (sym same) (record {
      is_search = search_sent w.is_search here refl w.some;
      message = h.message;
      allowance = allowance;
      was_allowed = record {
        server = server;
        over = over;
        bytes = w.bytes;
        id = id;
        octets = octets;
        came = record { before = before; after = []; split = here.adds };
        query = w.query;
        response = h.response;
      };
      is_allowed = refl;
      upto = log;
      came = here;
      responds = Known.responded here (unknown_innermost searching w.is_search) (next_serves searching w.is_search w.next) w.query (innermost_hunt searching w.is_search).zone h.response (record { whole = h.whole; says = tells heard.says h.says });
      finds = h.finds;
      chosen = h.chosen;
      passing = h.passing;
      says = h.says;
      orderly = all_sent once port server over w.bytes id (Came octets allowance) w.rest (turn_of over) Turn.heard searching.base searching.path.last searching.frames.items here w.query w.next (λ o was. tt) tt w.orderly;
      quiet = nothing_sent;
    })
hearing port question before log want searching server id over Failed after heard same w adds h once = let e : ⊥ = cc in absurd e
hearing port question before log want searching server id over Begin after heard same w adds h once = absurd h
hearing port question before log want searching server id over (Reply reply) after heard same w adds h once = absurd h
hearing port question before log want searching server id over (Refused fault) after heard same w adds h once = absurd h

-- ---- what came is acted on

pub acts_struck : {E : Type 0} (port : ℕ) (search : Search) (server : Addr) (id : ℕ) (over : Over) (input : Input) (r : Result Advance E) → IsJudged port over (hunt_of search).servers.zone id (question_of search) input StruckVerdict
    → ((other : Addr) (rest : List Addr) → IsNextServer search server (other ∷ rest) → IfOk r (λ t. AsksOver other Udp t.want)) → IfOk r (λ t. ActsOn port search server id over input t.want)
acts_struck port search server id over input (Ok t) judged asks = record { verdict = StruckVerdict; judged = judged; fits = asks }
acts_struck port search server id over input (Err e) judged asks = tt

pub acts_cut : {E : Type 0} (port : ℕ) (search : Search) (server : Addr) (id : ℕ) (over : Over) (input : Input) (r : Result Advance E) → IsJudged port over (hunt_of search).servers.zone id (question_of search) input Cut
    → IfOk r (λ t. AsksOver server Tcp t.want) → IfOk r (λ t. ActsOn port search server id over input t.want)
acts_cut port search server id over input (Ok t) judged asks = record { verdict = Cut; judged = judged; fits = asks }
acts_cut port search server id over input (Err e) judged asks = tt

pub acts_heard : {E : Type 0} (port : ℕ) (search : Search) (server : Addr) (id : ℕ) (over : Over) (input : Input) (moment : ℕ) (r : Result Advance E) (heard : Heard)
    → IsJudged port over (hunt_of search).servers.zone id (question_of search) input (HeardVerdict heard)
    → ((find : Find) → IsHanded heard.harvest.chosen (allowed_in input heard.says) 0 find → IfOk r (λ t. t.want ≡ Book (Admit moment find))) → IfOk r (λ t. ActsOn port search server id over input t.want)
acts_heard port search server id over input moment (Ok t) heard judged hands = record { verdict = HeardVerdict heard; judged = judged; fits = λ find is. (moment, hands find is) }
acts_heard port search server id over input moment (Err e) heard judged hands = tt

-- The next server is the one after the server that was asked in vain.
pub next_after : (before after : Search) (server other : Addr) (rest : List Addr) → hunt_of after ≡ one_vain (hunt_of before) → IsNextServer before server (other ∷ rest) → IsNextServer after other rest
next_after before after server other rest same is =
    subst (λ (h : Hunt). drop h.asked h.addrs.items ≡ other ∷ rest) (sym same) (drop_next (hunt_of before).asked (hunt_of before).addrs.items server (other ∷ rest) is)

pub vain_last : (frames : List Nested) (base hunt : Hunt) → frames ≡ [] → (base.asked < length base.addrs.items → hunt ≡ one_vain base)
    → (hunt_behind frames base).asked < length (hunt_behind frames base).addrs.items → hunt_behind frames hunt ≡ one_vain (hunt_behind frames base)
vain_last [] base hunt none becomes some = becomes some
vain_last (f ∷ fs) base hunt none becomes some = let e : ⊥ = cc in absurd e

pub vain_inner : (searching after : Search) (removed : Nested) (hunt : Hunt) → 0 < length searching.frames.items → removed ≡ slice_index_or searching.frames.items 0 removed
    → after.frames.items ≡ insert (remove searching.frames.items 0) 0 (record { target = removed.target; hunt = hunt }) → (removed.hunt.asked < length removed.hunt.addrs.items → hunt ≡ one_vain removed.hunt)
    → (hunt_of searching).asked < length (hunt_of searching).addrs.items → hunt_of after ≡ one_vain (hunt_of searching)
vain_inner searching after removed hunt some is are becomes left =
    let i = inner searching.frames.items some in
    let first : removed ≡ i.first = subst (λ (fs : List Nested). removed ≡ slice_index_or fs 0 removed) i.are is in
    let asked : hunt_of searching ≡ removed.hunt = ap (λ (fs : List Nested). hunt_behind fs searching.base) i.are ∙ ap (λ (f : Nested). f.hunt) (sym first) in
    let same : hunt ≡ one_vain removed.hunt = becomes (subst (λ (h : Hunt). h.asked < length h.addrs.items) asked left) in
    let back : after.frames.items ≡ record { target = removed.target; hunt = hunt } ∷ i.rest =
    subst (λ (fs : List Nested). after.frames.items ≡ insert (remove fs 0) 0 (record { target = removed.target; hunt = hunt })) i.are are in
    ap (λ (fs : List Nested). hunt_behind fs after.base) back ∙ same ∙ ap (λ (h : Hunt). one_vain h) (sym asked)
