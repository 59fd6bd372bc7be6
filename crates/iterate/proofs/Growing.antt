-- What holds of some exchanges holds with one more.
use Rattle.std.proofs.Common.{◌≡◌, ℕ, ◌+◌, ◌<◌, List, [], ◌∷◌, ◌++◌, sym, ap, ◌∙◌, subst, refl, append_assoc, arith, true, false}
use Rattle.std.specs.List.{AllByRecursion}
use Rattle.std.specs.List.{count_by}
use Rattle.std.proofs.lemmas.List.Sums.{sum_by-append}
use Rattle.dns_name.specs.Labels.{Labels}
use Rattle.dns_text.specs.declared.addr.Addr.{Addr}
use Rattle.dns_text.specs.declared.record.Question.{Question}
use Rattle.dns_wire.specs.declared.message.Message.{Message}
use Rattle.history.specs.declared.servers.Servers.{Servers}
use Rattle.iterate.specs.declared.answer.AnswerSet.{AnswerSet}
use Rattle.iterate.specs.declared.path.Path.{Path}
use Rattle.iterate.specs.declared.search.Nested.{Nested}
use Rattle.iterate.specs.declared.search.Hunt.{Hunt}
use Rattle.iterate.specs.declared.search.Search.{Search}
use Rattle.iterate.specs.declared.want.Allowance.{Allowance}
use Rattle.iterate.specs.Come.{WasAllowed}
use Rattle.iterate.specs.Exchanges.{Exchange, Adds, Happened, is_send, count_sends}
use Rattle.iterate.specs.Known.{Known, Serves, WasUnknown}
use Rattle.iterate.specs.Resolved.{BeganUnanswered, Chain, ReachedFor, Struck, Sought}
use Rattle.iterate.specs.Searching.{IsPath, IsAskable, IsHunt, IsBase, AreFrames, IsSearch}
use Rattle.iterate.specs.Wanted.{IsAskedFor}

-- ---- exchanges

-- the exchanges after a place, with one more
pub behind_more : {log after : List Exchange} {y : Exchange} (before since : List Exchange) (x : Exchange) → log ≡ before ++ x ∷ since → Adds log y after → after ≡ before ++ x ∷ (since ++ y ∷ [])
behind_more {log} {after} {y} before since x split a = a.adds ∙ ap (λ (xs : List Exchange). xs ++ y ∷ []) split ∙ append_assoc before (x ∷ since) (y ∷ [])

pub happened_more : {log after : List Exchange} {x y : Exchange} → Happened log x → Adds log y after → Happened after x
happened_more {log} {after} {x} {y} h a = record { before = h.before; after = h.after ++ y ∷ []; split = behind_more h.before h.after x h.split a }

-- with an exchange more, a response is one that came
abbrev pub allowed_more : {log after : List Exchange} {y : Exchange} {question : Question} {message : Message} {allowance : Allowance} → WasAllowed log question message allowance → Adds log y after → WasAllowed after question message allowance
allowed_more {y = y} h a = record {
  server = h.server;
  over = h.over;
  bytes = h.bytes;
  id = h.id;
  octets = h.octets;
  came = record { before = h.came.before; after = h.came.after ++ y ∷ []; split = behind_more h.came.before h.came.after _ h.came.split a };
  query = h.query;
  response = h.response;
}

pub happened_last : {log after : List Exchange} {x : Exchange} → Adds log x after → Happened after x
happened_last {log} {after} {x} a = record { before = log; after = []; split = a.adds }

-- what happened since a place happened
pub happened_since : {log : List Exchange} {y : Exchange} (before since : List Exchange) (x : Exchange) → log ≡ before ++ x ∷ since → Happened since y → Happened log y
happened_since {log} {y} before since x split h = record {
  before = before ++ x ∷ h.before;
  after = h.after;
  split = split ∙ ap (λ (xs : List Exchange). before ++ x ∷ xs) h.split ∙ sym (append_assoc before (x ∷ h.before) (y ∷ h.after));
}

-- what a look did not find
pub unknown_more : {log after : List Exchange} {y : Exchange} {question : Question} → WasUnknown log question → Adds log y after → WasUnknown after question
unknown_more u a = record { moment = u.moment; looked = happened_more u.looked a }

counted : (log : List Exchange) (x : Exchange) → count_by is_send (log ++ x ∷ []) ≡ count_by is_send log + count_by is_send (x ∷ [])
counted log x = sum_by-append _ log (x ∷ [])

pub sends_more : {log after : List Exchange} {y : Exchange} → Adds log y after → is_send y ≡ true → count_sends after ≡ count_sends log + 1
sends_more {log} {after} {y} a is = ap (λ (xs : List Exchange). count_by is_send xs) a.adds ∙ counted log y ∙ rw is

pub sends_same : {log after : List Exchange} {y : Exchange} → Adds log y after → is_send y ≡ false → count_sends after ≡ count_sends log
sends_same {log} {after} {y} a is = ap (λ (xs : List Exchange). count_by is_send xs) a.adds ∙ counted log y ∙ rw is (omega arith)

-- ---- the path

pub began_more : {log after : List Exchange} {y : Exchange} {question : Question} → BeganUnanswered question log → Adds log y after → BeganUnanswered question after
began_more {log} {after} {y} {question} b a = record {
  input = b.input;
  began = record { moment = b.began.moment; rest = b.began.rest ++ y ∷ []; begins = a.adds ∙ ap (λ (xs : List Exchange). xs ++ y ∷ []) b.began.begins };
  no_answer = b.no_answer;
}

pub chain_more : {port : ℕ} {log after : List Exchange} {y : Exchange} {question : Question} {sets : List AnswerSet} {to : Labels} → Adds log y after → Chain port log question sets to → Chain port after question sets to
chain_more a Chain.start = Chain.start
chain_more a (Chain.alias front unknown known target is) = Chain.alias (chain_more a front) (unknown_more unknown a) (Known.kept a known) target is

-- with an exchange that is no query
pub path_more : {port : ℕ} {question : Question} {log after : List Exchange} {y : Exchange} {path : Path} → IsPath port question log path → Adds log y after → is_send y ≡ false → IsPath port question after path
path_more p a is = record { began = began_more p.began a; chain = chain_more a p.chain; kind = p.kind; short = p.short; counted = p.counted ∙ sym (sends_same a is); few = p.few }

-- The last question may be asked.
pub last_asked : {port : ℕ} {question : Question} {log : List Exchange} {path : Path} → IsPath port question log path → IsAskedFor port log question path.last
last_asked {port} {question} {log} {path} p =
    subst (λ (k : ℕ). IsAskedFor port log question (record { owner = path.last.owner; kind = k })) (sym p.kind) (IsAskedFor.of_name p.chain)

pub askable_more : {port : ℕ} {question : Question} {log after : List Exchange} {y : Exchange} {path : Path} → IsAskable port question log path → Adds log y after → is_send y ≡ false → IsAskable port question after path
askable_more p a is = record { is_path = path_more p.is_path a is; unknown = unknown_more p.unknown a }

-- with a query
pub path_sent : {port : ℕ} {question : Question} {log after : List Exchange} {y : Exchange} {path : Path} → IsPath port question log path → Adds log y after → is_send y ≡ true → path.sent < 64
    → IsPath port question after (record path { sent = path.sent + 1 })
path_sent p a is less = record {
  began = began_more p.began a;
  chain = chain_more a p.chain;
  kind = p.kind;
  short = p.short;
  counted = ap (λ (n : ℕ). n + 1) p.counted ∙ sym (sends_more a is);
  few = omega (arith, less);
}

-- ---- the search

pub struck_more : {port : ℕ} {log after : List Exchange} {y : Exchange} {zone : Labels} {question : Question} {server : Addr} → Struck port log zone question server → Adds log y after → Struck port after zone question server
struck_more s a = record { over = s.over; bytes = s.bytes; id = s.id; input = s.input; asked = happened_more s.asked a; query = s.query; useless = s.useless }

pub sought_more : {port : ℕ} {log after : List Exchange} {y : Exchange} {target : Labels} {P : Addr → Type 0} → Sought port log target P → Adds log y after → Sought port after target P
sought_more s a = record { moment = s.moment; input = s.input; looked = happened_more s.looked a; became = s.became }

-- What became of each address that was seen is more than this.
pub sought_as : {port : ℕ} {log : List Exchange} {target : Labels} {P Q : Addr → Type 0} → ((addr : Addr) → P addr → Q addr) → Sought port log target P → Sought port log target Q
sought_as f s = record { moment = s.moment; input = s.input; looked = s.looked; became = λ addr shown. f addr (s.became addr shown) }

-- the exchanges since a list was reached, with one more
pub since_more : (since : List Exchange) (y : Exchange) → Adds since y (since ++ y ∷ [])
since_more since y = record { adds = refl }

pub reached_more : {port : ℕ} {log after since : List Exchange} {y : Exchange} {question : Question} {servers : Servers} → ReachedFor port log question servers since → Adds log y after → ReachedFor port after question servers (since ++ y ∷ [])
reached_more {since = since} (ReachedFor.by_book before moment split) a = ReachedFor.by_book before moment (behind_more before since _ split a)
reached_more {since = since} (ReachedFor.by_referral before upto server over bytes octets allowance split came known refers are) a =
    ReachedFor.by_referral before upto server over bytes octets allowance (behind_more before since _ split a) came known refers are

pub unknown_since : {port : ℕ} {log since : List Exchange} {question other : Question} {servers : Servers} → ReachedFor port log question servers since → WasUnknown since other → WasUnknown log other
unknown_since {since = since} (ReachedFor.by_book before moment split) u = record { moment = u.moment; looked = happened_since before since _ split u.looked }
unknown_since {since = since} (ReachedFor.by_referral before upto server over bytes octets allowance split came known refers are) u = record { moment = u.moment; looked = happened_since before since _ split u.looked }

pub serve_more : (port : ℕ) {log after : List Exchange} {y : Exchange} (zone : Labels) (addrs : List Addr) → Adds log y after
    → AllByRecursion (λ addr. Known port log (Serves zone addr)) addrs → AllByRecursion (λ addr. Known port after (Serves zone addr)) addrs
serve_more port zone [] a all = tt
serve_more port zone (addr ∷ addrs) a all = (Known.kept a all.0, serve_more port zone addrs a all.1)

pub hunt_more : {port : ℕ} {log after : List Exchange} {y : Exchange} {name : Labels} {hunt : Hunt} → IsHunt port log name hunt → Adds log y after → IsHunt port after name hunt
hunt_more {port} {log} {after} {y} {name} {hunt} h a = record {
  listed = Known.kept a h.listed;
  zone = h.zone;
  serve = serve_more port hunt.servers.zone hunt.addrs.items a h.serve;
  asked = h.asked;
  sought = h.sought;
  countable = h.countable;
}

pub base_more : {port : ℕ} {log after since : List Exchange} {y : Exchange} {question : Question} {hunt : Hunt} → IsBase port log question since hunt → Adds log y after → IsBase port after question (since ++ y ∷ []) hunt
base_more {port} {log} {after} {since} {y} {question} {hunt} b a = record {
  unknown = unknown_more b.unknown a;
  is_hunt = hunt_more b.is_hunt a;
  reached = reached_more b.reached a;
  all = b.all;
  vain = λ addr is. struck_more (b.vain addr is) (since_more since y);
  sought = λ target is may. sought_more (b.sought target is may) (since_more since y);
}

pub frames_more : (port : ℕ) {log after : List Exchange} {y : Exchange} (since : List Exchange) (base : Hunt) (frames : List Nested) → Adds log y after
    → AreFrames port log since base frames → AreFrames port after (since ++ y ∷ []) base frames
frames_more port since base [] a all = tt
frames_more port {log} {after} {y} since base (f ∷ frames) a all =
    (record { next = all.0.next; early = all.0.early; unknown = unknown_more all.0.unknown (since_more since y); hunt = hunt_more all.0.hunt a }, frames_more port since base frames a all.1)

-- with the path as it is then
pub search_more : {port : ℕ} {question : Question} {log after : List Exchange} {y : Exchange} {search : Search} → IsSearch port question log search → Adds log y after
    → (path : Path) → IsPath port question after path → path.last ≡ search.path.last → IsSearch port question after (record search { path = path })
search_more {port} {question} {log} {after} {y} {search} s a path p same = record {
  path = p;
  since = s.since ++ y ∷ [];
  base = subst (λ (q : Question). IsBase port after q (s.since ++ y ∷ []) search.base) (sym same) (base_more s.base a);
  frames = frames_more port s.since search.base search.frames.items a s.frames;
  deep = s.deep;
}

-- with an exchange that is no query
pub search_looked : {port : ℕ} {question : Question} {log after : List Exchange} {y : Exchange} {search : Search} → IsSearch port question log search → Adds log y after → is_send y ≡ false
    → IsSearch port question after search
search_looked {search = search} s a is = search_more s a search.path (path_more s.path a is) refl

-- with a query
pub search_sent : {port : ℕ} {question : Question} {log after : List Exchange} {y : Exchange} {search : Search} → IsSearch port question log search → Adds log y after → is_send y ≡ true → search.path.sent < 64
    → IsSearch port question after (record search { path = record search.path { sent = search.path.sent + 1 } })
search_sent {search = search} s a is less = search_more s a (record search.path { sent = search.path.sent + 1 }) (path_sent s.path a is less) refl
