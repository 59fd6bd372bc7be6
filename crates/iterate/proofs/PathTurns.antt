-- Steps of a path that are well made.
use Rattle.std.proofs.Common.{◌≡◌, ℕ, ◌+◌, ◌-◌, ◌<◌, ◌≤◌, List, [], ◌∷◌, ◌++◌, length, sym, ap, ◌∙◌, subst, refl, arith, true, false, Option, Some, None, MatchOption}
use Rattle.std.proofs.lemmas.List.{length-append}
use Rattle.dns_name.specs.Labels.{Labels}
use Rattle.dns_query.specs.Query.{alias_question}
use Rattle.dns_text.specs.declared.record.Data.{Data}
use Rattle.dns_text.specs.declared.record.Data.TheVariants.{A, Aaaa, One, Mx, Soa as SoaData, Txt, Srv, Opaque}
use Rattle.dns_text.specs.declared.record.Question.{Question}
use Rattle.dns_text.specs.declared.record.Record.{Record}
use Rattle.local_zone.specs.declared.local_answer.Local.{Local as LocalAnswer}
use Rattle.local_zone.specs.declared.local_answer.Local.TheVariants as local
use Rattle.rand_core.specs.Stream.{Stream}
use Rattle.history.specs.declared.event.Ask.{Ask}
use Rattle.history.specs.declared.event.Ask.TheVariants.{Answer as Asked, Servers as ServersFor}
use Rattle.history.specs.declared.event.Event.TheVariants.{Look}
use Rattle.history.specs.declared.event.Reply.TheVariants.{Taken, Outranked, Seen, Swept, Forgotten, Done, Refused as RefusedCommand, Undone, Redone, NothingToUndo, NothingToRedo, NotKept, Buried}
use Rattle.history.specs.declared.event.Seen.{Seen as SeenValue}
use Rattle.history.specs.declared.event.Seen.TheVariants.{Unknown, Held, Local as LocalSeen, Zones, Records, Stubs, Commands, Buried as BuriedSeen, Servers, Oldest, Command as SeenCommand, Refused as SeenRefused}
use Rattle.iterate.specs.declared.answer.Answer.{Answer}
use Rattle.iterate.specs.declared.answer.Answer.TheVariants.{Reply as Replies}
use Rattle.iterate.specs.declared.answer.Soa.{Soa}
use Rattle.iterate.specs.declared.answer.AnswerSet.{AnswerSet}
use Rattle.iterate.specs.declared.path.Path.{Path}
use Rattle.iterate.specs.declared.phase.Phase.{Phase}
use Rattle.iterate.specs.declared.phase.Phase.TheVariants.{First, Listing, Ended}
use Rattle.iterate.specs.declared.want.Input.{Input}
use Rattle.iterate.specs.declared.want.Input.TheVariants.{Begin, Reply, Refused, Came, Failed}
use Rattle.iterate.specs.declared.want.Want.{Want}
use Rattle.iterate.specs.declared.want.Want.TheVariants.{Book, Finish}
use Rattle.iterate.specs.Come.{HasCome}
use Rattle.iterate.specs.Exchanges.{Exchange, exchange, Adds, Happened, count_sends}
use Rattle.iterate.specs.Known.{Known, Had, WasUnknown}
use Rattle.iterate.specs.Looked.{IsReplied, IsSetSeen}
use Rattle.iterate.specs.Measure.{top, Falls, left_in, left_of_path, digits_of_path}
use Rattle.iterate.specs.Phase.{Goes, Drawing, idle}
use Rattle.iterate.specs.Resolved.{Began, BeganUnanswered, IsNoAnswer, is_local, Chain, IsDenied, Fails, IsBarred, ResolvedAs, IsResolved, question_at}
use Rattle.iterate.specs.Searching.{IsPath, IsAskable, IsUnasked, IsBehind, IsLonger}
use Rattle.iterate.specs.Served.{served_name}
use Rattle.iterate.specs.Shown.{EndsQuestion, IsMisanswered}
use Rattle.iterate.specs.Told.{IsFirstTarget, IsTarget}
use Rattle.iterate.specs.Wanted.{IsListedFor}
use Rattle.iterate.proofs.Falling.{Digits, weight_falls, path_digits, looks_fall, alias_falls, ended_falls}
use Rattle.iterate.proofs.Growing.{happened_last, path_more, sends_same}

-- A turn is what its phase and its want are.
pub turned : {port : ℕ} {question : Question} {log : List Exchange} {moment : ℕ} {id : Drawing} {left : ℕ} {phase phase' : Phase} {want want' : Want}
    → phase ≡ phase' → want ≡ want' → Goes port question log moment id left phase' want' → Goes port question log moment id left phase want
turned {port} {question} {log} {moment} {id} {left} {phase} {phase'} {want} {want'} p w g =
    subst (λ (f : Phase). Goes port question log moment id left f want) (sym p) (subst (λ (v : Want). Goes port question log moment id left phase' v) (sym w) g)

pub less_left : {port : ℕ} {question : Question} {log : List Exchange} {moment : ℕ} {id : Drawing} {left more : ℕ} {phase : Phase} {want : Want}
    → left ≤ more → Goes port question log moment id left phase want → Goes port question log moment id more phase want
less_left h g = record { wants = g.wants; drawn = g.drawn; fits = g.fits; falls = omega (arith, g.falls) }

-- ---- the measure

pub path_looks : (path : Path) (looks : ℕ) → looks ≤ top → Digits (digits_of_path path 0 0 top looks)
path_looks path looks few = path_digits path 0 0 top looks (omega arith) (omega arith) few

pub looks_less : (path : Path) (looks more : ℕ) → looks < more → looks ≤ top → left_of_path path looks < left_of_path path more
looks_less path looks more less few = looks_fall path path 0 0 0 top looks more refl refl refl less (path_looks path looks few)

pub longer_less : (path next : Path) (told : AnswerSet) (to : Labels) (looks more : ℕ) → IsLonger path told to next → looks ≤ top → left_of_path next looks < left_of_path path more
longer_less path next told to looks more l few =
    let longer : length next.sets.items ≡ length path.sets.items + 1 = ap (λ (xs : List AnswerSet). length xs) l.sets ∙ length-append path.sets.items (told ∷ []) in
    let same : 64 - (next.sent + 0) ≡ 64 - (path.sent + 0) = ap (λ (n : ℕ). 64 - (n + 0)) l.sent in
    alias_falls next path 0 0 0 0 top top looks more l.begun same (omega (arith, longer, l.short)) (path_looks next looks few)

pub path_some : {port : ℕ} {question : Question} {log : List Exchange} {path : Path} (looks : ℕ) → IsPath port question log path → left_in Ended < left_of_path path looks
path_some {path = path} looks p = ended_falls path 0 0 top looks p.short

pub start_less : (path : Path) → left_of_path path 3 < left_in First
start_less path =
    let f : Falls (digits_of_path path 0 0 top 3) (65 ∷ 0 ∷ 0 ∷ 0 ∷ 0 ∷ 0 ∷ []) = Falls.here (omega arith) refl in weight_falls f (path_looks path 3 (omega arith))

-- ---- the ends

-- An answer that resolves may be given.
pub answering : {port : ℕ} {question : Question} {log : List Exchange} {moment : ℕ} {id : Stream} {left : ℕ} (answer : Answer) → IsResolved port question log answer → count_sends log ≤ 64 → left_in Ended < left
    → Goes port question log moment (idle id) left Ended (Finish answer)
answering answer resolved few less = record { wants = resolved; drawn = refl; fits = (answer, refl, few); falls = less }

pub few_sent : {port : ℕ} {question : Question} {log : List Exchange} {path : Path} → IsPath port question log path → count_sends log ≤ 64
few_sent p = omega (arith, p.counted, p.few)

-- A look at the last name found nothing.
unknown_last : {port : ℕ} {question : Question} {log : List Exchange} {path : Path} → IsAskable port question log path → WasUnknown log (question_at question path.last.owner)
unknown_last {log = log} {path = path} p = subst (λ (k : ℕ). WasUnknown log (record { owner = path.last.owner; kind = k })) p.is_path.kind p.unknown

-- A set that is known ends the path.
pub telling : {port : ℕ} {question : Question} {log : List Exchange} {moment : ℕ} {id : Stream} {left : ℕ} (path : Path) (told : AnswerSet) → left_in Ended < left → IsAskable port question log path → Known port log (Had path.last told)
    → Goes port question log moment (idle id) left Ended (Finish (Replies 0 false path.sets.items (Some told) None))
telling {port} {question} {log} path told less a known =
    let p = a.is_path in
    let there : Known port log (Had (question_at question path.last.owner) told) = subst (λ (k : ℕ). Known port log (Had (record { owner = path.last.owner; kind = k }) told)) p.kind known in
    answering (Replies 0 false path.sets.items (Some told) None) (ResolvedAs.found {front = path.sets.items} {told = told} p.began p.chain p.short (unknown_last a) there) (few_sent p) less

-- So does what a response denies.
pub denying : {port : ℕ} {question : Question} {log : List Exchange} {moment : ℕ} {id : Stream} {left : ℕ} (path : Path) (rcode : ℕ) (authority : Option Soa) → left_in Ended < left → IsPath port question log path
    → IsDenied port log path.last rcode authority → Goes port question log moment (idle id) left Ended (Finish (Replies rcode false path.sets.items None authority))
denying {port} {question} {log} path rcode authority less p denied =
    let there : IsDenied port log (question_at question path.last.owner) rcode authority = subst (λ (k : ℕ). IsDenied port log (record { owner = path.last.owner; kind = k }) rcode authority) p.kind denied in
    answering (Replies rcode false path.sets.items None authority) (ResolvedAs.denied p.began p.chain p.short there) (few_sent p) less

-- So does what a look sees.
pub seeing : {port : ℕ} {question : Question} {before log : List Exchange} {m moment : ℕ} {id : Stream} {left : ℕ} (path : Path) (seen : SeenValue) {rcode : ℕ} {last : Option AnswerSet} {authority : Option Soa}
    → left_in Ended < left → IsPath port question before path → Adds before (exchange (Book (Look m (Asked path.last))) (Reply (Seen seen))) log → EndsQuestion path.last seen rcode last authority
    → Goes port question log moment (idle id) left Ended (Finish (Replies rcode false path.sets.items last authority))
seeing {port} {question} {before} {log} {m} path seen {rcode} {last} {authority} less p adds ends =
    let q = path_more p adds refl in
    let happened : Happened log (exchange (Book (Look m (Asked (question_at question path.last.owner)))) (Reply (Seen seen))) =
    subst (λ (k : ℕ). Happened log (exchange (Book (Look m (Asked (record { owner = path.last.owner; kind = k })))) (Reply (Seen seen)))) p.kind (happened_last adds) in
    let there : EndsQuestion (question_at question path.last.owner) seen rcode last authority =
    subst (λ (k : ℕ). EndsQuestion (record { owner = path.last.owner; kind = k }) seen rcode last authority) p.kind ends in
    answering (Replies rcode false path.sets.items last authority)
    (ResolvedAs.looked {front = path.sets.items} {seen = seen} q.began q.chain q.short happened there) (few_sent q) less

-- ---- failing

pub failing_behind : {port : ℕ} {question : Question} {log : List Exchange} {moment : ℕ} {id : Stream} {left : ℕ} (front : List AnswerSet) (last : Question) → left_in Ended < left → BeganUnanswered question log
    → Chain port log question front last.owner → last.kind ≡ question.kind → Fails port log last (length front) → count_sends log ≤ 64
    → Goes port question log moment (idle id) left Ended (Finish (Replies 2 false [] None None))
failing_behind {port} {question} {log} front last less began chain kind fails few =
    let there : Fails port log (question_at question last.owner) (length front) = subst (λ (k : ℕ). Fails port log (record { owner = last.owner; kind = k }) (length front)) kind fails in
    answering (Replies 2 false [] None None) (ResolvedAs.failed {front = front} began chain there) few less

pub failing : {port : ℕ} {question : Question} {log : List Exchange} {moment : ℕ} {id : Stream} {left : ℕ} (path : Path) → left_in Ended < left → IsPath port question log path → Fails port log path.last (length path.sets.items)
    → Goes port question log moment (idle id) left Ended (Finish (Replies 2 false [] None None))
failing path less p fails = failing_behind path.sets.items path.last less p.began p.chain p.kind fails (few_sent p)

-- A look got what it may not get.
pub failing_look : {port : ℕ} {question : Question} {before log : List Exchange} {m moment : ℕ} {id : Stream} {left : ℕ} (path : Path) (ask : Ask) (input : Input) → left_in Ended < left → IsPath port question before path
    → Adds before (exchange (Book (Look m ask)) input) log → IsMisanswered (Look m ask) input → Goes port question log moment (idle id) left Ended (Finish (Replies 2 false [] None None))
failing_look {m = m} path ask input less p adds bad =
    failing path less (path_more p adds refl) (Fails.misanswered {event = Look m ask} {input = input} (happened_last adds) bad)

-- A look behind an alias got what ends it without an answer.
pub failing_barred : {port : ℕ} {question : Question} {before log : List Exchange} {m moment : ℕ} {id : Stream} {left : ℕ} (path : Path) (seen : SeenValue) → left_in Ended < left → IsPath port question before path → 1 ≤ length path.sets.items
    → Adds before (exchange (Book (Look m (Asked path.last))) (Reply (Seen seen))) log → IsBarred seen → Goes port question log moment (idle id) left Ended (Finish (Replies 2 false [] None None))
failing_barred {m = m} path seen less p some adds barred =
    failing path less (path_more p adds refl) (Fails.barred {moment = m} {seen = seen} some (happened_last adds) barred)

-- There are more aliases than are followed.
pub failing_long : {port : ℕ} {question : Question} {log : List Exchange} {moment : ℕ} {id : Stream} {left : ℕ} (path : Path) (told : AnswerSet) (to : Labels) → left_in Ended < left → IsAskable port question log path
    → Known port log (Had (alias_question path.last.owner) told) → IsTarget told to → 16 ≤ length path.sets.items → Goes port question log moment (idle id) left Ended (Finish (Replies 2 false [] None None))
failing_long path told to less a known target long =
    let p = a.is_path in
    let longer : length (path.sets.items ++ told ∷ []) ≡ length path.sets.items + 1 = length-append path.sets.items (told ∷ []) in
    failing_behind (path.sets.items ++ told ∷ []) (record { owner = to; kind = path.last.kind }) less p.began (Chain.alias p.chain (unknown_last a) known target refl) p.kind
    (Fails.long (omega (arith, longer, long, p.short))) (few_sent p)

-- ---- the path

-- It goes on along an alias.
pub longer_path : {port : ℕ} {question : Question} {log : List Exchange} {path next : Path} {told : AnswerSet} {to : Labels} → IsAskable port question log path → Known port log (Had (alias_question path.last.owner) told)
    → IsTarget told to → IsLonger path told to next → IsPath port question log next
longer_path {port} {question} {log} {path} {next} a known target l =
    let p = a.is_path in record {
      began = p.began;
      chain = subst (λ (q : Question). Chain port log question next.sets.items q.owner) (sym l.last) (Chain.alias p.chain (unknown_last a) known target l.sets);
      kind = ap (λ (q : Question). q.kind) l.last ∙ p.kind;
      short = l.short;
      counted = l.sent ∙ p.counted;
      few = omega (arith, l.sent, p.few);
    }

pub longer_some : {path next : Path} {told : AnswerSet} {to : Labels} → IsLonger path told to next → 1 ≤ length next.sets.items
longer_some {path} {next} {told} {to} l =
    let longer : length next.sets.items ≡ length path.sets.items + 1 = ap (λ (xs : List AnswerSet). length xs) l.sets ∙ length-append path.sets.items (told ∷ []) in
    omega (arith, longer)

-- A set of aliases has one first target.
pub same_target : {to other : Labels} (data_given : List Data) → IsFirstTarget data_given to → IsFirstTarget data_given other → to ≡ other
same_target [] is also = absurd is
same_target (One name ∷ ds) is also = is ∙ sym also
same_target (A octets ∷ ds) is also = absurd is
same_target (Aaaa octets ∷ ds) is also = absurd is
same_target (Mx preference exchange ∷ ds) is also = absurd is
same_target (SoaData primary mailbox serial refresh retry expire minimum ∷ ds) is also = absurd is
same_target (Txt strings ∷ ds) is also = absurd is
same_target (Srv priority weight port target ∷ ds) is also = absurd is
same_target (Opaque octets ∷ ds) is also = absurd is

-- It is looked at behind the alias.
pub longer_behind : {port : ℕ} {question : Question} {log : List Exchange} {path next : Path} {told : AnswerSet} {to : Labels} → IsAskable port question log path → Known port log (Had (alias_question path.last.owner) told)
    → IsTarget told to → HasCome port question log to → IsLonger path told to next → IsBehind port question log next
longer_behind {port} {question} {log} a known target come l = record {
  is_path = longer_path a known target l;
  some = longer_some l;
  come = subst (λ (q : Question). HasCome port question log q.owner) (sym l.last) come;
}

-- The set that a look showed is known.
pub set_known : (port m : ℕ) (question : Question) (input : Input) (before log : List Exchange) (seen : SeenValue) (told : AnswerSet) → IsReplied question input seen → IsSetSeen seen told
    → Adds before (exchange (Book (Look m (Asked question))) input) log → Known port log (Had question told)
set_known port m question input before log (Held shown) told r set adds =
    subst (λ (t : AnswerSet). Known port log (Had question t)) (sym set.1)
    (Known.looked (subst (λ (i : Input). Adds before (exchange (Book (Look m (Asked question))) i) log) r.replied adds) (record { shown_for = r.lawful; has_data = set.0 }))
set_known port m question input before log (LocalSeen (local.Data records)) told r set adds =
    subst (λ (t : AnswerSet). Known port log (Had question t)) (sym set)
    (Known.local (subst (λ (i : Input). Adds before (exchange (Book (Look m (Asked question))) i) log) r.replied adds) r.lawful)
set_known port m question input before log (LocalSeen (local.NoData soa)) told r set adds = absurd set
set_known port m question input before log (LocalSeen (local.NoName soa)) told r set adds = absurd set
set_known port m question input before log (LocalSeen local.Refuse) told r set adds = absurd set
set_known port m question input before log (LocalSeen local.Drop) told r set adds = absurd set
set_known port m question input before log (LocalSeen local.Pass) told r set adds = absurd set
set_known port m question input before log Unknown told r set adds = absurd set
set_known port m question input before log (Zones zones) told r set adds = absurd set
set_known port m question input before log (Records records) told r set adds = absurd set
set_known port m question input before log (Stubs stubs) told r set adds = absurd set
set_known port m question input before log (Commands commands) told r set adds = absurd set
set_known port m question input before log (BuriedSeen buried) told r set adds = absurd set
set_known port m question input before log (Servers servers) told r set adds = absurd set
set_known port m question input before log (Oldest name) told r set adds = absurd set
set_known port m question input before log (SeenCommand held) told r set adds = absurd set
set_known port m question input before log (SeenRefused why) told r set adds = absurd set

-- ---- the first look

pub first_began : {question : Question} {input : Input} {log : List Exchange} {m : ℕ} → Adds [] (exchange (Book (Look m (Asked question))) input) log → Began question input log
first_began {m = m} adds = record { moment = m; rest = []; begins = adds.adds }

first_few : {question : Question} {input : Input} {log : List Exchange} {m : ℕ} → Adds [] (exchange (Book (Look m (Asked question))) input) log → count_sends log ≤ 64
first_few adds = let none = sends_same adds refl in omega (arith, none)

pub first_some : left_in Ended < left_in First
first_some = omega arith

-- What it sees ends the question.
pub first_ends : {port : ℕ} {question : Question} {log : List Exchange} {m : ℕ} (seen : SeenValue) {rcode : ℕ} {last : Option AnswerSet} {authority : Option Soa}
    → Adds [] (exchange (Book (Look m (Asked question))) (Reply (Seen seen))) log → EndsQuestion question seen rcode last authority
    → IsResolved port question log (Replies rcode (is_local seen) [] last authority)
first_ends seen adds ends = ResolvedAs.at_once {seen = seen} (first_began adds) ends

pub first_refused : {port : ℕ} {question : Question} {log : List Exchange} {m : ℕ} → Adds [] (exchange (Book (Look m (Asked question))) (Reply (Seen (LocalSeen local.Refuse)))) log
    → IsResolved port question log (Replies 5 true [] None None)
first_refused adds = ResolvedAs.refused (first_began adds)

-- An answer that resolves after it may be given.
pub first_answering : {port : ℕ} {question : Question} {input : Input} {log : List Exchange} {m moment : ℕ} {id : Stream} (answer : Answer)
    → Adds [] (exchange (Book (Look m (Asked question))) input) log → IsResolved port question log answer
    → Goes port question log moment (idle id) (left_in First) Ended (Finish answer)
first_answering answer adds resolved = answering answer resolved (first_few adds) first_some

-- What may not be replied to it is no answer.
pub no_answer : (m : ℕ) (question : Question) (input : Input) → IsMisanswered (Look m (Asked question)) input → IsNoAnswer question input
no_answer m question (Reply (Seen (Held shown))) bad = bad
no_answer m question (Reply (Seen (LocalSeen answer))) bad = bad
no_answer m question (Reply (Seen Unknown)) bad = tt
no_answer m question (Reply (Seen (Zones zones))) bad = tt
no_answer m question (Reply (Seen (Records records))) bad = tt
no_answer m question (Reply (Seen (Stubs stubs))) bad = tt
no_answer m question (Reply (Seen (Commands commands))) bad = tt
no_answer m question (Reply (Seen (BuriedSeen buried))) bad = tt
no_answer m question (Reply (Seen (Servers servers))) bad = tt
no_answer m question (Reply (Seen (Oldest name))) bad = tt
no_answer m question (Reply (Seen (SeenCommand held))) bad = tt
no_answer m question (Reply (Seen (SeenRefused why))) bad = tt
no_answer m question (Reply Taken) bad = tt
no_answer m question (Reply Outranked) bad = tt
no_answer m question (Reply Swept) bad = tt
no_answer m question (Reply Forgotten) bad = tt
no_answer m question (Reply (Done ticket)) bad = tt
no_answer m question (Reply (RefusedCommand reason)) bad = tt
no_answer m question (Reply (Undone ticket)) bad = tt
no_answer m question (Reply (Redone ticket)) bad = tt
no_answer m question (Reply NothingToUndo) bad = tt
no_answer m question (Reply NothingToRedo) bad = tt
no_answer m question (Reply NotKept) bad = tt
no_answer m question (Reply (Buried ticket)) bad = tt
no_answer m question (Refused fault) bad = tt
no_answer m question Begin bad = tt
no_answer m question (Came octets allowance) bad = tt
no_answer m question Failed bad = tt

pub first_failing : {port : ℕ} {question : Question} {log : List Exchange} {m moment : ℕ} {id : Stream} (input : Input) → Adds [] (exchange (Book (Look m (Asked question))) input) log
    → IsMisanswered (Look m (Asked question)) input → Goes port question log moment (idle id) (left_in First) Ended (Finish (Replies 2 false [] None None))
first_failing {question = question} {m = m} input adds bad =
    failing_behind [] question first_some (record { input = input; began = first_began adds; no_answer = no_answer m question input bad }) Chain.start refl
    (Fails.misanswered {event = Look m (Asked question)} {input = input} (happened_last adds) bad) (first_few adds)

-- Where nothing was known there is no answer.
pub unless_known : (port : ℕ) (question : Question) (input : Input) (log : List Exchange) (answer : Option Answer)
    → MatchOption answer (input ≡ Reply (Seen Unknown)) (IsResolved port question log) → MatchOption answer (IsNoAnswer question input) (IsResolved port question log)
unless_known port question input log None unknown = subst (λ (i : Input). IsNoAnswer question i) (sym unknown) tt
unless_known port question input log (Some answer) resolved = resolved

-- It knew nothing.
pub first_unknown : {question : Question} {log : List Exchange} {m : ℕ} (path : Path) → Adds [] (exchange (Book (Look m (Asked question))) (Reply (Seen Unknown))) log → path.last ≡ question → WasUnknown log path.last
first_unknown {log = log} {m = m} path adds last = subst (λ (q : Question). WasUnknown log q) (sym last) (record { moment = m; looked = happened_last adds })

-- The path begins.
pub first_path : {port : ℕ} {question : Question} {log : List Exchange} {m : ℕ} (path : Path) → Adds [] (exchange (Book (Look m (Asked question))) (Reply (Seen Unknown))) log
    → path.last ≡ question → path.sets.items ≡ [] → path.sent ≡ 0 → IsPath port question log path
first_path {port} {question} {log} path adds last none unsent =
    let sent = sends_same adds refl in record {
      began = record { input = Reply (Seen Unknown); began = first_began adds; no_answer = tt };
      chain = subst (λ (xs : List AnswerSet). Chain port log question xs path.last.owner) (sym none) (subst (λ (q : Question). Chain port log question [] q.owner) (sym last) Chain.start);
      kind = ap (λ (q : Question). q.kind) last;
      short = omega (arith, ap (λ (xs : List AnswerSet). length xs) none);
      counted = unsent ∙ sym sent;
      few = omega (arith, unsent);
    }

-- What bars a question and does not drop it refuses it.
pub barred_refused : {answer : LocalAnswer (List Record) Record} → IsBarred (LocalSeen answer) → ¬ (answer ≡ local.Drop) → answer ≡ local.Refuse
barred_refused IsBarred.refused not_dropped = refl
barred_refused IsBarred.dropped not_dropped = absurd (not_dropped refl)

-- ---- servers

-- The servers that are asked about the last question are looked for.
pub listing : (port : ℕ) (question : Question) (log : List Exchange) (moment : ℕ) (id : Stream) (path : Path) (name : Labels) → name ≡ served_name path.last → IsUnasked port question log path
    → Goes port question log moment (idle id) (left_of_path path 2) (Listing path) (Book (Look moment (ServersFor name)))
listing port question log moment id path name same u = record {
  wants = (
    refl,
    subst (λ (n : Labels). IsListedFor port log question n) (sym same)
        (subst (λ (k : ℕ). IsListedFor port log question (served_name (record { owner = path.last.owner; kind = k }))) (sym u.askable.is_path.kind) (IsListedFor.of_name u.askable.is_path.chain u.come)),
  );
  drawn = refl;
  fits = (u.askable, record { moment = moment; wanted = ap (λ (n : Labels). Book (Look moment (ServersFor n))) same });
  falls = looks_less path 1 2 (omega arith) (omega arith);
}

-- A look shows one set.
pub same_set : (seen : SeenValue) (told other : AnswerSet) → IsSetSeen seen told → IsSetSeen seen other → told ≡ other
same_set (Held shown) told other is also = is.1 ∙ sym also.1
same_set (LocalSeen (local.Data records)) told other is also = is ∙ sym also
same_set (LocalSeen (local.NoData soa)) told other is also = absurd is
same_set (LocalSeen (local.NoName soa)) told other is also = absurd is
same_set (LocalSeen local.Refuse) told other is also = absurd is
same_set (LocalSeen local.Drop) told other is also = absurd is
same_set (LocalSeen local.Pass) told other is also = absurd is
same_set Unknown told other is also = absurd is
same_set (Zones zones) told other is also = absurd is
same_set (Records records) told other is also = absurd is
same_set (Stubs stubs) told other is also = absurd is
same_set (Commands commands) told other is also = absurd is
same_set (BuriedSeen buried) told other is also = absurd is
same_set (Servers servers) told other is also = absurd is
same_set (Oldest name) told other is also = absurd is
same_set (SeenCommand held) told other is also = absurd is
same_set (SeenRefused why) told other is also = absurd is
