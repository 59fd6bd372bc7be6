-- How a find is handed to a book, which may be full.
use Rattle.std.proofs.Common.{◌≡◌, ℕ, ◌+◌, ◌<◌, ◌≤◌, List, [], ◌∷◌, ◌++◌, length, map, min, take, get_or, Bool, true, false, Some, None, Result, Ok, Err, IfOk, sym, ap, ◌∙◌, subst, refl, arith}
use Rattle.std.specs.List.{Contains}
use Rattle.std.proofs.lemmas.Bool.{false≢true}
use Rattle.std.proofs.lemmas.List.{length-map, length-take, length-drop, get_or-map, get_or-drop, get_or-take, take-map}
use Rattle.dns_name.specs.Labels.{Labels}
use Rattle.dns_query.specs.declared.over.Over.{Over}
use Rattle.dns_text.specs.declared.addr.Addr.{Addr}
use Rattle.dns_text.specs.declared.record.Question.{Question}
use Rattle.dns_query.specs.declared.verdict.Heard.{Heard}
use Rattle.harvest.specs.Chosen.{chosen_in}
use Rattle.neg_rule.specs.Negative.{Said, said_by}
use Rattle.rand_core.specs.Stream.{Stream}
use Rattle.ranked.specs.declared.find.Find.{Find}
use Rattle.history.specs.declared.book.StepFault.TheVariants.{Full}
use Rattle.history.specs.declared.desk.DeskFault.TheVariants.{Step}
use Rattle.history.specs.declared.event.Ask.TheVariants.{Oldest}
use Rattle.history.specs.declared.event.Event.{Event}
use Rattle.history.specs.declared.event.Event.TheVariants.{Admit, Forget, Look, Sweep}
use Rattle.history.specs.declared.event.Reply.TheVariants.{Seen, Swept, Forgotten}
use Rattle.history.specs.declared.event.Seen.TheVariants.{Oldest as SeenOldest}
use Rattle.iterate.specs.declared.answer.Answer.TheVariants.{Reply as Replies}
use Rattle.iterate.specs.declared.path.Path.{Path}
use Rattle.iterate.specs.declared.phase.Advance.{Advance}
use Rattle.iterate.specs.declared.phase.Attempt.{Attempt}
use Rattle.iterate.specs.declared.phase.Attempt.TheVariants as attempt
use Rattle.iterate.specs.declared.phase.Handing.{Handing}
use Rattle.iterate.specs.declared.phase.Phase.TheVariants.{Admitting, Ended}
use Rattle.iterate.specs.declared.search.Search.{Search}
use Rattle.iterate.specs.declared.want.AskFault.TheVariants.{Desk}
use Rattle.iterate.specs.declared.want.Input.{Input}
use Rattle.iterate.specs.declared.want.Input.TheVariants.{Reply, Refused}
use Rattle.iterate.specs.declared.want.Want.{Want}
use Rattle.iterate.specs.declared.want.Want.TheVariants.{Book, Send, Finish}
use Rattle.iterate.specs.Exchanges.{Exchange, exchange, Adds, sends}
use Rattle.iterate.specs.Measure.{top, attempts_left, left_of_finds, left_of_hearing}
use Rattle.iterate.specs.Phase.{Goes, IsHearing, IsTold, Suits, idle}
use Rattle.iterate.specs.Resolved.{Fails}
use Rattle.iterate.specs.Room.{is_room, MadeRoom, FoundFull, IsFull, IsSwept, IsFullAgain, IsNamed, IsForgotten, MayHand, IsHanded, IsAsked, IsHandedBy, IsTrying, IsHanding, IsTaken, IsRefusal, NamesNone, IsHandedNext, HandsOn, AsksNext, IsNoneOldest, SaysFull}
use Rattle.iterate.specs.Searching.{IsPath, hunt_of, question_of}
use Rattle.iterate.specs.Shown.{IsMisanswered}
use Rattle.iterate.specs.Wanted.{IsHarvested, MayCall}
use Rattle.iterate.proofs.Growing.{happened_last}
use Rattle.iterate.proofs.PathTurns.{failing}
use Rattle.iterate.proofs.Hearing.{responding, hearing_more, ended_hearing, find_less, finds_at_least}

-- ---- the last exchange

abbrev last_of : Exchange → List Exchange → Exchange
last_of x [] = x
last_of x (y ∷ ys) = last_of y ys

last_push : (x y : Exchange) (ys : List Exchange) → last_of x (ys ++ y ∷ []) ≡ y
last_push x y [] = refl
last_push x y (z ∷ zs) = last_push z y zs

same_last : {before other log : List Exchange} {x y : Exchange} → Adds before x log → Adds other y log → x ≡ y
same_last {before} {other} {log} {x} {y} a b = sym (last_push x x before) ∙ ap (λ (xs : List Exchange). last_of x xs) (sym a.adds ∙ b.adds) ∙ last_push x y other

-- What came of the last want is no room.
pub no_room : {before log : List Exchange} {want : Want} {input : Input} → Adds before (exchange want input) log → is_room want input ≡ false → MadeRoom log → ⊥
no_room {want = want} {input = input} a is made =
    let same : is_room want input ≡ is_room made.want made.input = ap (λ (x : Exchange). is_room x.want x.input) (same_last a made.adds) in
    false≢true (sym is ∙ same ∙ made.room)

-- The last want was a query.
pub sent_no_room : {before log : List Exchange} {want : Want} {input : Input} {server : Addr} {over : Over} {bytes : List ℕ} → want ≡ Send server over bytes → Adds before (exchange want input) log → MadeRoom log → ⊥
sent_no_room {input = input} is a = no_room a (ap (λ (w : Want). is_room w input) is)

pub came_as : {before log : List Exchange} {want other : Want} {input came : Input} → Adds before (exchange want input) log → want ≡ other → input ≡ came → Adds before (exchange other came) log
came_as {before} {log} {want} {other} {input} {came} a w i =
    subst (λ (v : Want). Adds before (exchange v came) log) w (subst (λ (n : Input). Adds before (exchange want n) log) i a)

pub unswept : (m : ℕ) (input : Input) → (input ≡ Reply Swept → ⊥) → is_room (Book (Sweep m)) input ≡ false
unswept m (Reply Swept) other = absurd (other refl)
unswept m input other = refl

pub unforgotten : (m : ℕ) (owner : Labels) (input : Input) → (input ≡ Reply Forgotten → ⊥) → is_room (Book (Forget m owner)) input ≡ false
unforgotten m owner (Reply Forgotten) other = absurd (other refl)
unforgotten m owner input other = refl

-- ---- the find

-- At a place there is one find.
pub one_find : {finds : List Find} {allowed next : ℕ} {find other : Find} → IsHanded finds allowed next find → IsHanded finds allowed next other → find ≡ other
one_find {find = find} {other = other} h k = let e : find ≡ other = cc (sym h.at ∙ k.at) in e

among_first : (finds : List Find) (allowed next : ℕ) (find : Find) → IsHanded finds allowed next find → Contains (take (min 64 allowed) finds) find
among_first finds allowed next find h =
    let early : next < min 64 allowed = omega (arith, h.early, h.within) in
    let within : next < length finds = omega (arith, ap (λ (xs : List Find). length xs) h.at, length-drop next finds) in
    let zero_more : next + 0 ≡ next = omega arith in
    let at : get_or finds next find ≡ find = sym (ap (λ (n : ℕ). get_or finds n find) zero_more) ∙ sym (get_or-drop next finds 0 find) ∙ ap (λ (xs : List Find). get_or xs 0 find) h.at in
    (next, omega (arith, early, within, length-take (min 64 allowed) finds), get_or-take (min 64 allowed) finds next find early ∙ at)

mapped : (finds : List Find) (find : Find) → Contains finds find → Contains (map said_by finds) (said_by find)
mapped finds find among =
    (among.0, omega (arith, among.1, length-map finds said_by), get_or-map said_by finds among.0 find (said_by find) among.1 ∙ ap said_by among.2)

-- A find of the harvest may be handed to a book.
harvested : {port : ℕ} {question : Question} {log : List Exchange} {searching : Search} {heard : Heard} {allowed : ℕ} → IsHearing port question log searching heard allowed → (next : ℕ) (find : Find) → IsHanded heard.harvest.chosen allowed next find → IsHarvested port log find
harvested {searching = searching} {heard = heard} {allowed = allowed} h next find handed = record {
  zone = (hunt_of searching).servers.zone;
  question = question_of searching;
  message = h.message;
  responds = responding h;
  says = heard.says;
  said = h.says;
  allowance = h.allowance;
  was_allowed = h.was_allowed;
  among = subst (λ (n : ℕ). Contains (take (min 64 n) (chosen_in h.message (question_of searching) (hunt_of searching).servers.zone)) (said_by find)) h.is_allowed
      (subst (λ (xs : List Said). Contains (take (min 64 allowed) xs) (said_by find)) h.chosen
      (subst (λ (xs : List Said). Contains xs (said_by find)) (sym (take-map said_by (min 64 allowed) heard.harvest.chosen))
      (mapped (take (min 64 allowed) heard.harvest.chosen) find (among_first heard.harvest.chosen allowed next find handed))));
}

-- ---- the measure

some_left : (next : ℕ) (tried : Attempt) → 0 < attempts_left next tried
some_left next attempt.Admit = omega arith
some_left next attempt.Sweep = omega arith
some_left next attempt.Again = omega arith
some_left next attempt.Oldest = omega arith
some_left next attempt.Forget = omega arith
some_left next attempt.Last = omega arith

-- One attempt less is left.
pub attempt_less : (path : Path) (next : ℕ) (tried after : Attempt) → attempts_left next after ≤ top → attempts_left next after < attempts_left next tried → left_of_finds path next after < left_of_finds path next tried
attempt_less path next tried after few less = find_less path (attempts_left next after) (attempts_left next tried) few less

more_left : (next : ℕ) (tried : Attempt) → next + 1 < 64 → attempts_left (next + 1) attempt.Admit < attempts_left next tried
more_left next attempt.Admit within = omega (arith, within)
more_left next attempt.Sweep within = omega (arith, within)
more_left next attempt.Again within = omega (arith, within)
more_left next attempt.Oldest within = omega (arith, within)
more_left next attempt.Forget within = omega (arith, within)
more_left next attempt.Last within = omega (arith, within)

-- One find less is left.
pub next_less : (path : Path) (next : ℕ) (tried : Attempt) → next + 1 < 64 → left_of_finds path (next + 1) attempt.Admit < left_of_finds path next tried
next_less path next tried within = find_less path (attempts_left (next + 1) attempt.Admit) (attempts_left next tried) (omega arith) (more_left next tried within)

pub concluding_less : (path : Path) (next : ℕ) (tried : Attempt) → left_of_hearing path 1 ≤ left_of_finds path next tried
concluding_less path next tried = finds_at_least path (attempts_left next tried) (some_left next tried)

-- ---- what is asked for a find

unsent : (tried : Attempt) (find : Find) (log : List Exchange) (want : Want) → IsTrying tried find log want → sends want ≡ false
unsent attempt.Admit find log want t = ap sends t.1.wanted
unsent attempt.Sweep find log want t = ap sends t.1.wanted
unsent attempt.Again find log want t = ap sends t.1.wanted
unsent attempt.Oldest find log want t = ap sends t.1.wanted
unsent attempt.Forget find log want t = ap sends t.2.wanted
unsent attempt.Last find log want t = ap sends t.1.wanted

pub handing_unsent : {finds : List Find} {allowed next : ℕ} {tried : Attempt} {log : List Exchange} {want : Want} → IsHanding finds allowed next tried log want → sends want ≡ false
handing_unsent {tried = tried} {log = log} {want = want} h = unsent tried h.find log want h.trying

-- The response is still heard.
pub heard_on : {port : ℕ} {question : Question} {log : List Exchange} {searching : Search} {heard : Heard} {allowed next : ℕ} {tried : Attempt} {input : Input} → IsTold port question log searching heard allowed next tried input
    → IsHearing port question log searching heard allowed
heard_on t = hearing_more t.hearing t.adds (handing_unsent t.handing)

asking : (port : ℕ) (question : Question) (log : List Exchange) (moment : ℕ) (id : Stream) (left : ℕ) (place : Handing) (tried : Attempt) (find : Find) (event : Event)
    → IsHearing port question log place.search.value place.heard.value place.allowed → IsHanded place.heard.value.harvest.chosen place.allowed place.next find → IsTrying tried find log (Book event) → MayCall port question log moment event
    → left_of_finds place.search.value.path place.next tried < left → Goes port question log moment (idle id) left (Admitting place tried) (Book event)
asking port question log moment id left place tried find event h handed trying may less = record {
  wants = may;
  drawn = refl;
  fits = (h, record { find = find; handed = handed; trying = trying });
  falls = less;
}

may_hand : (tried : Attempt) (find : Find) (log : List Exchange) → IsHandedBy tried find log → MayHand find log
may_hand attempt.Admit find log by = MayHand.anew by
may_hand attempt.Again find log by = MayHand.swept by
may_hand attempt.Last find log by = MayHand.forgotten by
may_hand attempt.Sweep find log by = absurd by
may_hand attempt.Oldest find log by = absurd by
may_hand attempt.Forget find log by = absurd by

trying_hand : (tried : Attempt) (find : Find) (log : List Exchange) (moment : ℕ) → IsHandedBy tried find log → IsTrying tried find log (Book (Admit moment find))
trying_hand attempt.Admit find log moment by = (by, record { moment = moment; wanted = refl })
trying_hand attempt.Again find log moment by = (by, record { moment = moment; wanted = refl })
trying_hand attempt.Last find log moment by = (by, record { moment = moment; wanted = refl })
trying_hand attempt.Sweep find log moment by = absurd by
trying_hand attempt.Oldest find log moment by = absurd by
trying_hand attempt.Forget find log moment by = absurd by

-- A find is handed over.
pub handing : (port : ℕ) (question : Question) (log : List Exchange) (moment : ℕ) (id : Stream) (left : ℕ) (place : Handing) (tried : Attempt) (find : Find)
    → IsHearing port question log place.search.value place.heard.value place.allowed → IsHanded place.heard.value.harvest.chosen place.allowed place.next find → IsHandedBy tried find log
    → left_of_finds place.search.value.path place.next tried < left → Goes port question log moment (idle id) left (Admitting place tried) (Book (Admit moment find))
handing port question log moment id left place tried find h handed by less =
    asking port question log moment id left place tried find (Admit moment find) h handed (trying_hand tried find log moment by) (refl, harvested h place.next find handed, may_hand tried find log by) less

-- ---- a book that is full

full_came : (input : Input) → SaysFull input → (stored : ℕ) × (input ≡ Refused (Desk (Step (Full stored))))
full_came (Refused (Desk (Step (Full stored)))) says = (stored, refl)
full_came input says = absurd says

found_full : (before log : List Exchange) (find : Find) (want : Want) (input : Input) → IsAsked want (λ m. Admit m find) → SaysFull input → Adds before (exchange want input) log → FoundFull before find log
found_full before log find want input asked says adds =
    let came = full_came input says in
    record { moment = asked.moment; stored = came.0; refused = came_as adds asked.wanted came.1 }

-- It is swept.
pub sweeping : (port : ℕ) (question : Question) (log : List Exchange) (moment : ℕ) (id : Stream) (place : Handing) (input : Input)
    → IsTold port question log place.search.value place.heard.value place.allowed place.next attempt.Admit input → SaysFull input
    → Goes port question log moment (idle id) (left_of_finds place.search.value.path place.next attempt.Admit) (Admitting place attempt.Sweep) (Book (Sweep moment))
sweeping port question log moment id place input t says =
    let find = t.handing.find in
    let full : IsFull find log = record { before = t.before; anew = t.handing.trying.0; full = found_full t.before log find t.want input t.handing.trying.1 says t.adds } in
    asking port question log moment id _ place attempt.Sweep find (Sweep moment) (heard_on t) t.handing.handed (full, record { moment = moment; wanted = refl }) (refl, (find, full))
    (attempt_less place.search.value.path place.next attempt.Admit attempt.Sweep (omega arith) (omega arith))

-- Then the find is handed over again.
pub swept_hands : (port : ℕ) (question : Question) (log : List Exchange) (searching : Search) (heard : Heard) (allowed next : ℕ) (input : Input) → IsTold port question log searching heard allowed next attempt.Sweep input → input ≡ Reply Swept
    → (find : Find) → IsHanded heard.harvest.chosen allowed next find → IsHandedBy attempt.Again find log
swept_hands port question log searching heard allowed next input t is find handed =
    subst (λ (f : Find). IsSwept f log) (one_find t.handing.handed handed)
    (record { before = t.before; full = t.handing.trying.0; moment = t.handing.trying.1.moment; swept = came_as t.adds t.handing.trying.1.wanted is })

-- It is asked for the name to forget first.
pub asking_oldest : (port : ℕ) (question : Question) (log : List Exchange) (moment : ℕ) (id : Stream) (place : Handing) (input : Input)
    → IsTold port question log place.search.value place.heard.value place.allowed place.next attempt.Again input → SaysFull input
    → Goes port question log moment (idle id) (left_of_finds place.search.value.path place.next attempt.Again) (Admitting place attempt.Oldest) (Book (Look 0 Oldest))
asking_oldest port question log moment id place input t says =
    let find = t.handing.find in
    let full : IsFullAgain find log = record { before = t.before; swept = t.handing.trying.0; full = found_full t.before log find t.want input t.handing.trying.1 says t.adds } in
    asking port question log moment id _ place attempt.Oldest find (Look 0 Oldest) (heard_on t) t.handing.handed (full, record { moment = 0; wanted = refl }) (refl, (find, full))
    (attempt_less place.search.value.path place.next attempt.Again attempt.Oldest (omega arith) (omega arith))

-- That name is forgotten.
pub forgetting : (port : ℕ) (question : Question) (log : List Exchange) (moment : ℕ) (id : Stream) (place : Handing) (input : Input) (owner : Labels)
    → IsTold port question log place.search.value place.heard.value place.allowed place.next attempt.Oldest input → input ≡ Reply (Seen (SeenOldest (Some owner)))
    → Goes port question log moment (idle id) (left_of_finds place.search.value.path place.next attempt.Oldest) (Admitting place attempt.Forget) (Book (Forget moment owner))
forgetting port question log moment id place input owner t is =
    let find = t.handing.find in
    let named : IsNamed find owner log = record { before = t.before; full = t.handing.trying.0; moment = t.handing.trying.1.moment; named = came_as t.adds t.handing.trying.1.wanted is } in
    asking port question log moment id _ place attempt.Forget find (Forget moment owner) (heard_on t) t.handing.handed (owner, named, record { moment = moment; wanted = refl }) (refl, (find, named))
    (attempt_less place.search.value.path place.next attempt.Oldest attempt.Forget (omega arith) (omega arith))

-- Then the find is handed over a last time.
pub forgotten_hands : (port : ℕ) (question : Question) (log : List Exchange) (searching : Search) (heard : Heard) (allowed next : ℕ) (input : Input) → IsTold port question log searching heard allowed next attempt.Forget input → input ≡ Reply Forgotten
    → (find : Find) → IsHanded heard.harvest.chosen allowed next find → IsHandedBy attempt.Last find log
forgotten_hands port question log searching heard allowed next input t is find handed =
    subst (λ (f : Find). IsForgotten f log) (one_find t.handing.handed handed)
    (record { before = t.before; owner = t.handing.trying.0; named = t.handing.trying.1; moment = t.handing.trying.2.moment; forgotten = came_as t.adds t.handing.trying.2.wanted is })

-- ---- a find is passed over

-- The book replied what it may not.
pub misanswered : {port : ℕ} {before log : List Exchange} {question : Question} {aliases : ℕ} {want : Want} {input : Input} (event : Event) → Adds before (exchange want input) log → want ≡ Book event → Suits want input
    → (Suits (Book event) input → IsMisanswered event input) → Fails port log question aliases
misanswered {input = input} event adds is suits bad =
    Fails.misanswered {event = event} {input = input} (happened_last (came_as adds is refl)) (bad (subst (λ (w : Want). Suits w input) is suits))

pub failing_handing : (port : ℕ) (question : Question) (log : List Exchange) (moment : ℕ) (id : Stream) (next : ℕ) (tried : Attempt) (path : Path) → IsPath port question log path → Fails port log path.last (length path.sets.items)
    → Goes port question log moment (idle id) (left_of_finds path next tried) Ended (Finish (Replies 2 false [] None None))
failing_handing port question log moment id next tried path p fails = failing path (ended_hearing path (attempts_left next tried) p) p fails

-- ---- what is asked next

pub not_full_first : (find : Find) (moment : ℕ) (input : Input) (want : Want) → (SaysFull input → ⊥) → AsksNext attempt.Admit find moment input want
not_full_first find moment (Refused (Desk (Step (Full stored)))) want other = absurd (other tt)
not_full_first find moment input want other = tt

pub not_full_again : (find : Find) (moment : ℕ) (input : Input) (want : Want) → (SaysFull input → ⊥) → AsksNext attempt.Again find moment input want
not_full_again find moment (Refused (Desk (Step (Full stored)))) want other = absurd (other tt)
not_full_again find moment input want other = tt

pub full_first : (find : Find) (moment : ℕ) (input : Input) (want : Want) → SaysFull input → want ≡ Book (Sweep moment) → AsksNext attempt.Admit find moment input want
full_first find moment (Refused (Desk (Step (Full stored)))) want says is = is
full_first find moment input want says is = absurd says

pub full_again : (find : Find) (moment : ℕ) (input : Input) (want : Want) → SaysFull input → want ≡ Book (Look 0 Oldest) → AsksNext attempt.Again find moment input want
full_again find moment (Refused (Desk (Step (Full stored)))) want says is = is
full_again find moment input want says is = absurd says

pub not_swept_asks : (find : Find) (moment : ℕ) (input : Input) (want : Want) → (input ≡ Reply Swept → ⊥) → AsksNext attempt.Sweep find moment input want
not_swept_asks find moment (Reply Swept) want other = absurd (other refl)
not_swept_asks find moment input want other = tt

pub not_forgotten_asks : (find : Find) (moment : ℕ) (input : Input) (want : Want) → (input ≡ Reply Forgotten → ⊥) → AsksNext attempt.Forget find moment input want
not_forgotten_asks find moment (Reply Forgotten) want other = absurd (other refl)
not_forgotten_asks find moment input want other = tt

pub none_oldest_asks : (find : Find) (moment : ℕ) (input : Input) (want : Want) → IsNoneOldest input → AsksNext attempt.Oldest find moment input want
none_oldest_asks find moment (Reply (Seen (SeenOldest (Some owner)))) want none = absurd none
none_oldest_asks find moment input want none = tt

-- What holds of each value holds of a result.
pub each_ok : {A E : Type 0} (r : Result A E) (P : A → Type 0) → ((x : A) → P x) → IfOk r P
each_ok (Ok x) P all = all x
each_ok (Err e) P all = tt

-- ---- a find is done with

-- A flag that is not false is true.
pub lawful : (b : Bool) → (b ≡ false → ⊥) → b ≡ true
lawful true other = refl
lawful false other = absurd (other refl)

-- A book may reply so to an admission.
pub taken : (find : Find) (input : Input) → IsTaken input → (Suits (Book (Admit 0 find)) input → IsMisanswered (Admit 0 find) input) → ⊥
taken find (Reply reply) is bad = bad tt is
taken find (Refused fault) is bad = bad tt
taken find input is bad = absurd is

-- A book may refuse a sweep.
pub sweep_refused : (input : Input) → IsRefusal input → (Suits (Book (Sweep 0)) input → IsMisanswered (Sweep 0) input) → ⊥
sweep_refused (Refused fault) is bad = bad tt
sweep_refused input is bad = absurd is

-- A book may refuse to forget a name.
pub forget_refused : (owner : Labels) (input : Input) → IsRefusal input → (Suits (Book (Forget 0 owner)) input → IsMisanswered (Forget 0 owner) input) → ⊥
forget_refused owner (Refused fault) is bad = bad tt
forget_refused owner input is bad = absurd is

-- A book may name none to forget.
pub none_named : (input : Input) → NamesNone input → (Suits (Book (Look 0 Oldest)) input → IsMisanswered (Look 0 Oldest) input) → ⊥
none_named (Refused fault) is bad = bad tt
none_named (Reply (Seen (SeenOldest None))) is bad = bad tt tt
none_named input is bad = absurd is

-- All this is asked next for the finds.
pub hands_on : {E : Type 0} (finds : List Find) (allowed next : ℕ) (tried : Attempt) (moment : ℕ) (input : Input) (r : Result Advance E)
    → ((find : Find) → IsHanded finds allowed next find → IfOk r (λ t. AsksNext tried find moment input t.want))
    → ((find : Find) → IsHandedNext finds allowed next tried input find → IfOk r (λ t. t.want ≡ Book (Admit moment find))) → IfOk r (λ t. HandsOn finds allowed next tried moment input t.want)
hands_on finds allowed next tried moment input (Ok t) room further = record { room = room; further = further }
hands_on finds allowed next tried moment input (Err e) room further = tt
