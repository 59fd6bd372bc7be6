-- What a response that was heard gives.
use Rattle.std.proofs.Common.{◌≡◌, ℕ, ◌+◌, ◌<◌, ◌≤◌, ◌⊎◌, inl, inr, List, [], ◌∷◌, ◌++◌, length, drop, get_or, slice_index_or, false, Option, sym, ap, ◌∙◌, subst, refl, append_assoc, arith, map}
use Rattle.std.specs.List.{AllByRecursion, Contains}
use Rattle.std.specs.Option.{option_map}
use Rattle.std.proofs.lemmas.List.{append-nil, length-drop, get_or-drop}
use Rattle.dns_name.specs.Labels.{Labels}
use Rattle.dns_name.specs.ListLaws.{all_weaker}
use Rattle.dns_text.specs.declared.addr.Addr.{Addr}
use Rattle.dns_text.specs.declared.record.Question.{Question}
use Rattle.dns_wire.specs.declared.message.Message.{Message}
use Rattle.dns_query.specs.declared.sets.Believed.{Believed}
use Rattle.dns_query.specs.declared.sets.Believed.TheVariants.{Find as FindSet, Passing}
use Rattle.dns_query.specs.Believed.{HasSet, HasSetAmong, HarvestHasSet, IsBelieved}
use Rattle.dns_query.specs.BelievedLaws.{first_contained}
use Rattle.dns_query.specs.Query.{address_question, alias_question}
use Rattle.harvest.specs.Harvest.{finds_in, passing_in}
use Rattle.harvest.specs.Learnt.{set_of}
use Rattle.harvest.specs.Sets.{Set}
use Rattle.harvest.specs.declared.harvest_type.Harvest.{Harvest}
use Rattle.dns_query.specs.Referral.{IsReferral}
use Rattle.dns_query.specs.Verdict.{IsSaid}
use Rattle.dns_query.specs.declared.verdict.Heard.{Heard}
use Rattle.dns_query.specs.declared.verdict.Referral.{Referral}
use Rattle.dns_query.specs.declared.verdict.Says.{Says}
use Rattle.dns_query.specs.declared.verdict.Says.TheVariants.{Answers, Denies, Refers}
use Rattle.neg_rule.specs.Negative.{Said, said_by}
use Rattle.ranked.specs.declared.find.Find.{Find}
use Rattle.history.specs.declared.servers.Servers.{Servers}
use Rattle.iterate.specs.declared.path.Path.{Path}
use Rattle.iterate.specs.declared.phase.Phase.TheVariants.{Ended}
use Rattle.iterate.specs.declared.search.Nested.{Nested}
use Rattle.iterate.specs.declared.search.Hunt.{Hunt}
use Rattle.iterate.specs.declared.search.Search.{Search}
use Rattle.iterate.specs.Exchanges.{Exchange, Adds, is_send}
use Rattle.iterate.specs.Judged.{IsAddressOf}
use Rattle.iterate.specs.Come.{GaveAlias, IsGiven}
use Rattle.iterate.specs.Following.{IsHarvestOf, IsToldBy, IsAnswering, told_by}
use Rattle.iterate.specs.Hunting.{AllServe, IsReached, IsSmaller}
use Rattle.iterate.specs.declared.answer.AnswerSet.{AnswerSet}
use Rattle.iterate.specs.Known.{Fact, Known, Had, Responds, servers_referred}
use Rattle.iterate.specs.Measure.{top, hunts_left, left_in, left_of_search, left_of_hearing, left_of_path}
use Rattle.iterate.specs.Phase.{IsHearing}
use Rattle.iterate.specs.Resolved.{IsDenied, IsOneOf, ReachedFor}
use Rattle.iterate.specs.Searching.{IsPath, IsNext, AreFrames, IsSearch, Turn, hunt_behind, hunt_of, question_behind, question_of}
use Rattle.iterate.specs.Told.{soa_whole, IsAddressIn}
use Rattle.iterate.proofs.Coming.{inner, below}
use Rattle.iterate.proofs.Falling.{few_is, less_than, coming_falls, looks_fall, ended_falls, path_digits}
use Rattle.iterate.proofs.Hunts.{search_digits}
use Rattle.iterate.proofs.Growing.{allowed_more, search_looked}
use Rattle.iterate.proofs.Once.{all_looked, quiet_more}

-- ---- what is known

-- What was known after some of the exchanges is known after all.
known_since : {port : ℕ} {fact : Fact} (since upto log : List Exchange) → log ≡ upto ++ since → Known port upto fact → Known port log fact
known_since {port} {fact} [] upto log split known = subst (λ (l : List Exchange). Known port l fact) (sym (split ∙ append-nil upto)) known
known_since {port} {fact} (x ∷ since) upto log split known =
    known_since since (upto ++ x ∷ []) log (split ∙ sym (append_assoc upto (x ∷ []) since)) (Known.kept {before = upto} {after = upto ++ x ∷ []} {x = x} (record { adds = refl }) known)

pub responding : {port : ℕ} {question : Question} {log : List Exchange} {searching : Search} {heard : Heard} {allowed : ℕ} → (h : IsHearing port question log searching heard allowed)
    → Known port log (Responds (hunt_of searching).servers.zone (question_of searching) h.message)
responding {log = log} h =
    let was = h.was_allowed.came in
    known_since was.after h.upto log (was.split ∙ sym (append_assoc was.before _ was.after) ∙ ap (λ (l : List Exchange). l ++ was.after) (sym h.came.adds)) h.responds

-- With an exchange more that is no query, the response is still heard.
pub hearing_more : {port : ℕ} {question : Question} {log after : List Exchange} {y : Exchange} {searching : Search} {heard : Heard} {allowed : ℕ} → IsHearing port question log searching heard allowed → Adds log y after → is_send y ≡ false
    → IsHearing port question after searching heard allowed
hearing_more {port} {y = y} {searching = searching} h a is = record {
  is_search = search_looked h.is_search a is;
  message = h.message;
  allowance = h.allowance;
  was_allowed = allowed_more h.was_allowed a;
  is_allowed = h.is_allowed;
  upto = h.upto;
  came = h.came;
  responds = h.responds;
  finds = h.finds;
  chosen = h.chosen;
  passing = h.passing;
  says = h.says;
  orderly = all_looked port searching.base searching.path.last Turn.heard searching.frames.items a is h.orderly;
  quiet = quiet_more h.was_allowed.came.after y h.quiet is;
}

-- ---- the book

pub ended_hearing : {port : ℕ} {question : Question} {log : List Exchange} (path : Path) (finds : ℕ) → IsPath port question log path → left_in Ended < left_of_hearing path finds
ended_hearing path finds p = ended_falls path 0 1 0 finds p.short

-- One attempt less is left.
pub find_less : (path : Path) (finds more : ℕ) → finds ≤ top → finds < more → left_of_hearing path finds < left_of_hearing path more
find_less path finds more few less = looks_fall path path 0 0 1 0 finds more refl refl refl less (path_digits path 0 1 0 finds (omega arith) (omega arith) few)

one_or_more : (n : ℕ) → 0 < n → (n ≡ 1) ⊎ (1 < n)
one_or_more n some = grind (arith, some)

at_most : (n : ℕ) → n ≤ n
at_most n = omega arith

pub finds_at_least : (path : Path) (finds : ℕ) → 0 < finds → left_of_hearing path 1 ≤ left_of_hearing path finds
finds_at_least path finds some = elim (one_or_more finds some) [
  | inl one ↦ subst (λ (n : ℕ). left_of_hearing path 1 ≤ left_of_hearing path n) (sym one) (at_most (left_of_hearing path 1))
  | inr more ↦ few_is (find_less path 1 finds (omega arith) more)
]

-- Less is left of a search than where the response to it was heard.
less_heard : {port : ℕ} {question : Question} {log : List Exchange} (search : Search) → IsSearch port question log search → left_of_search search 0 < left_of_hearing search.path 1
less_heard search s = coming_falls search.path search.path 0 0 0 1 (hunts_left search) 0 0 1 refl refl refl (omega arith) (search_digits search 0 (omega arith) s)

-- So it is where the innermost question is closed.
pub closed_heard : {port : ℕ} {question : Question} {log : List Exchange} (search after : Search) → IsSearch port question log search → IsSmaller port question log (left_of_search search 0) after
    → IsSmaller port question log (left_of_hearing search.path 1) after
closed_heard search after s k = record { is_search = k.is_search; orderly = k.orderly; falls = less_than k.falls (few_is (less_heard search s)) }

-- ---- a response to the last question itself

question_last : (searching : Search) → searching.frames.items ≡ [] → question_of searching ≡ searching.path.last
question_last searching none = ap (λ (fs : List Nested). question_behind fs searching.path.last) none

pub denying_last : {port : ℕ} {question : Question} {log : List Exchange} {searching : Search} {heard : Heard} (rcode : ℕ) (negative : Option Find) {allowed : ℕ} → IsHearing port question log searching heard allowed → searching.frames.items ≡ []
    → heard.says ≡ Denies rcode negative → IsDenied port log searching.path.last rcode (option_map soa_whole negative)
denying_last {port} {question} {log} {searching} {heard} rcode negative h none is =
    let zone = (hunt_of searching).servers.zone in
    let said : IsSaid port zone (question_of searching) h.message (Denies rcode negative) = subst (λ (s : Says). IsSaid port zone (question_of searching) h.message s) is h.says in
    subst (λ (q : Question). IsDenied port log q rcode (option_map soa_whole negative)) (question_last searching none) (record {
      zone = zone;
      message = h.message;
      responds = responding h;
      denial = said.0;
      same = said.1;
      negative = negative;
      said = said.2;
      soa = refl;
    })

referred : {port : ℕ} {question : Question} {log : List Exchange} {searching : Search} {heard : Heard} (referral : Referral) {allowed : ℕ} → (h : IsHearing port question log searching heard allowed) → heard.says ≡ Refers referral
    → IsReferral port (hunt_of searching).servers.zone (question_of searching) h.message referral
referred {port} {searching = searching} referral h is = subst (λ (s : Says). IsSaid port (hunt_of searching).servers.zone (question_of searching) h.message s) is h.says

-- The servers to which a response refers are reached.
pub referring : {port : ℕ} {question : Question} {log : List Exchange} {searching : Search} {heard : Heard} (referral : Referral) (servers : Servers) {allowed : ℕ} → (h : IsHearing port question log searching heard allowed)
    → heard.says ≡ Refers referral → servers ≡ servers_referred referral → IsReached port log (question_of searching) h.was_allowed.came.after servers
referring {port} {question} {log} {searching} {heard} referral servers h is same =
    let r = referred referral h is in
    let was = h.was_allowed in
    subst (λ (s : Servers). IsReached port log (question_of searching) was.came.after s) (sym same) (record {
      reached = ReachedFor.by_referral was.came.before h.upto was.server was.over was.bytes was.octets h.allowance was.came.split h.came h.responds r refl;
      listed = Known.referred (responding h) r;
      above = r.above;
      quiet = h.quiet;
    })

pub referring_last : {port : ℕ} {question : Question} {log : List Exchange} {searching : Search} {heard : Heard} (referral : Referral) (servers : Servers) {allowed : ℕ} → (h : IsHearing port question log searching heard allowed)
    → searching.frames.items ≡ [] → heard.says ≡ Refers referral → servers ≡ servers_referred referral → IsReached port log searching.path.last h.was_allowed.came.after servers
referring_last {port} {log = log} {searching = searching} referral servers h none is same =
    subst (λ (q : Question). IsReached port log q h.was_allowed.came.after servers) (question_last searching none) (referring referral servers h is same)

-- ---- a response to a question for the address of a server

next_among : (hunt : Hunt) (target : Labels) → IsNext hunt target → Contains hunt.servers.missing target
next_among hunt target n =
    let missing = hunt.servers.missing in
    let some : hunt.sought < length missing = omega (arith, ap (λ (xs : List Labels). length xs) n.next, length-drop hunt.sought missing) in
    let zero_more : hunt.sought + 0 ≡ hunt.sought = omega arith in
    (hunt.sought, some, sym (ap (λ (k : ℕ). get_or missing k target) zero_more) ∙ sym (get_or-drop hunt.sought missing 0 target) ∙ ap (λ (xs : List Labels). get_or xs 0 target) n.next)

serves_all : (port : ℕ) (log : List Exchange) (hunt : Hunt) (target : Labels) → Contains hunt.servers.missing target → (addrs : List Addr)
    → AllByRecursion (IsAddressOf port log target) addrs → AllServe port log hunt.servers addrs
serves_all port log hunt target among [] all = tt
serves_all port log hunt target among (addr ∷ addrs) all =
    (IsOneOf.found among all.0.had all.0.among, serves_all port log hunt target among addrs all.1)

-- The addresses of the server for which the innermost question asks serve the zone after it.
pub addresses_serve : {port : ℕ} {question : Question} {log : List Exchange} (searching : Search) (frame : Nested) → 0 < length searching.frames.items → frame ≡ slice_index_or searching.frames.items 0 frame
    → IsSearch port question log searching → (addrs : List Addr) → AllByRecursion (IsAddressOf port log frame.target) addrs
    → AllServe port log (hunt_behind (drop 1 searching.frames.items) searching.base).servers addrs
addresses_serve {port} {question} {log} searching frame some is s addrs all =
    let i = inner searching.frames.items some in
    let first : frame ≡ i.first = subst (λ (fs : List Nested). frame ≡ slice_index_or fs 0 frame) i.are is in
    let known : AreFrames port log s.since searching.base (i.first ∷ i.rest) = subst (λ (fs : List Nested). AreFrames port log s.since searching.base fs) i.are s.frames in
    let behind = hunt_behind i.rest searching.base in
    let here : AllByRecursion (IsAddressOf port log i.first.target) addrs = subst (λ (f : Nested). AllByRecursion (IsAddressOf port log f.target) addrs) first all in
    subst (λ (fs : List Nested). AllServe port log (hunt_behind (drop 1 fs) searching.base).servers addrs) (sym i.are)
    (serves_all port log behind i.first.target (next_among behind i.first.target known.0.next) addrs here)

pub harvest_heard : {port : ℕ} {question : Question} {log : List Exchange} {searching : Search} {heard : Heard} {allowed : ℕ} → IsHearing port question log searching heard allowed → IsHarvestOf port log heard.harvest
harvest_heard {searching = searching} h = record {
  zone = (hunt_of searching).servers.zone;
  asked = question_of searching;
  message = h.message;
  responds = responding h;
  finds = h.finds;
  passing = h.passing;
}

-- ---- a response that answers the last question

given_by : (zone : Labels) (asked : Question) (message : Message) (harvest : Harvest) (question : Question) (set : Believed) → map said_by harvest.finds ≡ finds_in message asked zone
    → map set_of harvest.passing ≡ passing_in message asked zone → IsBelieved (map said_by harvest.finds) (map set_of harvest.passing) question set → IsGiven zone asked message question (told_by set)
given_by zone asked message harvest question (FindSet find) finds passing first =
    IsGiven.find (subst (λ (xs : List Said). Contains xs (said_by find.now)) finds (first_contained _ _ _ first)) first.holds
given_by zone asked message harvest question (Passing set) finds passing first =
    IsGiven.passing (subst (λ (xs : List Set). Contains xs (set_of set.now)) passing (first_contained _ _ _ first.1)) first.1.holds

-- Its alias is that of the response.
gave : {port : ℕ} {question : Question} {log : List Exchange} {searching : Search} {heard : Heard} {allowed : ℕ} → (h : IsHearing port question log searching heard allowed)
    → (told : AnswerSet) → IsToldBy heard.harvest (alias_question (question_of searching).owner) told → GaveAlias log (question_of searching) told
gave {searching = searching} {heard = heard} h told t = record {
  zone = (hunt_of searching).servers.zone;
  message = h.message;
  allowance = h.allowance;
  was_allowed = h.was_allowed;
  quiet = h.quiet;
  given = subst (λ (s : AnswerSet). IsGiven (hunt_of searching).servers.zone (question_of searching) h.message (alias_question (question_of searching).owner) s) (sym t.is)
      (given_by (hunt_of searching).servers.zone (question_of searching) h.message heard.harvest (alias_question (question_of searching).owner) t.set h.finds h.passing t.believed);
}

-- The harvest has what the response has.
harvest_has : (zone : Labels) (asked : Question) (message : Message) (harvest : Harvest) (question : Question) → map said_by harvest.finds ≡ finds_in message asked zone
    → map set_of harvest.passing ≡ passing_in message asked zone → HasSet message asked zone question → HarvestHasSet harvest question
harvest_has zone asked message harvest question finds passing has =
    subst (λ (xs : List Said). HasSetAmong xs (map set_of harvest.passing) question) (sym finds) (subst (λ (xs : List Set). HasSetAmong (finds_in message asked zone) xs question) (sym passing) has)

answering_here : {port : ℕ} {question : Question} {log : List Exchange} {searching : Search} {heard : Heard} {allowed : ℕ} → (h : IsHearing port question log searching heard allowed) → heard.says ≡ Answers
    → IsAnswering port log (question_of searching) heard.harvest
answering_here {port} {searching = searching} {heard = heard} h is =
    let zone = (hunt_of searching).servers.zone in
    let said : IsSaid port zone (question_of searching) h.message Answers = subst (λ (s : Says). IsSaid port zone (question_of searching) h.message s) is h.says in
    record {
      heard = harvest_heard h;
      answers = elim said [
        | inl set ↦ inl (harvest_has zone (question_of searching) h.message heard.harvest (question_of searching) h.finds h.passing set)
        | inr alias ↦ inr (harvest_has zone (question_of searching) h.message heard.harvest (alias_question (question_of searching).owner) h.finds h.passing alias)
      ];
      gives = gave h;
    }

pub answering_last : {port : ℕ} {question : Question} {log : List Exchange} {searching : Search} {heard : Heard} {allowed : ℕ} → IsHearing port question log searching heard allowed → searching.frames.items ≡ [] → heard.says ≡ Answers
    → IsAnswering port log searching.path.last heard.harvest
answering_last {port} {log = log} {searching = searching} {heard = heard} h none is = subst (λ (q : Question). IsAnswering port log q heard.harvest) (question_last searching none) (answering_here h is)

-- The addresses in a set that is known are those of the server.
pub addresses_known : (port : ℕ) (log : List Exchange) (question : Question) (told : AnswerSet) (target : Labels) → Known port log (Had question told) → question ≡ address_question target
    → (addrs : List Addr) → AllByRecursion (IsAddressIn port told) addrs → AllByRecursion (IsAddressOf port log target) addrs
addresses_known port log question told target had same addrs all =
    all_weaker (IsAddressIn port told) (IsAddressOf port log target)
    (λ addr among. record { told = told; had = subst (λ (q : Question). Known port log (Had q told)) same had; among = among }) addrs all

-- less is left where the last name is looked at
pub following_less : (path : Path) → left_of_path path 4 ≤ left_of_hearing path 1
following_less path =
    below _ _ (coming_falls path path 0 0 0 1 top 0 4 1 refl refl refl (omega arith) (path_digits path 0 0 top 4 (omega arith) (omega arith) (omega arith)))

-- The innermost question is for the address of the first server that is asked for.
pub first_asked_for : (frames : List Nested) (last : Question) (frame : Nested) → 0 < length frames → frame ≡ slice_index_or frames 0 frame → address_question frame.target ≡ question_behind frames last
first_asked_for frames last frame some is =
    let i = inner frames some in
    let first : frame ≡ i.first = subst (λ (fs : List Nested). frame ≡ slice_index_or fs 0 frame) i.are is in
    subst (λ (fs : List Nested). address_question frame.target ≡ question_behind fs last) (sym i.are) (ap (λ (f : Nested). address_question f.target) first)

abbrev referral_in : Referral → Says → Referral
referral_in other (Refers referral) = referral
referral_in other Answers = other
referral_in other (Denies rcode negative) = other

pub refers_same : {referral other : Referral} → Refers referral ≡ Refers other → referral ≡ other
refers_same {referral} e = ap (referral_in referral) e

abbrev rcode_in : ℕ → Says → ℕ
rcode_in other (Denies rcode negative) = rcode
rcode_in other Answers = other
rcode_in other (Refers referral) = other

abbrev negative_of : Option Find → Says → Option Find
negative_of other (Denies rcode negative) = negative
negative_of other Answers = other
negative_of other (Refers referral) = other

pub denies_same : {rcode other : ℕ} {negative also : Option Find} → Denies rcode negative ≡ Denies other also → (rcode ≡ other) × (negative ≡ also)
denies_same {rcode} {other} {negative} {also} e = (ap (rcode_in rcode) e, ap (negative_of negative) e)
