-- How a path goes on inside a response.
use Rattle.std.proofs.Common.{◌≡◌, ℕ, ◌<◌, ◌≤◌, true, false, List, [], ◌∷◌, Some, None, Result, Ok, Err, IfOk, length, map, refl, sym, subst, arith}
use Rattle.std.specs.List.{AllByRecursion, Contains}
use Rattle.dns_name.specs.Labels.{Labels}
use Rattle.dns_query.specs.declared.sets.Believed.{Believed}
use Rattle.dns_query.specs.declared.sets.Believed.TheVariants.{Find, Passing}
use Rattle.dns_query.specs.Believed.{HarvestHasSet, HasSetAmong, IsBelieved}
use Rattle.dns_query.specs.BelievedLaws.{first_contained}
use Rattle.dns_query.specs.Query.{alias_question}
use Rattle.dns_text.specs.Data.{HasForm}
use Rattle.dns_text.specs.Kind.{by_number}
use Rattle.dns_text.specs.declared.kind.Form.TheVariants as Forms
use Rattle.dns_text.specs.declared.record.Data.{Data}
use Rattle.dns_text.specs.declared.record.Data.TheVariants.{A, Aaaa, One, Mx, Soa, Txt, Srv, Opaque}
use Rattle.dns_text.specs.declared.record.Question.{Question}
use Rattle.dns_text.specs.declared.types.TheConstants.{CNAME}
use Rattle.ranked.specs.Body.{HasForms, data_of, has_data, is_negative}
use Rattle.ranked.specs.declared.find.Body.{Body}
use Rattle.ranked.specs.declared.find.Body.TheVariants.{Set as SetOf, NoData, NoName}
use Rattle.ranked.specs.declared.find.Scope.{Scope}
use Rattle.ranked.specs.declared.find.Scope.TheVariants.{One as OneType}
use Rattle.harvest.specs.declared.harvest_type.Harvest.{Harvest}
use Rattle.harvest.specs.Learnt.{set_of}
use Rattle.harvest.specs.Sets.{Set}
use Rattle.neg_rule.specs.Negative.{Said, said_by}
use Rattle.iterate.specs.declared.answer.AnswerSet.{AnswerSet}
use Rattle.iterate.specs.declared.path.Path.{Path}
use Rattle.iterate.specs.declared.phase.Phase.TheVariants.{Ended}
use Rattle.iterate.specs.Come.{GaveAlias, HasCome}
use Rattle.iterate.specs.Exchanges.{Exchange, Adds}
use Rattle.history.specs.declared.event.Ask.TheVariants.{Answer as Asked}
use Rattle.history.specs.declared.event.Event.TheVariants.{Look}
use Rattle.iterate.specs.declared.answer.Answer.TheVariants.{Reply as Replies}
use Rattle.iterate.specs.declared.following.Hop.{Hop}
use Rattle.iterate.specs.declared.following.Hop.TheVariants as Hops
use Rattle.iterate.specs.declared.want.Want.{Want}
use Rattle.iterate.specs.declared.want.Want.TheVariants.{Book, Finish}
use Rattle.iterate.specs.Following.{IsHarvestOf, IsToldBy, IsAliasHop, IsHop, FollowsHarvest, told_by}
use Rattle.iterate.specs.Told.{IsFirstTarget, IsTarget}
use Rattle.iterate.specs.Known.{Known, Had}
use Rattle.iterate.specs.Measure.{left_in, left_of_path, left_of_hearing, top}
use Rattle.iterate.specs.declared.phase.Advance.{Advance}
use Rattle.iterate.specs.Phase.{LooksAt}
use Rattle.iterate.specs.Searching.{IsPath, IsLonger}
use Rattle.iterate.proofs.Falling.{few_is, less_than, coming_falls}
use Rattle.iterate.proofs.PathTurns.{path_looks, looks_less, longer_less, path_some}

-- Less is left than of a response.
pub hearing_less : (path : Path) → left_of_path path 4 < left_of_hearing path 1
hearing_less path = coming_falls path path 0 0 0 1 top 0 4 1 refl refl refl (omega arith) (path_looks path 4 (omega arith))

-- What a harvest has of a question is known.
pub harvest_known : {port : ℕ} {log : List Exchange} (harvest : Harvest) (question : Question) (set : Believed) → IsHarvestOf port log harvest
    → IsBelieved (map said_by harvest.finds) (map set_of harvest.passing) question set → Known port log (Had question (told_by set))
harvest_known harvest question (Find find) h first =
    Known.harvested h.responds (subst (λ (xs : List Said). Contains xs (said_by find.now)) h.finds (first_contained _ _ _ first)) first.holds
harvest_known harvest question (Passing set) h first =
    Known.passed h.responds (subst (λ (xs : List Set). Contains xs (set_of set.now)) h.passing (first_contained _ _ _ first.1)) first.1.holds

told_found : {finds : List Said} {passing : List Set} {question : Question} (set : Believed) → IsBelieved finds passing question set → HasSetAmong finds passing question
told_found (Find find) first = HasSetAmong.found (said_by find.now) (first_contained _ _ _ first) first.holds
told_found (Passing set) first = HasSetAmong.passes (set_of set.now) (first_contained _ _ _ first.1) first.1.holds

told_has : {harvest : Harvest} {question : Question} {told : AnswerSet} → IsToldBy harvest question told → HarvestHasSet harvest question
told_has t = told_found t.set t.believed

pub told_known : {port : ℕ} {log : List Exchange} (harvest : Harvest) (question : Question) (told : AnswerSet) → IsHarvestOf port log harvest → IsToldBy harvest question told → Known port log (Had question told)
told_known {port} {log} harvest question told h t = subst (λ (s : AnswerSet). Known port log (Had question s)) (sym t.is) (harvest_known harvest question t.set h t.believed)

-- ---- an alias of a harvest leads to a name

named : (d : Data) → HasForm CNAME d → (to : Labels) × (d ≡ One to)
unfolding by_number
named (One name) form = (name, refl)
named (A octets) form = let same : Forms.Name ≡ Forms.A = form.same in let e : ⊥ = cc in absurd e
named (Aaaa octets) form = let same : Forms.Name ≡ Forms.Aaaa = form.same in let e : ⊥ = cc in absurd e
named (Mx preference exchange) form = let same : Forms.Name ≡ Forms.Mx = form.same in let e : ⊥ = cc in absurd e
named (Soa primary mailbox serial refresh retry expire minimum) form = let same : Forms.Name ≡ Forms.Soa = form.same in let e : ⊥ = cc in absurd e
named (Txt strings) form = let same : Forms.Name ≡ Forms.Txt = form.same in let e : ⊥ = cc in absurd e
named (Srv priority weight port target) form = let same : Forms.Name ≡ Forms.Srv = form.same in let e : ⊥ = cc in absurd e
named (Opaque octets) form = let same : Forms.Name ≡ Forms.Opaque = form.same in let e : ⊥ = cc in absurd e

first_named : (data_in : List Data) → 1 ≤ length data_in → AllByRecursion (HasForm CNAME) data_in → (to : Labels) × IsFirstTarget data_in to
first_named [] some forms = absurd (omega (arith, some))
first_named (d ∷ ds) some forms = let n = named d forms.0 in (n.0, subst (λ (x : Data). IsFirstTarget (x ∷ ds) n.0) (sym n.1) refl)

body_named : (body : Body) → is_negative body ≡ false → has_data body ≡ true → HasForms (OneType CNAME) body → (to : Labels) × IsFirstTarget (data_of body) to
body_named (SetOf []) positive some forms = let e : ⊥ = cc in absurd e
body_named (SetOf (d ∷ ds)) positive some forms = first_named (d ∷ ds) (omega arith) forms
body_named (NoData soa) positive some forms = let e : ⊥ = cc in absurd e
body_named (NoName soa) positive some forms = let e : ⊥ = cc in absurd e

set_named : (finds : List Said) (passing : List Set) (name : Labels) (set : Believed) → IsBelieved finds passing (alias_question name) set → (to : Labels) × IsTarget (told_by set) to
set_named finds passing name (Find find) first =
    body_named find.now.body first.holds.has_data find.now.found (subst (λ (s : Scope). HasForms s find.now.body) first.holds.kind find.now.formed)
set_named finds passing name (Passing set) first =
    first_named set.now.data set.now.found (subst (λ (k : ℕ). AllByRecursion (HasForm k) set.now.data) first.1.holds.kind set.now.formed)

pub has_target : (harvest : Harvest) (name : Labels) (told : AnswerSet) → IsToldBy harvest (alias_question name) told → (to : Labels) × IsTarget told to
has_target harvest name told t =
    let n = set_named (map said_by harvest.finds) (map set_of harvest.passing) name t.set t.believed in
    (n.0, subst (λ (s : AnswerSet). IsTarget s n.0) (sym t.is) n.1)

pub hop_along : (harvest : Harvest) (question : Question) (hop : Hop) → ¬ (HarvestHasSet harvest question) → IsAliasHop harvest question.owner hop → IsHop harvest question hop
hop_along harvest question (Hops.Set told) none along = absurd along
hop_along harvest question (Hops.Alias told to) none along = (none, along)
hop_along harvest question Hops.Nowhere none along = (none, along)

-- What a step inside a harvest does, by the hop.
pub follows_set : {harvest : Harvest} {path : Path} {moment : ℕ} {told : AnswerSet} {want : Want} → IsToldBy harvest path.last told → want ≡ Finish (Replies 0 false path.sets.items (Some told) None)
    → FollowsHarvest harvest path moment want
follows_set {told = told} t is = record { tells = λ has. (told, t, is); looks = λ none alias few. absurd (none (told_has t)) }

pub follows_alias : {harvest : Harvest} {path : Path} {moment : ℕ} {told : AnswerSet} {to : Labels} {want : Want} → ¬ (HarvestHasSet harvest path.last) → IsToldBy harvest (alias_question path.last.owner) told → IsTarget told to
    → (length path.sets.items < 16 → want ≡ Book (Look moment (Asked (record { owner = to; kind = path.last.kind })))) → FollowsHarvest harvest path moment want
follows_alias {told = told} {to = to} none t target looks = record { tells = λ has. absurd (none has); looks = λ no alias few. (told, to, t, target, looks few) }

pub follows_alias_ok : {E : Type 0} (harvest : Harvest) (path : Path) (moment : ℕ) (told : AnswerSet) (to : Labels) (r : Result Advance E) → ¬ (HarvestHasSet harvest path.last)
    → IsToldBy harvest (alias_question path.last.owner) told → IsTarget told to → (length path.sets.items < 16 → IfOk r (LooksAt path to moment)) → IfOk r (λ t. FollowsHarvest harvest path moment t.want)
follows_alias_ok harvest path moment told to (Ok t) none by target looks = follows_alias none by target looks
follows_alias_ok harvest path moment told to (Err e) none by target looks = tt

pub follows_nowhere : {harvest : Harvest} {path : Path} {moment : ℕ} {want : Want} → ¬ (HarvestHasSet harvest path.last) → ¬ (HarvestHasSet harvest (alias_question path.last.owner)) → FollowsHarvest harvest path moment want
follows_nowhere none no_alias = record { tells = λ has. absurd (none has); looks = λ no alias few. absurd (no_alias alias) }

pub follows_nowhere_ok : {E : Type 0} (harvest : Harvest) (path : Path) (moment : ℕ) (r : Result Advance E) → ¬ (HarvestHasSet harvest path.last) → ¬ (HarvestHasSet harvest (alias_question path.last.owner))
    → IfOk r (λ t. FollowsHarvest harvest path moment t.want)
follows_nowhere_ok harvest path moment (Ok t) none no_alias = follows_nowhere none no_alias
follows_nowhere_ok harvest path moment (Err e) none no_alias = tt

-- So it is with one exchange more.
pub harvest_more : {port : ℕ} {log after : List Exchange} {y : Exchange} {harvest : Harvest} → IsHarvestOf port log harvest → Adds log y after → IsHarvestOf port after harvest
harvest_more h a = record { zone = h.zone; asked = h.asked; message = h.message; responds = Known.kept a h.responds; finds = h.finds; passing = h.passing }

-- Less is left behind an alias.
pub longer_within : {left : ℕ} (path next : Path) (told : AnswerSet) (to : Labels) → IsLonger path told to next → left_of_path path 4 ≤ left → left_of_path next 5 ≤ left
longer_within path next told to longer most =
    few_is (less_than (longer_less path next told to 5 4 longer (omega arith)) most)

-- Less is left where only an alias is looked at.
pub alias_within : {left : ℕ} (path : Path) → left_of_path path 4 ≤ left → left_of_path path 3 ≤ left
alias_within path most = few_is (less_than (looks_less path 3 4 (omega arith) (omega arith)) most)

pub path_within : {port : ℕ} {question : Question} {log : List Exchange} {path : Path} {left : ℕ} → IsPath port question log path → left_of_path path 4 ≤ left → left_in Ended < left
path_within p most = less_than (path_some 4 p) most

-- ---- where the response to a query answers

pub hearing_within : {port : ℕ} {question : Question} {log : List Exchange} {path : Path} → IsPath port question log path → left_in Ended < left_of_hearing path 1
hearing_within {path = path} p = path_within p (few_is (hearing_less path))

-- Its alias leads to a name for which no query was sent yet.
pub come_by : {port : ℕ} {question : Question} {log : List Exchange} {path : Path} {told : AnswerSet} {to : Labels} → IsPath port question log path → GaveAlias log path.last told → IsTarget told to → HasCome port question log to
come_by {log = log} {path = path} {told = told} p gave target =
    HasCome.answered {mid = path.last.owner} (subst (λ (k : ℕ). GaveAlias log (record { owner = path.last.owner; kind = k }) told) p.kind gave) target
