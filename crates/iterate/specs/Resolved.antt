-- When an answer resolves a question.
use Rattle.std.specs.Prelude.{◌≡◌, ℕ, ◌+◌, ◌≤◌, Bool, true, false, List, [], ◌∷◌, ◌++◌, length, Option, Some, None}
use Rattle.std.specs.List.{Contains}
use Rattle.std.specs.Option.{option_map}
use Rattle.dns_name.specs.Labels.{Labels, IsAtOrBelow}
use Rattle.dns_text.specs.declared.addr.Addr.{Addr}
use Rattle.dns_text.specs.declared.record.Question.{Question}
use Rattle.dns_wire.specs.declared.message.Message.{Message}
use Rattle.dns_query.specs.declared.over.Over.{Over}
use Rattle.dns_query.specs.declared.verdict.Referral.{Referral}
use Rattle.dns_query.specs.Query.{IsQuery, address_question, alias_question}
use Rattle.dns_query.specs.Referral.{IsReferral}
use Rattle.dns_query.specs.Verdict.{IsDenial, IsUseless}
use Rattle.local_zone.specs.declared.local_answer.Local.TheVariants as local
use Rattle.neg_rule.specs.Negative.{said_by, negative_in}
use Rattle.ranked.specs.declared.find.Find.{Find}
use Rattle.history.specs.declared.event.Ask.TheVariants.{Answer as Asked, Servers as ServersFor}
use Rattle.history.specs.declared.event.Event.{Event}
use Rattle.history.specs.declared.event.Event.TheVariants.{Look}
use Rattle.history.specs.declared.event.Reply.TheVariants.{Seen}
use Rattle.history.specs.declared.event.Seen.{Seen as SeenValue}
use Rattle.history.specs.declared.event.Seen.TheVariants.{Held, Local as LocalSeen, Servers as SeenServers}
use Rattle.history.specs.declared.servers.Servers.{Servers}
use Rattle.iterate.specs.declared.answer.Answer.{Answer}
use Rattle.iterate.specs.declared.answer.Answer.TheVariants.{Reply as Replies, Silent}
use Rattle.iterate.specs.declared.answer.Soa.{Soa}
use Rattle.iterate.specs.declared.answer.AnswerSet.{AnswerSet}
use Rattle.iterate.specs.declared.limits.TheConstants.{MOST_ALIASES, MOST_SENDS}
use Rattle.iterate.specs.declared.want.Allowance.{Allowance}
use Rattle.iterate.specs.declared.want.Input.{Input}
use Rattle.iterate.specs.declared.want.Input.TheVariants.{Reply, Came, Failed}
use Rattle.iterate.specs.declared.want.Want.TheVariants.{Book, Send}
use Rattle.iterate.specs.Exchanges.{Exchange, exchange, Adds, Happened, count_sends}
use Rattle.iterate.specs.Known.{WasUnknown, Known, Had, Responds, servers_referred}
use Rattle.iterate.specs.Served.{served_name}
use Rattle.iterate.specs.Shown.{IsShownFor, IsLocalFor, IsMisanswered, EndsQuestion}
use Rattle.iterate.specs.Told.{IsTarget, IsAddressIn, soa_whole}

-- ---- the first look

-- The first exchange is a look at the question, and this came of it.
pub record Began (question : Question) (input : Input) (log : List Exchange) : Type 0 where
  pub moment : ℕ
  pub rest : List Exchange
  pub begins : log ≡ exchange (Book (Look moment (Asked question))) input ∷ rest

-- It got neither a find nor a local answer of the question.
abbrev pub IsNoAnswer : Question → Input → Type 0
IsNoAnswer question (Reply (Seen (Held shown))) = ¬ (IsShownFor question shown)
IsNoAnswer question (Reply (Seen (LocalSeen answer))) = ¬ (IsLocalFor question answer)
IsNoAnswer question input = Unit {0}

-- The first look got no answer, so the resolution went on or failed.
pub record BeganUnanswered (question : Question) (log : List Exchange) : Type 0 where
  pub input : Input
  pub began : Began question input log
  pub no_answer : IsNoAnswer question input

-- whether local data or a local zone answered
abbrev pub is_local : SeenValue → Bool
is_local (LocalSeen answer) = true
is_local seen = false

-- ---- the chain of aliases (RFC 1034, section 3.6.2)

-- the question of a name, of the type asked
abbrev pub question_at : Question → Labels → Question
question_at question name = record { owner = name; kind = question.kind }

-- From the name of a question these sets, each a CNAME set of the name before, lead to a name. An alias is followed only where a look at its own name, with the type asked, found nothing.
pub data Chain (port : ℕ) (log : List Exchange) (question : Question) : List AnswerSet → Labels → Type 0 where
  start : Chain port log question [] question.owner
  alias : {mid to : Labels} {front sets : List AnswerSet} {told : AnswerSet}
      → Chain port log question front mid → WasUnknown log (question_at question mid) → Known port log (Had (alias_question mid) told) → IsTarget told to
      → sets ≡ front ++ told ∷ [] → Chain port log question sets to

-- ---- what a response denies (RFC 2308)

-- An authoritative response has neither the set nor an alias; its SOA record is that of what it denies, if it gives one.
pub record IsDenied (port : ℕ) (log : List Exchange) (question : Question) (rcode : ℕ) (authority : Option Soa) : Type 0 where
  pub zone : Labels
  pub message : Message
  pub responds : Known port log (Responds zone question message)
  pub denial : IsDenial zone question message
  pub same : rcode ≡ message.head.rcode
  pub negative : Option Find
  pub said : option_map said_by negative ≡ negative_in message question zone
  pub soa : authority ≡ option_map soa_whole negative

-- ---- why a question fails

-- What came of a query is of no use.
abbrev pub CameUseless : ℕ → Over → Labels → ℕ → Question → Input → Type 0
CameUseless port over zone id question (Came octets allowance) = IsUseless port over zone id question octets
CameUseless port over zone id question Failed = Unit {0}
CameUseless port over zone id question input = ⊥

-- A server was asked the question, in vain.
pub record Struck (port : ℕ) (log : List Exchange) (zone : Labels) (question : Question) (server : Addr) : Type 0 where
  pub over : Over
  pub bytes : List ℕ
  pub id : ℕ
  pub input : Input
  pub asked : Happened log (exchange (Send server over bytes) input)
  pub query : IsQuery bytes id question
  pub useless : CameUseless port over zone id question input

-- The exchanges since a list of servers was reached for a question.
pub data ReachedFor (port : ℕ) (log : List Exchange) (question : Question) (servers : Servers) (since : List Exchange) : Type 0 where
  by_book : (before : List Exchange) (moment : ℕ)
      → log ≡ before ++ exchange (Book (Look moment (ServersFor (served_name question)))) (Reply (Seen (SeenServers servers))) ∷ since
      → ReachedFor port log question servers since
  by_referral : (before upto : List Exchange) (server : Addr) (over : Over) (bytes octets : List ℕ) (allowance : Allowance) {zone : Labels} {v : Message} {referral : Referral}
      → log ≡ before ++ exchange (Send server over bytes) (Came octets allowance) ∷ since
      → Adds before (exchange (Send server over bytes) (Came octets allowance)) upto
      → Known port upto (Responds zone question v) → IsReferral port zone question v referral → servers ≡ servers_referred referral
      → ReachedFor port log question servers since

-- A server without an address that may be looked for: it does not lie in the zone, and is not what is asked already.
pub record MaySeek (question : Question) (servers : Servers) (target : Labels) : Type 0 where
  pub among : Contains servers.missing target
  pub outside : ¬ (IsAtOrBelow target servers.zone)
  pub other : ¬ (address_question target ≡ question)

-- A server is one of these: its address came with them, or a set that is known has it.
pub data IsOneOf (port : ℕ) (log : List Exchange) (servers : Servers) (addr : Addr) : Type 0 where
  given : Contains servers.addrs addr → IsOneOf port log servers addr
  found : {target : Labels} {told : AnswerSet} → Contains servers.missing target → Known port log (Had (address_question target) told) → IsAddressIn port told addr
      → IsOneOf port log servers addr

-- The look for the address of a server saw this one.
pub record IsShown (port : ℕ) (target : Labels) (input : Input) (addr : Addr) : Type 0 where
  pub seen : SeenValue
  pub rcode : ℕ
  pub told : AnswerSet
  pub replied : input ≡ Reply (Seen seen)
  pub ends : EndsQuestion (address_question target) seen rcode (Some told) None
  pub among : IsAddressIn port told addr

-- Its address was looked for, and this became of each one that the look saw.
pub record Sought (port : ℕ) (log : List Exchange) (target : Labels) (Became : Addr → Type 0) : Type 0 where
  pub moment : ℕ
  pub input : Input
  pub looked : Happened log (exchange (Book (Look moment (Asked (address_question target)))) input)
  pub became : (addr : Addr) → IsShown port target input addr → Became addr

-- A look at the question found nothing, and a list of servers was reached for it. Since then each address was asked in vain. Each server without one was looked for, and each address that was seen was asked in vain.
pub record Exhausted (port : ℕ) (log : List Exchange) (question : Question) : Type 0 where
  pub unknown : WasUnknown log question
  pub servers : Servers
  pub since : List Exchange
  pub reached : ReachedFor port log question servers since
  pub vain : (server : Addr) → Contains servers.addrs server → Struck port since servers.zone question server
  pub sought : (target : Labels) → MaySeek question servers target → Sought port since target (Struck port since servers.zone question)

-- the look got what ends a question behind an alias, and answers nothing
pub data IsBarred : SeenValue → Type 0 where
  refused : IsBarred (LocalSeen local.Refuse)
  dropped : IsBarred (LocalSeen local.Drop)

-- Behind so many aliases the question fails.
pub data Fails (port : ℕ) (log : List Exchange) (question : Question) (aliases : ℕ) : Type 0 where
  misanswered : {event : Event} {input : Input} → Happened log (exchange (Book event) input) → IsMisanswered event input → Fails port log question aliases
  spent : count_sends log ≡ MOST_SENDS → Fails port log question aliases
  long : aliases ≡ MOST_ALIASES + 1 → Fails port log question aliases
  barred : {moment : ℕ} {seen : SeenValue} → 1 ≤ aliases → Happened log (exchange (Book (Look moment (Asked question))) (Reply (Seen seen))) → IsBarred seen → Fails port log question aliases
  exhausted : Exhausted port log question → Fails port log question aliases

-- ---- the answer

-- A question is answered with this RCODE, whether with authority, these aliases, this last set and this SOA record. It is authoritative where local data or a local zone answered the first look.
pub data ResolvedAs (port : ℕ) (question : Question) (log : List Exchange) : ℕ → Bool → List AnswerSet → Option AnswerSet → Option Soa → Type 0 where
  -- The first look ends it.
  at_once : {seen : SeenValue} {rcode : ℕ} {last : Option AnswerSet} {authority : Option Soa}
      → Began question (Reply (Seen seen)) log → EndsQuestion question seen rcode last authority
      → ResolvedAs port question log rcode (is_local seen) [] last authority
  -- A chain of aliases ends in what a look says.
  looked : {name : Labels} {front : List AnswerSet} {moment : ℕ} {seen : SeenValue} {rcode : ℕ} {last : Option AnswerSet} {authority : Option Soa}
      → BeganUnanswered question log → Chain port log question front name → length front ≤ MOST_ALIASES
      → Happened log (exchange (Book (Look moment (Asked (question_at question name)))) (Reply (Seen seen))) → EndsQuestion (question_at question name) seen rcode last authority
      → ResolvedAs port question log rcode false front last authority
  -- A chain ends in a set, and a look at the last name found nothing: a set that came with its alias is no answer where the operator blocks or sets its name.
  found : {name : Labels} {front : List AnswerSet} {told : AnswerSet}
      → BeganUnanswered question log → Chain port log question front name → length front ≤ MOST_ALIASES
      → WasUnknown log (question_at question name) → Known port log (Had (question_at question name) told) → ResolvedAs port question log 0 false front (Some told) None
  -- A chain ends where a response denies.
  denied : {name : Labels} {front : List AnswerSet} {rcode : ℕ} {authority : Option Soa}
      → BeganUnanswered question log → Chain port log question front name → length front ≤ MOST_ALIASES
      → IsDenied port log (question_at question name) rcode authority → ResolvedAs port question log rcode false front None authority
  -- The first look was refused by a local zone.
  refused : Began question (Reply (Seen (LocalSeen local.Refuse))) log → ResolvedAs port question log 5 true [] None None
  -- A chain ends where nothing more can be had: SERVFAIL.
  failed : {name : Labels} {front : List AnswerSet}
      → BeganUnanswered question log → Chain port log question front name → Fails port log (question_at question name) (length front)
      → ResolvedAs port question log 2 false [] None None

-- The answer resolves the question, by the exchanges so far.
abbrev pub IsResolved : ℕ → Question → List Exchange → Answer → Type 0
IsResolved port question log (Replies rcode aa aliases last authority) = ResolvedAs port question log rcode aa aliases last authority
IsResolved port question log Silent = Began question (Reply (Seen (LocalSeen local.Drop))) log
