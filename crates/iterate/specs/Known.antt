-- What may be believed after some exchanges, and why.
use Rattle.std.specs.Prelude.{◌≡◌, ℕ, List, ◌∷◌, ◌++◌}
use Rattle.std.specs.List.{Contains}
use Rattle.dns_name.specs.Labels.{Labels, IsAtOrBelow}
use Rattle.dns_text.specs.declared.addr.Addr.{Addr}
use Rattle.dns_text.specs.declared.record.Question.{Question}
use Rattle.dns_text.specs.declared.record.Record.{Record}
use Rattle.dns_wire.specs.declared.message.Message.{Message}
use Rattle.dns_query.specs.declared.over.Over.{Over}
use Rattle.dns_query.specs.declared.verdict.Referral.{Referral}
use Rattle.dns_query.specs.Believed.{IsFoundFor, IsPassingFor}
use Rattle.dns_query.specs.Query.{IsQuery, address_question}
use Rattle.dns_query.specs.Referral.{IsReferral}
use Rattle.dns_query.specs.Response.{IsResponse}
use Rattle.dns_query.specs.Verdict.{IsUseful}
use Rattle.harvest.specs.Harvest.{finds_in, passing_in}
use Rattle.harvest.specs.Learnt.{set_of}
use Rattle.harvest.specs.declared.passing.PassingSet.{PassingSet}
use Rattle.local_zone.specs.declared.local_answer.Local.TheVariants.{Data as LocalData}
use Rattle.neg_rule.specs.Negative.{said_by}
use Rattle.ranked.specs.declared.cell.Shown.{Shown}
use Rattle.ranked.specs.declared.find.Find.{Find}
use Rattle.history.specs.declared.event.Ask.TheVariants.{Answer as Asked, Servers as ServersFor}
use Rattle.history.specs.declared.event.Event.TheVariants.{Look}
use Rattle.history.specs.declared.event.Reply.TheVariants.{Seen}
use Rattle.history.specs.declared.event.Seen.TheVariants.{Unknown, Held, Local as LocalSeen, Servers as SeenServers}
use Rattle.history.specs.declared.servers.Servers.{Servers}
use Rattle.history.specs.declared.servers.Origin.TheVariants.{Cache}
use Rattle.iterate.specs.declared.answer.AnswerSet.{AnswerSet}
use Rattle.iterate.specs.declared.answer.AnswerSet.TheVariants.{Local as LocalTold, Passing as PassingTold}
use Rattle.iterate.specs.declared.want.Allowance.{Allowance}
use Rattle.iterate.specs.declared.want.Input.TheVariants.{Reply, Came}
use Rattle.iterate.specs.declared.want.Want.TheVariants.{Book, Send}
use Rattle.iterate.specs.Exchanges.{Exchange, exchange, Adds, AreQuiet, Happened}
use Rattle.iterate.specs.Shown.{IsSetShown, IsLocalSet}
use Rattle.iterate.specs.Told.{told_of, told_whole, IsAddressIn}

-- what an answer may rest on
pub data Fact : Type 0 where
  Had : Question → AnswerSet → Fact  -- the question is answered by this set
  Listed : Servers → Fact  -- these are the servers of their zone, some still without an address
  Serves : Labels → Addr → Fact  -- this address is a server of this zone
  Responds : Labels → Question → Message → Fact  -- a server of this zone says this of the question, and it is of use

-- A look at the question found nothing: no find, no local data and no local zone. Only such a question is sent to servers.
pub record WasUnknown (log : List Exchange) (question : Question) : Type 0 where
  pub moment : ℕ
  pub looked : Happened log (exchange (Book (Look moment (Asked question))) (Reply (Seen Unknown)))

-- A look at the question found nothing, and no query was sent since.
pub record IsUnknownYet (log : List Exchange) (question : Question) : Type 0 where
  pub moment : ℕ
  pub before : List Exchange
  pub since : List Exchange
  pub looked : log ≡ before ++ exchange (Book (Look moment (Asked question))) (Reply (Seen Unknown)) ∷ since
  pub quiet : AreQuiet since

-- the servers to which a response refers
abbrev pub servers_referred : Referral → Servers
servers_referred referral = record { zone = referral.zone; source = Cache; addrs = referral.addrs; missing = referral.missing }

-- A fact is known after exchanges (the servers without a port of their own listen at this port).
pub data Known (port : ℕ) : List Exchange → Fact → Type 0 where
  -- What was known stays known.
  kept : {before after : List Exchange} {x : Exchange} {fact : Fact}
      → Adds before x after → Known port before fact → Known port after fact
  -- A look at the question showed a find.
  looked : {before after : List Exchange} {moment : ℕ} {question : Question} {shown : Shown Find}
      → Adds before (exchange (Book (Look moment (Asked question))) (Reply (Seen (Held shown)))) after
      → IsSetShown question shown
      → Known port after (Had question (told_of shown))
  -- A look at the question was answered by local data.
  local : {before after : List Exchange} {moment : ℕ} {question : Question} {records : List Record}
      → Adds before (exchange (Book (Look moment (Asked question))) (Reply (Seen (LocalSeen (LocalData records))))) after
      → IsLocalSet question records
      → Known port after (Had question (LocalTold records))
  -- The book named the servers for a name.
  named : {before after : List Exchange} {moment : ℕ} {name : Labels} {servers : Servers}
      → Adds before (exchange (Book (Look moment (ServersFor name))) (Reply (Seen (SeenServers servers)))) after
      → Known port after (Listed servers)
  -- A response referred to them (RFC 1034, section 5.3.3, step 4b).
  referred : {log : List Exchange} {zone : Labels} {question : Question} {v : Message} {referral : Referral}
      → Known port log (Responds zone question v) → IsReferral port zone question v referral → Known port log (Listed (servers_referred referral))
  -- They have this address.
  addressed : {log : List Exchange} {servers : Servers} {addr : Addr}
      → Known port log (Listed servers) → Contains servers.addrs addr → Known port log (Serves servers.zone addr)
  -- One of them has no address there, and this one by a set.
  found : {log : List Exchange} {servers : Servers} {target : Labels} {told : AnswerSet} {addr : Addr}
      → Known port log (Listed servers) → Contains servers.missing target
      → Known port log (Had (address_question target) told) → IsAddressIn port told addr → Known port log (Serves servers.zone addr)
  -- A look at the question found nothing; then a server of a zone in which the name lies was asked, and its response is of use.
  responded : {before after : List Exchange} {zone : Labels} {server : Addr} {over : Over} {bytes octets : List ℕ} {id : ℕ} {allowance : Allowance} {question : Question} {v : Message}
      → Adds before (exchange (Send server over bytes) (Came octets allowance)) after
      → WasUnknown before question → Known port before (Serves zone server) → IsQuery bytes id question → IsAtOrBelow question.owner zone
      → IsResponse id question octets v → IsUseful port zone question v
      → Known port after (Responds zone question v)
  -- The harvest of a response has it, at rank 2 or more.
  harvested : {log : List Exchange} {zone : Labels} {question asked : Question} {v : Message} {find : Find}
      → Known port log (Responds zone asked v) → Contains (finds_in v asked zone) (said_by find) → IsFoundFor question (said_by find)
      → Known port log (Had question (told_whole find))
  -- So has what passes there.
  passed : {log : List Exchange} {zone : Labels} {question asked : Question} {v : Message} {set : PassingSet}
      → Known port log (Responds zone asked v) → Contains (passing_in v asked zone) (set_of set) → IsPassingFor question (set_of set)
      → Known port log (Had question (PassingTold set))
