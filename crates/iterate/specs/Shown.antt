-- What a book may reply to what a task asks it, and what a look says of a question.
use Rattle.std.specs.Prelude.{◌≡◌, ℕ, ◌≤◌, ◌⊎◌, true, false, List, Option, Some, None, length}
use Rattle.std.specs.List.{AllByRecursion}
use Rattle.std.specs.Option.{option_map}
use Rattle.dns_name.specs.Labels.{IsAtOrBelow}
use Rattle.dns_text.specs.declared.record.Question.{Question}
use Rattle.dns_text.specs.declared.record.Record.{Record}
use Rattle.dns_query.specs.Query.{alias_question}
use Rattle.local_zone.specs.declared.local_answer.Local.{Local}
use Rattle.local_zone.specs.declared.local_answer.Local.TheVariants as local
use Rattle.ranked.specs.Body.{is_negative}
use Rattle.ranked.specs.Find.{touches}
use Rattle.ranked.specs.Rank.{level_of}
use Rattle.ranked.specs.declared.cell.Shown.{Shown}
use Rattle.ranked.specs.declared.find.Body.TheVariants.{NoData, NoName}
use Rattle.ranked.specs.declared.find.Find.{Find}
use Rattle.history.specs.declared.event.Ask.{Ask}
use Rattle.history.specs.declared.event.Ask.TheVariants.{Answer as Asked, Oldest, Servers as ServersFor}
use Rattle.history.specs.declared.event.Event.{Event}
use Rattle.history.specs.declared.event.Event.TheVariants.{Admit, Forget, Look, Sweep}
use Rattle.history.specs.declared.event.Reply.{Reply as BookReply}
use Rattle.history.specs.declared.event.Reply.TheVariants.{Taken, Outranked, Seen, Swept, Forgotten}
use Rattle.history.specs.declared.event.Seen.{Seen as SeenValue}
use Rattle.history.specs.declared.event.Seen.TheVariants.{Unknown, Held, Local as LocalSeen, Oldest as SeenOldest, Servers as SeenServers}
use Rattle.iterate.specs.declared.answer.Soa.{Soa}
use Rattle.iterate.specs.declared.answer.Soa.TheVariants.{Find as FindSoa, Local as LocalSoa}
use Rattle.iterate.specs.declared.answer.AnswerSet.{AnswerSet}
use Rattle.iterate.specs.declared.answer.AnswerSet.TheVariants.{Local as LocalTold}
use Rattle.iterate.specs.declared.want.Input.{Input}
use Rattle.iterate.specs.declared.want.Input.TheVariants.{Reply, Refused}
use Rattle.iterate.specs.Told.{told_of, IsFormed}

-- ---- replies of the right kind

-- A find is about the question, and its rank allows that it is answered (RFC 2181, section 5.4.1).
pub record IsShownFor (question : Question) (shown : Shown Find) : Type 0 where
  pub touches : touches shown.body question ≡ true
  pub trusted : 2 ≤ level_of shown.body.rank

-- A local record is of the question's name and type, and its data have their form.
pub record IsLocalRecord (question : Question) (r : Record) : Type 0 where
  pub owner : r.owner ≡ question.owner
  pub kind : r.kind ≡ question.kind
  pub formed : IsFormed r

-- Each is of the question's name and type.
abbrev pub AreLocal : Question → List Record → Type 0
AreLocal question records = AllByRecursion (IsLocalRecord question) records

-- A local set is of the type asked, or is what the name is an alias of (RFC 1034, section 3.6.2).
pub record IsLocalSet (question : Question) (records : List Record) : Type 0 where
  pub some : 1 ≤ length records
  pub are : AreLocal question records ⊎ AreLocal (alias_question question.owner) records

-- The SOA record, if any, can be written.
abbrev pub IsSoaFormed : Option Record → Type 0
IsSoaFormed None = Unit {0}
IsSoaFormed (Some soa) = IsFormed soa

-- What local zones may answer a question.
abbrev pub IsLocalFor : Question → Local (List Record) Record → Type 0
IsLocalFor question (local.Data records) = IsLocalSet question records
IsLocalFor question (local.NoData soa) = IsSoaFormed soa
IsLocalFor question (local.NoName soa) = IsSoaFormed soa
IsLocalFor question local.Refuse = Unit {0}
IsLocalFor question local.Drop = Unit {0}
IsLocalFor question local.Pass = ⊥

-- What may be replied to a look.
abbrev pub IsLookReply : Ask → BookReply → Type 0
IsLookReply (Asked question) (Seen Unknown) = Unit {0}
IsLookReply (Asked question) (Seen (Held shown)) = IsShownFor question shown
IsLookReply (Asked question) (Seen (LocalSeen answer)) = IsLocalFor question answer
IsLookReply (Asked question) reply = ⊥
IsLookReply (ServersFor name) (Seen (SeenServers servers)) = IsAtOrBelow name servers.zone
IsLookReply (ServersFor name) reply = ⊥
IsLookReply Oldest (Seen (SeenOldest name)) = Unit {0}
IsLookReply Oldest reply = ⊥
IsLookReply ask reply = Unit {0}

-- What may be replied to an admission.
abbrev pub IsAdmitted : BookReply → Type 0
IsAdmitted Taken = Unit {0}
IsAdmitted Outranked = Unit {0}
IsAdmitted reply = ⊥

-- A look got a fault, or an event got a reply that it may not get. (A fault is passed over where a find is handed over, and where room is made for it.)
abbrev pub IsMisanswered : Event → Input → Type 0
IsMisanswered (Look moment Oldest) (Refused fault) = ⊥
IsMisanswered (Look moment ask) (Refused fault) = Unit {0}
IsMisanswered (Look moment ask) (Reply reply) = ¬ (IsLookReply ask reply)
IsMisanswered (Admit moment find) (Reply reply) = ¬ (IsAdmitted reply)
IsMisanswered (Sweep moment) (Reply reply) = ¬ (reply ≡ Swept)
IsMisanswered (Forget moment owner) (Reply reply) = ¬ (reply ≡ Forgotten)
IsMisanswered event input = ⊥

-- ---- what a look says of a question

-- A find is a set that answers the question.
pub record IsSetShown (question : Question) (shown : Shown Find) : Type 0 where
  pub shown_for : IsShownFor question shown
  pub has_data : is_negative shown.body.body ≡ false

-- What a look sees ends the question: with this RCODE (RFC 1035, section 4.1.1), these sets and this SOA record.
pub data EndsQuestion (question : Question) : SeenValue → ℕ → Option AnswerSet → Option Soa → Type 0 where
  held : {shown : Shown Find} → IsSetShown question shown → EndsQuestion question (Held shown) 0 (Some (told_of shown)) None
  held_no_data : {shown : Shown Find} {soa : Record} → IsShownFor question shown → shown.body.body ≡ NoData soa
      → EndsQuestion question (Held shown) 0 None (Some (FindSoa shown.left shown.body))
  held_no_name : {shown : Shown Find} {soa : Record} → IsShownFor question shown → shown.body.body ≡ NoName soa
      → EndsQuestion question (Held shown) 3 None (Some (FindSoa shown.left shown.body))
  local_set : {records : List Record} → IsLocalSet question records → EndsQuestion question (LocalSeen (local.Data records)) 0 (Some (LocalTold records)) None
  local_no_data : {soa : Option Record} → IsSoaFormed soa → EndsQuestion question (LocalSeen (local.NoData soa)) 0 None (option_map LocalSoa soa)
  local_no_name : {soa : Option Record} → IsSoaFormed soa → EndsQuestion question (LocalSeen (local.NoName soa)) 3 None (option_map LocalSoa soa)
