-- The verdict on the octets that came for a query (RFC 1034, section 5.3.3, step 4; RFC 2308, section 2).
use Rattle.std.specs.Prelude.{◌≡◌, ℕ, ◌⊎◌, true, List, Option, Result, IfOk, MatchOption, map}
use Rattle.std.specs.Option.{option_map}
use Rattle.dns_name.specs.Labels.{Labels}
use Rattle.dns_text.specs.declared.record.Question.{Question}
use Rattle.dns_wire.specs.declared.message.Message.{Message}
use Rattle.neg_rule.specs.Negative.{negative_in, said_by}
use Rattle.harvest.specs.Chosen.{chosen_in}
use Rattle.harvest.specs.Harvest.{finds_in, passing_in}
use Rattle.harvest.specs.Learnt.{set_of}
use Rattle.dns_query.specs.declared.over.Over.{Over}
use Rattle.dns_query.specs.declared.verdict.Referral.{Referral}
use Rattle.dns_query.specs.declared.verdict.Heard.{Heard}
use Rattle.dns_query.specs.declared.verdict.Says.{Says}
use Rattle.dns_query.specs.declared.verdict.Says.TheVariants.{Answers, Denies, Refers}
use Rattle.dns_query.specs.declared.verdict.Verdict.{Verdict}
use Rattle.dns_query.specs.declared.verdict.Verdict.TheVariants.{Struck, Cut, Heard as HeardAs}
use Rattle.dns_query.specs.Believed.{HasSet}
use Rattle.dns_query.specs.Query.{alias_question}
use Rattle.dns_query.specs.Referral.{IsReferral}
use Rattle.dns_query.specs.Response.{IsRead, IsResponse, IsWhole, IsCut, Meets}

-- The harvest has the set that the question asks for, or a CNAME record of its name.
abbrev pub IsAnswer : Labels → Question → Message → Type 0
IsAnswer zone question v = HasSet v question zone question ⊎ HasSet v question zone (alias_question question.owner)

-- The response is authoritative and has neither of them (RFC 2308, section 2).
pub record IsDenial (zone : Labels) (question : Question) (v : Message) : Type 0 where
  pub authoritative : v.head.aa ≡ true
  pub no_set : ¬ (HasSet v question zone question)
  pub no_alias : ¬ (HasSet v question zone (alias_question question.owner))

-- The response answers the question, is authoritative, or refers to servers.
abbrev pub Tells : ℕ → Labels → Question → Message → Type 0
Tells port zone question v = IsAnswer zone question v ⊎ ((v.head.aa ≡ true) ⊎ ((referral : Referral) × IsReferral port zone question v referral))

-- The response is of use: it is whole, and it answers, denies or refers.
pub record IsUseful (port : ℕ) (zone : Labels) (question : Question) (v : Message) : Type 0 where
  pub whole : IsWhole v
  pub says : Tells port zone question v

-- The octets are no response, or one that is of no use and was not truncated by UDP.
abbrev pub IsUseless : ℕ → Over → Labels → ℕ → Question → List ℕ → Type 0
IsUseless port over zone id question octets = (v : Message) → IsResponse id question octets v → (¬ (IsCut over v)) × (¬ (IsUseful port zone question v))

-- The response answers the question, denies it, or refers to other servers, as stated.
abbrev pub IsSaid : ℕ → Labels → Question → Message → Says → Type 0
IsSaid port zone question v Answers = IsAnswer zone question v
IsSaid port zone question v (Denies rcode negative) = IsDenial zone question v × (rcode ≡ v.head.rcode) × (option_map said_by negative ≡ negative_in v question zone)
IsSaid port zone question v (Refers referral) = IsReferral port zone question v referral

-- The octets are a whole response with this harvest, and it says this about the question.
pub record IsHeard (port : ℕ) (zone : Labels) (id : ℕ) (question : Question) (octets : List ℕ) (heard : Heard) : Type 0 where
  pub message : Message
  pub response : IsResponse id question octets message
  pub whole : IsWhole message
  pub finds : map said_by heard.harvest.finds ≡ finds_in message question zone
  pub chosen : map said_by heard.harvest.chosen ≡ chosen_in message question zone
  pub passing : map set_of heard.harvest.passing ≡ passing_in message question zone
  pub says : IsSaid port zone question message heard.says

-- The octets are a response that was truncated, and is available whole over TCP.
pub record IsTruncated (over : Over) (id : ℕ) (question : Question) (octets : List ℕ) : Type 0 where
  pub message : Message
  pub response : IsResponse id question octets message
  pub cut : IsCut over message

-- The verdict on octets that came for a query, with this identifier and question, to a server of this zone. Servers listen at this port.
abbrev pub IsVerdict : ℕ → Over → Labels → ℕ → Question → List ℕ → Verdict → Type 0
IsVerdict port over zone id question octets Struck = IsUseless port over zone id question octets
IsVerdict port over zone id question octets Cut = IsTruncated over id question octets
IsVerdict port over zone id question octets (HeardAs heard) = IsHeard port zone id question octets heard

-- The answer, denial or referral of a response is found, if it has one.
abbrev pub FindsSaid : ℕ → Labels → Question → Message → Option Says → Type 0
FindsSaid port zone question v found = MatchOption found (¬ (Tells port zone question v)) (IsSaid port zone question v)

-- Whichever octets spell a message that meets the question, the verdict on them is right.
abbrev pub JudgesMessage : {E : Type 0} → ℕ → Labels → Question → Message → Result Verdict E → Type 0
JudgesMessage port zone question v result =
    (over : Over) (id : ℕ) (octets : List ℕ) → IsRead octets v → Meets id question v → IfOk result (IsVerdict port over zone id question octets)
