-- What came of a query, from what the octets are and what their harvest has.
use Rattle.std.proofs.Common.{◌≡◌, ◌⊎◌, ℕ, false, List, inl, inr, sym, ◌∙◌, subst}
use Rattle.std.proofs.lemmas.Bool.{false≢true}
use Rattle.dns_name.specs.Labels.{Labels}
use Rattle.dns_text.specs.declared.record.Question.{Question}
use Rattle.dns_wire.specs.declared.message.Message.{Message}
use Rattle.neg_rule.specs.Negative.{Said, said_by}
use Rattle.harvest.specs.Learnt.{set_of}
use Rattle.harvest.specs.Sets.{Set}
use Rattle.dns_query.specs.declared.verdict.Referral.{Referral}
use Rattle.dns_query.specs.declared.over.Over.{Over}
use Rattle.dns_query.specs.declared.sets.Believed.{Believed}
use Rattle.dns_query.specs.declared.sets.Believed.TheVariants.{Find, Passing}
use Rattle.dns_query.specs.Believed.{HasSetAmong, found, passes, IsBelieved, IsFoundFor, IsPassingFor}
use Rattle.dns_query.specs.BelievedLaws.{first_contained}
use Rattle.dns_query.specs.Query.{alias_question}
use Rattle.dns_query.specs.Referral.{IsReferral}
use Rattle.dns_query.specs.Response.{IsRead, IsWhole, IsCut, Meets}
use Rattle.dns_query.specs.Verdict.{IsAnswer, IsUseful, IsUseless, Tells}

-- what is believed is there
pub believed_has : (finds : List Said) (passing : List Set) (question : Question) (believed : Believed) → IsBelieved finds passing question believed → HasSetAmong finds passing question
believed_has finds passing question (Find find) h = found (said_by find.now) (first_contained (IsFoundFor question) finds (said_by find.now) h) h.holds
believed_has finds passing question (Passing set) h = passes (set_of set.now) (first_contained (IsPassingFor question) passing (set_of set.now) h.1) h.1.holds

-- what these lists have, for a question or for the alias of its name
abbrev pub HasAnswer : List Said → List Set → Question → Type 0
HasAnswer finds passing question = HasSetAmong finds passing question ⊎ HasSetAmong finds passing (alias_question question.owner)

pub answer_in : (finds fs : List Said) (passing ps : List Set) (question : Question) → finds ≡ fs → passing ≡ ps → HasAnswer finds passing question → HasAnswer fs ps question
answer_in finds fs passing ps question same also h =
    subst (λ (xs : List Said). HasAnswer xs ps question) same (subst (λ (ys : List Set). HasAnswer finds ys question) also h)

-- a response that says none of these says nothing
pub not_telling : {port : ℕ} {zone : Labels} {question : Question} {v : Message} → ¬ (IsAnswer zone question v) → v.head.aa ≡ false → ((referral : Referral) → ¬ (IsReferral port zone question v referral)) → ¬ (Tells port zone question v)
not_telling no_answer no_authority no_referral (inl answer) = no_answer answer
not_telling no_answer no_authority no_referral (inr (inl authority)) = false≢true (sym no_authority ∙ authority)
not_telling no_answer no_authority no_referral (inr (inr refers)) = no_referral refers.0 refers.1

module _ {port : ℕ} {zone : Labels} {id : ℕ} {question : Question} {octets : List ℕ} {v : Message} (r : IsRead octets v) (over : Over) where
  pub not_meeting : ¬ (Meets id question v) → IsUseless port over zone id question octets
  not_meeting no_response w h = absurd (no_response (subst (Meets id question) (r.only w h.spelled) h.meets))

  pub of_no_use : ¬ (IsCut over v) → ¬ (IsUseful port zone question v) → IsUseless port over zone id question octets
  of_no_use not_cut not_useful w h = (
    λ cut. not_cut (subst (IsCut over) (r.only w h.spelled) cut),
    λ useful. not_useful (subst (IsUseful port zone question) (r.only w h.spelled) useful),
  )

  -- what is whole was not truncated
  pub nothing_told : IsWhole v → ¬ (Tells port zone question v) → IsUseless port over zone id question octets
  nothing_told whole silent = of_no_use (λ cut. false≢true (sym whole.whole ∙ cut.cut)) (λ useful. silent useful.says)
