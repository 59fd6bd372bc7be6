-- What came of a query, and which addresses are known by it.
use Rattle.std.specs.Prelude.{◌≡◌, ℕ, List}
use Rattle.dns_name.specs.Labels.{Labels}
use Rattle.dns_text.specs.declared.addr.Addr.{Addr}
use Rattle.dns_text.specs.declared.record.Question.{Question}
use Rattle.dns_query.specs.declared.over.Over.{Over}
use Rattle.dns_query.specs.declared.verdict.Verdict.{Verdict}
use Rattle.dns_query.specs.declared.verdict.Verdict.TheVariants.{Struck}
use Rattle.dns_query.specs.Query.{address_question}
use Rattle.dns_query.specs.Verdict.{IsVerdict}
use Rattle.iterate.specs.declared.answer.AnswerSet.{AnswerSet}
use Rattle.iterate.specs.declared.want.Input.{Input}
use Rattle.iterate.specs.declared.want.Input.TheVariants.{Came, Failed}
use Rattle.iterate.specs.Exchanges.{Exchange}
use Rattle.iterate.specs.Known.{Known, Had}
use Rattle.iterate.specs.Told.{IsAddressIn}

-- Octets are judged; where nothing came, the server is struck.
abbrev pub IsJudged : ℕ → Over → Labels → ℕ → Question → Input → Verdict → Type 0
IsJudged port over zone id question (Came octets allowance) verdict = IsVerdict port over zone id question octets verdict
IsJudged port over zone id question Failed verdict = verdict ≡ Struck
IsJudged port over zone id question input verdict = ⊥

-- An address of a server, by a set that is known.
pub record IsAddressOf (port : ℕ) (log : List Exchange) (target : Labels) (addr : Addr) : Type 0 where
  pub told : AnswerSet
  pub had : Known port log (Had (address_question target) told)
  pub among : IsAddressIn port told addr
