-- The last name of a question, to which the CNAME records of an answer section lead (RFC 1034, section 3.6.2).
use Rattle.std.specs.Prelude.{◌≡◌, ◌≢◌, ◌↔◌, ℕ, zero, suc, ◌≤◌, Bool, ◌&&◌, ◌==◌, List, Option, Some, None, unwrap_or, is_some, if◌then◌else◌}
use Rattle.std.specs.List.{find}
use Rattle.dns_name.specs.Labels.{Labels}
use Rattle.dns_name.specs.Options.{◌>>=◌}
use Rattle.dns_name.specs.Order.{name_eq}
use Rattle.dns_text.specs.declared.record.Data.{Data}
use Rattle.dns_text.specs.declared.record.Data.TheVariants.{One}
use Rattle.dns_text.specs.declared.record.Question.{Question}
use Rattle.dns_text.specs.declared.record.Record.{Record}
use Rattle.dns_text.specs.declared.types.TheConstants.{CNAME}
use Rattle.dns_wire.specs.declared.message.Classed.{Classed}
use Rattle.dns_wire.specs.declared.message.TheConstants.{CLASS_IN}
use Rattle.neg_rule.specs.declared.alias.TheConstants.{MOST_RESPONSE_ALIASES}

-- whether a record is of class IN, this owner and this type
abbrev pub is_for : Labels → ℕ → Classed Record → Bool
is_for owner kind r = r.class == CLASS_IN && (r.item.kind == kind && name_eq r.item.owner owner)

-- the name in the data of a CNAME
abbrev pub target_of : Data → Option Labels
target_of (One name) = Some name
target_of _ = None

-- the name that an owner is an alias of, by its first CNAME record
abbrev pub alias_of : List (Classed Record) → Labels → Option Labels
alias_of answer owner = find (is_for owner CNAME) answer >>= λ r. target_of r.item.body

-- the name that an owner is an alias of, or the owner itself
abbrev pub next_name : List (Classed Record) → Labels → Labels
next_name answer owner = unwrap_or (alias_of answer owner) owner

-- the name after this many steps; a step leaves a name that is no alias as it is
unfoldable pub name_after : List (Classed Record) → Labels → ℕ → Labels
name_after answer owner zero = owner
name_after answer owner (suc n) = next_name answer (name_after answer owner n)

-- a name, unless it is an alias
abbrev pub unless_alias : List (Classed Record) → Labels → Option Labels
unless_alias answer owner = if is_some (alias_of answer owner) then None else Some owner

-- the last name of a question, to which its aliases lead in `MOST_RESPONSE_ALIASES` steps at most; a question for CNAME asks for the alias itself
abbrev pub last_of : List (Classed Record) → Question → Option Labels
last_of answer question = if question.kind == CNAME then Some question.owner else unless_alias answer (name_after answer question.owner MOST_RESPONSE_ALIASES)

-- CNAME records lead from one name to another in this many steps.
pub data AliasesLead (answer : List (Classed Record)) : Labels → ℕ → Labels → Type 0 where
  here : {name : Labels} → AliasesLead answer name 0 name
  alias : {name next last : Labels} {n : ℕ} → alias_of answer name ≡ Some next → AliasesLead answer next n last → AliasesLead answer name (suc n) last

-- CNAME records lead from a name to one that is no alias, in `MOST_RESPONSE_ALIASES` steps at most.
pub record IsLast (answer : List (Classed Record)) (name last : Labels) : Type 0 where
  pub steps : ℕ
  pub few : steps ≤ MOST_RESPONSE_ALIASES
  pub leads : AliasesLead answer name steps last
  pub ends : alias_of answer last ≡ None

-- For a question of a type other than CNAME, the last name is found exactly if CNAME records lead to it.
abbrev pub FindsLast : Type 0
FindsLast = (answer : List (Classed Record)) (question : Question) (last : Labels) → question.kind ≢ CNAME → (last_of answer question ≡ Some last) ↔ IsLast answer question.owner last
