-- Steps from alias to alias, as a function and as a chain.
use Rattle.std.proofs.Common.{◌≡◌, ◌≢◌, ◌⊎◌, ℕ, zero, suc, ◌+◌, ◌≤◌, List, refl, sym, ap, ◌∙◌, subst, arith, inl, inr, Option, Some, None}
use Rattle.std.specs.Prelude.{◌↔◌, ◌==◌, unwrap_or, is_some, if◌then◌else◌}
use Rattle.std.proofs.lemmas.Bool.{ne_eqb, cond-false}
use Rattle.dns_name.specs.Labels.{Labels}
use Rattle.dns_text.specs.declared.record.Question.{Question}
use Rattle.dns_text.specs.declared.record.Record.{Record}
use Rattle.dns_text.specs.declared.types.TheConstants.{CNAME}
use Rattle.dns_wire.specs.declared.message.Classed.{Classed}
use Rattle.neg_rule.specs.declared.alias.TheConstants.{MOST_RESPONSE_ALIASES}
use Rattle.neg_rule.specs.Alias.{alias_of, next_name, name_after, unless_alias, last_of, AliasesLead, here, alias, IsLast}

next_to : (o : Option Labels) (name next : Labels) → o ≡ Some next → unwrap_or o name ≡ next
next_to None name next e = absurd cc
next_to (Some other) name next e = cc

next_none : (o : Option Labels) (name : Labels) → o ≡ None → unwrap_or o name ≡ name
next_none None name e = refl
next_none (Some other) name e = absurd cc

option_cases : (o : Option Labels) → ((next : Labels) × (o ≡ Some next)) ⊎ (o ≡ None)
option_cases None = inr refl
option_cases (Some next) = inl (next, refl)

-- no step, and one more
pub after_none : (answer : List (Classed Record)) (name : Labels) → name_after answer name 0 ≡ name
unfolding name_after
after_none answer name = refl

pub after_more : (answer : List (Classed Record)) (name : Labels) (n : ℕ) → name_after answer name (n + 1) ≡ next_name answer (name_after answer name n)
unfolding name_after
after_more answer name n = let more : n + 1 ≡ suc n = omega arith in ap (name_after answer name) more

-- one step more at the end of a chain
leads_more : (answer : List (Classed Record)) (name mid next : Labels) (n : ℕ) → AliasesLead answer name n mid → alias_of answer mid ≡ Some next → AliasesLead answer name (suc n) next
leads_more answer name mid next n here e = alias e here
leads_more answer name mid next n (alias {next = second} {n = k} f more) e = alias f (leads_more answer second mid next k more e)

-- after n steps a chain of at most n has led there
reaches : (answer : List (Classed Record)) (name : Labels) (n : ℕ) → (k : ℕ) × (k ≤ n) × AliasesLead answer name k (name_after answer name n)
unfolding name_after
reaches answer name zero = (0, omega arith, here)
reaches answer name (suc n) =
    let before = reaches answer name n in
    let mid = name_after answer name n in
    elim (option_cases (alias_of answer mid)) [
      | inl next ↦ let to : next_name answer mid ≡ next.0 = next_to (alias_of answer mid) mid next.0 next.1 in
          (suc before.0, omega (arith, before.1), subst (λ (x : Labels). AliasesLead answer name (suc before.0) x) (sym to) (leads_more answer name mid next.0 before.0 before.2 next.1))
      | inr none ↦ let stays : next_name answer mid ≡ mid = next_none (alias_of answer mid) mid none in
          (before.0, omega (arith, before.1), subst (λ (x : Labels). AliasesLead answer name before.0 x) (sym stays) before.2)
    ]

-- the first step first
after_first : (answer : List (Classed Record)) (name : Labels) (n : ℕ) → name_after answer name (suc n) ≡ name_after answer (next_name answer name) n
unfolding name_after
after_first answer name zero = refl
after_first answer name (suc n) = ap (next_name answer) (after_first answer name n)

-- a name that is no alias stays
stays : (answer : List (Classed Record)) (name : Labels) (n : ℕ) → alias_of answer name ≡ None → name_after answer name n ≡ name
unfolding name_after
stays answer name zero e = refl
stays answer name (suc n) e = ap (next_name answer) (stays answer name n e) ∙ next_none (alias_of answer name) name e

-- a chain to a name that is no alias has led there after as many steps, and after more
follows : (answer : List (Classed Record)) (name last : Labels) (k n : ℕ) → AliasesLead answer name k last → alias_of answer last ≡ None → k ≤ n → name_after answer name n ≡ last
follows answer name last k n here ends few = stays answer name n ends
follows answer name last k zero (alias {next = next} {n = j} f more) ends few = absurd (omega (arith, few))
follows answer name last k (suc n) (alias {next = next} {n = j} f more) ends few =
    after_first answer name n ∙ ap (λ (x : Labels). name_after answer x n) (next_to (alias_of answer name) name next f) ∙ follows answer next last j n more ends (omega (arith, few))

unless_parts : (o : Option Labels) (name last : Labels) → (if is_some o then None else Some name) ≡ Some last → (o ≡ None) × (name ≡ last)
unless_parts None name last e = (refl, cc)
unless_parts (Some next) name last e = absurd cc

unless_from : (o : Option Labels) (name last : Labels) → o ≡ None → name ≡ last → (if is_some o then None else Some name) ≡ Some last
unless_from None name last e same = ap (λ (x : Labels). Some x) same
unless_from (Some next) name last e same = absurd cc

-- past the test of the type
not_for_alias : (answer : List (Classed Record)) (question : Question) → question.kind ≢ CNAME → last_of answer question ≡ unless_alias answer (name_after answer question.owner MOST_RESPONSE_ALIASES)
not_for_alias answer question other =
    cond-false (question.kind == CNAME) (Some question.owner) (unless_alias answer (name_after answer question.owner MOST_RESPONSE_ALIASES)) (ne_eqb question.kind CNAME other)

pub last_is : (answer : List (Classed Record)) (question : Question) (last : Labels) → question.kind ≢ CNAME → (last_of answer question ≡ Some last) ↔ IsLast answer question.owner last
last_is answer question last other =
    let end = name_after answer question.owner MOST_RESPONSE_ALIASES in (
      λ e.
          let parts = unless_parts (alias_of answer end) end last (sym (not_for_alias answer question other) ∙ e) in
          let there = reaches answer question.owner MOST_RESPONSE_ALIASES in
          record {
            steps = there.0;
            few = there.1;
            leads = subst (λ (x : Labels). AliasesLead answer question.owner there.0 x) parts.1 there.2;
            ends = subst (λ (x : Labels). alias_of answer x ≡ None) parts.1 parts.0;
          },
      λ h.
          let same = follows answer question.owner last h.steps MOST_RESPONSE_ALIASES h.leads h.ends h.few in
          not_for_alias answer question other ∙ unless_from (alias_of answer end) end last (subst (λ (x : Labels). alias_of answer x ≡ None) (sym same) h.ends) same,
    )
