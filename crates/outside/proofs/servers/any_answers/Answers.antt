use Rattle.std.proofs.Common.{◌≡◌, ◌∙◌, ◌<◌, ℕ, List, arith, length, refl, rules, sym, subst, below_more}
use Rattle.std.specs.Prelude.{Any, IsSomeAnd, slice_index_or}
use Rattle.std.proofs.lemmas.List.{get_or_default}
use Rattle.indexmap.specs.IndexMap.{get}
use Rattle.dns_query.specs.declared.over.Over.{Over}
use Rattle.dns_text.specs.declared.addr.Addr.{Addr}
use Rattle.outside.specs.Pauses.{server_at, server_eq, Silences}
use Rattle.outside.specs.Silences.{IsAnswering}
use Rattle.outside.proofs.servers.any_answers.Goals as goal

-- The server at an address answers.
abbrev AnswersAt : Silences → Over → Addr → Type 0
AnswersAt servers over addr = IsSomeAnd (get server_eq servers (server_at addr over)) IsAnswering

-- The one at a place does not, whichever default reads it.
not_here : (servers : Silences) (over : Over) (addrs : List Addr) (k : ℕ) (other : Addr) → k < length addrs
    → (AnswersAt servers over (slice_index_or addrs k other) → ⊥) → (addr : Addr) → slice_index_or addrs k addr ≡ addr → AnswersAt servers over addr → ⊥
not_here servers over addrs k other within not addr at answers =
    not (subst (λ a. AnswersAt servers over a) (sym (get_or_default addrs k other addr within ∙ at)) answers)

pub loop-addr-preserved : goal.loop-addr-preserved
loop-addr-preserved c =
    below_more _ _ c.loop-addr.invariant
    (not_here c.args.servers.now c.args.over c.args.addrs.now c.loop-addr.addr-index _ c.loop-addr-test.true (λ answers. let yes = c.if-answers.ensures.1 answers in let none : ⊥ = cc in none))

pub returns : goal.returns
returns c = (
  λ yes. let none : ⊥ = cc in absurd none,
  λ any. absurd (c.loop-addr.invariant any.0 (omega arith) any.1 any.3 any.4),
)

-- One that answers is found.
found : (servers : Silences) (over : Over) (addrs : List Addr) (k : ℕ) (other : Addr) → k < length addrs → AnswersAt servers over (slice_index_or addrs k other) → Any (AnswersAt servers over) addrs
found servers over addrs k other within answers =
    (k, slice_index_or addrs k other, within, sym (get_or_default addrs k other (slice_index_or addrs k other) within), answers)

pub returns-then-answers : goal.returns-then-answers
returns-then-answers c = (
  λ yes. found c.args.servers.now c.args.over c.args.addrs.now c.loop-addr.addr-index _ c.loop-addr-test.true (c.answers.ensures.0 c.if-answers.true),
  λ any. search rules,
)
