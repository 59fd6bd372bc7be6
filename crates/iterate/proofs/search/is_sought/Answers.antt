use Rattle.std.proofs.Common.{List, inl, inr, sym, subst}
use Rattle.std.proofs.lemmas.Bool.{cases_Bool}
use Rattle.dns_query.specs.Query.{address_question}
use Rattle.iterate.specs.declared.search.Nested.{Nested}
use Rattle.iterate.specs.Searching.{IsOther}
use Rattle.iterate.proofs.Opened.{other_last}
use Rattle.iterate.proofs.search.is_sought.Goals as goal

pub returns-then-is_open : goal.returns-then-is_open
returns-then-is_open c = (
  λ told. let e : ⊥ = cc in absurd e,
  λ other.
      let search_in = c.args.search.now in
      let here = subst (λ (fs : List Nested). IsOther (address_question c.args.target.now) fs search_in.path.last) (sym c.as_slice.ensures.value) other in
      let closed = (c.is_open.ensures search_in.path.last (λ same. other_last (address_question c.args.target.now) search_in.frames.items search_in.path.last other same)).1 here in
      let e : ⊥ = cc in absurd e,
)

pub returns : goal.returns
returns c =
    let search_in = c.args.search.now in (
      λ told. subst (λ (fs : List Nested). IsOther (address_question c.args.target.now) fs search_in.path.last) c.as_slice.ensures.value
          ((c.is_open.ensures search_in.path.last (λ same. let t = c.asks_address.ensures.1 same in let e : ⊥ = cc in e)).0 c.if-is_open.false),
      λ other. elim (cases_Bool c.asks_address.result) [
        | inl asked ↦ absurd (other_last (address_question c.args.target.now) search_in.frames.items search_in.path.last other (c.asks_address.ensures.0 asked))
        | inr not ↦ not
      ],
    )
