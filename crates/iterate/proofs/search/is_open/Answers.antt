use Rattle.std.proofs.Common.{◌≡◌, ◌+◌, List, [], ◌∷◌, ◌++◌, take, refl, sym, ap, ◌∙◌, subst}
use Rattle.std.proofs.lemmas.List.{take_all, take_more}
use Rattle.dns_text.specs.declared.record.Question.{Question}
use Rattle.dns_query.specs.Query.{address_question}
use Rattle.iterate.specs.declared.search.Nested.{Nested}
use Rattle.iterate.specs.Searching.{IsOther}
use Rattle.iterate.proofs.Opened.{other_push, other_each}
use Rattle.iterate.proofs.search.is_open.Goals as goal

pub loop-frame-preserved : goal.loop-frame-preserved
loop-frame-preserved c = λ last none.
    let frames = c.args.frames.now in
    let i = c.loop-frame.frame-index in
    let item = c.frame-item.result in
    let more : take (i + 1) frames ≡ take i frames ++ item ∷ [] = take_more frames i item c.loop-frame-test.true ∙ ap (λ (f : Nested). take i frames ++ f ∷ []) (sym c.frame-item.is) in
    subst (λ (xs : List Nested). IsOther (address_question c.args.target.now) xs last) (sym more)
    (other_push (address_question c.args.target.now) (take i frames) item last (c.loop-frame.invariant last none)
    (λ same. let t = c.is_name.ensures.1 (sym (ap (λ (q : Question). q.owner) same)) in let e : ⊥ = cc in e))

pub returns-then-is_name : goal.returns-then-is_name
returns-then-is_name c = λ last none. (
  λ told. let e : ⊥ = cc in absurd e,
  λ other. absurd (other_each (address_question c.args.target.now) c.args.frames.now c.frame-item.result last (c.loop-frame.frame-index, c.loop-frame-test.true, sym c.frame-item.is) other
      (ap address_question (sym (c.is_name.ensures.0 c.if-is_name.true)))),
)

pub returns : goal.returns
returns c = λ last none. (
  λ told. subst (λ (xs : List Nested). IsOther (address_question c.args.target.now) xs last) (take_all c.loop-frame.frame-index c.args.frames.now c.loop-frame-test.false) (c.loop-frame.invariant last none),
  λ other. refl,
)
