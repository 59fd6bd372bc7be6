-- A question is another than those that are open.
use Rattle.std.proofs.Common.{◌≡◌, List, [], ◌∷◌, ◌++◌, length, inl, inr, sym, ap, ◌∙◌, subst, refl, arith}
use Rattle.std.specs.List.{Contains}
use Rattle.std.proofs.lemmas.List.Elements.{Contains-append_cases, Contains-push_cases}
use Rattle.dns_name.specs.Labels.{Labels, IsAtOrBelow}
use Rattle.dns_text.specs.declared.record.Question.{Question}
use Rattle.dns_query.specs.Query.{address_question}
use Rattle.history.specs.declared.servers.Servers.{Servers}
use Rattle.iterate.specs.declared.search.Hunt.{Hunt}
use Rattle.iterate.specs.declared.search.Nested.{Nested}
use Rattle.iterate.specs.declared.search.Search.{Search}
use Rattle.iterate.specs.Hunting.{AreOpened, IsFresh, MayBeSought}
use Rattle.iterate.specs.Resolved.{MaySeek}
use Rattle.iterate.specs.Searching.{IsOther, hunt_behind, hunt_of}
use Rattle.iterate.proofs.Lists.{none_within}

pub other_push : (question : Question) (frames : List Nested) (frame : Nested) (last : Question) → IsOther question frames last → (question ≡ address_question frame.target → ⊥)
    → IsOther question (frames ++ frame ∷ []) last
other_push question [] frame last other new = (new, other)
other_push question (f ∷ fs) frame last other new = (other.0, other_push question fs frame last other.1 new)

pub other_last : (question : Question) (frames : List Nested) (last : Question) → IsOther question frames last → question ≡ last → ⊥
other_last question [] last other same = other same
other_last question (f ∷ fs) last other same = other_last question fs last other.1 same

pub other_each : (question : Question) (frames : List Nested) (frame : Nested) (last : Question) → Contains frames frame → IsOther question frames last → question ≡ address_question frame.target → ⊥
other_each question [] frame last is other same = none_within [] frame refl is
other_each question (f ∷ fs) frame last is other same = elim (Contains-append_cases (f ∷ []) fs frame is) [
  | inl here ↦ elim (Contains-push_cases [] f frame here) [
    | inl none ↦ none_within [] frame refl none
    | inr this ↦ other.0 (same ∙ ap (λ (g : Nested). address_question g.target) (sym this))
  ]
  | inr later ↦ other_each question fs frame last later other.1 same
]

-- ---- a server may be looked for

pub may_be_sought : (search : Search) (target : Labels) → search.frames.items ≡ [] → MaySeek search.path.last search.base.servers target → MayBeSought search target
may_be_sought search target none may =
    let base : hunt_of search ≡ search.base = ap (λ (fs : List Nested). hunt_behind fs search.base) none in
    record {
      shallow = omega (arith, ap (λ (fs : List Nested). length fs) none);
      outside = subst (λ (h : Hunt). ¬ (IsAtOrBelow target h.servers.zone)) (sym base) may.outside;
      other = subst (λ (fs : List Nested). IsOther (address_question target) fs search.path.last) (sym none) may.other;
    }

-- ---- a question is opened

pub opened_first : (fs gs : List Nested) (target : Labels) (hunt : Hunt) (list : Servers) → gs ≡ record { target = target; hunt = hunt } ∷ fs → IsFresh list hunt → AreOpened fs target list gs
opened_first fs gs target hunt list are f = subst (λ (xs : List Nested). AreOpened fs target list xs) (sym are) (refl, f, refl)

pub opened_hunt : (fs gs : List Nested) (target : Labels) (list : Servers) (base : Hunt) → AreOpened fs target list gs → IsFresh list (hunt_behind gs base)
opened_hunt fs [] target list base o = absurd o
opened_hunt fs (g ∷ gs) target list base o = o.1
