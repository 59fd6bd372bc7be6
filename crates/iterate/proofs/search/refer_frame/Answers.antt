use Rattle.std.proofs.Common.{◌≡◌, List, ◌∷◌, drop, ap, ◌∙◌, refl}
use Rattle.iterate.specs.declared.search.Nested.{Nested}
use Rattle.iterate.proofs.Supplying.{referring, referred_first, first_frame, removed_first}
use Rattle.iterate.proofs.search.refer_frame.Goals as goal

pub returns-clause-reached : goal.returns-clause-reached
returns-clause-reached c = λ port question log since turn s orderly r.
    let g = first_frame c.args.search.frames.items c.requires in
    let same : c.remove-target.result ≡ g.0 = removed_first c.args.search.frames.items g.0 g.1 c.remove-target.result g.2 c.remove-target.ensures.value in
    let rest : c.remove-target.new.self.items ≡ g.1 = c.remove-target.ensures.items ∙ ap (λ (xs : List Nested). drop 1 xs) g.2 in
    referring port question log c.args.search _ c.args.servers c.remove-target.result.target c.in_ok-hunt.hunt g.0 g.1 refl refl g.2 (ap (λ (f : Nested). f.target) same)
    (c.in_ok-insert.ensures.items ∙ ap (λ (xs : List Nested). record { target = c.remove-target.result.target; hunt = c.in_ok-hunt.hunt } ∷ xs) rest) c.in_ok-hunt.ensures s since turn orderly r

pub returns-clause-fresh : goal.returns-clause-fresh
returns-clause-fresh c =
    let g = first_frame c.args.search.frames.items c.requires in
    let same : c.remove-target.result ≡ g.0 = removed_first c.args.search.frames.items g.0 g.1 c.remove-target.result g.2 c.remove-target.ensures.value in
    let rest : c.remove-target.new.self.items ≡ g.1 = c.remove-target.ensures.items ∙ ap (λ (xs : List Nested). drop 1 xs) g.2 in
    referred_first c.args.search.frames.items _ g.0 g.1 c.remove-target.result.target c.in_ok-hunt.hunt c.args.servers g.2 (ap (λ (f : Nested). f.target) same)
    (c.in_ok-insert.ensures.items ∙ ap (λ (xs : List Nested). record { target = c.remove-target.result.target; hunt = c.in_ok-hunt.hunt } ∷ xs) rest) c.in_ok-hunt.ensures
