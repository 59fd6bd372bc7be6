-- A lookup and a sweep whose reply nobody reads are taken by calls of their own. Each other event is a step.
use Rattle.std.proofs.Common.{◌≡◌, ℕ, List, subst, sym, ◌∙◌}
use Rattle.std.specs.Prelude.{◌⊎◌, IfErr}
use Rattle.history.specs.Answers.{Follows, history_after}
use Rattle.history.specs.declared.event.Event.{Event}
use Rattle.history.specs.declared.event.Event.TheVariants.{Look, Sweep}
use Rattle.world_book.specs.Book.{IsBookOf}
use Rattle.world_book.proofs.BookLaws.{never_full, untimely_by_limit}
use Rattle.world_book.proofs.book.WorldBookBook.follow.Goals as goal

pub returns-in-Look-clause-answers : goal.returns-in-Look-clause-answers
returns-in-Look-clause-answers g c = λ h so.
    subst (λ (e : Event). Follows c.args.self.now.settings h e c.pass_look.result) (sym c.in-Look.is) (c.pass_look.ensures.answers h so)

pub returns-in-Look-clause-stands : goal.returns-in-Look-clause-stands
returns-in-Look-clause-stands g c = λ h so.
    subst (λ (e : Event). IsBookOf g.C.World.World c.pass_look.new.self (history_after h e c.pass_look.result)) (sym c.in-Look.is) (c.pass_look.ensures.stands h so)

pub returns-in-Look-clause-full : goal.returns-in-Look-clause-full
returns-in-Look-clause-full g c = λ n is. never_full c.pass_look.result n c.pass_look.ensures.untimely is

pub returns-in-Look-clause-same_store : goal.returns-in-Look-clause-same_store
returns-in-Look-clause-same_store g c = c.pass_look.ensures.same_store

pub returns-in-Look-clause-settings : goal.returns-in-Look-clause-settings
returns-in-Look-clause-settings g c = c.pass_look.ensures.same_settings

pub returns-in-Look-clause-free : goal.returns-in-Look-clause-free
returns-in-Look-clause-free g c = λ free. c.pass_look.ensures.untimely

pub returns-in-Sweep-clause-answers : goal.returns-in-Sweep-clause-answers
returns-in-Sweep-clause-answers g c = λ h so.
    subst (λ (e : Event). Follows c.args.self.now.settings h e c.pass_sweep.result) (sym c.in-Sweep.is) (c.pass_sweep.ensures.passed.answers h so)

pub returns-in-Sweep-clause-stands : goal.returns-in-Sweep-clause-stands
returns-in-Sweep-clause-stands g c = λ h so.
    subst (λ (e : Event). IsBookOf g.C.World.World c.pass_sweep.new.self (history_after h e c.pass_sweep.result)) (sym c.in-Sweep.is) (c.pass_sweep.ensures.passed.stands h so)

pub returns-in-Sweep-clause-full : goal.returns-in-Sweep-clause-full
returns-in-Sweep-clause-full g c = λ n is. never_full c.pass_sweep.result n c.pass_sweep.ensures.passed.untimely is

pub returns-in-Sweep-clause-same_store : goal.returns-in-Sweep-clause-same_store
returns-in-Sweep-clause-same_store g c = c.pass_sweep.ensures.passed.same_store

pub returns-in-Sweep-clause-settings : goal.returns-in-Sweep-clause-settings
returns-in-Sweep-clause-settings g c = c.pass_sweep.ensures.passed.same_settings

pub returns-in-Sweep-clause-free : goal.returns-in-Sweep-clause-free
returns-in-Sweep-clause-free g c = λ free. c.pass_sweep.ensures.passed.untimely

pub returns-in-Ok-clause-answers : goal.returns-in-Ok-clause-answers
returns-in-Ok-clause-answers g c = λ h so. (c.in-Ok.ensures.answers h so).0

pub returns-in-Look-clause-by_limit : goal.returns-in-Look-clause-by_limit
returns-in-Look-clause-by_limit g c =
    untimely_by_limit (λ (h : List Event). IsBookOf g.C.World.World c.args.self.now h) (g.C.World.World.stored c.args.self.now.world) c.args.self.now.settings.cells c.args.event c.pass_look.result c.pass_look.ensures.untimely

pub returns-in-Sweep-clause-by_limit : goal.returns-in-Sweep-clause-by_limit
returns-in-Sweep-clause-by_limit g c =
    untimely_by_limit (λ (h : List Event). IsBookOf g.C.World.World c.args.self.now h) (g.C.World.World.stored c.args.self.now.world) c.args.self.now.settings.cells c.args.event c.pass_sweep.result c.pass_sweep.ensures.passed.untimely

pub returns-in-Look-clause-short : goal.returns-in-Look-clause-short
returns-in-Look-clause-short g c = λ moment is. let other : Look c.in-Look.moment c.in-Look.ask ≡ Sweep moment = sym c.in-Look.is ∙ is in absurd (cc)

pub returns-in-Sweep-clause-short : goal.returns-in-Sweep-clause-short
returns-in-Sweep-clause-short g c = λ moment is. c.pass_sweep.ensures.short

pub returns-in-Ok-clause-short : goal.returns-in-Ok-clause-short
returns-in-Ok-clause-short g c = λ moment is. absurd (c.in_default.not-Sweep moment is)

pub returns-in-Err-clause-short : goal.returns-in-Err-clause-short
returns-in-Err-clause-short g c = λ moment is. absurd (c.in_default.not-Sweep moment is)
