use Rattle.std.proofs.Common.{◌≡◌, ◌≤◌, ℕ, ◌∙◌, refl, sym, ap, subst, max, arith}
use Rattle.std.proofs.lemmas.Bool.{false≢true}
use Rattle.history.specs.declared.event.Event.{Event}
use Rattle.history.specs.declared.event.Reply.TheVariants.{Seen}
use Rattle.history.specs.Event.{moment_of}
use Rattle.history.specs.Reply.{reply_of}
use Rattle.change_law.specs.Pairs.{pair_of}
use Rattle.history.specs.declared.event.Event.TheVariants.{Undo, Redo, UndoOf, RedoOf}
use Rattle.world_book.specs.Step.{IsFaultOf}
use Rattle.world_book.specs.Versions.{IsAliveInVersion}
use Rattle.world_book.specs.Tied.{Discards, GainsNeeds, IsFreeBy, IsHistoryReply, TakesIn}
use Rattle.world_book.proofs.NeedLaws.{keeps_needs}
use Rattle.world_book.proofs.TiedLaws.{tied_look}
use Rattle.world_book.proofs.VersionLaws.{alive_in_face, no_memory, redo_free, undo_free, undo_needs_none}
use Rattle.world_book.proofs.obey.obey.Goals as goal

pub returns-in-Ok-clause-told : goal.returns-in-Ok-clause-told
returns-in-Ok-clause-told g c =
    subst (λ (e : Event). IsHistoryReply g.C.World.World c.args.settings.now c.args.clock e c.args.world.now c.args.journal.now c.in-Ok.reply) (sym c.in-Admit.is) (c.in-Ok.ensures.told c.args.settings.now c.in-Admit.moment)

pub returns-in-Ok-clause-tied : goal.returns-in-Ok-clause-tied
returns-in-Ok-clause-tied g c =
    subst (λ (e : Event). TakesIn g.C.World.World c.args.clock e c.args.world.now c.args.journal.now c.admit.new.world c.args.journal.now) (sym c.in-Admit.is) (c.in-Ok.ensures.tied c.in-Admit.moment)

pub returns-in_ok-seen-in-Look-clause-told : goal.returns-in_ok-seen-in-Look-clause-told
returns-in_ok-seen-in-Look-clause-told g c = λ bound past is tied.
    ap Seen (c.in_ok-seen-in-Look.ensures bound c.in-Look.moment past (is ∙ ap (λ (e : Event). max past.now (moment_of e)) c.in-Look.is) tied) ∙ sym (ap (reply_of c.args.settings.now past) c.in-Look.is)

pub returns-in_ok-seen-in-Look-clause-tied : goal.returns-in_ok-seen-in-Look-clause-tied
returns-in_ok-seen-in-Look-clause-tied g c =
    subst (λ (e : Event). TakesIn g.C.World.World c.args.clock e c.args.world.now c.args.journal.now c.args.world.now c.args.journal.now) (sym c.in-Look.is)
    (λ bound past is tied. tied_look g.C.World.World c.args.world.now c.args.journal.now bound c.in-Look.moment c.in-Look.ask past tied)

pub returns-in-Sweep-clause-tied : goal.returns-in-Sweep-clause-tied
returns-in-Sweep-clause-tied g c =
    subst (λ (e : Event). TakesIn g.C.World.World c.args.clock e c.args.world.now c.args.journal.now c.sweep.new.world c.args.journal.now) (sym c.in-Sweep.is) (c.sweep.ensures.tied c.in-Sweep.moment)

pub returns-in-Forget-clause-tied : goal.returns-in-Forget-clause-tied
returns-in-Forget-clause-tied g c =
    subst (λ (e : Event). TakesIn g.C.World.World c.args.clock e c.args.world.now c.args.journal.now c.forget.new.world c.args.journal.now) (sym c.in-Forget.is) (c.forget.ensures.tied c.args.clock c.in-Forget.moment)

pub returns-in-Forget-clause-gone : goal.returns-in-Forget-clause-gone
returns-in-Forget-clause-gone g c =
    subst (λ (e : Event). Discards g.C.World.World c.args.clock e c.args.world.now c.args.journal.now c.forget.new.world) (sym c.in-Forget.is)
    (c.forget.ensures.gone, c.forget.ensures.room c.in-Forget.moment, tt)

pub returns-in_ok-give-in-Do-clause-told : goal.returns-in_ok-give-in-Do-clause-told
returns-in_ok-give-in-Do-clause-told g c =
    subst (λ (e : Event). IsHistoryReply g.C.World.World c.args.settings.now c.args.clock e c.args.world.now c.args.journal.now c.in_ok-give-in-Do.field-0) (sym c.in-Do.is)
    (c.in_ok-give-in-Do.ensures.told c.args.settings.now c.args.clock c.in-Do.moment)

pub returns-in_ok-give-in-Do-clause-tied : goal.returns-in_ok-give-in-Do-clause-tied
returns-in_ok-give-in-Do-clause-tied g c =
    subst (λ (e : Event). TakesIn g.C.World.World c.args.clock e c.args.world.now c.args.journal.now c.give.new.world c.give.new.journal) (sym c.in-Do.is) (c.in_ok-give-in-Do.ensures.tied c.args.clock c.in-Do.moment)

pub returns-in_ok-turn-in-Undo-clause-tied : goal.returns-in_ok-turn-in-Undo-clause-tied
returns-in_ok-turn-in-Undo-clause-tied g c =
    subst (λ (e : Event). TakesIn g.C.World.World c.args.clock e c.args.world.now c.args.journal.now c.turn.new.world c.turn.new.journal) (sym c.in-Undo.is) (c.in_ok-turn-in-Undo.ensures.tied c.args.clock c.in-Undo.moment)

pub returns-in_ok-turn-in-Redo-clause-tied : goal.returns-in_ok-turn-in-Redo-clause-tied
returns-in_ok-turn-in-Redo-clause-tied g c =
    subst (λ (e : Event). TakesIn g.C.World.World c.args.clock e c.args.world.now c.args.journal.now c.turn-in-Redo.new.world c.turn-in-Redo.new.journal) (sym c.in-Redo.is) (c.in_ok-turn-in-Redo.ensures.tied c.args.clock c.in-Redo.moment)

pub returns-in-Err-clause-faults : goal.returns-in-Err-clause-faults
returns-in-Err-clause-faults g c =
    subst (λ (e : Event). IsFaultOf g.C.World.World c.args.world.now e c.in-Err.fault) (sym c.in-Admit.is) (c.in-Err.ensures.faults c.in-Admit.moment)

pub returns-in_ok-turn-in-Undo-clause-told : goal.returns-in_ok-turn-in-Undo-clause-told
returns-in_ok-turn-in-Undo-clause-told g c =
    subst (λ (e : Event). IsHistoryReply g.C.World.World c.args.settings.now c.args.clock e c.args.world.now c.args.journal.now c.in_ok-turn-in-Undo.field-0) (sym c.in-Undo.is)
    (c.in_ok-turn-in-Undo.ensures.told c.args.settings.now c.args.clock c.in-Undo.moment)

pub returns-in_ok-turn-in-Redo-clause-told : goal.returns-in_ok-turn-in-Redo-clause-told
returns-in_ok-turn-in-Redo-clause-told g c =
    subst (λ (e : Event). IsHistoryReply g.C.World.World c.args.settings.now c.args.clock e c.args.world.now c.args.journal.now c.in_ok-turn-in-Redo.field-0) (sym c.in-Redo.is)
    (c.in_ok-turn-in-Redo.ensures.told c.args.settings.now c.args.clock c.in-Redo.moment)

-- ---- what needs no memory

pub returns-in-Err-clause-free : goal.returns-in-Err-clause-free
returns-in-Err-clause-free g c = λ bound past is tied free.
    let at : c.args.clock ≡ max past.now c.in-Admit.moment = is ∙ ap (λ (e : Event). max past.now (moment_of e)) c.in-Admit.is in
    let less : past.now ≤ c.args.clock = omega (arith, at) in
    let given : IsAliveInVersion past (max past.now c.in-Admit.moment) (pair_of c.in-Admit.find) = subst (λ (e : Event). IsFreeBy g.C.World.World c.args.journal.now past e) c.in-Admit.is free in
    let alive : IsAliveInVersion past c.args.clock (pair_of c.in-Admit.find) = subst (λ (m : ℕ). IsAliveInVersion past m (pair_of c.in-Admit.find)) (sym at) given in
    absurd (false≢true (c.in-Err.ensures.free
    (alive_in_face g.C.World.World c.args.world.now c.args.journal.now bound past c.undone-undone.ensures.sound tied c.args.clock (pair_of c.in-Admit.find) less alive)))

pub returns-in_err-turn-in-Undo-clause-free : goal.returns-in_err-turn-in-Undo-clause-free
returns-in_err-turn-in-Undo-clause-free g c = λ bound past is tied free.
    let flush : IsFreeBy g.C.World.World c.args.journal.now past (Undo c.in-Undo.moment) = subst (λ (e : Event). IsFreeBy g.C.World.World c.args.journal.now past e) c.in-Undo.is free in
    absurd (false≢true (c.in_err-turn-in-Undo.ensures.free c.in-Undo.moment
    (undo_free g.C.World.World c.args.world.now c.args.journal.now bound past c.undone-undone.ensures.sound tied g.met.C.World.BookWorld.needs_none flush.0 flush.1 flush.2)))

pub returns-in_err-turn-in-Redo-clause-free : goal.returns-in_err-turn-in-Redo-clause-free
returns-in_err-turn-in-Redo-clause-free g c = λ bound past is tied free.
    let flush : IsFreeBy g.C.World.World c.args.journal.now past (Redo c.in-Redo.moment) = subst (λ (e : Event). IsFreeBy g.C.World.World c.args.journal.now past e) c.in-Redo.is free in
    absurd (false≢true (c.in_err-turn-in-Redo.ensures.free c.in-Redo.moment
    (redo_free g.C.World.World c.args.world.now c.args.journal.now bound past c.undone-undone.ensures.sound tied g.met.C.World.BookWorld.needs_none flush.0 flush.1 flush.2)))

pub returns-in_err-seen-in-Look-clause-free : goal.returns-in_err-seen-in-Look-clause-free
returns-in_err-seen-in-Look-clause-free g c = λ bound past is tied free. absurd (subst (λ (e : Event). IsFreeBy g.C.World.World c.args.journal.now past e) c.in-Look.is free)

pub returns-in_err-give-in-Do-clause-free : goal.returns-in_err-give-in-Do-clause-free
returns-in_err-give-in-Do-clause-free g c = λ bound past is tied free. absurd (subst (λ (e : Event). IsFreeBy g.C.World.World c.args.journal.now past e) c.in-Do.is free)

pub returns-in_ok-turn_of-in-UndoOf-clause-told : goal.returns-in_ok-turn_of-in-UndoOf-clause-told
returns-in_ok-turn_of-in-UndoOf-clause-told g c =
    subst (λ (e : Event). IsHistoryReply g.C.World.World c.args.settings.now c.args.clock e c.args.world.now c.args.journal.now c.in_ok-turn_of-in-UndoOf.field-0) (sym c.in-UndoOf.is)
    (c.in_ok-turn_of-in-UndoOf.ensures.told c.args.settings.now c.args.clock c.in-UndoOf.moment)

pub returns-in_ok-turn_of-in-UndoOf-clause-tied : goal.returns-in_ok-turn_of-in-UndoOf-clause-tied
returns-in_ok-turn_of-in-UndoOf-clause-tied g c =
    subst (λ (e : Event). TakesIn g.C.World.World c.args.clock e c.args.world.now c.args.journal.now c.turn_of.new.world c.turn_of.new.journal) (sym c.in-UndoOf.is) (c.in_ok-turn_of-in-UndoOf.ensures.tied c.args.clock c.in-UndoOf.moment)

pub returns-in_err-turn_of-in-UndoOf-clause-free : goal.returns-in_err-turn_of-in-UndoOf-clause-free
returns-in_err-turn_of-in-UndoOf-clause-free g c = λ bound past is tied free.
    let flush : IsFreeBy g.C.World.World c.args.journal.now past (UndoOf c.in-UndoOf.moment c.in-UndoOf.ticket) = subst (λ (e : Event). IsFreeBy g.C.World.World c.args.journal.now past e) c.in-UndoOf.is free in
    absurd (false≢true (c.in_err-turn_of-in-UndoOf.ensures.free c.in-UndoOf.moment
    (undo_needs_none g.C.World.World c.args.world.now c.args.journal.now bound past c.undone-undone.ensures.sound tied g.met.C.World.BookWorld.needs_none c.in-UndoOf.ticket flush)))

pub returns-in_ok-turn_of-in-RedoOf-clause-told : goal.returns-in_ok-turn_of-in-RedoOf-clause-told
returns-in_ok-turn_of-in-RedoOf-clause-told g c =
    subst (λ (e : Event). IsHistoryReply g.C.World.World c.args.settings.now c.args.clock e c.args.world.now c.args.journal.now c.in_ok-turn_of-in-RedoOf.field-0) (sym c.in-RedoOf.is)
    (c.in_ok-turn_of-in-RedoOf.ensures.told c.args.settings.now c.args.clock c.in-RedoOf.moment)

pub returns-in_ok-turn_of-in-RedoOf-clause-tied : goal.returns-in_ok-turn_of-in-RedoOf-clause-tied
returns-in_ok-turn_of-in-RedoOf-clause-tied g c =
    subst (λ (e : Event). TakesIn g.C.World.World c.args.clock e c.args.world.now c.args.journal.now c.turn_of-in-RedoOf.new.world c.turn_of-in-RedoOf.new.journal) (sym c.in-RedoOf.is) (c.in_ok-turn_of-in-RedoOf.ensures.tied c.args.clock c.in-RedoOf.moment)

pub returns-in_err-turn_of-in-RedoOf-clause-free : goal.returns-in_err-turn_of-in-RedoOf-clause-free
returns-in_err-turn_of-in-RedoOf-clause-free g c = λ bound past is tied free.
    let flush : IsFreeBy g.C.World.World c.args.journal.now past (RedoOf c.in-RedoOf.moment c.in-RedoOf.ticket) = subst (λ (e : Event). IsFreeBy g.C.World.World c.args.journal.now past e) c.in-RedoOf.is free in
    absurd (false≢true (c.in_err-turn_of-in-RedoOf.ensures.free c.in-RedoOf.moment
    (no_memory g.C.World.World c.args.world.now c.args.journal.now bound past c.undone-undone.ensures.sound tied g.met.C.World.BookWorld.needs_none c.in-RedoOf.ticket flush)))

-- ---- what the undos need

pub returns-in-Ok-clause-needs : goal.returns-in-Ok-clause-needs
returns-in-Ok-clause-needs g c = keeps_needs g.C.World.World c.args.event c.args.world.now c.args.journal.now c.args.journal.now refl

pub returns-in_ok-seen-in-Look-clause-needs : goal.returns-in_ok-seen-in-Look-clause-needs
returns-in_ok-seen-in-Look-clause-needs g c = keeps_needs g.C.World.World c.args.event c.args.world.now c.args.journal.now c.args.journal.now refl

pub returns-in-Sweep-clause-needs : goal.returns-in-Sweep-clause-needs
returns-in-Sweep-clause-needs g c = keeps_needs g.C.World.World c.args.event c.args.world.now c.args.journal.now c.args.journal.now refl

pub returns-in-Forget-clause-needs : goal.returns-in-Forget-clause-needs
returns-in-Forget-clause-needs g c = keeps_needs g.C.World.World c.args.event c.args.world.now c.args.journal.now c.args.journal.now refl

pub returns-in_ok-give-in-Do-clause-needs : goal.returns-in_ok-give-in-Do-clause-needs
returns-in_ok-give-in-Do-clause-needs g c =
    subst (λ (e : Event). GainsNeeds g.C.World.World e c.args.world.now c.args.journal.now c.give.new.journal) (sym c.in-Do.is) (c.in_ok-give-in-Do.ensures.needs c.in-Do.moment)

pub returns-in_ok-turn-in-Undo-clause-needs : goal.returns-in_ok-turn-in-Undo-clause-needs
returns-in_ok-turn-in-Undo-clause-needs g c = keeps_needs g.C.World.World c.args.event c.args.world.now c.args.journal.now c.turn.new.journal c.in_ok-turn-in-Undo.ensures.needs

pub returns-in_ok-turn-in-Redo-clause-needs : goal.returns-in_ok-turn-in-Redo-clause-needs
returns-in_ok-turn-in-Redo-clause-needs g c = keeps_needs g.C.World.World c.args.event c.args.world.now c.args.journal.now c.turn-in-Redo.new.journal c.in_ok-turn-in-Redo.ensures.needs

pub returns-in_ok-turn_of-in-UndoOf-clause-needs : goal.returns-in_ok-turn_of-in-UndoOf-clause-needs
returns-in_ok-turn_of-in-UndoOf-clause-needs g c = keeps_needs g.C.World.World c.args.event c.args.world.now c.args.journal.now c.turn_of.new.journal c.in_ok-turn_of-in-UndoOf.ensures.needs

pub returns-in_ok-turn_of-in-RedoOf-clause-needs : goal.returns-in_ok-turn_of-in-RedoOf-clause-needs
returns-in_ok-turn_of-in-RedoOf-clause-needs g c = keeps_needs g.C.World.World c.args.event c.args.world.now c.args.journal.now c.turn_of-in-RedoOf.new.journal c.in_ok-turn_of-in-RedoOf.ensures.needs
