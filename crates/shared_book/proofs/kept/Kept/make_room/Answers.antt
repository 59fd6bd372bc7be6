-- The oldest call leaves a full window, and the opening book takes its event.
use Rattle.std.proofs.Common.{rules, ◌≡◌, List, [], ◌∷◌, ◌++◌, drop, sym, ◌∙◌, ap, subst, arith, inl, inr}
use Rattle.std.proofs.lemmas.Bool.{false≢true}
use Rattle.history.specs.declared.event.Event.{Event}
use Rattle.history.specs.declared.event.Settings.{Settings}
use Rattle.shared_book.specs.declared.receipt.Receipt.{Receipt}
use Rattle.shared_book.specs.Kept.{KeptState, HasFreeRoom}
use Rattle.shared_book.proofs.RecordLaws.{oldest_of, event_of_oldest, front_plain, oldest_timely, keeps_moved, keeps_stayed, moved_on, stayed, stays}
use Rattle.shared_book.proofs.kept.Kept.make_room.Goals as goal

pub returns-then-not-is_full-clause-moves : goal.returns-then-not-is_full-clause-moves
returns-then-not-is_full-clause-moves g c = stays g.B.Book.stands_for g.B.Book.settings c.args.self.now

pub oldest_event-requires : goal.oldest_event-requires
oldest_event-requires g c = omega (arith, c.self.invariant.2.some)

pub returns-in_err-event-clause-moves : goal.returns-in_err-event-clause-moves
returns-in_err-event-clause-moves g c = stays g.B.Book.stands_for g.B.Book.settings c.args.self.now

pub take_in-requires-clause-some : goal.take_in-requires-clause-some
take_in-requires-clause-some g c = let k = c.self.invariant.2 in (k.before, k.opened)

pub take_in-requires-clause-timely : goal.take_in-requires-clause-timely
take_in-requires-clause-timely g c =
    let b = g.B.Book in
    let calls : List Receipt = c.self.inside.window.calls.items in
    let some = oldest_of calls (omega (arith, c.self.invariant.2.some)) in
    oldest_timely b.stands_for b.settings g.met.B.Book.one_count _ c.self.invariant.2 some.0 some.1 some.2 c.in_ok-event.event
    (event_of_oldest calls c.in_ok-event.event some.0 some.1 some.2 c.in_ok-event.ensures.oldest)

pub take_in-requires-clause-lags : goal.take_in-requires-clause-lags
take_in-requires-clause-lags g c = ap (λ (s : Settings). s.cells) c.self.invariant.2.lags

pub invariant_of-self : goal.invariant_of-self
invariant_of-self g c =
    let b = g.B.Book in
    (search rules, search rules, keeps_stayed b.stands_for b.settings _ c.take_in.new.opening c.self.invariant.2 c.in_err-take_in.ensures.err c.take_in.ensures.settings)

pub returns-in_err-take_in-clause-moves : goal.returns-in_err-take_in-clause-moves
returns-in_err-take_in-clause-moves g c =
    let b = g.B.Book in
    let i = c.self.inside in
    let old : KeptState g.row.B.Denot
    = record { book = i.book; opening = i.opening; first = i.window.first; window = i.window.calls.items; limit = i.window.limit; total = i.total; callers = i.callers } in
    rw (← c.self.view_is) (stayed b.stands_for b.settings old c.take_in.new.opening c.in_err-take_in.ensures.err c.take_in.ensures.settings)

pub move_on-requires : goal.move_on-requires
move_on-requires g c =
    record { some = omega (arith, c.self.invariant.2.some); few = omega (arith, c.self.invariant.2.numbered, c.self.invariant.2.counted, c.self.invariant.2.few) }

pub invariant_of-self-2 : goal.invariant_of-self-2
invariant_of-self-2 g c =
    let b = g.B.Book in
    let k = c.self.invariant.2 in
    let calls : List Receipt = c.self.inside.window.calls.items in
    let some = oldest_of calls (omega (arith, k.some)) in
    let event_is : c.in_ok-event.event ≡ some.0.event = event_of_oldest calls c.in_ok-event.event some.0 some.1 some.2 c.in_ok-event.ensures.oldest in
    let left : c.move_on.new.self.calls.items ≡ some.1 = c.move_on.ensures.calls ∙ ap (λ (ws : List Receipt). drop 1 ws) some.2 in
    let is : calls ≡ some.0 ∷ c.move_on.new.self.calls.items = some.2 ∙ ap (λ (ws : List Receipt). some.0 ∷ ws) (sym left) in
    let opened = subst (λ (e : Event). b.stands_for c.take_in.new.opening (k.before ++ e ∷ [])) event_is (c.in_ok-take_in.ensures.ok k.before k.opened) in
    (search rules, search rules, keeps_moved b.stands_for b.settings _ c.take_in.new.opening c.move_on.new.self.first c.move_on.new.self.limit some.0 c.move_on.new.self.calls.items k c.move_on.ensures.first c.move_on.ensures.limit (omega arith) is opened c.take_in.ensures.settings)

pub returns-clause-moves : goal.returns-clause-moves
returns-clause-moves g c =
    let b = g.B.Book in
    let k = c.self.invariant.2 in
    let calls : List Receipt = c.self.inside.window.calls.items in
    let some = oldest_of calls (omega (arith, k.some)) in
    let event_is : c.in_ok-event.event ≡ some.0.event = event_of_oldest calls c.in_ok-event.event some.0 some.1 some.2 c.in_ok-event.ensures.oldest in
    let left : c.move_on.new.self.calls.items ≡ some.1 = c.move_on.ensures.calls ∙ ap (λ (ws : List Receipt). drop 1 ws) some.2 in
    let is : calls ≡ some.0 ∷ c.move_on.new.self.calls.items = some.2 ∙ ap (λ (ws : List Receipt). some.0 ∷ ws) (sym left) in
    rw (← c.self.view_is) (moved_on b.stands_for b.settings _ c.take_in.new.opening c.move_on.new.self.first c.move_on.new.self.limit some.0 c.move_on.new.self.calls.items c.in_ok-event.event k c.move_on.ensures.first c.move_on.ensures.limit (omega arith) is event_is c.in_ok-take_in.ensures.ok c.take_in.ensures.settings)

pub returns-in_err-event-clause-free : goal.returns-in_err-event-clause-free
returns-in_err-event-clause-free g c = λ free.
    elim (subst (λ (kept : KeptState g.row.B.Denot). HasFreeRoom g.B.Book.is_free kept) (sym c.self.view_is) free) [
      | inl room ↦ absurd (omega (arith, room))
      | inr leaves ↦ absurd (false≢true (front_plain c.self.inside.window.calls.items leaves.oldest leaves.later _ leaves.window c.in_err-event.ensures.plain leaves.plain))
    ]

pub returns-in_err-take_in-clause-free : goal.returns-in_err-take_in-clause-free
returns-in_err-take_in-clause-free g c = λ free.
    let i = c.self.inside in
    elim (subst (λ (kept : KeptState g.row.B.Denot). HasFreeRoom g.B.Book.is_free kept) (sym c.self.view_is) free) [
      | inl room ↦ absurd (omega (arith, room))
      | inr leaves ↦
          let event_is = event_of_oldest i.window.calls.items c.in_ok-event.event leaves.oldest leaves.later leaves.window c.in_ok-event.ensures.oldest in
          absurd (false≢true (c.in_err-take_in.ensures.free (subst (λ (e : Event). g.B.Book.is_free i.opening e) (sym event_is) leaves.free)))
    ]
