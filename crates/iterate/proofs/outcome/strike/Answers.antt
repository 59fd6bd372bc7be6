use Rattle.std.proofs.Common.{◌≡◌, ◌<◌, List, ◌∷◌, length, drop, sym, ap, ◌∙◌, subst, refl, arith}
use Rattle.std.specs.List.{insert, remove}
use Rattle.std.proofs.lemmas.Bool.{eqb-true, eqb-false}
use Rattle.iterate.specs.declared.search.Nested.{Nested}
use Rattle.iterate.proofs.Coming.{no_frames, struck_base, struck_inner, orderly_inner, some_asked, vain_inner, vain_last}
use Rattle.iterate.proofs.Once.{struck_last}
use Rattle.iterate.specs.Searching.{hunt_behind}
use Rattle.iterate.proofs.outcome.strike.Goals as goal

pub returns-then-is_empty-clause-further : goal.returns-then-is_empty-clause-further
returns-then-is_empty-clause-further c = λ port question log server rest s next struck.
    let none = no_frames c.args.search (let e = eqb-true c.args.search.frames.len 0 (sym c.if-is_empty.ensures) in omega (arith, c.args.search.frames.ok.0)) in
    struck_base c.args.search c.asked_once_more.result none c.asked_once_more.ensures s next struck

pub returns-clause-further : goal.returns-clause-further
returns-clause-further c = λ port question log server rest s next struck.
    let removed = c.remove-target.result in
    let hunt = c.asked_once_more-2.result in
    let some : 0 < length c.args.search.frames.items = let e = eqb-false c.args.search.frames.len 0 (sym c.if-is_empty.ensures) in omega (arith, c.args.search.frames.ok.0) in
    let items : c.insert.new.self.items ≡ insert (remove c.args.search.frames.items 0) 0 (record { target = removed.target; hunt = hunt }) =
    c.in_ok-insert.ensures.items ∙ ap (λ (fs : List Nested). insert fs 0 (record { target = removed.target; hunt = hunt })) c.remove-target.ensures.items in
    struck_inner c.args.search (record c.args.search { frames = c.insert.new.self }) removed hunt some c.remove-target.ensures.value items c.asked_once_more-2.ensures refl refl s next

pub returns-then-is_empty-clause-orderly : goal.returns-then-is_empty-clause-orderly
returns-then-is_empty-clause-orderly c = λ port log server rest next orderly.
    let none = no_frames c.args.search (let e = eqb-true c.args.search.frames.len 0 (sym c.if-is_empty.ensures) in omega (arith, c.args.search.frames.ok.0)) in
    let first = subst (λ (fs : List Nested). drop (hunt_behind fs c.args.search.base).asked (hunt_behind fs c.args.search.base).addrs.items ≡ server ∷ rest) none next in
    let same = c.asked_once_more.ensures (some_asked c.args.search.base server rest first) in
    struck_last port log c.args.search.path.last c.args.search.frames.items c.args.search.base c.asked_once_more.result none same next orderly

pub returns-clause-orderly : goal.returns-clause-orderly
returns-clause-orderly c = λ port log server rest next orderly.
    let removed = c.remove-target.result in
    let hunt = c.asked_once_more-2.result in
    let some : 0 < length c.args.search.frames.items = let e = eqb-false c.args.search.frames.len 0 (sym c.if-is_empty.ensures) in omega (arith, c.args.search.frames.ok.0) in
    let items : c.insert.new.self.items ≡ insert (remove c.args.search.frames.items 0) 0 (record { target = removed.target; hunt = hunt }) =
    c.in_ok-insert.ensures.items ∙ ap (λ (fs : List Nested). insert fs 0 (record { target = removed.target; hunt = hunt })) c.remove-target.ensures.items in
    orderly_inner port log c.args.search (record c.args.search { frames = c.insert.new.self }) removed hunt some c.remove-target.ensures.value items c.asked_once_more-2.ensures refl refl next orderly

pub returns-then-is_empty-clause-vain : goal.returns-then-is_empty-clause-vain
returns-then-is_empty-clause-vain c = λ some.
    let none = no_frames c.args.search (let e = eqb-true c.args.search.frames.len 0 (sym c.if-is_empty.ensures) in omega (arith, c.args.search.frames.ok.0)) in
    vain_last c.args.search.frames.items c.args.search.base c.asked_once_more.result none c.asked_once_more.ensures some

pub returns-clause-vain : goal.returns-clause-vain
returns-clause-vain c = λ left.
    let removed = c.remove-target.result in
    let hunt = c.asked_once_more-2.result in
    let some : 0 < length c.args.search.frames.items = let e = eqb-false c.args.search.frames.len 0 (sym c.if-is_empty.ensures) in omega (arith, c.args.search.frames.ok.0) in
    let items : c.insert.new.self.items ≡ insert (remove c.args.search.frames.items 0) 0 (record { target = removed.target; hunt = hunt }) =
    c.in_ok-insert.ensures.items ∙ ap (λ (fs : List Nested). insert fs 0 (record { target = removed.target; hunt = hunt })) c.remove-target.ensures.items in
    vain_inner c.args.search (record c.args.search { frames = c.insert.new.self }) removed hunt some c.remove-target.ensures.value items c.asked_once_more-2.ensures left
