use Rattle.std.proofs.Common.{◌≡◌, ◌∙◌, None, sym, ap, subst}
use Rattle.std.specs.Prelude.{IfSome, filter}
use Rattle.undo_journal.specs.Journal.{farthest, is_from, lies_in_way, tickets_of}
use Rattle.undo_journal.proofs.ReachLaws.{absent_not_turnable, can_be_turned, not_turnable, stands_from, turnable_there}
use Rattle.undo_journal.proofs.journal.Journal.reach_from.Goals as goal

pub returns-else-is_from_at : goal.returns-else-is_from_at
returns-else-is_from_at g c =
    let table = g.C.World.World.table in
    let is = c.in-Some.ensures.some in
    let are = c.in-Some.ensures.sound in
    let told : c.is_from_at.result ≡ is_from c.args.from is.here.standing = subst (λ o. IfSome o (λ k. c.is_from_at.result ≡ is_from c.args.from k.standing)) is.there c.is_from_at.ensures in
    not_turnable table c.args.self.now are c.args.ticket c.in-Some.place is.here is.there is.own c.args.from (sym told ∙ c.if-is_from_at.false)

pub returns-in-None-in_way : goal.returns-in-None-in_way
returns-in-None-in_way g c =
    let table = g.C.World.World.table in
    let from = c.args.from in
    let kept = c.args.self.now.kept in
    let is = c.in-Some.ensures.some in
    let are = c.in-Some.ensures.sound in
    let told : c.is_from_at.result ≡ is_from from is.here.standing = subst (λ o. IfSome o (λ k. c.is_from_at.result ≡ is_from from k.standing)) is.there c.is_from_at.ensures in
    let own : c.table_at.result ≡ table is.here.saved = subst (λ o. IfSome o (λ k. c.table_at.result ≡ table k.saved)) is.there c.table_at.ensures in
    let none : farthest from (tickets_of (filter (lies_in_way table from c.args.ticket (table is.here.saved)) kept)) ≡ None
    = ap (λ t. farthest from (tickets_of (filter (lies_in_way table from c.args.ticket t) kept))) (sym own) ∙ (sym c.in_way.ensures ∙ c.in-None-in_way.is) in
    let stands = stands_from table c.args.self.now are c.args.ticket c.in-Some.place is.here is.there is.own from c.requires (sym told ∙ c.if-is_from_at.true) in (
      turnable_there table c.args.self.now are c.args.ticket c.in-Some.place is.here is.there is.own from c.requires stands,
      ap (λ t. farthest from (tickets_of (filter (lies_in_way table from c.args.ticket t) kept))) is.looked ∙ none,
      is,
      can_be_turned table from kept c.args.ticket c.in-Some.place is.here are.ascending is.there is.own stands none,
    )

pub returns-in-Some-in_way : goal.returns-in-Some-in_way
returns-in-Some-in_way g c =
    let table = g.C.World.World.table in
    let from = c.args.from in
    let kept = c.args.self.now.kept in
    let is = c.in-Some.ensures.some in
    let are = c.in-Some.ensures.sound in
    let told : c.is_from_at.result ≡ is_from from is.here.standing = subst (λ o. IfSome o (λ k. c.is_from_at.result ≡ is_from from k.standing)) is.there c.is_from_at.ensures in
    let own : c.table_at.result ≡ table is.here.saved = subst (λ o. IfSome o (λ k. c.table_at.result ≡ table k.saved)) is.there c.table_at.ensures in
    let stands = stands_from table c.args.self.now are c.args.ticket c.in-Some.place is.here is.there is.own from c.requires (sym told ∙ c.if-is_from_at.true) in (
      turnable_there table c.args.self.now are c.args.ticket c.in-Some.place is.here is.there is.own from c.requires stands,
      ap (λ t. farthest from (tickets_of (filter (lies_in_way table from c.args.ticket t) kept))) (is.looked ∙ sym own) ∙ (sym c.in_way.ensures ∙ c.in-Some-in_way.is),
    )

pub returns-in-None : goal.returns-in-None
returns-in-None g c = absent_not_turnable g.C.World.World.table c.args.self.now c.in-None.ensures.sound c.args.ticket c.args.from c.in-None.ensures.none
