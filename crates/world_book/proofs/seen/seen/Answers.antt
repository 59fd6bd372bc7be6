use Rattle.std.proofs.Common.{◌≡◌, ◌≤◌, ◌∙◌, max, ℕ, Option, sym, ap, subst, arith}
use Rattle.std.proofs.lemmas.Result.{IfOk-weaker}
use Rattle.history.specs.declared.event.Ask.{Ask}
use Rattle.history.specs.declared.event.Seen.TheVariants.{Zones, Records, Stubs, Commands, Buried, Servers, Oldest}
use Rattle.history.specs.declared.tables.Tables.{Tables}
use Rattle.history.specs.Journal.{buried_in}
use Rattle.history.specs.Oldest.{IsOldest}
use Rattle.history.specs.OldestLaws.{oldest_only}
use Rattle.history.specs.Reply.{seen_of}
use Rattle.history.specs.Servers.{servers_by}
use Rattle.world_book.proofs.TiedLaws.{tied_shows}
use Rattle.world_book.proofs.ReplyLaws.{answer_tells, servers_tell}
use Rattle.world_book.proofs.HeldLaws.{held_commands}
use Rattle.world_book.proofs.seen.seen.Goals as goal

pub returns-in_ok-seen-in-Answer : goal.returns-in_ok-seen-in-Answer
returns-in_ok-seen-in-Answer g c = λ bound moment past is tied.
    let same = tied_shows g.C.World.World g.met.C.World.World.shows c.args.world.now c.args.journal.now bound past c.undone-undone.ensures.sound tied in
    c.in_ok-seen-in-Answer.ensures ∙ c.question_sight.ensures
    ∙ answer_tells c.args.settings.now past (g.C.World.World.shown c.args.world.now) c.tables-tables.result.now moment c.args.clock (g.C.World.CellSource.shows_at c.args.world.now c.args.clock) c.in-Answer.question
    c.tables-tables.ensures (g.met.C.World.BookWorld.as_shown c.args.world.now c.args.clock) is same
    ∙ sym (ap (λ (a : Ask). seen_of c.args.settings.now past a moment) c.in-Answer.is)

pub returns-in_ok-share_zones-in-Zones : goal.returns-in_ok-share_zones-in-Zones
returns-in_ok-share_zones-in-Zones g c = λ bound moment past is tied.
    let same = tied_shows g.C.World.World g.met.C.World.World.shows c.args.world.now c.args.journal.now bound past c.undone-undone.ensures.sound tied in
    ap Zones (c.new.ensures ∙ c.in_ok-share_zones-in-Zones.ensures ∙ c.zones.ensures ∙ ap (λ (t : Tables). t.local.zones) (c.tables-tables.ensures ∙ same.tables))
    ∙ sym (ap (λ (a : Ask). seen_of c.args.settings.now past a moment) c.in-Zones.is)

pub returns-in_ok-share_records-in-Records : goal.returns-in_ok-share_records-in-Records
returns-in_ok-share_records-in-Records g c = λ bound moment past is tied.
    let same = tied_shows g.C.World.World g.met.C.World.World.shows c.args.world.now c.args.journal.now bound past c.undone-undone.ensures.sound tied in
    ap Records (c.new-in-Records.ensures ∙ c.in_ok-share_records-in-Records.ensures ∙ c.records.ensures ∙ ap (λ (t : Tables). t.local.records) (c.tables-tables.ensures ∙ same.tables))
    ∙ sym (ap (λ (a : Ask). seen_of c.args.settings.now past a moment) c.in-Records.is)

pub returns-in_ok-share_stubs-in-Stubs : goal.returns-in_ok-share_stubs-in-Stubs
returns-in_ok-share_stubs-in-Stubs g c = λ bound moment past is tied.
    let same = tied_shows g.C.World.World g.met.C.World.World.shows c.args.world.now c.args.journal.now bound past c.undone-undone.ensures.sound tied in
    ap Stubs (c.new-in-Stubs.ensures ∙ c.in_ok-share_stubs-in-Stubs.ensures ∙ c.stubs.ensures.value ∙ ap (λ (t : Tables). t.stubs) (c.tables-tables.ensures ∙ same.tables))
    ∙ sym (ap (λ (a : Ask). seen_of c.args.settings.now past a moment) c.in-Stubs.is)

pub returns-in_ok-commands-in-Commands : goal.returns-in_ok-commands-in-Commands
returns-in_ok-commands-in-Commands g c = λ bound moment past is tied.
    ap Commands (c.new-in-Commands.ensures ∙ c.in_ok-commands-in-Commands.ensures
    ∙ held_commands g.C.World.World.table g.C.World.World.told c.args.journal.now past c.undone-undone.ensures.sound tied.done tied.undone tied.given)
    ∙ sym (ap (λ (a : Ask). seen_of c.args.settings.now past a moment) c.in-Commands.is)

pub returns-in_ok-buried_commands-in-Buried : goal.returns-in_ok-buried_commands-in-Buried
returns-in_ok-buried_commands-in-Buried g c = λ bound moment past is tied.
    ap Buried (c.new-in-Buried.ensures ∙ c.in_ok-buried_commands-in-Buried.ensures
    ∙ ap buried_in (held_commands g.C.World.World.table g.C.World.World.told c.args.journal.now past c.undone-undone.ensures.sound tied.done tied.undone tied.given))
    ∙ sym (ap (λ (a : Ask). seen_of c.args.settings.now past a moment) c.in-Buried.is)

pub returns-in_ok-new-in-Servers : goal.returns-in_ok-new-in-Servers
returns-in_ok-new-in-Servers g c = λ bound moment past is tied.
    let same = tied_shows g.C.World.World g.met.C.World.World.shows c.args.world.now c.args.journal.now bound past c.undone-undone.ensures.sound tied in
    let shown = g.C.World.CellSource.shows_at c.args.world.now c.args.clock in
    ap Servers (c.in_ok-new-in-Servers.ensures ∙ c.in_ok-found-in-Servers.ensures
    ∙ ap (λ (t : Tables). servers_by c.args.settings.now t.stubs shown c.in-Servers.name) c.tables-tables.ensures
    ∙ servers_tell c.args.settings.now past (g.C.World.World.shown c.args.world.now) moment c.args.clock shown c.in-Servers.name (g.met.C.World.BookWorld.as_shown c.args.world.now c.args.clock) is same)
    ∙ sym (ap (λ (a : Ask). seen_of c.args.settings.now past a moment) c.in-Servers.is)

pub returns-in_ok-oldest-in-Oldest : goal.returns-in_ok-oldest-in-Oldest
returns-in_ok-oldest-in-Oldest g c = λ bound moment past is tied.
    let found = c.in_ok-oldest-in-Oldest.field-0 in
    let less : past.now ≤ c.args.clock = omega (arith, is) in
    let first : IsOldest past (max past.now moment) found = subst (λ (t : ℕ). IsOldest past t found) is (c.in_ok-oldest-in-Oldest.ensures bound past less tied) in
    ap Oldest (oldest_only past (max past.now moment) found first)
    ∙ sym (ap (λ (a : Ask). seen_of c.args.settings.now past a moment) c.in-Oldest.is)

pub returns-in-After : goal.returns-in-After
returns-in-After g c =
    IfOk-weaker c.answer_after.result _ _ (λ seen holds bound moment past is tied.
    holds bound c.args.settings.now.journal moment past is tied ∙ sym (ap (λ (a : Ask). seen_of c.args.settings.now past a moment) c.in-After.is))
    c.answer_after.ensures

pub returns-in-NextUndo : goal.returns-in-NextUndo
returns-in-NextUndo g c =
    IfOk-weaker c.next_undo.result _ _ (λ seen holds bound moment past is tied.
    holds c.args.world.now bound past tied ∙ sym (ap (λ (a : Ask). seen_of c.args.settings.now past a moment) c.in-NextUndo.is))
    c.next_undo.ensures
