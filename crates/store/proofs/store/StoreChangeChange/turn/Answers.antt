use Rattle.std.proofs.Common.{◌≡◌, refl, ap, sym, ◌∙◌, arith}
use Rattle.std.proofs.lemmas.Bool.{false≢true}
use Rattle.store.specs.Store.{needs_after_of, needs_memory_of}
use Rattle.store.specs.declared.store.WayBack.TheVariants as way
use Rattle.store.specs.StoreLaws.{table_can_turn, flush_can_turn, table_turns, flush_turns, tables_same_row, same_table}
use Rattle.store.specs.WorldLaws.{on_err}
use Rattle.store.specs.declared.store.SavedChange.{SavedChange}
use Rattle.store.proofs.store.StoreChangeChange.turn.Goals as goal

pub turn-requires : goal.turn-requires
turn-requires c = table_can_turn c.args.world.now c.args.from c.args.saved.now c.in-Table.saved c.in-Table.is c.requires

pub returns-in_err-turn-in-Table-clause-err : goal.returns-in_err-turn-in-Table-clause-err
returns-in_err-turn-in-Table-clause-err c =
    let err = c.in_err-turn-in-Table.ensures.err in
    let same = tables_same_row c.args.world.now (record { tables = c.turn.new.world; cells = c.args.world.now.cells }) refl err.0.0 in
    let saved : ◌≡◌ {A = SavedChange} (record { command = c.args.saved.now.command; way = way.Table c.turn.new.saved }) c.args.saved.now = same_table c.args.saved.now c.in-Table.saved c.turn.new.saved c.in-Table.is err.1 in
    on_err c.from_residual.result ((same, omega arith, refl, λ pair has. has), saved)

pub turn-requires-in-Flush : goal.turn-requires-in-Flush
turn-requires-in-Flush c = flush_can_turn c.args.world.now c.args.from c.args.saved.now c.in-Flush.saved c.in-Flush.is c.requires

pub returns-in_ok-turn-in-Table-clause-row : goal.returns-in_ok-turn-in-Table-clause-row
returns-in_ok-turn-in-Table-clause-row c = table_turns c.args.world.now (record { tables = c.turn.new.world; cells = c.args.world.now.cells }) c.args.from c.args.saved.now
    (record { command = c.args.saved.now.command; way = way.Table c.turn.new.saved }) c.in-Table.saved c.turn.new.saved c.in-Table.is refl refl c.in_ok-turn-in-Table.ensures.row

pub returns-in_ok-turn-in-Flush-clause-row : goal.returns-in_ok-turn-in-Flush-clause-row
returns-in_ok-turn-in-Flush-clause-row c = flush_turns c.args.world.now (record { tables = c.args.world.now.tables; cells = c.turn-in-Flush.new.world }) c.args.from c.args.saved.now
    (record { command = c.args.saved.now.command; way = way.Flush c.turn-in-Flush.new.saved }) c.in-Flush.saved c.turn-in-Flush.new.saved c.in-Flush.is refl refl c.in_ok-turn-in-Flush.ensures.row

pub returns-in_ok-turn-in-Table-clause-turned : goal.returns-in_ok-turn-in-Table-clause-turned
returns-in_ok-turn-in-Table-clause-turned c =
    let turned = c.in_ok-turn-in-Table.ensures.turned in
    (turned.0 ∙ sym (ap needs_after_of c.in-Table.is), turned.1 ∙ sym (ap needs_memory_of c.in-Table.is))

pub returns-in_ok-turn-in-Flush-clause-turned : goal.returns-in_ok-turn-in-Flush-clause-turned
returns-in_ok-turn-in-Flush-clause-turned c = (sym (ap needs_after_of c.in-Flush.is), sym (ap needs_memory_of c.in-Flush.is))

pub returns-in_err-turn-in-Table-clause-free : goal.returns-in_err-turn-in-Table-clause-free
returns-in_err-turn-in-Table-clause-free c none = absurd (false≢true (c.in_err-turn-in-Table.ensures.free (sym (ap needs_memory_of c.in-Table.is) ∙ none)))
