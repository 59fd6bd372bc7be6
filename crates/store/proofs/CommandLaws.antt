-- The change that a command makes does what the command does: lemmas.
use Rattle.std.proofs.Common.{◌≡◌, ℕ, Bool, false, Option, Some, None, refl, sym, ap, ◌∙◌}
use Rattle.std.specs.Option.{option_map}
use Rattle.dns_name.specs.Options.{◌>>=◌}
use Rattle.dns_text.specs.declared.record.Question.{Question}
use Rattle.ranked.specs.declared.flush.Flush.{Flush as CellFlush}
use Rattle.ranked.specs.Flush.{covers as covers_by}
use Rattle.local_zone.specs.declared.fault.TableFault.{TableFault}
use Rattle.local_zone.specs.declared.fault.TableFault.TheVariants as fault
use Rattle.stub_table.specs.declared.fault.StubFault.{StubFault}
use Rattle.stub_table.specs.declared.fault.StubFault.TheVariants as stub_fault
use Rattle.local_zone.specs.Reason.{reason_of_set, reason_of_add}
use Rattle.stub_table.specs.Reason.{reason_of_stub}
use Rattle.history.specs.declared.event.Command.{Command}
use Rattle.history.specs.declared.event.Command.TheVariants.{FlushType, Flush, FlushZone, SetZone, DropZone, AddRecord, DropName, SetStub, DropStub}
use Rattle.history.specs.declared.tables.Tables.{Tables}
use Rattle.history.specs.Changes.{after_command_on, reason_on, reason_in, stub_reason_in}
use Rattle.history.specs.Event.{covers, flush_of}
use Rattle.table_changes.specs.Both.{change_of, change_after, change_reason, change_removes, change_table}
use Rattle.table_changes.specs.Stubs.{stub_code}
use Rattle.table_changes.specs.Zones.{zone_code}
use Rattle.table_changes.specs.declared.tables.TableChange.{TableChange}
use Rattle.world_book.specs.Removals.{removes}
use Rattle.world_book.specs.Step.{code_of}
use Rattle.world_book.specs.Versions.{table_of}
use Rattle.store.specs.Command.{IsMadeOf}
use Rattle.store.specs.declared.store.Made.TheVariants as made

abbrev covers_in : Option CellFlush → Question → Bool
covers_in None q = false
covers_in (Some flush) q = covers_by flush q

abbrev after_in : Option TableChange → Tables → Tables
after_in None t = t
after_in (Some change) t = change_after change t

abbrev reason_by : Option TableChange → Tables → Option ℕ
reason_by None t = None
reason_by (Some change) t = change_reason change t

zone_codes : (o : Option TableFault) → (o >>= zone_code) ≡ option_map code_of (reason_in o)
zone_codes None = refl
zone_codes (Some fault.BelowRedirect) = refl
zone_codes (Some fault.DataBelow) = refl
zone_codes (Some fault.CnameClash) = refl
zone_codes (Some fault.TooMany) = refl
zone_codes (Some fault.NoMemory) = refl

stub_codes : (o : Option StubFault) → (o >>= stub_code) ≡ option_map code_of (stub_reason_in o)
stub_codes None = refl
stub_codes (Some stub_fault.TooMany) = refl
stub_codes (Some stub_fault.NoMemory) = refl

covers_is : (command : Command) (q : Question) → covers_in (flush_of command) q ≡ covers command q
covers_is (FlushType target) q = refl
covers_is (Flush name) q = refl
covers_is (FlushZone name) q = refl
covers_is (SetZone name kind) q = refl
covers_is (DropZone name) q = refl
covers_is (AddRecord new) q = refl
covers_is (DropName name) q = refl
covers_is (SetStub new) q = refl
covers_is (DropStub name) q = refl

after_is : (command : Command) (t : Tables) → after_in (change_of command) t ≡ after_command_on command t
after_is (FlushType target) t = refl
after_is (Flush name) t = refl
after_is (FlushZone name) t = refl
after_is (SetZone name kind) t = refl
after_is (DropZone name) t = refl
after_is (AddRecord new) t = refl
after_is (DropName name) t = refl
after_is (SetStub new) t = refl
after_is (DropStub name) t = refl

reason_is : (command : Command) (t : Tables) → reason_by (change_of command) t ≡ option_map code_of (reason_on t command)
reason_is (FlushType target) t = refl
reason_is (Flush name) t = refl
reason_is (FlushZone name) t = refl
reason_is (SetZone name kind) t = zone_codes (reason_of_set (record { name = name; kind = kind }) t.local)
reason_is (DropZone name) t = refl
reason_is (AddRecord new) t = zone_codes (reason_of_add new t.local)
reason_is (DropName name) t = refl
reason_is (SetStub new) t = stub_codes (reason_of_stub new t.stubs)
reason_is (DropStub name) t = refl

abbrev table_in : Option TableChange → Option ℕ
table_in None = None
table_in (Some change) = change_table change

table_is : (command : Command) → table_in (change_of command) ≡ table_of command
table_is (FlushType target) = refl
table_is (Flush name) = refl
table_is (FlushZone name) = refl
table_is (SetZone name kind) = refl
table_is (DropZone name) = refl
table_is (AddRecord new) = refl
table_is (DropName name) = refl
table_is (SetStub new) = refl
table_is (DropStub name) = refl

abbrev removes_in : Option TableChange → Tables → Bool
removes_in None t = false
removes_in (Some change) t = change_removes change t

removes_is : (command : Command) (t : Tables) → removes_in (change_of command) t ≡ removes command t
removes_is (FlushType target) t = refl
removes_is (Flush name) t = refl
removes_is (FlushZone name) t = refl
removes_is (SetZone name kind) t = refl
removes_is (DropZone name) t = refl
removes_is (AddRecord new) t = refl
removes_is (DropName name) t = refl
removes_is (SetStub new) t = refl
removes_is (DropStub name) t = refl

-- A flush is no change of the tables.
flush_apart : (command : Command) (flush : CellFlush) → flush_of command ≡ Some flush → change_of command ≡ None
flush_apart (FlushType target) flush e = refl
flush_apart (Flush name) flush e = refl
flush_apart (FlushZone name) flush e = refl
flush_apart (SetZone name kind) flush e = absurd cc
flush_apart (DropZone name) flush e = absurd cc
flush_apart (AddRecord new) flush e = absurd cc
flush_apart (DropName name) flush e = absurd cc
flush_apart (SetStub new) flush e = absurd cc
flush_apart (DropStub name) flush e = absurd cc

-- Each command is one or the other.
pub never_neither : (command : Command) → flush_of command ≡ None → change_of command ≡ None → ⊥
never_neither (FlushType target) e f = absurd cc
never_neither (Flush name) e f = absurd cc
never_neither (FlushZone name) e f = absurd cc
never_neither (SetZone name kind) e f = absurd cc
never_neither (DropZone name) e f = absurd cc
never_neither (AddRecord new) e f = absurd cc
never_neither (DropName name) e f = absurd cc
never_neither (SetStub new) e f = absurd cc
never_neither (DropStub name) e f = absurd cc

pub flush_is_made : (command : Command) (flush : CellFlush) → flush_of command ≡ Some flush → IsMadeOf command (made.Flush (record { flush = flush }))
flush_is_made command flush e =
    let apart = sym (flush_apart command flush e) in
    record {
      after = λ t. ap (λ (o : Option TableChange). after_in o t) apart ∙ after_is command t;
      empties = λ q. ap (λ (o : Option CellFlush). covers_in o q) (sym e) ∙ covers_is command q;
      table = ap table_in apart ∙ table_is command;
      reason = λ t. ap (λ (o : Option TableChange). reason_by o t) apart ∙ reason_is command t;
      removes = λ t. ap (λ (o : Option TableChange). removes_in o t) apart ∙ removes_is command t;
    }

pub table_is_made : (command : Command) (change : TableChange) → flush_of command ≡ None → change_of command ≡ Some change → IsMadeOf command (made.Table change)
table_is_made command change e f = record {
  after = λ t. ap (λ (o : Option TableChange). after_in o t) (sym f) ∙ after_is command t;
  empties = λ q. ap (λ (o : Option CellFlush). covers_in o q) (sym e) ∙ covers_is command q;
  table = ap table_in (sym f) ∙ table_is command;
  reason = λ t. ap (λ (o : Option TableChange). reason_by o t) (sym f) ∙ reason_is command t;
  removes = λ t. ap (λ (o : Option TableChange). removes_in o t) (sym f) ∙ removes_is command t;
}
