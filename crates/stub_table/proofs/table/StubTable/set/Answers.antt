use Rattle.std.proofs.Common.{◌≡◌, List, None, ap, sym, ◌∙◌}
use Rattle.stub_table.specs.declared.stub.Stub.{Stub}
use Rattle.stub_table.specs.Reason.{reason_of_stub}
use Rattle.stub_table.proofs.ReasonLaws.{set_is_sound}
use Rattle.named_list.specs.TurnLaws.{puts_none_with}
use Rattle.stub_table.proofs.table.StubTable.set.Goals as goal

pub invariant_of-self-2 : goal.invariant_of-self-2
invariant_of-self-2 c =
    let before : List Stub = c.self.inside.stubs in
    let none : reason_of_stub c.args.stub before ≡ None = ap (λ (new : Stub). reason_of_stub new before) (sym c.get.ensures) ∙ sym c.reason_of_stub.ensures ∙ c.in_default.is in
    rw c.in_ok-turn.ensures.ok (set_is_sound c.args.stub before c.self.invariant none)

pub returns-clause-frees : goal.returns-clause-frees
returns-clause-frees c =
    puts_none_with (λ (s : Stub). s.name) c.args.stub c.in_ok-turn.turn c.put.new.self c.self.inside.stubs c.in_ok-turn.ensures.ok c.in_ok-turn.ensures.saved
