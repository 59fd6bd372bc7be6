use Rattle.std.proofs.Common.{◌≡◌, ◌≢◌, ◌+◌, ◌∙◌, ℕ, Ok, ap, subst, sym, arith}
use Rattle.dns_wire.specs.declared.message.TheConstants.{CLASS_IN}
use Rattle.dns_text.specs.declared.kind.Form.{Form}
use Rattle.dns_text.specs.Kind.{form_of}
use Rattle.dns_wire.specs.Read.Number.{u16_at}
use Rattle.dns_wire.specs.Read.Rdata.{form_in}
use Rattle.dns_wire.specs.Read.Record.{data_end}
use Rattle.replies.specs.Dear.{DataTakes, Read, RestTakes, record_cut, stopped}
use Rattle.replies.proofs.Dearness.{fails, form_here, form_elsewhere, nothing, rest_read}
use Rattle.replies.proofs.dear.pass_rest.Goals as goal

pub returns-in_err-kind : goal.returns-in_err-kind
returns-in_err-kind c =
    let stops = c.in_err-kind.ensures.err in
    fails _ _ _ _ _ c.from_residual.ensures (rw stops.0 (stopped {n = 0} (omega arith) (record_cut (omega (arith, stops.1)))))

pub returns-in_err-class : goal.returns-in_err-class
returns-in_err-class c =
    let stops = c.in_err-class.ensures.err in
    fails _ _ _ _ _ c.from_residual-in_err-class.ensures (rw stops.0 (stopped {n = 0} (omega arith) (record_cut (omega (arith, stops.1)))))

pub returns-in_err-number_at : goal.returns-in_err-number_at
returns-in_err-number_at c =
    let stops = c.in_err-number_at.ensures.err in
    fails _ _ _ _ _ c.from_residual-in_err-number_at.ensures (rw stops.0 (stopped {n = 0} (omega arith) (record_cut (omega (arith, stops.1)))))

pub returns-then-octets-end : goal.returns-then-octets-end
returns-then-octets-end c = stopped {n = 0} (omega arith) (record_cut (omega (arith, c.in_ok-number_at.ensures.ok, c.if-octets-end.true)))

pub returns-then-class-eq-CLASS_IN : goal.returns-then-class-eq-CLASS_IN
returns-then-class-eq-CLASS_IN c =
    let m = c.args.octets.now in
    let at = c.args.at in
    let left = c.args.left.now in
    let left' = c.pass_data.new.left in
    let result = c.pass_data.result in
    let end_is : at + 10 + c.from.result ≡ data_end m at = omega (arith, c.from.ensures, c.in_ok-number_at.ensures.ok) in
    let class : u16_at m (at + 2) ≡ CLASS_IN = sym c.in_ok-class.ensures.ok ∙ c.if-class-eq-CLASS_IN.true in
    let form_is : c.form_of.result ≡ form_in (u16_at m (at + 2)) (u16_at m at) = c.form_of.ensures ∙ ap form_of c.in_ok-kind.ensures.ok ∙ form_here _ _ class in
    rest_read m c.args.copies at (omega (arith, c.if-octets-end.false))
    (subst (λ (form : Form). Read (DataTakes m c.args.copies form (at + 10) (data_end m at)) left left' result) form_is
    (subst (λ (end : ℕ). Read (DataTakes m c.args.copies c.form_of.result (at + 10) end) left left' result) end_is c.pass_data.ensures))

pub returns : goal.returns
returns c =
    let m = c.args.octets.now in
    let at = c.args.at in
    let left = c.args.left.now in
    let end = data_end m at in
    let end_is : at + 10 + c.from.result ≡ data_end m at = omega (arith, c.from.ensures, c.in_ok-number_at.ensures.ok) in
    let other : u16_at m (at + 2) ≢ CLASS_IN = λ is. c.if-class-eq-CLASS_IN.false (c.in_ok-class.ensures.ok ∙ is) in
    let body = subst (λ (form : Form). Read (DataTakes m c.args.copies form (at + 10) end) left left (Ok end)) (form_elsewhere _ (u16_at m at) other) (nothing end left) in
    subst (λ (place : ℕ). Read (RestTakes m c.args.copies at) left left (Ok place)) (sym end_is) (rest_read m c.args.copies at (omega (arith, c.if-octets-end.false)) body)
