-- What holds of records that count.
use Rattle.std.proofs.Common.{◌≡◌, true, subst, ap, cond}
use Rattle.std.proofs.lemmas.Bool.{and_parts}
use Rattle.dns_name.specs.Labels.{Labels}
use Rattle.dns_text.specs.Data.{HasForm, IsOfForm}
use Rattle.dns_text.specs.Kind.{form_of}
use Rattle.dns_text.specs.declared.kind.Form.{Form}
use Rattle.dns_text.specs.declared.kind.Form.TheVariants.{Opaque}
use Rattle.dns_text.specs.declared.record.Record.{Record}
use Rattle.dns_wire.specs.WellFormed.{HasItsForm}
use Rattle.dns_wire.specs.declared.message.Classed.{Classed}
use Rattle.harvest.specs.Counted.{counts}

-- the data of a record that counts has the form of its type
pub counted_form : (zone : Labels) (r : Classed Record) → counts zone r ≡ true → HasItsForm r → HasForm r.item.kind r.item.body
counted_form zone r e form =
    let in_class = (and_parts _ _ e).0 in
    let P : Form → Type 0 = λ f. IsOfForm f r.item.body in
    subst P (ap (λ b. cond b (form_of r.item.kind) Opaque) in_class) form
