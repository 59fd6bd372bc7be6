use Rattle.std.proofs.Common.{Some, ℕ, ◌+◌, length, refl, sym, ap, subst, ◌∙◌}
use Rattle.dns_wire.specs.Lent.{reply_of}
use Rattle.dns_wire.specs.Write.Size.{within, records_len, IsRoom}
use Rattle.dns_wire.proofs.WrittenSize.{as_many, measured, front_is_long, as_long}
use Rattle.dns_wire.proofs.write.size.reply_room.Goals as goal

pub returns-in_err-before : goal.returns-in_err-before
returns-in_err-before g c =
    let query = c.args.query.now in
    let told = c.sum_of.ensures ∙ ap (λ o. within (12 + length o)) c.as_slice.ensures in
    λ head.
    let v = reply_of head query.question c.args.sections.now in
    rw c.from_residual.ensures (front_is_long query.octets v (as_long v query.spelled refl) (sym told ∙ c.in_err-before.was))

pub returns : goal.returns
returns g c =
    let query = c.args.query.now in
    let told = c.sum_of.ensures ∙ ap (λ o. within (12 + length o)) c.as_slice.ensures in
    let before = as_many (sym told ∙ c.in_ok-before.was) in
    λ head.
    let v = reply_of head query.question c.args.sections.now in
    measured query.octets v (as_long v query.spelled refl) c.room_behind.result (subst (λ (n : ℕ). IsRoom (n + records_len (Some query.question.owner) c.args.sections.now) c.room_behind.result) before.0 c.room_behind.ensures)
