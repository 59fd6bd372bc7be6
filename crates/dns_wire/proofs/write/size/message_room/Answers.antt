use Rattle.std.proofs.Common.{◌≡◌, ℕ, ◌+◌, length, refl, sym, ap, subst, ◌∙◌, arith}
use Rattle.std.specs.List.{flat_map}
use Rattle.std.specs.Option.{option_copied}
use Rattle.dns_wire.specs.Lent.{records_of}
use Rattle.dns_wire.specs.Write.Size.{within, records_len, IsRoom}
use Rattle.dns_wire.specs.Write.Question.{question_octets, first_name}
use Rattle.dns_wire.proofs.WrittenSize.{as_many, measured, front_is_long}
use Rattle.dns_wire.proofs.write.size.message_room.Goals as goal

pub returns-in_err-before : goal.returns-in_err-before
returns-in_err-before c =
    let v = c.args.message.now in
    let told = c.questions_len.ensures ∙ ap (λ q. within (12 + length (flat_map question_octets q))) c.as_slice.ensures in
    rw c.from_residual.ensures (front_is_long (flat_map question_octets v.questions) v refl (sym told ∙ c.in_err-before.was))

pub returns : goal.returns
returns c =
    let v = c.args.message.now in
    let told = c.questions_len.ensures ∙ ap (λ q. within (12 + length (flat_map question_octets q))) c.as_slice.ensures in
    let before = as_many (sym told ∙ c.in_ok-before.was) in
    let records : records_len (option_copied c.first_name.result) c.sections.result ≡ records_len (first_name v.questions) (records_of v) = ap (λ first. records_len first c.sections.result) c.first_name.ensures ∙ ap (λ records. records_len (first_name v.questions) records) c.sections.ensures in
    measured (flat_map question_octets v.questions) v refl c.room_behind.result (subst (λ (n : ℕ). IsRoom n c.room_behind.result) (omega (arith, before.0, records)) c.room_behind.ensures)
