use Rattle.std.proofs.Common.{Some, sym, ◌∙◌, ap}
use Rattle.dns_wire.proofs.AskingLaws.{malformed_whole, name_told, malformed_room, malformed_none, malformed_end, asks_name}
use Rattle.dns_wire.proofs.server.asking.one_question.Goals as goal

pub returns-in_err-at : goal.returns-in_err-at
returns-in_err-at c = rw c.from_residual.ensures (malformed_whole c.requires (sym c.u16_at.ensures ∙ c.if-u16_at-ne1.false) c.in_err-at.ensures.stands)

pub returns-then-message-at : goal.returns-then-message-at
returns-then-message-at c = malformed_room (sym c.u16_at.ensures ∙ c.if-u16_at-ne1.false) (name_told c.requires c.in_ok-at.ensures.stands.1) c.if-message-at.true

pub returns-in_err-end : goal.returns-in_err-end
returns-in_err-end c =
    rw c.from_residual-in_err-end.ensures (malformed_none (sym c.u16_at.ensures ∙ c.if-u16_at-ne1.false) (name_told c.requires c.in_ok-at.ensures.stands.1) (sym c.in_err-end.ensures))

pub returns-then-end-message : goal.returns-then-end-message
returns-then-end-message c =
    malformed_end (sym c.u16_at.ensures ∙ c.if-u16_at-ne1.false) (name_told c.requires c.in_ok-at.ensures.stands.1) (sym c.in_ok-end.ensures) c.if-end-message.true

pub returns : goal.returns
returns c =
    let name = c.in_ok-at.ensures.stands in (
      name.0,
      asks_name c.requires (sym c.u16_at.ensures ∙ c.if-u16_at-ne1.false)
          (record { name = sym (name_told c.requires name.1); room = c.if-message-at.false; places = sym c.in_ok-end.ensures ∙ ap (λ x. Some x) c.if-end-message.false })
          name.2,
    )
