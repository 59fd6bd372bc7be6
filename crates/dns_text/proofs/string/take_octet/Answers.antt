use Rattle.std.proofs.Common.{◌≤◌, ◌<◌, List, ℕ, length, drop, sym, ap, ◌∙◌, arith, length-drop}
use Rattle.std.proofs.lemmas.List.{take_rest}
use Rattle.dns_text.specs.String.{octets_after}
use Rattle.dns_text.proofs.StringLaws.{octets_step, octets_full, octets_bad}
use Rattle.dns_text.proofs.string.take_octet.Goals as goal

pub returns-in_err-octet : goal.returns-in_err-octet
returns-in_err-octet c = rw c.from_residual.ensures (octets_bad _ _ c.requires (sym c.next_octet.ensures.value ∙ c.in_err-octet.was))

pub returns-then-len-ge-MOST_STRING : goal.returns-then-len-ge-MOST_STRING
returns-then-len-ge-MOST_STRING c =
    let full : 255 ≤ length c.args.octets.now.items = omega (arith, c.len.ensures.value) in
    octets_full _ _ c.in_ok-octet.octet c.in_ok-octet.taken c.requires (sym c.next_octet.ensures.value ∙ c.in_ok-octet.was) full

pub returns : goal.returns
returns c =
    let room : length c.args.octets.now.items < 255 = omega (arith, c.len.ensures.value) in
    let text = c.args.text.now in
    let taken = c.in_ok-octet.taken in
    let rest = take_rest text taken in
    let some : 0 < taken = c.in_ok-octet.ensures.within.0 in
    let step = octets_step c.args.octets.now.items text c.in_ok-octet.octet taken c.requires some (sym c.next_octet.ensures.value ∙ c.in_ok-octet.was) room in
    (step ∙ ap (λ (x : List ℕ). octets_after x 0 (drop taken text)) (sym c.push.ensures.items) ∙ ap (octets_after c.push.new.self.items 0) (sym rest), rw rest (omega (arith, length-drop taken text, c.requires)))
