use Rattle.dns_text.proofs.Ipv6Head.{stops, gap_found, goes_on, stops_last, ends_last}
use Rattle.dns_text.proofs.ipv6.read_head.Goals as goal

pub returns-in_err-add_word : goal.returns-in_err-add_word
returns-in_err-add_word c =
    rw c.from_residual.ensures (stops c.loop-word.octets.items c.loop-word.rest.now c.in-Some.word.now c.in-Some.after.now _ c.in-Some.ensures.value c.loop-word.invariant c.in_err-add_word.ensures)

pub returns-in-Some-behind_colon : goal.returns-in-Some-behind_colon
returns-in-Some-behind_colon c =
    gap_found c.loop-word.octets.items c.loop-word.rest.now c.in-Some.word.now c.in-Some.after.now c.in-Some-behind_colon.back.now _ _ c.in-Some.ensures.value c.loop-word.invariant c.in_ok-add_word.ensures c.in-Some-behind_colon.ensures

pub loop-word-preserved : goal.loop-word-preserved
loop-word-preserved c =
    goes_on c.loop-word.octets.items c.loop-word.rest.now c.in-Some.word.now c.in-Some.after.now _ _ c.in-Some.ensures.value c.loop-word.invariant c.in_ok-add_word.ensures c.in_default-behind_colon.ensures

pub returns-in_err-add_word-2 : goal.returns-in_err-add_word-2
returns-in_err-add_word-2 c =
    rw c.from_residual-in_err-add_word-2.ensures (stops_last c.loop-word.octets.items c.loop-word.rest.now _ c.in_default.ensures.value c.loop-word.invariant c.in_err-add_word-2.ensures)

pub returns : goal.returns
returns c = ends_last c.loop-word.octets.items c.loop-word.rest.now _ _ c.in_default.ensures.value c.loop-word.invariant c.in_ok-add_word-2.ensures
