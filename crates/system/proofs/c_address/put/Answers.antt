use Rattle.std.proofs.Common.{◌+◌, ◌++◌, length, take, drop, ap, ◌∙◌, arith}
use borrow.Rule.Slice.PartMut.{Post-is}
use Rattle.std.proofs.NetLemmas.SockAddrs.{in_storage-append}
use Rattle.system.proofs.c_address.put.Goals as goal

pub returns : goal.returns
returns c = λ front long stored.
    let at = c.args.at in
    let raw = c.args.raw.now in
    let octets = c.args.octets.now in
    let after = Post-is at (at + length octets) raw (omega arith) in
    (λ i. take at raw ++ (c.copy_from_slice.ensures.after i ++ after i))
    ∙ ap (λ l. take at l ++ (octets ++ drop (at + length octets) l)) stored
    ∙ in_storage-append front octets at long
