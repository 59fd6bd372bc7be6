-- A header that is written is read back.
use Rattle.std.proofs.Common.{◌≡◌, ◌/◌, ◌%◌, ◌^◌, ◌<◌, Bool, true, false, eqb, refl, arith}
use Rattle.dns_wire.specs.declared.message.Head.{Head}
use Rattle.dns_wire.specs.Read.Header.{head_of}
use Rattle.dns_wire.specs.WellFormed.{IsHead}
use Rattle.dns_wire.specs.Write.Header.{bit, flags_of}

bit_small : (b : Bool) → bit b < 2
bit_small true = omega arith
bit_small false = omega arith

bit_is : (b : Bool) → eqb (bit b) 1 ≡ b
bit_is true = refl
bit_is false = refl

pub flags_small : (h : Head) → IsHead h → flags_of h < 2 ^ 16
flags_small h fits = omega (arith, bit_small h.qr, bit_small h.aa, bit_small h.tc, bit_small h.rd, bit_small h.ra)

pub flags_written : (h : Head) → IsHead h → head_of h.id (flags_of h) ≡ h
flags_written h fits =
    let qr = bit_small h.qr in
    let aa = bit_small h.aa in
    let tc = bit_small h.tc in
    let rd = bit_small h.rd in
    let ra = bit_small h.ra in
    let e1 : flags_of h / 32768 % 2 ≡ bit h.qr = omega arith in
    let e2 : flags_of h / 2048 % 16 ≡ h.opcode = omega arith in
    let e3 : flags_of h / 1024 % 2 ≡ bit h.aa = omega arith in
    let e4 : flags_of h / 512 % 2 ≡ bit h.tc = omega arith in
    let e5 : flags_of h / 256 % 2 ≡ bit h.rd = omega arith in
    let e6 : flags_of h / 128 % 2 ≡ bit h.ra = omega arith in
    let e7 : flags_of h / 16 % 8 ≡ h.z = omega arith in
    let e8 : flags_of h % 16 ≡ h.rcode = omega arith in
    rw (e1, e2, e3, e4, e5, e6, e7, e8, bit_is h.qr, bit_is h.aa, bit_is h.tc, bit_is h.rd, bit_is h.ra) refl
