-- The header of a message (RFC 1035, section 4.1.1): identifier, flags, and four counts of 16 bits each.
use Rattle.std.specs.Prelude.{ℕ, ◌/◌, ◌%◌, ◌==◌, List}
use Rattle.dns_wire.specs.declared.message.Head.{Head}
use Rattle.dns_wire.specs.Read.Number.{u16_at}

-- the identifier and the flags, from the high bit on: QR 1, OPCODE 4, AA 1, TC 1, RD 1, RA 1, Z 3, RCODE 4
abbrev pub head_of : ℕ → ℕ → Head
head_of id flags = record {
  id = id;
  qr = flags / 32768 % 2 == 1;
  opcode = flags / 2048 % 16;
  aa = flags / 1024 % 2 == 1;
  tc = flags / 512 % 2 == 1;
  rd = flags / 256 % 2 == 1;
  ra = flags / 128 % 2 == 1;
  z = flags / 16 % 8;
  rcode = flags % 16;
}

-- the head of a message, without its counts
abbrev pub head_in : List ℕ → Head
head_in m = head_of (u16_at m 0) (u16_at m 2)

-- QDCOUNT, the number of questions
abbrev pub question_count : List ℕ → ℕ
question_count m = u16_at m 4

-- ANCOUNT, the number of records in the answer section
abbrev pub answer_count : List ℕ → ℕ
answer_count m = u16_at m 6

-- NSCOUNT, the number of records in the authority section
abbrev pub authority_count : List ℕ → ℕ
authority_count m = u16_at m 8

-- ARCOUNT, the number of records in the additional section
abbrev pub additional_count : List ℕ → ℕ
additional_count m = u16_at m 10
