-- A record (RFC 1035, section 4.1.3): a name; type and class of 16 bits, TTL of 32, RDLENGTH of 16; and so many octets of RDATA.
use Rattle.std.specs.Prelude.{◌≡◌, ℕ, ◌+◌, ◌<◌, ◌≤◌, List, length, take, Result, Ok, Err, nat_lt, if◌then◌else◌}
use Rattle.dns_name.specs.Labels.{Labels}
use Rattle.dns_text.specs.declared.record.Data.{Data}
use Rattle.dns_text.specs.declared.record.Record.{Record}
use Rattle.dns_text.specs.declared.kind.Form.{Form}
use Rattle.dns_wire.specs.declared.fault.WireFault.{WireFault}
use Rattle.dns_wire.specs.declared.fault.WireFault.TheVariants.{Short}
use Rattle.dns_wire.specs.declared.message.Classed.{Classed}
use Rattle.dns_wire.specs.declared.read.record.Frame.{Frame}
use Rattle.dns_wire.specs.Read.Name.{SpelledName, UnspelledName, name_read}
use Rattle.dns_wire.specs.Read.Number.{u16_at, u32_at}
use Rattle.dns_wire.specs.Read.Rdata.{form_in, DataAt, DataFails, data_read}
use Rattle.dns_name.specs.Results.{◌>>=◌}

-- A TTL whose top bit is set is read as 0 (RFC 2181, section 8).
abbrev pub ttl_of : ℕ → ℕ
ttl_of n = if nat_lt n 2147483648 then n else 0

-- the place where RDATA begins; `fixed` is where the fields of fixed length begin
abbrev pub data_begin : ℕ → ℕ
data_begin fixed = fixed + 10

-- the place where RDATA ends
abbrev pub data_end : List ℕ → ℕ → ℕ
data_end m fixed = data_begin fixed + u16_at m (fixed + 8)

-- the form of the RDATA, by class and type
abbrev pub form_at : List ℕ → ℕ → Form
form_at m fixed = form_in (u16_at m (fixed + 2)) (u16_at m fixed)

-- At a place is this record, and `after` is the place after it.
pub record RecordAt (m : List ℕ) (at : ℕ) (r : Classed Record) (after : ℕ) : Type 0 where
  pub fixed : ℕ
  pub owner : SpelledName m at fixed r.item.owner
  pub kind : r.item.kind ≡ u16_at m fixed
  pub class : r.class ≡ u16_at m (fixed + 2)
  pub ttl : r.item.ttl ≡ ttl_of (u32_at m (fixed + 4))
  pub ends : after ≡ data_end m fixed
  pub within : after ≤ length m
  pub body : DataAt m (take after m) (data_begin fixed) (form_in r.class r.item.kind) r.item.body

-- At a place is no record: this is the first fault.
pub data RecordFails (m : List ℕ) (at : ℕ) : WireFault → Type 0 where
  bad_owner : {fault : WireFault} → UnspelledName m at fault → RecordFails m at fault
  short : {fixed : ℕ} {name : Labels} → SpelledName m at fixed name → length m < data_begin fixed → RecordFails m at Short
  short_data : {fixed : ℕ} {name : Labels} → SpelledName m at fixed name → data_begin fixed ≤ length m
      → length m < data_end m fixed → RecordFails m at Short
  bad_data : {fixed : ℕ} {name : Labels} {fault : WireFault} → SpelledName m at fixed name → data_end m fixed ≤ length m
      → DataFails m (take (data_end m fixed) m) (data_begin fixed) (form_at m fixed) fault → RecordFails m at fault

-- the record of an owner and data, and the place after it
abbrev pub record_with : List ℕ → Labels × ℕ → Data → Result (Classed Record × ℕ) WireFault
record_with m owner body =
    Ok (record { item = record { owner = owner.0; kind = u16_at m owner.1; ttl = ttl_of (u32_at m (owner.1 + 4)); body = body }; class = u16_at m (owner.1 + 2) }, data_end m owner.1)

-- the frame of RDATA: where it begins and ends, and its form
abbrev pub frame_read : List ℕ → ℕ → Result Frame WireFault
frame_read m fixed =
    if nat_lt (length m) (data_begin fixed) then Err Short else
    if nat_lt (length m) (data_end m fixed) then Err Short else
    Ok (record { begin = data_begin fixed; end = data_end m fixed; form = form_at m fixed })

-- the record after its owner, and the place after it
abbrev pub record_behind : List ℕ → Labels × ℕ → Result (Classed Record × ℕ) WireFault
record_behind m owner = frame_read m owner.1 >>= λ frame. data_read m (take frame.end m) frame.begin frame.form >>= record_with m owner

-- the record at a place, and the place after it
unfoldable pub record_read : List ℕ → ℕ → Result (Classed Record × ℕ) WireFault
record_read m at = name_read m at >>= record_behind m
