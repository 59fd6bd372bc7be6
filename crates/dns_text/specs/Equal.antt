-- The values of `==` on the types of this crate.
use Rattle.std.specs.Prelude.{Bool}
use Rattle.dns_text.specs.declared.record.Data.{Data}
use Rattle.dns_text.specs.declared.record.Question.{Question}
use Rattle.dns_text.specs.declared.record.Record.{Record}
use Rattle.dns_text.specs.declared.addr.Addr.{Addr}
use Rattle.dns_text.specs.declared.addr.Ip.{Ip}
use Rattle.dns_text.specs.contracts.record.DataPartialEq.TheImpl as data_impl
use Rattle.dns_text.specs.contracts.record.QuestionPartialEq.TheImpl as question_impl
use Rattle.dns_text.specs.contracts.record.RecordPartialEq.TheImpl as record_impl
use Rattle.dns_text.specs.contracts.addr.IpPartialEq.TheImpl as ip_impl
use Rattle.dns_text.specs.contracts.addr.AddrPartialEq.TheImpl as addr_impl

-- whether `==` calls two data equal
abbrev pub data_eq : Data → Data → Bool
data_eq a b = data_impl.ghosts.eq a b

-- whether `==` calls two questions equal
abbrev pub question_eq : Question → Question → Bool
question_eq a b = question_impl.ghosts.eq a b

-- whether `==` calls two records equal
abbrev pub record_eq : Record → Record → Bool
record_eq a b = record_impl.ghosts.eq a b

-- whether `==` calls two IP addresses equal
abbrev pub ip_eq : Ip → Ip → Bool
ip_eq a b = ip_impl.ghosts.eq a b

-- whether `==` calls two addresses of servers equal
abbrev pub addr_eq : Addr → Addr → Bool
addr_eq a b = addr_impl.ghosts.eq a b
