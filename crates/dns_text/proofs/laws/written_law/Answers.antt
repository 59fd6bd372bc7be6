use Rattle.std.proofs.Common.{ℕ, List, [], ◌∷◌, refl, sym, ap, ◌∙◌, arith}
use Rattle.std.proofs.lemmas.List.{append-nil}
use Rattle.dns_text.specs.declared.addr.Ip.{Ip}
use Rattle.dns_text.specs.declared.addr.Ip.TheVariants.{V4, V6}
use Rattle.dns_text.specs.Word.{next_word}
use Rattle.dns_text.specs.Addr.{ip_text, IpReads}
use Rattle.dns_text.specs.Written.{StandsAsWord, IsIp}
use Rattle.dns_text.proofs.WordLaws.{IsWord, next_word-front}
use Rattle.dns_text.proofs.FieldLaws.{number_is_word}
use Rattle.dns_text.proofs.NameLaws.{name_is_word, named-text_of}
use Rattle.dns_text.proofs.KindLaws.{type_is_word, type_in-type_text}
use Rattle.dns_text.proofs.Ipv4Laws.{ipv4_is_word}
use Rattle.dns_text.proofs.Ipv6Laws.{ipv6_again}
use Rattle.dns_text.proofs.AddrLaws.{v4_reads, v6_reads, addr_again, addr_is_word}
use Rattle.dns_text.proofs.RecordLaws.{record_again}
use Rattle.dns_text.proofs.laws.written_law.Goals as goal

stands : (word : List ℕ) → IsWord word → StandsAsWord word
stands word h = record { last = ap next_word (sym (append-nil word)) ∙ next_word-front word [] h tt; first = λ rest. next_word-front word (32 ∷ rest) h refl }

ip_reads : (ip : Ip) → IsIp ip → IpReads ip
ip_reads (V4 octets) h = v4_reads octets (record { long = h.0; fits = h.1 })
ip_reads (V6 octets) h = v6_reads octets (record { long = h.0; fits = h.1 })

ip_is_word : (ip : Ip) → IsIp ip → IsWord (ip_text ip)
ip_is_word (V4 octets) h = ipv4_is_word octets h.1
ip_is_word (V6 octets) h = (ipv6_again octets h.0 h.1).1

pub returns-clause-names : goal.returns-clause-names
returns-clause-names c = λ name h. (stands _ (name_is_word name h), named-text_of name h)

pub returns-clause-numbers : goal.returns-clause-numbers
returns-clause-numbers c = λ n h. stands _ (number_is_word n h)

pub returns-clause-types : goal.returns-clause-types
returns-clause-types c = λ kind h. (stands _ (type_is_word kind h), type_in-type_text kind h)

pub returns-clause-addrs : goal.returns-clause-addrs
returns-clause-addrs c = λ addr h some small. (stands _ (addr_is_word addr (ip_is_word addr.ip h) (omega arith)), addr_again addr (ip_reads addr.ip h) some small)

pub returns-clause-records : goal.returns-clause-records
returns-clause-records c = λ r name small known ttl again. record_again r name small known ttl again
