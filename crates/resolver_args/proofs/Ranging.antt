-- The IP address of a text that names no port, from the address that the text writes.
use Rattle.std.proofs.Common.{◌≡◌, ◌∙◌, ap, sym, refl, ℕ, Option, Some, None, Ok, Err}
use Rattle.std.specs.Prelude.{option_map}
use Rattle.clap.specs.Walk.{Text}
use Rattle.dns_name.specs.Results.{or_fault}
use Rattle.dns_text.specs.Addr.{addr_in, by_parts, ip_in}
use Rattle.dns_text.specs.Word.{cut_at}
use Rattle.dns_text.specs.declared.addr.Addr.{Addr}
use Rattle.dns_text.specs.declared.addr.Ip.{Ip}
use Rattle.resolver_args.specs.Ranges.{ip_alone, ip_unless_cut}

ip_of : (found : Option Ip) (port : ℕ) → option_map (λ (addr : Addr). addr.ip) (option_map (λ ip. record { ip = ip; port = port }) found) ≡ found
ip_of None port = refl
ip_of (Some ip) port = refl

pub alone : (text : Text) → None ≡ cut_at 64 text → option_map (λ (addr : Addr). addr.ip) (addr_in text) ≡ ip_alone text
unfolding addr_in ip_alone
alone text none =
    ap (λ parts. option_map (λ (addr : Addr). addr.ip) (by_parts text parts)) (sym none) ∙ (ip_of (ip_in text) 53 ∙ ap (ip_unless_cut text) none)

pub read : {E : Type 0} (fault : E) (found : Option Addr) (addr : Addr) → Ok addr ≡ or_fault fault found → Some addr.ip ≡ option_map (λ (addr : Addr). addr.ip) found
read fault None addr is = cc
read fault (Some other) addr is = cc

pub unread : {E : Type 0} (fault why : E) (found : Option Addr) → Err why ≡ or_fault fault found → None ≡ option_map (λ (addr : Addr). addr.ip) found
unread fault why None is = refl
unread fault why (Some other) is = cc
