use Rattle.std.proofs.Common.{◌++◌, ◌∷◌, ◌+◌, ◌*◌, List, ℕ, take, drop, flat_map, sym, ap, ◌∙◌, append_assoc, arith, length-drop}
use Rattle.std.specs.Prelude.{slice_index}
use Rattle.std.specs.Net.Text.{hex}
use Rattle.std.specs.Net.Addr.{segments_of}
use Rattle.std.proofs.lemmas.List.{take_all}
use Rattle.dns_text.proofs.Ipv6Laws.{text_by_first}
use Rattle.dns_text.proofs.ipv6.push_ipv6.Goals as goal

pub loop-rest-init : goal.loop-rest-init
loop-rest-init c =
    let octets = c.args.octets.now in
    let out = c.args.out.now.items in
    let first : List ℕ = hex (slice_index octets 0 * 256 + slice_index octets 1) in
    let more : List ℕ → List ℕ = λ rest. flat_map (λ t. 58 ∷ hex t) (segments_of rest) in
    let rest = take_all 14 (drop 2 octets) (omega (arith, length-drop 2 octets, c.told-octets)) in
    ap (λ (x : List ℕ). x ++ more (take 14 (drop 2 octets))) c.in_ok-push_group.ensures ∙ append_assoc out first (more (take 14 (drop 2 octets)))
    ∙ ap (λ (x : List ℕ). out ++ (first ++ more x)) rest ∙ ap (λ (x : List ℕ). out ++ x) (sym (text_by_first octets (omega (arith, c.told-octets))))
