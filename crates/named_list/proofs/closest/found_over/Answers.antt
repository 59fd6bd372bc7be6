use Rattle.std.proofs.Common.{◌≡◌, ℕ, false, cond, List, nat_eq, ap, sym, ◌∙◌}
use Rattle.std.specs.Cmp.Lexicographic.{pointwise}
use Rattle.std.specs.Map.{values_of}
use Rattle.std.specs.Option.{option_map}
use Rattle.dns_name.specs.Labels.{Labels, octets_of}
use Rattle.dns_name.specs.Order.{name_eq}
use Rattle.named_list.specs.Closest.{find_named}
use Rattle.named_list.proofs.KeyedLaws.{lookup-of}
use Rattle.named_list.proofs.closest.found_over.Goals as goal

abbrev items : Labels → List ℕ
items k = octets_of k

pub returns : goal.returns
returns g c = λ name h.
    let es = c.args.things.now.entries in
    let apart : name_eq name c.args.other.now ≡ false
    = ap (λ (o : List ℕ). pointwise nat_eq o (octets_of c.args.other.now)) (sym h) ∙ ap (pointwise nat_eq c.args.octets.now) (sym c.octets.ensures.value) ∙ sym c.eq.ensures ∙ c.if-eq.false in
    c.get.ensures.value
    ∙ lookup-of items g.T.Named.named es name c.args.octets.now h c.requires.keyed
    ∙ sym (ap (λ b. cond b (option_map (λ x. x.now) c.args.instead) (find_named g.T.Named.named (values_of es) name)) apart)
