use Rattle.std.proofs.Common.{◌≡◌, ℕ, ◌/◌, List, length, Vec, Global, Option, Some, None, Result, Ok, Err, sym, ◌∙◌, subst}
use Rattle.std.specs.Prelude.{option_map, IfOk, IfSome}
use Rattle.dns_text.specs.Opaque.{octets_of_hex, counted_octets}
use Rattle.dns_text.proofs.OpaqueLaws.{count_apart, count_same, unhexed_long}
use Rattle.dns_text.proofs.opaque.counted_octets.Goals as goal

all_count : {E : Type 0} (count : ℕ) (digits : List ℕ) (r : Result (Option (Vec ℕ Global)) E) → length digits / 2 ≡ count → IfOk r (λ o. option_map (λ v. v.items) o ≡ octets_of_hex digits) → IfOk r (λ o. option_map (λ v. v.items) o ≡ counted_octets count digits)
all_count count digits (Ok o) half e = e ∙ sym (count_same count digits half)
all_count count digits (Err fault) half e = tt

as_long : {E : Type 0} (count : ℕ) (digits : List ℕ) (r : Result (Option (Vec ℕ Global)) E) → length digits / 2 ≡ count → IfOk r (λ o. option_map (λ v. v.items) o ≡ octets_of_hex digits) → IfOk r (λ o. IfSome o (λ v. length v.items ≡ count))
as_long count digits (Ok None) half e = tt
as_long count digits (Ok (Some v)) half e = subst (λ (o : Option (List ℕ)). IfSome o (λ octets. length octets ≡ count)) (sym e) (unhexed_long count digits half)
as_long count digits (Err fault) half e = tt

pub returns-then-digits-count-clause-value : goal.returns-then-digits-count-clause-value
returns-then-digits-count-clause-value c = sym (count_apart c.args.count c.args.digits.now c.if-digits-count.true)

pub returns-clause-value : goal.returns-clause-value
returns-clause-value c = all_count c.args.count c.args.digits.now c.decode_hex.result c.if-digits-count.false c.decode_hex.ensures

pub returns-clause-count : goal.returns-clause-count
returns-clause-count c = as_long c.args.count c.args.digits.now c.decode_hex.result c.if-digits-count.false c.decode_hex.ensures
