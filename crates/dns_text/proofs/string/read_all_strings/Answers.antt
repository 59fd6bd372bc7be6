use Rattle.std.proofs.Common.{◌≡◌, List, ℕ, [], Some, None, length, sym, ap, subst, ◌∙◌, arith}
use Rattle.std.specs.Prelude.{option_map}
use Rattle.dns_text.specs.declared.fault.TextFault.TheVariants.{BadData}
use Rattle.dns_name.specs.Results.{or_fault}
use Rattle.dns_text.specs.String.{strings_after, string_in}
use Rattle.dns_text.specs.Strings.{strings_of}
use Rattle.dns_text.proofs.StringLaws.{Told, strings_end, strings_bad, strings_more}
use Rattle.dns_text.proofs.SpelledLaws.{none_are, no_strings, pushed, pushed_are, strings_of-spelled}
use Rattle.dns_text.proofs.string.read_all_strings.Goals as goal

pub loop-word-init : goal.loop-word-init
loop-word-init c =
    let text : List ℕ = c.args.text.now in
    let none : strings_of c.new-octets.result.items ≡ [] = ap (λ (x : List ℕ). strings_of x) c.new-octets.ensures.items ∙ no_strings in
    record {
      told = record { n = length text; long = omega arith; told = ap (λ (x : List (List ℕ)). strings_after x (length text) text) none };
      are = rw c.new-octets.ensures.items none_are;
    }

pub returns-in-None-clause-value : goal.returns-in-None-clause-value
returns-in-None-clause-value c =
    let told = c.loop-word.invariant.told in
    let none : string_in c.in-Some.word.now ≡ None = sym c.in-None.ensures in
    λ _. ap (or_fault BadData) (strings_bad _ told.n _ _ _ _ told.long c.in-Some.ensures.less (sym c.in-Some.ensures.value) none told.told)

pub loop-word-preserved : goal.loop-word-preserved
loop-word-preserved c =
    let string : List ℕ = c.as_slice.result.now in
    let one : string_in c.in-Some.word.now ≡ Some string = sym c.in-Some-read_string.ensures ∙ ap (λ (x : List ℕ). Some x) (sym c.as_slice.ensures.value) in
    let is = c.in_ok-push_string-in-Some-read_string.ensures.octets in
    let are = c.loop-word.invariant.are in
    let strings = strings_of-spelled _ _ (pushed _ string _ are.spell is) in
    let IsTold : List (List ℕ) → Type 0 = λ x. Told x c.in-Some.after.now (strings_after [] (length c.args.text.now) c.args.text.now) in
    record {
      told = subst IsTold (sym strings) (strings_more _ _ _ _ _ _ c.in-Some.ensures.less (sym c.in-Some.ensures.value) one c.loop-word.invariant.told);
      are = pushed_are _ string _ are c.push_string.ensures.fits is;
    }

pub returns-clause-value : goal.returns-clause-value
returns-clause-value c =
    let told = c.loop-word.invariant.told in
    ap (or_fault BadData) (sym told.told ∙ strings_end _ told.n _ (sym c.next_word.ensures.value ∙ ap (option_map (λ r. (r.0.now, r.1.now))) c.in_default.is))
