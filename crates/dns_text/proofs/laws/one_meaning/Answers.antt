use Rattle.std.proofs.Common.{◌≡◌, ℕ, List, Option, Some, Result, Ok, sym, ◌∙◌}
use Rattle.std.specs.Prelude.{◌↔◌}
use Rattle.dns_text.specs.declared.fault.TextFault.{TextFault}
use Rattle.dns_text.specs.Ipv6.{ipv6_in}
use Rattle.dns_text.specs.String.{strings_in}
use Rattle.dns_text.specs.Data.{data_in}
use Rattle.dns_text.specs.Record.{record_in}
use Rattle.dns_text.specs.Laws.{StandsForOne}
use Rattle.dns_text.proofs.laws.one_meaning.Goals as goal

one_found : {X : Type 0} (R : List ℕ → X → Type 0) (f : List ℕ → Option X) → ((text : List ℕ) (x : X) → (f text ≡ Some x) ↔ R text x) → StandsForOne R
one_found R f law text x y h k = let same : Some x ≡ Some y = sym ((law text x).1 h) ∙ (law text y).1 k in cc

one_read : {X : Type 0} (R : List ℕ → X → Type 0) (f : List ℕ → Result X TextFault) → ((text : List ℕ) (x : X) → (f text ≡ Ok x) ↔ R text x) → StandsForOne R
one_read {X} R f law text x y h k = let same : (let r : Result X TextFault = Ok x in r) ≡ Ok y = sym ((law text x).1 h) ∙ (law text y).1 k in cc

pub returns-clause-ipv6 : goal.returns-clause-ipv6
returns-clause-ipv6 c = one_found _ ipv6_in c.text_law.ensures.ipv6

pub returns-clause-strings : goal.returns-clause-strings
returns-clause-strings c = one_found _ strings_in c.text_law.ensures.strings

pub returns-clause-data : goal.returns-clause-data
returns-clause-data c = λ kind. one_found _ (data_in kind) (c.text_law.ensures.«data» kind)

pub returns-clause-record : goal.returns-clause-record
returns-clause-record c = one_read _ record_in c.text_law.ensures.records
