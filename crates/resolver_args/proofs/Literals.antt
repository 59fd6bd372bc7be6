-- What is given by words that are written out.
use Rattle.std.proofs.Common.{◌≡◌, ◌∙◌, ◌∷◌, [], ℕ, List, Option, Some, None, ap, sym, refl, codes, map}
use Rattle.std.specs.Prelude.{option_map, unwrap_or}
use Rattle.std.specs.Str.Parse.{digits_value, without_leading_plus}
use Rattle.std.specs.Fmt.{digits}
use Rattle.clap.specs.Simple.{subcommand_of}
use Rattle.clap.specs.Walk.{Row, Text, all_of, one_of}
use Rattle.clap.proofs.OnLiterals.{clap_on_literals}
use Rattle.dns_text.specs.declared.addr.Addr.{Addr}
use Rattle.dns_text.specs.Addr.{addr_in}
use Rattle.resolver_args.specs.CommandLine.{resolver_app}
use Rattle.resolver_args.specs.Given.{GivesAddrs, GivesNumber}

abbrev pub alone : List Text
alone = codes "resolver" ∷ codes "script" ∷ []

abbrev pub with_options : List Text
with_options = codes "resolver" ∷ codes "script" ∷ codes "--journal" ∷ codes "7" ∷ codes "192.0.2.1" ∷ []

-- what a parse of the words gives under a name
abbrev one_in : List Text → Text → Option (Option Text)
one_in words name = option_map (λ p. one_of name p.1) (subcommand_of resolver_app words)

abbrev all_in : List Text → Text → Option (Option (List Text))
all_in words name = option_map (λ p. all_of name p.1) (subcommand_of resolver_app words)

pub journal_alone : one_in alone (codes "journal") ≡ Some (Some (codes "64"))
unfolding clap_on_literals digits
journal_alone = refl

pub cells_alone : one_in alone (codes "cells") ≡ Some (Some (codes "100000"))
unfolding clap_on_literals digits
cells_alone = refl

pub port_alone : one_in alone (codes "server-port") ≡ Some (Some (codes "53"))
unfolding clap_on_literals digits
port_alone = refl

pub hints_alone : all_in alone (codes "HINT") ≡ Some None
unfolding clap_on_literals digits
hints_alone = refl

pub journal_given : one_in with_options (codes "journal") ≡ Some (Some (codes "7"))
unfolding clap_on_literals digits
journal_given = refl

pub hints_given : all_in with_options (codes "HINT") ≡ Some (Some (codes "192.0.2.1" ∷ []))
unfolding clap_on_literals digits
hints_given = refl

some_same : {X : Type 0} (a b : X) → Some a ≡ Some b → a ≡ b
some_same a b e = cc

-- the number under a name
pub number_is : (words : List Text) (name text : Text) (command : Text × List Row) (n : ℕ) → one_in words name ≡ Some (Some text)
    → subcommand_of resolver_app words ≡ Some command → GivesNumber command.1 name n → n ≡ digits_value 10 (without_leading_plus text)
number_is words name text command n literal is given =
    let here : one_of name command.1 ≡ Some text =
    some_same (one_of name command.1) (Some text) (sym (ap (λ (o : Option (Text × List Row)). option_map (λ p. one_of name p.1) o) is) ∙ literal) in
    let same : given.0 ≡ text = some_same given.0 text (sym given.1 ∙ here) in
    sym given.2.1 ∙ ap (λ (t : Text). digits_value 10 (without_leading_plus t)) same

-- the addresses under a name
pub addrs_are : (words : List Text) (name : Text) (texts : Option (List Text)) (command : Text × List Row) (addrs : List Addr) → all_in words name ≡ Some texts
    → subcommand_of resolver_app words ≡ Some command → GivesAddrs command.1 name addrs → map Some addrs ≡ map addr_in (unwrap_or texts [])
addrs_are words name texts command addrs literal is given =
    let here : all_of name command.1 ≡ texts =
    some_same (all_of name command.1) texts (sym (ap (λ (o : Option (Text × List Row)). option_map (λ p. all_of name p.1) o) is) ∙ literal) in
    sym given ∙ ap (λ (o : Option (List Text)). map addr_in (unwrap_or o [])) here

pub no_addrs_left : (addrs : List Addr) → map Some addrs ≡ [] → addrs ≡ []
no_addrs_left [] e = refl
no_addrs_left (addr ∷ addrs) e = cc
