-- What a command becomes as arguments are added to it.
use Rattle.std.proofs.Common.{◌≡◌, ◌∙◌, ◌++◌, ◌∷◌, ◌||◌, [], List, Bool, false, ap, rules, append_assoc, Option, Some, None}
use Rattle.std.specs.Prelude.{IsSomeAnd}
use Rattle.clap.specs.Built.{AddsArg}
use Rattle.clap.specs.Simple.{App, app_of, new_rule, on_top, with_rule}
use Rattle.clap.specs.Walk.{Rule, Text, rule_of}
use Rattle.clap.specs.declared.builder.action.ArgAction.TheVariants.{Append}
use Rattle.clap.specs.declared.builder.arg.Arg.{Arg}
use Rattle.clap.specs.declared.builder.command.Command.{Command}
use Rattle.clap.specs.declared.builder.range.ValueRange.{ValueRange}
use Rattle.clap.specs.declared.builder.command.Command.TheViews.{out-Command as fields_of}
use Rattle.resolver_args.specs.CommandLine.{AddsRules, any_number, words_rule}

with_rules : (app : App) (r s : List Rule) → on_top (λ t. record t { rules = t.rules ++ s }) (on_top (λ t. record t { rules = t.rules ++ r }) app)
    ≡ on_top (λ t. record t { rules = t.rules ++ (r ++ s) }) app
with_rules app r s = ap (λ (rules : List Rule). on_top (λ t. record t { rules = rules }) app) (append_assoc app.top.rules r s)

pub one_added : (old new : Command) (a : Arg) (r : Rule) → AddsArg old a new → a.global ≡ false → rule_of a ≡ r → AddsRules old (r ∷ []) new
one_added old new a r added local is = record {
  app = added.shape local ∙ ap (with_rule (app_of old)) is;
  globals = added.globals ∙ (ap (λ (b : Bool). (fields_of old).has_globals || b) local ∙ or_false (fields_of old).has_globals);
}
  where
    or_false : (b : Bool) → (b || false) ≡ b
    or_false b = search rules

-- what two steps add, one adds
pub both_added : (old mid new : Command) (r s : List Rule) → AddsRules old r mid → AddsRules mid s new → AddsRules old (r ++ s) new
both_added old mid new r s first second = record {
  app = second.app ∙ (ap (on_top (λ t. record t { rules = t.rules ++ s })) first.app ∙ with_rules (app_of old) r s);
  globals = second.globals ∙ first.globals;
}

pub two_added : (old mid new : Command) (a b : Arg) (r s : Rule) → AddsArg old a mid → AddsArg mid b new
    → a.global ≡ false → b.global ≡ false → rule_of a ≡ r → rule_of b ≡ s → AddsRules old (r ∷ s ∷ []) new
two_added old mid new a b r s first second a_local b_local a_is b_is =
    both_added old mid new (r ∷ []) (s ∷ []) (one_added old mid a r first a_local a_is) (one_added mid new b s second b_local b_is)

pub three_added : (old mid late new : Command) (a b d : Arg) (r s t : Rule) → AddsArg old a mid → AddsArg mid b late → AddsArg late d new
    → a.global ≡ false → b.global ≡ false → d.global ≡ false → rule_of a ≡ r → rule_of b ≡ s → rule_of d ≡ t → AddsRules old (r ∷ s ∷ t ∷ []) new
three_added old mid late new a b d r s t first second third a_local b_local d_local a_is b_is d_is =
    both_added old late new (r ∷ s ∷ []) (t ∷ []) (two_added old mid late a b r s first second a_local b_local a_is b_is)
    (one_added late new d t third d_local d_is)

is_any : (n : Option ValueRange) → IsSomeAnd n (λ range. range ≡ any_number) → n ≡ Some any_number
is_any None is = absurd is
is_any (Some range) is = ap Some is

-- An argument that takes any number of words.
pub words_are : (a b : Arg) (name : Text) → rule_of a ≡ record (new_rule name) { action = Some Append } → b ≡ record a { num_vals = b.num_vals }
    → IsSomeAnd b.num_vals (λ range. range ≡ any_number) → rule_of b ≡ words_rule name
words_are a b name is others range =
    ap rule_of others ∙ (ap (λ (n : Option ValueRange). record (rule_of a) { range = n }) (is_any b.num_vals range)
    ∙ ap (λ (rule : Rule). record rule { range = Some any_number }) is)
