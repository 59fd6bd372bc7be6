use Rattle.std.proofs.Common.{◌≡◌, ◌⊎◌, [], None, rules}
use Rattle.std.specs.Prelude.{IfErr, slice_index_or}
use Rattle.std.proofs.lemmas.List.{get_or_default}
use Rattle.std.proofs.lemmas.Result.{IfErr-weaker}
use Rattle.std.specs.Borrow.{Bor}
use Rattle.clap.specs.Walk.{Text}
use Rattle.resolver_args.specs.Blame.{BlamesRange}
use Rattle.resolver_args.specs.Ranges.{range_in}
use Rattle.resolver_args.specs.declared.fault.ArgsFault.TheVariants.{NoMemory}
use Rattle.resolver_args.proofs.Giving.{range_refuses}
use Rattle.resolver_args.proofs.range.ranges_of.Goals as goal

abbrev nowhere : Bor Text
nowhere = record { ref_ptr = (0, 0); now = [] }

pub returns-in_err-range-clause-fault : goal.returns-in_err-range-clause-fault
returns-in_err-range-clause-fault c =
    let words = c.args.words.now in
    let k = c.loop-word.word-index in
    let word : Bor Text = slice_index_or words k nowhere in
    let told : IfErr c.from_residual.result (λ fault. (fault ≡ NoMemory) ⊎ ((range_in word.now ≡ None) × BlamesRange c.args.name.now word.now fault)) = search rules in
    IfErr-weaker c.from_residual.result _ _
    (λ fault why. range_refuses c.args.name.now word.now fault
    (λ none. (k, word, c.loop-word-test.true, get_or_default words k word nowhere c.loop-word-test.true, none)) why) told
