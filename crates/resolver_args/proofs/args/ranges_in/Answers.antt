use Rattle.std.proofs.Common.{◌≡◌, Some, None, [], codes, map, rules}
use Rattle.std.specs.Prelude.{Any, IfErr}
use Rattle.std.proofs.lemmas.Result.{IfErr-weaker}
use Rattle.clap.specs.Walk.{all_of}
use Rattle.resolver_args.specs.Given.{AreRead, rows_in}
use Rattle.resolver_args.specs.Ranges.{range_in}
use Rattle.resolver_args.specs.Says.{RefusedFor}
use Rattle.resolver_args.proofs.Giving.{each_given, each_lacks, for_reason, none_given, texts_given}
use Rattle.resolver_args.proofs.args.ranges_in.Goals as goal

pub returns-in_err-ranges_of-in-Some-clause-fault : goal.returns-in_err-ranges_of-in-Some-clause-fault
returns-in_err-ranges_of-in-Some-clause-fault c =
    let texts = c.in-Some.texts.now in
    let all : all_of (codes "do-not-query") (rows_in c.args.found.now) ≡ Some (map (λ t. t.now) texts) =
    texts_given c.args.found.now (codes "do-not-query") (Some (map (λ t. t.now) texts)) c.in-Some.ensures in
    let told : IfErr c.from_residual.result (RefusedFor (Any (λ t. range_in t.now ≡ None) texts)) = search rules in
    IfErr-weaker c.from_residual.result _ _ (λ fault why. for_reason fault (each_lacks range_in (rows_in c.args.found.now) (codes "do-not-query") texts all) why) told

pub returns-in_ok-ranges_of-in-Some-clause-given : goal.returns-in_ok-ranges_of-in-Some-clause-given
returns-in_ok-ranges_of-in-Some-clause-given c =
    let texts = map (λ t. t.now) c.in-Some.texts.now in
    let all : all_of (codes "do-not-query") (rows_in c.args.found.now) ≡ Some texts = texts_given c.args.found.now (codes "do-not-query") (Some texts) c.in-Some.ensures in
    let are : AreRead range_in texts c.new.result = search rules in
    each_given range_in (rows_in c.args.found.now) (codes "do-not-query") texts c.new.result all are

pub returns-in-None-clause-given : goal.returns-in-None-clause-given
returns-in-None-clause-given c =
    let all : all_of (codes "do-not-query") (rows_in c.args.found.now) ≡ None = texts_given c.args.found.now (codes "do-not-query") None c.in-None.ensures in
    let empty : c.new-in-None-2.result ≡ [] = search rules in
    rw empty (none_given range_in (rows_in c.args.found.now) (codes "do-not-query") all)
