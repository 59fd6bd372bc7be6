use Rattle.std.proofs.Common.{◌≡◌, Some, None, [], codes, map, rules}
use Rattle.std.specs.Prelude.{Any, IfErr}
use Rattle.std.proofs.lemmas.Result.{IfErr-weaker}
use Rattle.clap.specs.Walk.{all_of}
use Rattle.dns_text.specs.Addr.{addr_in}
use Rattle.resolver_args.specs.Given.{AreAddrs, rows_in}
use Rattle.resolver_args.specs.Says.{RefusedFor}
use Rattle.resolver_args.proofs.Giving.{each_given, each_lacks, for_reason, none_given, texts_given}
use Rattle.resolver_args.proofs.args.hints_in.Goals as goal

pub returns-in_err-addrs_of-in-Some-clause-fault : goal.returns-in_err-addrs_of-in-Some-clause-fault
returns-in_err-addrs_of-in-Some-clause-fault c =
    let texts = c.in-Some.texts.now in
    let all : all_of (codes "HINT") (rows_in c.args.found.now) ≡ Some (map (λ t. t.now) texts) =
    texts_given c.args.found.now (codes "HINT") (Some (map (λ t. t.now) texts)) c.in-Some.ensures in
    let told : IfErr c.from_residual.result (RefusedFor (Any (λ t. addr_in t.now ≡ None) texts)) = search rules in
    IfErr-weaker c.from_residual.result _ _ (λ fault why. for_reason fault (each_lacks addr_in (rows_in c.args.found.now) (codes "HINT") texts all) why) told

pub returns-in_ok-addrs_of-in-Some-clause-given : goal.returns-in_ok-addrs_of-in-Some-clause-given
returns-in_ok-addrs_of-in-Some-clause-given c =
    let texts = map (λ t. t.now) c.in-Some.texts.now in
    let all : all_of (codes "HINT") (rows_in c.args.found.now) ≡ Some texts = texts_given c.args.found.now (codes "HINT") (Some texts) c.in-Some.ensures in
    let are : AreAddrs texts c.new.result = search rules in
    each_given addr_in (rows_in c.args.found.now) (codes "HINT") texts c.new.result all are

pub returns-in-None-clause-given : goal.returns-in-None-clause-given
returns-in-None-clause-given c =
    let all : all_of (codes "HINT") (rows_in c.args.found.now) ≡ None = texts_given c.args.found.now (codes "HINT") None c.in-None.ensures in
    let empty : c.new-in-None-2.result ≡ [] = search rules in
    rw empty (none_given addr_in (rows_in c.args.found.now) (codes "HINT") all)
