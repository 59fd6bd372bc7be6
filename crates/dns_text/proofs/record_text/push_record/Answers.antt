use Rattle.std.proofs.Common.{◌<◌, arith}
use Rattle.std.proofs.lemmas.Result.{on_ok_weaker}
use Rattle.dns_text.proofs.RecordLaws.{record_again}
use Rattle.dns_text.proofs.record_text.push_record.Goals as goal

pub returns-clause-again : goal.returns-clause-again
returns-clause-again c =
    let r = c.args.r.now in
    let small : r.kind < 65536 = omega arith in
    on_ok_weaker c.push_data.result (λ again known. record_again r c.push_name.ensures.name small known c.seconds.ensures.range (again r.kind c.requires)) c.push_data.ensures.again
