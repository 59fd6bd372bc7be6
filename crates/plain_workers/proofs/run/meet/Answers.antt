use Rattle.std.proofs.Common.{◌≡◌, sym, ◌∙◌}
use Rattle.plain_workers.specs.Leads.{replied, refused, came, failed}
use Rattle.plain_workers.specs.Turning.{lacks}
use Rattle.plain_workers.proofs.run.meet.Goals as goal

pub returns-in-Ok-clause-turns : goal.returns-in-Ok-clause-turns
returns-in-Ok-clause-turns g c = rw c.in-Book.is (replied c.in-Ok.ensures)

pub returns-in-Book-clause-turns : goal.returns-in-Book-clause-turns
returns-in-Book-clause-turns g c = rw c.in-Book.is (refused c.in-Err.ensures)

pub returns-in-Ok-ask-clause-turns : goal.returns-in-Ok-ask-clause-turns
returns-in-Ok-ask-clause-turns g c =
    let sent = c.as_slice.ensures ∙ c.get.ensures in
    rw (c.in-Send.is, sym sent) (came c.in-Ok-ask.ensures.asked)

pub returns-in-Err-Device-clause-turns : goal.returns-in-Err-Device-clause-turns
returns-in-Err-Device-clause-turns g c =
    let sent = c.as_slice.ensures ∙ c.get.ensures in
    rw (c.in-Send.is, sym sent) (failed (rw c.in-Err-Device.field-0-is at c.in-Err-Device.ensures.asked))

pub returns-in-Send-clause-lacks : goal.returns-in-Send-clause-lacks
returns-in-Send-clause-lacks g c =
    let sent = c.as_slice.ensures ∙ c.get.ensures in
    rw (c.in-Send.is, sym sent) (lacks (rw c.in-Err-NoMemory.field-0-is at c.in-Err-NoMemory.ensures.asked))
