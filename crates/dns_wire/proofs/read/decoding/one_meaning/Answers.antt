use Rattle.dns_wire.proofs.MessageLaws.{spelled_or_fails, never_both, spelled_once, fails_once}
use Rattle.dns_wire.proofs.read.decoding.one_meaning.Goals as goal

pub returns-clause-either : goal.returns-clause-either
returns-clause-either c = spelled_or_fails

pub returns-clause-never_both : goal.returns-clause-never_both
returns-clause-never_both c = never_both

pub returns-clause-message : goal.returns-clause-message
returns-clause-message c = spelled_once

pub returns-clause-fault : goal.returns-clause-fault
returns-clause-fault c = fails_once
