-- The name whose servers are asked about a question.
use Rattle.std.specs.Prelude.{◌==◌, unwrap_or, if◌then◌else◌}
use Rattle.dns_name.specs.Labels.{Labels, parent_of}
use Rattle.dns_text.specs.declared.record.Question.{Question}
use Rattle.iterate.specs.declared.served.TheConstants.{DS}

-- A DS record is data of the zone above its owner, so servers of the name above are asked for it (RFC 4035, section 3.1.4.1).
-- About all else those of the name itself are asked. The root has no name above it.
abbrev pub served_name : Question → Labels
served_name question = (if question.kind == DS then unwrap_or (parent_of question.owner) question.owner else question.owner)
