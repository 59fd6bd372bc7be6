use Rattle.std.proofs.Common.{◌++◌, sym}
use Rattle.std.specs.Option.{option_to_list}
use Rattle.replies.proofs.Parts.{part_none}
use Rattle.replies.proofs.lending.AnswerSectionSection.record_count.Goals as goal

pub returns-in-None : goal.returns-in-None
returns-in-None c =
    let set = c.args.self.now in
    rw (part_none (set.aliases.now ++ option_to_list set.last.now) c.args.part (sym c.in-None.ensures))
