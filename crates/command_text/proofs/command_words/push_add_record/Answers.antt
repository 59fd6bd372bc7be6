use Rattle.std.proofs.Common.{◌++◌, List, ℕ, ap, ◌∙◌}
use Rattle.std.proofs.lemmas.Result.{on_ok_weaker}
use Rattle.dns_text.specs.Record.{record_text}
use Rattle.command_text.proofs.command_words.push_add_record.Goals as goal

pub returns : goal.returns
returns c =
    on_ok_weaker c.push_record.result (λ e. e ∙ ap (λ (x : List ℕ). x ++ record_text c.args.r.now) c.in_ok-extend_from_slice.ensures.items) c.push_record.ensures
