use Rattle.std.proofs.Common.{◌∙◌, rules}
use Rattle.std.proofs.lemmas.Fn.{filter_same}
use Rattle.cell_store.proofs.empty.keep_counted.Goals as goal

pub returns-then-len-before : goal.returns-then-len-before
returns-then-len-before c = filter_same _ _ _ (λ x b f' k. search rules) _ _ c.retain.ensures.filtered

pub returns : goal.returns
returns c = c.shrink_to_fit.ensures.items ∙ filter_same _ _ _ (λ x b f' k. search rules) _ _ c.retain.ensures.filtered
