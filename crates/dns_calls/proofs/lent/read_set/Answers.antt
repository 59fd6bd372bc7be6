use Rattle.std.proofs.Common.{List, sym, subst}
use Rattle.std.specs.List.{AllByRecursion}
use Rattle.dns_name.specs.ListLaws.{all_push}
use Rattle.dns_text.specs.declared.record.Data.{Data}
use Rattle.dns_text.specs.Data.{HasForm}
use Rattle.dns_calls.proofs.lent.read_set.Goals as goal

pub loop-text-preserved : goal.loop-text-preserved
loop-text-preserved c = record {
  formed = subst (λ (l : List Data). AllByRecursion (HasForm c.args.kind) l) (sym c.in_ok-push.ensures.items) (all_push (HasForm c.args.kind) c.loop-text.data.items _ c.loop-text.invariant.formed c.in_ok-read_data.ensures.form);
}
