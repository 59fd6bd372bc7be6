use Rattle.std.proofs.Common.{suc, ◌∷◌, drop, sym, ap, ◌∙◌, arith}
use Rattle.dns_name.specs.Labels.{Labels}
use Rattle.std.proofs.Math.Seq.{drop-cons}
use Rattle.iterate.proofs.search.name_at.Goals as goal

pub returns-then-place-names : goal.returns-then-place-names
returns-then-place-names c = (
  drop (suc c.args.place) c.args.names.now,
  drop-cons c.args.names.now c.args.place c.index-names-place.result (omega arith) ∙ ap (λ (n : Labels). n ∷ drop (suc c.args.place) c.args.names.now) (sym c.index-names-place.is),
)
