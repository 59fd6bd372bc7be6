use Rattle.std.proofs.Common.{ap, refl}
use Rattle.history.specs.declared.event.Ask.{Ask}
use Rattle.history.specs.declared.event.Event.TheVariants.{Look}
use Rattle.iterate.specs.declared.want.Want.TheVariants.{Book}
use Rattle.iterate.proofs.Asking.{seeking}
use Rattle.iterate.proofs.PathTurns.{turned}
use Rattle.iterate.proofs.seeking.seek.Goals as goal

pub returns-clause-goes : goal.returns-clause-goes
returns-clause-goes c = λ port ids left question log s less.
    turned refl (ap (λ (ask : Ask). Book (Look c.args.moment ask)) c.in_ok-ask.ensures)
    (seeking port question log c.args.moment ids left c.args.search c.args.target c.args.stage s less c.in_ok-new.field-0 c.in_ok-new.ensures.ok)
