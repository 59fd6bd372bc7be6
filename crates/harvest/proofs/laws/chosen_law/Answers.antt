use Rattle.std.specs.List.{filter}
use Rattle.harvest.specs.Chosen.{is_first, is_small, servers_in}
use Rattle.harvest.proofs.ChosenLaws.{chosen_all, chosen_first, finds_few, finds_little, finds_order, finds_small}
use Rattle.harvest.proofs.laws.chosen_law.Goals as goal

pub returns-clause-order : goal.returns-clause-order
returns-clause-order c = finds_order

pub returns-clause-few : goal.returns-clause-few
returns-clause-few c = finds_few

pub returns-clause-small : goal.returns-clause-small
returns-clause-small c = finds_small

pub returns-clause-little : goal.returns-clause-little
returns-clause-little c = finds_little

pub returns-clause-all : goal.returns-clause-all
returns-clause-all c = λ finds few. chosen_all (is_first (servers_in finds)) (filter is_small finds) few

pub returns-clause-first : goal.returns-clause-first
returns-clause-first c = λ finds few. chosen_first (is_first (servers_in finds)) (filter is_small finds) few
