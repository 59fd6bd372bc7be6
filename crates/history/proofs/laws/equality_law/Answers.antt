use Rattle.history.specs.EqualLaws.{event_eq_exact, reply_eq_exact, event_eq_itself, reply_eq_itself}
use Rattle.history.proofs.laws.equality_law.Goals as goal

pub returns-clause-events_exact : goal.returns-clause-events_exact
returns-clause-events_exact c = event_eq_exact

pub returns-clause-replies_exact : goal.returns-clause-replies_exact
returns-clause-replies_exact c = reply_eq_exact

pub returns-clause-event_itself : goal.returns-clause-event_itself
returns-clause-event_itself c = event_eq_itself

pub returns-clause-reply_itself : goal.returns-clause-reply_itself
returns-clause-reply_itself c = reply_eq_itself
