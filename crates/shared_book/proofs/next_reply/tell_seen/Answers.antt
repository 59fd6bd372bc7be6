use Rattle.std.proofs.Common.{sym}
use Rattle.shared_book.proofs.next_reply.tell_seen.Goals as goal

pub returns-in-Ok-clause-step : goal.returns-in-Ok-clause-step
returns-in-Ok-clause-step g c = record {
  answers = λ h stands. (c.in-Ok.ensures.answers h stands, sym (c.requires h stands));
  stands = c.in-Ok.ensures.stands;
  full = λ n is. cc;
  same_store = tt;
  same_settings = c.follow.ensures.settings;
  by_limit = tt;
}
