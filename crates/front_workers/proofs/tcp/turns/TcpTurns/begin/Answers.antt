use Rattle.std.proofs.Common.{[], ◌∷◌, Some, refl, arith, rules}
use Rattle.replies.specs.Reply.{fault_octets}
use Rattle.flight.proofs.Settling.{accounted_settled}
use Rattle.front_workers.proofs.Accounting.{keeps_still, latest_begun, time_at}
use Rattle.front_workers.proofs.Outboxes.{asking_kept, ends_of}
use Rattle.front_workers.proofs.Flowing.{accounts_one}
use Rattle.front_workers.proofs.tcp.turns.TcpTurns.begin.Goals as goal
use Rattle.front_workers.proofs.tcp.turns.TcpTurns.begin.Goals.{then-octets-gt-MOST_DATAGRAM+then-is_dear+then-wants_reply, else-octets-gt-MOST_DATAGRAM}

pub returns : goal.returns
returns g c =
    elim c.if-octets-gt-MOST_DATAGRAM.branch [
      | then-octets-gt-MOST_DATAGRAM+then-is_dear+then-wants_reply w ↦ rw (w.questions-is, w.self-inside-is) (rw (← c.self.view_is) (record {
        ends = record {
          counted = search rules;
          ends = record { ends = (record { client = c.args.client; octets = c.args.octets.now; own = c.requires; reply = Some (fault_octets c.args.octets.now 2) }) ∷ []; left = (_, w.refuse_dear.ensures.posts, refl); count = omega arith };
          own = (refl, tt);
          accounts = accounts_one _ _ _ _ _ _ (search rules) (accounted_settled _ _ _ w.refuse_dear.ensures.settled);
          keeps = keeps_still _ _ _ refl w.refuse_dear.ensures.asks (omega arith);
        };
        reported = refl;
      }))
      | else-octets-gt-MOST_DATAGRAM w ↦ rw (w.questions-is, w.self-inside-is) (rw (← c.self.view_is) (record {
        ends = record {
          counted = search rules;
          ends = ends_of w.begin.ensures.settles.ends;
          own = w.begin.ensures.settles.own;
          accounts = accounts_one _ _ _ _ _ _ (search rules) w.begin.ensures.settles.accounted;
          keeps = record {
            within = w.begin.ensures.settles.within;
            bounded = w.begin.ensures.settles.bounded;
            limit = w.begin.ensures.settles.limit;
            failures = refl;
            time = time_at c.last_millis-now.result c.args.questions.now w.begin.new.self c.self.inside.clock (omega (arith, c.last_millis-now.ensures))
                (latest_begun c.last_millis-now.result _ c.args.questions.now w.begin.new.self w.begin.ensures.settles.waits);
            asking = asking_kept w.begin.ensures.settles.ends;
          };
        };
        reported = refl;
      }))
    ]
