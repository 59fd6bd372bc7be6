-- The values of `==`.
use Rattle.std.specs.Prelude.{Bool}
use Rattle.history.specs.declared.servers.Servers.{Servers}
use Rattle.history.specs.declared.servers.Origin.{Origin}
use Rattle.history.specs.declared.event.Ask.{Ask}
use Rattle.history.specs.declared.event.Move.{Move}
use Rattle.history.specs.declared.event.Refusal.{Refusal}
use Rattle.history.specs.declared.event.Command.{Command}
use Rattle.history.specs.declared.event.BuriedCommand.{BuriedCommand}
use Rattle.history.specs.declared.event.Journalled.{Journalled}
use Rattle.history.specs.declared.event.Event.{Event}
use Rattle.history.specs.declared.event.Seen.{Seen}
use Rattle.history.specs.declared.event.Reason.{Reason}
use Rattle.history.specs.declared.event.Reply.{Reply}
use Rattle.history.specs.contracts.servers.ServersPartialEq.TheImpl as servers_impl
use Rattle.history.specs.contracts.servers.OriginPartialEq.TheImpl as source_impl
use Rattle.history.specs.contracts.event.AskPartialEq.TheImpl as ask_impl
use Rattle.history.specs.contracts.event.MovePartialEq.TheImpl as move_impl
use Rattle.history.specs.contracts.event.RefusalPartialEq.TheImpl as refusal_impl
use Rattle.history.specs.contracts.event.CommandPartialEq.TheImpl as command_impl
use Rattle.history.specs.contracts.event.JournalledPartialEq.TheImpl as journalled_impl
use Rattle.history.specs.contracts.event.BuriedCommandPartialEq.TheImpl as buried_impl
use Rattle.history.specs.contracts.event.EventPartialEq.TheImpl as event_impl
use Rattle.history.specs.contracts.event.SeenPartialEq.TheImpl as seen_impl
use Rattle.history.specs.contracts.event.ReasonPartialEq.TheImpl as reason_impl
use Rattle.history.specs.contracts.event.ReplyPartialEq.TheImpl as reply_impl

-- whether `==` calls two moves equal
abbrev pub move_eq : Move → Move → Bool
move_eq a b = move_impl.ghosts.eq a b

-- whether `==` calls two refusals equal
abbrev pub refusal_eq : Refusal → Refusal → Bool
refusal_eq a b = refusal_impl.ghosts.eq a b

-- whether `==` calls two questions of a look equal
abbrev pub ask_eq : Ask → Ask → Bool
ask_eq a b = ask_impl.ghosts.eq a b

-- whether `==` calls two commands equal
abbrev pub command_eq : Command → Command → Bool
command_eq a b = command_impl.ghosts.eq a b

-- whether `==` calls two commands of the journal equal
abbrev pub journalled_eq : Journalled → Journalled → Bool
journalled_eq a b = journalled_impl.ghosts.eq a b

-- whether `==` calls two buried commands equal
abbrev pub buried_eq : BuriedCommand → BuriedCommand → Bool
buried_eq a b = buried_impl.ghosts.eq a b

-- whether `==` calls two events equal
abbrev pub event_eq : Event → Event → Bool
event_eq a b = event_impl.ghosts.eq a b

-- whether `==` calls what two looks see equal
abbrev pub seen_eq : Seen → Seen → Bool
seen_eq a b = seen_impl.ghosts.eq a b

-- whether `==` calls two reasons equal
abbrev pub reason_eq : Reason → Reason → Bool
reason_eq a b = reason_impl.ghosts.eq a b

-- whether `==` calls two replies equal
abbrev pub reply_eq : Reply → Reply → Bool
reply_eq a b = reply_impl.ghosts.eq a b

-- whether `==` calls two origins of servers equal
abbrev pub source_eq : Origin → Origin → Bool
source_eq a b = source_impl.ghosts.eq a b

-- whether `==` calls two lists of servers equal
abbrev pub servers_eq : Servers → Servers → Bool
servers_eq a b = servers_impl.ghosts.eq a b
