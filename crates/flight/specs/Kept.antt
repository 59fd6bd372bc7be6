-- What the steps of a question keep in memory: the steps themselves, the octets of responses and queries, and the finds and lists of servers.
use Rattle.std.specs.Prelude.{ℕ, ◌+◌, ◌*◌, ◌/◌, min, List, length, slice_index}
use Rattle.std.specs.List.{sum_by}
use Rattle.dns_name.specs.Labels.{wire_len}
use Rattle.history.specs.declared.event.Event.TheVariants.{Admit}
use Rattle.history.specs.declared.event.Reply.TheVariants.{Seen}
use Rattle.history.specs.declared.event.Seen.TheVariants.{Held, Servers as Named}
use Rattle.history.specs.declared.servers.Servers.{Servers}
use Rattle.iterate.specs.declared.want.Input.{Input}
use Rattle.iterate.specs.declared.want.Input.TheVariants.{Came, Reply}
use Rattle.iterate.specs.declared.want.Step.{Step}
use Rattle.iterate.specs.declared.want.Want.{Want}
use Rattle.iterate.specs.declared.want.Want.TheVariants.{Book, Send}
use Rattle.ranked.specs.Memory.{body_memory}
use Rattle.ranked.specs.declared.find.Find.{Find}
use Rattle.flight.specs.declared.kept.TheConstants.{ADDRESS_OCTETS, NAME_OCTETS, PIECE_OCTETS, RECORD_OCTETS, STEP_OCTETS}

-- what a find keeps: its own block and that of its list or SOA record, its owner, and its data
abbrev pub find_kept : Find → ℕ
find_kept find = 2 * PIECE_OCTETS + wire_len find.owner + body_memory find.body

-- what a list of servers keeps
abbrev pub list_kept : Servers → ℕ
list_kept list = PIECE_OCTETS + ADDRESS_OCTETS * length list.addrs + NAME_OCTETS * length list.missing

-- the count in the header of a message whose two octets are at this place (RFC 1035, section 4.1.1), but no more records than find room in the message
abbrev pub count_at : List ℕ → ℕ → ℕ
count_at message place = min (256 * slice_index message place + slice_index message (place + 1)) (length message / RECORD_OCTETS)

-- what a response keeps: its octets, the data of its answer section, which may be of a set that is not cached, and a list of the servers that its authority section may name, with the addresses that its additional section may have
abbrev pub response_kept : List ℕ → ℕ
response_kept octets = length octets + NAME_OCTETS * (count_at octets 6 + count_at octets 8) + ADDRESS_OCTETS * count_at octets 10

-- what an input keeps beside its step: a response, or the find or the list of servers that a lookup saw
abbrev pub input_kept : Input → ℕ
input_kept (Came octets allowance) = response_kept octets
input_kept (Reply (Seen (Held shown))) = find_kept shown.body
input_kept (Reply (Seen (Named list))) = list_kept list
input_kept _ = 0

-- what a want keeps beside its step: an admission keeps its find, and a query its octets
abbrev pub want_kept : Want → ℕ
want_kept (Book (Admit moment find)) = find_kept find
want_kept (Send server over query) = PIECE_OCTETS + length query
want_kept _ = 0

-- what a step keeps
abbrev pub step_kept : Step → ℕ
step_kept step = STEP_OCTETS + input_kept step.input + want_kept step.want

-- what the steps of a question keep
abbrev pub kept_in : List Step → ℕ
kept_in steps = sum_by step_kept steps
