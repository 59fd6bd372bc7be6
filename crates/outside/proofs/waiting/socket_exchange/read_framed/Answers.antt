use Rattle.std.proofs.Common.{◌≡◌, ◌∙◌, [], ℕ, List, Option, take, subst, sym, ap}
use Rattle.std.specs.Io.{appended_bytes}
use Rattle.std.specs.Io.KnownBytes.{Consumes}
use Rattle.replies.specs.Framing.{framed}
use Rattle.outside.proofs.waiting.socket_exchange.read_framed.Goals as goal

read_whole : (u v : Option (List ℕ)) (old new message copy : List ℕ) → old ≡ [] → Consumes u v (appended_bytes old new) → new ≡ framed message
    → copy ≡ message → Consumes u v (framed copy)
read_whole u v old new message copy none read whole same =
    let since : appended_bytes old new ≡ new = ap (λ (o : List ℕ). appended_bytes o new) none in
    subst (λ (octets : List ℕ). Consumes u v octets) (since ∙ whole ∙ ap (λ (m : List ℕ). framed m) (sym same)) read

pub returns-in-Some-clause-came : goal.returns-in-Some-clause-came
returns-in-Some-clause-came g c =
    read_whole (g.S.Read.remaining c.args.stream.now) (g.S.Read.remaining c.read_on.new.stream)
    c.new-reply.result.octets.items c.read_on.new.reply.octets.items c.in-Some.message.now (take c.copy_front.result c.copy_front.new.room)
    c.new-reply.ensures.octets c.in_ok-read_on.ensures.read c.in-Some.ensures.message c.copy_front.ensures.copied
