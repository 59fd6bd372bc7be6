use Rattle.std.proofs.Common.{◌≡◌, Option, Some, None, refl, sym, ◌∙◌, ap, subst}
use Rattle.std.proofs.lemmas.Bool.{false≢true}
use Rattle.history.specs.declared.event.Seen.{Seen}
use Rattle.history.specs.declared.event.Settings.{Settings}
use Rattle.history.specs.History.{Past, past_of}
use Rattle.history.specs.Reply.{reply_of}
use Rattle.std.specs.Option.{option_map}
use Rattle.shared_book.specs.declared.told.Ahead.{Ahead}
use Rattle.shared_book.specs.Ahead.{seen_ahead, IsEcho}
use Rattle.shared_book.proofs.Echoes.{echoes}
use Rattle.shared_book.proofs.next_reply.tell.Goals as goal

abbrev seen_in : Option Ahead → Option Seen
seen_in ahead = option_map (λ a. a.seen) ahead

pub tell_seen-requires : goal.tell_seen-requires
tell_seen-requires g c = λ h stands.
    let settings : Settings = g.B.Book.settings c.args.book.now in
    let past : Past = past_of settings.journal h in
    let is : Some c.in-Some.ahead.seen ≡ seen_ahead settings past c.args.event = ap seen_in (sym c.in-Some.is) ∙ c.in-Ok.ensures.seen h stands in
    subst (λ (a : Option Seen). IsEcho (reply_of settings past c.args.event) a) (sym is) (echoes settings past c.args.event)

pub tell_silent-requires : goal.tell_silent-requires
tell_silent-requires g c =
    let h = c.requires.some.0 in
    let stands = c.requires.some.1 in
    let settings : Settings = g.B.Book.settings c.args.book.now in
    let past : Past = past_of settings.journal h in
    let is : None ≡ seen_ahead settings past c.args.event = ap seen_in (sym c.in-None.is) ∙ c.in-Ok.ensures.seen h stands in
    record { some = (h, stands, subst (λ (a : Option Seen). IsEcho (reply_of settings past c.args.event) a) (sym is) (echoes settings past c.args.event)) }

-- Of what is seen ahead, only a lookup's view takes memory.
pub returns-in-Err-clause-step : goal.returns-in-Err-clause-step
returns-in-Err-clause-step g c = record {
  answers = c.requires.timely;
  stands = λ h stands. stands;
  full = λ n is. cc;
  same_store = refl;
  same_settings = refl;
  by_limit = λ h stands admits. absurd (false≢true (c.in-Err.ensures.admission admits));
}
