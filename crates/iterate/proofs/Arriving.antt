-- A task comes to a name, and sends no query for it before it looks for its servers.
use Rattle.std.proofs.Common.{◌≡◌, ℕ, List, [], ◌∷◌, ◌++◌, sym, ap, ◌∙◌, subst, refl, append_assoc, false}
use Rattle.dns_name.specs.Labels.{Labels}
use Rattle.dns_text.specs.declared.record.Question.{Question}
use Rattle.history.specs.declared.event.Ask.TheVariants.{Answer as Asked}
use Rattle.history.specs.declared.event.Event.TheVariants.{Look}
use Rattle.history.specs.declared.event.Reply.TheVariants.{Seen}
use Rattle.history.specs.declared.event.Seen.TheVariants.{Unknown}
use Rattle.history.specs.declared.servers.Servers.{Servers}
use Rattle.iterate.specs.declared.answer.AnswerSet.{AnswerSet}
use Rattle.iterate.specs.declared.path.Path.{Path}
use Rattle.iterate.specs.declared.want.Input.TheVariants.{Reply}
use Rattle.iterate.specs.declared.want.Want.TheVariants.{Book}
use Rattle.iterate.specs.Come.{GaveAlias, HasCome}
use Rattle.iterate.specs.Exchanges.{Exchange, exchange, Adds, AreQuiet, is_send}
use Rattle.iterate.specs.Known.{Known, WasUnknown, IsUnknownYet}
use Rattle.iterate.specs.Resolved.{ReachedFor}
use Rattle.iterate.specs.Searching.{IsUnasked, IsBehind}
use Rattle.iterate.proofs.Growing.{allowed_more, happened_last, path_more, askable_more}
use Rattle.iterate.proofs.Once.{nothing_sent, quiet_more}

-- ---- with one exchange more that is no query

gave_more : {log after : List Exchange} {y : Exchange} {question : Question} {told : AnswerSet} → GaveAlias log question told → Adds log y after → is_send y ≡ false → GaveAlias after question told
gave_more {y = y} g a is = record {
  zone = g.zone;
  message = g.message;
  allowance = g.allowance;
  was_allowed = allowed_more g.was_allowed a;
  quiet = quiet_more g.was_allowed.came.after y g.quiet is;
  given = g.given;
}

pub come_more : {port : ℕ} {question : Question} {log after : List Exchange} {y : Exchange} {name : Labels} → HasCome port question log name → Adds log y after → is_send y ≡ false → HasCome port question after name
come_more {log = log} {y = y} (HasCome.begun quiet) a is = HasCome.begun (subst (λ (l : List Exchange). AreQuiet l) (sym a.adds) (quiet_more log y quiet is))
come_more (HasCome.along come known target) a is = HasCome.along (come_more come a is) (Known.kept a known) target
come_more (HasCome.answered gave target) a is = HasCome.answered (gave_more gave a is) target

pub unasked_more : {port : ℕ} {question : Question} {log after : List Exchange} {y : Exchange} {path : Path} → IsUnasked port question log path → Adds log y after → is_send y ≡ false → IsUnasked port question after path
unasked_more u a is = record { askable = askable_more u.askable a is; come = come_more u.come a is }

-- ---- the path

-- It begins at the name asked.
pub first_come : {port m : ℕ} {question : Question} {log : List Exchange} (path : Path) → Adds [] (exchange (Book (Look m (Asked question))) (Reply (Seen Unknown))) log → path.last ≡ question
    → HasCome port question log path.last.owner
first_come {port} {m} {question} {log} path adds last =
    subst (λ (q : Question). HasCome port question log q.owner) (sym last)
    (HasCome.begun (subst (λ (l : List Exchange). AreQuiet l) (sym adds.adds) (quiet_more [] (exchange (Book (Look m (Asked question))) (Reply (Seen Unknown))) nothing_sent refl)))

-- The look at the last question found nothing.
pub unasked_looked : {port m : ℕ} {question : Question} {before log : List Exchange} {path : Path} → IsBehind port question before path
    → Adds before (exchange (Book (Look m (Asked path.last))) (Reply (Seen Unknown))) log → IsUnasked port question log path
unasked_looked {m = m} b a = record {
  askable = record { is_path = path_more b.is_path a refl; unknown = record { moment = m; looked = happened_last a } };
  come = come_more b.come a refl;
}

-- ---- a question that a look did not find

pub was_unknown : {log : List Exchange} {question : Question} → IsUnknownYet log question → WasUnknown log question
was_unknown u = record { moment = u.moment; looked = record { before = u.before; after = u.since; split = u.looked } }

pub yet_now : {m : ℕ} {before log : List Exchange} {question : Question} → Adds before (exchange (Book (Look m (Asked question))) (Reply (Seen Unknown))) log → IsUnknownYet log question
yet_now {m} {before} a = record { moment = m; before = before; since = []; looked = a.adds; quiet = nothing_sent }

pub yet_more : {log after : List Exchange} {y : Exchange} {question : Question} → IsUnknownYet log question → Adds log y after → is_send y ≡ false → IsUnknownYet after question
yet_more {y = y} u a is = record {
  moment = u.moment;
  before = u.before;
  since = u.since ++ y ∷ [];
  looked = a.adds ∙ ap (λ (xs : List Exchange). xs ++ y ∷ []) u.looked ∙ append_assoc u.before (_ ∷ u.since) (y ∷ []);
  quiet = quiet_more u.since y u.quiet is;
}

yet_behind : {log since : List Exchange} {question : Question} (before : List Exchange) (x : Exchange) → log ≡ before ++ x ∷ since → IsUnknownYet since question → IsUnknownYet log question
yet_behind before x split u = record {
  moment = u.moment;
  before = before ++ x ∷ u.before;
  since = u.since;
  looked = split ∙ ap (λ (xs : List Exchange). before ++ x ∷ xs) u.looked ∙ sym (append_assoc before (x ∷ u.before) (_ ∷ u.since));
  quiet = u.quiet;
}

pub yet_since : {port : ℕ} {log since : List Exchange} {question other : Question} {servers : Servers} → ReachedFor port log question servers since → IsUnknownYet since other → IsUnknownYet log other
yet_since (ReachedFor.by_book before moment split) u = yet_behind before _ split u
yet_since (ReachedFor.by_referral before upto server over bytes octets allowance split came known refers are) u = yet_behind before _ split u
