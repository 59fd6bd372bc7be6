-- Histories that grow by one event.
use Rattle.std.proofs.Common.{◌≡◌, List, [], ◌∷◌, ◌++◌, sym, ◌∙◌, ap, append_assoc}
use Rattle.std.proofs.lemmas.List.{append-nil}
use Rattle.history.specs.declared.event.Event.{Event}
use Rattle.history.specs.declared.event.Reply.{Reply}
use Rattle.history.specs.declared.event.Settings.{Settings}
use Rattle.history.specs.History.{past_of}
use Rattle.history.specs.Reply.{reply_of, replies_of}

-- the reply to one event more comes last
pub replies_of-push : (settings : Settings) (history events : List Event) (event : Event)
    → replies_of settings history (events ++ event ∷ []) ≡ replies_of settings history events ++ reply_of settings (past_of settings.journal (history ++ events)) event ∷ []
replies_of-push settings history [] event = ap (λ (h : List Event). reply_of settings (past_of settings.journal h) event ∷ []) (sym (append-nil history))
replies_of-push settings history (e ∷ events) event =
    ap (λ (rs : List Reply). reply_of settings (past_of settings.journal history) e ∷ rs)
    (replies_of-push settings (history ++ e ∷ []) events event
    ∙ ap (λ (h : List Event). replies_of settings (history ++ e ∷ []) events ++ reply_of settings (past_of settings.journal h) event ∷ []) (append_assoc history (e ∷ []) events))
