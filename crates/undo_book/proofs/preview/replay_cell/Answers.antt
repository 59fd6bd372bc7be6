use Rattle.std.proofs.Common.{◌≡◌, ℕ, ◌+◌, ◌<◌, ◌≤◌, Bool, Option, None, List, [], ◌∷◌, ◌++◌, length, get_or, take, sym, subst, ◌∙◌, ap}
use Rattle.std.specs.Prelude.{fold}
use Rattle.std.proofs.lemmas.List.{take_all, take_more}
use Rattle.std.proofs.lemmas.List.Sums.{fold_push}
use Rattle.dns_text.specs.declared.record.Question.{Question}
use Rattle.ranked.specs.declared.cell.Admitted.{Admitted}
use Rattle.ranked.specs.declared.find.Find.{Find}
use Rattle.undo_book.specs.declared.log.Logged.{Logged}
use Rattle.undo_book.specs.Plain.{cell_after_logged, question_of, with_flag}
use Rattle.undo_book.specs.Preview.{cell_after_flagged}
use Rattle.undo_book.proofs.preview.replay_cell.Goals as goal

-- with one entry more
with_next : (q : Question) (ticket : ℕ) (turned flag : Bool) (log items : List Logged) (i : ℕ) (l : Logged) (before after : Option (Admitted Find))
    → items ≡ log → i < length items → l ≡ get_or items i l → flag ≡ (with_flag ticket turned l).struck → before ≡ fold (cell_after_flagged q ticket turned) None (take i log)
    → after ≡ cell_after_logged q before (record { entry = l.entry; struck = flag }) → after ≡ fold (cell_after_flagged q ticket turned) None (take (i + 1) log)
with_next q ticket turned flag log items i l before after are within is told known next =
    let within' : i < length log = rw are at within in
    let is' : l ≡ get_or log i l = rw are at is in
    let more : take (i + 1) log ≡ take i log ++ l ∷ [] = take_more log i l within' ∙ ap (λ (x : Logged). take i log ++ x ∷ []) (sym is') in
    next
    ∙ ap (λ (b : Bool). cell_after_logged q before (record { entry = l.entry; struck = b })) told
    ∙ ap (λ (cell : Option (Admitted Find)). cell_after_flagged q ticket turned cell l) known
    ∙ sym (fold_push (cell_after_flagged q ticket turned) None (take i log) l)
    ∙ sym (ap (λ (ls : List Logged). fold (cell_after_flagged q ticket turned) None ls) more)

pub loop-logged-preserved : goal.loop-logged-preserved
loop-logged-preserved c =
    with_next (question_of c.args.owner.now c.args.kind) c.args.ticket c.args.struck _ c.args.log.now.items _ c.loop-logged.logged-index c.logged-item.result
    _ _ c.deref-logged-items.ensures.value c.loop-logged-test.true c.logged-item.is c.flag_with-flag.ensures c.loop-logged.invariant c.replay_entry-cell.ensures

pub returns : goal.returns
returns c =
    let ended = subst (λ (l : List Logged). length l ≤ c.loop-logged.logged-index) c.deref-logged-items.ensures.value c.loop-logged-test.false in
    c.loop-logged.invariant
    ∙ ap (λ (l : List Logged). fold (cell_after_flagged (question_of c.args.owner.now c.args.kind) c.args.ticket c.args.struck) None l) (take_all c.loop-logged.logged-index c.args.log.now.items ended)
