use Rattle.std.proofs.Common.{◌≡◌, ℕ, Option, Some, List, sym, ap, ◌∙◌}
use Rattle.std.specs.Option.{option_map}
use Rattle.std.specs.Borrow.{Bor}
use Rattle.dns_name.specs.Labels.{Labels}
use Rattle.history.specs.History.{Past}
use Rattle.history.specs.OldestFound.{oldest_in, oldest_of}
use Rattle.history.specs.OldestLaws.{oldest_only}
use Rattle.history.specs.SoonestLaws.{AreEndings, soonest_is}
use Rattle.undo_book.specs.declared.oldest.ScopeEnd.{ScopeEnd}
use Rattle.undo_book.specs.Ends.{ends_now, pairs_of}
use Rattle.undo_book.specs.PlainPast.{past_in}
use Rattle.undo_book.proofs.oldest.oldest.Goals as goal

-- the soonest of the ends that are known
found : (past : Past) (t : ℕ) (ends lent : List ScopeEnd) (name : Option Labels) → AreEndings past t (pairs_of (ends_now ends)) → lent ≡ ends → name ≡ oldest_in (pairs_of (ends_now lent)) → name ≡ oldest_of past t
found past t ends lent name are same is =
    is ∙ ap (λ (es : List ScopeEnd). oldest_in (pairs_of (ends_now es))) same
    ∙ oldest_only past t (oldest_in (pairs_of (ends_now ends))) (soonest_is past t (pairs_of (ends_now ends)) are)

pub returns-in-Some : goal.returns-in-Some
returns-in-Some c =
    ap Some c.in_ok-clone-in-Some.ensures
    ∙ sym (ap (λ (o : Option (Bor Labels)). option_map (λ name. name.now) o) c.in-Some.is)
    ∙ found (past_in c.args.past.now) c.args.moment c.in_ok-ends.ends.items c.deref.result.now _ c.in_ok-ends.ensures c.deref.ensures.value c.soonest.ensures

pub returns : goal.returns
returns c =
    sym (ap (λ (o : Option (Bor Labels)). option_map (λ name. name.now) o) c.in-None.is)
    ∙ found (past_in c.args.past.now) c.args.moment c.in_ok-ends.ends.items c.deref.result.now _ c.in_ok-ends.ensures c.deref.ensures.value c.soonest.ensures
