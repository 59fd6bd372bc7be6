use Rattle.std.proofs.Common.{◌≡◌, ◌∙◌, ℕ, Bool, true, false, List, length, sym, ap, subst, arith}
use Rattle.std.proofs.lemmas.Bool.{false≢true}
use Rattle.std.proofs.lemmas.Grind.{common_steps}
use Rattle.dns_text.specs.declared.record.Question.{Question}
use Rattle.shelf.specs.declared.settling.Settling.{Settling}
use Rattle.shelf.specs.declared.shelf.KeptFlush.{KeptFlush}
use Rattle.shelf.specs.declared.shelf.Shelf.{Shelf}
use Rattle.shelf.specs.Kept.{stands_first}
use Rattle.shelf.specs.Settling.{reached_at_once, HaveEnded, HaveStepped}
use Rattle.shelf.specs.Told.{cell_at, chosen_version, face_of}
use Rattle.shelf.proofs.KeptLaws.{cleared_settled, oldest_kept, oldest_same, oldest_settled}
use Rattle.shelf.proofs.ByRoomLaws.{owners_pairs}
use Rattle.shelf.proofs.shelf.Shelf.settle.Goals as goal

reached_face : (old new : Shelf) → new.kept.items ≡ old.kept.items → ((q : Question) (v : ℕ) → cell_at new q v ≡ cell_at old q v) → (chosen : ℕ → Bool) (q : Question) → face_of new chosen q ≡ face_of old chosen q
reached_face old new kept cells chosen q = ap (λ (l : List KeptFlush). cell_at new q (chosen_version l q chosen)) kept ∙ cells q (chosen_version old.kept.items q chosen)

-- ---- it is permanent

pub returns-then-stands_first-clause-gone : goal.returns-then-stands_first-clause-gone
returns-then-stands_first-clause-gone c =
    let olds = c.args.self.now.kept.items in
    let settled = c.settle_oldest.ensures in
    let loses = c.reach_names.ensures.loses in
    let first : stands_first c.args.number c.args.self.now.kept.items ≡ true = grind (arith, common_steps) in
    record {
      whole = loses.whole;
      faces = λ chosen there.
          let same : (q : Question) → face_of c.settle_oldest.new.self chosen q ≡ face_of c.args.self.now chosen q =
          oldest_same {X = λ (choice : ℕ → Bool). (q : Question) → face_of c.settle_oldest.new.self choice q ≡ face_of c.args.self.now choice q}
          c.args.number olds chosen first there settled.faces in
          λ q. reached_face c.settle_oldest.new.self c.reach_names.new.self loses.flushes.0 c.reach_names.ensures.cells chosen q ∙ same q;
      kept = loses.flushes.0 ∙ oldest_kept c.args.number olds c.settle_oldest.new.self.kept.items first settled.kept;
      top = loses.flushes.1 ∙ settled.bounds.0;
      limit = loses.flushes.2 ∙ settled.bounds.1;
      stored = omega (arith, loses.stored, settled.bounds.2);
      pairs = λ pair has. settled.pairs pair (loses.pairs pair has);
    }

pub returns-then-stands_first-clause-left : goal.returns-then-stands_first-clause-left
returns-then-stands_first-clause-left c = λ first.
    let self = c.args.self.now in
    subst (λ (l : List Settling). HaveStepped reached_at_once l c.reach_names.new.self.settlings.items)
    (oldest_settled c.args.number (length self.owners.entries) self.kept.items self.settlings.items c.settle_oldest.new.self.settlings.items first c.settle_oldest.ensures.settlings)
    c.reach_names.ensures.left

pub returns-then-stands_first-clause-dropped : goal.returns-then-stands_first-clause-dropped
returns-then-stands_first-clause-dropped c = λ off.
    let first : stands_first c.args.number c.args.self.now.kept.items ≡ true = grind (arith, common_steps) in
    absurd (false≢true (sym off ∙ first))

-- ---- it was dropped

pub end_doubt-requires : goal.end_doubt-requires
end_doubt-requires c = record { whole = c.settle_cleared.ensures.whole c.requires.whole }

pub returns-clause-gone : goal.returns-clause-gone
returns-clause-gone c =
    let cleared = c.settle_cleared.ensures in
    let loses = c.end_doubt.ensures.loses in
    let first : stands_first c.args.number c.args.self.now.kept.items ≡ false = grind (arith, common_steps) in
    record {
      whole = loses.whole;
      faces = λ chosen there q. reached_face c.settle_cleared.new.self c.end_doubt.new.self loses.flushes.0 c.end_doubt.ensures.cells chosen q ∙ cleared.faces chosen (there ∙ first) q;
      kept = loses.flushes.0 ∙ cleared.kept;
      top = loses.flushes.1 ∙ cleared.top;
      limit = loses.flushes.2 ∙ cleared.limit;
      stored = omega (arith, loses.stored, cleared.stored);
      pairs = λ pair has. owners_pairs c.args.self.now.owners c.settle_cleared.new.self.owners cleared.owners pair (loses.pairs pair has);
    }

pub returns-clause-left : goal.returns-clause-left
returns-clause-left c = λ on.
    let first : stands_first c.args.number c.args.self.now.kept.items ≡ false = grind (arith, common_steps) in
    absurd (false≢true (sym first ∙ on))

pub returns-clause-dropped : goal.returns-clause-dropped
returns-clause-dropped c = λ off.
    let self = c.args.self.now in
    subst (λ (l : List Settling). HaveEnded l c.end_doubt.new.self.settlings.items)
    (c.settle_cleared.ensures.settlings c.requires.whole ∙ cleared_settled c.args.number (length self.owners.entries) self.kept.items self.settlings.items off)
    c.end_doubt.ensures.ended
