-- A flush is undone or redone: its flag is set, and nothing else has changed.
use Rattle.std.proofs.Common.{◌≡◌, ◌≤◌, ℕ, Bool, List, map, length, refl, sym, ap, ◌∙◌, subst, arith}
use Rattle.std.specs.List.{AllByRecursion}
use Rattle.shelf.specs.declared.shelf.KeptFlush.{KeptFlush}
use Rattle.shelf.specs.declared.shelf.Shelf.{Shelf}
use Rattle.shelf.specs.Kept.{with_shown}
use Rattle.shelf.specs.Told.{cell_at, is_version, chosen_version, CanSettleFlush, IsAscending, IsShelf, TurnsFlush}
use Rattle.shelf.proofs.EndLaws.{ends_kept}
use Rattle.shelf.proofs.FaceLaws.{length_shown, same_all, same_ascending, same_chosen}
use Rattle.shelf.proofs.ShelfLaws.{same_numbers, same_version}

module _ (number : ℕ) (shown : Bool) (old new : Shelf) (rest : new ≡ record old { kept = new.kept }) (set : new.kept.items ≡ map (with_shown number shown) old.kept.items) where
  pub flush_turned : TurnsFlush number shown old new
  flush_turned = subst (λ (x : Shelf). TurnsFlush number shown old x) (sym rest) (record {
    cells = λ told is question version there.
        is question version (sym (ap (λ (l : List KeptFlush). is_version l question version) set ∙ same_version number shown old.kept.items question version) ∙ there);
    faces = λ chosen q.
        ap (λ (l : List KeptFlush). cell_at old q (chosen_version l q chosen)) set ∙ ap (cell_at old q) (same_chosen number shown old.kept.items q chosen);
    kept = set;
    top = refl;
    limit = refl;
    stored = refl;
    owners = refl;
  })

  pub turned_whole : IsShelf old → IsShelf new
  turned_whole is = subst (λ (x : Shelf). IsShelf x) (sym rest) (record {
    upto = is.upto;
    about = is.about;
    numbers = subst (λ (l : List KeptFlush). AllByRecursion (λ own. own.number ≤ old.top) l) (sym set) (same_numbers number shown old.kept.items old.top is.numbers);
    ascending = subst (λ (l : List KeptFlush). IsAscending l) (sym set) (same_ascending number shown old.kept.items is.ascending);
    settles = subst (λ (l : List KeptFlush). AllByRecursion (λ own. CanSettleFlush old.owners own.number own.flush) l) (sym set)
        (same_all (λ own. CanSettleFlush old.owners own.number own.flush) number shown (λ own told. told) old.kept.items is.settles);
    counted = is.counted;
    few = is.few;
    small = is.small;
    room = omega (arith, ap (λ (l : List KeptFlush). length l) set, length_shown number shown old.kept.items, is.room);
    ends = ends_kept old.kept.items new.kept.items (λ q v there. ap (λ (l : List KeptFlush). is_version l q v) set ∙ (same_version number shown old.kept.items q v ∙ there))
        old.owners.entries old.ends is.ends;
    settling = is.settling;
    space = omega (arith, ap (λ (l : List KeptFlush). length l) set, length_shown number shown old.kept.items, is.space);
    named = is.named;
    useful = is.useful;
    doubt = is.doubt;
  })
