-- The change at one place of the ring is turned: undone, or in effect again.
use Rattle.std.proofs.Common.{◌≡◌, ◌≢◌, ℕ, ◌+◌, ◌<◌, Bool, Option, Some, List, ◌∷◌, ◌++◌, length, refl, sym, ap, subst, ◌∙◌, arith}
use Rattle.std.specs.Prelude.{slice_get, slice_set, option_map}
use Rattle.change_law.specs.declared.kept.KeptChange.{KeptChange}
use Rattle.change_law.specs.declared.kept.Standing.{Standing}
use Rattle.change_law.specs.declared.kept.Standing.TheVariants.{Done, Cleared}
use Rattle.change_law.specs.declared.world.World.{Ghosts}
use Rattle.change_law.specs.Choice.{is_done, IsClear, passed, turned}
use Rattle.change_law.specs.Face.{Face}
use Rattle.change_law.specs.Row.{IsRefused, IsRowAfter, IsSameKind, IsTurned, any, kept_as, same_face, CanTurn, IsTurnable, Turns}
use Rattle.undo_journal.specs.Journal.{AreChanges, CanBeTurned, Changes, HasTurned, undone_with}
use Rattle.undo_journal.specs.Moving.{ChangesNothing, MovesStandings}
use Rattle.undo_journal.proofs.AppliedLaws.{choices_at, needs_at, told_at}
use Rattle.undo_journal.proofs.RingLaws.{IsAt, at_place, kept_is, passed_at, row_of, turned≢Cleared}
use Rattle.undo_journal.proofs.MoveLaws.{out_less, turned_are, turned_is}

abbrev pub changes_at : {S : Type 0} → List (KeptChange S) → List ℕ → ℕ → ℕ → Changes S
changes_at kept undone tickets limit = record { kept = kept; undone = undone; tickets = tickets; limit = limit }

module _ {S : Type 0} (table : S → Option ℕ) (kept : List (KeptChange S)) (place : ℕ) (k : KeptChange S) (there : slice_get kept place ≡ Some k) (at : IsAt kept place k) where
  pub here_turns : (from : Standing) → CanBeTurned table from kept place → (k.standing ≡ from) × IsClear table from k.saved (passed from at.earlier at.later)
  here_turns from can =
      let both : Some can.here ≡ Some k = sym can.there ∙ there in
      let same : can.here ≡ k = cc in (
        ap (λ (x : KeptChange S). x.standing) (sym same) ∙ can.stands,
        subst (λ (x : KeptChange S). IsClear table from x.saved (passed from at.earlier at.later)) same
            (subst (λ (l : List (KeptChange S)). IsClear table from can.here.saved l) (passed_at kept place k at from) can.clear),
      )

  whole : (s : Standing) → k.standing ≡ s → at.earlier ++ kept_as s k.ticket k.saved ∷ at.later ≡ kept
  whole s e = ap (λ (x : KeptChange S). at.earlier ++ x ∷ at.later) (kept_is k s e) ∙ sym at.all

  pub turnable_here : {W : Type 0} (keeps : W → List (KeptChange S) → Type 0) (world : W) (from : Standing) → from ≢ Cleared → keeps world kept → CanBeTurned table from kept place →
      IsTurnable table keeps from world at.earlier k.ticket k.saved at.later
  unfolding whole
  turnable_here keeps world from live h can = record { live = live; kept = subst (keeps world) (sym (whole from (here_turns from can).0)) h; clear = (here_turns from can).1 }

  -- a row from one standing at this place to another
  pub row_here : {W T : Type 0} (keeps : W → List (KeptChange S) → Type 0) (face : W → List (KeptChange S) → (ℕ → Bool) → Face T) (made : (ℕ → Bool) → Face T → Face T) (P : (ℕ → Bool) → Type 0) (s s' : Standing) (before after : W) (saved : S) → k.standing ≡ s →
      IsRowAfter table keeps face made P before (at.earlier ++ kept_as s k.ticket k.saved ∷ at.later) after (at.earlier ++ kept_as s' k.ticket saved ∷ at.later) →
      IsRowAfter table keeps face made P before kept after (slice_set kept place (kept_as s' k.ticket saved))
  unfolding whole
  row_here keeps face made P s s' before after saved e row = row_of table keeps face made P before _ kept after _ (slice_set kept place (kept_as s' k.ticket saved)) (whole s e) (sym (at.written (kept_as s' k.ticket saved))) row

  -- what was not changed is written over with itself
  pub same_here : (undone : List ℕ) (tickets limit : ℕ) (saved : S) → saved ≡ k.saved → changes_at (slice_set kept place (record { ticket = k.ticket; standing = k.standing; saved = saved })) undone tickets limit ≡ changes_at kept undone tickets limit
  same_here undone tickets limit saved e =
      let own : record { ticket = k.ticket; standing = k.standing; saved = saved } ≡ k = λ i. record { ticket = k.ticket; standing = k.standing; saved = e i } in
      let same : slice_set kept place (record { ticket = k.ticket; standing = k.standing; saved = saved }) ≡ kept
      = at.written (record { ticket = k.ticket; standing = k.standing; saved = saved }) ∙ ap (λ (y : KeptChange S). at.earlier ++ y ∷ at.later) own ∙ sym at.all in
      ap (λ (l : List (KeptChange S)). changes_at l undone tickets limit) same

  module _ (undone undone' : List ℕ) (tickets limit : ℕ) (saved : S) (same : table saved ≡ table k.saved) (are : AreChanges table (changes_at kept undone tickets limit)) where
    there_are : AreChanges table (changes_at (at.earlier ++ k ∷ at.later) undone tickets limit)
    there_are = subst (λ (l : List (KeptChange S)). AreChanges table (changes_at l undone tickets limit)) at.all are

    -- what is so of the changes with another at the place, and with another list of the undone
    placed : (Q : Changes S → Type 0) (k' : KeptChange S) (left : List ℕ) → undone' ≡ left → Q (changes_at (at.earlier ++ k' ∷ at.later) left tickets limit) → Q (changes_at (slice_set kept place k') undone' tickets limit)
    placed Q k' left e h =
        subst (λ (l : List (KeptChange S)). Q (changes_at l undone' tickets limit)) (sym (at.written k'))
        (subst (λ (l : List ℕ). Q (changes_at (at.earlier ++ k' ∷ at.later) l tickets limit)) (sym e) h)

    pub turned_here_are : (from : Standing) → from ≢ Cleared → CanBeTurned table from kept place → undone' ≡ undone_with from k.ticket undone →
        AreChanges table (changes_at (slice_set kept place (kept_as (turned from) k.ticket saved)) undone' tickets limit)
    unfolding there_are
    turned_here_are from live can e =
        placed (λ x. AreChanges table x) (kept_as (turned from) k.ticket saved) (undone_with from k.ticket undone) e
        (turned_are table k (kept_as (turned from) k.ticket saved) refl same from live at.earlier at.later undone tickets limit (here_turns from can).0 refl (here_turns from can).1 there_are)

    pub turned_here_is : (from : Standing) → from ≢ Cleared → CanBeTurned table from kept place → undone' ≡ undone_with from k.ticket undone →
        HasTurned from (changes_at kept undone tickets limit) k.ticket (changes_at (slice_set kept place (kept_as (turned from) k.ticket saved)) undone' tickets limit)
    unfolding there_are
    turned_here_is from live can e =
        placed (λ x. HasTurned from (changes_at kept undone tickets limit) k.ticket x) (kept_as (turned from) k.ticket saved) (undone_with from k.ticket undone) e
        (subst (λ (l : List (KeptChange S)). HasTurned from (changes_at l undone tickets limit) k.ticket (changes_at (at.earlier ++ kept_as (turned from) k.ticket saved ∷ at.later) (undone_with from k.ticket undone) tickets limit)) (sym at.all)
        (turned_is table k (kept_as (turned from) k.ticket saved) refl same from live at.earlier at.later undone tickets limit (here_turns from can).0 refl there_are))

    -- the list of the undone has room for one more
    pub undone_fit : CanBeTurned table Done kept place → length undone < limit
    unfolding there_are
    undone_fit can = omega (arith, there_are.fits, there_are.few, out_less at.earlier k at.later (ap is_done (here_turns Done can).0))

-- ---- an undo or a redo at a place, by what the journal is before it

module _ {W T S D : Type 0} (by : Ghosts W T S D) (kept : List (KeptChange S)) (undone : List ℕ) (tickets limit : ℕ) (now : Changes S) (is : changes_at kept undone tickets limit ≡ now)
    (place : ℕ) (k : KeptChange S) (there : slice_get kept place ≡ Some k) where
  abbrev at : IsAt kept place k
  at = at_place kept place k there

  pub turns_then : (from : Standing) → CanBeTurned by.table from now.kept place → CanBeTurned by.table from kept place
  turns_then from can = subst (λ (x : Changes S). CanBeTurned by.table from x.kept place) (sym is) can

  turnable_now : (world : W) (from : Standing) → from ≢ Cleared → by.keeps world now.kept → CanBeTurned by.table from now.kept place → IsTurnable by.table by.keeps from world at.earlier k.ticket k.saved at.later
  turnable_now world from live held can = turnable_here by.table kept place k there at by.keeps world from live (subst (λ (x : Changes S). by.keeps world x.kept) (sym is) held) (turns_then from can)

  pub can_turn : (world : W) (from : Standing) → from ≢ Cleared → by.keeps world now.kept → CanBeTurned by.table from now.kept place → CanTurn by.table by.keeps from world k.saved
  can_turn world from live held can = (at.earlier, (k.ticket, (at.later, turnable_now world from live held can)))

  -- A refused call leaves the journal as it was.
  pub refused_here : (before after : W) (saved : S) → IsRefused by.table by.keeps by.face by.newest by.stored by.counts before after × (saved ≡ k.saved) →
      ChangesNothing by before now after (changes_at (slice_set kept place (record { ticket = k.ticket; standing = k.standing; saved = saved })) undone tickets limit)
  refused_here before after saved refused = (refused.0, same_here by.table kept place k there at undone tickets limit saved refused.1 ∙ is)

  pub refused_are : (saved : S) → saved ≡ k.saved → AreChanges by.table (changes_at kept undone tickets limit) →
      AreChanges by.table (changes_at (slice_set kept place (record { ticket = k.ticket; standing = k.standing; saved = saved })) undone tickets limit)
  refused_are saved e are = subst (λ (x : Changes S). AreChanges by.table x) (sym (same_here by.table kept place k there at undone tickets limit saved e)) are

  its_ticket : option_map (λ (x : KeptChange S). x.ticket) (slice_get now.kept place) ≡ Some k.ticket
  its_ticket = ap (λ (x : Changes S). option_map (λ (y : KeptChange S). y.ticket) (slice_get x.kept place)) (sym is) ∙ ap (λ (o : Option (KeptChange S)). option_map (λ (y : KeptChange S). y.ticket) o) there

  module _ (undone' : List ℕ) (saved : S) (from : Standing) (live : from ≢ Cleared) (can : CanBeTurned by.table from now.kept place) where
    -- The change at the place was turned.
    pub moved_here : (before after : W) → by.keeps before now.kept → IsSameKind by.table by.told k.saved saved → IsTurned by.needs_memory by.needs_memory_after k.saved saved →
        Turns by.table by.keeps by.face from before k.saved after saved → MovesStandings by before now after (changes_at (slice_set kept place (kept_as (turned from) k.ticket saved)) undone' tickets limit)
    moved_here before after held kind needs turns =
        let new : KeptChange S = kept_as (turned from) k.ticket saved in
        let was : k.standing ≡ from = (here_turns by.table kept place k there at from (turns_then from can)).0 in
        subst (λ (x : Changes S). MovesStandings by before x after (changes_at (slice_set kept place (kept_as (turned from) k.ticket saved)) undone' tickets limit)) is
        (record {
          row = row_here by.table kept place k there at by.keeps by.face same_face any from (turned from) before after saved was (turns at.earlier k.ticket at.later (turnable_now before from live held can));
          choices = λ chosen p h. choices_at by.table kept place k new at refl kind.0 (λ cleared. live (sym was ∙ cleared)) (turned≢Cleared from) chosen h;
          told = told_at by.told kept place k new at refl kind.1;
          tables = told_at by.table kept place k new at refl kind.0;
          needs = needs_at by.needs_memory by.needs_memory_after kept place k saved at from live was needs;
        })

    module _ (same : by.table saved ≡ by.table k.saved) (are : AreChanges by.table (changes_at kept undone tickets limit)) (e : undone' ≡ undone_with from k.ticket undone) where
      pub turned_sound : AreChanges by.table (changes_at (slice_set kept place (kept_as (turned from) k.ticket saved)) undone' tickets limit)
      turned_sound = turned_here_are by.table kept place k there at undone undone' tickets limit saved same are from live (turns_then from can) e

      pub turned_at : HasTurned from now k.ticket (changes_at (slice_set kept place (kept_as (turned from) k.ticket saved)) undone' tickets limit) ×
          (option_map (λ (x : KeptChange S). x.ticket) (slice_get now.kept place) ≡ Some k.ticket)
      turned_at = (
        subst (λ (x : Changes S). HasTurned from x k.ticket (changes_at (slice_set kept place (kept_as (turned from) k.ticket saved)) undone' tickets limit)) is
            (turned_here_is by.table kept place k there at undone undone' tickets limit saved same are from live (turns_then from can) e),
        its_ticket,
      )
