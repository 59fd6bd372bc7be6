-- The rows of a world of two tables, of which a change changes one.
use Rattle.std.proofs.Common.{◌≡◌, ℕ, Bool, true, false, Option, Some, None, List, [], ◌∷◌, ◌++◌, refl, sym, ap, subst, ◌∙◌}
use Rattle.std.specs.Prelude.{if◌then◌else◌}
use Rattle.std.proofs.lemmas.List.{append-nil}
use Rattle.dns_text.specs.declared.record.Question.{Question}
use Rattle.ranked.specs.declared.cell.Admitted.{Admitted}
use Rattle.ranked.specs.declared.find.Find.{Find}
use Rattle.change_law.specs.declared.kept.KeptChange.{KeptChange}
use Rattle.change_law.specs.declared.kept.Standing.{Standing}
use Rattle.change_law.specs.declared.kept.Standing.TheVariants.{Done, Cleared}
use Rattle.change_law.specs.Choice.{IsOneTable, IsChoice, cleared, turned}
use Rattle.change_law.specs.Effect.{effect}
use Rattle.change_law.specs.Face.{Face, IsSame}
use Rattle.change_law.specs.Row.{kept_as, with_change, IsTurnable, IsRowAfter, any, same_face, where_chosen}
use Rattle.table_changes.specs.Part.{with_part, part}
use Rattle.table_changes.specs.PartLaws.{part_append, part_cleared, part_at, part_past, of_part, of_one, part_choice, part_clear}
use Rattle.table_changes.specs.TableRow.{table_by, KeepsRow, face_of}
use Rattle.table_changes.specs.TableRowLaws.{table_with, keeps_with, keeps_stale, table_stale, keeps_oldest, table_oldest, keeps_cleared, table_cleared, keeps_turned, table_turned, leads_over}

made_where : {T : Type 0} (b : Bool) (made : T → T) (empties : Question → Bool) (t x : T) → (b ≡ false → t ≡ x) → (b ≡ true → t ≡ made x) → IsSame (face_of t) (if b then effect made empties (face_of x) else face_of x)
made_where true made empties t x out it = record { tables = it refl; cell = λ q. none_either (empties q) }
  where
    none_either : (b : Bool) → ◌≡◌ {A = Option (Admitted Find)} None (if b then None else None)
    none_either true = refl
    none_either false = refl
made_where false made empties t x out it = record { tables = out refl; cell = λ q. refl }

same_faces : {T : Type 0} (a b : T) → a ≡ b → IsSame (face_of a) (face_of b)
same_faces a b e = record { tables = e; cell = λ q. refl }

module _ {W S T V U P Q : Type 0} (tab : W → V) (far : W → U) (both : V → U → T) (mine : S → Option P) (theirs : S → Option Q)
    (other : P → V → V) (Leads : P → V → V → Type 0) (other' : Q → U → U) (Leads' : Q → U → U → Type 0)
    (table : S → Option ℕ) (number number' : ℕ)
    (numbered : (s : S) (p : P) → mine s ≡ Some p → table s ≡ Some number) (numbered' : (s : S) (q : Q) → theirs s ≡ Some q → table s ≡ Some number')
    (apart : (s : S) (p : P) → mine s ≡ Some p → theirs s ≡ None)
    (keeps : W → List (KeptChange S) → Type 0)
    (split : (w : W) (kept : List (KeptChange S)) → keeps w kept → KeepsRow other Leads (tab w) (part mine kept) × KeepsRow other' Leads' (far w) (part theirs kept))
    (join : (w : W) (kept : List (KeptChange S)) → KeepsRow other Leads (tab w) (part mine kept) → KeepsRow other' Leads' (far w) (part theirs kept) → keeps w kept) where
  abbrev pub face_both : W → List (KeptChange S) → (ℕ → Bool) → Face T
  face_both w kept chosen = face_of (both (table_by other (tab w) (part mine kept) chosen) (table_by other' (far w) (part theirs kept) chosen))

  abbrev mine_of : P → Option ℕ
  mine_of = of_part mine table number numbered

  abbrev theirs_of : Q → Option ℕ
  theirs_of = of_part theirs table number' numbered'

  abbrev mine_one : (a b : P) → IsOneTable (mine_of a) (mine_of b)
  mine_one = of_one mine table number numbered

  abbrev theirs_one : (a b : Q) → IsOneTable (theirs_of a) (theirs_of b)
  theirs_one = of_one theirs table number' numbered'

  mine_with : (kept : List (KeptChange S)) (ticket : ℕ) (saved : S) (p : P) → mine saved ≡ Some p → part mine (with_change kept ticket saved) ≡ with_change (part mine kept) ticket p
  mine_with kept ticket saved p e = part_at mine (cleared kept) Done ticket saved [] p e ∙ ap (λ (x : List (KeptChange P)). x ++ kept_as Done ticket p ∷ []) (part_cleared mine kept)

  theirs_with : (kept : List (KeptChange S)) (ticket : ℕ) (saved : S) (p : P) → mine saved ≡ Some p → part theirs (with_change kept ticket saved) ≡ cleared (part theirs kept)
  theirs_with kept ticket saved p e = part_past theirs (cleared kept) Done ticket saved [] (apart saved p e) ∙ append-nil (part theirs (cleared kept)) ∙ part_cleared theirs kept

  pub both_with : (after : V → V) (made : T → T) (empties : Question → Bool) (w w' : W) (kept : List (KeptChange S)) (ticket : ℕ) (saved : S) (p : P) → mine saved ≡ Some p →
      other p (tab w') ≡ tab w → Leads p (tab w') (tab w) → tab w' ≡ after (tab w) → far w' ≡ far w → ((v : V) (u : U) → made (both v u) ≡ both (after v) u) → keeps w kept →
      IsRowAfter table keeps face_both (where_chosen ticket (effect made empties)) any w kept w' (with_change kept ticket saved)
  unfolding mine_with theirs_with
  both_with after made empties w w' kept ticket saved p e back leads is stays makes h =
      let rows = split w kept h in
      let mine_is = mine_with kept ticket saved p e in
      let theirs_is = theirs_with kept ticket saved p e in
      record {
        keeps_left = join w' (with_change kept ticket saved)
            (subst (λ (x : List (KeptChange P)). KeepsRow other Leads (tab w') x) (sym mine_is) (keeps_with other Leads (tab w) (tab w') (part mine kept) ticket p leads back rows.0))
            (subst (λ (x : List (KeptChange Q)). KeepsRow other' Leads' (far w') x) (sym theirs_is)
            (subst (λ (u : U). KeepsRow other' Leads' u (cleared (part theirs kept))) (sym stays) (keeps_stale other' Leads' (far w) (part theirs kept) rows.1)));
        faces = λ chosen any_of choice.
            let choice_mine = subst (λ (x : List (KeptChange P)). IsChoice mine_of x chosen) mine_is (part_choice mine table number numbered (with_change kept ticket saved) chosen choice) in
            let choice_theirs = subst (λ (x : List (KeptChange Q)). IsChoice theirs_of x chosen) theirs_is (part_choice theirs table number' numbered' (with_change kept ticket saved) chosen choice) in
            let laws = table_with other mine_of mine_one chosen (tab w) (tab w') (part mine kept) ticket p back choice_mine in
            let mine_same : table_by other (tab w') (part mine (with_change kept ticket saved)) chosen ≡ table_by other (tab w') (with_change (part mine kept) ticket p) chosen
            = ap (λ (x : List (KeptChange P)). table_by other (tab w') x chosen) mine_is in
            let theirs_same : table_by other' (far w') (part theirs (with_change kept ticket saved)) chosen ≡ table_by other' (far w) (part theirs kept) chosen
            = (λ i. table_by other' (stays i) (theirs_is i) chosen) ∙ table_stale other' Leads' theirs_of theirs_one (far w) (part theirs kept) chosen choice_theirs in
            let t = both (table_by other (tab w') (part mine (with_change kept ticket saved)) chosen) (table_by other' (far w') (part theirs (with_change kept ticket saved)) chosen) in
            let a = table_by other (tab w) (part mine kept) chosen in
            let b = table_by other' (far w) (part theirs kept) chosen in
            made_where (chosen ticket) made empties t (both a b)
            (λ out. λ i. both ((mine_same ∙ laws.0 out) i) (theirs_same i))
            (λ it. (λ i. both ((mine_same ∙ (laws.1 it).0 ∙ is ∙ ap after (sym (laws.1 it).1)) i) (theirs_same i)) ∙ sym (makes a b));
      }

  pub both_turned : (w w' : W) (from : Standing) (earlier : List (KeptChange S)) (ticket : ℕ) (saved saved' : S) (later : List (KeptChange S)) (p p' : P) → mine saved ≡ Some p → mine saved' ≡ Some p' →
      other p (tab w) ≡ tab w' → other p' (tab w') ≡ tab w → Leads p' (tab w') (tab w) → far w' ≡ far w → IsTurnable table keeps from w earlier ticket saved later →
      IsRowAfter table keeps face_both same_face any w (earlier ++ kept_as from ticket saved ∷ later) w' (earlier ++ kept_as (turned from) ticket saved' ∷ later)
  both_turned w w' from earlier ticket saved saved' later p p' e e' way again leads stays at =
      let before = earlier ++ kept_as from ticket saved ∷ later in
      let after = earlier ++ kept_as (turned from) ticket saved' ∷ later in
      let rows = split w before at.kept in
      let mine_before = part_at mine earlier from ticket saved later p e in
      let mine_after = part_at mine earlier (turned from) ticket saved' later p' e' in
      let theirs_same = part_past theirs earlier (turned from) ticket saved' later (apart saved' p' e') ∙ sym (part_past theirs earlier from ticket saved later (apart saved p e)) in
      let clear = part_clear mine table number numbered from saved p earlier later e at.clear in
      let kept = subst (λ (x : List (KeptChange P)). KeepsRow other Leads (tab w) x) mine_before rows.0 in
      record {
        keeps_left = join w' after
            (subst (λ (x : List (KeptChange P)). KeepsRow other Leads (tab w') x) (sym mine_after)
            (keeps_turned other Leads mine_of mine_one (tab w) (tab w') (part mine earlier) ticket p p' (part mine later) way again leads from at.live clear kept))
            (subst (λ (x : List (KeptChange Q)). KeepsRow other' Leads' (far w') x) (sym theirs_same) (subst (λ (u : U). KeepsRow other' Leads' u (part theirs before)) (sym stays) rows.1));
        faces = λ chosen any_of choice.
            let choice_mine = subst (λ (x : List (KeptChange P)). IsChoice mine_of x chosen) mine_after (part_choice mine table number numbered after chosen choice) in
            let one = ap (λ (x : List (KeptChange P)). table_by other (tab w') x chosen) mine_after
            ∙ table_turned other Leads mine_of mine_one (tab w) (tab w') (part mine earlier) ticket p p' (part mine later) way again leads from at.live clear kept chosen choice_mine
            ∙ ap (λ (x : List (KeptChange P)). table_by other (tab w) x chosen) (sym mine_before) in
            same_faces (both (table_by other (tab w') (part mine after) chosen) (table_by other' (far w') (part theirs after) chosen))
            (both (table_by other (tab w) (part mine before) chosen) (table_by other' (far w) (part theirs before) chosen))
            (λ i. both (one i) (table_by other' (stays i) (theirs_same i) chosen));
      }

  pub both_oldest : (w w' : W) (ticket : ℕ) (saved : S) (later : List (KeptChange S)) (p : P) → mine saved ≡ Some p → tab w' ≡ tab w → far w' ≡ far w → keeps w (kept_as Done ticket saved ∷ later) →
      IsRowAfter table keeps face_both same_face (λ chosen. chosen ticket ≡ true) w (kept_as Done ticket saved ∷ later) w' later
  both_oldest w w' ticket saved later p e same stays h =
      let before = kept_as Done ticket saved ∷ later in
      let rows = split w before h in
      let mine_before : part mine before ≡ kept_as Done ticket p ∷ part mine later = ap (λ (x : Option P). with_part ticket Done x (part mine later)) e in
      let theirs_before : part theirs before ≡ part theirs later = ap (λ (x : Option Q). with_part ticket Done x (part theirs later)) (apart saved p e) in
      let kept = subst (λ (x : List (KeptChange P)). KeepsRow other Leads (tab w) x) mine_before rows.0 in
      record {
        keeps_left = join w' later
            (subst (λ (v : V). KeepsRow other Leads v (part mine later)) (sym same) (keeps_oldest other Leads (tab w) ticket p (part mine later) kept))
            (subst (λ (u : U). KeepsRow other' Leads' u (part theirs later)) (sym stays) (subst (λ (x : List (KeptChange Q)). KeepsRow other' Leads' (far w) x) theirs_before rows.1));
        faces = λ chosen it choice.
            let one = ap (λ (v : V). table_by other v (part mine later) chosen) same ∙ table_oldest other Leads (tab w) ticket p (part mine later) chosen it
            ∙ ap (λ (x : List (KeptChange P)). table_by other (tab w) x chosen) (sym mine_before) in
            same_faces (both (table_by other (tab w') (part mine later) chosen) (table_by other' (far w') (part theirs later) chosen))
            (both (table_by other (tab w) (part mine before) chosen) (table_by other' (far w) (part theirs before) chosen))
            (λ i. both (one i) (table_by other' (stays i) ((sym theirs_before) i) chosen));
      }

  pub both_cleared : (w w' : W) (earlier : List (KeptChange S)) (ticket : ℕ) (saved : S) (later : List (KeptChange S)) (p : P) → mine saved ≡ Some p → tab w' ≡ tab w → far w' ≡ far w → keeps w (earlier ++ kept_as Cleared ticket saved ∷ later) →
      IsRowAfter table keeps face_both same_face (λ chosen. chosen ticket ≡ false) w (earlier ++ kept_as Cleared ticket saved ∷ later) w' (earlier ++ later)
  both_cleared w w' earlier ticket saved later p e same stays h =
      let before = earlier ++ kept_as Cleared ticket saved ∷ later in
      let after = earlier ++ later in
      let rows = split w before h in
      let mine_before = part_at mine earlier Cleared ticket saved later p e in
      let mine_after = part_append mine earlier later in
      let theirs_same : part theirs after ≡ part theirs before = part_append theirs earlier later ∙ sym (part_past theirs earlier Cleared ticket saved later (apart saved p e)) in
      let kept = subst (λ (x : List (KeptChange P)). KeepsRow other Leads (tab w) x) mine_before rows.0 in
      record {
        keeps_left = join w' after
            (subst (λ (x : List (KeptChange P)). KeepsRow other Leads (tab w') x) (sym mine_after)
            (subst (λ (v : V). KeepsRow other Leads v (part mine earlier ++ part mine later)) (sym same) (keeps_cleared other Leads (tab w) (part mine earlier) ticket p (part mine later) kept)))
            (subst (λ (x : List (KeptChange Q)). KeepsRow other' Leads' (far w') x) (sym theirs_same) (subst (λ (u : U). KeepsRow other' Leads' u (part theirs before)) (sym stays) rows.1));
        faces = λ chosen out choice.
            let one = (λ i. table_by other (same i) (mine_after i) chosen) ∙ table_cleared other Leads (tab w) (part mine earlier) ticket p (part mine later) chosen
            ∙ ap (λ (x : List (KeptChange P)). table_by other (tab w) x chosen) (sym mine_before) in
            same_faces (both (table_by other (tab w') (part mine after) chosen) (table_by other' (far w') (part theirs after) chosen))
            (both (table_by other (tab w) (part mine before) chosen) (table_by other' (far w) (part theirs before) chosen))
            (λ i. both (one i) (table_by other' (stays i) (theirs_same i) chosen));
      }

  pub both_leads : (w : W) (from : Standing) (earlier : List (KeptChange S)) (ticket : ℕ) (saved : S) (later : List (KeptChange S)) (p : P) → mine saved ≡ Some p → IsTurnable table keeps from w earlier ticket saved later → Leads p (tab w) (other p (tab w))
  both_leads w from earlier ticket saved later p e at =
      leads_over other Leads mine_of mine_one (tab w) from at.live (part mine earlier) ticket p (part mine later)
      (subst (λ (x : List (KeptChange P)). KeepsRow other Leads (tab w) x) (part_at mine earlier from ticket saved later p e) (split w (earlier ++ kept_as from ticket saved ∷ later) at.kept).0)
      (part_clear mine table number numbered from saved p earlier later e at.clear)
