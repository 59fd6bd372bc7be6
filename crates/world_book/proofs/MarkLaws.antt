-- Lists of tickets: what is struck, what comes back at its place, what is last.
use Rattle.std.proofs.Common.{◌≡◌, ◌≢◌, ℕ, ◌<◌, Bool, true, false, Option, Some, List, [], ◌∷◌, ◌++◌, map, refl, sym, ap, subst, ◌∙◌, inl, inr, arith}
use Rattle.std.specs.Prelude.{filter, not, ◌==◌, ◌||◌, nat_lt, if◌then◌else◌}
use Rattle.std.specs.List.{AllByRecursion, list_any}
use Rattle.std.proofs.Math.Path.{fun_ext}
use Rattle.std.proofs.lemmas.Bool.{cases_Bool, eq-eqb, eqb-true, false≢true}
use Rattle.std.proofs.lemmas.Bool.Decides.{nat_tests}
use Rattle.std.proofs.lemmas.List.Folds.{list_any-append}
use Rattle.change_law.specs.declared.kept.KeptChange.{KeptChange}
use Rattle.change_law.specs.declared.kept.Standing.{Standing}
use Rattle.change_law.specs.declared.kept.Standing.TheVariants.{Done, Undone, Cleared}
use Rattle.change_law.specs.Choice.{is_done, turned}
use Rattle.undo_journal.specs.Journal.{AreAscending, AreChanges, Changes, HasTurned, done_of, in_effect, is_among, standing_in, standings_of, standings_with, tickets_of}
use Rattle.world_book.specs.Course.{struck_with, struck_without}
use Rattle.undo_journal.specs.TicketLaws.{all_among, among_without}
use Rattle.world_book.specs.Turned.{turn_marks}
use Rattle.world_book.proofs.CourseLaws.{done_known, firsts}
use Rattle.history.specs.Marks.{Marks, in_place, is_struck, restore, strike, without}

struck_more : (xs : List ℕ) (t u : ℕ) → list_any (λ s. s == u) (xs ++ t ∷ []) ≡ (if u == t then true else list_any (λ s. s == u) xs)
struck_more xs t u =
    list_any-append (λ s. s == u) xs (t ∷ []) ∙
    elim (cases_Bool (u == t)) [
      | inl same ↦ let other : (t == u) ≡ true = eq-eqb t u (sym (eqb-true u t same)) in rw (same, other) (or_true (list_any (λ s. s == u) xs))
      | inr apart ↦ let other : (t == u) ≡ false = grind (arith, nat_tests) in rw (apart, other) (or_false (list_any (λ s. s == u) xs))
    ]
  where
    or_true : (b : Bool) → (b || true) ≡ true
    or_true true = refl
    or_true false = refl

    or_false : (b : Bool) → (b || false) ≡ b
    or_false true = refl
    or_false false = refl

pub struck_after_strike : (marks : Marks) (t : ℕ) → is_struck (strike marks t) ≡ struck_with (is_struck marks) (Some t)
struck_after_strike marks t = fun_ext (struck_more marks.struck t)

pub struck_after_restore : (marks : Marks) (t : ℕ) → is_struck (restore marks t) ≡ struck_without (is_struck marks) (Some t)
struck_after_restore marks t = fun_ext (among_without marks.struck t)

pub struck_after : (from : Standing) → from ≢ Cleared → (marks : Marks) (t : ℕ) → is_struck (turn_marks from marks t) ≡ (λ u. if u == t then not (is_done (turned from)) else is_struck marks u)
struck_after Done live marks t = struck_after_strike marks t
struck_after Undone live marks t = struck_after_restore marks t
struck_after Cleared live marks t = absurd (live refl)

-- ---- what is done, when the standing of one change has changed

abbrev done_in : List (ℕ × Standing) → List ℕ
done_in standings = map (λ (one : ℕ × Standing). one.0) (filter (λ (one : ℕ × Standing). is_done one.1) standings)

done_by : {S : Type 0} (kept : List (KeptChange S)) → tickets_of (in_effect kept) ≡ done_in (standings_of kept)
done_by [] = refl
done_by {S} (k ∷ kept) = by (is_done k.standing) (done_by kept)
  where
    by : (b : Bool) → tickets_of (in_effect kept) ≡ done_in (standings_of kept) → tickets_of (if b then k ∷ in_effect kept else in_effect kept) ≡ map (λ (one : ℕ × Standing). one.0) (if b then (k.ticket, k.standing) ∷ filter (λ (one : ℕ × Standing). is_done one.1) (standings_of kept) else filter (λ (one : ℕ × Standing). is_done one.1) (standings_of kept))
    by true more = ap (λ (l : List ℕ). k.ticket ∷ l) more
    by false more = more

done_struck : (t : ℕ) (standings : List (ℕ × Standing)) → done_in (standings_with t Undone standings) ≡ without t (done_in standings)
done_struck t [] = refl
done_struck t (one ∷ standings) =
    elim (cases_Bool (one.0 == t)) [
      | inl same ↦
          elim (cases_Bool (is_done one.1)) [
            | inl done ↦ rw same (rw done (rw same (done_struck t standings)))
            | inr out ↦ rw same (rw out (done_struck t standings))
          ]
      | inr other ↦
          elim (cases_Bool (is_done one.1)) [
            | inl done ↦ rw other (rw done (rw other (ap (λ (l : List ℕ). one.0 ∷ l) (done_struck t standings))))
            | inr out ↦ rw other (rw out (done_struck t standings))
          ]
    ]

done_taken_back : {S : Type 0} (before after : Changes S) (t : ℕ) → HasTurned Done before t after → done_of after ≡ without t (done_of before)
done_taken_back before after t is =
    done_by after.kept ∙ ap done_in is.standings ∙ done_struck t (standings_of before.kept) ∙ ap (λ (l : List ℕ). without t l) (sym (done_by before.kept))

-- those of later tickets keep their standings
with_above : (t : ℕ) (s : Standing) (standings : List (ℕ × Standing)) → AllByRecursion (λ u. t < u) (map (λ (one : ℕ × Standing). one.0) standings) → standings_with t s standings ≡ standings
with_above t s [] h = refl
with_above t s (one ∷ standings) h =
    let less : t < one.0 = h.0 in
    let other : (one.0 == t) ≡ false = grind (arith, nat_tests) in
    rw other (ap (λ (l : List (ℕ × Standing)). one ∷ l) (with_above t s standings h.1))

all_done_above : (t : ℕ) (standings : List (ℕ × Standing)) → AllByRecursion (λ u. t < u) (map (λ (one : ℕ × Standing). one.0) standings) → AllByRecursion (λ u. t < u) (done_in standings)
all_done_above t [] h = tt
all_done_above t (one ∷ standings) h =
    elim (cases_Bool (is_done one.1)) [ inl done ↦ rw done (h.0, all_done_above t standings h.1) | inr out ↦ rw out (all_done_above t standings h.1) ]

first_in_place : (t : ℕ) (xs : List ℕ) → AllByRecursion (λ u. t < u) xs → in_place t xs ≡ t ∷ xs
first_in_place t [] above = refl
first_in_place t (x ∷ xs) above =
    let less : t < x = above.0 in
    let before : nat_lt t x ≡ true = grind (arith, nat_tests) in
    rw before refl

done_restored : (t : ℕ) (standings : List (ℕ × Standing)) → AreAscending (map (λ (one : ℕ × Standing). one.0) standings) → is_among (map (λ (one : ℕ × Standing). one.0) standings) t ≡ true →
    AllByRecursion (λ (one : ℕ × Standing). (one.0 == t) ≡ true → is_done one.1 ≡ false) standings → done_in (standings_with t Done standings) ≡ in_place t (done_in standings)
done_restored t [] up there out = absurd (false≢true there)
done_restored t (one ∷ standings) up there out =
    elim (cases_Bool (one.0 == t)) [
      | inl same ↦
          let is : one.0 ≡ t = eqb-true one.0 t same in
          let above : AllByRecursion (λ u. t < u) (map (λ (one : ℕ × Standing). one.0) standings) = subst (λ (n : ℕ). AllByRecursion (λ u. n < u) (map (λ (one : ℕ × Standing). one.0) standings)) is up.0 in
          rw (same, out.0 same) (ap (λ (l : List (ℕ × Standing)). one.0 ∷ done_in l) (with_above t Done standings above) ∙ ap (λ (n : ℕ). n ∷ done_in standings) is ∙ sym (first_in_place t (done_in standings) (all_done_above t standings above)))
      | inr other ↦
          let rest : is_among (map (λ (one : ℕ × Standing). one.0) standings) t ≡ true = sym (ap (λ (b : Bool). b || is_among (map (λ (one : ℕ × Standing). one.0) standings) t) other) ∙ there in
          let less : one.0 < t = all_among (λ u. one.0 < u) (map (λ (one : ℕ × Standing). one.0) standings) t up.0 rest in
          let not_yet : nat_lt t one.0 ≡ false = grind (arith, nat_tests) in
          elim (cases_Bool (is_done one.1)) [
            | inl done ↦ rw other (rw done (rw not_yet (ap (λ (l : List ℕ). one.0 ∷ l) (done_restored t standings up.1 rest out.1))))
            | inr no' ↦ rw other (rw no' (done_restored t standings up.1 rest out.1))
          ]
    ]

done_put_back : {S : Type 0} (table : S → Option ℕ) (before after : Changes S) (t : ℕ) → AreChanges table before → HasTurned Undone before t after → done_of after ≡ in_place t (done_of before)
done_put_back {S} table before after t are is =
    let there : is_among (tickets_of before.kept) t ≡ true = all_among (λ u. is_among (tickets_of before.kept) u ≡ true) before.undone t are.known is.reached in
    done_by after.kept ∙ ap done_in is.standings
    ∙ done_restored t (standings_of before.kept) (subst AreAscending (sym (firsts before.kept)) are.ascending) (ap (λ (l : List ℕ). is_among l t) (firsts before.kept) ∙ there) (out before.kept are.standings)
    ∙ ap (λ (l : List ℕ). in_place t l) (sym (done_by before.kept))
  where
    out : (kept : List (KeptChange S)) → AllByRecursion (λ k. k.standing ≡ standing_in before.undone k.ticket) kept → AllByRecursion (λ (one : ℕ × Standing). (one.0 == t) ≡ true → is_done one.1 ≡ false) (standings_of kept)
    out [] h = tt
    out (k ∷ kept) h =
        (λ same. ap is_done h.0 ∙ ap (λ (b : Bool). is_done (if b then Undone else Done)) (ap (is_among before.undone) (eqb-true k.ticket t same) ∙ is.reached), out kept h.1)

-- ---- the marks after a turn

module _ {S : Type 0} (table : S → Option ℕ) (before after : Changes S) (t : ℕ) (are : AreChanges table before) where
  pub turned_known : (from : Standing) → from ≢ Cleared → HasTurned from before t after → is_among (tickets_of before.kept) t ≡ true
  turned_known Done live is = done_known before.kept t is.reached
  turned_known Undone live is = all_among (λ u. is_among (tickets_of before.kept) u ≡ true) before.undone t are.known is.reached
  turned_known Cleared live is = absurd (live refl)

  pub done_turned : (from : Standing) → from ≢ Cleared → HasTurned from before t after → (marks : Marks) → done_of before ≡ marks.done → done_of after ≡ (turn_marks from marks t).done
  done_turned Done live is marks done = done_taken_back before after t is ∙ ap (λ (l : List ℕ). without t l) done
  done_turned Undone live is marks done = done_put_back table before after t are is ∙ ap (λ (l : List ℕ). in_place t l) done
  done_turned Cleared live is marks done = absurd (live refl)

  pub undone_turned : (from : Standing) → from ≢ Cleared → HasTurned from before t after → (marks : Marks) → before.undone ≡ marks.undone → after.undone ≡ (turn_marks from marks t).undone
  undone_turned Done live is marks undone = is.undone ∙ ap (λ (l : List ℕ). l ++ t ∷ []) undone
  undone_turned Undone live is marks undone = is.undone ∙ ap (λ (l : List ℕ). without t l) undone
  undone_turned Cleared live is marks undone = absurd (live refl)

pub tickets_turned : (from : Standing) (marks : Marks) (t : ℕ) → (turn_marks from marks t).tickets ≡ marks.tickets
tickets_turned Done marks t = refl
tickets_turned Undone marks t = refl
tickets_turned Cleared marks t = refl
