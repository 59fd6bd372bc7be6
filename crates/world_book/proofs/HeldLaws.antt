-- The commands that a journal keeps are those that can be undone or redone.
use Rattle.std.proofs.Common.{◌≡◌, ℕ, ◌<◌, Bool, true, false, Option, Some, None, ◌⊎◌, inl, inr, List, [], ◌∷◌, ◌++◌, zero, suc, length, get_or, take, drop, map, refl, sym, ap, subst, ◌∙◌, arith}
use Rattle.std.specs.Prelude.{filter_map, not, ◌==◌, ◌&&◌, ◌||◌, ◌+◌, slice_get, if◌then◌else◌}
use Rattle.std.specs.List.{AllByRecursion, Contains, cons_option}
use Rattle.std.specs.Option.{option_map}
use Rattle.std.proofs.Math.Path.{fun_ext}
use Rattle.std.proofs.lemmas.Bool.{cases_Bool, eq-eqb, eqb-true, false≢true}
use Rattle.std.proofs.lemmas.Bool.Decides.{nat_tests}
use Rattle.std.proofs.lemmas.List.{map-append}
use Rattle.dns_name.specs.ListLaws.{all_weaker}
use Rattle.change_law.specs.declared.kept.KeptChange.{KeptChange}
use Rattle.change_law.specs.declared.kept.Standing.TheVariants.{Done, Undone}
use Rattle.change_law.specs.Choice.{is_done}
use Rattle.undo_journal.specs.Journal.{Changes, AreChanges, done_of, in_effect, standing_in, tickets_of, told_of}
use Rattle.world_book.specs.Course.{AreAscending}
use Rattle.undo_journal.specs.TicketLaws.{all_among}
use Rattle.history.specs.declared.event.Command.{Command}
use Rattle.history.specs.declared.event.Entry.{Entry}
use Rattle.history.specs.declared.event.Event.{Event}
use Rattle.history.specs.declared.event.Event.TheVariants.{Admit, Look, Sweep, Forget, Do, Undo, Redo, UndoOf, RedoOf}
use Rattle.history.specs.declared.event.Journalled.{Journalled}
use Rattle.history.specs.Journal.{is_among, held_as, held_with, journalled_of, commands_of}
use Rattle.history.specs.Marks.{Marks}
use Rattle.history.specs.History.{Past}
use Rattle.world_book.specs.Deeds.{given_of, given_in}
use Rattle.world_book.specs.Held.{held_one, held_in}
use Rattle.world_book.specs.Tied.{AreGiven}

abbrev made_of : ℕ × Command → Bool → Journalled
made_of given done = record { ticket = given.0; done = done; command = given.1 }

-- ---- from the log to its commands

one_entry : (marks : Marks) (event : Event) (ticket : Option ℕ) (js : List Journalled) (log : List Entry) →
    js ≡ filter_map (λ (g : ℕ × Command). held_with marks g.0 g.1) (given_in log) →
    cons_option (journalled_of marks event ticket) js ≡ filter_map (λ (g : ℕ × Command). held_with marks g.0 g.1) (cons_option (given_of event ticket) (given_in log))
one_entry marks (Do m c) (Some t) js log is = ap (cons_option (held_with marks t c)) is
one_entry marks (Do m c) None js log is = is
one_entry marks (Admit m f) ticket js log is = is
one_entry marks (Look m a) ticket js log is = is
one_entry marks (Sweep m) ticket js log is = is
one_entry marks (Forget m owner) ticket js log is = is
one_entry marks (Undo m) ticket js log is = is
one_entry marks (Redo m) ticket js log is = is
one_entry marks (UndoOf m named) ticket js log is = is
one_entry marks (RedoOf m named) ticket js log is = is

of_given : (marks : Marks) (log : List Entry) →
    filter_map (λ (e : Entry). journalled_of marks e.event e.ticket) log ≡ filter_map (λ (g : ℕ × Command). held_with marks g.0 g.1) (given_in log)
of_given marks [] = refl
of_given marks (e ∷ log) = one_entry marks e.event e.ticket _ log (of_given marks log)

-- ---- how a kept change is held

abbrev look : {S : Type 0} → List (KeptChange S) → ℕ → Option Bool
look [] t = None
look (k ∷ ks) t = if k.ticket == t then Some (is_done k.standing) else look ks t

-- the standing of the change of a ticket, by what is undone
look_by : {S : Type 0} (undone : List ℕ) (ks : List (KeptChange S)) (t : ℕ) → AllByRecursion (λ k. k.standing ≡ standing_in undone k.ticket) ks →
    look ks t ≡ (if is_among (tickets_of ks) t then Some (not (is_among undone t)) else None)
look_by undone [] t h = refl
look_by undone (k ∷ ks) t h =
    elim (cases_Bool (k.ticket == t)) [
      | inl here ↦ rw here (ap (λ s. Some (is_done s)) h.0 ∙ ap (λ (n : ℕ). Some (is_done (standing_in undone n))) (eqb-true k.ticket t here) ∙ ap Some (done_unless (is_among undone t)))
      | inr there ↦ rw there (look_by undone ks t h.1)
    ]
  where
    done_unless : (b : Bool) → is_done (if b then Undone else Done) ≡ not b
    done_unless true = refl
    done_unless false = refl

-- what is done is kept and is not undone
among_done : {S : Type 0} (undone : List ℕ) (ks : List (KeptChange S)) (t : ℕ) → AllByRecursion (λ k. k.standing ≡ standing_in undone k.ticket) ks →
    is_among (tickets_of (in_effect ks)) t ≡ (is_among (tickets_of ks) t && not (is_among undone t))
among_done undone [] t h = refl
among_done {S} undone (k ∷ ks) t h = by (is_among undone k.ticket) refl (among_done undone ks t h.1)
  where
    either : (same u a : Bool) → (same ≡ true → u ≡ false) → (same || (a && not u)) ≡ ((same || a) && not u)
    either true u a f = sym (ap not (f refl))
    either false u a f = refl

    neither : (same u a : Bool) → (same ≡ true → u ≡ true) → (a && not u) ≡ ((same || a) && not u)
    neither true true true f = refl
    neither true true false f = refl
    neither true false a f = absurd (false≢true (f refl))
    neither false u a f = refl

    same_test : (b : Bool) → is_among undone k.ticket ≡ b → (k.ticket == t) ≡ true → is_among undone t ≡ b
    same_test b e same = ap (is_among undone) (sym (eqb-true k.ticket t same)) ∙ e

    by : (b : Bool) → is_among undone k.ticket ≡ b → is_among (tickets_of (in_effect ks)) t ≡ (is_among (tickets_of ks) t && not (is_among undone t)) →
        is_among (tickets_of (in_effect (k ∷ ks))) t ≡ (is_among (tickets_of (k ∷ ks)) t && not (is_among undone t))
    by true e more =
        let out : is_done k.standing ≡ false = ap is_done h.0 ∙ ap (λ (b : Bool). is_done (if b then Undone else Done)) e in
        ap (λ (b : Bool). is_among (tickets_of (if b then k ∷ in_effect ks else in_effect ks)) t) out ∙ more
        ∙ neither (k.ticket == t) (is_among undone t) (is_among (tickets_of ks) t) (same_test true e)
    by false e more =
        let done : is_done k.standing ≡ true = ap is_done h.0 ∙ ap (λ (b : Bool). is_done (if b then Undone else Done)) e in
        ap (λ (b : Bool). is_among (tickets_of (if b then k ∷ in_effect ks else in_effect ks)) t) done ∙ ap (λ (b : Bool). (k.ticket == t) || b) more
        ∙ either (k.ticket == t) (is_among undone t) (is_among (tickets_of ks) t) (same_test false e)

held_is_look : {S : Type 0} (table : S → Option ℕ) (changes : Changes S) (marks : Marks) (t : ℕ) → AreChanges table changes → done_of changes ≡ marks.done → changes.undone ≡ marks.undone →
    held_as marks t ≡ look changes.kept t
held_is_look table changes marks t are done undone =
    (λ i. if is_among (sym done i) t then Some true else if is_among (sym undone i) t then Some false else None)
    ∙ ap (λ (b : Bool). if b then Some true else if is_among changes.undone t then Some false else None) (among_done changes.undone changes.kept t are.standings)
    ∙ by (is_among (tickets_of changes.kept) t) (is_among changes.undone t) (all_among (λ u. is_among (tickets_of changes.kept) u ≡ true) changes.undone t are.known)
    ∙ sym (look_by changes.undone changes.kept t are.standings)
  where
    by : (a u : Bool) → (u ≡ true → a ≡ true) → (if a && not u then Some true else if u then Some false else None) ≡ (if a then Some (not u) else None)
    by true true f = refl
    by true false f = refl
    by false true f = absurd (false≢true (f refl))
    by false false f = refl

-- ---- the commands that are picked

absent : {S : Type 0} (ks : List (KeptChange S)) (t : ℕ) → AllByRecursion (λ u. t < u) (tickets_of ks) → look ks t ≡ None
absent [] t h = refl
absent (k ∷ ks) t h =
    let less : t < k.ticket = h.0 in
    let other : (k.ticket == t) ≡ false = grind (arith, nat_tests) in
    rw other (absent ks t h.1)

-- a kept change is not looked for after it
passed : {S : Type 0} (k : KeptChange S) (ks : List (KeptChange S)) (gs : List (ℕ × Command)) → AllByRecursion (λ u. k.ticket < u) (map (λ given. given.0) gs) →
    filter_map (λ (g : ℕ × Command). option_map (made_of g) (look (k ∷ ks) g.0)) gs ≡ filter_map (λ (g : ℕ × Command). option_map (made_of g) (look ks g.0)) gs
passed k ks [] h = refl
passed k ks (g ∷ gs) h =
    let less : k.ticket < g.0 = h.0 in
    let other : (k.ticket == g.0) ≡ false = grind (arith, nat_tests) in
    rw other (ap (cons_option (option_map (made_of g) (look ks g.0))) (passed k ks gs h.1))

-- ---- what is in a list

pub in_front : {X : Type 0} (head x : X) (rest : List X) → Contains (head ∷ rest) x → (head ≡ x) ⊎ Contains rest x
in_front {X} head x rest p = by_index p.0 p.1 p.2
  where
    by_index : (k : ℕ) → k < suc (length rest) → get_or (head ∷ rest) k x ≡ x → (head ≡ x) ⊎ Contains rest x
    by_index zero within found = inl found
    by_index (suc k) within found = inr (k, omega arith, found)

abbrev pub first_of : ℕ × Command → ℕ
first_of given = given.0

pub of_all : (P : ℕ → Type 0) (gs : List (ℕ × Command)) (given : ℕ × Command) → AllByRecursion P (map first_of gs) → Contains gs given → P given.0
of_all P [] given all has = absurd (omega (arith, has.1))
of_all P (g ∷ gs) given all has = elim (in_front g given gs has) [ inl e ↦ subst (λ (x : ℕ × Command). P x.0) e all.0 | inr more ↦ of_all P gs given all.1 more ]

-- those of later tickets are after the first
behind : {S : Type 0} (told : S → Command) (g : ℕ × Command) (gs : List (ℕ × Command)) (ks : List (KeptChange S)) → AllByRecursion (λ u. g.0 < u) (tickets_of ks) →
    AllByRecursion (λ given. Contains (g ∷ gs) given) (told_of told ks) → AllByRecursion (λ given. Contains gs given) (told_of told ks)
behind told g gs [] above has = tt
behind told g gs (k ∷ ks) above has =
    let less : g.0 < k.ticket = above.0 in
    let here : Contains gs (k.ticket, told k.saved) = elim (in_front g (k.ticket, told k.saved) gs has.0) [
      | inl e ↦ let same : g.0 ≡ k.ticket = ap first_of e in absurd (omega (arith, less, same))
      | inr more ↦ more
    ] in
    (here, behind told g gs ks above.1 has.1)

picked : {S : Type 0} (told : S → Command) (gs : List (ℕ × Command)) (ks : List (KeptChange S)) → AreAscending (map first_of gs) → AreAscending (tickets_of ks) →
    AllByRecursion (λ given. Contains gs given) (told_of told ks) → filter_map (λ (g : ℕ × Command). option_map (made_of g) (look ks g.0)) gs ≡ held_in told ks
picked told [] [] up down has = refl
picked told [] (k ∷ ks) up down has = absurd (omega (arith, has.0.1))
picked told (g ∷ gs) [] up down has = picked told gs [] up.1 tt tt
picked {S} told (g ∷ gs) (k ∷ ks) up down has =
    let own : ℕ × Command = (k.ticket, told k.saved) in
    elim (cases_Bool (k.ticket == g.0)) [
      | inl same ↦
          let is : k.ticket ≡ g.0 = eqb-true k.ticket g.0 same in
          let pair : g ≡ own = elim (in_front g own gs has.0) [
            | inl e ↦ e
            | inr more ↦ let less : g.0 < k.ticket = of_all (λ u. g.0 < u) gs own up.0 more in absurd (omega (arith, less, is))
          ] in
          let above : AllByRecursion (λ u. k.ticket < u) (map first_of gs) = subst (λ (n : ℕ). AllByRecursion (λ u. n < u) (map first_of gs)) (sym is) up.0 in
          let later : AllByRecursion (λ u. g.0 < u) (tickets_of ks) = subst (λ (n : ℕ). AllByRecursion (λ u. n < u) (tickets_of ks)) is down.0 in
          rw same (ap (λ (l : List Journalled). made_of g (is_done k.standing) ∷ l) (passed k ks gs above ∙ picked told gs ks up.1 down.1 (behind told g gs ks later has.1))
          ∙ ap (λ (p : ℕ × Command). made_of p (is_done k.standing) ∷ held_in told ks) pair)
      | inr other ↦
          let inside : Contains gs own = elim (in_front g own gs has.0) [
            | inl e ↦ let same : k.ticket ≡ g.0 = sym (ap first_of e) in absurd (false≢true (sym other ∙ eq-eqb k.ticket g.0 same))
            | inr more ↦ more
          ] in
          let less : g.0 < k.ticket = of_all (λ u. g.0 < u) gs own up.0 inside in
          let later : AllByRecursion (λ u. g.0 < u) (tickets_of ks) = all_weaker (λ u. k.ticket < u) (λ u. g.0 < u) (λ u more. omega (arith, less, more)) (tickets_of ks) down.0 in
          rw (other, absent ks g.0 later) (picked told gs (k ∷ ks) up.1 down (inside, behind told g gs ks later has.1))
    ]

pub held_commands : {S : Type 0} (table : S → Option ℕ) (told : S → Command) (changes : Changes S) (past : Past) → AreChanges table changes →
    done_of changes ≡ past.marks.done → changes.undone ≡ past.marks.undone → AreGiven told changes past → held_in told changes.kept ≡ commands_of past
held_commands table told changes past are done undone given =
    let marks = past.marks in
    let one : (g : ℕ × Command) → held_with marks g.0 g.1 ≡ option_map (made_of g) (look changes.kept g.0)
    = λ g. ap (option_map (made_of g)) (held_is_look table changes marks g.0 are done undone) in
    sym (of_given marks past.log
    ∙ ap (λ (f : ℕ × Command → Option Journalled). filter_map f (given_in past.log)) (fun_ext one)
    ∙ picked told (given_in past.log) changes.kept given.ascending are.ascending given.kept)

-- ---- one place after another

pub one_there : {X : Type 0} (xs : List X) (n : ℕ) (x : X) → slice_get xs n ≡ Some x → take 1 (drop n xs) ≡ x ∷ []
one_there [] n x e = absurd cc
one_there (y ∷ xs) zero x e = let same : y ≡ x = cc in ap (λ (z : _). z ∷ []) same
one_there (y ∷ xs) (suc n) x e = one_there xs n x e

pub none_there : {X : Type 0} (xs : List X) (n : ℕ) → slice_get xs n ≡ None → take 1 (drop n xs) ≡ []
none_there [] zero e = refl
none_there [] (suc n) e = refl
none_there (y ∷ xs) zero e = absurd cc
none_there (y ∷ xs) (suc n) e = none_there xs n e

next_suc : (n : ℕ) → suc n + 1 ≡ suc (n + 1)
next_suc n = omega arith

take_next : {X : Type 0} (xs : List X) (n : ℕ) → take (n + 1) xs ≡ take n xs ++ take 1 (drop n xs)
take_next [] zero = refl
take_next {X} [] (suc n) = ap (λ (m : ℕ). take {A = X} m []) (next_suc n)
take_next (y ∷ xs) zero = refl
take_next {X} (y ∷ xs) (suc n) = ap (λ (m : ℕ). take m (y ∷ xs)) (next_suc n) ∙ ap (λ (l : List X). y ∷ l) (take_next xs n)

pub held_next : {S : Type 0} (told : S → Command) (kept : List (KeptChange S)) (n : ℕ) → held_in told (take (n + 1) kept) ≡ held_in told (take n kept) ++ held_in told (take 1 (drop n kept))
held_next told kept n = ap (held_in told) (take_next kept n) ∙ map-append (held_one told) (take n kept) (take 1 (drop n kept))
