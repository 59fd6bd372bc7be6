-- Rows one after another, and the ring at its ends.
use Rattle.std.proofs.Common.{◌≡◌, ◌≢◌, ℕ, zero, suc, ◌+◌, ◌-◌, ◌<◌, ◌≤◌, Bool, true, false, cond, Option, Some, List, [], ◌∷◌, ◌++◌, length, drop, refl, sym, ap, subst, ◌∙◌, arith, rules, length-append, length-drop, append_assoc}
use Rattle.std.proofs.lemmas.Bool.{false≢true}
use Rattle.std.proofs.lemmas.List.{append-nil}
use Rattle.std.proofs.lemmas.List.Elements.{filter-append}
use Rattle.std.specs.Prelude.{not, slice_get}
use Rattle.std.specs.List.{AllByRecursion}
use Rattle.dns_name.specs.ListLaws.{all-append, all-drop, all_split, all_weaker}
use Rattle.circular_buffer.specs.Buffer.{Buffer, buffer, keep_last}
use Rattle.change_law.specs.declared.kept.KeptChange.{KeptChange}
use Rattle.change_law.specs.declared.kept.Standing.{Standing}
use Rattle.change_law.specs.declared.kept.Standing.TheVariants.{Done, Undone, Cleared}
use Rattle.change_law.specs.Choice.{IsOneTable, AreLeftOut, AllowsAt, IsChoice, IsPresent, IsUncovered, is_done, clear, cleared, cleared_one}
use Rattle.change_law.specs.Face.{Face, IsSame}
use Rattle.change_law.specs.Row.{kept_as, IsRowAfter, same_face}
use Rattle.undo_journal.specs.Journal.{AreAscending, AreChanges, AreInTurn, Changes, IsClosed, in_effect, out_of_effect, standing_in, tickets_of}
use Rattle.undo_journal.specs.Settling.{IsTurned, TurnsFirst}
use Rattle.undo_journal.proofs.RingLaws.{Done≢Undone, all_back, all_both, all_filter, all_images, all_pass, length_filter}
use Rattle.undo_journal.proofs.ReachLaws.{drop_at}
use Rattle.undo_journal.specs.TicketLaws.{asc_filter}
pub use Rattle.undo_journal.specs.TicketLaws.{all_in_effect, in_effect_done}

pub same_then : {T : Type 0} {a b c : Face T} → IsSame a b → IsSame b c → IsSame a c
same_then f g = record { tables = f.tables ∙ g.tables; cell = λ q. f.cell q ∙ g.cell q }

pub same_itself : {T : Type 0} (a : Face T) → IsSame a a
same_itself a = record { tables = refl; cell = λ q. refl }

-- ---- rows

module _ {W S T : Type 0} (table : S → Option ℕ) (keeps : W → List (KeptChange S) → Type 0) (face : W → List (KeptChange S) → (ℕ → Bool) → Face T) where
  -- what leaves the faces of some choices, after another change of the row
  pub row_then : (made : (ℕ → Bool) → Face T → Face T) (P Q R : (ℕ → Bool) → Type 0) (w w' w'' : W) (k k' k'' : List (KeptChange S)) →
      IsRowAfter table keeps face made P w k w' k' → IsRowAfter table keeps face same_face Q w' k' w'' k'' →
      ((chosen : ℕ → Bool) → R chosen → P chosen) → ((chosen : ℕ → Bool) → R chosen → Q chosen) →
      ((chosen : ℕ → Bool) → R chosen → IsChoice table k'' chosen → IsChoice table k' chosen) →
      IsRowAfter table keeps face made R w k w'' k''
  row_then made P Q R w w' w'' k k' k'' row next first second back = record {
    keeps_left = next.keeps_left;
    faces = λ chosen h choice. same_then (next.faces chosen (second chosen h) choice) (row.faces chosen (first chosen h) (back chosen h choice));
  }

  pub row_same : (w : W) (k : List (KeptChange S)) (P : (ℕ → Bool) → Type 0) → keeps w k → IsRowAfter table keeps face same_face P w k w k
  row_same w k P h = record { keeps_left = h; faces = λ chosen p choice. same_itself (face w k chosen) }

-- ---- choices

module _ {S : Type 0} (table : S → Option ℕ) (chosen : ℕ → Bool) where
  allows_more : (standing : Standing) (k : KeptChange S) (later more : List (KeptChange S)) → (AreLeftOut table chosen k.saved later → AreLeftOut table chosen k.saved more) →
      AllowsAt table chosen standing k later → AllowsAt table chosen standing k more
  allows_more Cleared k later more f h = h
  allows_more Done k later more f h = λ out. f (h out)
  allows_more Undone k later more f h = λ out. f (h out)

  left_out_with : (saved : S) (earlier : List (KeptChange S)) (one : KeptChange S) (later : List (KeptChange S)) → chosen one.ticket ≡ false →
      AreLeftOut table chosen saved (earlier ++ later) → AreLeftOut table chosen saved (earlier ++ one ∷ later)
  left_out_with saved earlier one later out h =
      let parts = all_split (λ k. IsOneTable (table saved) (table k.saved) → chosen k.ticket ≡ false) earlier later h in
      all-append _ earlier (one ∷ later) parts.0 (λ same. out, parts.1)

  -- a cleared one that is left out may be anywhere
  pub choice_with_cleared : (earlier : List (KeptChange S)) (ticket : ℕ) (saved : S) (later : List (KeptChange S)) → chosen ticket ≡ false →
      IsChoice table (earlier ++ later) chosen → IsChoice table (earlier ++ kept_as Cleared ticket saved ∷ later) chosen
  choice_with_cleared [] ticket saved later out h = (out, h)
  choice_with_cleared (k ∷ earlier) ticket saved later out h = (
    allows_more k.standing k (earlier ++ later) (earlier ++ kept_as Cleared ticket saved ∷ later) (left_out_with k.saved earlier (kept_as Cleared ticket saved) later out) h.0,
    choice_with_cleared earlier ticket saved later out h.1,
  )

  -- one that is in force and is chosen may be first
  pub choice_with_oldest : (ticket : ℕ) (saved : S) (later : List (KeptChange S)) → chosen ticket ≡ true →
      IsChoice table later chosen → IsChoice table (kept_as Done ticket saved ∷ later) chosen
  choice_with_oldest ticket saved later is h = (λ out. absurd (search rules), h)

-- ---- what is a choice after is one before

module _ {S : Type 0} (table : S → Option ℕ) (chosen : ℕ → Bool) where
  one_table : (a a' b : Option ℕ) → a' ≡ a → IsOneTable a b → IsOneTable a' b
  one_table a a' b e h = subst (λ (x : Option ℕ). IsOneTable x b) (sym e) h

  one_table_right : (a b b' : Option ℕ) → b' ≡ b → IsOneTable a b → IsOneTable a b'
  one_table_right a b b' e h = subst (λ (x : Option ℕ). IsOneTable a x) (sym e) h

  left_out_as : (saved : S) (earlier : List (KeptChange S)) (k k' : KeptChange S) (later : List (KeptChange S)) → k'.ticket ≡ k.ticket → table k'.saved ≡ table k.saved →
      AreLeftOut table chosen saved (earlier ++ k' ∷ later) → AreLeftOut table chosen saved (earlier ++ k ∷ later)
  left_out_as saved earlier k k' later t e h =
      let parts = all_split (λ x. IsOneTable (table saved) (table x.saved) → chosen x.ticket ≡ false) earlier (k' ∷ later) h in
      all-append _ earlier (k ∷ later) parts.0 (λ same. ap chosen (sym t) ∙ parts.1.0 (one_table_right (table saved) (table k.saved) (table k'.saved) e same), parts.1.1)

  free : (standing : Standing) (k : KeptChange S) (later : List (KeptChange S)) → (chosen k.ticket ≡ false → AreLeftOut table chosen k.saved later) → standing ≢ Cleared → AllowsAt table chosen standing k later
  free Done k later h n = h
  free Undone k later h n = h
  free Cleared k later h n = absurd (n refl)

  left_at : (standing : Standing) (k : KeptChange S) (later : List (KeptChange S)) → AllowsAt table chosen standing k later → standing ≢ Cleared → chosen k.ticket ≡ false → AreLeftOut table chosen k.saved later
  left_at Done k later h n = h
  left_at Undone k later h n = h
  left_at Cleared k later h n = absurd (n refl)

  -- a kept change that is undone or redone
  pub choice_as : (earlier : List (KeptChange S)) (k k' : KeptChange S) (later : List (KeptChange S)) → k'.ticket ≡ k.ticket → table k'.saved ≡ table k.saved → k.standing ≢ Cleared → k'.standing ≢ Cleared →
      IsChoice table (earlier ++ k' ∷ later) chosen → IsChoice table (earlier ++ k ∷ later) chosen
  choice_as [] k k' later t e n n' h =
      (free k.standing k later (λ out. all_weaker _ _ (λ x f same. f (one_table (table k.saved) (table k'.saved) (table x.saved) e same)) later (left_at k'.standing k' later h.0 n' (ap chosen t ∙ out))) n, h.1)
  choice_as (x ∷ earlier) k k' later t e n n' h =
      (allows_more table chosen x.standing x (earlier ++ k' ∷ later) (earlier ++ k ∷ later) (left_out_as x.saved earlier k k' later t e) h.0, choice_as earlier k k' later t e n n' h.1)

  -- the first of them
  pub choice_front : (xs ys : List (KeptChange S)) → IsChoice table (xs ++ ys) chosen → IsChoice table xs chosen
  choice_front [] ys h = tt
  choice_front (x ∷ xs) ys h =
      (allows_more table chosen x.standing x (xs ++ ys) xs (λ all. (all_split (λ k. IsOneTable (table x.saved) (table k.saved) → chosen k.ticket ≡ false) xs ys all).0) h.0, choice_front xs ys h.1)

-- ---- choices, with the changes that were not in effect

module _ {S : Type 0} (table : S → Option ℕ) (chosen : ℕ → Bool) where
  -- None of these is chosen.
  abbrev pub AreOut : List (KeptChange S) → Type 0
  AreOut gone = AllByRecursion (λ k. chosen k.ticket ≡ false) gone

  pub present_out : (kept : List (KeptChange S)) → IsPresent (out_of_effect kept) chosen → AreOut (out_of_effect kept)
  present_out kept p =
      all_both (λ (k : KeptChange S). not (is_done k.standing) ≡ true) (λ k. chosen k.ticket ≡ is_done k.standing) (λ k. chosen k.ticket ≡ false) (λ k n e. e ∙ not_true (is_done k.standing) n) (out_of_effect kept)
      (all_pass (λ k. not (is_done k.standing)) kept) p
    where
      not_true : (b : Bool) → not b ≡ true → b ≡ false
      not_true true e = absurd (false≢true e)
      not_true false e = refl

  -- what is left out among those in effect is left out among all, if the others are
  left_out_all : (saved : S) (kept tail : List (KeptChange S)) → AreOut (out_of_effect kept) → AreLeftOut table chosen saved (in_effect kept ++ tail) → AreLeftOut table chosen saved (cleared kept ++ tail)
  left_out_all saved [] tail out h = h
  left_out_all saved (k ∷ kept) tail out h = by (is_done k.standing) (left_out_all saved kept tail) out h
    where
      by : (b : Bool) → (AreOut (out_of_effect kept) → AreLeftOut table chosen saved (in_effect kept ++ tail) → AreLeftOut table chosen saved (cleared kept ++ tail)) →
          AreOut (cond (not b) (k ∷ out_of_effect kept) (out_of_effect kept)) → AreLeftOut table chosen saved (cond b (k ∷ in_effect kept) (in_effect kept) ++ tail) →
          AreLeftOut table chosen saved (cleared (k ∷ kept) ++ tail)
      by true more out h = (h.0, more out h.1)
      by false more out h = (λ same. out.0, more out.1 h)

  left_out_kept : (saved : S) (kept : List (KeptChange S)) → AreOut (out_of_effect kept) → AreLeftOut table chosen saved (in_effect kept) → AreLeftOut table chosen saved kept
  left_out_kept saved [] out h = h
  left_out_kept saved (k ∷ kept) out h = by (is_done k.standing) (left_out_kept saved kept) out h
    where
      by : (b : Bool) → (AreOut (out_of_effect kept) → AreLeftOut table chosen saved (in_effect kept) → AreLeftOut table chosen saved kept) →
          AreOut (cond (not b) (k ∷ out_of_effect kept) (out_of_effect kept)) → AreLeftOut table chosen saved (cond b (k ∷ in_effect kept) (in_effect kept)) →
          AreLeftOut table chosen saved (k ∷ kept)
      by true more out h = (h.0, more out h.1)
      by false more out h = (λ same. out.0, more out.1 h)

  left_out_closed : (saved : S) (kept : List (KeptChange S)) → AreOut (out_of_effect kept) → IsUncovered table saved kept → AreLeftOut table chosen saved kept
  left_out_closed saved [] out u = tt
  left_out_closed saved (k ∷ kept) out u = by k.standing (λ o. left_out_closed saved kept o u.1) out u.0
    where
      by : (s : Standing) → (AreOut (out_of_effect kept) → AreLeftOut table chosen saved kept) →
          AreOut (cond (not (is_done s)) (k ∷ out_of_effect kept) (out_of_effect kept)) → (IsOneTable (table saved) (table k.saved) → s ≢ Done) → AreLeftOut table chosen saved (k ∷ kept)
      by Done more out h = (λ same. absurd (h same refl), more out)
      by Undone more out h = (λ same. out.0, more out.1)
      by Cleared more out h = (λ same. out.0, more out.1)

  -- those that are cleared may be anywhere
  pub choice_with_gone : (kept tail : List (KeptChange S)) → AreOut (out_of_effect kept) → IsChoice table (in_effect kept ++ tail) chosen → IsChoice table (cleared kept ++ tail) chosen
  choice_with_gone [] tail out h = h
  choice_with_gone (k ∷ kept) tail out h = by k.standing refl (choice_with_gone kept tail) out h
    where
      by : (s : Standing) → k.standing ≡ s → (AreOut (out_of_effect kept) → IsChoice table (in_effect kept ++ tail) chosen → IsChoice table (cleared kept ++ tail) chosen) →
          AreOut (cond (not (is_done s)) (k ∷ out_of_effect kept) (out_of_effect kept)) →
          IsChoice table (cond (is_done s) (k ∷ in_effect kept) (in_effect kept) ++ tail) chosen →
          AllowsAt table chosen (clear s) (cleared_one k) (cleared kept ++ tail) × IsChoice table (cleared kept ++ tail) chosen
      by Done e more out h =
          let own : AllowsAt table chosen Done k (in_effect kept ++ tail) = subst (λ (s : Standing). AllowsAt table chosen s k (in_effect kept ++ tail)) e h.0 in
          (λ f. left_out_all k.saved kept tail out (own f), more out h.1)
      by Undone e more out h = (out.0, more out.1 h)
      by Cleared e more out h = (out.0, more out.1 h)

  -- and so may those that are undone, since no later one of their table is in effect
  pub choice_with_undone : (kept : List (KeptChange S)) → IsClosed table kept → AreOut (out_of_effect kept) → IsChoice table (in_effect kept) chosen → IsChoice table kept chosen
  choice_with_undone [] closed out h = tt
  choice_with_undone (k ∷ kept) closed out h = by k.standing refl (choice_with_undone kept closed.1) out h
    where
      by : (s : Standing) → k.standing ≡ s → (AreOut (out_of_effect kept) → IsChoice table (in_effect kept) chosen → IsChoice table kept chosen) →
          AreOut (cond (not (is_done s)) (k ∷ out_of_effect kept) (out_of_effect kept)) →
          IsChoice table (cond (is_done s) (k ∷ in_effect kept) (in_effect kept)) chosen → AllowsAt table chosen k.standing k kept × IsChoice table kept chosen
      by Done e more out h =
          let own : AllowsAt table chosen Done k (in_effect kept) = subst (λ (s : Standing). AllowsAt table chosen s k (in_effect kept)) e h.0 in
          let here : AllowsAt table chosen Done k kept = λ f. left_out_kept k.saved kept out (own f) in
          (subst (λ (s : Standing). AllowsAt table chosen s k kept) (sym e) here, more out h.1)
      by Undone e more out h =
          let here : AllowsAt table chosen Undone k kept = λ f. left_out_closed k.saved kept out.1 (closed.0 e) in
          (subst (λ (s : Standing). AllowsAt table chosen s k kept) (sym e) here, more out.1 h)
      by Cleared e more out h = (subst (λ (s : Standing). AllowsAt table chosen s k kept) (sym e) out.0, more out.1 h)

  -- with the oldest, which are in effect and chosen
  pub choice_with_old : (old rest : List (KeptChange S)) → AllByRecursion (λ k. k.standing ≡ Done) old → IsPresent old chosen → IsChoice table rest chosen → IsChoice table (old ++ rest) chosen
  choice_with_old [] rest done p h = h
  choice_with_old (k ∷ old) rest done p h =
      let here : AllowsAt table chosen Done k (old ++ rest) = λ out. absurd (false≢true (sym out ∙ (p.0 ∙ ap is_done done.0))) in
      (subst (λ (s : Standing). AllowsAt table chosen s k (old ++ rest)) (sym done.0) here, choice_with_old old rest done.1 p.1 h)

-- ---- what is settled one by one

pub present_append : {S : Type 0} (chosen : ℕ → Bool) (xs ys : List (KeptChange S)) → IsPresent (xs ++ ys) chosen → IsPresent xs chosen × IsPresent ys chosen
present_append chosen xs ys p = all_split (λ k. chosen k.ticket ≡ is_done k.standing) xs ys p

-- So many were looked at, from the front. Those in effect are at the end of the ring now, and the world keeps no other of them.
pub record IsClearing {W S T : Type 0} (table : S → Option ℕ) (keeps : W → List (KeptChange S) → Type 0) (face : W → List (KeptChange S) → (ℕ → Bool) → Face T)
    (before : W) (all : List (KeptChange S)) (after : W) (items : List (KeptChange S)) (count : ℕ) : Type 0 where
  pub past : List (KeptChange S)
  pub ahead : List (KeptChange S)
  pub parts : all ≡ past ++ ahead
  pub counted : length past ≡ count
  pub ring : items ≡ ahead ++ in_effect past
  pub row : (tail : List (KeptChange S)) → keeps before (cleared all ++ tail) →
      IsRowAfter table keeps face same_face (IsPresent (out_of_effect past)) before (cleared all ++ tail) after (in_effect past ++ (cleared ahead ++ tail))

module _ {W S T : Type 0} (table : S → Option ℕ) (keeps : W → List (KeptChange S) → Type 0) (face : W → List (KeptChange S) → (ℕ → Bool) → Face T) where
  pub clearing_none : (world : W) (all : List (KeptChange S)) → IsClearing table keeps face world all world all 0
  clearing_none world all = record {
    past = [];
    ahead = all;
    parts = refl;
    counted = refl;
    ring = sym (append-nil all);
    row = λ tail h. row_same table keeps face world (cleared all ++ tail) (IsPresent {S = S} []) h;
  }

  -- one that is in effect
  clearing_kept : (before : W) (all : List (KeptChange S)) (world : W) (past ahead : List (KeptChange S)) (a : KeptChange S) (items : List (KeptChange S)) (count : ℕ) → is_done a.standing ≡ true →
      all ≡ past ++ a ∷ ahead → length past ≡ count → items ≡ (ahead ++ in_effect past) ++ a ∷ [] →
      ((tail : List (KeptChange S)) → keeps before (cleared all ++ tail) →
      IsRowAfter table keeps face same_face (IsPresent (out_of_effect past)) before (cleared all ++ tail) world (in_effect past ++ (cleared (a ∷ ahead) ++ tail))) →
      IsClearing table keeps face before all world items (count + 1)
  clearing_kept before all world past ahead a items count done parts counted ring row =
      let here : in_effect (past ++ a ∷ []) ≡ in_effect past ++ a ∷ [] = filter-append (λ k. is_done k.standing) past (a ∷ []) ∙ ap (λ (b : Bool). in_effect past ++ cond b (a ∷ []) []) done in
      let gone : out_of_effect (past ++ a ∷ []) ≡ out_of_effect past
      = filter-append (λ k. not (is_done k.standing)) past (a ∷ []) ∙ ap (λ (b : Bool). out_of_effect past ++ cond (not b) (a ∷ []) []) done ∙ append-nil (out_of_effect past) in
      let own : cleared_one a ≡ a = λ i. record { ticket = a.ticket; standing = clear_done a.standing done i; saved = a.saved } in
      record {
        past = past ++ a ∷ [];
        ahead = ahead;
        parts = parts ∙ sym (append_assoc past (a ∷ []) ahead);
        counted = omega (arith, length-append past (a ∷ []), counted);
        ring = ring ∙ append_assoc ahead (in_effect past) (a ∷ []) ∙ ap (λ (l : List (KeptChange S)). ahead ++ l) (sym here);
        row = λ tail h.
            let moved : in_effect past ++ (cleared (a ∷ ahead) ++ tail) ≡ in_effect (past ++ a ∷ []) ++ (cleared ahead ++ tail)
            = ap (λ (x : KeptChange S). in_effect past ++ (x ∷ (cleared ahead ++ tail))) own ∙ sym (append_assoc (in_effect past) (a ∷ []) (cleared ahead ++ tail)) ∙ ap (λ (l : List (KeptChange S)). l ++ (cleared ahead ++ tail)) (sym here) in
            let next = subst (λ (l : List (KeptChange S)). IsRowAfter table keeps face same_face (IsPresent (out_of_effect past)) before (cleared all ++ tail) world l) moved (row tail h) in
            subst (λ (l : List (KeptChange S)). IsRowAfter table keeps face same_face (IsPresent l) before (cleared all ++ tail) world (in_effect (past ++ a ∷ []) ++ (cleared ahead ++ tail))) (sym gone) next;
      }
    where
      clear_done : (s : Standing) → is_done s ≡ true → clear s ≡ s
      clear_done Done e = refl
      clear_done Undone e = absurd (false≢true e)
      clear_done Cleared e = absurd (false≢true e)

  -- one that is not
  clearing_gone : (before : W) (all : List (KeptChange S)) (world : W) (past ahead : List (KeptChange S)) (a : KeptChange S) (world' : W) (items : List (KeptChange S)) (count : ℕ) → is_done a.standing ≡ false →
      all ≡ past ++ a ∷ ahead → length past ≡ count → items ≡ ahead ++ in_effect past →
      ((tail : List (KeptChange S)) → keeps before (cleared all ++ tail) →
      IsRowAfter table keeps face same_face (IsPresent (out_of_effect past)) before (cleared all ++ tail) world (in_effect past ++ (cleared (a ∷ ahead) ++ tail))) →
      ((earlier later : List (KeptChange S)) → keeps world (earlier ++ kept_as Cleared a.ticket a.saved ∷ later) →
      IsRowAfter table keeps face same_face (λ chosen. chosen a.ticket ≡ false) world (earlier ++ kept_as Cleared a.ticket a.saved ∷ later) world' (earlier ++ later)) →
      IsClearing table keeps face before all world' items (count + 1)
  clearing_gone before all world past ahead a world' items count out parts counted ring row settle =
      let here : in_effect (past ++ a ∷ []) ≡ in_effect past
      = filter-append (λ k. is_done k.standing) past (a ∷ []) ∙ ap (λ (b : Bool). in_effect past ++ cond b (a ∷ []) []) out ∙ append-nil (in_effect past) in
      let gone : out_of_effect (past ++ a ∷ []) ≡ out_of_effect past ++ a ∷ []
      = filter-append (λ k. not (is_done k.standing)) past (a ∷ []) ∙ ap (λ (b : Bool). out_of_effect past ++ cond (not b) (a ∷ []) []) out in
      let own : cleared_one a ≡ kept_as Cleared a.ticket a.saved = λ i. record { ticket = a.ticket; standing = clear_out a.standing out i; saved = a.saved } in
      record {
        past = past ++ a ∷ [];
        ahead = ahead;
        parts = parts ∙ sym (append_assoc past (a ∷ []) ahead);
        counted = omega (arith, length-append past (a ∷ []), counted);
        ring = ring ∙ ap (λ (l : List (KeptChange S)). ahead ++ l) (sym here);
        row = λ tail h.
            let rest = cleared ahead ++ tail in
            let first = subst (λ (x : KeptChange S). IsRowAfter table keeps face same_face (IsPresent (out_of_effect past)) before (cleared all ++ tail) world (in_effect past ++ (x ∷ rest))) own (row tail h) in
            let both = row_then table keeps face same_face (IsPresent (out_of_effect past)) (λ chosen. chosen a.ticket ≡ false) (IsPresent (out_of_effect past ++ a ∷ [])) before world world'
            (cleared all ++ tail) (in_effect past ++ kept_as Cleared a.ticket a.saved ∷ rest) (in_effect past ++ rest) first (settle (in_effect past) rest first.keeps_left)
            (λ chosen p. (present_append chosen (out_of_effect past) (a ∷ []) p).0)
            (λ chosen p. (present_append chosen (out_of_effect past) (a ∷ []) p).1.0 ∙ out)
            (λ chosen p choice. choice_with_cleared table chosen (in_effect past) a.ticket a.saved rest ((present_append chosen (out_of_effect past) (a ∷ []) p).1.0 ∙ out) choice) in
            subst (λ (l : List (KeptChange S)). IsRowAfter table keeps face same_face (IsPresent l) before (cleared all ++ tail) world' (in_effect (past ++ a ∷ []) ++ rest)) (sym gone)
            (subst (λ (l : List (KeptChange S)). IsRowAfter table keeps face same_face (IsPresent (out_of_effect past ++ a ∷ [])) before (cleared all ++ tail) world' (l ++ rest)) (sym here) both);
      }
    where
      clear_out : (s : Standing) → is_done s ≡ false → clear s ≡ Cleared
      clear_out Done e = absurd (false≢true (sym e))
      clear_out Undone e = refl
      clear_out Cleared e = refl

  pub clearing_more : (before : W) (all : List (KeptChange S)) (world : W) (ring : Buffer (KeptChange S)) (count : ℕ) (world' : W) (ring' : Buffer (KeptChange S)) →
      IsClearing table keeps face before all world ring.items count → count < length all → TurnsFirst table keeps face world ring world' ring' → IsClearing table keeps face before all world' ring'.items (count + 1)
  clearing_more before all world ring count world' ring' so within is = ahead_of so.ahead refl
    where
      turned_by : (a : KeptChange S) (ahead : List (KeptChange S)) → all ≡ so.past ++ a ∷ ahead → ring.items ≡ a ∷ (ahead ++ in_effect so.past) →
          ((tail : List (KeptChange S)) → keeps before (cleared all ++ tail) →
          IsRowAfter table keeps face same_face (IsPresent (out_of_effect so.past)) before (cleared all ++ tail) world (in_effect so.past ++ (cleared (a ∷ ahead) ++ tail))) →
          (b : Bool) → is_done a.standing ≡ b → IsTurned table keeps face b a world (ahead ++ in_effect so.past) world' ring'.items → IsClearing table keeps face before all world' ring'.items (count + 1)
      turned_by a ahead parts items row true e turned =
          subst (λ (w : W). IsClearing table keeps face before all w ring'.items (count + 1)) (sym turned.1)
          (clearing_kept before all world so.past ahead a ring'.items count e parts so.counted turned.0 row)
      turned_by a ahead parts items row false e turned = clearing_gone before all world so.past ahead a world' ring'.items count e parts so.counted turned.0 row turned.1

      ahead_of : (ahead : List (KeptChange S)) → so.ahead ≡ ahead → IsClearing table keeps face before all world' ring'.items (count + 1)
      ahead_of [] e =
          let whole : length all ≡ length so.past = ap (λ (l : List (KeptChange S)). length l) (so.parts ∙ ap (λ (l : List (KeptChange S)). so.past ++ l) e ∙ append-nil so.past) in
          absurd (omega (arith, whole, so.counted, within))
      ahead_of (a ∷ ahead) e =
          let items : ring.items ≡ a ∷ (ahead ++ in_effect so.past) = so.ring ∙ ap (λ (l : List (KeptChange S)). l ++ in_effect so.past) e in
          let same : is.first ∷ is.rest ≡ a ∷ (ahead ++ in_effect so.past) = sym is.split ∙ items in
          let first : is.first ≡ a = cc in
          let rest : is.rest ≡ ahead ++ in_effect so.past = cc in
          turned_by a ahead (so.parts ∙ ap (λ (l : List (KeptChange S)). so.past ++ l) e) items
          (λ tail h. subst (λ (l : List (KeptChange S)). IsRowAfter table keeps face same_face (IsPresent (out_of_effect so.past)) before (cleared all ++ tail) world (in_effect so.past ++ (cleared l ++ tail))) e (so.row tail h))
          (is_done a.standing) refl
          (subst (λ (x : KeptChange S). IsTurned table keeps face (is_done x.standing) x world (ahead ++ in_effect so.past) world' ring'.items) first
          (subst (λ (l : List (KeptChange S)). IsTurned table keeps face (is_done is.first.standing) is.first world l world' ring'.items) rest is.turned))

  -- after all were looked at
  pub clearing_all : (before : W) (all : List (KeptChange S)) (after : W) (items : List (KeptChange S)) (count : ℕ) → IsClearing table keeps face before all after items count → length all ≤ count →
      (items ≡ in_effect all) × ((tail : List (KeptChange S)) → keeps before (cleared all ++ tail) →
      IsRowAfter table keeps face same_face (IsPresent (out_of_effect all)) before (cleared all ++ tail) after (in_effect all ++ tail))
  clearing_all before all after items count so done = by so.ahead refl
    where
      by : (ahead : List (KeptChange S)) → so.ahead ≡ ahead → (items ≡ in_effect all) × ((tail : List (KeptChange S)) → keeps before (cleared all ++ tail) →
          IsRowAfter table keeps face same_face (IsPresent (out_of_effect all)) before (cleared all ++ tail) after (in_effect all ++ tail))
      by [] e =
          let whole : so.past ≡ all = sym (so.parts ∙ ap (λ (l : List (KeptChange S)). so.past ++ l) e ∙ append-nil so.past) in (
            so.ring ∙ ap (λ (l : List (KeptChange S)). l ++ in_effect so.past) e ∙ ap in_effect whole,
            λ tail h.
                subst (λ (l : List (KeptChange S)). IsRowAfter table keeps face same_face (IsPresent (out_of_effect l)) before (cleared all ++ tail) after (in_effect l ++ tail)) whole
                (subst (λ (l : List (KeptChange S)). IsRowAfter table keeps face same_face (IsPresent (out_of_effect so.past)) before (cleared all ++ tail) after (in_effect so.past ++ (cleared l ++ tail))) e (so.row tail h)),
          )
      by (a ∷ ahead) e =
          let whole : length all ≡ length so.past + suc (length ahead) = ap (λ (l : List (KeptChange S)). length l) (so.parts ∙ ap (λ (l : List (KeptChange S)). so.past ++ l) e) ∙ length-append so.past (a ∷ ahead) in
          absurd (omega (arith, whole, so.counted, done))

-- ---- the first change of the ring

pub kept_all : {X : Type 0} (xs : List X) (x : X) (limit : ℕ) → length xs < limit → drop (length (xs ++ x ∷ []) - limit) (xs ++ x ∷ []) ≡ xs ++ x ∷ []
kept_all xs x limit room =
    let none : length (xs ++ x ∷ []) - limit ≡ 0 = omega (arith, length-append xs (x ∷ [])) in
    rw none refl

module _ {W S T : Type 0} (table : S → Option ℕ) (keeps : W → List (KeptChange S) → Type 0) (face : W → List (KeptChange S) → (ℕ → Bool) → Face T)
    (world : W) (ring : Buffer (KeptChange S)) (first : KeptChange S) (there : slice_get ring.items 0 ≡ Some first) (mid : Buffer (KeptChange S)) (popped : mid ≡ buffer (drop 1 ring.items) ring.capacity) where
  abbrev rest : List (KeptChange S)
  rest = drop 1 ring.items

  -- it is in effect, and comes back at the end
  pub turns_done : (left : Buffer (KeptChange S)) → left ≡ buffer (keep_last mid.capacity (mid.items ++ first ∷ [])) mid.capacity → length ring.items ≤ ring.capacity → is_done first.standing ≡ true →
      TurnsFirst table keeps face world ring world left
  turns_done left pushed within done =
      let split : ring.items ≡ first ∷ rest = drop_at ring.items 0 first there in
      let long : length ring.items ≡ suc (length rest) = ap (λ (l : List (KeptChange S)). length l) split in
      let room : length rest < ring.capacity = omega (arith, long, within) in
      let all : left ≡ buffer (rest ++ first ∷ []) ring.capacity
      = pushed ∙ ap (λ (b : Buffer (KeptChange S)). buffer (keep_last b.capacity (b.items ++ first ∷ [])) b.capacity) popped ∙ ap (λ (l : List (KeptChange S)). buffer l ring.capacity) (kept_all rest first ring.capacity room) in
      record {
        first = first;
        rest = rest;
        split = split;
        turned = subst (λ (b : Bool). IsTurned table keeps face b first world rest world left.items) (sym done) (ap (λ (b : Buffer (KeptChange S)). b.items) all, refl);
        capacity = ap (λ (b : Buffer (KeptChange S)). b.capacity) all;
      }

  -- it is not, and is settled
  pub turns_gone : (after : W) → is_done first.standing ≡ false →
      ((earlier : List (KeptChange S)) (ticket : ℕ) (later : List (KeptChange S)) → keeps world (earlier ++ kept_as Cleared ticket first.saved ∷ later) →
      IsRowAfter table keeps face same_face (λ chosen. chosen ticket ≡ false) world (earlier ++ kept_as Cleared ticket first.saved ∷ later) after (earlier ++ later)) →
      TurnsFirst table keeps face world ring after mid
  turns_gone after out settle = record {
    first = first;
    rest = rest;
    split = drop_at ring.items 0 first there;
    turned = subst (λ (b : Bool). IsTurned table keeps face b first world rest after mid.items) (sym out)
        (ap (λ (b : Buffer (KeptChange S)). b.items) popped, λ earlier later h. settle earlier first.ticket later h);
    capacity = ap (λ (b : Buffer (KeptChange S)). b.capacity) popped;
  }

-- ---- all in effect

module _ {S : Type 0} where
  pub none_undone_done : (kept : List (KeptChange S)) (undone : List ℕ) → undone ≡ [] → AllByRecursion (λ k. k.standing ≡ standing_in undone k.ticket) kept → AllByRecursion (λ k. k.standing ≡ Done) kept
  none_undone_done kept undone e h = all_weaker _ _ (λ k own. own ∙ ap (λ (l : List ℕ). standing_in l k.ticket) e) kept h

  pub asc_drop : (n : ℕ) (kept : List (KeptChange S)) → AreAscending (tickets_of kept) → AreAscending (tickets_of (drop n kept))
  asc_drop zero kept h = h
  asc_drop (suc n) [] h = tt
  asc_drop (suc n) (k ∷ kept) h = asc_drop n kept h.1

  pub asc_push : (kept : List (KeptChange S)) (k : KeptChange S) → AreAscending (tickets_of kept) → AllByRecursion (λ x. x.ticket < k.ticket) kept → AreAscending (tickets_of (kept ++ k ∷ []))
  asc_push [] k h less = (tt, tt)
  asc_push (x ∷ kept) k h less = (
    all_images (λ (y : KeptChange S). y.ticket) (λ t. x.ticket < t) (kept ++ k ∷ []) (all-append (λ y. x.ticket < y.ticket) kept (k ∷ []) (all_back (λ (y : KeptChange S). y.ticket) (λ t. x.ticket < t) kept h.0) (less.0, tt)),
    asc_push kept k h.1 less.1,
  )

cleared_done : {S : Type 0} (kept : List (KeptChange S)) → AllByRecursion (λ k. k.standing ≡ Done) kept → cleared kept ≡ kept
cleared_done [] h = refl
cleared_done {S} (k ∷ kept) h =
    let one : cleared_one k ≡ k = λ i. record { ticket = k.ticket; standing = (ap clear h.0 ∙ sym h.0) i; saved = k.saved } in
    (ap (λ (x : KeptChange S). x ∷ cleared kept) one) ∙ ap (λ (l : List (KeptChange S)). k ∷ l) (cleared_done kept h.1)

-- If nothing is undone, nothing is cleared.
pub nothing_cleared : {W S T : Type 0} (table : S → Option ℕ) (keeps : W → List (KeptChange S) → Type 0) (face : W → List (KeptChange S) → (ℕ → Bool) → Face T) (world : W) (kept tail : List (KeptChange S)) →
    AllByRecursion (λ k. k.standing ≡ Done) kept → keeps world (cleared kept ++ tail) →
    IsRowAfter table keeps face same_face (IsPresent (out_of_effect kept)) world (cleared kept ++ tail) world (kept ++ tail)
nothing_cleared {W} {S} {T} table keeps face world kept tail h there =
    subst (λ (l : List (KeptChange S)). IsRowAfter table keeps face same_face (IsPresent (out_of_effect kept)) world (cleared kept ++ tail) world (l ++ tail)) (cleared_done kept h)
    (row_same table keeps face world (cleared kept ++ tail) (IsPresent (out_of_effect kept)) there)

module _ {S : Type 0} (table : S → Option ℕ) where
  closed_done : (kept : List (KeptChange S)) → AllByRecursion (λ k. k.standing ≡ Done) kept → IsClosed table kept
  closed_done [] h = tt
  closed_done (k ∷ kept) h = (λ undone. absurd (Done≢Undone (sym h.0 ∙ undone)), closed_done kept h.1)

  turn_done : (kept : List (KeptChange S)) → AllByRecursion (λ k. k.standing ≡ Done) kept → AreInTurn table [] kept
  turn_done [] h = tt
  turn_done (k ∷ kept) h = (all_weaker _ _ (λ j d same uk uj. absurd (Done≢Undone (sym h.0 ∙ uk))) kept h.1, turn_done kept h.1)

  pub done_are : (kept : List (KeptChange S)) (tickets limit : ℕ) → AreAscending (tickets_of kept) → AllByRecursion (λ k. k.ticket ≤ tickets) kept → AllByRecursion (λ k. k.standing ≡ Done) kept →
      length kept ≤ limit → 1 ≤ limit → AreChanges table (record { kept = kept; undone = []; tickets = tickets; limit = limit })
  done_are kept tickets limit up given done few room = record {
    ascending = up;
    given = given;
    standings = done;
    known = tt;
    once = tt;
    closed = closed_done kept done;
    in_turn = turn_done kept done;
    few = few;
    fits = omega arith;
    room = room;
  }

  -- what is left when the undone are settled
  pub cleared_are : (changes : Changes S) → AreChanges table changes → AreChanges table (record { kept = in_effect changes.kept; undone = []; tickets = changes.tickets; limit = changes.limit })
  cleared_are changes are =
      done_are (in_effect changes.kept) changes.tickets changes.limit (asc_filter (λ k. is_done k.standing) changes.kept are.ascending)
      (all_filter (λ k. k.ticket ≤ changes.tickets) (λ k. is_done k.standing) changes.kept are.given) (in_effect_done changes.kept)
      (omega (arith, length_filter (λ (k : KeptChange S). is_done k.standing) changes.kept, are.few)) are.room

  -- and when the oldest are
  pub forgotten_are : (changes : Changes S) (n : ℕ) → AreChanges table changes → changes.undone ≡ [] →
      AreChanges table (record { kept = drop n changes.kept; undone = []; tickets = changes.tickets; limit = changes.limit })
  forgotten_are changes n are none =
      done_are (drop n changes.kept) changes.tickets changes.limit (asc_drop n changes.kept are.ascending)
      (all-drop (λ k. k.ticket ≤ changes.tickets) n changes.kept are.given) (all-drop (λ k. k.standing ≡ Done) n changes.kept (none_undone_done changes.kept changes.undone none are.standings))
      (omega (arith, length-drop n changes.kept, are.few)) are.room

  -- and with one more
  pub kept_are : (changes : Changes S) (ticket : ℕ) (saved : S) → AreChanges table changes → changes.undone ≡ [] → length changes.kept < changes.limit → changes.tickets < ticket →
      AreChanges table (record { kept = changes.kept ++ kept_as Done ticket saved ∷ []; undone = []; tickets = ticket; limit = changes.limit })
  kept_are changes ticket saved are none room next =
      let new = kept_as Done ticket saved in
      done_are (changes.kept ++ new ∷ []) ticket changes.limit
      (asc_push changes.kept new are.ascending (all_weaker _ _ (λ k h. omega (arith, h, next)) changes.kept are.given))
      (all-append (λ k. k.ticket ≤ ticket) changes.kept (new ∷ []) (all_weaker _ _ (λ k h. omega (arith, h, next)) changes.kept are.given) (omega arith, tt))
      (all-append (λ k. k.standing ≡ Done) changes.kept (new ∷ []) (none_undone_done changes.kept changes.undone none are.standings) (refl, tt))
      (omega (arith, length-append changes.kept (new ∷ []), room)) are.room
