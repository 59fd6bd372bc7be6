-- What a plain book finds: the cells that it replays are those of the choices, and the ends that it knows are all.
use Rattle.std.proofs.Common.{◌≡◌, ℕ, ◌+◌, ◌<◌, ◌≤◌, Bool, true, false, cond, Option, Some, None, List, [], ◌∷◌, ◌++◌, map, refl, sym, ◌∙◌, ap, subst, ◌⊎◌, inl, inr, arith}
use Rattle.std.specs.Prelude.{fold, max, not, nat_lt, ◌==◌, ◌&&◌, ◌||◌}
use Rattle.std.specs.List.{AllByRecursion, list_any}
use Rattle.std.proofs.lemmas.Bool.{and_parts, cases_Bool, false≢true}
use Rattle.std.proofs.lemmas.Bool.Decides.{nat_tests}
use Rattle.std.specs.Cmp.Derive.{both_true}
use Rattle.dns_name.specs.Labels.{Labels}
use Rattle.dns_name.specs.Order.{name_eq, name_eq_exact, name_eq_itself}
use Rattle.ranked.specs.declared.cell.Admitted.{Admitted}
use Rattle.ranked.specs.declared.find.Find.{Find}
use Rattle.ranked.specs.declared.find.Scope.{Scope}
use Rattle.ranked.specs.declared.find.Scope.TheVariants.{One, Whole}
use Rattle.ranked.specs.Equal.{scope_eq}
use Rattle.history.specs.declared.event.Entry.{Entry}
use Rattle.history.specs.declared.event.Event.{Event}
use Rattle.history.specs.declared.event.Event.TheVariants.{Admit, Look, Sweep, Forget, Do, Undo, Redo, UndoOf, RedoOf}
use Rattle.history.specs.declared.event.Journalled.{Journalled}
use Rattle.history.specs.EndingLaws.{IsAmong, found}
use Rattle.history.specs.History.{Past, stands_by, standing_with}
use Rattle.history.specs.Journal.{commands_of, is_among, tickets_of}
use Rattle.history.specs.Oldest.{IsEnding}
use Rattle.history.specs.OldestFound.{last_scope_end, later_end, scope_after, scope_end, with_ticket}
use Rattle.history.specs.OldestLaws.{last_scope_ended, replayed_low}
use Rattle.history.specs.SoonestLaws.{AreEndings, fold_low}
use Rattle.undo_book.specs.declared.log.Logged.{Logged}
use Rattle.undo_book.specs.declared.oldest.ScopeEnd.{ScopeEnd}
use Rattle.undo_book.specs.Ends.{choice_of, chosen_by, end_now, ends_after, ends_after_event, ends_now, has_scope, pair_of, pairs_of, scope_after_logged, End}
use Rattle.undo_book.specs.Plain.{AreFlagged, entries_in, has_struck}

-- ---- a replay by a choice

choice_tells : (past : Past) (own : Option ℕ) (event : Event) (ticket : Option ℕ) (flag : Bool) → flag ≡ has_struck past.marks.struck ticket
    → stands_by (chosen_by (tickets_of (commands_of past)) own flag) event ticket ≡ stands_by (choice_of past own) event ticket
choice_tells past own (Admit m f) ticket flag is = refl
choice_tells past own (Look m a) ticket flag is = refl
choice_tells past own (Sweep m) ticket flag is = refl
choice_tells past own (Forget m n) ticket flag is = refl
choice_tells past own (Do m c) None flag is = refl
choice_tells past None (Do m c) (Some ticket) flag is = ap (λ b. not b && not (is_among (tickets_of (commands_of past)) ticket)) is
choice_tells past (Some own) (Do m c) (Some ticket) flag is = ap (λ b. own == ticket || (not b && not (is_among (tickets_of (commands_of past)) ticket))) is
choice_tells past own (Undo m) ticket flag is = refl
choice_tells past own (Redo m) ticket flag is = refl
choice_tells past own (UndoOf m named) ticket flag is = refl
choice_tells past own (RedoOf m named) ticket flag is = refl

pub scope_by_flags : (past : Past) (owner : Labels) (scope : Scope) (own : Option ℕ) (log : List Logged) (cell : Option (Admitted Find)) → AreFlagged past.marks.struck log
    → fold (scope_after_logged owner scope (tickets_of (commands_of past)) own) cell log ≡ fold (scope_after owner scope) cell (standing_with (choice_of past own) (entries_in log))
scope_by_flags past owner scope own [] cell h = refl
scope_by_flags past owner scope own (l ∷ log) cell h =
    let same = choice_tells past own l.entry.event l.entry.ticket l.struck h.0 in
    elim (cases_Bool (stands_by (choice_of past own) l.entry.event l.entry.ticket)) [
      | inl standing ↦ rw (same, standing) (scope_by_flags past owner scope own log (scope_after owner scope cell l.entry) h.1)
      | inr out ↦ rw (same, out) (scope_by_flags past owner scope own log cell h.1)
    ]

-- ---- the ends that are known

scope_eq_itself : (scope : Scope) → scope_eq scope scope ≡ true
scope_eq_itself (One kind) = grind (arith, nat_tests)
scope_eq_itself Whole = refl

scope_eq_exact : (a b : Scope) → scope_eq a b ≡ true → a ≡ b
scope_eq_exact (One kind) (One other) is = ap One (grind (arith, nat_tests))
scope_eq_exact Whole Whole is = refl
scope_eq_exact _ _ is = absurd (false≢true is)

any_push : (p : End → Bool) (ends : List End) (end : End) → list_any p ends ≡ true → list_any p (ends ++ end ∷ []) ≡ true
any_push p [] end is = absurd (false≢true is)
any_push p (e ∷ ends) end is = elim (cases_Bool (p e)) [
  | inl here ↦ rw here refl
  | inr other ↦ rw other (any_push p ends end (sym (ap (λ b. b || list_any p ends) other) ∙ is))
]

any_last : (p : End → Bool) (ends : List End) (end : End) → p end ≡ true → list_any p (ends ++ end ∷ []) ≡ true
any_last p [] end is = rw is refl
any_last p (e ∷ ends) end is = elim (cases_Bool (p e)) [ inl here ↦ rw here refl | inr other ↦ rw other (any_last p ends end is) ]

all_push : (P : End → Type 0) (ends : List End) (end : End) → AllByRecursion P ends → P end → AllByRecursion P (ends ++ end ∷ [])
all_push P [] end all own = (own, tt)
all_push P (e ∷ ends) end all own = (all.0, all_push P ends end all.1 own)

module _ (past : Past) (t : ℕ) where
  abbrev IsLast : End → Type 0
  IsLast end = end.end ≡ last_scope_end past t end.owner end.scope

  -- what is known after an entry, if it is so
  record Knows (ends next : List End) (moment : ℕ) (event : Event) : Type 0 where
    pub last : AllByRecursion IsLast ends → AllByRecursion IsLast next
    pub keeps : (owner : Labels) (scope : Scope) → has_scope ends owner scope ≡ true → has_scope next owner scope ≡ true
    pub own : (given : ℕ) (find : Find) → event ≡ Admit given find → t < moment + find.ttl → has_scope next find.owner find.scope ≡ true

  same_find : (m given : ℕ) (a b : Find) → Admit m a ≡ Admit given b → a ≡ b
  same_find m given a b is = cc

  knows_admission : (ends : List End) (moment m : ℕ) (find : Find) (over known : Bool) → not (nat_lt t (moment + find.ttl)) ≡ over → has_scope ends find.owner find.scope ≡ known
      → Knows ends (cond (over || known) ends (ends ++ record { owner = find.owner; scope = find.scope; end = last_scope_end past t find.owner find.scope } ∷ [])) moment (Admit m find)
  knows_admission ends moment m find true known is also = record {
    last = λ all. all;
    keeps = λ owner scope has. has;
    own = λ given other same later.
        let one : find.ttl ≡ other.ttl = ap (λ (f : Find). f.ttl) (same_find m given find other same) in
        absurd (grind (arith, nat_tests));
  }
  knows_admission ends moment m find false true is also = record {
    last = λ all. all;
    keeps = λ owner scope has. has;
    own = λ given other same later. subst (λ (f : Find). has_scope ends f.owner f.scope ≡ true) (same_find m given find other same) also;
  }
  knows_admission ends moment m find false false is also =
      let end : End = record { owner = find.owner; scope = find.scope; end = last_scope_end past t find.owner find.scope } in
      record {
        last = λ all. all_push IsLast ends end all refl;
        keeps = λ owner scope has. any_push (λ e. name_eq e.owner owner && scope_eq e.scope scope) ends end has;
        own = λ given other same later. subst (λ (f : Find). has_scope (ends ++ end ∷ []) f.owner f.scope ≡ true) (same_find m given find other same)
            (any_last (λ e. name_eq e.owner find.owner && scope_eq e.scope find.scope) ends end (both_true (name_eq_itself find.owner) (scope_eq_itself find.scope)));
      }

  passes_by : (ends : List End) (moment : ℕ) (event : Event) → ((given : ℕ) (find : Find) → event ≡ Admit given find → ⊥) → Knows ends ends moment event
  passes_by ends moment event other = record {
    last = λ all. all;
    keeps = λ owner scope has. has;
    own = λ given find is later. absurd (other given find is);
  }

  knows : (ends : List End) (moment : ℕ) (event : Event) → Knows ends (ends_after_event past t ends moment event) moment event
  knows ends moment (Admit m find) = knows_admission ends moment m find (not (nat_lt t (moment + find.ttl))) (has_scope ends find.owner find.scope) refl refl
  knows ends moment (Look m a) = passes_by ends moment (Look m a) (λ given find is. cc)
  knows ends moment (Sweep m) = passes_by ends moment (Sweep m) (λ given find is. cc)
  knows ends moment (Forget m name) = passes_by ends moment (Forget m name) (λ given find is. cc)
  knows ends moment (Do m command) = passes_by ends moment (Do m command) (λ given find is. cc)
  knows ends moment (Undo m) = passes_by ends moment (Undo m) (λ given find is. cc)
  knows ends moment (Redo m) = passes_by ends moment (Redo m) (λ given find is. cc)
  knows ends moment (UndoOf m named) = passes_by ends moment (UndoOf m named) (λ given find is. cc)
  knows ends moment (RedoOf m named) = passes_by ends moment (RedoOf m named) (λ given find is. cc)

  -- what is known after a log, if it is so
  record KnowsAll (ends next : List End) (log : List Logged) : Type 0 where
    pub last : AllByRecursion IsLast ends → AllByRecursion IsLast next
    pub keeps : (owner : Labels) (scope : Scope) → has_scope ends owner scope ≡ true → has_scope next owner scope ≡ true
    pub own : (entry : Entry) (given : ℕ) (find : Find) → IsAmong entry (entries_in log) → entry.event ≡ Admit given find → t < entry.moment + find.ttl → has_scope next find.owner find.scope ≡ true

  knows_all : (log : List Logged) (ends : List End) → KnowsAll ends (fold (ends_after past t) ends log) log
  knows_all [] ends = record { last = λ all. all; keeps = λ owner scope has. has; own = λ entry given find among is later. absurd among }
  knows_all (l ∷ log) ends =
      let one = knows ends l.entry.moment l.entry.event in
      let rest = knows_all log (ends_after past t ends l) in
      record {
        last = λ all. rest.last (one.last all);
        keeps = λ owner scope has. rest.keeps owner scope (one.keeps owner scope has);
        own = λ entry given find among is later. elim among [
          | inl here ↦ rest.keeps find.owner find.scope (one.own given find (ap (λ (e : Entry). e.event) here ∙ is) (subst (λ (e : Entry). t < e.moment + find.ttl) (sym here) later))
          | inr behind ↦ rest.own entry given find behind is later
        ];
      }

  -- ---- and they are the endings

  each_ended : (ends : List End) → AllByRecursion IsLast ends → AllByRecursion (λ p. (p.1 ≡ 0) ⊎ IsEnding past t p.0 p.1) (pairs_of ends)
  each_ended [] all = tt
  each_ended (e ∷ ends) all =
      (subst (λ n. (n ≡ 0) ⊎ IsEnding past t e.owner n) (sym all.0) (last_scope_ended past t e.owner e.scope), each_ended ends all.1)

  known_low : (ends : List End) (owner name : Labels) (scope : Scope) (a : ℕ) → owner ≡ name → AllByRecursion IsLast ends → has_scope ends owner scope ≡ true
      → last_scope_end past t owner scope ≤ fold (later_end name) a (pairs_of ends)
  known_low [] owner name scope a same all has = absurd (false≢true has)
  known_low (e ∷ ends) owner name scope a same all has = elim (cases_Bool (name_eq e.owner owner && scope_eq e.scope scope)) [
    | inl here ↦
        let parts = and_parts (name_eq e.owner owner) (scope_eq e.scope scope) here in
        let own : e.owner ≡ owner = name_eq_exact e.owner owner parts.0 in
        let named : name_eq e.owner name ≡ true = ap (λ (n : Labels). name_eq e.owner n) (sym (own ∙ same)) ∙ name_eq_itself e.owner in
        let scoped : e.scope ≡ scope = scope_eq_exact e.scope scope parts.1 in
        let end : e.end ≡ last_scope_end past t owner scope = all.0 ∙ (λ i. last_scope_end past t (own i) (scoped i)) in
        let later : later_end name a (pair_of e) ≡ max a e.end = ap (λ b. cond b (max a e.end) a) named in
        omega (arith, end, later, fold_low name (pairs_of ends) (later_end name a (pair_of e)))
    | inr other ↦
        known_low ends owner name scope (later_end name a (pair_of e)) same all.1
        (sym (ap (λ b. b || list_any (λ end. name_eq end.owner owner && scope_eq end.scope scope) ends) other) ∙ has)
  ]

  -- The ends that are known after the log of a past are its endings.
  pub are_endings : (log : List Logged) → entries_in log ≡ past.log → AreEndings past t (pairs_of (fold (ends_after past t) [] log))
  are_endings log is =
      let all = knows_all log [] in
      let last = all.last tt in
      record {
        sound = each_ended (fold (ends_after past t) [] log) last;
        whole = λ name end ending.
            let it = found past t name end ending in
            let among : IsAmong it.entry (entries_in log) = subst (λ (es : List Entry). IsAmong it.entry es) (sym is) it.among in
            let has = all.own it.entry it.given it.find among it.event (omega (arith, it.ends, it.later)) in
            let low = replayed_low past t it.find.owner it.find.scope it.chosen it.replayed in
            let there = known_low (fold (ends_after past t) [] log) it.find.owner name it.find.scope 0 it.owner last has in
            omega (arith, low, there, it.at);
      }

-- ---- folds over what is known

pub fold_known : {A : Type 0} (step : A → Labels × ℕ → A) (ends : List ScopeEnd) (a : A)
    → fold (λ b end. step b (pair_of (end_now end))) a ends ≡ fold step a (pairs_of (ends_now ends))
fold_known step [] a = refl
fold_known step (e ∷ ends) a = fold_known step ends (step a (pair_of (end_now e)))

pub fold_choices : (past : Past) (t : ℕ) (owner : Labels) (scope : Scope) (held : List Journalled) (a : ℕ)
    → fold (λ end command. max end (scope_end past t owner scope (with_ticket past command.ticket))) a held
    ≡ fold max a (map (scope_end past t owner scope) (map (with_ticket past) (tickets_of held)))
fold_choices past t owner scope [] a = refl
fold_choices past t owner scope (h ∷ held) a = fold_choices past t owner scope held (max a (scope_end past t owner scope (with_ticket past h.ticket)))
