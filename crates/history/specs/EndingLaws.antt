-- The ends of the finds that are alive over the choices of the commands of the journal: lemmas. Of the choices few are enough, and of the cells those of admissions.
use Rattle.std.proofs.Common.{◌≡◌, ℕ, ◌+◌, ◌<◌, ◌≤◌, Bool, true, false, cond, Option, Some, None, List, [], ◌∷◌, refl, sym, ◌∙◌, ap, subst, ◌⊎◌, inl, inr, arith}
use Rattle.std.specs.Prelude.{◌≢◌, fold, max, not, nat_lt, ◌==◌, ◌&&◌, ◌||◌, IsTrue}
use Rattle.std.specs.List.{AllByRecursion, list_any}
use Rattle.std.proofs.lemmas.Bool.{and_parts, cases_Bool, eq-eqb, eqb-true, false≢true}
use Rattle.std.proofs.lemmas.Bool.Decides.{nat_tests}
use Rattle.dns_name.specs.Labels.{Labels}
use Rattle.dns_name.specs.Below.{is_at_or_below}
use Rattle.dns_name.specs.Order.{name_eq, name_eq_exact}
use Rattle.dns_text.specs.declared.record.Question.{Question}
use Rattle.ranked.specs.declared.cell.Admitted.{Admitted}
use Rattle.ranked.specs.declared.find.Body.{Body}
use Rattle.ranked.specs.declared.find.Body.TheVariants.{Set, NoData, NoName}
use Rattle.ranked.specs.declared.find.Find.{Find}
use Rattle.ranked.specs.declared.find.Scope.{Scope}
use Rattle.ranked.specs.declared.find.Scope.TheVariants.{One, Whole}
use Rattle.ranked.specs.declared.rank.Rank.{Rank}
use Rattle.ranked.specs.declared.rank.Rank.TheVariants.{Additional, Answer, Authority, AuthoritativeAnswer}
use Rattle.ranked.specs.Body.{has_rank, HasForms}
use Rattle.ranked.specs.Cell.{after_admission, end_of, is_alive, turns_away}
use Rattle.ranked.specs.Find.{admission_of, has_kind, touches}
use Rattle.ranked.specs.Flush.{flushed_types, is_flushed}
use Rattle.ranked.specs.Rank.{level_of}
use Rattle.history.specs.declared.event.Command.TheVariants.{FlushType, Flush, FlushZone, SetZone, DropZone, AddRecord, DropName, SetStub, DropStub}
use Rattle.history.specs.declared.event.Entry.{Entry}
use Rattle.history.specs.declared.event.Event.{Event}
use Rattle.history.specs.declared.event.Event.TheVariants.{Admit, Look, Sweep, Forget, Do, Undo, Redo, UndoOf, RedoOf}
use Rattle.history.specs.declared.event.Journalled.{Journalled}
use Rattle.history.specs.Cells.{cell_after, cell_by, effect}
use Rattle.history.specs.Event.{covers}
use Rattle.history.specs.FlushLaws.{fewer_decide, last_is_chosen}
use Rattle.history.specs.Flushes.{last_covering}
use Rattle.history.specs.History.{Past, is_unstruck, stands_by, standing_with}
use Rattle.history.specs.Journal.{commands_of, is_among, tickets_of}
use Rattle.history.specs.Oldest.{IsEnding}
use Rattle.history.specs.SoonestLaws.{alive_later}
use Rattle.history.specs.OldestFound.{end_at, is_whole, scope_after, scope_cell, scope_effect, scope_end, settled_of, with_ticket}

-- ---- booleans

and_true : (b : Bool) → (b && true) ≡ b
and_true true = refl
and_true false = refl

and_false : (b : Bool) → (b && false) ≡ false
and_false true = refl
and_false false = refl

not_true : (b : Bool) → not b ≡ true → b ≡ false
not_true true is = absurd cc
not_true false is = refl

-- ---- the choices

-- a choice that has the commands that the journal does not hold as they stand
abbrev pub IsChoice : Past → (ℕ → Bool) → Type 0
IsChoice past chosen = (ticket : ℕ) → AllByRecursion (λ held. held.ticket ≢ ticket) (commands_of past) → chosen ticket ≡ is_unstruck past.marks ticket

-- one of the choices by which cells are replayed
abbrev pub IsReplayed : Past → (ℕ → Bool) → Type 0
IsReplayed past chosen = (chosen ≡ settled_of past) ⊎ ((own : ℕ) × (is_among (tickets_of (commands_of past)) own ≡ true) × (chosen ≡ with_ticket past own))

-- a ticket of no command is not among the tickets, and the other way round
absent : (ticket : ℕ) (held : List Journalled) → AllByRecursion (λ h. h.ticket ≢ ticket) held → is_among (tickets_of held) ticket ≡ false
absent ticket [] all = refl
absent ticket (h ∷ held) all = elim (cases_Bool (h.ticket == ticket)) [
  | inl same ↦ absurd (all.0 (eqb-true h.ticket ticket same))
  | inr other ↦ rw other (absent ticket held all.1)
]

all_others : (ticket : ℕ) (held : List Journalled) → is_among (tickets_of held) ticket ≡ false → AllByRecursion (λ h. h.ticket ≢ ticket) held
all_others ticket [] none = tt
all_others ticket (h ∷ held) none = elim (cases_Bool (h.ticket == ticket)) [
  | inl same ↦ absurd (false≢true (sym none ∙ ap (λ b. b || is_among (tickets_of held) ticket) same))
  | inr other ↦ (λ is. false≢true (sym other ∙ eq-eqb h.ticket ticket is), all_others ticket held (sym (ap (λ b. b || is_among (tickets_of held) ticket) other) ∙ none))
]

pub settled_is_choice : (past : Past) → IsChoice past (settled_of past)
settled_is_choice past ticket out = ap (λ b. is_unstruck past.marks ticket && not b) (absent ticket (commands_of past) out) ∙ and_true (is_unstruck past.marks ticket)

pub with_ticket_is_choice : (past : Past) (own : ℕ) → is_among (tickets_of (commands_of past)) own ≡ true → IsChoice past (with_ticket past own)
with_ticket_is_choice past own among ticket out =
    let apart : (own == ticket) ≡ false = elim (cases_Bool (own == ticket)) [
      | inl same ↦ absurd (false≢true (sym (absent ticket (commands_of past) out) ∙ ap (is_among (tickets_of (commands_of past))) (sym (eqb-true own ticket same)) ∙ among))
      | inr other ↦ other
    ] in
    ap (λ b. b || settled_of past ticket) apart ∙ settled_is_choice past ticket out

pub replayed_is_choice : (past : Past) (chosen : ℕ → Bool) → IsReplayed past chosen → IsChoice past chosen
replayed_is_choice past chosen (inl is) = subst (IsChoice past) (sym is) (settled_is_choice past)
replayed_is_choice past chosen (inr it) = subst (IsChoice past) (sym it.2) (with_ticket_is_choice past it.0 it.1)

narrow_settled : (past : Past) (chosen : ℕ → Bool) → IsChoice past chosen → (s : ℕ) → settled_of past s ≡ true → chosen s ≡ true
narrow_settled past chosen is s settled =
    let parts = and_parts (is_unstruck past.marks s) (not (is_among (tickets_of (commands_of past)) s)) settled in
    is s (all_others s (commands_of past) (not_true (is_among (tickets_of (commands_of past)) s) parts.1)) ∙ parts.0

narrow_with : (past : Past) (chosen : ℕ → Bool) → IsChoice past chosen → (t : ℕ) → chosen t ≡ true → (s : ℕ) → with_ticket past t s ≡ true → chosen s ≡ true
narrow_with past chosen is t own s has = elim (cases_Bool (t == s)) [
  | inl same ↦ ap chosen (sym (eqb-true t s same)) ∙ own
  | inr other ↦ narrow_settled past chosen is s (sym (ap (λ b. b || settled_of past s) other) ∙ has)
]

settled_too : (past : Past) (chosen : ℕ → Bool) → IsChoice past chosen → (t : ℕ) → chosen t ≡ true → is_among (tickets_of (commands_of past)) t ≡ false → settled_of past t ≡ true
settled_too past chosen is t own out =
    let unstruck : is_unstruck past.marks t ≡ true = sym (is t (all_others t (commands_of past) out)) ∙ own in
    ap (λ b. is_unstruck past.marks t && not b) out ∙ and_true (is_unstruck past.marks t) ∙ unstruck

-- a choice by which a cell is replayed, and the cell is the same
record Replays (past : Past) (question : Question) (chosen : ℕ → Bool) : Type 0 where
  pub other : ℕ → Bool
  pub replayed : IsReplayed past other
  pub same : cell_by question (standing_with chosen past.log) ≡ cell_by question (standing_with other past.log)

some_is : (t s : ℕ) → Some t ≡ Some s → t ≡ s
some_is t s is = cc

replays_by : (past : Past) (question : Question) (chosen : ℕ → Bool) → IsChoice past chosen → (last : Option ℕ) → last_covering question (standing_with chosen past.log) ≡ last → Replays past question chosen
replays_by past question chosen is None none = record {
  other = settled_of past;
  replayed = inl refl;
  same = fewer_decide question chosen (settled_of past) (narrow_settled past chosen is) past.log None none (λ t no. absurd cc);
}
replays_by past question chosen is (Some t) last =
    let own : chosen t ≡ true = last_is_chosen question chosen t past.log last in
    elim (cases_Bool (is_among (tickets_of (commands_of past)) t)) [
      | inl among ↦ record {
        other = with_ticket past t;
        replayed = inr (t, among, refl);
        same = fewer_decide question chosen (with_ticket past t) (narrow_with past chosen is t own) past.log (Some t) last
            (λ s one. ap (λ b. b || settled_of past s) (eq-eqb t s (some_is t s one)));
      }
      | inr out ↦ record {
        other = settled_of past;
        replayed = inl refl;
        same = fewer_decide question chosen (settled_of past) (narrow_settled past chosen is) past.log (Some t) last
            (λ s one. ap (settled_of past) (sym (some_is t s one)) ∙ settled_too past chosen is t own out);
      }
    ]

-- ---- where the content of a cell comes from

-- an entry is one of these
abbrev pub IsAmong : Entry → List Entry → Type 0
IsAmong entry [] = ⊥
IsAmong entry (e ∷ log) = (e ≡ entry) ⊎ IsAmong entry log

-- an event of this moment admitted what a cell holds
record Admits (question : Question) (held : Admitted Find) (moment : ℕ) (e : Event) : Type 0 where
  pub given : ℕ
  pub find : Find
  pub event : e ≡ Admit given find
  pub touched : touches find question ≡ true
  pub is : admission_of find find moment ≡ held

kept : (cell : Option (Admitted Find)) (held : Admitted Find) (b : Bool) → cond b None cell ≡ Some held → cell ≡ Some held
kept cell held true is = absurd cc
kept cell held false is = is

taken : (cell : Option (Admitted Find)) (new held : Admitted Find) (away : Bool) → cond away cell (Some new) ≡ Some held → (cell ≡ Some held) ⊎ (new ≡ held)
taken cell new held true is = inl is
taken cell new held false is = inr cc

came_by : (question : Question) (cell : Option (Admitted Find)) (held : Admitted Find) (moment : ℕ) (e : Event) → effect question cell moment e ≡ Some held → (cell ≡ Some held) ⊎ Admits question held moment e
came_by question cell held moment (Admit given find) is = split (touches find question) refl is
  where
    split : (b : Bool) → touches find question ≡ b → cond b (after_admission cell (admission_of find find moment)) cell ≡ Some held → (cell ≡ Some held) ⊎ Admits question held moment (Admit given find)
    split true touched is = elim (taken cell (admission_of find find moment) held (turns_away cell (admission_of find find moment)) is) [
      | inl before ↦ inl before
      | inr new ↦ inr (record { given = given; find = find; event = refl; touched = touched; is = new })
    ]
    split false other is = inl is
came_by question cell held moment (Look m a) is = inl is
came_by question cell held moment (Sweep m) is = inl is
came_by question cell held moment (Forget m name) is = inl (kept cell held (name_eq name question.owner) is)
came_by question cell held moment (Do m command) is = inl (kept cell held (covers command question) is)
came_by question cell held moment (Undo m) is = inl is
came_by question cell held moment (Redo m) is = inl is
came_by question cell held moment (UndoOf m named) is = inl is
came_by question cell held moment (RedoOf m named) is = inl is

came : (question : Question) (entries : List Entry) (cell : Option (Admitted Find)) (held : Admitted Find) → fold (cell_after question) cell entries ≡ Some held
    → (cell ≡ Some held) ⊎ ((entry : Entry) × IsAmong entry entries × Admits question held entry.moment entry.event)
came question [] cell held is = inl is
came question (e ∷ entries) cell held is = elim (came question entries (cell_after question cell e) held is) [
  | inl here ↦ elim (came_by question cell held e.moment e.event here) [ inl before ↦ inl before | inr it ↦ inr (e, inl refl, it) ]
  | inr later ↦ inr (later.0, inr later.1, later.2)
]

among_kept : (entry e : Entry) (kept log : List Entry) (b : Bool) → (IsAmong entry kept → IsAmong entry log) → IsAmong entry (cond b (e ∷ kept) kept) → IsAmong entry (e ∷ log)
among_kept entry e kept log true more (inl here) = inl here
among_kept entry e kept log true more (inr later) = inr (more later)
among_kept entry e kept log false more is = inr (more is)

among_standing : (chosen : ℕ → Bool) (log : List Entry) (entry : Entry) → IsAmong entry (standing_with chosen log) → IsAmong entry log
among_standing chosen [] entry is = is
among_standing chosen (e ∷ log) entry is = among_kept entry e (standing_with chosen log) log (stands_by chosen e.event e.ticket) (among_standing chosen log entry) is

-- ---- a find of every type: what a cell holds of it, the cell of a type that nothing names holds too

trusted_by : (scope : Scope) (body : Body) (rank : Rank) → scope ≡ Whole → HasForms scope body → IsTrue (has_rank body rank) → level_of rank ≡ 4
trusted_by (One kind) body rank is forms ranked = absurd cc
trusted_by Whole (Set found) rank is forms ranked = absurd forms
trusted_by Whole (NoData soa) rank is forms ranked = absurd forms
trusted_by Whole (NoName soa) rank is forms ranked = eqb-true (level_of rank) 4 ranked

level_low : (rank : Rank) → level_of rank ≤ 4
level_low Additional = omega arith
level_low Answer = omega arith
level_low Authority = omega arith
level_low AuthoritativeAnswer = omega arith

not_turned : (cell : Option (Admitted Find)) (new : Admitted Find) → level_of new.rank ≡ 4 → turns_away cell new ≡ false
not_turned None new is = refl
not_turned (Some old) new is =
    let low = level_low old.rank in
    let no_less : nat_lt (level_of new.rank) (level_of old.rank) ≡ false = grind (arith, nat_tests) in
    ap (λ b. is_alive old new.since && b) no_less ∙ and_false (is_alive old new.since)

abbrev whole_effect : Labels → Option (Admitted Find) → ℕ → Event → Option (Admitted Find)
whole_effect owner cell moment event = scope_effect owner Whole cell moment event

abbrev whole_after : Labels → Option (Admitted Find) → Entry → Option (Admitted Find)
whole_after owner cell entry = scope_after owner Whole cell entry

-- A cell that holds a find of every type is followed.
abbrev Follows : Option (Admitted Find) → Option (Admitted Find) → Type 0
Follows cell whole = (held : Admitted Find) → cell ≡ Some held → held.body.scope ≡ Whole → whole ≡ Some held

emptied : (cell whole : Option (Admitted Find)) (b : Bool) → Follows cell whole → Follows (cond b None cell) whole
emptied cell whole true follows = λ held is every. absurd cc
emptied cell whole false follows = follows

both_emptied : (cell whole : Option (Admitted Find)) (b : Bool) → Follows cell whole → Follows (cond b None cell) (cond b None whole)
both_emptied cell whole true follows = λ held is every. absurd cc
both_emptied cell whole false follows = follows

one_taken : (cell whole : Option (Admitted Find)) (new : Admitted Find) (kind : ℕ) (away : Bool) → new.body.scope ≡ One kind → Follows cell whole → Follows (cond away cell (Some new)) whole
one_taken cell whole new kind true scope follows = follows
one_taken cell whole new kind false scope follows = λ held is every.
    let same : new ≡ held = cc in
    let clash : One kind ≡ Whole = sym scope ∙ ap (λ (h : Admitted Find). h.body.scope) same ∙ every in
    absurd cc

one_admitted : (cell whole : Option (Admitted Find)) (new : Admitted Find) (kind : ℕ) (b : Bool) → new.body.scope ≡ One kind → Follows cell whole → Follows (cond b (after_admission cell new) cell) whole
one_admitted cell whole new kind true scope follows = one_taken cell whole new kind (turns_away cell new) scope follows
one_admitted cell whole new kind false scope follows = follows

whole_admitted : (cell whole : Option (Admitted Find)) (new : Admitted Find) (same : Bool) → level_of new.rank ≡ 4 → Follows cell whole
    → Follows (cond (same && true) (after_admission cell new) cell) (cond (true && same) (after_admission whole new) whole)
whole_admitted cell whole new true trusted follows = λ held is every.
    ap (λ b. cond b whole (Some new)) (not_turned whole new trusted) ∙ sym (ap (λ b. cond b cell (Some new)) (not_turned cell new trusted)) ∙ is
whole_admitted cell whole new false trusted follows = follows

admitted : (kind : ℕ) (cell whole : Option (Admitted Find)) (new : Admitted Find) (same : Bool) (scope : Scope) → new.body.scope ≡ scope → (scope ≡ Whole → level_of new.rank ≡ 4) → Follows cell whole
    → Follows (cond (same && has_kind scope kind) (after_admission cell new) cell) (cond (is_whole scope && same) (after_admission whole new) whole)
admitted kind cell whole new same (One k) is trusted follows = one_admitted cell whole new k (same && k == kind) is follows
admitted kind cell whole new same Whole is trusted follows = whole_admitted cell whole new same (trusted refl) follows

follows_after : (owner : Labels) (kind : ℕ) (cell whole : Option (Admitted Find)) (moment : ℕ) (e : Event) → Follows cell whole
    → Follows (effect (record { owner = owner; kind = kind }) cell moment e) (whole_effect owner whole moment e)
follows_after owner kind cell whole moment (Admit given find) follows =
    admitted kind cell whole (admission_of find find moment) (name_eq find.owner owner) find.scope refl (λ every. trusted_by find.scope find.body find.rank every find.formed find.ranked) follows
follows_after owner kind cell whole moment (Look m a) follows = follows
follows_after owner kind cell whole moment (Sweep m) follows = follows
follows_after owner kind cell whole moment (Forget m name) follows = both_emptied cell whole (name_eq name owner) follows
follows_after owner kind cell whole moment (Do m (FlushType target)) follows = emptied cell whole (name_eq target.owner owner && target.kind == kind) follows
follows_after owner kind cell whole moment (Do m (Flush name)) follows = emptied cell whole (name_eq name owner && is_flushed kind) follows
follows_after owner kind cell whole moment (Do m (FlushZone name)) follows = both_emptied cell whole (is_at_or_below owner name) follows
follows_after owner kind cell whole moment (Do m (SetZone name type)) follows = follows
follows_after owner kind cell whole moment (Do m (DropZone name)) follows = follows
follows_after owner kind cell whole moment (Do m (AddRecord new)) follows = follows
follows_after owner kind cell whole moment (Do m (DropName name)) follows = follows
follows_after owner kind cell whole moment (Do m (SetStub new)) follows = follows
follows_after owner kind cell whole moment (Do m (DropStub name)) follows = follows
follows_after owner kind cell whole moment (Undo m) follows = follows
follows_after owner kind cell whole moment (Redo m) follows = follows
follows_after owner kind cell whole moment (UndoOf m named) follows = follows
follows_after owner kind cell whole moment (RedoOf m named) follows = follows

follows_all : (owner : Labels) (kind : ℕ) (entries : List Entry) (cell whole : Option (Admitted Find)) → Follows cell whole
    → Follows (fold (cell_after (record { owner = owner; kind = kind })) cell entries) (fold (whole_after owner) whole entries)
follows_all owner kind [] cell whole follows = follows
follows_all owner kind (e ∷ entries) cell whole follows =
    follows_all owner kind entries (cell_after (record { owner = owner; kind = kind }) cell e) (whole_after owner whole e) (follows_after owner kind cell whole e.moment e.event follows)

-- ---- one type

one_effect : (owner : Labels) (kind : ℕ) (cell : Option (Admitted Find)) (moment : ℕ) (e : Event) → effect (record { owner = owner; kind = kind }) cell moment e ≡ scope_effect owner (One kind) cell moment e
one_effect owner kind cell moment (Admit given find) = refl
one_effect owner kind cell moment (Look m a) = refl
one_effect owner kind cell moment (Sweep m) = refl
one_effect owner kind cell moment (Forget m name) = refl
one_effect owner kind cell moment (Do m command) = refl
one_effect owner kind cell moment (Undo m) = refl
one_effect owner kind cell moment (Redo m) = refl
one_effect owner kind cell moment (UndoOf m named) = refl
one_effect owner kind cell moment (RedoOf m named) = refl

one_cell : (owner : Labels) (kind : ℕ) (entries : List Entry) (cell : Option (Admitted Find))
    → fold (cell_after (record { owner = owner; kind = kind })) cell entries ≡ fold (scope_after owner (One kind)) cell entries
one_cell owner kind [] cell = refl
one_cell owner kind (e ∷ entries) cell =
    ap (λ (c : Option (Admitted Find)). fold (cell_after (record { owner = owner; kind = kind })) c entries) (one_effect owner kind cell e.moment e.event)
    ∙ one_cell owner kind entries (scope_after owner (One kind) cell e)

-- ---- a type that nothing names

-- whether a scope is of this type alone
abbrev names_kind : Scope → ℕ → Bool
names_kind (One k) kind = k == kind
names_kind Whole kind = false

-- no find and no flush of one type names this type
abbrev IsFresh : ℕ → Event → Type 0
IsFresh kind (Admit given find) = names_kind find.scope kind ≡ false
IsFresh kind (Do given (FlushType target)) = (target.kind == kind) ≡ false
IsFresh kind event = Unit {0}

cond_same : (cell new : Option (Admitted Find)) (b : Bool) → b ≡ false → cond b new cell ≡ cell
cond_same cell new b is = ap (λ c. cond c new cell) is

admits_same : (kind : ℕ) (cell new : Option (Admitted Find)) (same : Bool) (scope : Scope) → names_kind scope kind ≡ false
    → cond (same && has_kind scope kind) new cell ≡ cond (is_whole scope && same) new cell
admits_same kind cell new same (One k) fresh = cond_same cell new (same && k == kind) (ap (λ b. same && b) fresh ∙ and_false same)
admits_same kind cell new same Whole fresh = ap (λ b. cond b new cell) (and_true same)

same_effect : (owner : Labels) (kind : ℕ) → is_flushed kind ≡ false → (cell : Option (Admitted Find)) (moment : ℕ) (e : Event) → IsFresh kind e
    → effect (record { owner = owner; kind = kind }) cell moment e ≡ whole_effect owner cell moment e
same_effect owner kind unflushed cell moment (Admit given find) fresh = admits_same kind cell (after_admission cell (admission_of find find moment)) (name_eq find.owner owner) find.scope fresh
same_effect owner kind unflushed cell moment (Look m a) fresh = refl
same_effect owner kind unflushed cell moment (Sweep m) fresh = refl
same_effect owner kind unflushed cell moment (Forget m name) fresh = refl
same_effect owner kind unflushed cell moment (Do m (FlushType target)) fresh =
    cond_same cell None (name_eq target.owner owner && target.kind == kind) (ap (λ b. name_eq target.owner owner && b) fresh ∙ and_false (name_eq target.owner owner))
same_effect owner kind unflushed cell moment (Do m (Flush name)) fresh =
    cond_same cell None (name_eq name owner && is_flushed kind) (ap (λ b. name_eq name owner && b) unflushed ∙ and_false (name_eq name owner))
same_effect owner kind unflushed cell moment (Do m (FlushZone name)) fresh = refl
same_effect owner kind unflushed cell moment (Do m (SetZone name type)) fresh = refl
same_effect owner kind unflushed cell moment (Do m (DropZone name)) fresh = refl
same_effect owner kind unflushed cell moment (Do m (AddRecord new)) fresh = refl
same_effect owner kind unflushed cell moment (Do m (DropName name)) fresh = refl
same_effect owner kind unflushed cell moment (Do m (SetStub new)) fresh = refl
same_effect owner kind unflushed cell moment (Do m (DropStub name)) fresh = refl
same_effect owner kind unflushed cell moment (Undo m) fresh = refl
same_effect owner kind unflushed cell moment (Redo m) fresh = refl
same_effect owner kind unflushed cell moment (UndoOf m named) fresh = refl
same_effect owner kind unflushed cell moment (RedoOf m named) fresh = refl

same_cell : (owner : Labels) (kind : ℕ) → is_flushed kind ≡ false → (entries : List Entry) (cell : Option (Admitted Find)) → AllByRecursion (λ e. IsFresh kind e.event) entries
    → fold (cell_after (record { owner = owner; kind = kind })) cell entries ≡ fold (whole_after owner) cell entries
same_cell owner kind unflushed [] cell fresh = refl
same_cell owner kind unflushed (e ∷ entries) cell fresh =
    ap (λ (c : Option (Admitted Find)). fold (cell_after (record { owner = owner; kind = kind })) c entries) (same_effect owner kind unflushed cell e.moment e.event fresh.0)
    ∙ same_cell owner kind unflushed entries (whole_after owner cell e) fresh.1

-- one more than the type of a scope
scope_above : Scope → ℕ
scope_above (One k) = k + 1
scope_above Whole = 0

kind_above : Event → ℕ
kind_above (Admit given find) = scope_above find.scope
kind_above (Do given (FlushType target)) = target.kind + 1
kind_above event = 0

-- a type that is greater than those of a log, and than each of 16 bits
kinds_above : List Entry → ℕ
kinds_above [] = 65536
kinds_above (e ∷ log) = max (kind_above e.event) (kinds_above log)

scope_fresh : (scope : Scope) (kind : ℕ) → scope_above scope ≤ kind → names_kind scope kind ≡ false
unfolding scope_above
scope_fresh (One k) kind low = grind (arith, nat_tests)
scope_fresh Whole kind low = refl

is_fresh : (e : Event) (kind : ℕ) → kind_above e ≤ kind → IsFresh kind e
unfolding kind_above
is_fresh (Admit given find) kind low = scope_fresh find.scope kind low
is_fresh (Look m a) kind low = tt
is_fresh (Sweep m) kind low = tt
is_fresh (Forget m name) kind low = tt
is_fresh (Do m (FlushType target)) kind low = grind (arith, nat_tests)
is_fresh (Do m (Flush name)) kind low = tt
is_fresh (Do m (FlushZone name)) kind low = tt
is_fresh (Do m (SetZone name type)) kind low = tt
is_fresh (Do m (DropZone name)) kind low = tt
is_fresh (Do m (AddRecord new)) kind low = tt
is_fresh (Do m (DropName name)) kind low = tt
is_fresh (Do m (SetStub new)) kind low = tt
is_fresh (Do m (DropStub name)) kind low = tt
is_fresh (Undo m) kind low = tt
is_fresh (Redo m) kind low = tt
is_fresh (UndoOf m named) kind low = tt
is_fresh (RedoOf m named) kind low = tt

all_fresh : (log : List Entry) (kind : ℕ) → kinds_above log ≤ kind → AllByRecursion (λ e. IsFresh kind e.event) log
unfolding kinds_above
all_fresh [] kind low = tt
all_fresh (e ∷ log) kind low = (is_fresh e.event kind (omega (arith, low)), all_fresh log kind (omega (arith, low)))

above_bits : (log : List Entry) → 65536 ≤ kinds_above log
unfolding kinds_above
above_bits [] = omega arith
above_bits (e ∷ log) = omega (arith, above_bits log)

are_below : List ℕ → Bool
are_below [] = true
are_below (n ∷ ns) = nat_lt n 65536 && are_below ns

none_above : (kind : ℕ) → 65536 ≤ kind → (ns : List ℕ) → are_below ns ≡ true → list_any (λ n. n == kind) ns ≡ false
unfolding are_below
none_above kind high [] below = refl
none_above kind high (n ∷ ns) below =
    let parts = and_parts (nat_lt n 65536) (are_below ns) below in
    let low = parts.0 in
    let apart : (n == kind) ≡ false = grind (arith, nat_tests) in
    rw apart (none_above kind high ns parts.1)

unflushed_above : (kind : ℕ) → 65536 ≤ kind → is_flushed kind ≡ false
unfolding are_below
unflushed_above kind high = none_above kind high flushed_types refl

fresh_standing : (chosen : ℕ → Bool) (P : Entry → Type 0) (log : List Entry) → AllByRecursion P log → AllByRecursion P (standing_with chosen log)
fresh_standing chosen P [] all = tt
fresh_standing chosen P (e ∷ log) all = elim (cases_Bool (stands_by chosen e.event e.ticket)) [
  | inl stays ↦ rw stays (all.0, fresh_standing chosen P log all.1)
  | inr gone ↦ rw gone (fresh_standing chosen P log all.1)
]

-- the cell of a scope is that of some type
some_kind : (owner : Labels) (scope : Scope) (chosen : ℕ → Bool) (log : List Entry)
    → (kind : ℕ) × (cell_by (record { owner = owner; kind = kind }) (standing_with chosen log) ≡ scope_cell owner scope (standing_with chosen log))
some_kind owner (One kind) chosen log = (kind, one_cell owner kind (standing_with chosen log) None)
some_kind owner Whole chosen log =
    let kind = kinds_above log in
    let fresh = fresh_standing chosen (λ e. IsFresh kind e.event) log (all_fresh log kind (omega arith)) in
    (kind, same_cell owner kind (unflushed_above kind (above_bits log)) (standing_with chosen log) None fresh)

-- ---- ends

-- the cell of a scope has an end by a choice: that is an ending of its name
pub ending_of : (past : Past) (t : ℕ) (owner : Labels) (scope : Scope) (chosen : ℕ → Bool) → IsChoice past chosen → 1 ≤ scope_end past t owner scope chosen
    → IsEnding past t owner (scope_end past t owner scope chosen)
ending_of past t owner scope chosen others some = by_cell (scope_cell owner scope (standing_with chosen past.log)) refl some
  where
    by_cell : (cell : Option (Admitted Find)) → scope_cell owner scope (standing_with chosen past.log) ≡ cell → 1 ≤ end_at t cell → IsEnding past t owner (scope_end past t owner scope chosen)
    by_cell None is some = absurd (omega (arith, some))
    by_cell (Some held) is some =
        let kind = some_kind owner scope chosen past.log in
        let at : scope_end past t owner scope chosen ≡ cond (is_alive held t) (end_of held) 0 = ap (end_at t) is in
        elim (cases_Bool (is_alive held t)) [
          | inl alive ↦ record {
            chosen = chosen;
            others = others;
            kind = kind.0;
            held = held;
            cell = kind.1 ∙ is;
            alive = alive;
            at = sym (at ∙ ap (λ b. cond b (end_of held) 0) alive);
          }
          | inr dead ↦ absurd (let none : end_at t (Some held) ≡ 0 = ap (λ b. cond b (end_of held) 0) dead in omega (arith, some, none))
        ]

-- An ending of a name is the end of an admission of it that is in the log, in its cell, by a choice by which cells are replayed.
pub record IsFound (past : Past) (t : ℕ) (name : Labels) (end : ℕ) : Type 0 where
  pub chosen : ℕ → Bool
  pub replayed : IsReplayed past chosen
  pub entry : Entry
  pub among : IsAmong entry past.log
  pub given : ℕ
  pub find : Find
  pub event : entry.event ≡ Admit given find
  pub owner : find.owner ≡ name
  pub ends : entry.moment + find.ttl ≡ end
  pub later : t < end
  pub at : scope_end past t find.owner find.scope chosen ≡ end

in_scope : (owner name : Labels) (kind : ℕ) (entries : List Entry) (held : Admitted Find) (scope : Scope) → owner ≡ name → has_kind scope kind ≡ true → held.body.scope ≡ scope
    → cell_by (record { owner = name; kind = kind }) entries ≡ Some held → scope_cell owner scope entries ≡ Some held
in_scope owner name kind entries held (One k) same is scope cell =
    let one : k ≡ kind = eqb-true k kind is in
    let question : Question = record { owner = owner; kind = k } in
    let path : question ≡ record { owner = name; kind = kind } = λ i. record { owner = same i; kind = one i } in
    sym (one_cell owner k entries None) ∙ ap (λ (q : Question). cell_by q entries) path ∙ cell
in_scope owner name kind entries held Whole same is scope cell =
    ap (λ (n : Labels). scope_cell n Whole entries) same ∙ follows_all name kind entries None None (λ other no every. absurd cc) held cell scope

pub found : (past : Past) (t : ℕ) (name : Labels) (end : ℕ) → IsEnding past t name end → IsFound past t name end
found past t name end is =
    let question : Question = record { owner = name; kind = is.kind } in
    let by = replays_by past question is.chosen is.others (last_covering question (standing_with is.chosen past.log)) refl in
    let cell : cell_by question (standing_with by.other past.log) ≡ Some is.held = sym by.same ∙ is.cell in
    elim (came question (standing_with by.other past.log) None is.held cell) [
      | inl none ↦ absurd cc
      | inr it ↦
          let own = it.2 in
          let parts = and_parts (name_eq own.find.owner name) (has_kind own.find.scope is.kind) own.touched in
          let owner : own.find.owner ≡ name = name_eq_exact own.find.owner name parts.0 in
          let scope : is.held.body.scope ≡ own.find.scope = ap (λ (h : Admitted Find). h.body.scope) (sym own.is) in
          let there = in_scope own.find.owner name is.kind (standing_with by.other past.log) is.held own.find.scope owner parts.1 scope cell in
          record {
            chosen = by.other;
            replayed = by.replayed;
            entry = it.0;
            among = among_standing by.other past.log it.0 it.1;
            given = own.given;
            find = own.find;
            event = own.event;
            owner = owner;
            ends = ap (λ (h : Admitted Find). end_of h) own.is ∙ is.at;
            later = omega (arith, alive_later t is.held is.alive, is.at);
            at = ap (end_at t) there ∙ ap (λ b. cond b (end_of is.held) 0) is.alive ∙ is.at;
          }
    ]
