-- What is alive decides what is shown and what becomes of an admission.
use Rattle.std.proofs.Common.{◌≡◌, ℕ, ◌≤◌, ◌-◌, Bool, true, false, Option, Some, None, refl, sym, ap, subst, ◌∙◌, arith, max}
use Rattle.std.specs.Prelude.{nat_lt, ◌&&◌, if◌then◌else◌}
use Rattle.std.specs.Option.{option_map}
use Rattle.std.proofs.Math.Path.{fun_ext}
use Rattle.dns_name.specs.Labels.{Labels}
use Rattle.dns_text.specs.declared.record.Question.{Question}
use Rattle.ranked.specs.declared.cell.Admitted.{Admitted}
use Rattle.ranked.specs.declared.cell.Fate.TheVariants as fate
use Rattle.ranked.specs.declared.cell.Shown.{Shown}
use Rattle.ranked.specs.declared.find.Find.{Find}
use Rattle.ranked.specs.declared.find.Scope.{Scope}
use Rattle.ranked.specs.declared.find.Scope.TheVariants.{One, Whole}
use Rattle.ranked.specs.Cell.{is_alive, turns_away, shown_at}
use Rattle.ranked.specs.Find.{admission_of}
use Rattle.ranked.specs.Rank.{level_of}
use Rattle.change_law.specs.Face.{Face, IsSameAt, alive_at, fate_in}
use Rattle.change_law.specs.declared.fault.ChangeFault.TheVariants as change
use Rattle.change_law.specs.Effect.{IsFaultFor}
use Rattle.world_book.proofs.CourseLaws.{alive_later}
use Rattle.history.specs.declared.event.Command.{Command}
use Rattle.history.specs.Changes.{reason_on}
use Rattle.history.specs.declared.event.Reason.{Reason}
use Rattle.history.specs.declared.event.Reply.TheVariants.{Taken, Outranked}
use Rattle.history.specs.declared.tables.Tables.{Tables}
use Rattle.history.specs.Cells.{cell_of, shows}
use Rattle.history.specs.History.{Past, is_unstruck, reason_of, tables_of}
use Rattle.history.specs.declared.event.Settings.{Settings}
use Rattle.history.specs.Servers.{servers_of}
use Rattle.history.specs.Servers.{servers_by}
use Rattle.local_zone.specs.Answer.{local_of}
use Rattle.history.specs.declared.event.Ask.TheVariants.{Answer}
use Rattle.history.specs.Reply.{reply_to_admission, seen_by, seen_first, seen_of}
use Rattle.world_book.specs.Deeds.{face_of}
use Rattle.world_book.specs.Step.{reply_of_fate, code_of}

-- what turns an admission away is alive
turned_away : (m : ℕ) (find : Find) (a : Option (Admitted Find)) → turns_away a (admission_of find find m) ≡ turns_away (alive_at m a) (admission_of find find m)
turned_away m find None = refl
turned_away m find (Some held) = by_life (is_alive held m) refl
  where
    by_life : (b : Bool) → is_alive held m ≡ b → turns_away (Some held) (admission_of find find m) ≡ turns_away (if b then Some held else None) (admission_of find find m)
    by_life true e = refl
    by_life false e = ap (λ (b : Bool). b && nat_lt (level_of find.rank) (level_of held.rank)) e

same_turn : (m : ℕ) (find : Find) (a b : Option (Admitted Find)) → alive_at m a ≡ alive_at m b → turns_away a (admission_of find find m) ≡ turns_away b (admission_of find find m)
same_turn m find a b e = turned_away m find a ∙ ap (λ (x : Option (Admitted Find)). turns_away x (admission_of find find m)) e ∙ sym (turned_away m find b)

same_later : (t m : ℕ) (a b : Option (Admitted Find)) → t ≤ m → alive_at t a ≡ alive_at t b → alive_at m a ≡ alive_at m b
same_later t m a b less e = alive_later t m a less ∙ ap (alive_at m) e ∙ sym (alive_later t m b less)

shown_alive : (m : ℕ) (a : Option (Admitted Find)) → shown_at a m ≡ shown_at (alive_at m a) m
shown_alive m None = refl
shown_alive m (Some held) = by_life (is_alive held m) refl
  where
    by_life : (b : Bool) → is_alive held m ≡ b → shown_at (Some held) m ≡ shown_at (if b then Some held else None) m
    by_life true e = refl
    by_life false e = ap (λ (b : Bool). if b then Some (record { rank = held.rank; left = held.ttl - (m - held.since); body = held.body }) else None) e

pub fate_tells : (past : Past) (face : Face Tables) (find : Find) (moment clock : ℕ) (scope : Scope) → clock ≡ max past.now moment →
    IsSameAt past.now face (face_of (is_unstruck past.marks) past.log) → reply_of_fate (fate_in face find clock scope) ≡ reply_to_admission past find moment scope
fate_tells past face find moment clock (One kind) is same =
    let q : Question = record { owner = find.owner; kind = kind } in
    let now = max past.now moment in
    ap (λ (m : ℕ). reply_of_fate (fate_in face find m (One kind))) is
    ∙ both (turns_away (face.cell q) (admission_of find find now)) (turns_away (cell_of past q) (admission_of find find now))
    (same_turn now find (face.cell q) (cell_of past q) (same_later past.now now (face.cell q) (cell_of past q) (omega arith) (same.cell q)))
  where
    both : (a b : Bool) → a ≡ b → reply_of_fate (if a then fate.Outranked else fate.Taken) ≡ (if b then Outranked else Taken)
    both true b e = subst (λ (x : Bool). Outranked ≡ (if x then Outranked else Taken)) e refl
    both false b e = subst (λ (x : Bool). Taken ≡ (if x then Outranked else Taken)) e refl
fate_tells past face find moment clock Whole is same = refl

-- Content that is the same where it is alive is shown alike from then on.
pub shown_same : (t m : ℕ) (a b : Option (Admitted Find)) → t ≤ m → alive_at t a ≡ alive_at t b → shown_at a m ≡ shown_at b m
shown_same t m a b less e = shown_alive m a ∙ ap (λ (x : Option (Admitted Find)). shown_at x m) (same_later t m a b less e) ∙ sym (shown_alive m b)

-- what a face shows at the clock of a look is what the past does
pub face_shows : (past : Past) (face : Face Tables) (moment clock : ℕ) (q : Question) → clock ≡ max past.now moment →
    IsSameAt past.now face (face_of (is_unstruck past.marks) past.log) → shown_at (face.cell q) clock ≡ shows past q moment
face_shows past face moment clock q is same =
    ap (λ (m : ℕ). shown_at (face.cell q) m) is ∙ shown_same past.now (max past.now moment) (face.cell q) (cell_of past q) (omega arith) (same.cell q)

-- ---- what a change tells of its refusal

same_reason : (past : Past) (face : Face Tables) (command : Command) (reason : Tables → Option ℕ) → ((t : Tables) → reason t ≡ option_map code_of (reason_on t command)) →
    IsSameAt past.now face (face_of (is_unstruck past.marks) past.log) → reason face.tables ≡ option_map code_of (reason_of past command)
same_reason past face command reason tells same = ap reason same.tables ∙ tells (tables_of past)

pub accepted : (past : Past) (face : Face Tables) (command : Command) (reason : Tables → Option ℕ) → ((t : Tables) → reason t ≡ option_map code_of (reason_on t command)) →
    IsSameAt past.now face (face_of (is_unstruck past.marks) past.log) → reason face.tables ≡ None → reason_of past command ≡ None
accepted past face command reason tells same none = none_of (reason_of past command) (sym (same_reason past face command reason tells same) ∙ none)
  where
    none_of : (o : Option Reason) → option_map code_of o ≡ None → o ≡ None
    none_of None e = refl
    none_of (Some r) e = absurd cc

-- the reason, of a refusal with this number
pub refused : (past : Past) (face : Face Tables) (command : Command) (reason : Tables → Option ℕ) (code : ℕ) → ((t : Tables) → reason t ≡ option_map code_of (reason_on t command)) →
    IsSameAt past.now face (face_of (is_unstruck past.marks) past.log) → IsFaultFor (reason face.tables) (change.Refused code) → (r : Reason) × (reason_of past command ≡ Some r) × (code ≡ code_of r)
refused past face command reason code tells same fault =
    by_reason (reason_of past command) refl (subst (λ (o : Option ℕ). IsFaultFor o (change.Refused code)) (same_reason past face command reason tells same) fault)
  where
    by_reason : (o : Option Reason) → reason_of past command ≡ o → IsFaultFor (option_map code_of o) (change.Refused code) → (r : Reason) × (reason_of past command ≡ Some r) × (code ≡ code_of r)
    by_reason None e h = absurd cc
    by_reason (Some r) e h = (r, e, cc)

-- what shows the cells of a face, at the clock of a look, shows what the past does
pub shows_tell : (past : Past) (face : Face Tables) (moment clock : ℕ) (shown : Question → Option (Shown Find)) → ((q : Question) → shown q ≡ shown_at (face.cell q) clock) → clock ≡ max past.now moment →
    IsSameAt past.now face (face_of (is_unstruck past.marks) past.log) → (q : Question) → shown q ≡ shows past q moment
shows_tell past face moment clock shown tells is same q = tells q ∙ face_shows past face moment clock q is same

pub servers_tell : (settings : Settings) (past : Past) (face : Face Tables) (moment clock : ℕ) (shown : Question → Option (Shown Find)) (name : Labels) → ((q : Question) → shown q ≡ shown_at (face.cell q) clock) →
    clock ≡ max past.now moment → IsSameAt past.now face (face_of (is_unstruck past.marks) past.log) → servers_by settings face.tables.stubs shown name ≡ servers_of settings past name moment
servers_tell settings past face moment clock shown name tells is same =
    ap (λ (t : Tables). servers_by settings t.stubs shown name) same.tables
    ∙ ap (λ (f : Question → Option (Shown Find)). servers_by settings (tables_of past).stubs f name) (fun_ext (shows_tell past face moment clock shown tells is same))

pub answer_tells : (settings : Settings) (past : Past) (face : Face Tables) (tables : Tables) (moment clock : ℕ) (shown : Question → Option (Shown Find)) (q : Question) → tables ≡ face.tables →
    ((q : Question) → shown q ≡ shown_at (face.cell q) clock) → clock ≡ max past.now moment → IsSameAt past.now face (face_of (is_unstruck past.marks) past.log) →
    seen_first (local_of tables.local q) (seen_by (shown q)) ≡ seen_of settings past (Answer q) moment
answer_tells settings past face tables moment clock shown q own tells is same =
    ap (λ (t : Tables). seen_first (local_of t.local q) (seen_by (shown q))) (own ∙ same.tables)
    ∙ ap (λ (s : Option (Shown Find)). seen_first (local_of (tables_of past).local q) (seen_by s)) (shows_tell past face moment clock shown tells is same q)
