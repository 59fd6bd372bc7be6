-- The tie of a world under its journal to a past goes on with each event.
use Rattle.std.proofs.Common.{◌≡◌, ◌≢◌, ℕ, ◌+◌, ◌-◌, ◌<◌, ◌≤◌, Bool, Option, Some, None, List, [], ◌∷◌, ◌++◌, length, drop, map, max, refl, sym, ap, subst, ◌∙◌, arith, rules}
use Rattle.std.specs.List.{AllByRecursion, Contains, cons_option}
use Rattle.std.specs.Option.{option_map_or}
use Rattle.std.proofs.Math.Path.{fun_ext}
use Rattle.std.proofs.lemmas.List.{append-nil, map-append}
use Rattle.std.proofs.lemmas.List.Elements.{filter_map-append, Contains-append_left, Contains-append_right}
use Rattle.dns_name.specs.ListLaws.{all-append, all-drop, all_weaker}
use Rattle.dns_name.specs.Labels.{Labels}
use Rattle.dns_text.specs.declared.record.Question.{Question}
use Rattle.ranked.specs.declared.find.Find.{Find}
use Rattle.change_law.specs.declared.kept.KeptChange.{KeptChange}
use Rattle.change_law.specs.declared.kept.Standing.{Standing}
use Rattle.change_law.specs.declared.kept.Standing.TheVariants.{Done, Undone, Cleared}
use Rattle.change_law.specs.declared.world.World.{Ghosts}
use Rattle.change_law.specs.Choice.{IsChoice, IsPresent, is_done, turned}
use Rattle.change_law.specs.Effect.{effect}
use Rattle.change_law.specs.Face.{IsSame, IsSameAt, face_with, face_without}
use Rattle.change_law.specs.Row.{IsRowAfter, IsRowFrom, IsSameRow, any, same_face, where_chosen}
use Rattle.undo_journal.specs.declared.outcome.Outcome.{Outcome}
use Rattle.undo_journal.specs.declared.outcome.Outcome.TheVariants.{Moved, NotKept, Buried}
use Rattle.undo_journal.specs.Journal.{Changes, AreChanges, HasTurned, IsChange, IsTurn, IsTurnOf, done_of, in_effect, told_of, newest, settled_by}
use Rattle.undo_journal.specs.Moving.{MovesStandings}
use Rattle.undo_journal.specs.TicketLaws.{all_back, all_filter, all_images, map_length}
use Rattle.world_book.specs.Course.{Deed, Came, Forgot, Made, AreAscending, Stands, face_by, moved_by}
use Rattle.world_book.proofs.CourseLaws.{asc_push, drop_map, same_at, same_at_later, same_at_then, stands_admitted, stands_swept, stands_forgot, stands_made, stands_shown, stands_still, stands_turned}
use Rattle.history.specs.declared.event.Ask.{Ask}
use Rattle.history.specs.declared.event.Command.{Command}
use Rattle.history.specs.declared.event.Event.TheVariants.{Admit, Look, Sweep, Forget, Do}
use Rattle.history.specs.declared.event.Entry.{Entry}
use Rattle.history.specs.declared.event.Reason.{Reason}
use Rattle.history.specs.declared.tables.Tables.{Tables}
use Rattle.history.specs.Event.{covers}
use Rattle.history.specs.Changes.{after_command_on}
use Rattle.history.specs.Journal.{commands_of, is_among}
use Rattle.history.specs.Marks.{Marks, is_struck, last_of, after_command}
use Rattle.history.specs.History.{Past, followed_by, marks_after, ticket_unless, reason_of, is_unstruck, unless_buried}
use Rattle.world_book.specs.Deeds.{deed_of, deeds_of, given_of, given_in, given_tickets, empty_face, face_of}
use Rattle.world_book.specs.Tied.{AreGiven, IsTied, tables_told}
use Rattle.world_book.specs.Turned.{command_in_way, marks_from, turn_event, turn_marks, turn_of_event}
use Rattle.world_book.specs.Versions.{table_of}
use Rattle.world_book.proofs.DeedLaws.{deeds_show}
use Rattle.world_book.proofs.MarkLaws.{done_turned, struck_after, tickets_turned, turned_known, undone_turned}
use Rattle.world_book.proofs.WayLaws.{have_tables, turn_of_moves, turnable_marked}

-- ---- one entry more

deeds_more : (log : List Entry) (e : Entry) (o : Option (Deed Tables)) → deed_of e.event e.moment e.ticket ≡ o → deeds_of (log ++ e ∷ []) ≡ deeds_of log ++ cons_option o []
deeds_more log e o is = filter_map-append (λ (entry : Entry). deed_of entry.event entry.moment entry.ticket) log (e ∷ []) ∙ ap (λ (d : Option (Deed Tables)). deeds_of log ++ cons_option d []) is

given_more : (log : List Entry) (e : Entry) (o : Option (ℕ × Command)) → given_of e.event e.ticket ≡ o → given_in (log ++ e ∷ []) ≡ given_in log ++ cons_option o []
given_more log e o is = filter_map-append (λ (entry : Entry). given_of entry.event entry.ticket) log (e ∷ []) ∙ ap (λ (d : Option (ℕ × Command)). given_in log ++ cons_option d []) is

deeds_same : (log : List Entry) (e : Entry) → deed_of e.event e.moment e.ticket ≡ None → deeds_of (log ++ e ∷ []) ≡ deeds_of log
deeds_same log e none = deeds_more log e None none ∙ append-nil (deeds_of log)

given_same : (log : List Entry) (e : Entry) → given_of e.event e.ticket ≡ None → given_in (log ++ e ∷ []) ≡ given_in log
given_same log e none = given_more log e None none ∙ append-nil (given_in log)

-- no command more
still_given : {S : Type 0} (told : S → Command) (before after : Changes S) (past : Past) (now : ℕ) (marks : Marks) (e : Entry) → given_of e.event e.ticket ≡ None →
    marks.tickets ≡ past.marks.tickets → told_of told after.kept ≡ told_of told before.kept → AreGiven told before past →
    AreGiven told after (record { now = now; marks = marks; log = past.log ++ e ∷ [] })
still_given told before after past now marks e none tickets same g =
    let log = given_same past.log e none in
    record {
      ascending = subst (λ (l : List (ℕ × Command)). AreAscending (map (λ given. given.0) l)) (sym log) g.ascending;
      known = subst (λ (n : ℕ). AllByRecursion (λ t. t ≤ n) (given_tickets (past.log ++ e ∷ []))) (sym tickets)
          (subst (λ (l : List (ℕ × Command)). AllByRecursion (λ t. t ≤ past.marks.tickets) (map (λ given. given.0) l)) (sym log) g.known);
      kept = subst (λ (l : List (ℕ × Command)). AllByRecursion (λ given. Contains l given) (told_of told after.kept)) (sym log)
          (subst (λ (l : List (ℕ × Command)). AllByRecursion (λ given. Contains (given_in past.log) given) l) (sym same) g.kept);
    }

-- one command more, which takes the next ticket
now_given : {S : Type 0} (told : S → Command) (before after : Changes S) (past : Past) (now : ℕ) (marks : Marks) (e : Entry) (c : Command) →
    given_of e.event e.ticket ≡ Some (past.marks.tickets + 1, c) → marks.tickets ≡ past.marks.tickets + 1 →
    told_of told after.kept ≡ newest before.limit (told_of told (in_effect before.kept) ++ (past.marks.tickets + 1, c) ∷ []) → AreGiven told before past →
    AreGiven told after (record { now = now; marks = marks; log = past.log ++ e ∷ [] })
now_given {S} told before after past now marks e c one tickets kept g =
    let n = past.marks.tickets + 1 in
    let new : ℕ × Command = (n, c) in
    let log : given_in (past.log ++ e ∷ []) ≡ given_in past.log ++ new ∷ [] = given_more past.log e (Some new) one in
    let first : ℕ × Command → ℕ = λ given. given.0 in
    let all : given_tickets (past.log ++ e ∷ []) ≡ given_tickets past.log ++ n ∷ [] = ap (map first) log ∙ map-append first (given_in past.log) (new ∷ []) in
    let below : AllByRecursion (λ t. t < n) (given_tickets past.log) = all_weaker (λ t. t ≤ past.marks.tickets) (λ t. t < n) (λ t less. omega (arith, less)) (given_tickets past.log) g.known in
    let one_told : KeptChange S → ℕ × Command = λ k. (k.ticket, told k.saved) in
    let wider : AllByRecursion (λ given. Contains (given_in past.log ++ new ∷ []) given) (told_of told (in_effect before.kept))
    = all_weaker (λ given. Contains (given_in past.log) given) (λ given. Contains (given_in past.log ++ new ∷ []) given) (λ given has. Contains-append_left (given_in past.log) (new ∷ []) given has) (told_of told (in_effect before.kept))
    (all_images one_told (λ given. Contains (given_in past.log) given) (in_effect before.kept) (all_filter (λ k. Contains (given_in past.log) (one_told k)) (λ k. is_done k.standing) before.kept (all_back one_told (λ given. Contains (given_in past.log) given) before.kept g.kept))) in
    let itself : Contains (given_in past.log ++ new ∷ []) new = Contains-append_right (given_in past.log) (new ∷ []) new (search rules) in
    let T = told_of told (in_effect before.kept) ++ new ∷ [] in
    record {
      ascending = subst AreAscending (sym all) (asc_push (given_tickets past.log) n g.ascending below);
      known = subst (λ (m : ℕ). AllByRecursion (λ t. t ≤ m) (given_tickets (past.log ++ e ∷ []))) (sym tickets)
          (subst (λ (l : List ℕ). AllByRecursion (λ t. t ≤ n) l) (sym all)
          (all-append (λ t. t ≤ n) (given_tickets past.log) (n ∷ []) (all_weaker (λ t. t < n) (λ t. t ≤ n) (λ t less. omega (arith, less)) (given_tickets past.log) below) (omega arith, tt)));
      kept = subst (λ (l : List (ℕ × Command)). AllByRecursion (λ given. Contains l given) (told_of told after.kept)) (sym log)
          (subst (λ (l : List (ℕ × Command)). AllByRecursion (λ given. Contains (given_in past.log ++ new ∷ []) given) l) (sym kept)
          (all-drop (λ given. Contains (given_in past.log ++ new ∷ []) given) (length T - before.limit) T
          (all-append (λ given. Contains (given_in past.log ++ new ∷ []) given) (told_of told (in_effect before.kept)) (new ∷ []) wider (itself, tt))));
    }

-- ---- the tables of the commands

abbrev one_table : ℕ × Command → ℕ × Option ℕ
one_table one = (one.0, table_of one.1)

newest_map : {X Y : Type 0} (f : X → Y) (n : ℕ) (xs : List X) (x : X) → map f (newest n (xs ++ x ∷ [])) ≡ newest n (map f xs ++ f x ∷ [])
newest_map {X} {Y} f n xs x =
    let all = xs ++ x ∷ [] in
    let same : map f all ≡ map f xs ++ f x ∷ [] = map-append f xs (x ∷ []) in
    let long : length all ≡ length (map f xs ++ f x ∷ []) = sym (map_length f all) ∙ ap (λ (l : List Y). length l) same in
    drop_map f (length all - n) all ∙ (λ i. drop (long i - n) (same i))

module _ {S : Type 0} (table : S → Option ℕ) (told : S → Command) where
  pub tables_from : (kept : List (KeptChange S)) → AllByRecursion (λ k. table k.saved ≡ table_of (told k.saved)) kept → told_of table kept ≡ tables_told (told_of told kept)
  tables_from [] h = refl
  tables_from (k ∷ kept) h = (λ i. (k.ticket, h.0 i) ∷ tables_from kept h.1 i)

  -- the tables of those in effect
  tables_in_effect : (kept : List (KeptChange S)) → told_of table kept ≡ tables_told (told_of told kept) → told_of table (in_effect kept) ≡ tables_told (told_of told (in_effect kept))
  tables_in_effect kept e = tables_from (in_effect kept) (all_filter (λ k. table k.saved ≡ table_of (told k.saved)) (λ k. is_done k.standing) kept (have_tables table told kept e))

-- ---- what an undo and a redo reach

module _ {W S : Type 0} (by : Ghosts W Tables S Command) where
  abbrev Tied : W → Changes S → ℕ → Past → Type 0
  Tied world changes bound past = IsTied by world changes bound past

  abbrev StandsAt : W → Changes S → ℕ → List (Deed Tables) → (ℕ → Bool) → Type 0
  StandsAt world changes now deeds struck = Stands by.has_cells by.table by.keeps by.face empty_face world changes now deeds struck

  pub turn_reaches : (from : Standing) (w : W) (before after : Changes S) (bound : ℕ) (past : Past) (ticket : Option ℕ) → Tied w before bound past → IsTurn from before ticket after → last_of (marks_from from past.marks) ≡ ticket
  turn_reaches from w before after bound past None tied is = ap last_of (sym (turnable_marked by.table by.told from before past tied.done tied.undone) ∙ is.0)
  turn_reaches from w before after bound past (Some t) tied is = ap last_of (sym (turnable_marked by.table by.told from before past tied.done tied.undone)) ∙ is.0

  -- ---- at a later moment

  later : (w : W) (changes : Changes S) (now moment : ℕ) (deeds : List (Deed Tables)) (struck : ℕ → Bool) → now ≤ moment → StandsAt w changes now deeds struck → StandsAt w changes moment deeds struck
  later w changes now moment deeds struck less st = record {
    kept = st.kept;
    ascending = st.ascending;
    given = st.given;
    marked = st.marked;
    later = st.later;
    faces = λ chosen choice fair. same_at_later now moment (by.face w changes.kept chosen) (face_by by.has_cells chosen empty_face deeds) less (st.faces chosen choice fair);
  }

  -- an entry that does nothing, and marks that may have moved
  moved : (w w' : W) (before after : Changes S) (bound now : ℕ) (past : Past) (marks : Marks) (e : Entry) →
      deed_of e.event e.moment e.ticket ≡ None → given_of e.event e.ticket ≡ None →
      StandsAt w' after now (deeds_of past.log) (is_struck marks) → done_of after ≡ marks.done → after.undone ≡ marks.undone →
      after.tickets ≡ before.tickets → after.limit ≡ before.limit → marks.tickets ≡ past.marks.tickets → told_of by.told after.kept ≡ told_of by.told before.kept → told_of by.table after.kept ≡ told_of by.table before.kept →
      Tied w before bound past → Tied w' after bound (record { now = now; marks = marks; log = past.log ++ e ∷ [] })
  moved w w' before after bound now past marks e no_deed no_command st done undone tickets limit same_tickets same tabs tied = record {
    cells = tied.cells;
    stands = subst (λ (deeds : List (Deed Tables)). StandsAt w' after now deeds (is_struck marks)) (sym (deeds_same past.log e no_deed)) st;
    done = done;
    undone = undone;
    tickets = tickets ∙ tied.tickets ∙ sym same_tickets;
    limit = limit ∙ tied.limit;
    given = still_given by.told before after past now marks e no_command same_tickets same tied.given;
    tables = tabs ∙ tied.tables ∙ sym (ap tables_told same);
  }

  -- an entry that does nothing, and nothing moved
  unmoved : (w w' : W) (before after : Changes S) (bound now : ℕ) (past : Past) (e : Entry) → past.now ≤ now → deed_of e.event e.moment e.ticket ≡ None → given_of e.event e.ticket ≡ None →
      after ≡ before → MovesStandings by w before w' after →
      Tied w before bound past → Tied w' after bound (record { now = now; marks = past.marks; log = past.log ++ e ∷ [] })
  unmoved w w' before after bound now past e less no_deed no_command is still tied =
      moved w w' before after bound now past past.marks e no_deed no_command
      (later w' after past.now now (deeds_of past.log) (is_struck past.marks) less (stands_still by.has_cells by.table by.keeps by.face empty_face w w' before after past.now (deeds_of past.log) (is_struck past.marks) is still.row tied.stands))
      (ap done_of is ∙ tied.done) (ap (λ (x : Changes S). x.undone) is ∙ tied.undone) (ap (λ (x : Changes S). x.tickets) is) (ap (λ (x : Changes S). x.limit) is) refl still.told still.tables tied

  -- ---- undo and redo

  turned_now : (from : Standing) → from ≢ Cleared → (w w' : W) (before after : Changes S) (bound now : ℕ) (past : Past) (e : Entry) (t : ℕ) → past.now ≤ now →
      deed_of e.event e.moment e.ticket ≡ None → given_of e.event e.ticket ≡ None → AreChanges by.table before →
      HasTurned from before t after → MovesStandings by w before w' after →
      Tied w before bound past → Tied w' after bound (record { now = now; marks = turn_marks from past.marks t; log = past.log ++ e ∷ [] })
  turned_now from live w w' before after bound now past e t less no_deed no_command are is still tied =
      let marks = turn_marks from past.marks t in
      moved w w' before after bound now past marks e no_deed no_command
      (later w' after past.now now (deeds_of past.log) (is_struck marks) less
      (subst (λ (struck : ℕ → Bool). StandsAt w' after past.now (deeds_of past.log) struck) (sym (struck_after from live past.marks t))
      (stands_turned by.has_cells by.table by.keeps by.face empty_face w w' before after past.now (deeds_of past.log) (is_struck past.marks) t (turned from)
      (turned_known by.table before after t are from live is) is.standings is.tickets still.row (λ chosen choice. still.choices chosen tt choice) tied.stands)))
      (done_turned by.table before after t are from live is past.marks tied.done)
      (undone_turned by.table before after t are from live is past.marks tied.undone)
      is.tickets is.limit (tickets_turned from past.marks t) still.told still.tables tied

  turn_now : (from : Standing) → from ≢ Cleared → (w w' : W) (before after : Changes S) (bound now : ℕ) (past : Past) (e : Entry) (ticket : Option ℕ) → past.now ≤ now →
      deed_of e.event e.moment e.ticket ≡ None → given_of e.event e.ticket ≡ None → AreChanges by.table before →
      IsTurn from before ticket after → MovesStandings by w before w' after →
      Tied w before bound past → Tied w' after bound (record { now = now; marks = option_map_or (turn_marks from past.marks) ticket past.marks; log = past.log ++ e ∷ [] })
  turn_now from live w w' before after bound now past e None less no_deed no_command are is still tied = unmoved w w' before after bound now past e less no_deed no_command is.1 still tied
  turn_now from live w w' before after bound now past e (Some t) less no_deed no_command are is still tied =
      turned_now from live w w' before after bound now past e t less no_deed no_command are is.1 still tied

  abbrev turn_entry : Standing → Past → ℕ → Entry
  turn_entry s past moment = record { event = turn_event s moment; moment = max past.now moment; ticket = None }

  pub tied_turn : (from : Standing) → from ≢ Cleared → (w w' : W) (before after : Changes S) (bound moment : ℕ) (past : Past) (ticket : Option ℕ) → AreChanges by.table before →
      IsTurn from before ticket after → MovesStandings by w before w' after →
      Tied w before bound past → Tied w' after bound (followed_by bound past (turn_event from moment))
  tied_turn from live w w' before after bound moment past ticket are is still tied = by_event from live (turn_reaches from w before after bound past ticket tied is) is
    where
      goes : (s : Standing) → s ≢ Cleared → last_of (marks_from s past.marks) ≡ ticket → IsTurn s before ticket after → deed_of (turn_event s moment) (max past.now moment) None ≡ None → given_of (turn_event s moment) None ≡ None →
          Tied w' after bound (record { now = max past.now moment; marks = option_map_or (turn_marks s past.marks) (last_of (marks_from s past.marks)) past.marks; log = past.log ++ turn_entry s past moment ∷ [] })
      goes s live reaches is no_deed no_command =
          subst (λ (o : Option ℕ). Tied w' after bound (record { now = max past.now moment; marks = option_map_or (turn_marks s past.marks) o past.marks; log = past.log ++ turn_entry s past moment ∷ [] })) (sym reaches)
          (turn_now s live w w' before after bound (max past.now moment) past (turn_entry s past moment) ticket (omega arith) no_deed no_command are is still tied)

      by_event : (s : Standing) → s ≢ Cleared → last_of (marks_from s past.marks) ≡ ticket → IsTurn s before ticket after → Tied w' after bound (followed_by bound past (turn_event s moment))
      by_event Done live reaches is = goes Done live reaches is refl refl
      by_event Undone live reaches is = goes Undone live reaches is refl refl
      by_event Cleared live reaches is = absurd (live refl)

  turn_of_now : (from : Standing) → from ≢ Cleared → (w w' : W) (before after : Changes S) (bound now : ℕ) (past : Past) (e : Entry) (t : ℕ) (outcome : Outcome) → past.now ≤ now →
      deed_of e.event e.moment e.ticket ≡ None → given_of e.event e.ticket ≡ None → AreChanges by.table before →
      IsTurnOf by.table from before t outcome after → MovesStandings by w before w' after →
      Tied w before bound past → Tied w' after bound (record { now = now; marks = option_map_or (turn_marks from past.marks) (moved_by outcome t) past.marks; log = past.log ++ e ∷ [] })
  turn_of_now from live w w' before after bound now past e t Moved less no_deed no_command are is still tied =
      turned_now from live w w' before after bound now past e t less no_deed no_command are is.1 still tied
  turn_of_now from live w w' before after bound now past e t NotKept less no_deed no_command are is still tied =
      unmoved w w' before after bound now past e less no_deed no_command is.1 still tied
  turn_of_now from live w w' before after bound now past e t (Buried other) less no_deed no_command are is still tied =
      unmoved w w' before after bound now past e less no_deed no_command is.2 still tied

  abbrev turn_of_entry : Standing → Past → ℕ → ℕ → Entry
  turn_of_entry s past t moment = record { event = turn_of_event s t moment; moment = max past.now moment; ticket = None }

  pub tied_turn_of : (from : Standing) → from ≢ Cleared → (w w' : W) (before after : Changes S) (bound moment : ℕ) (past : Past) (t : ℕ) (outcome : Outcome) → AreChanges by.table before →
      IsTurnOf by.table from before t outcome after → MovesStandings by w before w' after →
      Tied w before bound past → Tied w' after bound (followed_by bound past (turn_of_event from t moment))
  tied_turn_of from live w w' before after bound moment past t outcome are is still tied = by_event from live is
    where
      goes : (s : Standing) → s ≢ Cleared → IsTurnOf by.table s before t outcome after → deed_of (turn_of_event s t moment) (max past.now moment) None ≡ None → given_of (turn_of_event s t moment) None ≡ None →
          Tied w' after bound (record { now = max past.now moment; marks = option_map_or (turn_marks s past.marks) (unless_buried (is_among (marks_from s past.marks) t) (command_in_way s (commands_of past) t) t) past.marks; log = past.log ++ turn_of_entry s past t moment ∷ [] })
      goes s live is no_deed no_command =
          subst (λ (o : Option ℕ). Tied w' after bound (record { now = max past.now moment; marks = option_map_or (turn_marks s past.marks) o past.marks; log = past.log ++ turn_of_entry s past t moment ∷ [] }))
          (turn_of_moves by.table by.told s before after past t outcome are tied.done tied.undone tied.given tied.tables is)
          (turn_of_now s live w w' before after bound (max past.now moment) past (turn_of_entry s past t moment) t outcome (omega arith) no_deed no_command are is still tied)

      by_event : (s : Standing) → s ≢ Cleared → IsTurnOf by.table s before t outcome after → Tied w' after bound (followed_by bound past (turn_of_event s t moment))
      by_event Done live is = goes Done live is refl refl
      by_event Undone live is = goes Undone live is refl refl
      by_event Cleared live is = absurd (live refl)

  -- ---- what changes no command

  -- after a fault
  pub tied_still : (w w' : W) (before after : Changes S) (bound : ℕ) (past : Past) → IsSameRow by.table by.keeps by.face w w' → after ≡ before → Tied w before bound past → Tied w' after bound past
  tied_still w w' before after bound past row same tied =
      let here = subst (λ (x : Changes S). IsRowAfter by.table by.keeps by.face same_face any w before.kept w' x.kept) (sym same) (row before.kept tied.stands.kept) in
      let stands = stands_still by.has_cells by.table by.keeps by.face empty_face w w' before after past.now (deeds_of past.log) (is_struck past.marks) same here tied.stands in
      record {
        cells = tied.cells;
        stands = stands;
        done = ap done_of same ∙ tied.done;
        undone = ap (λ (x : Changes S). x.undone) same ∙ tied.undone;
        tickets = ap (λ (x : Changes S). x.tickets) same ∙ tied.tickets;
        limit = ap (λ (x : Changes S). x.limit) same ∙ tied.limit;
        given = subst (λ (x : Changes S). AreGiven by.told x past) (sym same) tied.given;
        tables = subst (λ (x : Changes S). told_of by.table x.kept ≡ tables_told (told_of by.told x.kept)) (sym same) tied.tables;
      }

  quiet : (w : W) (changes : Changes S) (bound now : ℕ) (past : Past) (e : Entry) → past.now ≤ now → deed_of e.event e.moment e.ticket ≡ None → given_of e.event e.ticket ≡ None →
      Tied w changes bound past → Tied w changes bound (record { now = now; marks = past.marks; log = past.log ++ e ∷ [] })
  quiet w changes bound now past e less no_deed no_command tied =
      moved w w changes changes bound now past past.marks e no_deed no_command (later w changes past.now now (deeds_of past.log) (is_struck past.marks) less tied.stands)
      tied.done tied.undone refl refl refl refl refl tied

  pub tied_look : (w : W) (changes : Changes S) (bound moment : ℕ) (ask : Ask) (past : Past) → Tied w changes bound past → Tied w changes bound (followed_by bound past (Look moment ask))
  tied_look w changes bound moment ask past tied =
      let now = max past.now moment in
      quiet w changes bound now past (record { event = Look moment ask; moment = now; ticket = None }) (omega arith) refl refl tied

  pub tied_swept : (w w' : W) (changes : Changes S) (bound moment : ℕ) (past : Past) → IsRowFrom by.table by.keeps by.face (max past.now moment) (λ f. f) w changes.kept w' →
      Tied w changes bound past → Tied w' changes bound (followed_by bound past (Sweep moment))
  tied_swept w w' changes bound moment past row tied =
      let now = max past.now moment in
      moved w w' changes changes bound now past past.marks (record { event = Sweep moment; moment = now; ticket = None }) refl refl
      (stands_swept by.has_cells by.table by.keeps by.face empty_face w w' changes past.now now (deeds_of past.log) (is_struck past.marks) (omega arith) row tied.stands)
      tied.done tied.undone refl refl refl refl refl tied

  -- a sweep that is no event
  pub tied_unmoved : (w w' : W) (changes : Changes S) (bound clock : ℕ) (past : Past) → clock ≡ past.now → IsRowFrom by.table by.keeps by.face clock (λ f. f) w changes.kept w' →
      Tied w changes bound past → Tied w' changes bound past
  tied_unmoved w w' changes bound clock past is row tied = record {
    cells = tied.cells;
    stands = stands_swept by.has_cells by.table by.keeps by.face empty_face w w' changes past.now past.now (deeds_of past.log) (is_struck past.marks) (omega arith)
        (subst (λ (m : ℕ). IsRowFrom by.table by.keeps by.face m (λ f. f) w changes.kept w') is row) tied.stands;
    done = tied.done;
    undone = tied.undone;
    tickets = tied.tickets;
    limit = tied.limit;
    given = tied.given;
    tables = tied.tables;
  }

  pub tied_came : (w w' : W) (changes : Changes S) (bound moment : ℕ) (find : Find) (past : Past) →
      IsRowFrom by.table by.keeps by.face (max past.now moment) (face_with by.has_cells find (max past.now moment)) w changes.kept w' →
      Tied w changes bound past → Tied w' changes bound (followed_by bound past (Admit moment find))
  tied_came w w' changes bound moment find past row tied =
      let now = max past.now moment in
      let e : Entry = record { event = Admit moment find; moment = now; ticket = None } in
      record {
        cells = tied.cells;
        stands = subst (λ (deeds : List (Deed Tables)). StandsAt w' changes now deeds (is_struck past.marks)) (sym (deeds_more past.log e (Some (Came find now)) refl))
            (stands_admitted by.has_cells by.table by.keeps by.face empty_face w w' changes past.now now (deeds_of past.log) (is_struck past.marks) find (omega arith) row tied.stands);
        done = tied.done;
        undone = tied.undone;
        tickets = tied.tickets;
        limit = tied.limit;
        given = still_given by.told changes changes past now past.marks e refl refl refl tied.given;
        tables = tied.tables;
      }

  pub tied_forgot : (w w' : W) (changes : Changes S) (bound moment : ℕ) (owner : Labels) (past : Past) →
      IsRowAfter by.table by.keeps by.face (λ chosen. face_without by.has_cells owner) any w changes.kept w' changes.kept →
      Tied w changes bound past → Tied w' changes bound (followed_by bound past (Forget moment owner))
  tied_forgot w w' changes bound moment owner past row tied =
      let now = max past.now moment in
      let e : Entry = record { event = Forget moment owner; moment = now; ticket = None } in
      record {
        cells = tied.cells;
        stands = subst (λ (deeds : List (Deed Tables)). StandsAt w' changes now deeds (is_struck past.marks)) (sym (deeds_more past.log e (Some (Forgot owner)) refl))
            (stands_forgot by.has_cells by.table by.keeps by.face empty_face w w' changes past.now now (deeds_of past.log) (is_struck past.marks) owner (omega arith) row tied.stands);
        done = tied.done;
        undone = tied.undone;
        tickets = tied.tickets;
        limit = tied.limit;
        given = still_given by.told changes changes past now past.marks e refl refl refl tied.given;
        tables = tied.tables;
      }

  -- the same, at the moment to which the clock comes
  pub tied_swept_at : (w w' : W) (changes : Changes S) (bound moment clock : ℕ) (past : Past) → clock ≡ max past.now moment → IsRowFrom by.table by.keeps by.face clock (λ f. f) w changes.kept w' →
      Tied w changes bound past → Tied w' changes bound (followed_by bound past (Sweep moment))
  tied_swept_at w w' changes bound moment clock past is row tied =
      tied_swept w w' changes bound moment past (subst (λ (m : ℕ). IsRowFrom by.table by.keeps by.face m (λ f. f) w changes.kept w') is row) tied

  pub tied_came_at : (w w' : W) (changes : Changes S) (bound moment clock : ℕ) (find : Find) (past : Past) → clock ≡ max past.now moment →
      IsRowFrom by.table by.keeps by.face clock (face_with by.has_cells find clock) w changes.kept w' →
      Tied w changes bound past → Tied w' changes bound (followed_by bound past (Admit moment find))
  tied_came_at w w' changes bound moment clock find past is row tied =
      tied_came w w' changes bound moment find past (subst (λ (m : ℕ). IsRowFrom by.table by.keeps by.face m (face_with by.has_cells find m) w changes.kept w') is row) tied

  -- ---- a command

  pub tied_refused : (w w' : W) (before after : Changes S) (bound moment : ℕ) (command : Command) (past : Past) (reason : Reason) → reason_of past command ≡ Some reason →
      IsSameRow by.table by.keeps by.face w w' → after ≡ before → Tied w before bound past → Tied w' after bound (followed_by bound past (Do moment command))
  tied_refused w w' before after bound moment command past reason refused row same tied =
      let now = max past.now moment in
      subst (λ (o : Option Reason). Tied w' after bound (record {
        now = now;
        marks = marks_after bound past.marks (Do moment command) (ticket_unless past.marks o);
        log = past.log ++ record { event = Do moment command; moment = now; ticket = ticket_unless past.marks o } ∷ [];
      })) (sym refused)
      (quiet w' after bound now past (record { event = Do moment command; moment = now; ticket = None }) (omega arith) refl refl (tied_still w w' before after bound past row same tied))

  made_now : (w w' : W) (before after : Changes S) (bound now moment : ℕ) (command : Command) (past : Past) (ticket : ℕ) (tables : Tables → Tables) (empties : Question → Bool) (said : Command) (tab : Option ℕ) →
      past.now ≤ now → ((t : Tables) → tables t ≡ after_command_on command t) → ((q : Question) → empties q ≡ covers command q) → said ≡ command → tab ≡ table_of command →
      AreChanges by.table before → IsChange before ticket after →
      IsRowAfter by.table by.keeps by.face (where_chosen ticket (effect tables empties)) (IsPresent (settled_by before)) w before.kept w' after.kept →
      ((chosen : ℕ → Bool) → IsPresent (settled_by before) chosen → IsChoice by.table after.kept chosen → IsChoice by.table before.kept chosen) →
      told_of by.told after.kept ≡ newest before.limit (told_of by.told (in_effect before.kept) ++ (ticket, said) ∷ []) →
      told_of by.table after.kept ≡ newest before.limit (told_of by.table (in_effect before.kept) ++ (ticket, tab) ∷ []) →
      Tied w before bound past → Tied w' after bound (record {
        now = now;
        marks = after_command bound past.marks;
        log = past.log ++ record { event = Do moment command; moment = now; ticket = Some (past.marks.tickets + 1) } ∷ [];
      })
  made_now w w' before after bound now moment command past ticket tables empties said tab less same_tables same_cells same_said same_tab are is row choices kept tabs tied =
      let n = past.marks.tickets + 1 in
      let e : Entry = record { event = Do moment command; moment = now; ticket = Some n } in
      let struck = is_struck past.marks in
      let tick : ticket ≡ n = is.next ∙ ap (λ (m : ℕ). m + 1) tied.tickets in
      let deed : Made ticket tables empties ≡ Made n (after_command_on command) (covers command) = λ i. Made (tick i) (fun_ext same_tables i) (fun_ext same_cells i) in
      let made = later w' after past.now now (deeds_of past.log ++ Made ticket tables empties ∷ []) struck less
      (stands_made by.has_cells by.table by.keeps by.face empty_face w w' before after past.now (deeds_of past.log) struck ticket tables empties are is row choices tied.stands) in
      record {
        cells = tied.cells;
        stands = subst (λ (deeds : List (Deed Tables)). StandsAt w' after now deeds struck) (sym (deeds_more past.log e (Some (Made n (after_command_on command) (covers command))) refl))
            (subst (λ (d : Deed Tables). StandsAt w' after now (deeds_of past.log ++ d ∷ []) struck) deed made);
        done = is.done ∙ (λ i. newest (tied.limit i) (tied.done i ++ tick i ∷ []));
        undone = is.undone;
        tickets = is.tickets ∙ tick;
        limit = is.limit ∙ tied.limit;
        given = now_given by.told before after past now (after_command bound past.marks) e command refl refl
            (kept ∙ (λ i. newest before.limit (told_of by.told (in_effect before.kept) ++ (tick i, same_said i) ∷ []))) tied.given;
        tables = tabs
            ∙ (λ i. newest before.limit (tables_in_effect by.table by.told before.kept tied.tables i ++ (ticket, (same_tab ∙ sym (ap table_of same_said)) i) ∷ []))
            ∙ sym (newest_map one_table before.limit (told_of by.told (in_effect before.kept)) (ticket, said)) ∙ sym (ap tables_told kept);
      }

  pub tied_made : (w w' : W) (before after : Changes S) (bound moment : ℕ) (command : Command) (past : Past) (ticket : ℕ) (tables : Tables → Tables) (empties : Question → Bool) (said : Command) (tab : Option ℕ) →
      ((t : Tables) → tables t ≡ after_command_on command t) → ((q : Question) → empties q ≡ covers command q) → said ≡ command → tab ≡ table_of command → reason_of past command ≡ None →
      AreChanges by.table before → IsChange before ticket after →
      IsRowAfter by.table by.keeps by.face (where_chosen ticket (effect tables empties)) (IsPresent (settled_by before)) w before.kept w' after.kept →
      ((chosen : ℕ → Bool) → IsPresent (settled_by before) chosen → IsChoice by.table after.kept chosen → IsChoice by.table before.kept chosen) →
      told_of by.told after.kept ≡ newest before.limit (told_of by.told (in_effect before.kept) ++ (ticket, said) ∷ []) →
      told_of by.table after.kept ≡ newest before.limit (told_of by.table (in_effect before.kept) ++ (ticket, tab) ∷ []) →
      Tied w before bound past → Tied w' after bound (followed_by bound past (Do moment command))
  tied_made w w' before after bound moment command past ticket tables empties said tab same_tables same_cells same_said same_tab accepted are is row choices kept tabs tied =
      let now = max past.now moment in
      subst (λ (o : Option Reason). Tied w' after bound (record {
        now = now;
        marks = marks_after bound past.marks (Do moment command) (ticket_unless past.marks o);
        log = past.log ++ record { event = Do moment command; moment = now; ticket = ticket_unless past.marks o } ∷ [];
      })) (sym accepted)
      (made_now w w' before after bound now moment command past ticket tables empties said tab (omega arith) same_tables same_cells same_said same_tab are is row choices kept tabs tied)

  -- ---- what is shown

  pub tied_shows : ((w : W) (kept : List (KeptChange S)) (chosen : ℕ → Bool) → by.keeps w kept → IsPresent kept chosen → IsSame (by.face w kept chosen) (by.shown w)) →
      (w : W) (changes : Changes S) (bound : ℕ) (past : Past) → AreChanges by.table changes → Tied w changes bound past → IsSameAt past.now (by.shown w) (face_of (is_unstruck past.marks) past.log)
  tied_shows shows w changes bound past are tied =
      same_at_then (stands_shown by.has_cells by.table by.keeps by.face empty_face by.shown shows w changes past.now (deeds_of past.log) (is_struck past.marks) are tied.stands)
      (same_at past.now (face_by by.has_cells (is_unstruck past.marks) empty_face (deeds_of past.log)) (face_of (is_unstruck past.marks) past.log)
      (subst (λ (b : Bool). IsSame (face_by b (is_unstruck past.marks) empty_face (deeds_of past.log)) (face_of (is_unstruck past.marks) past.log)) (sym tied.cells)
      (deeds_show (is_unstruck past.marks) past.log)))
