-- A book goes on standing for its history, with the event or without it.
use Rattle.std.proofs.Common.{◌≡◌, ℕ, ◌+◌, ◌<◌, ◌≤◌, Bool, true, false, cond, List, [], ◌∷◌, ◌++◌, map, max, refl, sym, ap, subst, ◌∙◌, arith, inl, inr, length-append}
use Rattle.std.specs.Prelude.{count_by, not, ◌&&◌, ◌||◌, ◌⊎◌, filter, Result, Ok, Err, IfErr}
use Rattle.std.specs.Set.{is_member}
use Rattle.std.proofs.lemmas.List.{map-append}
use Rattle.std.proofs.lemmas.List.Folds.{list_any-append}
use Rattle.std.proofs.lemmas.List.Sums.{fold-append, sum_by-append}
use Rattle.std.proofs.lemmas.Bool.{cases_Bool, false≢true}
use Rattle.dns_name.specs.Labels.{Labels}
use Rattle.dns_name.specs.Order.{name_eq, name_eq_exact, name_equiv}
use Rattle.ranked.specs.Equal.{scope_eq}
use Rattle.ranked.specs.declared.find.Find.{Find}
use Rattle.ranked.specs.declared.find.Scope.{Scope}
use Rattle.change_law.specs.declared.world.World.{Ghosts}
use Rattle.change_law.specs.Pairs.{AddsPairs, CountsAmong, CountsNoneOf, count_pairs, pair_eq, pair_of}
use Rattle.undo_journal.specs.Journal.{Changes}
use Rattle.undo_journal.specs.Needs.{is_needy}
use Rattle.world_book.proofs.CourseLaws.{same_at}
use Rattle.history.specs.declared.book.StepFault.{StepFault}
use Rattle.history.specs.declared.book.StepFault.TheVariants.{BadMoment, CountEnded, Full, NoMemory}
use Rattle.history.specs.declared.event.Command.{Command}
use Rattle.history.specs.declared.event.Event.{Event}
use Rattle.history.specs.declared.event.Event.TheVariants.{Admit, Look, Sweep, Forget, Do, Undo, Redo, UndoOf, RedoOf}
use Rattle.history.specs.declared.event.Reply.{Reply}
use Rattle.history.specs.declared.event.Settings.{Settings}
use Rattle.history.specs.declared.limits.TheConstants.{MOMENT_END, MOST_EVENTS}
use Rattle.history.specs.declared.tables.Tables.{Tables}
use Rattle.history.specs.Answers.{Answers}
use Rattle.history.specs.Event.{moment_of, is_admission}
use Rattle.history.specs.History.{Past, past_of, nothing, followed_by}
use Rattle.world_book.specs.Book.{BookState, IsBookOf, IsByLimit, IsPassed, IsUntouched}
use Rattle.world_book.specs.Deeds.{empty_face}
use Rattle.world_book.specs.Step.{ForgetsPairs, IsFaultOf}
use Rattle.world_book.specs.Removals.{HasRemoved, IsFreeAfter}
use Rattle.world_book.specs.Versions.{finds_after, finds_left, pairs_left, ForgetsOldest}
use Rattle.world_book.specs.Tied.{GainsNeeds, IsFreeBy, IsTied, IsHistoryReply, MakesRoom, StaysTied, TakesIn, TakesNothingIn, undo_may_need}
use Rattle.world_book.proofs.NeedLaws.{free_weaker, keeps_needs, removed_more, removed_now}

pub past_more : (bound : ℕ) (h : List Event) (event : Event) → past_of bound (h ++ event ∷ []) ≡ followed_by bound (past_of bound h) event
past_more bound h event = fold-append (followed_by bound) nothing h (event ∷ [])

admissions_more : (h : List Event) (event : Event) → count_by is_admission (h ++ event ∷ []) ≡ count_by is_admission h + cond (is_admission event) 1 0
admissions_more h event = sum_by-append (λ (e : Event). cond (is_admission e) 1 0) h (event ∷ []) ∙ ap (λ n. count_by is_admission h + n) (omega arith)

-- ---- the pairs that count

pairs_more : (h : List Event) (event : Event) → pairs_left (h ++ event ∷ []) ≡ map pair_of (finds_after (finds_left h) event)
pairs_more h event = ap (map pair_of) (fold-append finds_after [] h (event ∷ []))

either : (a b c : Bool) → (a || b) ≡ true → (b ≡ true → c ≡ true) → (c || a) ≡ true
either true b true is then = refl
either true b false is then = refl
either false b c is then = rw (then is) refl

among_more : {W : Type 0} (counts : W → (Labels × Scope) → Bool) (pairs added : List (Labels × Scope)) (w w' : W) →
    CountsAmong counts pairs w → AddsPairs counts added w w' → CountsAmong counts (pairs ++ added) w'
among_more counts pairs added w w' among adds pair has =
    list_any-append (pair_eq pair) pairs added ∙ either (is_member pair_eq added pair) (counts w pair) (is_member pair_eq pairs pair) (adds pair has) (among pair)

weaker : (a b c : Bool) → (a || b) ≡ true → (b ≡ true → c ≡ true) → (a || c) ≡ true
weaker true b c is then = refl
weaker false b c is then = then is

-- the tail of a list has what its head is not
behind : (a b : Bool) → (a || b) ≡ true → a ≡ false → b ≡ true
behind true b is apart = absurd (false≢true (sym apart))
behind false b is apart = is

-- the pair of a find whose owner is forgotten, and the pair of another owner
pairs_differ : (owner : Labels) (pair : Labels × Scope) (find : Find) → name_eq owner pair.0 ≡ false → name_eq owner find.owner ≡ true → pair_eq pair (pair_of find) ≡ false
pairs_differ owner pair find apart same =
    let turned : name_eq pair.0 find.owner ≡ false =
    name_equiv.symm pair.0 find.owner ∙ ap (λ (n : Labels). name_eq n pair.0) (sym (name_eq_exact owner find.owner same)) ∙ apart in
    ap (λ (b : Bool). b && scope_eq pair.1 find.scope) turned

-- A find of another owner stays when a name is forgotten.
still_among : (owner : Labels) (pair : Labels × Scope) (finds : List Find) → name_eq owner pair.0 ≡ false → is_member pair_eq (map pair_of finds) pair ≡ true →
    is_member pair_eq (map pair_of (filter (λ find. not (name_eq owner find.owner)) finds)) pair ≡ true
still_among owner pair [] apart is = is
still_among owner pair (find ∷ finds) apart is =
    elim (cases_Bool (name_eq owner find.owner)) [
      | inl same ↦ rw same (still_among owner pair finds apart
          (behind (pair_eq pair (pair_of find)) (is_member pair_eq (map pair_of finds) pair) is (pairs_differ owner pair find apart same)))
      | inr other ↦ rw other (weaker (pair_eq pair (pair_of find)) (is_member pair_eq (map pair_of finds) pair)
          (is_member pair_eq (map pair_of (filter (λ find. not (name_eq owner find.owner)) finds)) pair) is (still_among owner pair finds apart))
    ]

-- After a forget, what counts is of the finds that are left.
among_left : {W : Type 0} (counts : W → (Labels × Scope) → Bool) (finds : List Find) (owner : Labels) (w w' : W) →
    CountsAmong counts (map pair_of finds) w → AddsPairs counts [] w w' → CountsNoneOf counts owner w' →
    CountsAmong counts (map pair_of (filter (λ find. not (name_eq owner find.owner)) finds)) w'
among_left counts finds owner w w' among adds gone pair has =
    elim (cases_Bool (name_eq owner pair.0)) [
      | inl same ↦ absurd (false≢true (sym (gone pair same) ∙ has))
      | inr other ↦ still_among owner pair finds other (among pair (adds pair has))
    ]

-- A book that refuses an event as too late, or as one too many, is not full.
pub never_full : {A Q : Type 0} (answer : Result A StepFault) (n : ℕ) → IfErr answer (λ fault. (fault ≡ BadMoment) ⊎ (fault ≡ CountEnded)) → answer ≡ Err (Full n) → Q
never_full {A} answer n untimely is =
    elim (subst (λ (r : Result A StepFault). IfErr r (λ fault. (fault ≡ BadMoment) ⊎ (fault ≡ CountEnded))) is untimely) [
      | inl early ↦ absurd (cc)
      | inr ended ↦ absurd (cc)
    ]

-- Neither the moment nor the count of events is about the limit of cells.
pub untimely_by_limit : {A : Type 0} (stands : List Event → Type 0) (stored limit : ℕ) (event : Event) (answer : Result A StepFault) →
    IfErr answer (λ fault. (fault ≡ BadMoment) ⊎ (fault ≡ CountEnded)) → IfErr answer (λ fault. IsByLimit stands stored limit event fault)
untimely_by_limit stands stored limit event (Ok taken) untimely = tt
untimely_by_limit stands stored limit event (Err fault) untimely =
    elim untimely [
      | inl early ↦ subst (λ (f : StepFault). IsByLimit stands stored limit event f) (sym early) tt
      | inr ended ↦ subst (λ (f : StepFault). IsByLimit stands stored limit event f) (sym ended) tt
    ]

module _ {W S : Type 0} (by : Ghosts W Tables S Command) where
  abbrev BookOf : BookState W S → List Event → Type 0
  BookOf book h = IsBookOf by book h

  -- what counts after an event is of the finds that are left
  among_after : (finds : List Find) (event : Event) (w w' : W) → CountsAmong by.counts (map pair_of finds) w → AddsPairs by.counts (pairs_left (event ∷ [])) w w' →
      ForgetsPairs by event w' → CountsAmong by.counts (map pair_of (finds_after finds event)) w'
  among_after finds (Admit m find) w w' among adds gone =
      subst (λ (pairs : List (Labels × Scope)). CountsAmong by.counts pairs w') (sym (map-append pair_of finds (find ∷ [])))
      (among_more by.counts (map pair_of finds) (pair_of find ∷ []) w w' among adds)
  among_after finds (Look m ask) w w' among adds gone = λ pair has. among pair (adds pair has)
  among_after finds (Sweep m) w w' among adds gone = λ pair has. among pair (adds pair has)
  among_after finds (Forget m owner) w w' among adds gone = among_left by.counts finds owner w w' among adds gone
  among_after finds (Do m command) w w' among adds gone = λ pair has. among pair (adds pair has)
  among_after finds (Undo m) w w' among adds gone = λ pair has. among pair (adds pair has)
  among_after finds (Redo m) w w' among adds gone = λ pair has. among pair (adds pair has)
  among_after finds (UndoOf m named) w w' among adds gone = λ pair has. among pair (adds pair has)
  among_after finds (RedoOf m named) w w' among adds gone = λ pair has. among pair (adds pair has)

  -- with the event
  pub goes_on : (book : BookState W S) (w' : W) (changes' : Changes S) (clock : ℕ) (event : Event) → clock ≡ max book.moment (moment_of event) →
      TakesIn by clock event book.world book.changes w' changes' → by.stored w' ≤ by.stored book.world + cond (is_admission event) 1 0 → by.limit w' ≡ by.limit book.world →
      AddsPairs by.counts (pairs_left (event ∷ [])) book.world w' → ForgetsPairs by event w' → GainsNeeds by event book.world book.changes changes' →
      (h : List Event) → BookOf book h → BookOf (record { world = w'; changes = changes'; settings = book.settings; moment = clock; count = book.count + 1 }) (h ++ event ∷ [])
  goes_on book w' changes' clock event is takes fewer same adds gone gains h so =
      let bound = book.settings.journal in
      let past = past_of bound h in
      let more : past_of bound (h ++ event ∷ []) ≡ followed_by bound past event = past_more bound h event in
      let at : clock ≡ max past.now (moment_of event) = is ∙ ap (λ (m : ℕ). max m (moment_of event)) so.moment in
      record {
        tied = subst (λ (p : Past). IsTied by w' changes' bound p) (sym more) (takes bound past at so.tied);
        moment = at ∙ sym (ap (λ (p : Past). p.now) more);
        count = omega (arith, so.count, length-append h (event ∷ []));
        few = omega (arith, fewer, so.few, admissions_more h event);
        pairs = subst (λ (pairs : List (Labels × Scope)). CountsAmong by.counts pairs w') (sym (pairs_more h event)) (among_after (finds_left h) event book.world w' so.pairs adds gone);
        most = same ∙ so.most;
        some_commands = so.some_commands;
        needs = λ t needy. elim (gains bound past so.tied t needy) [ inl before ↦ removed_more bound h event t (so.needs t before) | inr now ↦ removed_now bound h event t now ];
      }

  -- after a forget of the name to forget first
  forgot_oldest : (w w' : W) (changes : Changes S) (bound : ℕ) (past : Past) (event : Event) → MakesRoom by event w changes w' → IsTied by w changes bound past → ForgetsOldest past event → by.stored w' < by.stored w
  forgot_oldest w w' changes bound past (Forget m owner) makes tied first = makes bound past tied first
  forgot_oldest w w' changes bound past (Admit m find) makes tied first = absurd first
  forgot_oldest w w' changes bound past (Look m a) makes tied first = absurd first
  forgot_oldest w w' changes bound past (Sweep m) makes tied first = absurd first
  forgot_oldest w w' changes bound past (Do m c) makes tied first = absurd first
  forgot_oldest w w' changes bound past (Undo m) makes tied first = absurd first
  forgot_oldest w w' changes bound past (Redo m) makes tied first = absurd first
  forgot_oldest w w' changes bound past (UndoOf m named) makes tied first = absurd first
  forgot_oldest w w' changes bound past (RedoOf m named) makes tied first = absurd first

  pub room_made : (book : BookState W S) (w' : W) (event : Event) → MakesRoom by event book.world book.changes w' →
      (h : List Event) → BookOf book h → ForgetsOldest (past_of book.settings.journal h) event → by.stored w' < by.stored book.world
  room_made book w' event makes h so first = forgot_oldest book.world w' book.changes book.settings.journal (past_of book.settings.journal h) event makes so.tied first

  -- after a sweep that is no event
  pub swept_some : (book : BookState W S) (w' : W) → StaysTied by book.moment book.world book.changes w' → by.stored w' ≤ by.stored book.world + 0 → by.limit w' ≡ by.limit book.world →
      AddsPairs by.counts [] book.world w' → (h : List Event) → BookOf book h → BookOf (record { world = w'; changes = book.changes; settings = book.settings; moment = book.moment; count = book.count }) h
  swept_some book w' tied fewer same adds h so = record {
    tied = tied book.settings.journal (past_of book.settings.journal h) so.moment so.tied;
    moment = so.moment;
    count = so.count;
    few = omega (arith, fewer, so.few);
    pairs = λ pair has. so.pairs pair (adds pair has);
    most = same ∙ so.most;
    some_commands = so.some_commands;
    needs = so.needs;
  }

  -- after a fault
  pub stays : (book : BookState W S) (w' : W) (changes' : Changes S) → TakesNothingIn by book.world book.changes w' changes' → by.limit w' ≡ by.limit book.world →
      (h : List Event) → BookOf book h → BookOf (record { world = w'; changes = changes'; settings = book.settings; moment = book.moment; count = book.count }) h
  stays book w' changes' none same h so = record {
    tied = none.tied book.settings.journal (past_of book.settings.journal h) so.tied;
    moment = so.moment;
    count = so.count;
    few = omega (arith, none.stored, so.few);
    pairs = λ pair has. so.pairs pair (none.pairs pair has);
    most = same ∙ so.most;
    some_commands = so.some_commands;
    needs = λ t needy. so.needs t (ap (λ (l : List (ℕ × Bool)). is_needy l t) (sym none.needs) ∙ needy);
  }

  pub answered : (book : BookState W S) (clock : ℕ) (event : Event) (reply : Reply) → clock ≡ max book.moment (moment_of event) → moment_of event < MOMENT_END → book.count < MOST_EVENTS →
      IsHistoryReply by book.settings clock event book.world book.changes reply → (h : List Event) → BookOf book h → Answers book.settings h event (Ok reply)
  answered book clock event reply is timely counted told h so =
      let past = past_of book.settings.journal h in
      let at : clock ≡ max past.now (moment_of event) = is ∙ ap (λ (m : ℕ). max m (moment_of event)) so.moment in
      (record { moment = timely; count_goes_on = subst (λ (n : ℕ). n < MOST_EVENTS) so.count counted }, told book.settings.journal past at so.tied)

  -- an event that needs no memory
  pub free_here : {Q : Type 0} (book : BookState W S) (clock : ℕ) (event : Event) → clock ≡ max book.moment (moment_of event) →
      ((bound : ℕ) (past : Past) → clock ≡ max past.now (moment_of event) → IsTied by book.world book.changes bound past → IsFreeBy by book.changes past event → Q) →
      (h : List Event) → BookOf book h → IsFreeAfter book.settings.journal h event → Q
  free_here book clock event is taken h so free =
      let bound = book.settings.journal in
      let past = past_of bound h in
      taken bound past (is ∙ ap (λ (m : ℕ). max m (moment_of event)) so.moment) so.tied
      (free_weaker (λ t. HasRemoved bound h t → ⊥) (λ t. undo_may_need by book.changes t ≡ false) (λ t none. not_needy t none) past event free)
    where
      not_needy : (t : ℕ) → (HasRemoved book.settings.journal h t → ⊥) → undo_may_need by book.changes t ≡ false
      not_needy t none = elim (cases_Bool (undo_may_need by book.changes t)) [ inl needy ↦ absurd (none (so.needs t needy)) | inr free ↦ free ]

  -- an event that changes nothing but the clock, of which no reply is read
  pub passed : {A : Type 0} (book : BookState W S) (w' : W) (clock : ℕ) (event : Event) (taken : A) → clock ≡ max book.moment (moment_of event) → moment_of event < MOMENT_END → book.count < MOST_EVENTS →
      TakesIn by clock event book.world book.changes w' book.changes → by.stored w' ≤ by.stored book.world + cond (is_admission event) 1 0 → by.limit w' ≡ by.limit book.world →
      AddsPairs by.counts (pairs_left (event ∷ [])) book.world w' → ForgetsPairs by event w' →
      IsPassed by book event (Ok taken) (record { world = w'; changes = book.changes; settings = book.settings; moment = clock; count = book.count + 1 })
  passed book w' clock event taken is timely counted takes fewer same adds gone = record {
    answers = λ h so. record { moment = timely; count_goes_on = subst (λ (n : ℕ). n < MOST_EVENTS) so.count counted };
    stands = goes_on book w' book.changes clock event is takes fewer same adds gone (keeps_needs by event book.world book.changes book.changes refl);
    same_store = tt;
    same_settings = refl;
    untimely = tt;
  }

  -- such an event that is too late, and one after the last that is counted
  pub too_late : {A : Type 0} (book : BookState W S) (event : Event) → MOMENT_END ≤ moment_of event → IsPassed {A = A} by book event (Err BadMoment) book
  too_late book event late =
      record { answers = λ h so. late; stands = λ h so. so; same_store = refl; same_settings = refl; untimely = inl refl }

  pub count_ended : {A : Type 0} (book : BookState W S) (event : Event) → moment_of event < MOMENT_END → MOST_EVENTS ≤ book.count → IsPassed {A = A} by book event (Err CountEnded) book
  count_ended book event early ended =
      record { answers = λ h so. (early, subst (λ (n : ℕ). MOST_EVENTS ≤ n) so.count ended); stands = λ h so. so; same_store = refl; same_settings = refl; untimely = inr refl }

  pub faulted : (book : BookState W S) (event : Event) (fault : StepFault) → moment_of event < MOMENT_END → book.count < MOST_EVENTS →
      IsFaultOf by book.world event fault → (h : List Event) → BookOf book h → Answers book.settings h event (Err fault)
  faulted book event NoMemory timely counted is h so = record { moment = timely; count_goes_on = subst (λ (n : ℕ). n < MOST_EVENTS) so.count counted }
  faulted book event (Full n) timely counted is h so =
      (record { moment = timely; count_goes_on = subst (λ (n : ℕ). n < MOST_EVENTS) so.count counted }, is.0, sym is.2 ∙ so.most, subst (λ (n : ℕ). n ≤ count_by is_admission h) is.1 so.few)
  faulted book event BadMoment timely counted is h so = absurd is
  faulted book event CountEnded timely counted is h so = absurd is

  pub by_limit : (book : BookState W S) (event : Event) (fault : StepFault) → IsFaultOf by book.world event fault →
      ((finds : List Find) → CountsAmong by.counts (map pair_of finds) book.world → by.stored book.world ≤ count_pairs (map pair_of finds)) →
      IsByLimit (BookOf book) (by.stored book.world) book.settings.cells event fault
  by_limit book event NoMemory is most = λ h so admits full. is admits (full ∙ sym so.most)
  by_limit book event (Full n) is most = λ h so. omega (arith, is.1, is.2, so.most, most (finds_left h) so.pairs)
  by_limit book event BadMoment is most = tt
  by_limit book event CountEnded is most = tt

  -- a book to which nothing has happened
  pub begins : (world : W) (settings : Settings) → by.has_cells ≡ true → IsUntouched by empty_face settings.cells world → 1 ≤ settings.journal →
      BookOf (record { world = world; changes = record { kept = []; undone = []; tickets = 0; limit = settings.journal }; settings = settings; moment = 0; count = 0 }) []
  begins world settings cells untouched some = record {
    tied = record {
      cells = cells;
      stands = record {
        kept = untouched.keeps;
        ascending = tt;
        given = tt;
        marked = tt;
        later = λ t h. refl;
        faces = λ chosen choice fair. same_at 0 (by.face world [] chosen) empty_face (untouched.faces chosen);
      };
      done = refl;
      undone = refl;
      tickets = refl;
      limit = refl;
      given = record { ascending = tt; known = tt; kept = tt };
      tables = refl;
    };
    moment = refl;
    count = refl;
    few = omega (arith, untouched.stored);
    pairs = untouched.pairs;
    most = untouched.limit;
    some_commands = some;
    needs = λ t needy. absurd (false≢true needy);
  }
