-- A window that grows by one call, or moves on by one.
use Rattle.std.proofs.Common.{◌≡◌, ◌+◌, ◌-◌, ◌<◌, ◌≤◌, ℕ, List, [], ◌∷◌, ◌++◌, length, refl, sym, ◌∙◌, ap, subst, arith, inl, inr, append_assoc, length-append}
use Rattle.std.specs.Prelude.{◌⊎◌, Bool, true, false, Result, Ok, Err, OnOk, IsErrOf, slice_get, IfSome}
use Rattle.std.proofs.lemmas.Bool.{false≢true}
use Rattle.std.proofs.lemmas.List.{map-append, length-map}
use Rattle.std.proofs.lemmas.List.Sums.{count_by-le-length}
use Rattle.dns_name.specs.ListLaws.{all-append}
use Rattle.history.specs.declared.event.Event.{Event}
use Rattle.history.specs.declared.event.Settings.{Settings}
use Rattle.history.specs.declared.book.StepFault.{StepFault}
use Rattle.history.specs.declared.book.StepFault.TheVariants.{BadMoment, CountEnded, Full, NoMemory}
use Rattle.history.specs.declared.limits.TheConstants.{MOMENT_END, MOST_EVENTS, LAGGING_CELLS}
use Rattle.history.specs.Event.{moment_of, is_admission, is_plain, lagging_of}
use Rattle.history.specs.History.{past_of}
use Rattle.history.specs.Reply.{reply_of}
use Rattle.history.specs.declared.event.Reply.{Reply}
use Rattle.history.specs.Answers.{Answers, Follows, IsTimely, TellsLimit}
use Rattle.shared_book.specs.declared.receipt.Receipt.{Receipt}
use Rattle.shared_book.specs.Fresh.{CanShare}
use Rattle.shared_book.specs.Record.{events_of, IsLegalAfter}
use Rattle.shared_book.specs.Pass.{PassState}
use Rattle.shared_book.specs.Kept.{KeptState, IsKept, IsStep, IsFreed, IsTurn, IsTurnFor, MovesOn, AreTimely}

pub events_push : (entries : List Receipt) (e : Receipt) → events_of (entries ++ e ∷ []) ≡ events_of entries ++ e.event ∷ []
events_push entries e = map-append (λ (r : Receipt). r.event) entries (e ∷ [])

pub legal_push : (settings : Settings) (h : List Event) (entries : List Receipt) (e : Receipt) → IsLegalAfter settings h entries → e.number ≡ length h + length entries + 1
    → e.reply ≡ reply_of settings (past_of settings.journal (h ++ events_of entries)) e.event → IsLegalAfter settings h (entries ++ e ∷ [])
legal_push settings h [] e legal number reply = (omega (arith, number), reply ∙ ap (λ (k : List Event). reply_of settings (past_of settings.journal k) e.event) (nothing_more h), tt) where
  nothing_more : (k : List Event) → k ++ [] ≡ k
  nothing_more [] = refl
  nothing_more (x ∷ xs) = ap (λ (ys : List Event). x ∷ ys) (nothing_more xs)
legal_push settings h (x ∷ xs) e legal number reply = (
  legal.0,
  legal.1,
  legal_push settings (h ++ x.event ∷ []) xs e legal.2 (omega (arith, number, length-append h (x.event ∷ []))) (reply ∙ ap (λ (k : List Event). reply_of settings (past_of settings.journal k) e.event) (sym (append_assoc h (x.event ∷ []) (events_of xs)))),
)

-- what holds of any answer holds of one that is no fault
pub always_ok : {A E P : Type 0} (r : Result A E) → P → OnOk r P
always_ok (Ok a) p = p
always_ok (Err e) p = tt

-- a fault of the clock or the count is no want of memory
pub untimely : {T : Type 0} (fault : StepFault) → (fault ≡ BadMoment) ⊎ (fault ≡ CountEnded) → ¬ (IsErrOf {T = T} (Err fault) NoMemory)
untimely fault (inl late) is = (cc)
untimely fault (inr ended) is = (cc)

-- want of memory is the same fault, whatever there would be without it
pub same_lack : {A C : Type 0} (fault : StepFault) → IsErrOf {T = A} (Err fault) NoMemory → IsErrOf {T = C} (Err fault) NoMemory
same_lack fault is = (cc)

-- a book that is never full refuses a timely event only for want of memory
pub only_memory : (A : Type 0) (settings : Settings) (h : List Event) (event : Event) (fault : StepFault) → settings.cells ≡ LAGGING_CELLS → IsTimely (length h) event
    → Follows {A = A} settings h event (Err fault) → fault ≡ NoMemory
only_memory A settings h event BadMoment lags timely told = absurd (omega (arith, timely.moment, told))
only_memory A settings h event CountEnded lags timely told = absurd (omega (arith, timely.count_goes_on, told.1))
only_memory A settings h event (Full n) lags timely told = absurd (omega (arith, timely.count_goes_on, told.2, told.3, lags, count_by-le-length is_admission h))
only_memory A settings h event NoMemory lags timely told = refl

-- a window that has calls has an oldest one
pub oldest_of : (window : List Receipt) → 0 < length window → (oldest : Receipt) × (rest : List Receipt) × (window ≡ oldest ∷ rest)
oldest_of [] some = absurd (omega (arith, some))
oldest_of (x ∷ xs) some = (x, xs, refl)

-- its event is that of the call at the front
pub event_of_oldest : (window : List Receipt) (event : Event) (oldest : Receipt) (rest : List Receipt) → window ≡ oldest ∷ rest → IfSome (slice_get window 0) (λ o. event ≡ o.event) → event ≡ oldest.event
event_of_oldest window event oldest rest is front = subst (λ (ws : List Receipt). IfSome (slice_get ws 0) (λ o. event ≡ o.event)) is front

-- what holds of the call at the front if its event is plain
pub front_plain : (window : List Receipt) (oldest : Receipt) (rest : List Receipt) (P : Type 0) → window ≡ oldest ∷ rest → IfSome (slice_get window 0) (λ o. is_plain o.event ≡ true → P) → is_plain oldest.event ≡ true → P
front_plain window oldest rest P is front = subst (λ (ws : List Receipt). IfSome (slice_get ws 0) (λ o. is_plain o.event ≡ true → P)) is front

module _ {B : Type 0} (stands_for : B → List Event → Type 0) (settings : B → Settings) where
  -- two books to which nothing has happened
  pub begins : (book opening : B) (first limit : ℕ) (window : List Receipt) → CanShare stands_for settings book opening
      → first ≡ 1 → window ≡ [] → 1 ≤ limit
      → IsKept stands_for settings (record { book = book; opening = opening; first = first; window = window; limit = limit; total = 0; callers = 1 })
  begins book opening first limit window books one none some =
      let empty : length window ≡ 0 = ap length none in
      record {
        before = [];
        opened = books.lags.empty;
        legal = subst (λ (ws : List Receipt). IsLegalAfter (settings book) [] ws) (sym none) tt;
        stands = subst (λ (ws : List Receipt). stands_for book ([] ++ events_of ws)) (sym none) books.empty;
        numbered = omega (arith, one);
        counted = omega (arith, empty);
        most = omega (arith, empty);
        least = omega (arith, empty);
        some = some;
        lags = books.lags.settings_are;
        timely = subst AreTimely (sym none) tt;
        few = omega arith;
        few_callers = omega arith;
      }

  -- the events of all calls
  abbrev pub all_events : (kept : KeptState B) → IsKept stands_for settings kept → List Event
  all_events kept k = k.before ++ events_of kept.window

  -- there are as many of them as calls
  pub as_many : (kept : KeptState B) (k : IsKept stands_for settings kept) → length (all_events kept k) ≡ kept.total
  as_many kept k = length-append k.before (events_of kept.window) ∙ ap (λ n. length k.before + n) (length-map kept.window (λ (r : Receipt). r.event)) ∙ k.counted

  -- an event that is timely after all calls is timely after each history that the book stands for
  pub timely_after : ((book : B) (h k : List Event) → stands_for book h → stands_for book k → length h ≡ length k) → (kept : KeptState B) (k : IsKept stands_for settings kept) (event : Event)
      → IsTimely kept.total event → (h : List Event) → stands_for kept.book h → IsTimely (length h) event
  timely_after one_count kept k event timely h stands =
      let same : kept.total ≡ length h = sym (as_many kept k) ∙ one_count kept.book (all_events kept k) h k.stands stands in
      subst (λ n. IsTimely n event) same timely

  -- the oldest call of the window is timely after each history that the opening book stands for
  pub oldest_timely : ((book : B) (h k : List Event) → stands_for book h → stands_for book k → length h ≡ length k) → (kept : KeptState B) (k : IsKept stands_for settings kept) (oldest : Receipt) (rest : List Receipt)
      → kept.window ≡ oldest ∷ rest → (event : Event) → event ≡ oldest.event → (h : List Event) → stands_for kept.opening h → IsTimely (length h) event
  oldest_timely one_count kept k oldest rest is event same h stands =
      let many : length k.before ≡ length h = one_count kept.opening k.before h k.opened stands in
      let more : length kept.window ≡ length rest + 1 = ap length is ∙ omega arith in
      let times : AreTimely (oldest ∷ rest) = subst AreTimely is k.timely in
      let moment : moment_of event < MOMENT_END = subst (λ (e : Event). moment_of e < MOMENT_END) (sym same) times.0 in
      record { moment = moment; count_goes_on = omega (arith, many, more, k.counted, k.few) }

  -- nothing moves
  pub stays : (kept : KeptState B) → MovesOn stands_for settings kept kept
  stays kept = record {
    moved = inl (record { window = refl; first = refl; opening = λ h stands. stands });
    same_settings = refl;
    same_book = refl;
    same_limit = refl;
    same_total = refl;
    same_callers = refl;
  }

  -- a refused event changes nothing
  refuses : (stored : B → ℕ) (kept : KeptState B) (pass : PassState) (event : Event) (fault : StepFault)
      → ((h : List Event) → stands_for kept.book h → Answers (settings kept.book) h event (Err fault)) → ((n : ℕ) → IsErrOf {T = Reply} (Err fault) (Full n) → stored kept.book ≡ n)
      → TellsLimit (stored kept.book) (settings kept.book).cells event fault → IsStep stands_for settings stored kept pass event (Err fault) kept pass
  refuses stored kept pass event fault answers full by_limit = record {
    between = kept;
    moves = stays kept;
    room = tt;
    taken = inl (record {
      book = record { answers = answers; stands = λ h stands. stands; full = full; same_store = refl; same_settings = refl; by_limit = λ h stands. by_limit };
      called = tt;
      same_record = record { first = refl; window = refl; limit = refl; total = refl; callers = refl };
      same_opening = refl;
      same_pass = refl;
    });
  }

  pub too_late : (stored : B → ℕ) (kept : KeptState B) (pass : PassState) (event : Event) → MOMENT_END ≤ moment_of event → IsStep stands_for settings stored kept pass event (Err BadMoment) kept pass
  too_late stored kept pass event late = refuses stored kept pass event BadMoment (λ h stands. late) (λ n is. cc) tt

  pub count_ended : (stored : B → ℕ) → ((book : B) (h k : List Event) → stands_for book h → stands_for book k → length h ≡ length k) → (kept : KeptState B) → IsKept stands_for settings kept → (pass : PassState) (event : Event)
      → moment_of event < MOMENT_END → MOST_EVENTS ≤ kept.total → IsStep stands_for settings stored kept pass event (Err CountEnded) kept pass
  count_ended stored one_count kept k pass event early ended =
      refuses stored kept pass event CountEnded
      (λ h stands. (early, subst (λ n. MOST_EVENTS ≤ n) (sym (as_many kept k) ∙ one_count kept.book (all_events kept k) h k.stands stands) ended)) (λ n is. cc) tt

  -- a turn of both books, if the whole is wanted
  pub whole_turn : (stored unswept : B → ℕ) (before after : KeptState B) (whole more : Bool) → whole ≡ true → IsTurn stands_for settings stored unswept before more after
      → IsTurnFor stands_for settings stored unswept whole before more after
  whole_turn stored unswept before after whole more is turn =
      subst (λ (w : Bool). IsTurnFor stands_for settings stored unswept w before more after) (sym is) (record { freed = turn.freed; fewer = turn.fewer; enough = turn.none })

  -- a book that has room needs no turn
  pub no_turn : (stored unswept : B → ℕ) (kept : KeptState B) (whole : Bool) → whole ≡ false → stored kept.book < (settings kept.book).cells
      → IsTurnFor stands_for settings stored unswept whole kept false kept
  no_turn stored unswept kept whole is room =
      subst (λ (w : Bool). IsTurnFor stands_for settings stored unswept w kept false kept) (sym is) (record {
        freed = record {
          stands = λ h stands. stands;
          opening = λ h stands. stands;
          no_more = omega arith;
          same_settings = (refl, refl);
          same_record = record { first = refl; window = refl; limit = refl; total = refl; callers = refl };
        };
        fewer = λ more. absurd (false≢true more);
        enough = λ none. inl room;
      })

  -- a turn of the book alone
  pub book_turn : (stored unswept : B → ℕ) (before after : KeptState B) (whole more : Bool) → whole ≡ false → IsFreed stands_for settings stored before after → after.opening ≡ before.opening
      → (more ≡ true → unswept after.book < unswept before.book) → (more ≡ false → unswept after.book ≡ 0) → IsTurnFor stands_for settings stored unswept whole before more after
  book_turn stored unswept before after whole more is freed same fewer none =
      subst (λ (w : Bool). IsTurnFor stands_for settings stored unswept w before more after) (sym is) (record {
        freed = freed;
        fewer = λ yes. omega (arith, fewer yes, ap unswept same);
        enough = λ no. inr (none no);
      })

  -- what lies under the lock after a call
  pub keeps_called : (old : KeptState B) (book : B) (first limit : ℕ) (window : List Receipt) (e : Receipt) (k : IsKept stands_for settings old)
      → first ≡ old.first
      → limit ≡ old.limit
      → length old.window < old.limit
      → IsTimely (length (all_events old k)) e.event
      → e.reply ≡ reply_of (settings old.book) (past_of (settings old.book).journal (all_events old k)) e.event
      → stands_for book (all_events old k ++ e.event ∷ [])
      → settings book ≡ settings old.book
      → e.number ≡ old.total + 1
      → window ≡ old.window ++ e ∷ []
      → IsKept stands_for settings (record { book = book; opening = old.opening; first = first; window = window; limit = limit; total = old.total + 1; callers = old.callers })
  keeps_called old book first limit window e k same_first same_limit room timely reply stands same number is =
      let made_with : Settings = settings old.book in
      let many : length (all_events old k) ≡ old.total = as_many old k in
      let longer : length window ≡ length old.window + 1 = ap length is ∙ length-append old.window (e ∷ []) in
      let legal : IsLegalAfter made_with k.before (old.window ++ e ∷ [])
      = legal_push made_with k.before old.window e k.legal (omega (arith, number, k.counted)) reply in
      let joined : all_events old k ++ e.event ∷ [] ≡ k.before ++ events_of window
      = append_assoc k.before (events_of old.window) (e.event ∷ []) ∙ ap (λ (h : List Event). k.before ++ h) (sym (events_push old.window e) ∙ ap events_of (sym is)) in
      let here : moment_of e.event < MOMENT_END = timely.moment in
      record {
        before = k.before;
        opened = k.opened;
        legal = subst (λ (s : Settings). IsLegalAfter s k.before window) (sym same) (subst (λ (es : List Receipt). IsLegalAfter made_with k.before es) (sym is) legal);
        stands = subst (stands_for book) joined stands;
        numbered = same_first ∙ k.numbered;
        counted = omega (arith, longer, k.counted);
        most = omega (arith, longer, room, same_limit);
        least = omega (arith, longer, room, k.least, same_limit);
        some = omega (arith, k.some, same_limit);
        lags = k.lags ∙ ap lagging_of (sym same);
        timely = subst AreTimely (sym is) (all-append (λ (r : Receipt). moment_of r.event < MOMENT_END) old.window (e ∷ []) k.timely (here, tt));
        few = omega (arith, many, timely.count_goes_on);
        few_callers = k.few_callers;
      }

  -- what lies under the lock once the oldest call of a full window has left it
  pub keeps_moved : (old : KeptState B) (opening : B) (first limit : ℕ) (oldest : Receipt) (window : List Receipt) (k : IsKept stands_for settings old)
      → first ≡ old.first + 1
      → limit ≡ old.limit
      → old.limit ≤ length old.window
      → old.window ≡ oldest ∷ window
      → stands_for opening (k.before ++ oldest.event ∷ [])
      → settings opening ≡ settings old.opening
      → IsKept stands_for settings (record { book = old.book; opening = opening; first = first; window = window; limit = limit; total = old.total; callers = old.callers })
  keeps_moved old opening first limit oldest window k more same_limit full is opened same =
      let shorter : length old.window ≡ length window + 1 = ap length is ∙ omega arith in
      let legal : IsLegalAfter (settings old.book) k.before (oldest ∷ window) = subst (IsLegalAfter (settings old.book) k.before) is k.legal in
      let timely : AreTimely (oldest ∷ window) = subst AreTimely is k.timely in
      let joined : k.before ++ events_of old.window ≡ (k.before ++ oldest.event ∷ []) ++ events_of window
      = ap (λ (es : List Receipt). k.before ++ events_of es) is ∙ sym (append_assoc k.before (oldest.event ∷ []) (events_of window)) in
      let longer : length (k.before ++ oldest.event ∷ []) ≡ length k.before + 1 = length-append k.before (oldest.event ∷ []) in
      record {
        before = k.before ++ oldest.event ∷ [];
        opened = opened;
        legal = legal.2;
        stands = subst (stands_for old.book) joined k.stands;
        numbered = omega (arith, longer, k.numbered, more);
        counted = omega (arith, longer, shorter, k.counted);
        most = omega (arith, shorter, k.most, same_limit);
        least = omega (arith, shorter, full, same_limit);
        some = omega (arith, k.some, same_limit);
        lags = same ∙ k.lags;
        timely = timely.1;
        few = k.few;
        few_callers = k.few_callers;
      }

  -- the oldest call has left a full window
  pub moved_on : (old : KeptState B) (opening : B) (first limit : ℕ) (oldest : Receipt) (window : List Receipt) (event : Event) (k : IsKept stands_for settings old)
      → first ≡ old.first + 1
      → limit ≡ old.limit
      → old.limit ≤ length old.window
      → old.window ≡ oldest ∷ window
      → event ≡ oldest.event
      → ((h : List Event) → stands_for old.opening h → stands_for opening (h ++ event ∷ []))
      → settings opening ≡ settings old.opening
      → MovesOn stands_for settings old (record { book = old.book; opening = opening; first = first; window = window; limit = limit; total = old.total; callers = old.callers })
  moved_on old opening first limit oldest window event k more same_limit full is same takes kept = record {
    moved = inr (record {
      full = omega (arith, full, k.most);
      oldest = oldest;
      window = is;
      first = more;
      opening = λ h stands. subst (λ (e : Event). stands_for opening (h ++ e ∷ [])) same (takes h stands);
    });
    same_settings = kept;
    same_book = refl;
    same_limit = same_limit;
    same_total = refl;
    same_callers = refl;
  }

  -- the opening book has taken nothing
  pub stayed : (old : KeptState B) (opening : B) → ((h : List Event) → stands_for old.opening h → stands_for opening h) → settings opening ≡ settings old.opening
      → MovesOn stands_for settings old (record { book = old.book; opening = opening; first = old.first; window = old.window; limit = old.limit; total = old.total; callers = old.callers })
  stayed old opening stands same = record {
    moved = inl (record { window = refl; first = refl; opening = stands });
    same_settings = same;
    same_book = refl;
    same_limit = refl;
    same_total = refl;
    same_callers = refl;
  }

  -- the same where the window stays, and the opening book stands for what it did
  pub keeps_stayed : (old : KeptState B) (opening : B) (k : IsKept stands_for settings old)
      → ((h : List Event) → stands_for old.opening h → stands_for opening h)
      → settings opening ≡ settings old.opening
      → IsKept stands_for settings (record { book = old.book; opening = opening; first = old.first; window = old.window; limit = old.limit; total = old.total; callers = old.callers })
  keeps_stayed old opening k stays same = record {
    before = k.before;
    opened = stays k.before k.opened;
    legal = k.legal;
    stands = k.stands;
    numbered = k.numbered;
    counted = k.counted;
    most = k.most;
    least = k.least;
    some = k.some;
    lags = same ∙ k.lags;
    timely = k.timely;
    few = k.few;
    few_callers = k.few_callers;
  }

  -- the same where the book has changed, and stands for what it did
  pub keeps_book : (old : KeptState B) (book : B) (k : IsKept stands_for settings old)
      → ((h : List Event) → stands_for old.book h → stands_for book h)
      → settings book ≡ settings old.book
      → IsKept stands_for settings (record { book = book; opening = old.opening; first = old.first; window = old.window; limit = old.limit; total = old.total; callers = old.callers })
  keeps_book old book k stays same = record {
    before = k.before;
    opened = k.opened;
    legal = subst (λ (s : Settings). IsLegalAfter s k.before old.window) (sym same) k.legal;
    stands = stays (all_events old k) k.stands;
    numbered = k.numbered;
    counted = k.counted;
    most = k.most;
    least = k.least;
    some = k.some;
    lags = k.lags ∙ ap lagging_of (sym same);
    timely = k.timely;
    few = k.few;
    few_callers = k.few_callers;
  }
