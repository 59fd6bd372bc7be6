-- Records that are taken out of a list, and put back in their places.
use Rattle.std.proofs.Common.{◌≡◌, ℕ, zero, suc, ◌+◌, ◌<◌, ◌≤◌, ◌⊎◌, inl, inr, Bool, true, false, not, ◌||◌, cond, List, [], ◌∷◌, ◌++◌, length, take, drop, filter, get_or, refl, ap, sym, subst, ◌∙◌, append_assoc, arith, length-append}
use Rattle.std.specs.List.{list_any}
use Rattle.std.proofs.lemmas.Bool.{false≢true}
use Rattle.std.proofs.lemmas.List.{take_at, drop_at, take-append-drop, length-take-le, length-drop, drop_more, take_more}
use Rattle.std.proofs.lemmas.List.Elements.{filter-append}
use Rattle.dns_name.specs.Labels.{Labels}
use Rattle.dns_name.specs.Order.{name_eq, name_eq_exact}
use Rattle.dns_text.specs.declared.record.Record.{Record}
use Rattle.local_zone.specs.declared.taken.Taken.{Taken}
use Rattle.local_zone.specs.Index.{of_owner}
use Rattle.local_zone.specs.Gaps.{records_of, gaps_of, put_back, first_at, at_gaps, rest_of, AreWithin, FitBetween, AreApart, gaps_where}

-- ---- a place in a list

abbrev pub behind : ℕ → List Record → List Record
behind gap records = drop 1 (drop gap records)

pub record CutAt (gap : ℕ) (records : List Record) : Type 0 where
  pub item : Record
  pub is : drop gap records ≡ item ∷ behind gap records

pub cut_at : (gap : ℕ) (records : List Record) → gap < length records → CutAt gap records
cut_at zero [] h = absurd (omega (arith, h))
cut_at zero (r ∷ records) h = record { item = r; is = refl }
cut_at (suc gap) [] h = absurd (omega (arith, h))
cut_at (suc gap) (r ∷ records) h =
    let it = cut_at gap records (omega (arith, h)) in
    let here : drop (suc gap) (r ∷ records) ≡ drop gap records = refl in
    record { item = it.item; is = here ∙ it.is ∙ ap (λ (x : List Record). it.item ∷ drop 1 x) (sym here) }

short : (gap : ℕ) (records : List Record) → gap ≤ length records → length (take gap records) ≡ gap
short gap records h = length-take-le gap records h

-- ---- taken, and back

pub back_at : (gaps : List ℕ) (records : List Record) → AreWithin gaps records → put_back (at_gaps gaps records) (rest_of gaps records) ≡ records
back_at [] records h = refl
back_at (gap ∷ more) records h =
    let it = cut_at gap records h.0 in
    let ys = behind gap records in
    let front = take gap records in
    let rest = rest_of more ys in
    let long = short gap records (omega (arith, h.0)) in
    let first : at_gaps (gap ∷ more) records ≡ (record { gap = gap; item = it.item }) ∷ at_gaps more ys = ap (λ (x : List Record). first_at gap x ++ at_gaps more ys) it.is in
    ap (λ (x : List Taken). put_back x (front ++ rest)) first
    ∙ (λ i. take_at front rest gap long i ++ it.item ∷ put_back (at_gaps more ys) (drop_at front rest gap long i))
    ∙ ap (λ (x : List Record). front ++ it.item ∷ x) (back_at more ys h.1)
    ∙ ap (λ (x : List Record). front ++ x) (sym it.is)
    ∙ take-append-drop gap records

pub fit_at : (gaps : List ℕ) (records : List Record) → AreWithin gaps records → FitBetween (at_gaps gaps records) (rest_of gaps records)
fit_at [] records h = tt
fit_at (gap ∷ more) records h =
    let it = cut_at gap records h.0 in
    let ys = behind gap records in
    let front = take gap records in
    let rest = rest_of more ys in
    let long = short gap records (omega (arith, h.0)) in
    let first : at_gaps (gap ∷ more) records ≡ (record { gap = gap; item = it.item }) ∷ at_gaps more ys = ap (λ (x : List Record). first_at gap x ++ at_gaps more ys) it.is in
    let within : gap ≤ length (front ++ rest) = omega (arith, length-append front rest, long) in
    let later : FitBetween (at_gaps more ys) (drop gap (front ++ rest)) = subst (λ (x : List Record). FitBetween (at_gaps more ys) x) (sym (drop_at front rest gap long)) (fit_at more ys h.1) in
    subst (λ (x : List Taken). FitBetween x (front ++ rest)) (sym first) (within, later)

-- ---- back, and taken again

-- the list after the first that is put back
put_behind : (t : Taken) (more : List Taken) (left : List Record) → t.gap ≤ length left → drop t.gap (put_back (t ∷ more) left) ≡ t.item ∷ put_back more (drop t.gap left)
put_behind t more left h = drop_at (take t.gap left) (t.item ∷ put_back more (drop t.gap left)) t.gap (short t.gap left h)

put_before : (t : Taken) (more : List Taken) (left : List Record) → t.gap ≤ length left → take t.gap (put_back (t ∷ more) left) ≡ take t.gap left
put_before t more left h = take_at (take t.gap left) (t.item ∷ put_back more (drop t.gap left)) t.gap (short t.gap left h)

pub rest_back : (taken : List Taken) (left : List Record) → FitBetween taken left → rest_of (gaps_of taken) (put_back taken left) ≡ left
rest_back [] left h = refl
rest_back (t ∷ more) left h =
    let tail : behind t.gap (put_back (t ∷ more) left) ≡ put_back more (drop t.gap left) = ap (λ (x : List Record). drop 1 x) (put_behind t more left h.0) in
    (λ i. put_before t more left h.0 i ++ rest_of (gaps_of more) (tail i))
    ∙ ap (λ (x : List Record). take t.gap left ++ x) (rest_back more (drop t.gap left) h.1)
    ∙ take-append-drop t.gap left

pub at_back : (taken : List Taken) (left : List Record) → FitBetween taken left → at_gaps (gaps_of taken) (put_back taken left) ≡ taken
at_back [] left h = refl
at_back (t ∷ more) left h =
    let tail : behind t.gap (put_back (t ∷ more) left) ≡ put_back more (drop t.gap left) = ap (λ (x : List Record). drop 1 x) (put_behind t more left h.0) in
    (λ i. first_at t.gap (put_behind t more left h.0 i) ++ at_gaps (gaps_of more) (tail i))
    ∙ ap (λ (x : List Taken). t ∷ x) (at_back more (drop t.gap left) h.1)

pub within_back : (taken : List Taken) (left : List Record) → FitBetween taken left → AreWithin (gaps_of taken) (put_back taken left)
within_back [] left h = tt
within_back (t ∷ more) left h =
    let tail : behind t.gap (put_back (t ∷ more) left) ≡ put_back more (drop t.gap left) = ap (λ (x : List Record). drop 1 x) (put_behind t more left h.0) in
    let front = take t.gap left in
    let long = short t.gap left h.0 in
    let here : t.gap < length (put_back (t ∷ more) left) = omega (arith, long, length-append front (t.item ∷ put_back more (drop t.gap left))) in
    (here, subst (λ (x : List Record). AreWithin (gaps_of more) x) (sym tail) (within_back more (drop t.gap left) h.1))

-- ---- by a test

module _ (p : Record → Bool) where
  abbrev stays : Record → Bool
  stays r = not (p r)

  rest_front : (records front : List Record) (gap : ℕ) → gap ≡ length front → rest_of (gaps_where p gap records) (front ++ records) ≡ front ++ filter stays records
  rest_front [] front gap e = refl
  rest_front (r ∷ records) front gap e =
      by (p r) (rest_front records [] 0 refl) (rest_front records (front ++ r ∷ []) (gap + 1) (omega (arith, e, length-append front (r ∷ []))))
    where
      by : (b : Bool) → rest_of (gaps_where p 0 records) records ≡ filter stays records
          → rest_of (gaps_where p (gap + 1) records) ((front ++ r ∷ []) ++ records) ≡ (front ++ r ∷ []) ++ filter stays records
          → rest_of (cond b (gap ∷ gaps_where p 0 records) (gaps_where p (gap + 1) records)) (front ++ r ∷ records) ≡ front ++ cond (not b) (r ∷ filter stays records) (filter stays records)
      by true goes more =
          (λ i. take_at front (r ∷ records) gap (sym e) i ++ rest_of (gaps_where p 0 records) (drop 1 (drop_at front (r ∷ records) gap (sym e) i))) ∙ ap (λ (x : List Record). front ++ x) goes
      by false goes more =
          ap (rest_of (gaps_where p (gap + 1) records)) (sym (append_assoc front (r ∷ []) records)) ∙ more ∙ append_assoc front (r ∷ []) (filter stays records)

  at_front : (records front : List Record) (gap : ℕ) → gap ≡ length front → records_of (at_gaps (gaps_where p gap records) (front ++ records)) ≡ filter p records
  at_front [] front gap e = refl
  at_front (r ∷ records) front gap e =
      by (p r) (at_front records [] 0 refl) (at_front records (front ++ r ∷ []) (gap + 1) (omega (arith, e, length-append front (r ∷ []))))
    where
      by : (b : Bool) → records_of (at_gaps (gaps_where p 0 records) records) ≡ filter p records
          → records_of (at_gaps (gaps_where p (gap + 1) records) ((front ++ r ∷ []) ++ records)) ≡ filter p records
          → records_of (at_gaps (cond b (gap ∷ gaps_where p 0 records) (gaps_where p (gap + 1) records)) (front ++ r ∷ records)) ≡ cond b (r ∷ filter p records) (filter p records)
      by true goes more =
          (λ i. records_of (first_at gap (drop_at front (r ∷ records) gap (sym e) i) ++ at_gaps (gaps_where p 0 records) (drop 1 (drop_at front (r ∷ records) gap (sym e) i))))
          ∙ ap (λ (x : List Record). r ∷ x) goes
      by false goes more = ap (λ (x : List Record). records_of (at_gaps (gaps_where p (gap + 1) records) x)) (sym (append_assoc front (r ∷ []) records)) ∙ more

  within_front : (records front : List Record) (gap : ℕ) → gap ≡ length front → AreWithin (gaps_where p gap records) (front ++ records)
  within_front [] front gap e = tt
  within_front (r ∷ records) front gap e =
      by (p r) (within_front records [] 0 refl) (within_front records (front ++ r ∷ []) (gap + 1) (omega (arith, e, length-append front (r ∷ []))))
    where
      by : (b : Bool) → AreWithin (gaps_where p 0 records) records → AreWithin (gaps_where p (gap + 1) records) ((front ++ r ∷ []) ++ records)
          → AreWithin (cond b (gap ∷ gaps_where p 0 records) (gaps_where p (gap + 1) records)) (front ++ r ∷ records)
      by true goes more =
          (omega (arith, e, length-append front (r ∷ records)), subst (λ (x : List Record). AreWithin (gaps_where p 0 records) (drop 1 x)) (sym (drop_at front (r ∷ records) gap (sym e))) goes)
      by false goes more = subst (λ (x : List Record). AreWithin (gaps_where p (gap + 1) records) x) (append_assoc front (r ∷ []) records) more

  -- the gaps before the records that pass the test
  pub rest_where : (records : List Record) → rest_of (gaps_where p 0 records) records ≡ filter stays records
  rest_where records = rest_front records [] 0 refl

  pub at_where : (records : List Record) → records_of (at_gaps (gaps_where p 0 records) records) ≡ filter p records
  at_where records = at_front records [] 0 refl

  pub within_where : (records : List Record) → AreWithin (gaps_where p 0 records) records
  within_where records = within_front records [] 0 refl

-- ---- owners

none_both : (q p : Record → Bool) (records : List Record) → ((r : Record) → p r ≡ true → q r ≡ false) → filter q (filter p records) ≡ []
none_both q p [] h = refl
none_both q p (r ∷ records) h = by (p r) refl (none_both q p records h)
  where
    by : (b : Bool) → p r ≡ b → filter q (filter p records) ≡ [] → filter q (cond b (r ∷ filter p records) (filter p records)) ≡ []
    by true e more = ap (λ b. cond b (r ∷ filter q (filter p records)) (filter q (filter p records))) (h r e) ∙ more
    by false e more = more

is_not : (b : Bool) → not b ≡ true → b ≡ false
is_not true e = absurd cc
is_not false e = refl

-- a test of owners alone parts the records of no owner
pub apart_where : (f : Labels → Bool) (records : List Record) → AreApart (at_gaps (gaps_where (λ r. f r.owner) 0 records) records) (rest_of (gaps_where (λ r. f r.owner) 0 records) records)
apart_where f records owner = by (f owner) refl
  where
    differs : (b : Bool) → f owner ≡ b → (r : Record) → (f r.owner ≡ b → ⊥) → name_eq r.owner owner ≡ false
    differs b e r n = either_way (name_eq r.owner owner) refl
      where
        either_way : (t : Bool) → name_eq r.owner owner ≡ t → name_eq r.owner owner ≡ false
        either_way true is = absurd (n (ap f (name_eq_exact r.owner owner is) ∙ e))
        either_way false is = is

    by : (b : Bool) → f owner ≡ b → (of_owner owner (records_of (at_gaps (gaps_where (λ r. f r.owner) 0 records) records)) ≡ []) ⊎ (of_owner owner (rest_of (gaps_where (λ r. f r.owner) 0 records) records) ≡ [])
    by true e =
        inr (ap (of_owner owner) (rest_where (λ r. f r.owner) records)
        ∙ none_both (λ r. name_eq r.owner owner) (λ r. not (f r.owner)) records (λ r out. differs true e r (λ it. absurd (apart_bools (sym it ∙ is_not (f r.owner) out)))))
      where
        apart_bools : true ≡ false → ⊥
        apart_bools h = absurd cc
    by false e =
        inl (ap (of_owner owner) (at_where (λ r. f r.owner) records)
        ∙ none_both (λ r. name_eq r.owner owner) (λ r. f r.owner) records (λ r goes. differs false e r (λ it. absurd (apart_bools (sym goes ∙ it)))))
      where
        apart_bools : true ≡ false → ⊥
        apart_bools h = absurd cc

empty_parts : (a b : List Record) → a ++ b ≡ [] → (a ≡ []) × (b ≡ [])
empty_parts [] b e = (refl, e)
empty_parts (x ∷ a) b e = absurd cc

-- an owner of which nothing was taken
pub put_none : (owner : Labels) (taken : List Taken) (left : List Record) → of_owner owner (records_of taken) ≡ [] → of_owner owner (put_back taken left) ≡ of_owner owner left
put_none owner [] left e = refl
put_none owner (t ∷ more) left e = by (name_eq t.item.owner owner) refl e (put_none owner more (drop t.gap left))
  where
    by : (b : Bool) → name_eq t.item.owner owner ≡ b → cond b (t.item ∷ of_owner owner (records_of more)) (of_owner owner (records_of more)) ≡ []
        → (of_owner owner (records_of more) ≡ [] → of_owner owner (put_back more (drop t.gap left)) ≡ of_owner owner (drop t.gap left)) → of_owner owner (put_back (t ∷ more) left) ≡ of_owner owner left
    by true is h later = absurd cc
    by false is h later =
        filter-append (λ r. name_eq r.owner owner) (take t.gap left) (t.item ∷ put_back more (drop t.gap left))
        ∙ ap (λ b. of_owner owner (take t.gap left) ++ cond b (t.item ∷ of_owner owner (put_back more (drop t.gap left))) (of_owner owner (put_back more (drop t.gap left)))) is
        ∙ ap (λ (x : List Record). of_owner owner (take t.gap left) ++ x) (later h)
        ∙ sym (filter-append (λ r. name_eq r.owner owner) (take t.gap left) (drop t.gap left))
        ∙ ap (of_owner owner) (take-append-drop t.gap left)

-- an owner of which nothing stayed
pub put_all : (owner : Labels) (taken : List Taken) (left : List Record) → of_owner owner left ≡ [] → of_owner owner (put_back taken left) ≡ of_owner owner (records_of taken)
put_all owner [] left e = e
put_all owner (t ∷ more) left e =
    let parts = empty_parts (of_owner owner (take t.gap left)) (of_owner owner (drop t.gap left))
    (sym (filter-append (λ r. name_eq r.owner owner) (take t.gap left) (drop t.gap left)) ∙ ap (of_owner owner) (take-append-drop t.gap left) ∙ e) in
    filter-append (λ r. name_eq r.owner owner) (take t.gap left) (t.item ∷ put_back more (drop t.gap left))
    ∙ ap (λ (x : List Record). x ++ of_owner owner (t.item ∷ put_back more (drop t.gap left))) parts.0
    ∙ ap (λ (x : List Record). cond (name_eq t.item.owner owner) (t.item ∷ x) x) (put_all owner more (drop t.gap left) parts.1)

-- ---- steps of the passes

-- the first that is left, and the next front
pub step_front : {X : Type 0} (xs : List X) (i : ℕ) (x : X) (rest : List X) → drop i xs ≡ x ∷ rest → (take (i + 1) xs ≡ take i xs ++ x ∷ []) × (drop (i + 1) xs ≡ rest)
step_front xs i x rest e =
    let within : i < length xs = omega (arith, length-drop i xs, ap length e) in
    let next : x ∷ rest ≡ get_or xs i x ∷ drop (i + 1) xs = sym e ∙ drop_more xs i x within in
    let same : rest ≡ drop (i + 1) xs = ap (λ l. drop 1 l) next in
    let first : x ≡ get_or xs i x = ap (λ l. get_or l 0 x) next in
    (take_more xs i x within ∙ ap (λ y. take i xs ++ y ∷ []) (sym first), sym same)

pub put_step : (before : List Record) (t : Taken) (more : List Taken) (from : List Record) → ((before ++ take t.gap from) ++ t.item ∷ []) ++ put_back more (drop t.gap from) ≡ before ++ put_back (t ∷ more) from
put_step before t more from =
    append_assoc (before ++ take t.gap from) (t.item ∷ []) (put_back more (drop t.gap from)) ∙ append_assoc before (take t.gap from) (t.item ∷ put_back more (drop t.gap from))

-- no more are taken than there are gaps
pub length_at : (gaps : List ℕ) (records : List Record) → length (at_gaps gaps records) ≤ length gaps
length_at [] records = omega arith
length_at (gap ∷ more) records = by (drop gap records) (length_at more (drop 1 (drop gap records)))
  where
    by : (rest : List Record) → length (at_gaps more (drop 1 (drop gap records))) ≤ length more → length (first_at gap rest ++ at_gaps more (drop 1 (drop gap records))) ≤ suc (length more)
    by [] h = omega (arith, h)
    by (r ∷ rest) h = omega (arith, h)

-- one record more
pub none_push : (owner : Labels) (records : List Record) (r : Record) → of_owner owner (records ++ r ∷ []) ≡ [] → (of_owner owner records ≡ []) × (name_eq r.owner owner ≡ false)
none_push owner [] r e = (refl, by (name_eq r.owner owner) e)
  where
    by : (b : Bool) → cond b (r ∷ []) [] ≡ [] → b ≡ false
    by true h = absurd cc
    by false h = refl
none_push owner (u ∷ records) r e = by (name_eq u.owner owner) e (none_push owner records r)
  where
    by : (b : Bool) → cond b (u ∷ of_owner owner (records ++ r ∷ [])) (of_owner owner (records ++ r ∷ [])) ≡ []
        → (of_owner owner (records ++ r ∷ []) ≡ [] → (of_owner owner records ≡ []) × (name_eq r.owner owner ≡ false))
        → (cond b (u ∷ of_owner owner records) (of_owner owner records) ≡ []) × (name_eq r.owner owner ≡ false)
    by true h later = absurd cc
    by false h later = later h

pub owner_push : (owner : Labels) (taken : List Taken) (t : Taken) → of_owner owner (records_of (taken ++ t ∷ [])) ≡ [] → (of_owner owner (records_of taken) ≡ []) × (name_eq t.item.owner owner ≡ false)
owner_push owner [] t e = (refl, by (name_eq t.item.owner owner) e)
  where
    by : (b : Bool) → cond b (t.item ∷ []) [] ≡ [] → b ≡ false
    by true h = absurd cc
    by false h = refl
owner_push owner (u ∷ taken) t e = by (name_eq u.item.owner owner) e (owner_push owner taken t)
  where
    by : (b : Bool) → cond b (u.item ∷ of_owner owner (records_of (taken ++ t ∷ []))) (of_owner owner (records_of (taken ++ t ∷ []))) ≡ []
        → (of_owner owner (records_of (taken ++ t ∷ [])) ≡ [] → (of_owner owner (records_of taken) ≡ []) × (name_eq t.item.owner owner ≡ false))
        → (cond b (u.item ∷ of_owner owner (records_of taken)) (of_owner owner (records_of taken)) ≡ []) × (name_eq t.item.owner owner ≡ false)
    by true h later = absurd cc
    by false h later = later h

-- ---- the other side

-- after what was taken out is put back
pub goes_in : (removed : List Taken) (old new : List Record) (gaps : List ℕ) → FitBetween removed old → AreApart removed old → new ≡ put_back removed old → gaps ≡ gaps_of removed
    → (AreWithin gaps new × AreApart (at_gaps gaps new) (rest_of gaps new)) × (rest_of gaps new ≡ old)
goes_in removed old new gaps fit apart is at =
    let taken : at_gaps gaps new ≡ removed = (λ i. at_gaps (at i) (is i)) ∙ at_back removed old fit in
    let left : rest_of gaps new ≡ old = (λ i. rest_of (at i) (is i)) ∙ rest_back removed old fit in
    let within : AreWithin gaps new = subst (λ (g : List ℕ). AreWithin g new) (sym at) (subst (λ (x : List Record). AreWithin (gaps_of removed) x) (sym is) (within_back removed old fit)) in
    let parted : AreApart (at_gaps gaps new) (rest_of gaps new) = subst (λ (t : List Taken). AreApart t (rest_of gaps new)) (sym taken) (subst (λ (x : List Record). AreApart removed x) (sym left) apart) in
    ((within, parted), left)

-- after the records at the gaps are taken out
pub goes_out : (gaps : List ℕ) (old new : List Record) (removed : List Taken) → AreWithin gaps old → AreApart (at_gaps gaps old) (rest_of gaps old) → new ≡ rest_of gaps old → removed ≡ at_gaps gaps old
    → (FitBetween removed new × AreApart removed new) × (put_back removed new ≡ old)
goes_out gaps old new removed within apart is at =
    let fit : FitBetween removed new = subst (λ (t : List Taken). FitBetween t new) (sym at) (subst (λ (x : List Record). FitBetween (at_gaps gaps old) x) (sym is) (fit_at gaps old within)) in
    let parted : AreApart removed new = subst (λ (t : List Taken). AreApart t new) (sym at) (subst (λ (x : List Record). AreApart (at_gaps gaps old) x) (sym is) apart) in
    ((fit, parted), (λ i. put_back (at i) (is i)) ∙ back_at gaps old within)

-- the gaps of a test of owners
pub within_of : (f : Labels → Bool) (old : List Record) (gaps : List ℕ) → gaps ≡ gaps_where (λ r. f r.owner) 0 old → AreWithin gaps old
within_of f old gaps e = subst (λ (g : List ℕ). AreWithin g old) (sym e) (within_where (λ r. f r.owner) old)

pub apart_of : (f : Labels → Bool) (old : List Record) (gaps : List ℕ) → gaps ≡ gaps_where (λ r. f r.owner) 0 old → AreApart (at_gaps gaps old) (rest_of gaps old)
apart_of f old gaps e = subst (λ (g : List ℕ). AreApart (at_gaps g old) (rest_of g old)) (sym e) (apart_where f old)

pub rest_of_test : (f : Labels → Bool) (old : List Record) (gaps : List ℕ) → gaps ≡ gaps_where (λ r. f r.owner) 0 old → rest_of gaps old ≡ filter (λ r. not (f r.owner)) old
rest_of_test f old gaps e = ap (λ (g : List ℕ). rest_of g old) e ∙ rest_where (λ r. f r.owner) old

-- where no record passes the test, there is no gap
pub no_gaps : (p : Record → Bool) (gap : ℕ) (records : List Record) → list_any p records ≡ false → gaps_where p gap records ≡ []
no_gaps p gap [] none = refl
no_gaps p gap (r ∷ records) none = by (p r) none (λ n. no_gaps p n records)
  where
    by : (b : Bool) → (b || list_any p records) ≡ false → ((n : ℕ) → list_any p records ≡ false → gaps_where p n records ≡ []) → cond b (gap ∷ gaps_where p 0 records) (gaps_where p (gap + 1) records) ≡ []
    by true none more = absurd (false≢true (sym none))
    by false none more = more (gap + 1) none
