-- Records that are taken out, or put back, in place.
use Rattle.std.proofs.Common.{◌≡◌, ℕ, suc, ◌+◌, ◌-◌, ◌<◌, ◌≤◌, List, [], ◌∷◌, ◌++◌, length, get_or, take, drop, reverse, min, refl, ap, sym, subst, ◌∙◌, append_assoc, arith, length-append, length-drop}
use Rattle.std.proofs.lemmas.List.{append-nil, take_at, drop_at, take-append-drop, length-take-le, drop_more, drop_all, take_all, take_min, drop_min, reverse-append, same_from_push}
use Rattle.dns_text.specs.declared.record.Record.{Record}
use Rattle.local_zone.specs.declared.taken.Taken.{Taken}
use Rattle.local_zone.specs.Gaps.{records_of, gaps_of, put_back, first_at, at_gaps, rest_of, AreWithin}
use Rattle.local_zone.specs.InPlace.{paired}
use Rattle.local_zone.proofs.GapLaws.{cut_at, put_step}

-- what `shift` does to a list
abbrev pub Shifts : List Record → List Record → ℕ → ℕ → ℕ → Type 0
Shifts old new front count gap =
    (before moved passed behind : List Record) → old ≡ before ++ (moved ++ (passed ++ behind)) → length before ≡ front → length moved ≡ count → length passed ≡ gap → new ≡ before ++ (passed ++ (moved ++ behind))

-- a write of a part of the list, which was turned so
pub shifted : (xs ys : List Record) (front count gap long : ℕ) → long ≡ count + gap → ys ≡ drop count (take long (drop front xs)) ++ take count (take long (drop front xs))
    → Shifts xs (take front xs ++ (ys ++ drop long (drop front xs))) front count gap
shifted xs ys front count gap long k turned before moved passed behind e f m p =
    let rest : drop front xs ≡ (moved ++ passed) ++ behind = ap (λ (x : List Record). drop front x) e ∙ drop_at before (moved ++ (passed ++ behind)) front f ∙ sym (append_assoc moved passed behind) in
    let first : take front xs ≡ before = ap (λ (x : List Record). take front x) e ∙ take_at before (moved ++ (passed ++ behind)) front f in
    let whole : length (moved ++ passed) ≡ long = omega (arith, length-append moved passed) in
    let mid : take long (drop front xs) ≡ moved ++ passed = ap (λ (x : List Record). take long x) rest ∙ take_at (moved ++ passed) behind long whole in
    let post : drop long (drop front xs) ≡ behind = ap (λ (x : List Record). drop long x) rest ∙ drop_at (moved ++ passed) behind long whole in
    let both : ys ≡ passed ++ moved = turned ∙ (λ i. drop count (mid i) ++ take count (mid i)) ∙ (λ i. drop_at moved passed count m i ++ take_at moved passed count m i) in
    (λ i. first i ++ (both i ++ post i)) ∙ ap (λ (x : List Record). before ++ x) (append_assoc passed moved behind)

-- ---- taking out

-- After so many gaps, the records before them that stay lie in front, then those that were taken, then all that are ahead.
pub record Gathered (gaps : List ℕ) (old now : List Record) (front done : ℕ) : Type 0 where
  pub stay : List Record
  pub taken : List Record
  pub ahead : List Record
  pub is : now ≡ stay ++ (taken ++ ahead)
  pub low : length stay ≡ front
  pub many : length taken ≡ done
  pub rest : stay ++ rest_of (drop done gaps) ahead ≡ rest_of gaps old
  pub out : taken ++ records_of (at_gaps (drop done gaps) ahead) ≡ records_of (at_gaps gaps old)
  pub within : AreWithin (drop done gaps) ahead

pub gathered_none : (gaps : List ℕ) (old : List Record) → AreWithin gaps old → Gathered gaps old old 0 0
gathered_none gaps old h = record { stay = []; taken = []; ahead = old; is = refl; low = refl; many = refl; rest = refl; out = refl; within = h }

pub gathered_more : (gaps : List ℕ) (old now new : List Record) (front done gap : ℕ) → Gathered gaps old now front done → drop done gaps ≡ gap ∷ drop (done + 1) gaps → Shifts now new front done gap
    → Gathered gaps old new (front + gap) (done + 1)
gathered_more gaps old now new front done gap g next shifts =
    let more = drop (done + 1) gaps in
    let w : AreWithin (gap ∷ more) g.ahead = subst (λ (x : List ℕ). AreWithin x g.ahead) next g.within in
    let it = cut_at gap g.ahead w.0 in
    let passed = take gap g.ahead in
    let later = drop 1 (drop gap g.ahead) in
    let low = g.low in
    let many = g.many in
    let long : length passed ≡ gap = length-take-le gap g.ahead (omega (arith, w.0)) in
    let out : records_of (at_gaps (gap ∷ more) g.ahead) ≡ it.item ∷ records_of (at_gaps more later) = ap (λ (x : List Record). records_of (first_at gap x ++ at_gaps more later)) it.is in
    record {
      stay = g.stay ++ passed;
      taken = g.taken ++ it.item ∷ [];
      ahead = later;
      is =
          shifts g.stay g.taken passed (drop gap g.ahead) (g.is ∙ ap (λ (x : List Record). g.stay ++ (g.taken ++ x)) (sym (take-append-drop gap g.ahead))) low many long
          ∙ ap (λ (x : List Record). g.stay ++ (passed ++ (g.taken ++ x))) it.is
          ∙ sym (append_assoc g.stay passed (g.taken ++ it.item ∷ later))
          ∙ ap (λ (x : List Record). (g.stay ++ passed) ++ x) (sym (append_assoc g.taken (it.item ∷ []) later));
      low = omega (arith, length-append g.stay passed);
      many = omega (arith, length-append g.taken (it.item ∷ []));
      rest = append_assoc g.stay passed (rest_of more later) ∙ ap (λ (x : List ℕ). g.stay ++ rest_of x g.ahead) (sym next) ∙ g.rest;
      out =
          append_assoc g.taken (it.item ∷ []) (records_of (at_gaps more later)) ∙ ap (λ (x : List Record). g.taken ++ x) (sym out)
          ∙ ap (λ (x : List ℕ). g.taken ++ records_of (at_gaps x g.ahead)) (sym next) ∙ g.out;
      within = w.1;
    }

-- There is a record at each gap.
pub length_out : (gaps : List ℕ) (records : List Record) → AreWithin gaps records → length (records_of (at_gaps gaps records)) ≡ length gaps
length_out [] records h = refl
length_out (gap ∷ more) records h =
    let it = cut_at gap records h.0 in
    let later = drop 1 (drop gap records) in
    ap (λ (x : List Record). length (records_of (first_at gap x ++ at_gaps more later))) it.is ∙ ap suc (length_out more later h.1)

-- None is lost.
pub length_rest : (gaps : List ℕ) (records : List Record) → AreWithin gaps records → length (rest_of gaps records) + length gaps ≡ length records
length_rest [] records h = omega arith
length_rest (gap ∷ more) records h =
    let it = cut_at gap records h.0 in
    let later = drop 1 (drop gap records) in
    let long : length (take gap records) ≡ gap = length-take-le gap records (omega (arith, h.0)) in
    omega (arith, h.0, ap length it.is, length-drop gap records, length-append (take gap records) (rest_of more later), length_rest more later h.1)

pub paired_at : (gaps : List ℕ) (records : List Record) → AreWithin gaps records → paired gaps (records_of (at_gaps gaps records)) ≡ at_gaps gaps records
paired_at [] records h = refl
paired_at (gap ∷ more) records h =
    let it = cut_at gap records h.0 in
    let later = drop 1 (drop gap records) in
    let first : at_gaps (gap ∷ more) records ≡ (record { gap = gap; item = it.item }) ∷ at_gaps more later = ap (λ (x : List Record). first_at gap x ++ at_gaps more later) it.is in
    ap (λ (x : List Taken). paired (gap ∷ more) (records_of x)) first ∙ ap (λ (x : List Taken). (record { gap = gap; item = it.item }) ∷ x) (paired_at more later h.1) ∙ sym first

-- a list of such a length, whose front a slice wrote
pub written : (now was : List Record) (long : ℕ) → length now ≡ long → take long (now ++ drop (length now) was) ≡ now
written now was long h = take_at now (drop (length now) was) long h

-- the two parts of what `gather` makes
pub gathered_parts : (gaps : List ℕ) (old lent now : List Record) (long : ℕ) → AreWithin gaps old → long ≡ length old → lent ≡ old → now ≡ rest_of gaps lent ++ records_of (at_gaps gaps lent)
    → (length gaps ≤ long) × (take (long - length gaps) now ≡ rest_of gaps old) × (drop (long - length gaps) now ≡ records_of (at_gaps gaps old)) × (length now ≡ long)
gathered_parts gaps old lent now long within e same made =
    let rest = rest_of gaps old in
    let out = records_of (at_gaps gaps old) in
    let is : now ≡ rest ++ out = made ∙ ap (λ (x : List Record). rest_of gaps x ++ records_of (at_gaps gaps x)) same in
    let whole = length_rest gaps old within in
    let some = length_out gaps old within in
    let low : length rest ≡ long - length gaps = omega arith in (
      omega arith,
      ap (λ (x : List Record). take (long - length gaps) x) is ∙ take_at rest out (long - length gaps) low,
      ap (λ (x : List Record). drop (long - length gaps) x) is ∙ drop_at rest out (long - length gaps) low,
      omega (arith, ap length is, length-append rest out),
    )

-- the last of a list whose end is reversed
pub last_turned : (left rest : List Record) (r : Record) (new : List Record) (x : Record) → left ++ reverse (r ∷ rest) ≡ new ++ x ∷ [] → (new ≡ left ++ reverse rest) × (x ≡ r)
last_turned left rest r new x e =
    let turned : left ++ reverse (r ∷ rest) ≡ (left ++ reverse rest) ++ r ∷ [] = ap (λ (y : List Record). left ++ y) (reverse-append (r ∷ []) rest) ∙ sym (append_assoc left (reverse rest) (r ∷ [])) in
    let both = same_from_push new (left ++ reverse rest) x r (sym e ∙ turned) in
    (both.0, both.1)

pub popped : (left out : List Record) (i : ℕ) (now new : List Record) (x : Record) → i < length out → now ≡ left ++ reverse (drop i out) → now ≡ new ++ x ∷ []
    → (new ≡ left ++ reverse (drop (i + 1) out)) × (drop i out ≡ x ∷ drop (i + 1) out)
popped left out i now new x h e p =
    let more = drop_more out i x h in
    let both = last_turned left (drop (i + 1) out) (get_or out i x) new x (ap (λ (y : List Record). left ++ reverse y) (sym more) ∙ sym e ∙ p) in
    (both.0, more ∙ ap (λ (y : Record). y ∷ drop (i + 1) out) (sym both.1))

-- ---- putting back

-- After so many gaps, their records lie in their places, then those that are ahead, then all others that are left.
pub record Spread (gaps : List ℕ) (old now : List Record) (front done : ℕ) : Type 0 where
  pub stay : List Record
  pub ahead : List Record
  pub left : List Record
  pub is : now ≡ stay ++ (ahead ++ left)
  pub low : length stay ≡ front
  pub many : length ahead + done ≡ length gaps
  pub put : stay ++ put_back (paired (drop done gaps) ahead) left ≡ put_back (paired gaps (take (length gaps) old)) (drop (length gaps) old)

pub spread_none : (gaps : List ℕ) (old : List Record) → length gaps ≤ length old → Spread gaps old old 0 0
spread_none gaps old h =
    let long = length-take-le (length gaps) old h in
    record { stay = []; ahead = take (length gaps) old; left = drop (length gaps) old; is = sym (take-append-drop (length gaps) old); low = refl; many = omega (arith, long); put = refl }

pub spread_long : (gaps : List ℕ) (old now : List Record) (front done : ℕ) → (s : Spread gaps old now front done) → length now + done ≡ front + length gaps + length s.left
spread_long gaps old now front done s =
    let low = s.low in let many = s.many in
    omega (arith, ap length s.is, length-append s.stay (s.ahead ++ s.left), length-append s.ahead s.left)

pub record Ahead (records : List Record) : Type 0 where
  pub item : Record
  pub later : List Record
  pub is : records ≡ item ∷ later

some_ahead : (records : List Record) → 0 < length records → Ahead records
some_ahead [] h = absurd (omega (arith, h))
some_ahead (r ∷ records) h = record { item = r; later = records; is = refl }

pub spread_more : (gaps : List ℕ) (old now new : List Record) (front done gap count passed : ℕ) → (s : Spread gaps old now front done) → drop done gaps ≡ gap ∷ drop (done + 1) gaps → done < length gaps
    → count ≡ length gaps - done → passed ≡ min gap (length s.left) → Shifts now new front count passed → Spread gaps old new (front + (passed + 1)) (done + 1)
spread_more gaps old now new front done gap count passed s next less counts passes shifts =
    let low = s.low in
    let many = s.many in
    let more = drop (done + 1) gaps in
    let it = some_ahead s.ahead (omega arith) in
    let over = take passed s.left in
    let behind = drop passed s.left in
    let long : length over ≡ passed = length-take-le passed s.left (omega arith) in
    let taken : take passed s.left ≡ take gap s.left = ap (λ n. take n s.left) passes ∙ take_min gap s.left in
    let dropped : drop passed s.left ≡ drop gap s.left = ap (λ n. drop n s.left) passes ∙ drop_min gap s.left in
    record {
      stay = (s.stay ++ over) ++ it.item ∷ [];
      ahead = it.later;
      left = behind;
      is =
          shifts s.stay s.ahead over behind (s.is ∙ ap (λ (x : List Record). s.stay ++ (s.ahead ++ x)) (sym (take-append-drop passed s.left))) low (omega arith) long
          ∙ ap (λ (x : List Record). s.stay ++ (over ++ (x ++ behind))) it.is
          ∙ sym (append_assoc s.stay over (it.item ∷ (it.later ++ behind)))
          ∙ sym (append_assoc (s.stay ++ over) (it.item ∷ []) (it.later ++ behind));
      low = omega (arith, length-append (s.stay ++ over) (it.item ∷ []), length-append s.stay over);
      many = omega (arith, ap length it.is);
      put =
          (λ i. ((s.stay ++ taken i) ++ it.item ∷ []) ++ put_back (paired more it.later) (dropped i))
          ∙ put_step s.stay (record { gap = gap; item = it.item }) (paired more it.later) s.left
          ∙ (λ i. s.stay ++ put_back (paired (sym next i) (sym it.is i)) s.left)
          ∙ s.put;
    }

pub paired_of : (taken : List Taken) → paired (gaps_of taken) (records_of taken) ≡ taken
paired_of [] = refl
paired_of (t ∷ more) = ap (λ (x : List Taken). t ∷ x) (paired_of more)

-- the first record in its place, and what `spread` made of the part behind it
behind_first : (pre post later : List Record) (item : Record) (moved part new : List Record) (more : List ℕ) (at long : ℕ) → moved ≡ (pre ++ item ∷ []) ++ (later ++ post) → length pre + 1 ≡ at → long ≡ length moved - at
    → length later ≡ length more → part ≡ take long (drop at moved) → new ≡ put_back (paired more (take (length more) part)) (drop (length more) part)
    → take at moved ++ (new ++ drop long (drop at moved)) ≡ pre ++ item ∷ put_back (paired more later) post
behind_first pre post later item moved part new more at long turned low high many part_is new_is =
    let head_long : length (pre ++ item ∷ []) ≡ at = omega (arith, length-append pre (item ∷ [])) in
    let head : take at moved ≡ pre ++ item ∷ [] = ap (λ (x : List Record). take at x) turned ∙ take_at (pre ++ item ∷ []) (later ++ post) at head_long in
    let tail : drop at moved ≡ later ++ post = ap (λ (x : List Record). drop at x) turned ∙ drop_at (pre ++ item ∷ []) (later ++ post) at head_long in
    let tail_long : length (drop at moved) ≡ long = omega (arith, length-drop at moved) in
    let none : drop long (drop at moved) ≡ [] = drop_all long (drop at moved) (omega arith) in
    let all : part ≡ later ++ post = part_is ∙ take_all long (drop at moved) (omega arith) ∙ tail in
    let put : List Record = put_back (paired more later) post in
    let made : new ≡ put =
    new_is ∙ (λ i. put_back (paired more (take (length more) (all i))) (drop (length more) (all i)))
    ∙ (λ i. put_back (paired more (take_at later post (length more) many i)) (drop_at later post (length more) many i)) in
    (λ i. head i ++ (made i ++ none i)) ∙ ap (λ (x : List Record). (pre ++ item ∷ []) ++ x) (append-nil put) ∙ append_assoc pre (item ∷ []) put

-- what `shift` makes of the list for `restore`
first_turned : (pre post items later : List Record) (item : Record) (old moved : List Record) (front count gap : ℕ) → Shifts old moved front count gap → old ≡ (pre ++ post) ++ items → length pre ≡ front → length post ≡ count
    → length items ≡ gap → items ≡ item ∷ later → moved ≡ (pre ++ item ∷ []) ++ (later ++ post)
first_turned pre post items later item old moved front count gap shifts is low mid high items_is =
    shifts pre post items [] (is ∙ append_assoc pre post items ∙ ap (λ (x : List Record). pre ++ (post ++ x)) (sym (append-nil items))) low mid high
    ∙ (λ i. pre ++ (items_is i ++ append-nil post i))
    ∙ sym (append_assoc pre (item ∷ []) (later ++ post))

restored_with : (gaps : List ℕ) (first : ℕ) (more : List ℕ) (old moved part new : List Record) (left front long : ℕ) → Ahead (drop left old) → gaps ≡ first ∷ more → left + length gaps ≡ length old → front ≡ min first left
    → Shifts old moved front (left - front) (length gaps) → long ≡ length moved - (front + 1) → part ≡ take long (drop (front + 1) moved)
    → new ≡ put_back (paired more (take (length more) part)) (drop (length more) part)
    → take (front + 1) moved ++ (new ++ drop long (drop (front + 1) moved)) ≡ put_back (paired gaps (drop left old)) (take left old)
restored_with gaps first more old moved part new left front long it gaps_is whole front_is shifts long_is part_is new_is =
    let some : length gaps ≡ length more + 1 = omega (arith, ap length gaps_is) in
    let many : length (drop left old) ≡ length gaps = omega (arith, length-drop left old) in
    let low : length (take left old) ≡ left = length-take-le left old (omega arith) in
    let pre_long : length (take front (take left old)) ≡ front = length-take-le front (take left old) (omega arith) in
    let post_long : length (drop front (take left old)) ≡ left - front = omega (arith, length-drop front (take left old)) in
    let parts : old ≡ (take front (take left old) ++ drop front (take left old)) ++ drop left old =
    sym (take-append-drop left old) ∙ ap (λ (x : List Record). x ++ drop left old) (sym (take-append-drop front (take left old))) in
    let turned = first_turned (take front (take left old)) (drop front (take left old)) (drop left old) it.later it.item old moved front (left - front) (length gaps) shifts parts pre_long post_long many it.is in
    let later_long : length it.later ≡ length more = omega (arith, ap length it.is) in
    let least : front ≡ min first (length (take left old)) = front_is ∙ ap (λ n. min first n) (sym low) in
    let taken : take front (take left old) ≡ take first (take left old) = ap (λ n. take n (take left old)) least ∙ take_min first (take left old) in
    let dropped : drop front (take left old) ≡ drop first (take left old) = ap (λ n. drop n (take left old)) least ∙ drop_min first (take left old) in
    behind_first (take front (take left old)) (drop front (take left old)) it.later it.item moved part new more (front + 1) long turned (omega arith) long_is later_long part_is new_is
    ∙ (λ i. taken i ++ it.item ∷ put_back (paired more it.later) (dropped i))
    ∙ (λ i. put_back (paired (sym gaps_is i) (sym it.is i)) (take left old))

-- what `restore` makes: of what `shift` made of the list, with what `spread` made of the part behind the first record
pub restored : (gaps : List ℕ) (first : ℕ) (more : List ℕ) (old moved part new : List Record) (left front long : ℕ) → gaps ≡ first ∷ more → left + length gaps ≡ length old → front ≡ min first left
    → Shifts old moved front (left - front) (length gaps) → long ≡ length moved - (front + 1) → part ≡ take long (drop (front + 1) moved)
    → new ≡ put_back (paired more (take (length more) part)) (drop (length more) part)
    → take (front + 1) moved ++ (new ++ drop long (drop (front + 1) moved)) ≡ put_back (paired gaps (drop left old)) (take left old)
restored gaps first more old moved part new left front long gaps_is whole front_is shifts long_is part_is new_is =
    let some : 0 < length (drop left old) = omega (arith, ap length gaps_is, length-drop left old) in
    restored_with gaps first more old moved part new left front long (some_ahead (drop left old) some) gaps_is whole front_is shifts long_is part_is new_is

-- what `put_few` makes: what `restore` made of the list with the records behind it
pub put_parts : (taken : List Taken) (gaps : List ℕ) (left all lent new was : List Record) (count long : ℕ) → gaps ≡ gaps_of taken → all ≡ left ++ records_of taken → count ≡ length left → long ≡ length all → lent ≡ all
    → new ≡ put_back (paired gaps (drop count lent)) (take count lent) → length new ≡ length lent → take long (new ++ drop (length new) was) ≡ put_back taken left
put_parts taken gaps left all lent new was count long gaps_is all_is count_is long_is lent_is new_is kept =
    let items = records_of taken in
    let is : lent ≡ left ++ items = lent_is ∙ all_is in
    let full : length new ≡ long = omega (arith, kept, ap length lent_is, long_is) in
    take_at new (drop (length new) was) long full ∙ new_is
    ∙ (λ i. put_back (paired gaps (drop count (is i))) (take count (is i)))
    ∙ (λ i. put_back (paired (gaps_is i) (drop_at left items count (sym count_is) i)) (take_at left items count (sym count_is) i))
    ∙ ap (λ (x : List Taken). put_back x left) (paired_of taken)
