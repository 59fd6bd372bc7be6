-- How many records lie strictly below a name, and how many of them lie in zones strictly below it.
use Rattle.std.specs.Prelude.{◌≡◌, ◌+◌, ◌-◌, ◌<◌, ◌≤◌, ℕ, Bool, false, ◌&&◌, not, List, length, take, nat_eq, nat_le, Option, None, Some, unwrap_or, if◌then◌else◌}
use Rattle.std.specs.List.{filter}
use Rattle.std.specs.Cmp.Lexicographic.{pointwise}
use Rattle.dns_name.specs.Labels.{Labels, octets_of, parent_of}
use Rattle.dns_name.specs.Order.{name_eq}
use Rattle.dns_name.specs.Below.{is_at_or_below}
use Rattle.dns_text.specs.declared.record.Record.{Record}
use Rattle.local_zone.specs.declared.zone.Zone.{Zone}
use Rattle.local_zone.specs.Closest.{closest}
use Rattle.local_zone.specs.Index.{under}

-- whether a name lies strictly below another
abbrev pub is_below : Labels → Labels → Bool
is_below name other = is_at_or_below name other && not (name_eq name other)

-- whether a name lies strictly below another, which has so many octets at least
abbrev pub is_below_from : ℕ → Labels → Labels → Bool
is_below_from least name other = is_below name other && nat_le least (length (octets_of other))

-- The second name is the one above the first, and these are its octets.
abbrev pub IsAbove : Labels → Labels → List ℕ → Type 0
IsAbove name above octets = (parent_of name ≡ Some above) × (octets ≡ octets_of above)

-- The same, and it has so many octets at least.
abbrev pub IsAboveFrom : ℕ → Labels → Labels → List ℕ → Type 0
IsAboveFrom least name above octets = (parent_of name ≡ Some above) × (octets ≡ octets_of above) × (least ≤ length octets)

-- No name above this one has so many octets.
abbrev pub HasNoneAbove : ℕ → Labels → Type 0
HasNoneAbove least labels = (name : Labels) → is_below_from least labels name ≡ false

-- whether the zone that was found, if one was, lies strictly below a name
abbrev pub is_zone_below : Labels → Option Zone → Bool
is_zone_below name None = false
is_zone_below name (Some zone) = is_below zone.name name

-- how many octets the name of the zone has that was found, or 0 if none was
abbrev pub octets_over : Option Zone → ℕ
octets_over None = 0
octets_over (Some zone) = length (octets_of zone.name)

-- whether an owner counts for a name above it
abbrev pub lies_below : Labels → Labels → Bool
lies_below name owner = is_below owner name

-- whether an owner counts for a name above the zone in which it lies
abbrev pub is_zoned : List Zone → Labels → Labels → Bool
is_zoned zones name owner = is_zone_below name (closest zones owner)

-- how many records have an owner that passes
abbrev pub count_where : (Labels → Bool) → List Record → ℕ
count_where test records = length (filter (λ r. test r.owner) records)

-- how many records lie strictly below a name
abbrev pub count_below : Labels → List Record → ℕ
count_below name records = count_where (lies_below name) records

-- how many records lie in zones strictly below a name
abbrev pub count_zoned : List Zone → Labels → List Record → ℕ
count_zoned zones name records = count_where (is_zoned zones name) records

-- the count under a run of octets, or 0 if there is none
abbrev pub count_under : {K : Type 0} → (K → List ℕ) → List ℕ → List (K × ℕ) → ℕ
count_under octets spelled counts = unwrap_or (under octets spelled counts) 0

-- the count of a name
abbrev pub counted : Labels → List (List ℕ × ℕ) → ℕ
counted name counts = count_under (λ octets. octets) (octets_of name) counts

-- The count of each name is so much more than it was.
abbrev pub CountMoreBy : (Labels → ℕ) → List (List ℕ × ℕ) → List (List ℕ × ℕ) → Type 0
CountMoreBy more old new = (name : Labels) → counted name new ≡ counted name old + more name

-- The count of each name is so much less than it was.
abbrev pub CountLessBy : (Labels → ℕ) → List (List ℕ × ℕ) → List (List ℕ × ℕ) → Type 0
CountLessBy less old new = (name : Labels) → counted name new ≡ counted name old - less name

-- The count of each name is what it was.
abbrev pub CountTheSame : List (List ℕ × ℕ) → List (List ℕ × ℕ) → Type 0
CountTheSame old new = (name : Labels) → counted name new ≡ counted name old

-- The count of each name is the number of records whose owner counts for it.
abbrev pub AreCountedBy : (Labels → Labels → Bool) → List Record → List (List ℕ × ℕ) → Type 0
AreCountedBy counts_for records counts = (name : Labels) → counted name counts ≡ count_where (counts_for name) records

-- The count of each name is the number of records that lie strictly below it.
abbrev pub AreCounted : List Record → List (List ℕ × ℕ) → Type 0
AreCounted records counts = AreCountedBy lies_below records counts

-- The count of each name is the number of records that lie in zones strictly below it.
abbrev pub AreZoned : List Zone → List Record → List (List ℕ × ℕ) → Type 0
AreZoned zones records counts = AreCountedBy (is_zoned zones) records counts

-- If the counts before were those of the zones, so are the counts after.
abbrev pub StayZoned : List Zone → List Record → List (List ℕ × ℕ) → List Record → List (List ℕ × ℕ) → Type 0
StayZoned zones before old after new = AreZoned zones before old → AreZoned zones after new

-- There is no count of 0.
abbrev pub AreAboveZero : {K : Type 0} → (K → List ℕ) → List (K × ℕ) → Type 0
AreAboveZero octets counts = (spelled : List ℕ) (count : ℕ) → under octets spelled counts ≡ Some count → 0 < count

-- ---- one count, under some octets

-- The count under these octets is so much more than it was, and each other count is what it was.
abbrev pub RaisesCount : {K : Type 0} → (K → List ℕ) → List ℕ → ℕ → List (K × ℕ) → List (K × ℕ) → Type 0
RaisesCount spelled octets more old new =
    (other : List ℕ) → count_under spelled other new ≡ count_under spelled other old + (if pointwise nat_eq octets other then more else 0)

-- The count under these octets is so much less than it was, and each other count is what it was.
abbrev pub LowersCount : {K : Type 0} → (K → List ℕ) → List ℕ → ℕ → List (K × ℕ) → List (K × ℕ) → Type 0
LowersCount spelled octets less old new =
    (other : List ℕ) → count_under spelled other new ≡ count_under spelled other old - (if pointwise nat_eq octets other then less else 0)

-- Each count is what it was.
abbrev pub KeepsCounts : {K : Type 0} → (K → List ℕ) → List (K × ℕ) → List (K × ℕ) → Type 0
KeepsCounts spelled old new = (other : List ℕ) → count_under spelled other new ≡ count_under spelled other old

-- Under these octets there is this count now, and under all others what there was.
abbrev pub PutsCount : {K : Type 0} → (K → List ℕ) → List ℕ → ℕ → List (K × ℕ) → List (K × ℕ) → Type 0
PutsCount spelled octets count old new =
    (other : List ℕ) → under spelled other new ≡ (if pointwise nat_eq octets other then Some count else under spelled other old)

-- The count under these octets is so much less than it was.
abbrev pub HasLessUnder : {K : Type 0} → (K → List ℕ) → List ℕ → ℕ → List (K × ℕ) → List (K × ℕ) → Type 0
HasLessUnder spelled octets less old new = count_under spelled octets new ≡ count_under spelled octets old - less

-- Under all other octets there is what there was.
abbrev pub KeepsOtherCounts : {K : Type 0} → (K → List ℕ) → List ℕ → List (K × ℕ) → List (K × ℕ) → Type 0
KeepsOtherCounts spelled octets old new = (other : List ℕ) → pointwise nat_eq octets other ≡ false → under spelled other new ≡ under spelled other old

-- ---- counts, by what other counts say

-- Each count is more than it was, by what the other counts say.
abbrev pub RaisesCounts : {K : Type 0} → (K → List ℕ) → List (K × ℕ) → List (K × ℕ) → List (K × ℕ) → Type 0
RaisesCounts spelled more old new = (other : List ℕ) → count_under spelled other new ≡ count_under spelled other old + count_under spelled other more

-- Each count is less than it was, by what the other counts say.
abbrev pub LowersCounts : {K : Type 0} → (K → List ℕ) → List (K × ℕ) → List (K × ℕ) → List (K × ℕ) → Type 0
LowersCounts spelled less old new = (other : List ℕ) → count_under spelled other new ≡ count_under spelled other old - count_under spelled other less

-- If the other counts before this place were added, the one at this place is now added too.
abbrev pub RaisesNext : {K : Type 0} → (K → List ℕ) → ℕ → List (K × ℕ) → List (K × ℕ) → List (K × ℕ) → Type 0
RaisesNext spelled place more old new =
    (other : List ℕ) (all : ℕ) → count_under spelled other old ≡ all + count_under spelled other (take place more) →
    count_under spelled other new ≡ all + count_under spelled other (take (place + 1) more)

-- If the other counts before this place were taken off, the one at this place is now taken off too.
abbrev pub LowersNext : {K : Type 0} → (K → List ℕ) → ℕ → List (K × ℕ) → List (K × ℕ) → List (K × ℕ) → Type 0
LowersNext spelled place less old new =
    (other : List ℕ) (all : ℕ) → count_under spelled other old ≡ all - count_under spelled other (take place less) →
    count_under spelled other new ≡ all - count_under spelled other (take (place + 1) less)
