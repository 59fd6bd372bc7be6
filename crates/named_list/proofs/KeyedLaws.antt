-- What a look-up by octets finds, and what an edit of the entries makes of the list.
use Rattle.std.proofs.Common.{◌≡◌, ℕ, zero, suc, ◌+◌, ◌-◌, ◌<◌, ◌≤◌, Bool, true, false, not, ◌||◌, cond, List, [], ◌∷◌, ◌++◌, length, map, take, drop, insert, remove, slice_get, slice_set, get_or, Option, Some, None, refl, ap, sym, subst, ◌∙◌, arith, length-append}
use Rattle.std.specs.Prelude.{is_some, nat_eq}
use Rattle.std.specs.List.{AllByRecursion, IsDistinct}
use Rattle.std.specs.Map.{keys_of, values_of, lookup}
use Rattle.std.specs.Cmp.Lexicographic.{pointwise}
use Rattle.std.specs.Option.{option_or}
use Rattle.std.proofs.lemmas.List.{length-map, take_at}
use Rattle.std.proofs.lemmas.Bool.{false≢true}
use Rattle.std.proofs.lemmas.Option.{slice_get_within}
use Rattle.std.specs.List.{position_or_len}
use Rattle.std.specs.Prelude.{Result, Ok, Err, OnOk, OnErr}
use Rattle.indexmap.specs.IndexMap.{IndexMap, get, set_value_at, insert_entry, insert_index, move_index}
use Rattle.indexmap.specs.Layout.{length-set_value_at}
use Rattle.indexmap.proofs.CallerLemmas.{insert_entry-new}
use Rattle.indexmap.proofs.MoveLemmas.{push_moved}
use Rattle.dns_name.specs.Labels.{Labels, octets_of, with_length}
use Rattle.dns_name.specs.Octets.{octets_of-child}
use Rattle.dns_name.specs.Order.{name_eq, name_eq_exact, name_eq_itself}
use Rattle.dns_name.specs.Closest.{closest_with}
use Rattle.named_list.specs.Named.{AreNamed, names_of, has_named, put_over, list_with, list_without}
use Rattle.named_list.specs.Closest.{find_named, found_over, closest_of}
use Rattle.named_list.specs.Keyed.{AreKeyed}
use Rattle.named_list.specs.Turn.{other_of, HasPlace}
use Rattle.named_list.specs.declared.turn.Turn.{Turn}
use Rattle.named_list.specs.declared.turn.Turn.TheVariants.{Other, Without, With}
use Rattle.named_list.specs.ClosestLaws.{name_eq-swap, name_of_find, has_named-found}

-- ---- look-ups

module _ {K : Type 0} (octets : K → List ℕ) where
  -- what is under a name's octets is the thing of this name
  pub lookup-named : {T : Type 0} (name_of : T → Labels) → (es : List (K × T)) (name : Labels) → AreKeyed name_of octets es → lookup (λ k. pointwise nat_eq (octets_of name) (octets k)) es ≡ find_named name_of (values_of es) name
  lookup-named {T} name_of [] name h = refl
  lookup-named {T} name_of (e ∷ es) name h =
      let key : pointwise nat_eq (octets_of name) (octets e.0) ≡ name_eq (name_of e.1) name = ap (pointwise nat_eq (octets_of name)) h.0 ∙ name_eq-swap name (name_of e.1) in
      ap (λ b. cond b (Some e.1) (lookup (λ k. pointwise nat_eq (octets_of name) (octets k)) es)) key
      ∙ ap (λ (r : Option T). cond (name_eq (name_of e.1) name) (Some e.1) r) (lookup-named name_of es name h.1)

  pub lookup-of : {T : Type 0} (name_of : T → Labels) → (es : List (K × T)) (name : Labels) (spelled : List ℕ) → spelled ≡ octets_of name → AreKeyed name_of octets es → lookup (λ k. pointwise nat_eq spelled (octets k)) es ≡ find_named name_of (values_of es) name
  lookup-of {T} name_of es name spelled e h = ap (λ (x : List ℕ). lookup (λ k. pointwise nat_eq x (octets k)) es) e ∙ lookup-named name_of es name h

  -- ---- edits of the entries

  pub keyed-push : {T : Type 0} (name_of : T → Labels) → (es : List (K × T)) (k : K) (s : T) → AreKeyed name_of octets es → octets k ≡ octets_of (name_of s) → AreKeyed name_of octets (es ++ (k, s) ∷ [])
  keyed-push {T} name_of [] k s h e = (e, tt)
  keyed-push {T} name_of (x ∷ es) k s h e = (h.0, keyed-push name_of es k s h.1 e)

  pub keyed-set : {T : Type 0} (name_of : T → Labels) → (es : List (K × T)) (i : ℕ) (w old : T) → AreKeyed name_of octets es → slice_get (values_of es) i ≡ Some old → (name_of w) ≡ (name_of old) → AreKeyed name_of octets (set_value_at es i w)
  keyed-set {T} name_of [] i w old h at same = tt
  keyed-set {T} name_of (e ∷ es) zero w old h at same =
      let is : e.1 ≡ old = cc in
      (h.0 ∙ ap (λ (s : T). octets_of (name_of s)) is ∙ ap octets_of (sym same), h.1)
  keyed-set {T} name_of (e ∷ es) (suc i) w old h at same = (h.0, keyed-set name_of es i w old h.1 at same)

  pub keyed-remove : {T : Type 0} (name_of : T → Labels) → (es : List (K × T)) (i : ℕ) → AreKeyed name_of octets es → AreKeyed name_of octets (remove es i)
  keyed-remove {T} name_of [] zero h = tt
  keyed-remove {T} name_of [] (suc i) h = tt
  keyed-remove {T} name_of (e ∷ es) zero h = h.1
  keyed-remove {T} name_of (e ∷ es) (suc i) h = (h.0, keyed-remove name_of es i h.1)

  pub keyed-insert : {T : Type 0} (name_of : T → Labels) → (es : List (K × T)) (i : ℕ) (k : K) (s : T) → AreKeyed name_of octets es → octets k ≡ octets_of (name_of s) → AreKeyed name_of octets (insert es i (k, s))
  keyed-insert {T} name_of [] zero k s h e = (e, tt)
  keyed-insert {T} name_of [] (suc i) k s h e = (e, tt)
  keyed-insert {T} name_of (x ∷ es) zero k s h e = (e, h)
  keyed-insert {T} name_of (x ∷ es) (suc i) k s h e = (h.0, keyed-insert name_of es i k s h.1 e)

  pub keyed-at : {T : Type 0} (name_of : T → Labels) → (es : List (K × T)) (i : ℕ) (k : K) (s : T) → AreKeyed name_of octets es → slice_get es i ≡ Some (k, s) → octets k ≡ octets_of (name_of s)
  keyed-at {T} name_of [] i k s h at = absurd cc
  keyed-at {T} name_of (e ∷ es) zero k s h at =
      let is : e ≡ (k, s) = cc in
      subst (λ (p : K × T). octets p.0 ≡ octets_of (name_of p.1)) is h.0
  keyed-at {T} name_of (e ∷ es) (suc i) k s h at = keyed-at name_of es i k s h.1 at

module _ {K : Type 0} where
  pub values-push : {T : Type 0} (es : List (K × T)) (k : K) (s : T) → values_of (es ++ (k, s) ∷ []) ≡ values_of es ++ s ∷ []
  values-push {T} [] k s = refl
  values-push {T} (e ∷ es) k s = ap (λ (xs : List T). e.1 ∷ xs) (values-push es k s)

  pub values-set : {T : Type 0} (es : List (K × T)) (i : ℕ) (w : T) → values_of (set_value_at es i w) ≡ slice_set (values_of es) i w
  values-set {T} [] zero w = refl
  values-set {T} [] (suc i) w = refl
  values-set {T} (e ∷ es) zero w = refl
  values-set {T} (e ∷ es) (suc i) w = ap (λ (xs : List T). e.1 ∷ xs) (values-set es i w)

  pub values-remove : {T : Type 0} (es : List (K × T)) (i : ℕ) → values_of (remove es i) ≡ remove (values_of es) i
  values-remove {T} [] zero = refl
  values-remove {T} [] (suc i) = refl
  values-remove {T} (e ∷ es) zero = refl
  values-remove {T} (e ∷ es) (suc i) = ap (λ (xs : List T). e.1 ∷ xs) (values-remove es i)

  pub values-insert : {T : Type 0} (es : List (K × T)) (i : ℕ) (k : K) (s : T) → values_of (insert es i (k, s)) ≡ insert (values_of es) i s
  values-insert {T} [] zero k s = refl
  values-insert {T} [] (suc i) k s = refl
  values-insert {T} (e ∷ es) zero k s = refl
  values-insert {T} (e ∷ es) (suc i) k s = ap (λ (xs : List T). e.1 ∷ xs) (values-insert es i k s)

  pub value-at : {T : Type 0} (es : List (K × T)) (i : ℕ) (k : K) (s : T) → slice_get es i ≡ Some (k, s) → slice_get (values_of es) i ≡ Some s
  value-at {T} [] i k s at = absurd cc
  value-at {T} (e ∷ es) zero k s at = let is : e ≡ (k, s) = cc in ap (λ (p : K × T). Some p.1) is
  value-at {T} (e ∷ es) (suc i) k s at = value-at es i k s at

-- ---- the things after an edit

apart_at : {T : Type 0} (name_of : T → Labels) → (name : Labels) (things : List T) (i : ℕ) (old : T) → AllByRecursion (λ other. name_eq name other ≡ false) (names_of name_of things) → slice_get things i ≡ Some old → name_eq name (name_of old) ≡ false
apart_at {T} name_of name [] i old h at = absurd cc
apart_at {T} name_of name (s ∷ things) zero old h at = let is : s ≡ old = cc in subst (λ (x : T). name_eq name (name_of x) ≡ false) is h.0
apart_at {T} name_of name (s ∷ things) (suc i) old h at = apart_at name_of name things i old h.1 at

over_apart : {T : Type 0} (name_of : T → Labels) → (new : T) (things : List T) → AllByRecursion (λ other. name_eq (name_of new) other ≡ false) (names_of name_of things) → map (put_over name_of new) things ≡ things
over_apart {T} name_of new [] h = refl
over_apart {T} name_of new (s ∷ things) h =
    ap (λ b. cond b new s ∷ map (put_over name_of new) things) (name_eq-swap (name_of s) (name_of new) ∙ h.0) ∙ ap (λ (xs : List T). s ∷ xs) (over_apart name_of new things h.1)

-- a thing in the place of the one of its name
pub set-over : {T : Type 0} (name_of : T → Labels) → (things : List T) (i : ℕ) (old new : T) → slice_get things i ≡ Some old → (name_of old) ≡ (name_of new) → IsDistinct name_eq (names_of name_of things) → slice_set things i new ≡ map (put_over name_of new) things
unfolding IsDistinct
set-over {T} name_of [] i old new at same h = absurd cc
set-over {T} name_of (s ∷ things) zero old new at same h =
    let is : s ≡ old = cc in
    let name : (name_of s) ≡ (name_of new) = ap (λ (x : T). (name_of x)) is ∙ same in
    let here : name_eq (name_of s) (name_of new) ≡ true = ap (name_eq (name_of s)) (sym name) ∙ name_eq_itself (name_of s) in
    sym (ap (λ b. cond b new s ∷ map (put_over name_of new) things) here ∙ ap (λ (xs : List T). new ∷ xs) (over_apart name_of new things (subst (λ n. AllByRecursion (λ other. name_eq n other ≡ false) (names_of name_of things)) name h.0)))
set-over {T} name_of (s ∷ things) (suc i) old new at same h =
    let apart : name_eq (name_of s) (name_of new) ≡ false = ap (name_eq (name_of s)) (sym same) ∙ apart_at name_of (name_of s) things i old h.0 at in
    ap (λ (xs : List T). s ∷ xs) (set-over name_of things i old new at same h.1) ∙ sym (ap (λ b. cond b new s ∷ map (put_over name_of new) things) apart)

without_apart : {T : Type 0} (name_of : T → Labels) → (name : Labels) (things : List T) → AllByRecursion (λ other. name_eq name other ≡ false) (names_of name_of things) → list_without name_of name things ≡ things
without_apart {T} name_of name [] h = refl
without_apart {T} name_of name (s ∷ things) h =
    ap (λ b. cond (not b) (s ∷ list_without name_of name things) (list_without name_of name things)) (name_eq-swap (name_of s) name ∙ h.0) ∙ ap (λ (xs : List T). s ∷ xs) (without_apart name_of name things h.1)

-- the thing of a name out of its place
pub remove-without : {T : Type 0} (name_of : T → Labels) → (things : List T) (i : ℕ) (old : T) (name : Labels) → slice_get things i ≡ Some old → (name_of old) ≡ name → IsDistinct name_eq (names_of name_of things) → remove things i ≡ list_without name_of name things
unfolding IsDistinct
remove-without {T} name_of [] i old name at same h = absurd cc
remove-without {T} name_of (s ∷ things) zero old name at same h =
    let is : s ≡ old = cc in
    let named : (name_of s) ≡ name = ap (λ (x : T). (name_of x)) is ∙ same in
    let here : name_eq (name_of s) name ≡ true = ap (name_eq (name_of s)) (sym named) ∙ name_eq_itself (name_of s) in
    sym (ap (λ b. cond (not b) (s ∷ list_without name_of name things) (list_without name_of name things)) here ∙ without_apart name_of name things (subst (λ n. AllByRecursion (λ other. name_eq n other ≡ false) (names_of name_of things)) named h.0))
remove-without {T} name_of (s ∷ things) (suc i) old name at same h =
    let apart : name_eq (name_of s) name ≡ false = ap (name_eq (name_of s)) (sym same) ∙ apart_at name_of (name_of s) things i old h.0 at in
    ap (λ (xs : List T). s ∷ xs) (remove-without name_of things i old name at same h.1) ∙ sym (ap (λ b. cond (not b) (s ∷ list_without name_of name things) (list_without name_of name things)) apart)

pub without_none : {T : Type 0} (name_of : T → Labels) → (things : List T) (name : Labels) → has_named name_of things name ≡ false → list_without name_of name things ≡ things
without_none {T} name_of [] name h = refl
without_none {T} name_of (s ∷ things) name h = by (name_eq (name_of s) name) refl h (without_none name_of things name)
  where
    by : (b : Bool) → name_eq (name_of s) name ≡ b → (b || has_named name_of things name) ≡ false → (has_named name_of things name ≡ false → list_without name_of name things ≡ things) → cond (not b) (s ∷ list_without name_of name things) (list_without name_of name things) ≡ s ∷ things
    by true e none more = absurd (false≢true (sym none))
    by false e none more = ap (λ (xs : List T). s ∷ xs) (more none)

-- ---- there and back

pub set-back : {X : Type 0} (xs : List X) (i : ℕ) (old new : X) → slice_get xs i ≡ Some old → slice_set (slice_set xs i new) i old ≡ xs
set-back [] i old new at = absurd cc
set-back (x ∷ xs) zero old new at = let is : x ≡ old = cc in ap (λ y. y ∷ xs) (sym is)
set-back (x ∷ xs) (suc i) old new at = ap (λ ys. x ∷ ys) (set-back xs i old new at)

pub insert-back : {X : Type 0} (xs : List X) (i : ℕ) (old : X) → slice_get xs i ≡ Some old → insert (remove xs i) i old ≡ xs
insert-back [] i old at = absurd cc
insert-back (x ∷ xs) zero old at = let is : x ≡ old = cc in ap (λ y. y ∷ xs) (sym is)
insert-back (x ∷ xs) (suc i) old at = ap (λ ys. x ∷ ys) (insert-back xs i old at)

pub remove-back : {X : Type 0} (xs : List X) (i : ℕ) (x : X) → i ≤ length xs → remove (insert xs i x) i ≡ xs
remove-back [] zero x within = refl
remove-back [] (suc i) x within = absurd (omega arith)
remove-back (y ∷ xs) zero x within = refl
remove-back (y ∷ xs) (suc i) x within = ap (λ ys. y ∷ ys) (remove-back xs i x (omega arith))

pub remove-last : {X : Type 0} (xs : List X) (x : X) → remove (xs ++ x ∷ []) (length xs) ≡ xs
remove-last [] x = refl
remove-last (y ∷ xs) x = ap (λ ys. y ∷ ys) (remove-last xs x)

pub length-remove : {X : Type 0} (xs : List X) (i : ℕ) → i < length xs → length (remove xs i) + 1 ≡ length xs
length-remove [] i within = absurd (omega arith)
length-remove (x ∷ xs) zero within = omega arith
length-remove (x ∷ xs) (suc i) within = let more = length-remove xs i (omega arith) in omega (arith, more)

pub length-insert : {X : Type 0} (xs : List X) (i : ℕ) (x : X) → i ≤ length xs → i < length (insert xs i x)
length-insert [] zero x within = omega arith
length-insert [] (suc i) x within = absurd (omega arith)
length-insert (y ∷ xs) zero x within = omega arith
length-insert (y ∷ xs) (suc i) x within = let more = length-insert xs i x (omega arith) in omega (arith, more)

pub names-set : {T : Type 0} (name_of : T → Labels) → (things : List T) (i : ℕ) (old new : T) → slice_get things i ≡ Some old → (name_of new) ≡ (name_of old) → names_of name_of (slice_set things i new) ≡ names_of name_of things
names-set {T} name_of [] i old new at same = absurd cc
names-set {T} name_of (s ∷ things) zero old new at same = let is : s ≡ old = cc in ap (λ (n : Labels). n ∷ names_of name_of things) (same ∙ ap (λ (x : T). (name_of x)) (sym is))
names-set {T} name_of (s ∷ things) (suc i) old new at same = ap (λ (ns : List Labels). (name_of s) ∷ ns) (names-set name_of things i old new at same)

-- ---- the closest thing, from the name up

pub closest-here : {T : Type 0} (name_of : T → Labels) → (things : List T) (name : Labels) (thing : T) → find_named name_of things name ≡ Some thing → closest_of name_of things name ≡ Some thing
closest-here {T} name_of things [] thing e = e
closest-here {T} name_of things (l ∷ name) thing e = ap (λ (r : Option T). option_or r (closest_of name_of things name)) e

pub closest-up : {T : Type 0} (name_of : T → Labels) → (things : List T) (l : List ℕ) (name : Labels) → find_named name_of things (l ∷ name) ≡ None → closest_of name_of things (l ∷ name) ≡ closest_of name_of things name
closest-up {T} name_of things l name e = ap (λ (r : Option T). option_or r (closest_of name_of things name)) e

-- ---- what each change makes of the entries

pub none_from : {X : Type 0} (r : Option X) → is_some r ≡ false → r ≡ None
none_from None e = refl
none_from (Some x) e = absurd (false≢true (sym e))

module _ {K : Type 0} where
  pub put-over : {T : Type 0} (name_of : T → Labels) → (es : List (K × T)) (i : ℕ) (old new : T) → slice_get (values_of es) i ≡ Some old → find_named name_of (values_of es) (name_of new) ≡ Some old → IsDistinct name_eq (names_of name_of (values_of es)) → values_of (set_value_at es i new) ≡ list_with name_of new (values_of es)
  put-over {T} name_of es i old new at found distinct =
      let things : List T = values_of es in
      values-set es i new ∙ set-over name_of things i old new at (name_of_find name_of things (name_of new) old found) distinct
      ∙ sym (ap (λ b. cond b (map (put_over name_of new) things) (things ++ new ∷ [])) (has_named-found name_of things (name_of new) ∙ ap is_some found))

  pub put-within : {T : Type 0} (es : List (K × T)) (i : ℕ) (old new : T) → slice_get (values_of es) i ≡ Some old → i < length (values_of (set_value_at es i new))
  put-within {T} es i old new at = omega (arith, slice_get_within (values_of es) i old at, length-map es (λ e. e.1), length-map (set_value_at es i new) (λ e. e.1), length-set_value_at es i new)

  pub put-back : {T : Type 0} (es : List (K × T)) (i : ℕ) (old new : T) → slice_get (values_of es) i ≡ Some old → slice_set (values_of (set_value_at es i new)) i old ≡ values_of es
  put-back {T} es i old new at = ap (λ (xs : List T). slice_set xs i old) (values-set es i new) ∙ set-back (values_of es) i old new at

  pub put-names : {T : Type 0} (name_of : T → Labels) → (es : List (K × T)) (i : ℕ) (old new : T) → slice_get (values_of es) i ≡ Some old → (name_of new) ≡ (name_of old) → names_of name_of (slice_set (values_of (set_value_at es i new)) i old) ≡ names_of name_of (values_of (set_value_at es i new))
  put-names {T} name_of es i old new at same =
      ap (λ (xs : List T). names_of name_of xs) (put-back es i old new at) ∙ sym (names-set name_of (values_of es) i old new at same) ∙ ap (λ (xs : List T). names_of name_of xs) (sym (values-set es i new))

pub push-with : {T : Type 0} (name_of : T → Labels) → (things : List T) (new : T) → find_named name_of things (name_of new) ≡ None → things ++ new ∷ [] ≡ list_with name_of new things
push-with {T} name_of things new none = sym (ap (λ b. cond b (map (put_over name_of new) things) (things ++ new ∷ [])) (has_named-found name_of things (name_of new) ∙ ap is_some none))

pub without_absent : {T : Type 0} (name_of : T → Labels) → (things : List T) (name : Labels) → find_named name_of things name ≡ None → list_without name_of name things ≡ things
without_absent {T} name_of things name none = without_none name_of things name (has_named-found name_of things name ∙ ap is_some none)

module _ {K : Type 0} where
  pub taken-within : {T : Type 0} (es : List (K × T)) (i : ℕ) (k : K) (s : T) → slice_get es i ≡ Some (k, s) → i ≤ length (values_of (remove es i))
  taken-within {T} es i k s at =
      let within = slice_get_within es i (k, s) at in
      omega (arith, within, length-remove es i within, length-map (remove es i) (λ e. e.1))

  pub taken-back : {T : Type 0} (es : List (K × T)) (i : ℕ) (k : K) (s : T) → slice_get es i ≡ Some (k, s) → insert (values_of (remove es i)) i s ≡ values_of es
  taken-back {T} es i k s at = ap (λ (xs : List T). insert xs i s) (values-remove es i) ∙ insert-back (values_of es) i s (value-at es i k s at)

-- where the names are distinct, that of one is not among the others
all_apart : {T : Type 0} (name_of : T → Labels) → (name : Labels) (things : List T) → AllByRecursion (λ other. name_eq name other ≡ false) (names_of name_of things) → find_named name_of things name ≡ None
all_apart {T} name_of name [] h = refl
all_apart {T} name_of name (s ∷ things) h = ap (λ b. cond b (Some s) (find_named name_of things name)) (name_eq-swap (name_of s) name ∙ h.0) ∙ all_apart name_of name things h.1

inserted : {T : Type 0} (name_of : T → Labels) → (P : Labels → Type 0) (things : List T) (i : ℕ) (s : T) → AllByRecursion P (names_of name_of (insert things i s)) → P (name_of s)
inserted {T} name_of P [] zero s h = h.0
inserted {T} name_of P [] (suc i) s h = h.0
inserted {T} name_of P (x ∷ things) zero s h = h.0
inserted {T} name_of P (x ∷ things) (suc i) s h = inserted name_of P things i s h.1

pub absent_before : {T : Type 0} (name_of : T → Labels) → (things : List T) (i : ℕ) (s : T) → IsDistinct name_eq (names_of name_of (insert things i s)) → find_named name_of things (name_of s) ≡ None
unfolding IsDistinct
absent_before {T} name_of [] i s h = refl
absent_before {T} name_of (x ∷ things) zero s h = all_apart name_of (name_of s) (x ∷ things) h.0
absent_before {T} name_of (x ∷ things) (suc i) s h =
    ap (λ b. cond b (Some x) (find_named name_of things (name_of s))) (inserted name_of (λ other. name_eq (name_of x) other ≡ false) things i s h.0) ∙ absent_before name_of things i s h.1

-- a new key goes to the place that is asked for
index_absent : {K X : Type 0} (test : K → Bool) (es : List (K × X)) → lookup test es ≡ None → position_or_len test (keys_of es) ≡ length es
index_absent test [] e = refl
index_absent test (x ∷ es) e = by (test x.0) refl e (index_absent test es)
  where
    by : (b : Bool) → test x.0 ≡ b → cond b (Some x.1) (lookup test es) ≡ None → (lookup test es ≡ None → position_or_len test (keys_of es) ≡ length es) → position_or_len test (keys_of (x ∷ es)) ≡ suc (length es)
    by true e none more = absurd (false≢true (sym (ap is_some none)))
    by false e none more =
        let here : position_or_len test (keys_of (x ∷ es)) ≡ 1 + position_or_len test (keys_of es) = ap (λ b. cond (not b) (1 + position_or_len test (keys_of es)) 0) e in
        let rest = more none in
        omega (arith, here, rest)

pub inserted_at : {K X S : Type 0} (eq : K → K → Bool) (m : IndexMap K X S) (k : K) (v : X) (i : ℕ) → get eq m k ≡ None → i ≤ length m.entries
    → move_index (insert_entry eq m.entries k v) (insert_index eq m k) i ≡ insert m.entries i (k, v)
inserted_at eq m k v i none within =
    (λ j. move_index (insert_entry-new eq m k v none j) (index_absent (eq k) m.entries none j) i) ∙ push_moved m.entries (k, v) i within

pub on_ok : {X E A B C : Type 0} (r : Result X E) → OnOk r A → OnOk r B → (A → B → C) → OnOk r C
on_ok (Ok x) a b f = f a b
on_ok (Err e) a b f = tt

-- where the names are the same, a thing at a place has the name of the one before it
pub names_at : {T : Type 0} (name_of : T → Labels) → (things : List T) (i : ℕ) (old new : T) → slice_get things i ≡ Some old → names_of name_of (slice_set things i new) ≡ names_of name_of things → (name_of new) ≡ (name_of old)
names_at {T} name_of [] i old new at same = absurd cc
names_at {T} name_of (s ∷ things) zero old new at same = let is : s ≡ old = cc in ap (λ (ns : List Labels). get_or ns 0 []) same ∙ ap (λ (x : T). (name_of x)) is
names_at {T} name_of (s ∷ things) (suc i) old new at same = names_at name_of things i old new at (ap (λ (ns : List Labels). drop 1 ns) same)

pub closest-root : {T : Type 0} (name_of : T → Labels) → (things : List T) (name : Labels) → name ≡ [] → find_named name_of things name ≡ closest_of name_of things name
closest-root {T} name_of things [] e = refl
closest-root {T} name_of things (l ∷ name) e = absurd cc

-- the octets of the name above, where those of a name and its leftmost label are at hand
pub octets_above : (octets label : List ℕ) (name : Labels) → octets ≡ octets_of (label ∷ name) → take (length octets - length label - 1) octets ≡ octets_of name
octets_above octets label name e =
    let is : octets ≡ octets_of name ++ with_length label = e ∙ octets_of-child label name in
    let long : length octets - length label - 1 ≡ length (octets_of name) = omega (arith, ap length is, length-append (octets_of name) (with_length label)) in
    ap (take (length octets - length label - 1)) is ∙ take_at (octets_of name) (with_length label) (length octets - length label - 1) (sym long)

pub either : {X E A B C : Type 0} (r : Result X E) → OnOk r A → OnErr r B → (A → C) → (B → C) → C
either (Ok x) a b f g = f a
either (Err e) a b f g = g b

-- ---- the other side of a change

swap_found : {X : Type 0} (a b : Bool) (x y r : X) → (a ≡ true → b ≡ true → ⊥) → cond a x (cond b y r) ≡ cond b y (cond a x r)
swap_found true true x y r apart = absurd (apart refl refl)
swap_found true false x y r apart = refl
swap_found false true x y r apart = refl
swap_found false false x y r apart = refl

both_named : (a b name : Labels) → name_eq a b ≡ false → name_eq a name ≡ true → name_eq name b ≡ true → ⊥
both_named a b name apart first second =
    false≢true (sym apart ∙ ap (λ (n : Labels). name_eq n b) (name_eq_exact a name first) ∙ second)

twice : {X : Type 0} (b : Bool) (x y r : X) → cond b x r ≡ cond b x (cond b y r)
twice true x y r = refl
twice false x y r = refl

module _ {T : Type 0} (name_of : T → Labels) where
  found-set : (things : List T) (i : ℕ) (old new : T) (name : Labels) → slice_get things i ≡ Some old → (name_of new) ≡ (name_of old) → IsDistinct name_eq (names_of name_of things)
      → find_named name_of (slice_set things i new) name ≡ found_over name_of things (name_of new) (Some new) name
  unfolding IsDistinct
  found-set [] i old new name at same h = absurd cc
  found-set (s ∷ things) zero old new name at same h =
      let is : s ≡ old = cc in
      let named : name_eq (name_of s) name ≡ name_eq name (name_of new) = ap (λ (x : T). name_eq (name_of x) name) is ∙ ap (λ (n : Labels). name_eq n name) (sym same) ∙ name_eq-swap (name_of new) name in
      let rest : Option T = find_named name_of things name in
      ap (λ b. cond b (Some new) rest) (name_eq-swap (name_of new) name)
      ∙ twice (name_eq name (name_of new)) (Some new) (Some s) rest
      ∙ ap (λ b. cond (name_eq name (name_of new)) (Some new) (cond b (Some s) rest)) (sym named)
  found-set (s ∷ things) (suc i) old new name at same h =
      let apart : name_eq (name_of s) (name_of new) ≡ false = ap (name_eq (name_of s)) same ∙ apart_at name_of (name_of s) things i old h.0 at in
      ap (λ (r : Option T). cond (name_eq (name_of s) name) (Some s) r) (found-set things i old new name at same h.1)
      ∙ swap_found (name_eq (name_of s) name) (name_eq name (name_of new)) (Some s) (Some new) (find_named name_of things name) (both_named (name_of s) (name_of new) name apart)

  found-remove : (things : List T) (i : ℕ) (old : T) (name : Labels) → slice_get things i ≡ Some old → IsDistinct name_eq (names_of name_of things)
      → find_named name_of (remove things i) name ≡ found_over name_of things (name_of old) None name
  unfolding IsDistinct
  found-remove [] i old name at h = absurd cc
  found-remove (s ∷ things) zero old name at h =
      let is : s ≡ old = cc in
      let named : name_eq (name_of s) name ≡ name_eq name (name_of old) = name_eq-swap (name_of s) name ∙ ap (λ (x : T). name_eq name (name_of x)) is in
      by (name_eq (name_of s) name) refl ∙ ap (λ b. cond b None (cond (name_eq (name_of s) name) (Some s) (find_named name_of things name))) named
    where
      by : (b : Bool) → name_eq (name_of s) name ≡ b → find_named name_of things name ≡ cond b None (cond b (Some s) (find_named name_of things name))
      by true e = subst (λ (n : Labels). find_named name_of things n ≡ None) (name_eq_exact (name_of s) name e) (all_apart name_of (name_of s) things h.0)
      by false e = refl
  found-remove (s ∷ things) (suc i) old name at h =
      ap (λ (r : Option T). cond (name_eq (name_of s) name) (Some s) r) (found-remove things i old name at h.1)
      ∙ swap_found (name_eq (name_of s) name) (name_eq name (name_of old)) (Some s) None (find_named name_of things name) (both_named (name_of s) (name_of old) name (apart_at name_of (name_of s) things i old h.0 at))

  found-insert : (things : List T) (i : ℕ) (new : T) (name : Labels) → IsDistinct name_eq (names_of name_of (insert things i new))
      → find_named name_of (insert things i new) name ≡ found_over name_of things (name_of new) (Some new) name
  unfolding IsDistinct
  found-insert [] zero new name h = ap (λ b. cond b (Some new) None) (name_eq-swap (name_of new) name)
  found-insert [] (suc i) new name h = ap (λ b. cond b (Some new) None) (name_eq-swap (name_of new) name)
  found-insert (s ∷ things) zero new name h = ap (λ b. cond b (Some new) (find_named name_of (s ∷ things) name)) (name_eq-swap (name_of new) name)
  found-insert (s ∷ things) (suc i) new name h =
      ap (λ (r : Option T). cond (name_eq (name_of s) name) (Some s) r) (found-insert things i new name h.1)
      ∙ swap_found (name_eq (name_of s) name) (name_eq name (name_of new)) (Some s) (Some new) (find_named name_of things name)
      (both_named (name_of s) (name_of new) name (inserted name_of (λ other. name_eq (name_of s) other ≡ false) things i new h.0))

-- what is closest depends on what each name has
closest_same : {T : Type 0} (has other : Labels → Option T) → ((name : Labels) → has name ≡ other name) → (name : Labels) → closest_with has name ≡ closest_with other name
closest_same has other same [] = same []
closest_same has other same (l ∷ name) = λ i. option_or (same (l ∷ name) i) (closest_same has other same name i)

-- the steps of the walk
pub with-here : {T : Type 0} (has : Labels → Option T) (name : Labels) (thing : T) → has name ≡ Some thing → closest_with has name ≡ Some thing
with-here has [] thing e = e
with-here has (l ∷ name) thing e = ap (λ (r : Option _). option_or r (closest_with has name)) e

pub with-up : {T : Type 0} (has : Labels → Option T) (name : Labels) (label : List ℕ) (parent : Labels) → name ≡ label ∷ parent → has name ≡ None → closest_with has name ≡ closest_with has parent
with-up has name label parent is none =
    ap (λ (n : Labels). closest_with has n) is ∙ ap (λ (r : Option _). option_or r (closest_with has parent)) (ap has (sym is) ∙ none)

pub with-root : {T : Type 0} (has : Labels → Option T) (name : Labels) → name ≡ [] → has name ≡ closest_with has name
with-root has [] e = refl
with-root has (l ∷ name) e = absurd cc

module _ {T : Type 0} (name_of : T → Labels) where
  one_at : (things : List T) (i : ℕ) → i < length things → (x : T) × (slice_get things i ≡ Some x)
  one_at [] i inside = absurd (omega arith)
  one_at (x ∷ things) zero inside = (x, refl)
  one_at (x ∷ things) (suc i) inside = one_at things i (omega arith)

  -- the closest thing on the other side of each change
  module _ (turn : Turn T) (things : List T) (place : ℕ) (thing : T) (other name : Labels) (is_other : other ≡ name_of thing) where
    abbrev over : Option T → Option T
    over instead = closest_with (found_over name_of things other instead) name

    named_so : (instead : Option T) (list : List T) → ((n : Labels) → find_named name_of list n ≡ found_over name_of things (name_of thing) instead n)
        → over instead ≡ closest_of name_of list name
    named_so instead list h =
        closest_same (found_over name_of things other instead) (find_named name_of list) (λ n. ap (λ (o : Labels). found_over name_of things o instead n) is_other ∙ sym (h n)) name

    pub closest-other : turn ≡ Other place thing → HasPlace name_of turn things → AreNamed name_of things → over (Some thing) ≡ closest_of name_of (other_of turn things) name
    closest-other is fits h =
        let there : HasPlace name_of (Other place thing) things = subst (λ (t : Turn T). HasPlace name_of t things) is fits in
        let old = one_at things place there.0 in
        named_so (Some thing) (slice_set things place thing) (λ n. found-set name_of things place old.0 thing n old.1 (names_at name_of things place old.0 thing old.1 there.1) h)
        ∙ ap (λ (t : Turn T). closest_of name_of (other_of t things) name) (sym is)

    pub closest-without : turn ≡ Without place → slice_get things place ≡ Some thing → AreNamed name_of things → over None ≡ closest_of name_of (other_of turn things) name
    closest-without is at h =
        named_so None (remove things place) (λ n. found-remove name_of things place thing n at h) ∙ ap (λ (t : Turn T). closest_of name_of (other_of t things) name) (sym is)

    pub closest-within : turn ≡ With place thing → AreNamed name_of (other_of turn things) → over (Some thing) ≡ closest_of name_of (other_of turn things) name
    closest-within is h =
        named_so (Some thing) (insert things place thing) (λ n. found-insert name_of things place thing n (subst (λ (t : Turn T). AreNamed name_of (other_of t things)) is h))
        ∙ ap (λ (t : Turn T). closest_of name_of (other_of t things) name) (sym is)
