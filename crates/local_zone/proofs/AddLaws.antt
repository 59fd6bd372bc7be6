-- A record that is added, and its way back.
use Rattle.std.proofs.Common.{◌≡◌, ◌-◌, Bool, true, false, ◌==◌, not, cond, List, [], ◌∷◌, ◌++◌, length, take, map, Option, Some, None, refl, ap, sym, subst, ◌∙◌, inl, inr, arith, length-append}
use Rattle.std.specs.List.{find, Contains}
use Rattle.std.proofs.lemmas.Bool.{and_parts, and_from, false≢true, eqb-true, eq-eqb}
use Rattle.std.proofs.lemmas.List.{take_at}
use Rattle.dns_name.specs.Order.{name_eq, name_eq_exact, name_eq_itself}
use Rattle.dns_text.specs.declared.record.Record.{Record}
use Rattle.dns_text.specs.declared.ttl.Ttl.{Ttl}
use Rattle.local_zone.specs.Added.{ttl_or, ttl_of, records_before}
use Rattle.local_zone.specs.Change.{retimed_by, is_there, with_record, records_with}
use Rattle.local_zone.specs.Tables.{is_of_set}
use Rattle.named_list.specs.ClosestLaws.{in_head, in_tail, in_cases}
use Rattle.local_zone.proofs.SoundLaws.{there_retimed}

-- ---- a set

set_itself : (new : Record) → is_of_set new new ≡ true
set_itself new = and_from _ _ (name_eq_itself new.owner) (eq-eqb _ _ refl)

fixed_itself : (new : Record) → retimed_by new new ≡ new
fixed_itself new = ap (λ b. cond b (record new { ttl = new.ttl }) new) (set_itself new)

-- two records of the set of a third are of one
two_of_set : (r s new : Record) → is_of_set r new ≡ true → is_of_set s new ≡ true → is_of_set r s ≡ true
two_of_set r s new a b =
    let p = and_parts (name_eq r.owner new.owner) (r.kind == new.kind) a in
    let q = and_parts (name_eq s.owner new.owner) (s.kind == new.kind) b in
    let owners : r.owner ≡ s.owner = name_eq_exact r.owner new.owner p.0 ∙ sym (name_eq_exact s.owner new.owner q.0) in
    let kinds : r.kind ≡ s.kind = eqb-true r.kind new.kind p.1 ∙ sym (eqb-true s.kind new.kind q.1) in
    and_from _ _ (ap (name_eq r.owner) (sym owners) ∙ name_eq_itself r.owner) (eq-eqb _ _ kinds)

-- ---- what a search finds

record Finds {X : Type 0} (p : X → Bool) (xs : List X) (x : X) : Type 0 where
  there : Contains xs x
  passes : p x ≡ true

found : {X : Type 0} (p : X → Bool) (xs : List X) (y : X) → find p xs ≡ Some y → Finds p xs y
found p [] y e = absurd cc
found p (x ∷ xs) y e = by (p x) refl e (found p xs y)
  where
    by : (b : Bool) → p x ≡ b → cond b (Some x) (find p xs) ≡ Some y → (find p xs ≡ Some y → Finds p xs y) → Finds p (x ∷ xs) y
    by true is same more =
        let one : x ≡ y = cc in
        record { there = subst (Contains (x ∷ xs)) one (in_head x xs); passes = subst (λ z. p z ≡ true) one is }
    by false is same more = let it = more same in record { there = in_tail x xs y it.there; passes = it.passes }

not_found : {X : Type 0} (p : X → Bool) (xs : List X) (y : X) → find p xs ≡ None → Contains xs y → p y ≡ false
not_found p [] y e h = absurd (omega (arith, h.1))
not_found p (x ∷ xs) y e h = by (p x) refl e (not_found p xs y)
  where
    by : (b : Bool) → p x ≡ b → cond b (Some x) (find p xs) ≡ None → (find p xs ≡ None → Contains xs y → p y ≡ false) → p y ≡ false
    by true is none more = absurd cc
    by false is none more =
        elim (in_cases x xs y h) [
          | inl same ↦ subst (λ z. p z ≡ false) same is
          | inr later ↦ more none later
        ]

-- the records of a set have one time to live
abbrev pub HasOneTtl : List Record → Type 0
HasOneTtl records = (r s : Record) → Contains records r → Contains records s → is_of_set r s ≡ true → r.ttl ≡ s.ttl

ttl_found : (new : Record) (records : List Record) → HasOneTtl records → (r : Record) → Contains records r → is_of_set r new ≡ true → r.ttl ≡ ttl_of new records
ttl_found new records one r there of = by (find (λ r. is_of_set r new) records) refl
  where
    by : (o : Option Record) → find (λ r. is_of_set r new) records ≡ o → r.ttl ≡ ttl_or new o
    by None e = absurd (false≢true (sym (not_found (λ r. is_of_set r new) records r e there) ∙ of))
    by (Some s) e = let it = found (λ r. is_of_set r new) records s e in one r s there it.there (two_of_set r s new of it.passes)

-- ---- the way back

twice : (new : Record) (ttl : Ttl) (r : Record) → (is_of_set r new ≡ true → r.ttl ≡ ttl) → retimed_by (record new { ttl = ttl }) (retimed_by new r) ≡ r
twice new ttl r same = by (is_of_set r new) refl same
  where
    by : (b : Bool) → is_of_set r new ≡ b → (b ≡ true → r.ttl ≡ ttl) → retimed_by (record new { ttl = ttl }) (cond b (record r { ttl = new.ttl }) r) ≡ r
    by true e same = ap (λ b. cond b (record r { ttl = ttl }) (record r { ttl = new.ttl })) e ∙ ap (λ (t : Ttl). record r { ttl = t }) (sym (same refl))
    by false e same = ap (λ b. cond b (record r { ttl = ttl }) r) e

restored : (new : Record) (ttl : Ttl) (rs : List Record) → ((r : Record) → Contains rs r → is_of_set r new ≡ true → r.ttl ≡ ttl) → map (retimed_by (record new { ttl = ttl })) (map (retimed_by new) rs) ≡ rs
restored new ttl [] h = refl
restored new ttl (r ∷ rs) h =
    λ i. twice new ttl r (h r (in_head r rs)) i ∷ restored new ttl rs (λ s there. h s (in_tail r rs s there)) i

map_push : (new : Record) (rs : List Record) → map (retimed_by new) (rs ++ new ∷ []) ≡ map (retimed_by new) rs ++ new ∷ []
map_push new [] = ap (λ (r : Record). r ∷ []) (fixed_itself new)
map_push new (r ∷ rs) = ap (λ (x : List Record). retimed_by new r ∷ x) (map_push new rs)

-- the record goes last before its set takes its time to live, or after
pub retimed-with : (new : Record) (rs : List Record) → map (retimed_by new) (with_record new rs) ≡ records_with new rs
retimed-with new rs = by (is_there rs new) refl
  where
    by : (b : Bool) → is_there rs new ≡ b → map (retimed_by new) (cond b rs (rs ++ new ∷ [])) ≡ cond (is_there (map (retimed_by new) rs) new) (map (retimed_by new) rs) (map (retimed_by new) rs ++ new ∷ [])
    by true e = sym (ap (λ b. cond b (map (retimed_by new) rs) (map (retimed_by new) rs ++ new ∷ [])) (there_retimed new rs ∙ e))
    by false e = map_push new rs ∙ sym (ap (λ b. cond b (map (retimed_by new) rs) (map (retimed_by new) rs ++ new ∷ [])) (there_retimed new rs ∙ e))

pub take_front : (xs : List Record) (x : Record) → take (length (xs ++ x ∷ []) - 1) (xs ++ x ∷ []) ≡ xs
take_front xs x = take_at xs (x ∷ []) (length (xs ++ x ∷ []) - 1) (omega (arith, length-append xs (x ∷ [])))

-- from the list with the record, what was saved gives the one without
pub back-with : (new : Record) (ttl : Ttl) (put : Bool) (rs : List Record) → HasOneTtl rs → ttl ≡ ttl_of new rs → put ≡ not (is_there rs new)
    → records_before (record { said = new; ttl = ttl; is_new = put }) (records_with new rs) ≡ rs
back-with new ttl put rs one is there = by (is_there rs new) refl
  where
    by : (b : Bool) → is_there rs new ≡ b → records_before (record { said = new; ttl = ttl; is_new = put }) (records_with new rs) ≡ rs
    by true e =
        let left : records_with new rs ≡ map (retimed_by new) rs = ap (λ b. cond b (map (retimed_by new) rs) (map (retimed_by new) rs ++ new ∷ [])) (there_retimed new rs ∙ e) in
        ap (λ p. records_before (record { said = new; ttl = ttl; is_new = p }) (records_with new rs)) (there ∙ ap not e) ∙ ap (λ (x : List Record). map (retimed_by (record new { ttl = ttl })) x) left ∙ restored new ttl rs (λ r within of. ttl_found new rs one r within of ∙ sym is)
    by false e =
        let left : records_with new rs ≡ map (retimed_by new) rs ++ new ∷ [] = ap (λ b. cond b (map (retimed_by new) rs) (map (retimed_by new) rs ++ new ∷ [])) (there_retimed new rs ∙ e) in
        ap (λ p. records_before (record { said = new; ttl = ttl; is_new = p }) (records_with new rs)) (there ∙ ap not e)
        ∙ ap (λ (x : List Record). map (retimed_by (record new { ttl = ttl })) (take (length x - 1) x)) left
        ∙ ap (λ (x : List Record). map (retimed_by (record new { ttl = ttl })) x) (take_front (map (retimed_by new) rs) new)
        ∙ restored new ttl rs (λ r within of. ttl_found new rs one r within of ∙ sym is)
