-- Records by type: what a group holds in the place of the records of an owner.
use Rattle.std.proofs.Common.{◌≡◌, ℕ, ◌==◌, Bool, true, false, cond, List, [], ◌∷◌, ◌++◌, length, map, take, refl, ap, sym, subst, ◌∙◌, arith, length-append}
use Rattle.std.proofs.lemmas.List.{append-nil, length-map, take_at}
use Rattle.std.proofs.lemmas.List.Elements.{filter-append}
use Rattle.std.proofs.lemmas.Bool.{eq-eqb, eqb-true}
use Rattle.dns_text.specs.declared.record.Record.{Record}
use Rattle.local_zone.specs.Change.{retimed_by}
use Rattle.local_zone.specs.Index.{of_kind, HoldSame}
use Rattle.local_zone.specs.Tables.{is_of_set}

pub same_itself : (xs : List Record) → HoldSame xs xs
same_itself xs = record { sets = λ kind. refl; count = refl }

pub same_left : {a b c : List Record} → a ≡ b → HoldSame b c → HoldSame a c
same_left {a} {b} {c} e h = subst (λ (x : List Record). HoldSame x c) (sym e) h

pub same_right : {a b c : List Record} → HoldSame a b → b ≡ c → HoldSame a c
same_right {a} {b} {c} h e = subst (λ (x : List Record). HoldSame a x) e h

-- what is as long as no list is none
pub held_none : (xs : List Record) → HoldSame [] xs → xs ≡ []
held_none [] h = refl
held_none (x ∷ xs) h = absurd (omega (arith, h.count))

pub held_empty : (xs : List Record) → HoldSame xs [] → xs ≡ []
held_empty [] h = refl
held_empty (x ∷ xs) h = absurd (omega (arith, h.count))

-- ---- a time to live changes no type

pub kind_kept : (new r : Record) → (retimed_by new r).kind ≡ r.kind
kind_kept new r = by (is_of_set r new)
  where
    by : (b : Bool) → (cond b (record r { ttl = new.ttl }) r).kind ≡ r.kind
    by true = refl
    by false = refl

pub kind_retimed : (kind : ℕ) (new : Record) (rs : List Record) → of_kind kind (map (retimed_by new) rs) ≡ map (retimed_by new) (of_kind kind rs)
kind_retimed kind new [] = refl
kind_retimed kind new (r ∷ rs) =
    ap (λ (k : ℕ). cond (k == kind) (retimed_by new r ∷ of_kind kind (map (retimed_by new) rs)) (of_kind kind (map (retimed_by new) rs))) (kind_kept new r) ∙ by (r.kind == kind) (kind_retimed kind new rs)
  where
    by : (b : Bool) → of_kind kind (map (retimed_by new) rs) ≡ map (retimed_by new) (of_kind kind rs)
        → cond b (retimed_by new r ∷ of_kind kind (map (retimed_by new) rs)) (of_kind kind (map (retimed_by new) rs)) ≡ map (retimed_by new) (cond b (r ∷ of_kind kind rs) (of_kind kind rs))
    by true more = ap (λ (x : List Record). retimed_by new r ∷ x) more
    by false more = more

pub same_retimed : (new : Record) (held all : List Record) → HoldSame held all → HoldSame (map (retimed_by new) held) (map (retimed_by new) all)
same_retimed new held all h = record {
  sets = λ kind. kind_retimed kind new held ∙ ap (λ (x : List Record). map (retimed_by new) x) (h.sets kind) ∙ sym (kind_retimed kind new all);
  count = length-map held (retimed_by new) ∙ h.count ∙ sym (length-map all (retimed_by new));
}

-- ---- one record more, and one less

-- the records of a type among those on both sides of one
kind_between : (kind : ℕ) (a b : List Record) (x : Record) → of_kind kind (a ++ x ∷ b) ≡ of_kind kind a ++ (of_kind kind (x ∷ []) ++ of_kind kind b)
kind_between kind a b x = filter-append (λ (r : Record). r.kind == kind) a (x ∷ b) ∙ ap (λ (l : List Record). of_kind kind a ++ l) (filter-append (λ (r : Record). r.kind == kind) (x ∷ []) b)

kind_join : (kind : ℕ) (a b : List Record) → of_kind kind (a ++ b) ≡ of_kind kind a ++ of_kind kind b
kind_join kind a b = filter-append (λ (r : Record). r.kind == kind) a b

other_kind : (kind : ℕ) (x : Record) → (x.kind == kind) ≡ false → of_kind kind (x ∷ []) ≡ []
other_kind kind x e = ap (λ (b : Bool). cond b (x ∷ []) []) e

own_kind : (kind : ℕ) (x : Record) → (x.kind == kind) ≡ true → of_kind kind (x ∷ []) ≡ x ∷ []
own_kind kind x e = ap (λ (b : Bool). cond b (x ∷ []) []) e

-- A record comes behind those of its type.
pub same_pushed : (a b all : List Record) (new : Record) → of_kind new.kind b ≡ [] → HoldSame (a ++ b) all → HoldSame (a ++ new ∷ b) (all ++ new ∷ [])
same_pushed a b all new behind h = record {
  sets = λ kind. by kind (new.kind == kind) refl;
  count = omega (arith, h.count, length-append a b, length-append a (new ∷ b), length-append all (new ∷ []));
}
  where
    by : (kind : ℕ) (c : Bool) → (new.kind == kind) ≡ c → of_kind kind (a ++ new ∷ b) ≡ of_kind kind (all ++ new ∷ [])
    by kind true e =
        let same : new.kind ≡ kind = eqb-true new.kind kind e in
        let none : of_kind kind b ≡ [] = ap (λ (k : ℕ). of_kind k b) (sym same) ∙ behind in
        let front : of_kind kind a ≡ of_kind kind all = sym (append-nil (of_kind kind a)) ∙ ap (λ (l : List Record). of_kind kind a ++ l) (sym none) ∙ sym (kind_join kind a b) ∙ h.sets kind in
        kind_between kind a b new ∙ (λ i. front i ++ (of_kind kind (new ∷ []) ++ none i)) ∙ ap (λ (l : List Record). of_kind kind all ++ l) (append-nil (of_kind kind (new ∷ []))) ∙ sym (kind_join kind all (new ∷ []))
    by kind false e =
        let none : of_kind kind (new ∷ []) ≡ [] = other_kind kind new e in
        kind_between kind a b new ∙ ap (λ (l : List Record). of_kind kind a ++ (l ++ of_kind kind b)) none ∙ sym (kind_join kind a b) ∙ h.sets kind
        ∙ sym (append-nil (of_kind kind all)) ∙ ap (λ (l : List Record). of_kind kind all ++ l) (sym none) ∙ sym (kind_join kind all (new ∷ []))

same_front : (xs ys : List Record) (a b : Record) → xs ++ a ∷ [] ≡ ys ++ b ∷ [] → xs ≡ ys
same_front xs ys a b e =
    let long : length xs ≡ length ys = omega (arith, ap length e, length-append xs (a ∷ []), length-append ys (b ∷ [])) in
    sym (take_at xs (a ∷ []) (length ys) long) ∙ ap (take (length ys)) e ∙ take_at ys (b ∷ []) (length ys) refl

-- The last record of a type goes.
pub same_popped : (a b front : List Record) (x last : Record) → x.kind ≡ last.kind → of_kind last.kind b ≡ [] → HoldSame (a ++ x ∷ b) (front ++ last ∷ []) → HoldSame (a ++ b) front
same_popped a b front x last same behind h = record {
  sets = λ kind. by kind (last.kind == kind) refl;
  count = omega (arith, h.count, length-append a b, length-append a (x ∷ b), length-append front (last ∷ []));
}
  where
    whole : (kind : ℕ) → of_kind kind a ++ (of_kind kind (x ∷ []) ++ of_kind kind b) ≡ of_kind kind front ++ of_kind kind (last ∷ [])
    whole kind = sym (kind_between kind a b x) ∙ h.sets kind ∙ kind_join kind front (last ∷ [])

    by : (kind : ℕ) (c : Bool) → (last.kind == kind) ≡ c → of_kind kind (a ++ b) ≡ of_kind kind front
    by kind true e =
        let here : last.kind ≡ kind = eqb-true last.kind kind e in
        let none : of_kind kind b ≡ [] = ap (λ (k : ℕ). of_kind k b) (sym here) ∙ behind in
        let both : of_kind kind a ++ x ∷ [] ≡ of_kind kind front ++ last ∷ [] =
        ap (λ (l : List Record). of_kind kind a ++ l) (sym ((λ i. own_kind kind x (ap (λ (k : ℕ). k == kind) same ∙ e) i ++ none i))) ∙ whole kind ∙ ap (λ (l : List Record). of_kind kind front ++ l) (own_kind kind last e) in
        kind_join kind a b ∙ ap (λ (l : List Record). of_kind kind a ++ l) none ∙ append-nil (of_kind kind a) ∙ same_front (of_kind kind a) (of_kind kind front) x last both
    by kind false e =
        kind_join kind a b ∙ ap (λ (l : List Record). of_kind kind a ++ (l ++ of_kind kind b)) (sym (other_kind kind x (ap (λ (k : ℕ). k == kind) same ∙ e))) ∙ whole kind
        ∙ ap (λ (l : List Record). of_kind kind front ++ l) (other_kind kind last e) ∙ append-nil (of_kind kind front)

-- A list that holds the same as one with this record last has a record of its type.
pub held_some : (held front : List Record) (last : Record) → of_kind last.kind held ≡ [] → HoldSame held (front ++ last ∷ []) → ⊥
held_some held front last none h =
    let one : of_kind last.kind (last ∷ []) ≡ last ∷ [] = own_kind last.kind last (eq-eqb last.kind last.kind refl) in
    let empty : [] ≡ of_kind last.kind front ++ last ∷ [] = sym none ∙ h.sets last.kind ∙ kind_join last.kind front (last ∷ []) ∙ ap (λ (l : List Record). of_kind last.kind front ++ l) one in
    omega (arith, ap length empty, length-append (of_kind last.kind front) (last ∷ []))
