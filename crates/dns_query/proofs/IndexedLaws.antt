-- What maps from names and sets of names hold after a change.
use Rattle.std.proofs.Common.{◌≡◌, Bool, true, false, ◌||◌, cond, List, [], ◌∷◌, ◌++◌, Option, Some, refl, sym, ap, ◌∙◌, subst, inl, inr, Result, Ok, Err}
use Rattle.std.specs.Prelude.{Vec, OnOk}
use Rattle.std.specs.BTreeMap.{BTreeMap, get, Updates}
use Rattle.std.specs.BTreeSet as set
use Rattle.std.specs.Option.{option_map_or}
use Rattle.std.proofs.lemmas.Bool.{cases_Bool}
use Rattle.std.proofs.lemmas.List.{append-nil}
use Rattle.std.proofs.lemmas.List.Folds.{list_any-append}
use Rattle.std.proofs.Math.Bool.{or-false}
use Rattle.dns_name.specs.Labels.{Labels}
use Rattle.dns_name.specs.Order.{name_cmp, name_eq, name_eq-is_eq, name_eq_exact}
use Rattle.dns_text.specs.declared.addr.Addr.{Addr}
use Rattle.ranked.specs.Set.{is_among}
use Rattle.dns_query.specs.Indexed.{addrs_at, HasEach}

module _ {A : Type 0} (before after : BTreeMap Labels (Vec Addr A)) (owner : Labels) (new : Vec Addr A) (more : List Addr) where
  -- the addresses of one name with more of them
  addrs_once : Updates name_cmp before after owner (Some new) → new.items ≡ addrs_at before owner ++ more → (name : Labels) → addrs_at after name ≡ addrs_at before name ++ cond (name_eq owner name) more []
  addrs_once h is name =
      let items : Option (Vec Addr A) → List Addr = λ o. option_map_or (λ addrs. addrs.items) o [] in
      let now : addrs_at after name ≡ items (cond (name_eq owner name) (Some new) (get name_cmp before name)) =
      ap items (h.0 name) ∙ ap (λ b. items (cond b (Some new) (get name_cmp before name))) (sym (name_eq-is_eq owner name)) in
      elim (cases_Bool (name_eq owner name)) [
        | inl same ↦
            let one : owner ≡ name = name_eq_exact owner name same in
            now ∙ ap (λ b. items (cond b (Some new) (get name_cmp before name))) same ∙ is ∙ ap (λ (n : Labels). addrs_at before n ++ more) one
            ∙ ap (λ b. addrs_at before name ++ cond b more []) (sym same)
        | inr apart ↦
            now ∙ ap (λ b. items (cond b (Some new) (get name_cmp before name))) apart ∙ sym (append-nil (addrs_at before name))
            ∙ ap (λ b. addrs_at before name ++ cond b more []) (sym apart)
      ]

-- the same, where the map and the name are known by others
pub addrs_updated : {A : Type 0} (old before after : BTreeMap Labels (Vec Addr A)) (owner key : Labels) (new : Vec Addr A) (more : List Addr) → before ≡ old → key ≡ owner → Updates name_cmp before after key (Some new)
    → new.items ≡ addrs_at old owner ++ more → (name : Labels) → addrs_at after name ≡ addrs_at old name ++ cond (name_eq owner name) more []
addrs_updated {A} old before after owner key new more known one h is =
    let at : (m : BTreeMap Labels (Vec Addr A)) → Labels → Type 0 = λ m k. Updates name_cmp m after k (Some new) in
    addrs_once old after owner new more (subst (λ (m : BTreeMap Labels (Vec Addr A)). at m owner) known (subst (λ (k : Labels). at before k) one h)) is

-- what follows where a call comes to something
pub on_ok : {T E P Q : Type 0} (r : Result T E) → (P → Q) → OnOk r P → OnOk r Q
on_ok (Ok x) f h = f h
on_ok (Err e) f h = h

-- a set and a list of names, with one more
pub each_added : (seen after : set.BTreeSet Labels) (names : List Labels) (name : Labels) → HasEach seen names → set.Updates name_cmp seen after name true → is_among name_eq names name ≡ false → HasEach after (names ++ name ∷ [])
each_added seen after names name h updates apart q =
    let more : is_among name_eq (names ++ name ∷ []) q ≡ (is_among name_eq names q || name_eq name q) =
    list_any-append (λ n. name_eq n q) names (name ∷ []) ∙ ap (λ b. is_among name_eq names q || b) (or-false (name_eq name q)) in
    let now : set.contains name_cmp after q ≡ cond (name_eq name q) true (is_among name_eq names q) =
    updates.0 q ∙ ap (λ b. cond b true (set.contains name_cmp seen q)) (sym (name_eq-is_eq name q)) ∙ ap (λ b. cond (name_eq name q) true b) (h q) in
    now ∙ either (name_eq name q) (is_among name_eq names q) ∙ sym more
  where
    either : (a b : Bool) → cond a true b ≡ (b || a)
    either true true = refl
    either true false = refl
    either false true = refl
    either false false = refl
