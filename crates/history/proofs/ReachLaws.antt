-- The commands in the way of an undo or a redo, looked for one by one.
use Rattle.std.proofs.Common.{◌≡◌, ◌<◌, ◌+◌, ℕ, Bool, true, false, cond, Option, Some, None, List, [], ◌∷◌, ◌++◌, length, take, drop, get_or, map, refl, sym, ap, ◌∙◌}
use Rattle.std.specs.Prelude.{filter, filter_map, slice_get}
use Rattle.std.specs.List.{cons_option}
use Rattle.std.proofs.lemmas.List.{append-nil, drop_more, take-append-drop, take_more}
use Rattle.std.proofs.lemmas.List.Elements.{filter-append}
use Rattle.history.specs.declared.event.Journalled.{Journalled}
use Rattle.history.specs.Journal.{tickets_of}
use Rattle.history.specs.Marks.{last_of}
use Rattle.history.proofs.UndoLaw.{last_push}

tickets_push : (xs : List Journalled) (held : Journalled) → tickets_of (xs ++ held ∷ []) ≡ tickets_of xs ++ held.ticket ∷ []
tickets_push [] held = refl
tickets_push (x ∷ xs) held = ap (λ l. x.ticket ∷ l) (tickets_push xs held)

module _ (p : Journalled → Bool) (commands : List Journalled) (i : ℕ) (held : Journalled) (less : i < length commands) (is : held ≡ get_or commands i held) where
  more : filter p (take (i + 1) commands) ≡ filter p (take i commands) ++ cond (p held) (held ∷ []) []
  more =
      ap (λ l. filter p l) (take_more commands i held less ∙ ap (λ (x : Journalled). take i commands ++ x ∷ []) (sym is))
      ∙ filter-append p (take i commands) (held ∷ [])

  pub last_here : (last : Option ℕ) → p held ≡ true → last ≡ Some held.ticket → last ≡ last_of (tickets_of (filter p (take (i + 1) commands)))
  unfolding more
  last_here last lies so =
      so ∙ sym (last_push (tickets_of (filter p (take i commands))) held.ticket)
      ∙ ap (λ l. last_of l) (sym (tickets_push (filter p (take i commands)) held))
      ∙ ap (λ l. last_of (tickets_of l)) (sym (more ∙ ap (λ (b : Bool). filter p (take i commands) ++ cond b (held ∷ []) []) lies))

  passed : p held ≡ false → filter p (take (i + 1) commands) ≡ filter p (take i commands)
  unfolding more
  passed apart = more ∙ ap (λ (b : Bool). filter p (take i commands) ++ cond b (held ∷ []) []) apart ∙ append-nil (filter p (take i commands))

  pub last_passed : (before last : Option ℕ) → p held ≡ false → before ≡ last_of (tickets_of (filter p (take i commands))) → last ≡ before → last ≡ last_of (tickets_of (filter p (take (i + 1) commands)))
  unfolding passed
  last_passed before last apart so same = same ∙ so ∙ ap (λ l. last_of (tickets_of l)) (sym (passed apart))

  pub first_here : p held ≡ true → filter p (take i commands) ≡ [] → Some held.ticket ≡ slice_get (tickets_of (filter p commands)) 0
  first_here lies none =
      let rest = drop (i + 1) commands in
      let all : filter p commands ≡ held ∷ filter p rest
      = ap (λ l. filter p l) (sym (take-append-drop i commands))
      ∙ filter-append p (take i commands) (drop i commands)
      ∙ ap (λ l. l ++ filter p (drop i commands)) none
      ∙ ap (λ l. filter p l) (drop_more commands i held less ∙ ap (λ (x : Journalled). x ∷ rest) (sym is))
      ∙ ap (λ (b : Bool). cond b (held ∷ filter p rest) (filter p rest)) lies in
      ap (λ l. slice_get (tickets_of l) 0) (sym all)

-- ---- the buried, one by one

cons_append : {X : Type 0} (o : Option X) (xs ys : List X) → cons_option o xs ++ ys ≡ cons_option o (xs ++ ys)
cons_append None xs ys = refl
cons_append (Some x) xs ys = refl

filter_map_push : {X Y : Type 0} (f : X → Option Y) (xs : List X) (x : X) → filter_map f (xs ++ x ∷ []) ≡ filter_map f xs ++ cons_option (f x) []
filter_map_push f [] x = refl
filter_map_push f (y ∷ ys) x = ap (λ l. cons_option (f y) l) (filter_map_push f ys x) ∙ sym (cons_append (f y) (filter_map f ys) (cons_option (f x) []))

pub filter_map_more : {X Y : Type 0} (f : X → Option Y) (xs : List X) (i : ℕ) (x : X) → i < length xs → x ≡ get_or xs i x → filter_map f (take (i + 1) xs) ≡ filter_map f (take i xs) ++ cons_option (f x) []
filter_map_more {X} f xs i x less is = ap (λ l. filter_map f l) (take_more xs i x less ∙ ap (λ (y : X). take i xs ++ y ∷ []) (sym is)) ∙ filter_map_push f (take i xs) x
