-- Data, each once, with one datum more.
use Rattle.std.proofs.Common.{◌≡◌, ℕ, ◌≤◌, Bool, true, false, ◌||◌, List, [], ◌∷◌, ◌++◌, length, map, take, drop, cond, refl, sym, ap, ◌∙◌, subst, inl, inr, Bor, Result, Ok, Err}
use Rattle.std.specs.Prelude.{Vec, OnOk}
use Rattle.std.specs.BTreeSet.{BTreeSet, contains, Updates}
use Rattle.std.specs.List.{list_any}
use Rattle.std.specs.Result.{is_ok}
use Rattle.std.specs.Ordering.{is_eq}
use Rattle.std.proofs.lemmas.Bool.{cases_Bool, false≢true}
use Rattle.std.proofs.lemmas.List.{drop-append-le, map_push, take-append-drop, take-map}
use Rattle.std.proofs.lemmas.List.Folds.{list_any-append}
use Rattle.std.proofs.lemmas.Map.Text.{is_eq-slice_cmp}
use Rattle.std.proofs.lemmas.Slice.Eq.{bytes_eq-Decides}
use Rattle.std.proofs.Math.Bool.{or-false}
use Rattle.std.proofs.Math.ListN.{drop_of_length-le}
use Rattle.dns_name.specs.ResultLaws.{some_same}
use Rattle.dns_text.specs.Data.{data_in, data_text}
use Rattle.dns_text.specs.Equal.{data_eq}
use Rattle.dns_text.specs.EqualLaws.{data_eq_exact, data_eq_itself}
use Rattle.dns_text.specs.declared.record.Data.{Data}
use Rattle.ranked.specs.Set.{is_among}
use Rattle.harvest.specs.Distinct.{DataOf, HasTexts, ReadsBack, added, text_cmp}

-- ---- data that are lent

abbrev pub lent : List (Bor Data) → List Data
lent items = map (λ (d : Bor Data). d.now) items

pub lent_pushed : (items all : List (Bor Data)) (datum : Bor Data) (ds : List Data) (d : Data) → all ≡ items ++ datum ∷ [] → lent items ≡ ds → datum.now ≡ d → lent all ≡ ds ++ d ∷ []
lent_pushed items all datum ds d e known one =
    ap (λ (x : List (Bor Data)). lent x) e ∙ map_push (λ (d : Bor Data). d.now) items datum ∙ ap (λ (x : List Data). x ++ datum.now ∷ []) known ∙ ap (λ (x : Data). ds ++ x ∷ []) one

any_lent : (items : List (Bor Data)) (d : Data) → list_any (λ x. data_eq x d) (lent items) ≡ list_any (λ (x : Bor Data). data_eq x.now d) items
any_lent [] d = refl
any_lent (x ∷ items) d = ap (λ b. data_eq x.now d || b) (any_lent items d)

-- whether a datum is among the first n
pub among_first : (n : ℕ) (items : List (Bor Data)) (d : Data) (ds : List Data) (answer : Bool) → answer ≡ list_any (λ (x : Bor Data). data_eq x.now d) (take n items) → lent items ≡ ds → is_among data_eq (take n ds) d ≡ answer
among_first n items d ds answer e known =
    ap (λ (x : List Data). is_among data_eq (take n x) d) (sym known) ∙ ap (λ (x : List Data). is_among data_eq x d) (take-map (λ (d : Bor Data). d.now) n items) ∙ any_lent (take n items) d ∙ sym e

-- what follows where a call is known to come to something
pub when_ok : {T E P : Type 0} (r : Result T E) → is_ok r ≡ true → OnOk r P → P
when_ok (Ok x) e h = h
when_ok (Err x) e h = absurd (false≢true e)

-- ---- texts

-- texts are alike where their data are
alike : {A : Type 0} (kind : ℕ) (x y : Data) (a b : Vec ℕ A) → ReadsBack kind x → ReadsBack kind y → a.items ≡ data_text x → b.items ≡ data_text y → is_eq (text_cmp a b) ≡ data_eq x y
alike kind x y a b read_x read_y is_a is_b =
    let one : (u v : Data) → data_text u ≡ data_text v → ReadsBack kind u → ReadsBack kind v → u ≡ v = λ u v e read_u read_v. some_same (sym read_u ∙ ap (λ (text : List ℕ). data_in kind text) e ∙ read_v) in
    elim (cases_Bool (data_eq x y)) [
      | inl same ↦
          let texts : a.items ≡ b.items = is_a ∙ ap data_text (data_eq_exact x y same) ∙ sym is_b in
          is_eq-slice_cmp a.items b.items ∙ (bytes_eq-Decides a.items b.items).1 texts ∙ sym same
      | inr apart ↦ elim (cases_Bool (is_eq (text_cmp a b))) [
        | inl hit ↦
            let texts : a.items ≡ b.items = (bytes_eq-Decides a.items b.items).0 (sym (is_eq-slice_cmp a.items b.items) ∙ hit) in
            let same : x ≡ y = one x y (sym is_a ∙ texts ∙ is_b) read_x read_y in
            absurd (false≢true (sym apart ∙ subst (λ (z : Data). data_eq x z ≡ true) same (data_eq_itself x)))
        | inr miss ↦ miss ∙ sym apart
      ]
    ]

either : (a b : Bool) → cond a true b ≡ (b || a)
either true true = refl
either true false = refl
either false true = refl
either false false = refl

-- a set of texts and the data, with one datum more
pub texts_added : {A : Type 0} (kind : ℕ) (texts after : BTreeSet (Vec ℕ A)) (known all : List Data) (new : Data) (text : Vec ℕ A) → HasTexts kind texts known → ReadsBack kind new → text.items ≡ data_text new
    → Updates text_cmp texts after text true → all ≡ known ++ new ∷ [] → HasTexts kind after all
texts_added {A} kind texts after known all new text h read is updates e datum q read_q is_q =
    let more : is_among data_eq (known ++ new ∷ []) datum ≡ (is_among data_eq known datum || data_eq new datum) =
    list_any-append (λ d. data_eq d datum) known (new ∷ []) ∙ ap (λ b. is_among data_eq known datum || b) (or-false (data_eq new datum)) in
    updates.0 q ∙ ap (λ b. cond b true (contains text_cmp texts q)) (alike kind new datum text q read read_q is is_q)
    ∙ ap (λ b. cond (data_eq new datum) true b) (h datum q read_q is_q)
    ∙ either (data_eq new datum) (is_among data_eq known datum) ∙ sym more ∙ ap (λ (ds : List Data). is_among data_eq ds datum) (sym e)

-- a datum is among the first or among those after them
in_parts : (n : ℕ) (known : List Data) (datum : Data) → is_among data_eq known datum ≡ (is_among data_eq (take n known) datum || is_among data_eq (drop n known) datum)
in_parts n known datum = ap (λ (ds : List Data). is_among data_eq ds datum) (sym (take-append-drop n known)) ∙ list_any-append (λ d. data_eq d datum) (take n known) (drop n known)

-- where the first are all, or have it, or have it not
pub all_first : (n : ℕ) (known : List Data) (datum : Data) → length known ≤ n → is_among data_eq known datum ≡ is_among data_eq (take n known) datum
all_first n known datum less =
    in_parts n known datum ∙ ap (λ (ds : List Data). is_among data_eq (take n known) datum || is_among data_eq ds datum) (drop_of_length-le known less) ∙ or-false (is_among data_eq (take n known) datum)

pub first_has : (n : ℕ) (known : List Data) (datum : Data) → is_among data_eq (take n known) datum ≡ true → is_among data_eq known datum ≡ true
first_has n known datum e = in_parts n known datum ∙ ap (λ b. b || is_among data_eq (drop n known) datum) e

pub first_lacks : (n : ℕ) (known : List Data) (datum : Data) → is_among data_eq (take n known) datum ≡ false → is_among data_eq known datum ≡ is_among data_eq (drop n known) datum
first_lacks n known datum e = in_parts n known datum ∙ ap (λ b. b || is_among data_eq (drop n known) datum) e

-- ---- one datum more

pub known_stays : (x : DataOf) (datum : Data) → is_among data_eq x.data_in datum ≡ true → x ≡ added x datum
known_stays x datum e =
    let with_data : List Data → DataOf = λ ds. record { kind = x.kind; data_in = ds } in
    ap (λ b. with_data (cond b x.data_in (x.data_in ++ datum ∷ []))) (sym e)

pub newly_added : (x y : DataOf) (datum : Data) → y.kind ≡ x.kind → is_among data_eq x.data_in datum ≡ false → y.data_in ≡ x.data_in ++ datum ∷ [] → y ≡ added x datum
newly_added x y datum kinds apart more =
    let whole : ℕ → List Data → DataOf = λ k ds. record { kind = k; data_in = ds } in
    ap (λ (k : ℕ). whole k y.data_in) kinds ∙ ap (λ (ds : List Data). whole x.kind ds) more
    ∙ ap (λ b. whole x.kind (cond b x.data_in (x.data_in ++ datum ∷ []))) (sym apart)

-- the data after the first n, where one is pushed after them
pub behind_pushed : (n : ℕ) (known all : List Data) (datum : Data) → n ≤ length known → all ≡ known ++ datum ∷ [] → drop n all ≡ drop n known ++ datum ∷ []
behind_pushed n known all datum enough e = ap (λ (ds : List Data). drop n ds) e ∙ drop-append-le n known (datum ∷ []) enough

-- and where none is
pub none_behind : {A : Type 0} (kind n : ℕ) (texts : BTreeSet (Vec ℕ A)) (known all : List Data) → length known ≤ n → length all ≤ n → HasTexts kind texts (drop n known) → HasTexts kind texts (drop n all)
none_behind kind n texts known all before after h =
    subst (λ (ds : List Data). HasTexts kind texts ds) (drop_of_length-le known before ∙ sym (drop_of_length-le all after)) h
