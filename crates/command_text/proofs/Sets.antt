-- What each of some texts stands for, text by text.
use Rattle.std.proofs.Common.{◌≡◌, ℕ, List, [], ◌∷◌, ◌++◌, Option, Some, None, Ok, Err, refl, sym, ap, ◌∙◌, append_assoc}
use Rattle.std.proofs.lemmas.List.{append-nil}
use Rattle.dns_name.specs.Options.{◌>>=◌ as ◌>>=?◌}
use Rattle.dns_name.specs.Results.{or_fault, GivesBut}
use Rattle.dns_name.specs.ResultLaws.{or_fault-ok, or_fault-err}
use Rattle.command_text.specs.declared.fault.LineFault.{LineFault}
use Rattle.command_text.specs.declared.fault.LineFault.TheVariants.{NoMemory}
use Rattle.command_text.specs.Parts.{each_in}

-- what is read before others
abbrev pub behind : {A : Type 0} → List A → Option (List A) → Option (List A)
behind items None = None
behind items (Some others) = Some (items ++ others)

pub behind-nothing : {A : Type 0} (o : Option (List A)) → o ≡ behind [] o
behind-nothing None = refl
behind-nothing (Some others) = refl

abbrev onto : {A : Type 0} → A → Option (List A) → Option (List A)
onto x None = None
onto x (Some others) = Some (x ∷ others)

behind-more : {A : Type 0} (items : List A) (x : A) (o : Option (List A)) → behind items (onto x o) ≡ behind (items ++ x ∷ []) o
behind-more items x None = refl
behind-more {A} items x (Some others) = ap (λ (l : List A). Some l) (sym (append_assoc items (x ∷ []) others))

abbrev step : {A : Type 0} → Option A → Option (List A) → Option (List A)
step None o = None
step (Some x) o = onto x o

step-is-by : {A : Type 0} (o : Option A) (others : Option (List A)) → (o >>=? λ x. others >>=? λ more. Some (x ∷ more)) ≡ step o others
step-is-by None others = refl
step-is-by (Some x) None = refl
step-is-by (Some x) (Some more) = refl

step-is : {A : Type 0} (read : List ℕ → Option A) (text : List ℕ) (texts : List (List ℕ)) → each_in read (text ∷ texts) ≡ step (read text) (each_in read texts)
unfolding each_in
step-is read text texts = step-is-by (read text) (each_in read texts)

-- one text more is read
pub one-more : {A : Type 0} (told : LineFault) (read : List ℕ → Option A) (text : List ℕ) (texts : List (List ℕ)) (items : List A) (x : A) (whole : Option (List A))
    → whole ≡ behind items (each_in read (text ∷ texts)) → or_fault told (read text) ≡ Ok x → whole ≡ behind (items ++ x ∷ []) (each_in read texts)
one-more {A} told read text texts items x whole is one =
    is ∙ ap (λ (o : Option (List A)). behind items o) (step-is read text texts ∙ ap (λ (o : Option A). step o (each_in read texts)) (or_fault-ok told (read text) x one))
    ∙ behind-more items x (each_in read texts)

-- no text is left
pub no-more : {A : Type 0} (told : LineFault) (read : List ℕ → Option A) (items : List A) (whole : Option (List A)) → whole ≡ behind items (each_in read []) → or_fault told whole ≡ Ok items
unfolding each_in
no-more {A} told read items whole is = ap (λ (o : Option (List A)). or_fault told o) is ∙ ap (λ (l : List A). Ok l) (append-nil items)

-- the last text is read
pub last-one : {A : Type 0} (told : LineFault) (read : List ℕ → Option A) (text : List ℕ) (items : List A) (x : A) (whole : Option (List A))
    → whole ≡ behind items (each_in read (text ∷ [])) → or_fault told (read text) ≡ Ok x → or_fault told whole ≡ Ok (items ++ x ∷ [])
last-one told read text items x whole is one = no-more told read (items ++ x ∷ []) whole (one-more told read text [] items x whole is one)

-- a text is not read
pub fails-more : {A : Type 0} (told : LineFault) (read : List ℕ → Option A) (text : List ℕ) (texts : List (List ℕ)) (items : List A) (fault : LineFault) (whole : Option (List A))
    → whole ≡ behind items (each_in read (text ∷ texts)) → GivesBut NoMemory (Err fault) (or_fault told (read text)) → GivesBut NoMemory (Err fault) (or_fault told whole)
fails-more {A} told read text texts items fault whole is one = λ other.
    let e = or_fault-err told (read text) fault (one other) in
    let none : whole ≡ None = is ∙ ap (λ (o : Option (List A)). behind items o) (step-is read text texts ∙ ap (λ (o : Option A). step o (each_in read texts)) e.0) in
    ap (λ (o : Option (List A)). or_fault told o) none ∙ ap (λ (f : LineFault). Err f) e.1
