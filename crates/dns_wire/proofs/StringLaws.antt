-- Strings preceded by their lengths.
use Rattle.std.proofs.Common.{◌≡◌, ◌≢◌, Bool, true, false, ℕ, zero, suc, ◌<◌, ◌≤◌, List, [], ◌∷◌, ◌++◌, length, take, drop, Option, Some, None, Ok, Err, refl, sym, ap, ◌∙◌, append_assoc, inl, inr, ltb, arith, length-append, length-drop}
use Rattle.std.specs.List.{flat_map}
use Rattle.std.specs.Prelude.{◌↔◌, IsTrue, is_ok}
use Rattle.std.proofs.lemmas.Bool.{cases_Bool, false≢true, le-ltb, ltb-false}
use Rattle.std.proofs.lemmas.List.{append-nil, length-take, take-append-drop, take_at, drop_at}
use Rattle.dns_name.specs.Labels.{labels_in, spelled, with_length}
use Rattle.dns_name.specs.Octets.{labels_in-spelled}
use Rattle.dns_text.specs.Strings.{SpellStrings, strings_of}
use Rattle.dns_text.specs.declared.record.Data.TheVariants.{Txt}
use Rattle.dns_wire.specs.declared.fault.WireFault.TheVariants.{BadData}
use Rattle.dns_wire.specs.Read.Rdata.{first_string, strings_by, strings_after, txt_by}

-- what is read on with has fewer octets
first_string-shorter : (octets : List ℕ) (x : List ℕ × List ℕ) → first_string octets ≡ Some x → length x.1 < length octets
first_string-shorter [] x h = absurd cc
first_string-shorter (n ∷ octets) x h =
    elim (cases_Bool (ltb (length octets) n)) [
      | inl short ↦ absurd (let e : None ≡ Some x = (rw short at h) in cc)
      | inr fits ↦
          let e : Some (take n octets, drop n octets) ≡ Some x = rw fits at h in
          let f : (take n octets, drop n octets) ≡ x = cc in
          rw (← f) (omega (arith, length-drop n octets))
    ]

-- More steps than octets are enough, however many.
strings_steps : (a b : ℕ) (before : List (List ℕ)) (octets : List ℕ) → length octets < a → length octets < b → strings_after a before octets ≡ strings_after b before octets
unfolding strings_after
strings_steps zero b before octets enough_a enough_b = absurd (omega arith)
strings_steps (suc a) zero before octets enough_a enough_b = absurd (omega arith)
strings_steps (suc a) (suc b) before [] enough_a enough_b = refl
strings_steps (suc a) (suc b) before (n ∷ octets) enough_a enough_b =
    elim (cases_Bool (ltb (length octets) n)) [
      | inl short ↦ rw short refl
      | inr fits ↦ rw fits (strings_steps a b (before ++ take n octets ∷ []) (drop n octets) (omega (arith, length-drop n octets)) (omega (arith, length-drop n octets)))
    ]

strings_done : (before : List (List ℕ)) (octets : List ℕ) → length octets ≡ 0 → strings_after (suc (length octets)) before octets ≡ Some before
unfolding strings_after
strings_done before [] e = refl
strings_done before (n ∷ octets) e = absurd (omega arith)

strings_one : (before : List (List ℕ)) (octets : List ℕ) (x : List ℕ × List ℕ) → first_string octets ≡ Some x → strings_after (suc (length octets)) before octets ≡ strings_after (suc (length x.1)) (before ++ x.0 ∷ []) x.1
unfolding strings_after
strings_one before [] x here = absurd cc
strings_one before (n ∷ octets) x here =
    let less = first_string-shorter (n ∷ octets) x here in
    rw here (strings_steps (length (n ∷ octets)) (suc (length x.1)) (before ++ x.0 ∷ []) x.1 less (omega arith))

-- ---- the strings that octets are

first_string-front : (string : List ℕ) (rest : List ℕ) → first_string (with_length string ++ rest) ≡ Some (string, rest)
first_string-front string rest =
    rw (le-ltb (length (string ++ rest)) (length string) (omega (arith, length-append string rest)), take_at string rest (length string) refl, drop_at string rest (length string) refl) refl

after_spelled : (before strings : List (List ℕ)) → strings_after (suc (length (flat_map with_length strings))) before (flat_map with_length strings) ≡ Some (before ++ strings)
after_spelled before [] = strings_done before [] refl ∙ ap (λ x. Some x) (sym (append-nil before))
after_spelled before (string ∷ strings) =
    let rest : List ℕ = flat_map with_length strings in
    let one = strings_one before (with_length string ++ rest) (string, rest) (first_string-front string rest) in
    one ∙ after_spelled (before ++ string ∷ []) strings ∙ ap (λ x. Some x) (append_assoc before (string ∷ []) strings)

-- Strings that octets spell are found in them.
pub strings_spelled : (strings : List (List ℕ)) (octets : List ℕ) → octets ≡ flat_map with_length strings → strings_after (suc (length octets)) [] octets ≡ Some strings
strings_spelled strings octets is = rw is (after_spelled [] strings)

first_string-is : (octets : List ℕ) (x : List ℕ × List ℕ) → first_string octets ≡ Some x → octets ≡ with_length x.0 ++ x.1
first_string-is [] x h = absurd cc
first_string-is (n ∷ octets) x h =
    elim (cases_Bool (ltb (length octets) n)) [
      | inl short ↦ absurd (let e : None ≡ Some x = (rw short at h) in cc)
      | inr fits ↦
          let e : Some (take n octets, drop n octets) ≡ Some x = rw fits at h in
          let f : (take n octets, drop n octets) ≡ x = cc in
          let enough : n ≤ length octets = ltb-false (length octets) n fits in
          let long : length (take n octets) ≡ n = omega (arith, length-take n octets) in
          rw (← f, long) (ap (λ (o : List ℕ). n ∷ o) (sym (take-append-drop n octets)))
    ]

-- strings that were found after those before
record Finds (before : List (List ℕ)) (octets : List ℕ) (strings : List (List ℕ)) : Type 0 where
  found : List (List ℕ)
  is : strings ≡ before ++ found
  spelled : octets ≡ flat_map with_length found

found_behind : (before : List (List ℕ)) (octets : List ℕ) (strings : List (List ℕ)) (go : List (List ℕ) → List ℕ → Option (List (List ℕ))) → ((b : List (List ℕ)) (o : List ℕ) → go b o ≡ Some strings → Finds b o strings) → (o : Option (List ℕ × List ℕ)) → first_string octets ≡ o → strings_by before go o ≡ Some strings → Finds before octets strings
found_behind before octets strings go finds None here h = absurd cc
found_behind before octets strings go finds (Some x) here h =
    let more = finds (before ++ x.0 ∷ []) x.1 h in
    record {
      found = x.0 ∷ more.found;
      is = more.is ∙ append_assoc before (x.0 ∷ []) more.found;
      spelled = first_string-is octets x here ∙ ap (λ (o : List ℕ). with_length x.0 ++ o) more.spelled;
    }

found_by : (steps : ℕ) (before : List (List ℕ)) (octets : List ℕ) (strings : List (List ℕ)) → strings_after steps before octets ≡ Some strings → Finds before octets strings
unfolding strings_after
found_by zero before octets strings h = absurd cc
found_by (suc steps) before [] strings h = let e : before ≡ strings = cc in record { found = []; is = sym (append-nil before ∙ e); spelled = refl }
found_by (suc steps) before (n ∷ octets) strings h =
    found_behind before (n ∷ octets) strings (λ b o. strings_after steps b o) (λ b o e. found_by steps b o strings e) (first_string (n ∷ octets)) refl h

-- Octets in which strings are found spell them.
pub strings_found : (strings : List (List ℕ)) (octets : List ℕ) → strings_after (suc (length octets)) [] octets ≡ Some strings → octets ≡ flat_map with_length strings
strings_found strings octets h =
    let all = found_by (suc (length octets)) [] octets strings h in
    rw all.is all.spelled

-- ---- TXT data of octets

-- no octets are no strings
pub txt_nothing : (at : ℕ) (octets : List ℕ) → length octets ≡ 0 → txt_by at (strings_after (suc (length octets)) [] octets) ≡ Err (BadData at)
txt_nothing at octets none = rw (strings_done [] octets none) refl

pub txt_spelled : (at : ℕ) (octets : List ℕ) (strings : List (List ℕ)) → octets ≡ flat_map with_length strings → ¬ (length octets ≡ 0) → txt_by at (strings_after (suc (length octets)) [] octets) ≡ Ok (Txt strings)
txt_spelled at octets [] is some = absurd (some (ap length is))
txt_spelled at octets (string ∷ strings) is some = rw (strings_spelled (string ∷ strings) octets is) refl

txt_unless : (at : ℕ) (octets : List ℕ) (found : Option (List (List ℕ))) → strings_after (suc (length octets)) [] octets ≡ found → ((strings : List (List ℕ)) → octets ≢ flat_map with_length strings) → txt_by at found ≡ Err (BadData at)
txt_unless at octets None here none = refl
txt_unless at octets (Some strings) here none = absurd (none strings (strings_found strings octets here))

-- octets that no strings spell
pub txt_other : (at : ℕ) (octets : List ℕ) → ((strings : List (List ℕ)) → octets ≢ flat_map with_length strings) → txt_by at (strings_after (suc (length octets)) [] octets) ≡ Err (BadData at)
txt_other at octets none = txt_unless at octets _ refl none

-- octets are TXT data exactly if they spell strings, and are not empty
pub txt_exactly : (at : ℕ) (octets : List ℕ) (r : Bool) → IsTrue r ↔ SpellStrings octets → ¬ (length octets ≡ 0) → r ≡ is_ok (txt_by at (strings_after (suc (length octets)) [] octets))
txt_exactly at octets true h some = rw (txt_spelled at octets (strings_of octets) (sym (h.0 refl)) some) refl
txt_exactly at octets false h some =
    let none = txt_other at octets (λ strings is. false≢true (h.1 (ap (λ (x : List (List ℕ)). spelled x) (ap labels_in is ∙ labels_in-spelled strings) ∙ sym is))) in
    rw none refl
