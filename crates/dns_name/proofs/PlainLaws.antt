-- Labels of octets that are written as themselves.
use Rattle.std.proofs.Common.{◌≡◌, ℕ, true, false, List, [], ◌∷◌, ◌++◌, refl, ap, ◌∙◌}
use Rattle.std.specs.List.{flat_map, list_all}
use Rattle.std.specs.Char.{is_ascii_graphic}
use Rattle.std.proofs.lemmas.Bool.{and_parts, not-true}
use Rattle.dns_name.specs.Text.{is_plain, is_special, octet_text}

plain_octet : (b : ℕ) → is_plain b ≡ true → octet_text b ≡ b ∷ []
plain_octet b plain =
    let parts = and_parts _ _ plain in
    let graphic : is_ascii_graphic b ≡ true = parts.0 in
    let other : is_special b ≡ false = not-true _ parts.1 in
    rw (other, graphic) refl

pub plain_text : (label : List ℕ) → list_all is_plain label ≡ true → flat_map octet_text label ≡ label
plain_text [] plain = refl
plain_text (b ∷ label) plain =
    let parts = and_parts _ _ plain in
    let one : octet_text b ≡ b ∷ [] = plain_octet b parts.0 in
    let more : flat_map octet_text label ≡ label = plain_text label parts.1 in
    ap (λ (x : List ℕ). x ++ flat_map octet_text label) one ∙ ap (λ (x : List ℕ). b ∷ x) more
