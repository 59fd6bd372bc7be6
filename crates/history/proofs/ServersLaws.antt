-- The name is at or below the zone whose servers are asked about it.
use Rattle.std.proofs.Common.{◌≡◌, ℕ, Bool, true, false, cond, Option, Some, None, List, [], ◌∷◌, ◌++◌, refl, sym, ◌∙◌, ap}
use Rattle.std.specs.Prelude.{unwrap_or}
use Rattle.std.specs.Option.{option_map, option_or}
use Rattle.std.proofs.lemmas.List.{append-nil}
use Rattle.dns_name.specs.Labels.{Labels, IsAtOrBelow}
use Rattle.dns_name.specs.Closest.{closest_with}
use Rattle.stub_table.specs.declared.stub.Stub.{Stub}
use Rattle.stub_table.specs.Closest.{stub_named}
use Rattle.history.specs.declared.event.Settings.{Settings}
use Rattle.history.specs.declared.servers.Servers.{Servers}
use Rattle.history.specs.History.{Past, stubs_of}
use Rattle.history.specs.Cells.{shows}
use Rattle.history.specs.Servers.{servers_at, servers_in_hints, servers_in_stub, servers_of}

-- what is there where it is usable
zone_where : (usable : Bool) (there found : Servers) → cond usable (Some there) None ≡ Some found → found.zone ≡ there.zone
zone_where true there found is = let same : there ≡ found = cc in ap (λ (s : Servers). s.zone) (sym same)
zone_where false there found is = absurd cc

-- what a name has is for its own zone
zone_at : (name : Labels) (stub : Option Stub) (usable : Bool) (there found : Servers) → there.zone ≡ name
    → option_or (option_map (servers_in_stub name) stub) (cond usable (Some there) None) ≡ Some found → found.zone ≡ name
zone_at name None usable there found own is = zone_where usable there found is ∙ own
zone_at name (Some stub) usable there found own is = let same : servers_in_stub name stub ≡ found = cc in ap (λ (s : Servers). s.zone) (sym same)

-- a zone that has servers itself, or is above one that has none
one_above : (label : List ℕ) (name : Labels) (own above : Option Servers) → ((found : Servers) → own ≡ Some found → found.zone ≡ label ∷ name)
    → ((found : Servers) → above ≡ Some found → IsAtOrBelow name found.zone)
    → (found : Servers) → option_or own above ≡ Some found → IsAtOrBelow (label ∷ name) found.zone
one_above label name None above itself higher found is = let more = higher found is in (label ∷ more.0, ap (λ (n : Labels). label ∷ n) more.1)
one_above label name (Some own) above itself higher found is = ([], sym (itself found is))

zone_of_closest : (has : Labels → Option Servers) → ((name : Labels) (found : Servers) → has name ≡ Some found → found.zone ≡ name)
    → (name : Labels) (found : Servers) → closest_with has name ≡ Some found → IsAtOrBelow name found.zone
zone_of_closest has own [] found is = ([], sym (own [] found is))
zone_of_closest has own (label ∷ name) found is = one_above label name (has (label ∷ name)) (closest_with has name) (own (label ∷ name)) (zone_of_closest has own name) found is

or_root : (name : Labels) (closest : Option Servers) (root : Servers) → root.zone ≡ [] → ((found : Servers) → closest ≡ Some found → IsAtOrBelow name found.zone)
    → IsAtOrBelow name (unwrap_or closest root).zone
or_root name None root is below = (name, sym (ap (λ (z : Labels). name ++ z) is ∙ append-nil name))
or_root name (Some found) root is below = below found refl

pub zone_above : (settings : Settings) (past : Past) (name : Labels) (moment : ℕ) → IsAtOrBelow name (servers_of settings past name moment).zone
zone_above settings past name moment =
    let has = servers_at settings (stubs_of past) (λ question. shows past question moment) in
    or_root name (closest_with has name) (servers_in_hints settings) refl
    (zone_of_closest has (λ n found is. zone_at n (stub_named (stubs_of past) n) _ _ found refl is) name)
