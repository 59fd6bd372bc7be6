-- The data of an owner, and the answers of a static and a transparent zone that have none of the type.
use Rattle.std.proofs.Common.{◌≡◌, ◌<◌, ◌≤◌, Bool, true, false, cond, List, [], ◌∷◌, ◌==◌, length, Option, Some, None, refl, ap, sym, ◌∙◌, arith}
use Rattle.std.proofs.lemmas.Bool.{eqb-true, false≢true, le-ltb, lt-ltb}
use Rattle.dns_text.specs.declared.record.Question.{Question}
use Rattle.dns_text.specs.declared.record.Record.{Record}
use Rattle.local_zone.specs.declared.local_answer.Local.TheVariants as local
use Rattle.local_zone.specs.declared.zone.Zone.{Zone}
use Rattle.local_zone.specs.Answer.{absent_in, absent_or_pass, data_or, has_record, has_record_below, in_static, in_transparent, soa_of}
use Rattle.local_zone.specs.Closest.{closest}
use Rattle.local_zone.specs.Count.{count_of}
use Rattle.local_zone.specs.Show.{data_shown, or_list}
use Rattle.local_zone.specs.Tables.{Tables}
use Rattle.local_zone.proofs.CountLaws.{below_counts}

-- ---- the data of an owner

pub or_first : (xs ys : List Record) → (length xs == 0) ≡ false → xs ≡ or_list xs ys
or_first [] ys e = absurd (false≢true (sym e))
or_first (x ∷ xs) ys e = refl

pub or_other : (xs ys : List Record) → (length xs == 0) ≡ true → ys ≡ or_list xs ys
or_other [] ys e = refl
or_other (x ∷ xs) ys e = absurd (omega (arith, eqb-true (length (x ∷ xs)) 0 e))

-- ---- no data of the type

module _ (t : Tables) (q : Question) (zone : Zone) (covers : closest t.zones q.owner ≡ Some zone) (none : None ≡ data_shown q.owner q.owner q.kind t.records) (soa : Option Record) (is : soa ≡ soa_of zone.name t.records) where
  absent_is : (b : Bool) → has_record_below q.owner zone t ≡ b → cond b (local.NoData soa) (local.NoName soa) ≡ in_static t q zone
  absent_is b e =
      ap (λ (s : Option Record). cond b (local.NoData s) (local.NoName s)) is
      ∙ ap (λ h. cond h (local.NoData (soa_of zone.name t.records)) (local.NoName (soa_of zone.name t.records))) (sym e)
      ∙ ap (λ d. data_or (absent_in t q.owner zone) d) none

  pub static_some : 0 < count_of t.zones q.owner t.records → local.NoData soa ≡ in_static t q zone
  static_some some = absent_is true (below_counts t q.owner zone covers ∙ lt-ltb 0 (count_of t.zones q.owner t.records) some)

  pub static_none : count_of t.zones q.owner t.records ≤ 0 → local.NoName soa ≡ in_static t q zone
  static_none few = absent_is false (below_counts t q.owner zone covers ∙ le-ltb 0 (count_of t.zones q.owner t.records) few)

module _ (records : List Record) (q : Question) (zone : Zone) (none : None ≡ data_shown q.owner q.owner q.kind records) where
  has_is : (b : Bool) → has_record q.owner records ≡ b → cond b (local.NoData (soa_of zone.name records)) local.Pass ≡ in_transparent records q zone
  has_is b e = ap (λ h. cond h (local.NoData (soa_of zone.name records)) local.Pass) (sym e) ∙ ap (λ d. data_or (absent_or_pass records q.owner zone) d) none

  pub transparent_some : (soa : Option Record) → soa ≡ soa_of zone.name records → has_record q.owner records ≡ true → local.NoData soa ≡ in_transparent records q zone
  transparent_some soa is e = ap (λ (s : Option Record). local.NoData s) is ∙ has_is true e

  pub transparent_none : has_record q.owner records ≡ false → local.Pass ≡ in_transparent records q zone
  transparent_none e = has_is false e
