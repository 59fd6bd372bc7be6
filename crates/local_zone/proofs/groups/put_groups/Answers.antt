use Rattle.std.proofs.Common.{◌≡◌, ◌<◌, ℕ, zero, suc, true, [], ◌++◌, None, length, refl, subst, arith}
use Rattle.std.specs.Prelude.{is_some}
use Rattle.std.proofs.lemmas.Bool.{false≢true}
use Rattle.indexmap.specs.IndexMap.{spare}
use Rattle.local_zone.specs.Index.{IsGrouped}
use Rattle.local_zone.proofs.GroupLaws.{grouped_put, is_ok_of}
use Rattle.local_zone.proofs.Keyed.{items, octets, nothing}
use Rattle.local_zone.proofs.groups.put_groups.Goals as goal

pub loop-key-preserved-in-Some : goal.loop-key-preserved-in-Some
loop-key-preserved-in-Some c =
    let room : 0 < spare c.loop-key.owners = omega (arith, c.loop-key.invariant.room, c.in-Some.ensures.len) in
    let updates = is_ok_of c.insert.result (c.insert.ensures.succeeds room) c.insert.ensures.updates in
    record {
      index = λ records h.
          grouped_put octets items c.pop.new.self.entries c.loop-key.owners.entries c.insert.new.self.entries c.in-Some.key c.in-Some.records updates.1 updates.3 records
          (subst (λ gs. IsGrouped octets items records (gs ++ c.loop-key.owners.entries)) c.in-Some.ensures.entries (c.loop-key.invariant.index records h));
      room = omega (arith, c.loop-key.invariant.room, c.in-Some.ensures.len, c.insert.ensures.spare);
    }

pub loop-key-preserved-in-Some-2 : goal.loop-key-preserved-in-Some-2
loop-key-preserved-in-Some-2 c =
    let room : 0 < spare c.loop-key.owners = omega (arith, c.loop-key.invariant.room, c.in-Some.ensures.len) in
    let updates = is_ok_of c.insert.result (c.insert.ensures.succeeds room) c.insert.ensures.updates in
    record {
      index = λ records h.
          grouped_put octets items c.pop.new.self.entries c.loop-key.owners.entries c.insert.new.self.entries c.in-Some.key c.in-Some.records updates.1 updates.3 records
          (subst (λ gs. IsGrouped octets items records (gs ++ c.loop-key.owners.entries)) c.in-Some.ensures.entries (c.loop-key.invariant.index records h));
      room = omega (arith, c.loop-key.invariant.room, c.in-Some.ensures.len, c.insert.ensures.spare);
    }

pub loop-key-preserved-in-Some-3 : goal.loop-key-preserved-in-Some-3
loop-key-preserved-in-Some-3 c =
    let room : 0 < spare c.loop-key.owners = omega (arith, c.loop-key.invariant.room, c.in-Some.ensures.len) in
    let updates = is_ok_of c.insert.result (c.insert.ensures.succeeds room) c.insert.ensures.updates in
    record {
      index = λ records h.
          grouped_put octets items c.pop.new.self.entries c.loop-key.owners.entries c.insert.new.self.entries c.in-Some.key c.in-Some.records updates.1 updates.3 records
          (subst (λ gs. IsGrouped octets items records (gs ++ c.loop-key.owners.entries)) c.in-Some.ensures.entries (c.loop-key.invariant.index records h));
      room = omega (arith, c.loop-key.invariant.room, c.in-Some.ensures.len, c.insert.ensures.spare);
    }

pub loop-key-preserved-in-Some-4 : goal.loop-key-preserved-in-Some-4
loop-key-preserved-in-Some-4 c =
    let room : 0 < spare c.loop-key.owners = omega (arith, c.loop-key.invariant.room, c.in-Some.ensures.len) in
    let updates = is_ok_of c.insert.result (c.insert.ensures.succeeds room) c.insert.ensures.updates in
    record {
      index = λ records h.
          grouped_put octets items c.pop.new.self.entries c.loop-key.owners.entries c.insert.new.self.entries c.in-Some.key c.in-Some.records updates.1 updates.3 records
          (subst (λ gs. IsGrouped octets items records (gs ++ c.loop-key.owners.entries)) c.in-Some.ensures.entries (c.loop-key.invariant.index records h));
      room = omega (arith, c.loop-key.invariant.room, c.in-Some.ensures.len, c.insert.ensures.spare);
    }

none_found : (n : ℕ) → (0 < n → is_some {T = ℕ} None ≡ true) → n ≡ 0
none_found zero h = refl
none_found (suc n) h = absurd (false≢true (h (omega arith)))

pub returns : goal.returns
returns c records h =
    let none : c.loop-key.groups.entries ≡ [] = nothing c.loop-key.groups.entries (none_found (length c.loop-key.groups.entries) c.in_default.ensures.found.1) in
    subst (λ gs. IsGrouped octets items records (gs ++ c.loop-key.owners.entries)) none (c.loop-key.invariant.index records h)
