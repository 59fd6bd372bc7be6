-- What connections keep beyond what each may keep at rest, as they are taken out of a slab and put back.
use Rattle.std.proofs.Common.{◌≡◌, ◌≤◌, ◌+◌, ℕ, Some, ap, refl, sym, arith}
use Rattle.std.specs.Prelude.{◌-◌, None}
use Rattle.slab.specs.Slab.{Slab, Updates, get}
use Rattle.flight.proofs.Summing.{one_summed, part_of_sum}
use Rattle.front.specs.declared.tcp.owed_replies.TheConstants.{MOST_AT_REST}
use Rattle.front.specs.Connections.{ConnectionState}
use Rattle.front.specs.Memory.{AreWithin, MayKeep, beyond_all, beyond_in}

module _ {S : Type 0} (old new : Slab (ConnectionState S)) (key : ℕ) (connection : ConnectionState S) where
  -- One that is put in is added,
  pub one_kept : get old key ≡ None → Updates old new key (Some connection) → beyond_all new.slots ≡ beyond_all old.slots + (connection.kept - MOST_AT_REST)
  one_kept vacant updates = one_summed (beyond_in {S = S}) refl old.slots new.slots key connection vacant updates.changed updates.others

  -- and the bound holds if it may be kept.
  pub within_with : (beyond more : ℕ) → AreWithin old.slots beyond → get old key ≡ None → Updates old new key (Some connection) → MayKeep connection.kept old.slots → more ≡ connection.kept - MOST_AT_REST
      → AreWithin new.slots (beyond + more)
  within_with beyond more within vacant updates may is = record {
    sum = omega (arith, within.sum, is, one_kept vacant updates);
    most = omega (arith, within.sum, is, may);
  }

  -- One that is taken out is taken off,
  pub one_less : get old key ≡ Some connection → Updates old new key None → beyond_all old.slots ≡ beyond_all new.slots + (connection.kept - MOST_AT_REST)
  one_less was updates = one_summed (beyond_in {S = S}) refl new.slots old.slots key connection updates.changed was (λ other differs. sym (updates.others other differs))

  -- and the bound holds.
  pub within_without : (beyond less : ℕ) → AreWithin old.slots beyond → get old key ≡ Some connection → Updates old new key None → less ≡ connection.kept - MOST_AT_REST → AreWithin new.slots (beyond - less)
  within_without beyond less within was updates is = record {
    sum = omega (arith, within.sum, is, one_less was updates);
    most = omega (arith, within.most);
  }

  -- It may be kept again.
  pub may_keep_again : (beyond : ℕ) → AreWithin old.slots beyond → get old key ≡ Some connection → Updates old new key None → MayKeep connection.kept new.slots
  may_keep_again beyond within was updates = omega (arith, within.sum, within.most, one_less was updates)

-- One keeps no more beyond that than all.
pub no_more_than_all : {S : Type 0} (slab : Slab (ConnectionState S)) (key beyond : ℕ) (connection : ConnectionState S) → AreWithin slab.slots beyond → get slab key ≡ Some connection → connection.kept - MOST_AT_REST ≤ beyond
no_more_than_all {S = S} slab key beyond connection within here = omega (arith, within.sum, part_of_sum (beyond_in {S = S}) refl slab.slots key, ap (beyond_in {S = S}) here)
