use Rattle.std.proofs.Common.{◌≡◌, drop}
use Rattle.std.specs.List.{filter_map, fold}
use Rattle.dns_name.specs.Order.{name_eq}
use Rattle.ranked.specs.Set.{with_datum}
use Rattle.dns_query.specs.Indexed.{HasEach}
use Rattle.dns_query.specs.Referral.{target_in, targets_in}
use Rattle.dns_query.proofs.servers.targets_in.Given as goal

-- those so far, with those to come
abbrev pub invariant-loop-r : goal.invariant-loop-r
invariant-loop-r l = record {
  so_far : fold (with_datum name_eq) l.targets.items (filter_map target_in (drop l.r-index l.section)) ≡ targets_in l.section;
  seen : HasEach l.seen l.targets.items;
}
