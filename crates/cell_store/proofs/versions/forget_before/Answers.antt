use Rattle.cell_store.proofs.CountLaws.{forgot_finds}
use Rattle.std.proofs.Common.{ℕ, List, length, length-drop, sym, ap, subst, arith}
use Rattle.std.specs.List.{AllByRecursion}
use Rattle.cell_store.specs.declared.version.Version.{Version}
use Rattle.cell_store.specs.Slots.{IsWithin}
use Rattle.cell_store.specs.Version.{lowered}
use Rattle.cell_store.proofs.ColumnLaws.{length_map}
use Rattle.cell_store.proofs.DifferLaws.{differ_forgot}
use Rattle.cell_store.proofs.EntryLaws.{ranked_forgot}
use Rattle.cell_store.proofs.ForgetLaws.{forgot_place, forgot_later, lower_within, drop_within, forgot_starts}
use Rattle.cell_store.proofs.versions.forget_before.Goals as goal

pub returns-clause-places : goal.returns-clause-places
returns-clause-places c =
    forgot_place c.args.number c.args.versions.now.items c.lower_each.new.versions.items c.deref.result.now c.drop_front.new.versions.items c.last_start-before.result
    c.lower_each.ensures c.deref.ensures.0 c.last_start-before.ensures.within c.last_start-before.ensures.start c.drop_front.ensures

pub returns-clause-starts : goal.returns-clause-starts
returns-clause-starts c = (
  forgot_starts c.lower_each.new.versions.items c.deref.result.now c.drop_front.new.versions.items c.last_start-before.result
      c.deref.ensures.0 c.last_start-before.ensures.within c.last_start-before.ensures.start c.drop_front.ensures,
  forgot_later c.args.number c.args.versions.now.items c.lower_each.new.versions.items c.deref.result.now c.drop_front.new.versions.items c.last_start-before.result
      c.lower_each.ensures c.deref.ensures.0 c.last_start-before.ensures.last c.drop_front.ensures,
)

pub returns-clause-drops : goal.returns-clause-drops
returns-clause-drops c =
    let number = c.args.number in
    let last = c.last_start-before.result in
    let old = c.args.versions.now.items in
    let middle = c.lower_each.new.versions.items in
    let new = c.drop_front.new.versions.items in
    record {
      within = λ slots all. subst (λ (l : List (Version ℕ)). AllByRecursion (IsWithin slots) l) (sym c.drop_front.ensures)
          (drop_within (IsWithin slots) middle last
          (subst (λ (l : List (Version ℕ)). AllByRecursion (IsWithin slots) l) (sym c.lower_each.ensures) (lower_within slots number old all)));
      fewer = omega (arith, ap length c.drop_front.ensures, length-drop last middle, ap length c.lower_each.ensures, length_map (lowered number) old);
      finds = forgot_finds number last old middle new c.lower_each.ensures c.drop_front.ensures;
      ranked = ranked_forgot number last old middle new c.lower_each.ensures c.drop_front.ensures;
    }

pub returns-clause-differ : goal.returns-clause-differ
returns-clause-differ c = differ_forgot c.args.number c.last_start-before.result c.args.versions.now.items c.lower_each.new.versions.items c.drop_front.new.versions.items c.lower_each.ensures c.drop_front.ensures
