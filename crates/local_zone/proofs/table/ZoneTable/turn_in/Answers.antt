use Rattle.std.proofs.Common.{◌≡◌, ◌||◌, ℕ, List, Some, ap, sym, subst, ◌∙◌, insert, slice_get, rules}
use Rattle.named_list.specs.declared.turn.Turn.{Turn}
use Rattle.named_list.specs.declared.turn.Turn.TheVariants.{With, Without}
use Rattle.local_zone.specs.declared.zone.Zone.{Zone}
use Rattle.local_zone.specs.Saved.{before_of, IsRemoval}
use Rattle.local_zone.specs.Tables.{AreTables, Tables}
use Rattle.named_list.specs.Turn.{other_of, puts_in, takes_out, with_at, HasPlace}
use Rattle.local_zone.specs.Added.{records_need, records_need_after}
use Rattle.local_zone.specs.Together.{MoveTogether}
use Rattle.local_zone.proofs.ImpliedLaws.{get-insert}
use Rattle.local_zone.proofs.TogetherLaws.{by_parts, moves_in}
use Rattle.local_zone.proofs.table.ZoneTable.turn_in.Goals as goal

pub invariant_of-self-in-Ok : goal.invariant_of-self-in-Ok
invariant_of-self-in-Ok c =
    let other : Tables = c.requires.takes.0 in
    let now : Tables = record { zones = c.put_zone_in.new.zones; records = c.turn_over.new.records } in
    let is : now ≡ other
    = (λ i. record { zones = c.in_ok-put_zone_in.ensures.ok i; records = c.in-Ok.ensures.turns.other i }) ∙ ap (λ (t : Tables). before_of c.args.saved.now t) c.self.view_is ∙ c.requires.takes.1.gives in
    let moves = moves_in c.args.saved.now c.self.inside.zones c.self.inside.records (by_parts c.args.saved.now c.self.inside.zones c.self.inside.records c.args.self.now c.requires.takes.0 c.self.view_is c.requires.takes.1) c.requires.puts in
    let together = subst (λ (zs : List Zone). MoveTogether c.args.saved.now.records zs c.self.inside.records) (sym c.in_ok-put_zone_in.ensures.ok) moves in
    (subst (λ (t : Tables). AreTables t) (sym is) c.requires.takes.1.sound, c.in-Ok.ensures.zoned together (c.in_ok-put_zone_in.ensures.zoned c.self.invariant.1))

pub invariant_of-self-in-Err : goal.invariant_of-self-in-Err
invariant_of-self-in-Err c =
    let before : Tables = record { zones = c.self.inside.zones; records = c.self.inside.records } in
    let now : Tables = record { zones = c.turn_zone_out.new.zones; records = c.turn_over.new.records } in
    let zones : c.turn_zone_out.new.zones ≡ c.self.inside.zones = c.turn_zone_out.ensures.list ∙ c.in_ok-put_zone_in.ensures.again.1 in
    let is : now ≡ before = λ i. record { zones = zones i; records = c.in-Err.ensures.err.0 i } in
    let moves = moves_in c.args.saved.now c.self.inside.zones c.self.inside.records (by_parts c.args.saved.now c.self.inside.zones c.self.inside.records c.args.self.now c.requires.takes.0 c.self.view_is c.requires.takes.1) c.requires.puts in
    let together = subst (λ (zs : List Zone). MoveTogether c.args.saved.now.records zs c.self.inside.records) (sym c.in_ok-put_zone_in.ensures.ok) moves in
    (subst (λ (t : Tables). AreTables t) (sym is) c.self.invariant.0, c.turn_zone_out.ensures.zoned (c.in-Err.ensures.zoned together (c.in_ok-put_zone_in.ensures.zoned c.self.invariant.1)))

-- the zone that went in comes out again, and the way is the one that it was
pub returns-in-Err-clause-err : goal.returns-in-Err-clause-err
returns-in-Err-clause-err c =
    let zones : List Zone = c.self.inside.zones in
    let way = c.in_ok-put_zone_in.ensures.without in
    let place : ℕ = way.0 in
    let zone : Zone = way.1.0 in
    let was : c.args.saved.now.zones ≡ With place zone = way.1.1.0 in
    let now : c.put_zone_in.new.turn ≡ Without place = way.1.1.1 in
    let there : HasPlace (λ (z : Zone). z.name) (With place zone) c.args.self.now.zones = subst (λ (t : Turn Zone). HasPlace (λ (z : Zone). z.name) t c.args.self.now.zones) was c.requires.takes.1.fits in
    let fits : HasPlace (λ (z : Zone). z.name) (With place zone) zones = subst (λ (t : Tables). HasPlace (λ (z : Zone). z.name) (With place zone) t.zones) (sym c.self.view_is) there in
    let list : c.put_zone_in.new.zones ≡ insert zones place zone = c.in_ok-put_zone_in.ensures.ok ∙ ap (λ (t : Turn Zone). other_of t zones) was in
    let got : slice_get c.put_zone_in.new.zones place ≡ Some zone = ap (λ (zs : List Zone). slice_get zs place) list ∙ get-insert zones place zone fits in
    let back : c.turn_zone_out.new.turn ≡ c.args.saved.now.zones = c.turn_zone_out.ensures.taken place now ∙ ap (with_at place) got ∙ sym was in
    let same : c.turn_zone_out.new.zones ≡ zones = c.turn_zone_out.ensures.list ∙ c.in_ok-put_zone_in.ensures.again.1 in
    ((λ i. record { zones = same i; records = c.in-Err.ensures.err.0 i }) ∙ c.self.view_is, λ i. record { zones = back i; records = c.in-Err.ensures.err.1 i })

-- a zone that is put in needs memory, and none when it is taken out again
pub returns-in-Ok-clause-turns : goal.returns-in-Ok-clause-turns
returns-in-Ok-clause-turns c =
    let way = c.requires.takes.1 in
    let turns = c.in-Ok.ensures.turns in
    let turned = turns.turned in
    let now : Tables = record { zones = c.put_zone_in.new.zones; records = c.turn_over.new.records } in
    let other : now ≡ before_of c.args.saved.now c.args.self.now
    = (λ i. record { zones = c.in_ok-put_zone_in.ensures.ok i; records = c.in-Ok.ensures.turns.other i }) ∙ ap (λ (t : Tables). before_of c.args.saved.now t) c.self.view_is in
    let is : now ≡ c.requires.takes.0 = other ∙ way.gives in
    let without = c.in_ok-put_zone_in.ensures.without in
    let was : c.args.saved.now.zones ≡ With without.0 without.1.0 = without.1.1.0 in
    let gone : c.put_zone_in.new.turn ≡ Without without.0 = without.1.1.1 in
    let first = c.args.saved.now.records in
    let then' = c.turn_over.new.turn in
    record {
      other = other;
      again = record {
        gives = (λ i. record { zones = c.in_ok-put_zone_in.ensures.again.1 i; records = turns.gives i }) ∙ c.self.view_is;
        fits = search rules;
        goes = turns.goes;
        sound = search rules;
        brings = λ back. subst (λ (t : Tables). IsRemoval c.args.self.now t) (sym is) (way.takes (sym turned.brings ∙ back));
        takes = λ away. subst (λ (t : Tables). IsRemoval t c.args.self.now) (sym is) (way.brings (sym turned.takes ∙ away));
      };
      need = ap (λ (t : Turn Zone). puts_in t || records_need then') gone ∙ turned.need ∙ sym (ap (λ (t : Turn Zone). takes_out t || records_need_after first) was);
      need_after = ap (λ (t : Turn Zone). takes_out t || records_need_after then') gone ∙ sym (ap (λ (t : Turn Zone). puts_in t || records_need first) was);
    }
