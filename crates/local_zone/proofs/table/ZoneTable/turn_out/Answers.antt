use Rattle.std.proofs.Common.{◌≡◌, ◌||◌, List, refl, ap, sym, subst, ◌∙◌, rules}
use Rattle.dns_text.specs.declared.record.Record.{Record}
use Rattle.local_zone.specs.Saved.{before_of, IsRemoval}
use Rattle.std.proofs.lemmas.Bool.{false≢true}
use Rattle.named_list.specs.Turn.{other_of, puts_in, HasPlace, IsWayBack}
use Rattle.named_list.specs.TurnLaws.{puts_taken, takes_put}
use Rattle.local_zone.specs.declared.zone.Zone.{Zone}
use Rattle.local_zone.specs.Added.{records_need}
use Rattle.local_zone.specs.Tables.{AreTables, Tables}
use Rattle.local_zone.proofs.FreeLaws.{second_fails}
use Rattle.local_zone.proofs.TogetherLaws.{by_parts, moves_out}
use Rattle.local_zone.proofs.table.ZoneTable.turn_out.Goals as goal

pub invariant_of-self : goal.invariant_of-self
invariant_of-self c =
    let zones : List Zone = c.self.inside.zones in
    let records : List Record = c.self.inside.records in
    let moves = moves_out c.args.saved.now zones records (by_parts c.args.saved.now zones records c.args.self.now c.requires.takes.0 c.self.view_is c.requires.takes.1) c.requires.puts in (
      subst (λ (rs : List Record). AreTables (record { zones = zones; records = rs })) (sym c.in_err-turn_over.ensures.err.0) c.self.invariant.0,
      c.in_err-turn_over.ensures.zoned moves c.self.invariant.1,
    )

pub invariant_of-self-2 : goal.invariant_of-self-2
invariant_of-self-2 c =
    let zones : List Zone = c.self.inside.zones in
    let records : List Record = c.self.inside.records in
    let other : Tables = c.requires.takes.0 in
    let now : Tables = record { zones = c.turn_zone_out.new.zones; records = c.turn_over.new.records } in
    let is : now ≡ other
    = (λ i. record { zones = c.turn_zone_out.ensures.list i; records = c.in_ok-turn_over.ensures.turns.other i }) ∙ ap (λ (t : Tables). before_of c.args.saved.now t) c.self.view_is ∙ c.requires.takes.1.gives in
    let moves = moves_out c.args.saved.now zones records (by_parts c.args.saved.now zones records c.args.self.now c.requires.takes.0 c.self.view_is c.requires.takes.1) c.requires.puts in
    (subst (λ (t : Tables). AreTables t) (sym is) c.requires.takes.1.sound, c.turn_zone_out.ensures.zoned (c.in_ok-turn_over.ensures.zoned moves c.self.invariant.1))

pub returns-in_err-turn_over-clause-free : goal.returns-in_err-turn_over-clause-free
returns-in_err-turn_over-clause-free c none =
    absurd (false≢true (c.in_err-turn_over.ensures.free (second_fails (puts_in c.args.saved.now.zones) (records_need c.args.saved.now.records) none)))

-- what the zones put in or take out, and what the records do
pub returns-clause-turns : goal.returns-clause-turns
returns-clause-turns c =
    let way = c.requires.takes.1 in
    let zones : List Zone = c.self.inside.zones in
    let first = c.args.saved.now.zones in
    let then' = c.turn_zone_out.new.turn in
    let fits = subst (λ (t : Tables). HasPlace (λ (z : Zone). z.name) first t.zones) (sym c.self.view_is) way.fits in
    let there = subst (λ (zs : List Zone). IsWayBack (λ (z : Zone). z.name) then' zs zones) c.turn_zone_out.ensures.list c.turn_zone_out.ensures.again in
    let puts = puts_taken (λ (z : Zone). z.name) first then' zones (other_of first zones) (fits, refl) there in
    let takes = takes_put (λ (z : Zone). z.name) first then' zones (other_of first zones) (fits, refl) there in
    let turns = c.in_ok-turn_over.ensures.turns in
    let turned = turns.turned in
    let now : Tables = record { zones = c.turn_zone_out.new.zones; records = c.turn_over.new.records } in
    let other : now ≡ before_of c.args.saved.now c.args.self.now
    = (λ i. record { zones = c.turn_zone_out.ensures.list i; records = c.in_ok-turn_over.ensures.turns.other i }) ∙ ap (λ (t : Tables). before_of c.args.saved.now t) c.self.view_is in
    let is : now ≡ c.requires.takes.0 = other ∙ way.gives in
    record {
      other = other;
      again = record {
        gives = (λ i. record { zones = c.turn_zone_out.ensures.again.1 i; records = turns.gives i }) ∙ c.self.view_is;
        fits = search rules;
        goes = turns.goes;
        sound = search rules;
        brings = λ back. subst (λ (t : Tables). IsRemoval c.args.self.now t) (sym is) (way.takes (sym turned.brings ∙ back));
        takes = λ away. subst (λ (t : Tables). IsRemoval t c.args.self.now) (sym is) (way.brings (sym turned.takes ∙ away));
      };
      need = λ i. puts i || turned.need i;
      need_after = λ i. takes i || turned.need_after i;
    }
