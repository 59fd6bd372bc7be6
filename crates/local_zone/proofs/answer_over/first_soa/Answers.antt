use Rattle.std.proofs.Common.{List, ap, slice_get, sym, ◌∙◌}
use Rattle.dns_text.specs.declared.record.Record.{Record}
use Rattle.dns_text.specs.declared.types.TheConstants.{SOA}
use Rattle.std.specs.Prelude.{IfOk, Result, Ok, Err}
use Rattle.local_zone.specs.Show.{is_for}
use Rattle.local_zone.proofs.SetLaws.{find_first, find_none}
use Rattle.local_zone.proofs.answer_over.first_soa.Goals as goal

if_ok : {X E : Type 0} {P Q : X → Type 0} (r : Result X E) → ((x : X) → P x → Q x) → IfOk r P → IfOk r Q
if_ok (Ok x) f h = f x h
if_ok (Err e) f h = tt

pub returns-clause-ok : goal.returns-clause-ok
returns-clause-ok c =
    if_ok c.share_first.result
    (λ soa is. is ∙ ap (λ (rs : List Record). slice_get rs 0) c.set_of.ensures ∙ sym (find_first (is_for c.args.zone.now.name SOA) c.args.side.now.records))
    c.share_first.ensures.ok

pub returns-clause-free : goal.returns-clause-free
returns-clause-free c none = c.share_first.ensures.free (c.set_of.ensures ∙ find_none (is_for c.args.zone.now.name SOA) c.args.side.now.records none)
