use Rattle.std.proofs.Common.{◌≡◌, false, sym, ap, ◌∙◌}
use Rattle.ranked.specs.Body.{is_negative}
use Rattle.ranked.specs.declared.find.Find.{Find}
use Rattle.iterate.specs.declared.answer.Soa.TheVariants.{Find as FindSoa}
use Rattle.iterate.specs.Shown.{EndsQuestion}
use Rattle.iterate.specs.Told.{told_of}
use Rattle.iterate.proofs.finishing.held_ending.Goals as goal

pub returns-in_ok-held_set-in-Set : goal.returns-in_ok-held_set-in-Set
returns-in_ok-held_set-in-Set c = λ question shown_for.
    let told : c.in_ok-held_set-in-Set.field-0 ≡ told_of c.args.shown.now = c.in_ok-held_set-in-Set.ensures in
    let has : is_negative c.args.shown.now.body.body ≡ false = ap (λ (f : Find). is_negative f.body) (sym c.find.ensures) ∙ ap is_negative c.in-Set.is in
    rw c.set_ending.ensures (rw told (EndsQuestion.held (record { shown_for = shown_for; has_data = has })))

pub returns-in_ok-soa_held-in-NoData : goal.returns-in_ok-soa_held-in-NoData
returns-in_ok-soa_held-in-NoData c = λ question shown_for.
    let soa : c.in_ok-soa_held-in-NoData.field-0 ≡ FindSoa c.args.shown.now.left c.args.shown.now.body = c.in_ok-soa_held-in-NoData.ensures in
    rw c.denial.ensures (rw soa (EndsQuestion.held_no_data shown_for (ap (λ (f : Find). f.body) (sym c.find.ensures) ∙ c.in-NoData.is)))

pub returns-in_ok-soa_held-in-NoName : goal.returns-in_ok-soa_held-in-NoName
returns-in_ok-soa_held-in-NoName c = λ question shown_for.
    let soa : c.in_ok-soa_held-in-NoName.field-0 ≡ FindSoa c.args.shown.now.left c.args.shown.now.body = c.in_ok-soa_held-in-NoName.ensures in
    rw c.denial-in-NoName.ensures (rw soa (EndsQuestion.held_no_name shown_for (ap (λ (f : Find). f.body) (sym c.find.ensures) ∙ c.in-NoName.is)))
