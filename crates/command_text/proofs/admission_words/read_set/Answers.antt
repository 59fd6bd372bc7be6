use Rattle.std.proofs.Common.{◌≡◌, ℕ, List, [], ◌∷◌, ◌++◌, Ok, sym, ap, subst, ◌∙◌}
use Rattle.std.specs.List.{AllByRecursion}
use Rattle.std.proofs.lemmas.Result.{err_from_is_err_and}
use Rattle.dns_name.specs.ListLaws.{all_push}
use Rattle.dns_text.specs.declared.record.Data.{Data}
use Rattle.dns_text.specs.Data.{data_in, HasForm}
use Rattle.command_text.specs.declared.fault.LineFault.TheVariants.{BadData}
use Rattle.command_text.specs.Bar.{pieces}
use Rattle.command_text.specs.Admit.{data_of}
use Rattle.command_text.proofs.Sets.{behind, one-more, last-one, fails-more}
use Rattle.command_text.proofs.admission_words.read_set.Goals as goal

pub returns-in_err-read_datum-clause-value : goal.returns-in_err-read_datum-clause-value
returns-in_err-read_datum-clause-value c =
    let items = c.loop-piece.data.items in
    let is = c.loop-piece.invariant.read ∙ ap (λ (ps : List (List ℕ)). behind items (data_of c.args.kind ps)) c.in-Some.ensures.cut in
    let p = err_from_is_err_and c.from_residual.result c.from_residual.ensures.1 in
    rw (p.1, p.2) (fails-more BadData (data_in c.args.kind) _ _ items _ _ is c.in_err-read_datum.ensures.value)

pub loop-piece-preserved : goal.loop-piece-preserved
loop-piece-preserved c =
    let items = c.loop-piece.data.items in
    let is = c.loop-piece.invariant.read ∙ ap (λ (ps : List (List ℕ)). behind items (data_of c.args.kind ps)) c.in-Some.ensures.cut in
    let read = one-more BadData (data_in c.args.kind) _ _ items _ _ is c.in_ok-read_datum.ensures.value
    ∙ ap (λ (l : List Data). behind l (data_of c.args.kind (pieces c.in-Some.after.now))) (sym c.in_ok-push.ensures.items) in
    record {
      read = read;
      formed = subst (λ (l : List Data). AllByRecursion (HasForm c.args.kind) l) (sym c.in_ok-push.ensures.items) (all_push (HasForm c.args.kind) items _ c.loop-piece.invariant.formed c.in_ok-read_datum.ensures.form);
    }

pub returns-in_err-read_datum-2-clause-value : goal.returns-in_err-read_datum-2-clause-value
returns-in_err-read_datum-2-clause-value c =
    let items = c.loop-piece.data.items in
    let is = c.loop-piece.invariant.read ∙ ap (λ (ps : List (List ℕ)). behind items (data_of c.args.kind ps)) c.in_default.ensures.cut in
    let p = err_from_is_err_and c.from_residual-in_err-read_datum-2.result c.from_residual-in_err-read_datum-2.ensures.1 in
    rw (p.1, p.2) (fails-more BadData (data_in c.args.kind) _ _ items _ _ is c.in_err-read_datum-2.ensures.value)

pub returns-clause-value : goal.returns-clause-value
returns-clause-value c =
    let items = c.loop-piece.data.items in
    let is = c.loop-piece.invariant.read ∙ ap (λ (ps : List (List ℕ)). behind items (data_of c.args.kind ps)) c.in_default.ensures.cut in
    let made : items ++ c.in_ok-read_datum-2.field-0 ∷ [] ≡ c.new.result = ap (λ (l : List Data). l ++ c.in_ok-read_datum-2.field-0 ∷ []) (sym c.in_ok-reserve_exact.ensures.items) ∙ sym c.in_ok-push-2.ensures.items ∙ sym c.new.ensures in
    last-one BadData (data_in c.args.kind) _ items _ _ is c.in_ok-read_datum-2.ensures.value ∙ ap (λ (l : List Data). Ok l) made

pub returns-clause-formed : goal.returns-clause-formed
returns-clause-formed c =
    let items = c.loop-piece.data.items in
    let made : items ++ c.in_ok-read_datum-2.field-0 ∷ [] ≡ c.new.result = ap (λ (l : List Data). l ++ c.in_ok-read_datum-2.field-0 ∷ []) (sym c.in_ok-reserve_exact.ensures.items) ∙ sym c.in_ok-push-2.ensures.items ∙ sym c.new.ensures in
    subst (λ (l : List Data). AllByRecursion (HasForm c.args.kind) l) made (all_push (HasForm c.args.kind) items _ c.loop-piece.invariant.formed c.in_ok-read_datum-2.ensures.form)
