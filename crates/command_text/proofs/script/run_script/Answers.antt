use Rattle.std.proofs.Common.{Ok, Err, refl}
use Rattle.command_text.specs.Script.{start_at}
use Rattle.command_text.proofs.Scripts.{settings-run, run-of}
use Rattle.command_text.proofs.script.run_script.Goals as goal

pub returns-in-Ok-clause-runs : goal.returns-in-Ok-clause-runs
returns-in-Ok-clause-runs g c = λ h s.
    run-of _ g.B.Book.stands_for g.B.Book.settings (Ok c.in-Ok.field-0) (0, c.args.book.now) (c.run_lines.new.time, c.run_lines.new.desk) _ _ _ _ c.in-Ok.ensures.runs (start_at h) s refl

pub returns-in-Ok-clause-settings : goal.returns-in-Ok-clause-settings
returns-in-Ok-clause-settings g c =
    settings-run _ g.B.Book.stands_for g.B.Book.settings (Ok c.in-Ok.field-0) (0, c.args.book.now) (c.run_lines.new.time, c.run_lines.new.desk) _ _ _ _ c.in-Ok.ensures.runs

pub returns-in-Err-clause-runs : goal.returns-in-Err-clause-runs
returns-in-Err-clause-runs g c = λ h s.
    run-of _ g.B.Book.stands_for g.B.Book.settings (Err c.in-Err.fault) (0, c.args.book.now) (c.run_lines.new.time, c.run_lines.new.desk) _ _ _ _ c.in-Err.ensures.runs (start_at h) s refl

pub returns-in-Err-clause-settings : goal.returns-in-Err-clause-settings
returns-in-Err-clause-settings g c =
    settings-run _ g.B.Book.stands_for g.B.Book.settings (Err c.in-Err.fault) (0, c.args.book.now) (c.run_lines.new.time, c.run_lines.new.desk) _ _ _ _ c.in-Err.ensures.runs
