use Rattle.std.proofs.Common.{◌≡◌, inl, inr, Ok}
use Rattle.dns_query.proofs.response.read.Goals as goal

pub returns-in-Ok : goal.returns-in-Ok
returns-in-Ok c = record {
  spelled = c.in-Ok.ensures.spelled;
  forms = c.in-Ok.ensures.forms;
  only = λ w s. let e : Ok w ≡ Ok c.in-Ok.message = c.in-Ok.ensures.read w s in cc;
}

pub returns-in_default : goal.returns-in_default
returns-in_default c = λ v s. elim c.in-Err.ensures.unspelled [ inl same ↦ c.in_default.not-NoMemory same | inr unspelled ↦ unspelled v s ]
