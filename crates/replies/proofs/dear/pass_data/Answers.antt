use Rattle.replies.proofs.Dearness.{fails, no_parts_read, nothing, then_next, then_stop}
use Rattle.replies.proofs.dear.pass_data.Goals as goal

pub returns-in_err-follow_name-in-Name : goal.returns-in_err-follow_name-in-Name
returns-in_err-follow_name-in-Name c =
    rw c.in-Name.is (fails _ _ _ _ _ c.from_residual.ensures (then_stop _ _ c.in_err-follow_name-in-Name.ensures.takes))

pub returns-in_err-follow_name-in-Mx : goal.returns-in_err-follow_name-in-Mx
returns-in_err-follow_name-in-Mx c =
    rw c.in-Mx.is (fails _ _ _ _ _ c.from_residual-in_err-follow_name-in-Mx.ensures (then_stop _ _ c.in_err-follow_name-in-Mx.ensures.takes))

pub returns-in_err-follow_name-in-Srv : goal.returns-in_err-follow_name-in-Srv
returns-in_err-follow_name-in-Srv c =
    rw c.in-Srv.is (fails _ _ _ _ _ c.from_residual-in_err-follow_name-in-Srv.ensures (then_stop _ _ c.in_err-follow_name-in-Srv.ensures.takes))

pub returns-in_err-second-in-Soa : goal.returns-in_err-second-in-Soa
returns-in_err-second-in-Soa c =
    rw c.in-Soa.is (fails _ _ _ _ _ c.from_residual-in_err-second-in-Soa.ensures (then_stop _ _ c.in_err-second-in-Soa.ensures.takes))

pub returns-in_err-follow_name-in-Soa : goal.returns-in_err-follow_name-in-Soa
returns-in_err-follow_name-in-Soa c =
    rw c.in-Soa.is (fails _ _ _ _ _ c.from_residual-in_err-follow_name-in-Soa.ensures
    (then_next _ _ c.in_ok-second-in-Soa.ensures.takes (then_stop _ _ c.in_err-follow_name-in-Soa.ensures.takes)))

pub returns-in-Txt : goal.returns-in-Txt
returns-in-Txt c = rw c.in-Txt.is c.pass_strings.ensures

pub returns-in_ok-follow_name-in-Name : goal.returns-in_ok-follow_name-in-Name
returns-in_ok-follow_name-in-Name c =
    rw c.in-Name.is (then_next _ _ c.in_ok-follow_name-in-Name.ensures.takes (nothing _ _))

pub returns-in_ok-follow_name-in-Mx : goal.returns-in_ok-follow_name-in-Mx
returns-in_ok-follow_name-in-Mx c =
    rw c.in-Mx.is (then_next _ _ c.in_ok-follow_name-in-Mx.ensures.takes (nothing _ _))

pub returns-in_ok-follow_name-in-Srv : goal.returns-in_ok-follow_name-in-Srv
returns-in_ok-follow_name-in-Srv c =
    rw c.in-Srv.is (then_next _ _ c.in_ok-follow_name-in-Srv.ensures.takes (nothing _ _))

pub returns-in_ok-follow_name-in-Soa : goal.returns-in_ok-follow_name-in-Soa
returns-in_ok-follow_name-in-Soa c =
    rw c.in-Soa.is (then_next _ _ c.in_ok-second-in-Soa.ensures.takes (then_next _ _ c.in_ok-follow_name-in-Soa.ensures.takes (nothing _ _)))

pub returns-in-A : goal.returns-in-A
returns-in-A c = no_parts_read _ _ _ _ _ _ c.in-A.is
