use Rattle.flight.proofs.numbered.SeatNumbered.call_soon.Goals as goal

pub returns-in-Some-Ok : goal.returns-in-Some-Ok
returns-in-Some-Ok g c = let told = c.in-Some-Ok in (rw told.field-0-is at told.ensures.called, rw told.field-0-is at told.ensures.goes_on)

pub returns-in-Some-Err : goal.returns-in-Some-Err
returns-in-Some-Err g c = let told = c.in-Some-Err in (rw told.field-0-is at told.ensures.called, rw told.field-0-is at told.ensures.goes_on)

pub returns-in-None : goal.returns-in-None
returns-in-None g c = (c.in-None.ensures.put_off.0, c.in-None.ensures.put_off, c.in-None.ensures.same)
