use Rattle.std.proofs.Common.{ℕ, List, [], ◌++◌, take, refl, sym, ap, ◌∙◌, arith}
use Rattle.streams.specs.declared.fault.Flow.TheVariants.{On, Stopped, Failed}
use Rattle.streams.specs.Laws.{Consumes-then, Consumes-kept}
use Rattle.streams.specs.Split.{held_of}
use Rattle.streams.specs.Transcript.{paired}
use Rattle.streams.proofs.Transcripts.{begun_line-append}
use Rattle.streams.proofs.Telling.{feeds-then}
use Rattle.streams.proofs.Running.{runs-stop, runs-end}
use Rattle.streams.proofs.engine.run_lines.Goals as goal

pub loop-preserved : goal.loop-preserved
loop-preserved g c =
    let so_far = c.loop.invariant in
    let input = so_far.told.0 in
    let came = rw c.in-Some.is at c.in_ok-n.ensures.some in
    let ys = take c.in-Some.n c.next.new.room in
    record {
      told = (
        input ++ ys,
        Consumes-then _ _ _ input ys so_far.told.1 came.1,
        feeds-then On _ (paired g.O.Obeyer.obeys) _ _ _ [] input ys _ _ _ so_far.told.2 (c.in-On.ensures.told _ so_far.told.3),
        c.in-On.ensures.held _ so_far.told.3 refl ∙ ap (λ (l : List ℕ). held_of l) (sym (begun_line-append [] input ys)),
      );
      room = c.next.ensures.length ∙ so_far.room;
      write_failures = c.in-On.ensures.failures ∙ so_far.write_failures;
      failures = c.in_ok-n.ensures.failures ∙ so_far.failures;
      calls = omega (arith, c.next.ensures.calls, so_far.calls);
      few = omega (arith, c.loop-test.true);
    }

pub returns-in-Stopped-clause-runs : goal.returns-in-Stopped-clause-runs
returns-in-Stopped-clause-runs g c =
    let so = c.loop.invariant.told in
    let came = rw c.in-Some.is at c.in_ok-n.ensures.some in
    let ran = runs-stop Stopped _ (paired g.O.Obeyer.obeys) _ _ _ so.0 (take c.in-Some.n c.next.new.room) _ _ _ _ _ _ tt so.1 so.2 came.1 (c.in-Stopped.ensures.told _ so.3) in
    record { input = ran.0; text = ran.1; reads = ran.2; obeyed = ran.3; writes = ran.4 }

pub returns-in-Failed-clause-runs : goal.returns-in-Failed-clause-runs
returns-in-Failed-clause-runs g c =
    let so = c.loop.invariant.told in
    let came = rw c.in-Some.is at c.in_ok-n.ensures.some in
    let ran = runs-stop Failed _ (paired g.O.Obeyer.obeys) _ _ _ so.0 (take c.in-Some.n c.next.new.room) _ _ _ _ _ _ tt so.1 so.2 came.1 (c.in-Failed.ensures.told _ so.3) in
    record { input = ran.0; text = ran.1; reads = ran.2; obeyed = ran.3; writes = ran.4 }

pub returns-in-On-finish-clause-runs : goal.returns-in-On-finish-clause-runs
returns-in-On-finish-clause-runs g c =
    let so = c.loop.invariant.told in
    let came = rw c.in-None.is at c.in_ok-n.ensures.some in
    let ran = runs-end On _ (paired g.O.Obeyer.obeys) _ _ _ so.0 _ _ _ _ _ (Consumes-kept _ _ _ so.0 so.1 came.0) so.2 (c.in-On-finish.ensures.told _ (c.as_slice.ensures ∙ so.3)) in
    record { input = ran.0; text = ran.1; reads = ran.2; obeyed = (ran.3, came.1); writes = ran.4 }

pub returns-in-Stopped-finish-clause-runs : goal.returns-in-Stopped-finish-clause-runs
returns-in-Stopped-finish-clause-runs g c =
    let so = c.loop.invariant.told in
    let came = rw c.in-None.is at c.in_ok-n.ensures.some in
    let ran = runs-end Stopped _ (paired g.O.Obeyer.obeys) _ _ _ so.0 _ _ _ _ _ (Consumes-kept _ _ _ so.0 so.1 came.0) so.2 (c.in-Stopped-finish.ensures.told _ (c.as_slice.ensures ∙ so.3)) in
    record { input = ran.0; text = ran.1; reads = ran.2; obeyed = ran.3; writes = ran.4 }

pub returns-in-Failed-finish-clause-runs : goal.returns-in-Failed-finish-clause-runs
returns-in-Failed-finish-clause-runs g c =
    let so = c.loop.invariant.told in
    let came = rw c.in-None.is at c.in_ok-n.ensures.some in
    let ran = runs-end Failed _ (paired g.O.Obeyer.obeys) _ _ _ so.0 _ _ _ _ _ (Consumes-kept _ _ _ so.0 so.1 came.0) so.2 (c.in-Failed-finish.ensures.told _ (c.as_slice.ensures ∙ so.3)) in
    record { input = ran.0; text = ran.1; reads = ran.2; obeyed = ran.3; writes = ran.4 }
