use Rattle.plain_workers.proofs.Reading.{handed_out, kept_then}
use Rattle.plain_workers.proofs.frame_reader.FrameReader.come.Goals as goal

pub returns-clause-read : goal.returns-clause-read
returns-clause-read g c =
    let out = c.hand_out in
    kept_then _ _ _ _ c.fill.ensures.kept (rw out.ensures.held (handed_out g.S.Read.remaining c.fill.new.self.stream out.new.self.stream out.result out.ensures.left out.ensures.inner out.ensures.capacity))
