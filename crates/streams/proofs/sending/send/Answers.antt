use Rattle.std.proofs.Common.{◌≡◌, ℕ, ◌-◌, List, length, take, drop, sym, subst, ap, ◌∙◌, arith, length-drop}
use Rattle.std.proofs.Math.Seq.{take-add}
use Rattle.std.proofs.lemmas.List.{take_all}
use Rattle.std.specs.Io.KnownBytes.{Appends}
use Rattle.streams.specs.Laws.{Appends-then}
use Rattle.streams.proofs.sending.send.Goals as goal

pub loop-sent-preserved : goal.loop-sent-preserved
loop-sent-preserved g c =
    let contents = g.W.Sink.contents in
    let n = c.in_ok-sent.field-0 in
    let sent = c.loop-sent.sent in
    let text = c.args.text.now in
    let rest : take (length text - sent) (drop sent text) ≡ drop sent text = take_all (length text - sent) (drop sent text) (omega (arith, length-drop sent text)) in
    let came = c.in_ok-sent.ensures.ok in
    let went = subst (λ (t : List ℕ). Appends (contents c.loop-sent.writer) (contents c.put.new.self) (take n t)) rest came.2 in
    record {
      front = omega (arith, c.loop-sent.invariant.front, came.1, ap (λ (t : List ℕ). length t) rest, length-drop sent text);
      written = subst (λ (t : List ℕ). Appends (contents c.args.writer.now) (contents c.put.new.self) t) (sym (take-add sent n text))
          (Appends-then _ _ _ (take sent text) (take n (drop sent text)) c.loop-sent.invariant.written went);
      failures = c.in_ok-sent.ensures.failures ∙ c.loop-sent.invariant.failures;
    }
