use Rattle.std.proofs.Common.{rules, ◌≡◌, drop, arith}
use Rattle.streams.specs.Laws.{Consumes-kept}
use Rattle.outside.proofs.Passing.{came_on}
use Rattle.outside.proofs.framed_reply.read_on.Goals as goal
use Rattle.outside.proofs.framed_reply.read_on.Goals.{in-Ok+in_ok-add-in-Ok, in-Err+in_ok-would_wait-in-Err+else-branch}

pub returns-then-most-eq0-clause-whole : goal.returns-then-most-eq0-clause-whole
returns-then-most-eq0-clause-whole g c =
    let none : c.wanting.result ≡ 0 = omega (arith, c.requires) in (λ _. c.wanting.ensures.none.0 none, λ _. search rules)

pub loop-preserved : goal.loop-preserved
loop-preserved g c =
    let so_far = c.loop.invariant in
    elim c.match-read.branch [
      | in-Ok+in_ok-add-in-Ok w ↦
          let old = c.args.reply.now.octets.items in
          let mid = c.loop.reply.octets.items in
          let new = w.add.new.self.octets.items in
          let came = came_on _ _ _ old mid new c.read.new.buf (drop c.min-most.result c.loop.room) w.in-Ok.count so_far.came so_far.read w.in-Ok.ensures.bound.0 w.in-Ok.ensures.bytes.0 w.in_ok-add-in-Ok.ensures.added in
          rw w.reply-is (record { came = came.0; read = came.1 })
      | in-Err+in_ok-would_wait-in-Err+else-branch w ↦ rw w.reply-is (record { came = so_far.came; read = Consumes-kept _ _ _ _ so_far.read w.in-Err.ensures.bytes })
    ]
