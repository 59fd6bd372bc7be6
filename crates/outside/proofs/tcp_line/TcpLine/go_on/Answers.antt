use Rattle.std.proofs.Common.{rules, ◌≡◌, refl, arith, ap, length}
use Rattle.arrayvec.specs.ArrayVec.{array_vec_len}
use Rattle.std.proofs.lemmas.Result.{on_ok_weaker}
use Rattle.outside.proofs.Passing.{none_came, same_start, went_on}
use Rattle.outside.proofs.tcp_line.TcpLine.go_on.Goals as goal

pub returns-then-not-branch-clause-moves : goal.returns-then-not-branch-clause-moves
returns-then-not-branch-clause-moves g c =
    rw (← c.self.view_is) (c.write_on.new.stream, c.write_on.ensures.written, none_came _ c.self.inside.reply.octets.items)

pub returns-clause-moves : goal.returns-clause-moves
returns-clause-moves g c =
    rw (← c.self.view_is) (on_ok_weaker c.read_on.result (λ read. (c.write_on.new.stream, c.write_on.ensures.written, read)) c.read_on.ensures.read)

pub returns-then-not-branch-clause-went : goal.returns-then-not-branch-clause-went
returns-then-not-branch-clause-went g c =
    let octets = ap (λ v. v.items) c.write_on.ensures.octets in
    let came = c.self.inside.reply.octets.items in
    rw (← c.self.view_is) (λ fresh. went_on _ _ fresh _ c.write_on.new.stream _ octets c.write_on.ensures.left (omega (arith, c.write_on.new.self.front, ap (λ l. length l) octets))
    c.write_on.ensures.written (λ all. c.write_on.ensures.idle all) (λ some. (refl, refl)) (same_start came) (none_came _ came))

pub returns-clause-went : goal.returns-clause-went
returns-clause-went g c =
    let octets = ap (λ v. v.items) c.write_on.ensures.octets in
    let all : c.write_on.new.self.left ≡ array_vec_len c.self.inside.query.octets = search rules in
    rw (← c.self.view_is) (on_ok_weaker c.read_on.result (λ read fresh. went_on _ _ fresh _ c.write_on.new.stream _ octets c.write_on.ensures.left (omega (arith, all))
    c.write_on.ensures.written (λ is. c.write_on.ensures.idle is) (λ some. absurd (omega (arith, all, some))) c.read_on.ensures.came read) c.read_on.ensures.read)
