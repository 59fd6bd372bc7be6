use Rattle.std.proofs.Common.{◌≡◌, ◌∙◌, ◌++◌, [], ◌∷◌, List, ℕ, ap, drop, refl, subst, sym, take}
use Rattle.std.proofs.lemmas.List.{append-nil, take-append-le}
use Rattle.replies.specs.Framing.{framed}
use Rattle.front.proofs.Passing.{serves_none, serves_read}
use Rattle.front.proofs.tcp.connection.Connection.read_next.Goals as goal
use Rattle.front.proofs.tcp.connection.Connection.read_next.Goals.{then-branch, else-branch}

pub returns-in-Ok-eq0-clause-arrives : goal.returns-in-Ok-eq0-clause-arrives
returns-in-Ok-eq0-clause-arrives g c =
    rw (← c.self.view_is) (serves_read [] [] _ _ (rw c.in-Ok-eq0.field-0-test at c.in-Ok-eq0.ensures.read) (append-nil c.self.inside.begun.octets.items) refl refl refl)

pub returns-in-Some-clause-arrives : goal.returns-in-Some-clause-arrives
returns-in-Some-clause-arrives g c =
    let begun = c.self.inside.begun.octets.items in
    let more = take c.in-Ok.count c.read_octets.new.room in
    let front : take c.in-Ok.count (c.read_octets.new.room ++ drop c.min-most.result c.args.room.now) ≡ more = take-append-le c.in-Ok.count c.read_octets.new.room (drop c.min-most.result c.args.room.now) c.in-Ok.ensures.within in
    let whole = rw c.in-Some.is at c.take.ensures.whole in
    let came : begun ++ more ≡ framed c.in-Some.message ++ [] =
    ap (λ (octets : List ℕ). begun ++ octets) (sym front) ∙ sym c.in_ok-add-in-Ok.ensures.added ∙ whole.0 ∙ sym (append-nil (framed c.in-Some.message)) in (
      whole.1,
      rw (← c.self.view_is) (serves_read (c.in-Some.message ∷ []) more _ _ c.in-Ok.ensures.read
          (subst (λ (rest : List ℕ). begun ++ more ≡ (framed c.in-Some.message ++ []) ++ rest) (sym whole.2) (came ∙ sym (append-nil (framed c.in-Some.message ++ [])))) refl refl refl),
    )

pub returns-in-None-clause-arrives : goal.returns-in-None-clause-arrives
returns-in-None-clause-arrives g c =
    let begun = c.self.inside.begun.octets.items in
    let more = take c.in-Ok.count c.read_octets.new.room in
    let front : take c.in-Ok.count (c.read_octets.new.room ++ drop c.min-most.result c.args.room.now) ≡ more = take-append-le c.in-Ok.count c.read_octets.new.room (drop c.min-most.result c.args.room.now) c.in-Ok.ensures.within in
    let part = ap (λ begun. begun.octets.items) (c.take.ensures.kept c.in-None.is) ∙ c.in_ok-add-in-Ok.ensures.added in
    rw (← c.self.view_is) (serves_read [] more _ _ c.in-Ok.ensures.read (ap (λ (octets : List ℕ). begun ++ octets) (sym front) ∙ sym part) refl refl refl)

pub returns-after-branch-clause-arrives : goal.returns-after-branch-clause-arrives
returns-after-branch-clause-arrives g c =
    elim c.if-branch.branch [
      | then-branch w ↦ rw w.result-is (rw (← c.self.view_is) (serves_none _ _ (rw c.in-Err.ensures.none refl)))
      | else-branch w ↦ rw w.result-is (rw (← c.self.view_is) (serves_none _ _ (rw c.in-Err.ensures.none refl)))
    ]
