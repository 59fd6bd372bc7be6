use Rattle.std.proofs.Common.{◌≡◌, ℕ, zero, suc, ◌+◌, ◌<◌, List, [], ◌∷◌, length, get_or, take, sym, subst, arith, rules}
use Rattle.std.specs.List.{AllByRecursion}
use Rattle.std.proofs.lemmas.List.{take_more}
use Rattle.dns_name.specs.ListLaws.{all_push}
use Rattle.iterate.specs.Shown.{IsLocalRecord}
use Rattle.iterate.proofs.lookup_reply.are_local.Goals as goal

all_at : {X : Type 0} (P : X → Type 0) (xs : List X) (i : ℕ) (x : X) → i < length xs → x ≡ get_or xs i x → AllByRecursion P xs → P x
all_at P [] i x h e all = absurd (omega arith)
all_at P (y ∷ ys) zero x h e all = subst P (sym e) all.0
all_at P (y ∷ ys) (suc i) x h e all = all_at P ys i x (omega arith) e all.1

all_more : {X : Type 0} (P : X → Type 0) (xs : List X) (i : ℕ) (x : X) → i < length xs → x ≡ get_or xs i x → AllByRecursion P (take i xs) → P x → AllByRecursion P (take (i + 1) xs)
all_more P xs i x h e all here = rw (take_more xs i x h) (all_push P (take i xs) (get_or xs i x) all (subst P e here))

pub loop-r-preserved : goal.loop-r-preserved
loop-r-preserved c =
    let within : c.loop-r.r-index < length c.args.records.now = omega arith in
    all_more (IsLocalRecord (record { owner = c.args.owner.now; kind = c.args.kind })) c.args.records.now c.loop-r.r-index c.r-item.result within c.r-item.is c.loop-r.invariant (search rules)

pub returns-then-not-is_local_record : goal.returns-then-not-is_local_record
returns-then-not-is_local_record c =
    let within : c.loop-r.r-index < length c.args.records.now = omega arith in (
      λ yes. let e : ⊥ = cc in absurd e,
      λ all. let here = all_at (IsLocalRecord (record { owner = c.args.owner.now; kind = c.args.kind })) c.args.records.now c.loop-r.r-index c.r-item.result within c.r-item.is all in c.if-not-is_local_record.ensures.1 here,
    )
