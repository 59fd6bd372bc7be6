use Rattle.std.proofs.Common.{◌≡◌, ℕ, ◌+◌, ◌-◌, ◌≤◌, List, length, take, drop, ◌++◌, sym, subst, ap, ◌∙◌, arith, length-append, length-drop}
use Rattle.std.proofs.Math.Seq.{take-add}
use Rattle.std.proofs.lemmas.List.{length-take, take-append-le, drop_at}
use Rattle.std.proofs.lemmas.Slice.{take-put_mid_below}
use Rattle.std.specs.Io.KnownBytes.{Consumes}
use borrow.Rule.Slice.PartMut.{put_mid, post_of}
use Rattle.streams.specs.Laws.{Consumes-then}
use Rattle.streams.proofs.filling.fill.Goals as goal

long : (a : ℕ) (xs ys : List ℕ) → a ≤ length xs → length ys ≡ length xs - a → length (put_mid a (length xs - a) xs ys) ≡ length xs
long a xs ys below size =
    let k = length xs - a in
    omega (arith, length-append (take a xs) (ys ++ post_of a k xs), length-append ys (post_of a k xs), length-take a xs, length-drop k (drop a xs), length-drop a xs)

front : (a n : ℕ) (xs ys : List ℕ) → a ≤ length xs → n ≤ length ys → take (a + n) (put_mid a (length xs - a) xs ys) ≡ take a xs ++ take n ys
front a n xs ys below within =
    let k = length xs - a in
    let whole = put_mid a k xs ys in
    let at : length (take a xs) ≡ a = omega (arith, length-take a xs) in
    take-add a n whole
    ∙ ap (λ (zs : List ℕ). zs ++ take n (drop a whole)) (take-put_mid_below a k xs ys a (omega arith) below)
    ∙ ap (λ (zs : List ℕ). take a xs ++ take n zs) (drop_at (take a xs) (ys ++ post_of a k xs) a at)
    ∙ ap (λ (zs : List ℕ). take a xs ++ zs) (take-append-le n ys (post_of a k xs) within)

pub loop-filled-preserved : goal.loop-filled-preserved
loop-filled-preserved g c =
    let so_far = c.loop-filled.invariant in
    let a = c.loop-filled.filled in
    let n = c.in-Some.n in
    let xs = c.loop-filled.room in
    let ys = c.next.new.room in
    let came = rw c.in-Some.is at c.in_ok-n.ensures.some in
    let size : length ys ≡ length xs - a = omega (arith, c.next.ensures.length, length-take (length xs - a) (drop a xs), length-drop a xs) in
    let all : length (put_mid a (length xs - a) xs ys) ≡ length xs = long a xs ys so_far.front size in
    record {
      front = omega (arith, all, size, came.0, so_far.front);
      length = all ∙ so_far.length;
      came = subst (λ (zs : List ℕ). Consumes (g.S.Source.remaining c.args.reader.now) (g.S.Source.remaining c.next.new.self) zs) (sym (front a n xs ys so_far.front came.0)) (Consumes-then _ _ _ (take a xs) (take n ys) so_far.came came.1);
      calls = omega (arith, c.next.ensures.calls, so_far.calls, c.if-left-eq0.false);
      falls = λ some. omega (arith, so_far.no_more, c.if-left-eq0.false);
      no_more = omega (arith, so_far.no_more);
      failures = c.in_ok-n.ensures.failures ∙ so_far.failures;
    }
