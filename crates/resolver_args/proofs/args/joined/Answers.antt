use Rattle.std.proofs.Common.{◌≡◌, ◌∙◌, ◌+◌, ◌++◌, ◌∷◌, [], ap, append_assoc, sym, List, map, take}
use Rattle.std.proofs.lemmas.List.{map-append, take_more}
use Rattle.std.specs.Prelude.{slice_index_or}
use Rattle.std.specs.Char.{encode_utf8}
use Rattle.std.specs.Borrow.{Bor}
use Rattle.std.specs.List.{join_with_byte}
use Rattle.clap.specs.Walk.{Text}
use Rattle.resolver_args.proofs.Giving.{one_more_word}
use Rattle.resolver_args.proofs.args.joined.Goals as goal

abbrev nowhere : Bor Text
nowhere = record { ref_ptr = (0, 0); now = [] }

pub loop-word-preserved : goal.loop-word-preserved
unfolding encode_utf8
loop-word-preserved c =
    let rest = c.args.rest.now in
    let k = c.loop-word.word-index in
    let word : Bor Text = slice_index_or rest k nowhere in
    let now : Bor Text → Text = λ w. w.now in
    let more : map now (take (k + 1) rest) ≡ map now (take k rest) ++ word.now ∷ [] =
    ap (map now) (take_more rest k nowhere c.loop-word-test.true) ∙ map-append now (take k rest) (word ∷ []) in
    let line : c.push_str.new.self.bytes.items ≡ join_with_byte 32 (c.args.first.now ∷ map now (take k rest)) ++ (32 ∷ word.now) =
    c.in_ok-push_str.ensures.bytes ∙ (ap (λ (l : Text). l ++ word.now) (c.in_ok-push.ensures.bytes ∙ ap (λ (l : Text). l ++ 32 ∷ []) c.loop-word.invariant)
    ∙ append_assoc (join_with_byte 32 (c.args.first.now ∷ map now (take k rest))) (32 ∷ []) word.now) in
    line ∙ (sym (one_more_word 32 c.args.first.now (map now (take k rest)) word.now) ∙ ap (λ (ws : List Text). join_with_byte 32 (c.args.first.now ∷ ws)) (sym more))
