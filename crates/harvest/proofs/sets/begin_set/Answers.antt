use Rattle.std.proofs.Common.{◌≡◌, ◌∷◌, ◌++◌, [], length, ap, ◌∙◌}
use Rattle.harvest.specs.Sets.{Set, begun}
use Rattle.harvest.proofs.IndexedLaws.{index_begun}
use Rattle.harvest.proofs.sets.begin_set.Goals as goal

pub returns-clause-places : goal.returns-clause-places
returns-clause-places c =
    let sets = c.args.sets.now.items in
    let last : c.len.result ≡ length sets = c.len.ensures ∙ c.args.sets.now.ok.0 in
    let all : c.push.new.self.items ≡ sets ++ begun c.args.r.now ∷ [] = c.in_ok-push.ensures.items ∙ ap (λ (s : Set). sets ++ s ∷ []) c.in_ok-new.ensures in
    index_begun c.args.places.now c.insert.new.self sets c.push.new.self.items c.args.r.now c.in_ok-key.key c.len.result c.requires.places c.requires.begins c.in_ok-key.ensures last all c.in_ok-insert.ensures.updates
