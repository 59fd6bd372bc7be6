-- What a change of a world leaves, by what the world shows of itself.
use Rattle.std.specs.Prelude.{◌≡◌, ℕ}
use Rattle.change_law.specs.declared.world.World.{Ghosts}
use Rattle.change_law.specs.Face.{Face}
use Rattle.change_law.specs.Row.{IsMade, IsRefused, where_chosen}

-- The world keeps one more change, under this ticket, and has cleared the undone ones. In each choice with it, it has its effect.
abbrev pub MakesChange : {W T S D : Type 0} → Ghosts W T S D → (Face T → Face T) → ℕ → W → W → S → Type 0
MakesChange by effect ticket before after saved = IsMade by.table by.keeps by.face by.newest (where_chosen ticket effect) ticket saved before after

-- The world refused the change and is as it was.
abbrev pub RefusesChange : {W T S D : Type 0} → Ghosts W T S D → W → W → Type 0
RefusesChange by before after = IsRefused by.table by.keeps by.face by.newest by.stored by.counts before after

-- The world refused to undo or redo a change. It is as it was, and so is the data that the change saved.
abbrev pub RefusesTurn : {W T S D : Type 0} → Ghosts W T S D → W → S → W → S → Type 0
RefusesTurn by before saved after saved' = IsRefused by.table by.keeps by.face by.newest by.stored by.counts before after × (saved' ≡ saved)
