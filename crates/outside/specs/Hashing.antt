-- The hashes of a worker's tables. Strangers choose the keys.
use Rattle.std.specs.Prelude.{◌≡◌, ℕ}
use Rattle.cell_store.specs.contracts.seed.NameSeedBuildHasher.TheImpl as name_seed
use Rattle.cell_store.specs.declared.seed.NameSeed.{NameSeed}
use Rattle.cell_store.specs.Seed.{seeded}
use Rattle.indexmap.specs.IndexMap.{IndexMap, hasher_of}

-- The hashes of a table begin with this seed.
abbrev pub IsSeeded : {K V : Type 0} → ℕ → IndexMap K V NameSeed → Type 0
IsSeeded seed table = name_seed.ghosts.build_hasher (hasher_of table) ≡ seeded seed
