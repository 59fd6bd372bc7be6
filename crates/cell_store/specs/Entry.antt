-- The content of an entry, as memory has it.
use Rattle.std.specs.Prelude.{ℕ, Some, None}
use Rattle.cell_store.specs.declared.entry.Content.{Content}
use Rattle.cell_store.specs.declared.entry.Content.TheVariants.{Empty, Own}
use Rattle.cell_store.specs.declared.version.Place.{Place}

-- the place that a content is
abbrev pub content_place : Content → Place ℕ
content_place (Empty left) = record { left = left; cell = record { held = None } }
content_place (Own left rank slot ttl since) = record { left = left; cell = record { held = Some (record { rank = rank; ttl = ttl; since = since; body = slot }) } }
