-- The finds of a column, as memory has them.
use Rattle.std.specs.Prelude.{List, [], ◌∷◌}
use Rattle.ranked.specs.declared.find.Find.{Find}
use Rattle.cell_store.specs.declared.finds.Places.{Places}
use Rattle.cell_store.specs.declared.finds.Places.TheVariants.{Zero, One, Two, Three, Four, Five, Six}

-- the finds of some places, in order
abbrev pub finds_in : Places → List Find
finds_in Zero = []
finds_in (One a) = a ∷ []
finds_in (Two a b) = a ∷ b ∷ []
finds_in (Three a b c) = a ∷ b ∷ c ∷ []
finds_in (Four a b c d) = a ∷ b ∷ c ∷ d ∷ []
finds_in (Five a b c d e) = a ∷ b ∷ c ∷ d ∷ e ∷ []
finds_in (Six a b c d e f) = a ∷ b ∷ c ∷ d ∷ e ∷ f ∷ []
