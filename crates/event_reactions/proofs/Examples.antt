-- Document 01's examples, by computation: a tribrid body of 208 allows 5 reactions, a legacy body of 144 allows 3, and a short
-- one 1.
use mathlib.Core.Path.{◌≡◌, refl}
use lib.ListN.{replicate}
use Rattle.event_reactions.specs.Reactions.{largest}

tribrid_208 : largest (replicate 208 0) 4 ≡ 5
tribrid_208 = refl

legacy_144 : largest (replicate 144 0) 8 ≡ 3
legacy_144 = refl

least_1 : largest (replicate 40 0) 8 ≡ 1
least_1 = refl
