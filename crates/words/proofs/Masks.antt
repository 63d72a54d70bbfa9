-- "Replace each membership test of the word machine by the list of class names that the rule states. No answer … changes."
use mathlib.Core.Path.{◌≡◌, refl}
use mathlib.Core.Bool.{true}
use lib.ListN.{length}
use Rattle.basics.specs.Sets.{every}
use Rattle.words.specs.Masks.{masks, alike}

-- each of the twelve masks holds the classes that the rule here asks for, and no other class of the list
pub masks_alike : (length masks ≡ 12) × (alike masks ≡ true)
unfolding every masks alike
masks_alike = (refl, refl)
