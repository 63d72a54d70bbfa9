-- What only private contracts need. For the executable form of the cluster rules: a look back past pairs.
use Rattle.std.specs.Prelude.{ℕ, cond, ◌&&◌, List, [], ◌∷◌, Option, None, Some}
use Rattle.uax29.specs.Clusters.{Item, Test, before_of, after_of}
use Rattle.uax29.specs.declared.clusters.Place.{Place}

-- the characters on the two sides of a place
abbrev pub before : Place → List Item
before p = before_of p.breaks.now p.marks.now p.at

abbrev pub after : Place → List Item
after p = after_of p.breaks.now p.marks.now p.at

-- the class of the nearest
abbrev pub nearest : List Item → Option ℕ
nearest [] = None
nearest (x ∷ xs) = Some x.kind

-- the characters beyond as many pairs as stand nearest
unfoldable pub beyond : Test → List Item → List Item
beyond p [] = []
beyond p (x ∷ []) = x ∷ []
beyond p (x ∷ y ∷ xs) = cond (p x && p y) (beyond p xs) (x ∷ y ∷ xs)
